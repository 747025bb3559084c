pub mod AnswerLine
pub mod Reading
pub mod ReportLine
