pub mod AnswerLines
pub mod Appending
pub mod Numbers
pub mod OneAnswer
pub mod PlainLines
pub mod ReportLines
pub mod Spelling
pub mod Stopping
