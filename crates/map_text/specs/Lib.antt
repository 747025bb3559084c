pub mod MapText
pub mod MapFaults
pub mod RowFaults
pub mod ScenText
pub mod ScenFaults
pub mod TaskLines
