pub mod Agreeing
pub mod Ascending
pub mod CorridorMates
pub mod RankLaws
pub mod Rows
pub mod Spreading
pub mod Placing
