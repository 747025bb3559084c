pub mod Answers
pub mod Entries
pub mod Image
pub mod Opening
pub mod Papers
pub mod Replaying
