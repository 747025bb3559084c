pub mod Candidates
pub mod Choices
pub mod Searching
pub mod Writing
