pub mod Answers
pub mod Clearing
pub mod Journal
pub mod Measures
pub mod Reading
pub mod Sides
pub mod Standing
