pub mod Judgement
pub mod Step
pub mod Preparing
pub mod Switching
pub mod Pushing
