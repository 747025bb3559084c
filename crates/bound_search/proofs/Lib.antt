pub mod Refining
pub mod Places
pub mod Walks
pub mod Steps
pub mod Standing
pub mod Ends
