pub mod Steps
pub mod Traffic
