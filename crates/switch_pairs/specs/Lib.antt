pub mod Stops
pub mod Found
