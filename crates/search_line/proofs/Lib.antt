pub mod Slots
pub mod Linking
pub mod Growing
pub mod Turning
pub mod Holding
pub mod Climbing
pub mod Deciding
pub mod Reaching
