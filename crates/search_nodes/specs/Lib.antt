pub mod Rooms
pub mod Making
pub mod Kept
pub mod Forcing
pub mod Weighing
