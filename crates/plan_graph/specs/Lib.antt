pub mod Limits
pub mod Views
pub mod Ranks
pub mod Listing
pub mod Working
pub mod Rooms
