pub mod Lists
pub mod Ranges
pub mod Points
pub mod Classes
pub mod Counting
pub mod Cells
pub mod Robots
pub mod Pairing
