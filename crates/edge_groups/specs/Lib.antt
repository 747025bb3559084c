pub mod Mates
pub mod Names
pub mod Ranks
pub mod Finding
pub mod Naming
pub mod Kept
pub mod Packing
