pub mod Faults
pub mod Ticks
pub mod Occupants
