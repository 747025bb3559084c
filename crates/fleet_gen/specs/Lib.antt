pub mod Words
pub mod Roads
pub mod Draws
pub mod Departures
pub mod Fleets
