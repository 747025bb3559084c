pub mod Firsts
pub mod Robots
pub mod Runs
pub mod LateText
