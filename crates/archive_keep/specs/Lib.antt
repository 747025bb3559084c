pub mod Rows
pub mod Storing
pub mod Faults
pub mod Report
pub mod Memory
pub mod Named
