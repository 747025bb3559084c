pub mod Chains
pub mod Beside
pub mod Ends
