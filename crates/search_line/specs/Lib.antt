pub mod Lines
pub mod Nodes
pub mod Turns
pub mod KeptLine
pub mod Going
