pub mod Arguments
pub mod Commands
pub mod Grammar
pub mod Telling
