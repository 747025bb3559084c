pub mod Texts
pub mod Entries
pub mod Headers
pub mod Frames
pub mod Reading
