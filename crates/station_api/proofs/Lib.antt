pub mod MemoryDisk
pub mod Moments
pub mod Pushed
pub mod StationCalls
pub mod Stop
