pub mod Releasing
