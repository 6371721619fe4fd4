pub mod Lines
pub mod Words
pub mod Single
pub mod Paths
pub mod Reading
pub mod Parts
pub mod Spelled
pub mod Steps
