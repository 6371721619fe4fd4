pub mod Held
pub mod Reading
pub mod Scene
pub mod Leaving
pub mod Session
pub mod Answering
pub mod Slices
