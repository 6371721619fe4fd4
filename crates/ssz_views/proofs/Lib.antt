pub mod Seeing
pub mod Reaching
