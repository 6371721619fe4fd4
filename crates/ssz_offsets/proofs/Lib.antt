pub mod FourBytes
pub mod Patches
