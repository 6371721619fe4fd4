pub mod Leaves
pub mod Offsets
