pub mod Parts
pub mod Nodes
pub mod Making
pub mod Tallies
