pub mod Packing
pub mod RowChunks
pub mod Halves
pub mod Pieces
pub mod Cutting
pub mod Alike
pub mod Lanes
pub mod Rooted
pub mod Gathering
pub mod ElementRows
pub mod Arms
mod PushedRoots
