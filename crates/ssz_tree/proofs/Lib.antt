pub mod Adding
pub mod Blocks
pub mod Holding
pub mod Carrying
pub mod Gathering
pub mod GivenGathering
pub mod FewNodes
pub mod Chunks
pub mod Copies
pub mod Zeros
pub mod DefaultForms
pub mod Sharing
pub mod FieldPieces
pub mod GivenFields
mod Rooms
mod Two
