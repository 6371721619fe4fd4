pub mod Items
pub mod Fields
pub mod Options
pub mod Pairs
pub mod Objects
pub mod Answering
pub mod Json
pub mod Adding
