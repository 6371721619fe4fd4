pub mod Placing
pub mod NodeCounts
pub mod Forms
pub mod BytesForms
pub mod FieldGathering
pub mod Alike
pub mod Chunks
pub mod ValueForms
mod Saturating
mod Tallying
mod Summing
