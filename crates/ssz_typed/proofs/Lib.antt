pub mod FieldNames
pub mod PartTypes
pub mod SliceLaw
