pub mod Lengths
pub mod Marked
pub mod Rooms
pub mod Leafed
pub mod Written
pub mod FieldsWritten
pub mod Listed
pub mod RowsWritten
