pub mod Bytes
pub mod ByteLaws
pub mod Faults
pub mod Forms
