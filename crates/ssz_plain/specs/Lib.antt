pub mod Lent
pub mod Told
pub mod Leading
pub mod Making
