pub mod Reading
pub mod CommandSet
pub mod Values
pub mod Words
pub mod Limits
pub mod Laws
