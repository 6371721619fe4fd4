pub mod Alike
pub mod Forms
pub mod Steps
pub mod Made
pub mod Endings
pub mod Changed
pub mod Parting
