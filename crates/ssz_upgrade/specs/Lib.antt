pub mod Fields
pub mod Upgraded
