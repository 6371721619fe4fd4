pub mod Answers
pub mod SameType
pub mod Taking
pub mod Upgrades
