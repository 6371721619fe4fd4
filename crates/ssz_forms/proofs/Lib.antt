pub mod Comparing
pub mod Kept
pub mod Taken
pub mod TypesAlike
pub mod Upgrading
