pub mod Weighing
pub mod Picking
pub mod Walking
pub mod Sharing
pub mod Upgraded
