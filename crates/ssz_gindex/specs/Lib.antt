pub mod Helpers
pub mod Laws
pub mod Walk
pub mod Faults
pub mod Paths
