pub mod Presence
pub mod Mixing
pub mod Stepping
pub mod Walking
pub mod NamedFields
pub mod Ways
