pub mod Pairs
pub mod Cutting
pub mod Told
pub mod Asking
pub mod Finishing
pub mod Readable
