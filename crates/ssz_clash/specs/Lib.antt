pub mod Clashes
pub mod Walks
pub mod Compared
