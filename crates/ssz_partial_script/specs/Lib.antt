pub mod Statements
pub mod Plays
pub mod Runs
pub mod Laws
