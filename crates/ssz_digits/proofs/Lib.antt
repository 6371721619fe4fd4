pub mod HexDigits
pub mod Spreading
