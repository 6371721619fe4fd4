pub mod Strings
pub mod Text
pub mod Laws
pub mod Keeping
pub mod Order
