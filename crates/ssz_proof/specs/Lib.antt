pub mod Calculation
pub mod Multiproof
pub mod Rows
pub mod Text
pub mod Judgement
pub mod Laws
pub mod Descent
pub mod Changes
