mod Ending
mod Coming
mod Printing
mod Literals
mod Asked
mod Telling
mod OneLine
pub mod Order
