pub mod Numbers
pub mod Results
pub mod Bits
pub mod Delimiters
