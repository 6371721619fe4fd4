pub mod Endians
pub mod BitLemmas
pub mod LastByte
pub mod PutLemmas
