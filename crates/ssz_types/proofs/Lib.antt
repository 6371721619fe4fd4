pub mod DepthLemmas
pub mod WidthLemmas
pub mod BasicLemmas
pub mod NameLemmas
pub mod RepeatLemmas
pub mod OrderLemmas
pub mod PlaceLemmas
pub mod DistinctLemmas
