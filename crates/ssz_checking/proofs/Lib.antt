pub mod PlainLemmas
pub mod SoundLemmas
pub mod RangeLemmas
pub mod NumberLemmas
pub mod BeforeLemmas
pub mod CleanLemmas
