pub mod WordsLemmas
pub mod SplitLemmas
pub mod ReadAll
pub mod Comments
pub mod FileLemmas
pub mod LinesLemmas
pub mod LinesLength
