pub mod Comments
pub mod OneLineLemmas
pub mod Shapes
pub mod TextsLemmas
