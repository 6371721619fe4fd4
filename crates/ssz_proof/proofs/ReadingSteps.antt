-- The lists that the words of a text are read as, word by word.
use Rattle.std.proofs.Common.{◌≡◌, ℕ, List, ◌++◌, option_map}
use Rattle.ssz_proof.specs.Calculation.{Known}
use Rattle.ssz_proof.specs.Multiproof.{Multiproof}
use Rattle.ssz_proof.specs.Text.{entries_of_words, lists_of}

-- leaves before those of other lists
abbrev pub with_leaves : Known → Multiproof → Multiproof
with_leaves leaves lists = record { leaves = leaves ++ lists.leaves; nodes = lists.nodes }

-- what is read of all words is that of the words that are left, behind these leaves or nodes
pub record LeavesSoFar (all left : List (List ℕ)) (leaves : Known) : Type 0 where
  pub is : lists_of all ≡ option_map (with_leaves leaves) (lists_of left)

pub record NodesSoFar (all left : List (List ℕ)) (nodes : Known) : Type 0 where
  pub is : entries_of_words all ≡ option_map (λ more. nodes ++ more) (entries_of_words left)
