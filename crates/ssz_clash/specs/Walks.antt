-- What a walk down two proofs finds: for contracts of private functions.
use Rattle.std.specs.Prelude.{◌≡◌, ◌≢◌, ℕ, IsTrue, Option, Some, None}
use Rattle.ssz_chunk.specs.declared.Chunk.{Chunk}
use Rattle.ssz_gindex.specs.Helpers.{is_within}
use Rattle.ssz_proof.specs.Calculation.{PairOf}
use Rattle.ssz_proof.specs.Multiproof.{Multiproof}
use Rattle.ssz_clash.specs.Clashes.{IsClash, IsNotBehind, pair_at, pair_bytes}
use Rattle.ssz_clash.specs.declared.walk.Pairs.{Pairs}

-- the chunks of a place are the same, and the pairs below it are not
abbrev pub AreClashing : Chunk → Chunk → Pairs → Type 0
AreClashing a b pairs = (a ≡ b) × (pairs.first ≢ pairs.second)

-- the first that is there
abbrev pub pick_pairs : Option Pairs → Option Pairs → Option Pairs → Option Pairs
pick_pairs (Some here) left right = Some here
pick_pairs None (Some found) right = Some found
pick_pairs None None right = right

-- the first clash in preorder at or below an index, with both pairs
pub record IsFirstBelow (pair_of : PairOf) (one other : Multiproof) (i : ℕ) (found : Pairs)
    : Type 0 where
  pub within : IsTrue (is_within i found.index)
  pub clash : IsClash pair_of one other found.index
  pub least : (h : ℕ) → IsTrue (is_within i h) → IsClash pair_of one other h
      → IsNotBehind found.index h
  pub pair_of_one : pair_bytes found.first ≡ pair_at pair_of one found.index
  pub pair_of_other : pair_bytes found.second ≡ pair_at pair_of other found.index

-- it, or there is none
abbrev pub IsFirstWithin : PairOf → Multiproof → Multiproof → ℕ → Option Pairs → Type 0
IsFirstWithin pair_of one other i None =
    (h : ℕ) → IsTrue (is_within i h) → IsClash pair_of one other h → ⊥
IsFirstWithin pair_of one other i (Some found) = IsFirstBelow pair_of one other i found
