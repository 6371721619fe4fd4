-- What is always so of helper indices.
use Rattle.std.specs.Prelude.{ℕ, ◌==◌, ◌≡◌, ◌≢◌, ◌<◌, ◌↔◌, Bool, true, List, [], ◌∷◌, IsSome}
use Rattle.std.specs.List.{list_any, AllByRecursion}
use Rattle.ssz_chunk.specs.Tree.{Tree}
use Rattle.ssz_chunk.specs.Index.{at}
use Rattle.ssz_gindex.specs.Helpers.{is_helper, helpers}

-- each number is above all later ones
abbrev pub IsDescending : List ℕ → Type 0
IsDescending [] = Unit {0}
IsDescending (g ∷ indices) = AllByRecursion (λ k. k < g) indices × IsDescending indices

abbrev pub contains : List ℕ → ℕ → Bool
contains indices g = list_any (λ k. k == g) indices

-- a descending list of all helpers of some indices, and of nothing else
pub record IsListOfHelpers (indices list : List ℕ) : Type 0 where
  pub descends : IsDescending list
  pub exact : (g : ℕ) → contains list g ≡ is_helper indices g

-- the helper indices are such a list, and no other list is
abbrev pub LawOfHelpers : Type 0
LawOfHelpers = (indices list : List ℕ) → IsListOfHelpers indices list ↔ (list ≡ helpers indices)

-- an index at which a tree has a node
pub record IsIn (tree : Tree) (index : ℕ) : Type 0 where
  pub some : index ≢ 0
  pub node : IsSome (at tree index)

-- where each index is in a tree, so is each of their helpers
abbrev pub LawOfHelperNodes : Type 0
LawOfHelperNodes =
    (tree : Tree) (indices : List ℕ) (g : ℕ) → AllByRecursion (IsIn tree) indices
    → is_helper indices g ≡ true → IsSome (at tree g)
