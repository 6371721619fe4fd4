-- A walk up the paths to some indices, pair by pair in descending order, which comes by each
-- helper. The contracts of this crate's private functions alone speak of it.
use Rattle.std.specs.Prelude.{ℕ, ◌+◌, ◌/◌, ◌%◌, ◌≡◌, ◌<◌, ◌≤◌, ◌++◌, true, List, [], ◌∷◌}
use Rattle.ssz_gindex.specs.declared.walk.Step.{Step}
use Rattle.ssz_gindex.specs.declared.walk.Step.TheVariants.{Helper, Root, Nested}
use Rattle.ssz_gindex.specs.Helpers.{is_on_paths, is_helper, helpers, AreNested, AreFlat}
use Rattle.ssz_gindex.specs.Laws.{IsDescending, contains}

-- the number at the front of a list, 0 where there is none
abbrev pub first : List ℕ → ℕ
first [] = 0
first (k ∷ rest) = k

-- the parent of a node on the paths that was met
pub record IsMetParent (indices : List ℕ) (bound k : ℕ) : Type 0 where
  pub below : k < bound
  pub child : ℕ
  pub large : 2 ≤ child
  pub on : is_on_paths indices child ≡ true
  pub met : bound ≤ child
  pub half : child / 2 ≡ k

-- all pairs from the bound on were met: the indices and the parents that are still to be met wait
-- in descending order, those helpers were found, and no nested indices
pub record Met (indices waiting parents found : List ℕ) (bound : ℕ) : Type 0 where
  pub even : bound % 2 ≡ 0
  pub positive : (k : ℕ) → contains indices k ≡ true → 0 < k
  pub falls : IsDescending waiting
  pub index : (k : ℕ) → contains waiting k ≡ true → (k < bound) × (contains indices k ≡ true)
  pub index_waits : (k : ℕ) → contains indices k ≡ true → k < bound → contains waiting k ≡ true
  pub parents_fall : IsDescending parents
  pub parent : (k : ℕ) → contains parents k ≡ true → IsMetParent indices bound k
  pub parent_waits : (k : ℕ) → is_on_paths indices k ≡ true → bound ≤ k → 2 ≤ k → k / 2 < bound
      → contains parents (k / 2) ≡ true
  pub flat : (a b : ℕ) → AreNested indices a b → a < bound
  pub down : IsDescending found
  pub helper : (k : ℕ) → contains found k ≡ true → (bound ≤ k) × (is_helper indices k ≡ true)
  pub all : (k : ℕ) → is_helper indices k ≡ true → bound ≤ k → contains found k ≡ true

-- a walk in which these indices and parents wait, and which has found these helpers
abbrev pub WalksHelpers : List ℕ → List ℕ → List ℕ → List ℕ → Type 0
WalksHelpers indices waiting parents found =
    (bound : ℕ) × Met indices waiting parents found bound

-- the greatest index that is an ancestor of another
pub record IsUpper (indices : List ℕ) (a : ℕ) : Type 0 where
  pub nested : (b : ℕ) × AreNested indices a b
  pub greatest : (c d : ℕ) → AreNested indices c d → c ≤ a

-- the walk comes to one more helper, to its end, or to an index that is an ancestor of another
abbrev pub WalkReaches : List ℕ → List ℕ → List ℕ → List ℕ → Step → Type 0
WalkReaches indices found waiting parents (Helper helper) =
    WalksHelpers indices waiting parents (found ++ helper ∷ [])
WalkReaches indices found waiting parents Root = (found ≡ helpers indices) × AreFlat indices
WalkReaches indices found waiting parents (Nested a) = IsUpper indices a

abbrev pub total : List ℕ → ℕ
total [] = 0
total (k ∷ rest) = k + total rest

-- the sum of all that wait
abbrev pub height : List ℕ → List ℕ → ℕ
height waiting parents = total waiting + total parents

-- where it comes to a helper, less is left of it
abbrev pub GoesUp : ℕ → ℕ → Step → Type 0
GoesUp old new (Helper helper) = new < old
GoesUp old new _ = Unit {0}
