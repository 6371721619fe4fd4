-- Helper indices: the nodes beside the paths to some indices (merkle-proofs.md, Merkle
-- multiproofs).
use Rattle.std.specs.Prelude.{ℕ, zero, suc, ◌+◌, ◌-◌, ◌/◌, ◌%◌, ◌^◌, ◌≤◌, ◌==◌, ◌&&◌, ◌≢◌, nat_le, not, max, if◌then◌else◌, Bool, List, [], ◌∷◌, filter, Contains, IsTrue}
use Rattle.std.specs.List.{list_any}
use Rattle.ssz_chunk.specs.Index.{levels}

-- the other child of its parent: generalized_index_sibling
abbrev pub sibling : ℕ → ℕ
sibling g = if g % 2 == 0 then g + 1 else g - 1

-- the second is the first, or below it
abbrev pub is_within : ℕ → ℕ → Bool
is_within a g = nat_le (levels a) (levels g) && (g / 2 ^ (levels g - levels a) == a)

-- one of the indices, or an ancestor of one: get_path_indices of all
abbrev pub is_on_paths : List ℕ → ℕ → Bool
is_on_paths indices g = list_any (is_within g) indices

-- on no path, while its sibling is: get_branch_indices of all, without get_path_indices of all
abbrev pub is_helper : List ℕ → ℕ → Bool
is_helper indices g = nat_le 2 g && not (is_on_paths indices g) && is_on_paths indices (sibling g)

-- the numbers below n, in descending order
unfoldable pub descending : ℕ → List ℕ
descending zero = []
descending (suc n) = n ∷ descending n

abbrev pub greatest : List ℕ → ℕ
greatest [] = 0
greatest (g ∷ indices) = max g (greatest indices)

-- the helper indices of a set, in descending order: get_helper_indices
abbrev pub helpers : List ℕ → List ℕ
helpers indices = filter (is_helper indices) (descending (greatest indices + 2))

-- two of the indices, of which the first is an ancestor of the second
pub record AreNested (indices : List ℕ) (a b : ℕ) : Type 0 where
  pub upper : Contains indices a
  pub lower : Contains indices b
  pub within : IsTrue (is_within a b)
  pub apart : a ≢ b

-- no index is an ancestor of another
abbrev pub AreFlat : List ℕ → Type 0
AreFlat indices = (a b : ℕ) → AreNested indices a b → ⊥

-- the greatest index that is an ancestor of another, and the greatest of those below it
pub record AreGreatestNested (indices : List ℕ) (a b : ℕ) : Type 0 where
  pub nested : AreNested indices a b
  pub upper : (c d : ℕ) → AreNested indices c d → c ≤ a
  pub lower : (d : ℕ) → AreNested indices a d → d ≤ b
