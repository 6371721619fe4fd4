-- How many pairs each edit may add: the levels of the index of what it changes, and the pairs of
-- the value that is brought in.
use Rattle.std.specs.Prelude.{ℕ, ◌+◌, ◌-◌, ◌≡◌, [], ◌∷◌, ◌++◌, Option, Some, IsSome}
use Rattle.std.specs.Option.{option_map_or}
use Rattle.ssz_schema.specs.declared.path.PathStep.TheVariants.{Index, Selector}
use Rattle.ssz_schema.specs.Types.{SszType, union}
use Rattle.ssz_schema.specs.Sizes.{depth}
use Rattle.ssz_schema.specs.Paths.{Path, path_type, step_type}
use Rattle.ssz_gindex.specs.Paths.{index_levels}
use Rattle.ssz_value.specs.Values.{SszValue}
use Rattle.ssz_value.specs.Parts.{part}
use Rattle.ssz_value.specs.Pairs.{pairs, option_pairs}
use Rattle.ssz_places.specs.EditLaws.{IsCounted, count_of, element_type}

-- the pairs of a value that is put in, by the type of the part at the path
abbrev pub pairs_at : SszType → Path → (SszType → ℕ) → ℕ
pairs_at t path pairs_in = option_map_or pairs_in (path_type t path) 0

-- how many elements or bits the part at the path has
abbrev pub count_at : SszType → SszValue → Path → ℕ
count_at t v path = option_map_or count_of (part t v path) 0

-- of a set
abbrev pub set_charge : SszType → Path → SszValue → ℕ
set_charge t path new = index_levels t path + pairs_at t path (λ u. pairs u new)

-- of an append, at the element behind the last
abbrev pub append_charge : SszType → SszValue → Path → SszValue → ℕ
append_charge t v path new =
    index_levels t (path ++ Index (count_at t v path) ∷ [])
    + pairs_at t path (λ u. pairs (element_type u) new)

-- of a pop
abbrev pub pop_charge : SszType → SszValue → Path → ℕ
pop_charge t v path = index_levels t (path ++ Index (count_at t v path - 1) ∷ [])

-- the pairs of the value of an option, none for None
abbrev pub choice_pairs : ℕ → Option SszValue → SszType → ℕ
choice_pairs k (Some new) (union os) = option_pairs os k new
choice_pairs _ _ _ = 0

-- of a choose
abbrev pub choose_charge : SszType → Path → ℕ → Option SszValue → ℕ
choose_charge t path k inner =
    index_levels t (path ++ Selector ∷ []) + pairs_at t path (choice_pairs k inner)

-- where the part at a path has this type, and its index has so many levels
pub record IsAtLevel (t : SszType) (path : Path) (u : SszType) (n : ℕ) : Type 0 where
  pub type_at : path_type t path ≡ Some u
  pub levels : index_levels t path ≡ n

-- what the edits below a path are charged: the levels of its index; one level more, and the depth
-- of its content, for an element of a list or bitlist; one more for a selector
pub record ChargesOf (t : SszType) (path : Path) (u : SszType) (n : ℕ) : Type 0 where
  pub element : (i : ℕ) → IsCounted u → IsSome (step_type u (Index i))
      → index_levels t (path ++ Index i ∷ []) ≡ n + 1 + depth u
  pub selector : IsSome (step_type u Selector)
      → index_levels t (path ++ Selector ∷ []) ≡ n + 1

abbrev pub LawOfCharges : Type 0
LawOfCharges =
    (t : SszType) (path : Path) (u : SszType) (n : ℕ) → IsAtLevel t path u n → ChargesOf t path u n
