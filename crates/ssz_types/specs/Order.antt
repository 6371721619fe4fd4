-- The order in which JSON texts have the fields of a container (this project's).
use Rattle.std.specs.Prelude.{ℕ, ◌+◌, List, [], ◌∷◌, map, get_or}
use Rattle.std.specs.BTreeMap.{insert_entry}
use Rattle.std.specs.Cmp.Lexicographic.{slice_cmp}
use Rattle.std.specs.Ordering.{nat_cmp}
use Rattle.ssz_types.specs.Types.{SszType, container}
use Rattle.ssz_types.specs.Legal.{field_names}

-- the names in byte order, each with its number; the first has this number
unfoldable pub order_from : ℕ → List (List ℕ) → List (List ℕ × ℕ)
order_from n [] = []
order_from n (name ∷ names) = insert_entry (slice_cmp nat_cmp) (order_from (n + 1) names) name n

-- the numbers of the names in byte order of these
abbrev pub name_order : List (List ℕ) → List ℕ
name_order names = map (λ e. e.1) (order_from 0 names)

-- these numbers, each behind its name
abbrev pub with_names : List (List ℕ) → List ℕ → List (List ℕ × ℕ)
with_names names numbers = map (λ n. (get_or names n [], n)) numbers

-- the numbers of a container's fields in byte order of their names; no other type has fields
abbrev pub field_order : SszType → List ℕ
field_order (container fs) = name_order (field_names fs)
field_order _ = []
