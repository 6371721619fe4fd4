-- The names that an ordered map keeps.
use Rattle.std.specs.Prelude.{ℕ, ◌≡◌, List, Some, map, Vec}
use Rattle.std.specs.declared.alloc.Global.{Global}
use Rattle.std.specs.BTreeMap.{BTreeMap}
use Rattle.std.specs.Cmp.Lexicographic.{slice_cmp}
use Rattle.std.specs.List.{AllByRecursion}
use Rattle.std.specs.List.Sorted.{IsStrictlySortedBy}
use Rattle.std.specs.Ordering.{nat_cmp}
use Rattle.ssz_types.specs.Lookup.{lookup_name}

-- each key's bytes with the number of its type, in byte order
abbrev pub names_in : BTreeMap (Vec ℕ Global) ℕ → List (List ℕ × ℕ)
names_in m = map (λ entry. (entry.0.items, entry.1)) m.entries

-- in byte order, each name once
abbrev pub IsInOrder : List (List ℕ × ℕ) → Type 0
IsInOrder names = IsStrictlySortedBy (slice_cmp nat_cmp) (map (λ entry. entry.0) names)

-- each name is found for its own number
abbrev pub AreFound : List (List ℕ × ℕ) → Type 0
AreFound names = AllByRecursion (λ entry. lookup_name names entry.0 ≡ Some entry.1) names
