-- What a tree map with text keys and byte vectors is seen as.
use Rattle.std.specs.Prelude.{ℕ, List, map, option_map, string_bytes, String, Vec}
use Rattle.std.specs.declared.option.Option.{Option}
use Rattle.std.specs.BTreeMap as tree
use Rattle.std.specs.FinMap as finite
use Rattle.std.specs.declared.alloc.Global.{Global}
use Rattle.ssz_outside.specs.Content.{NamedBytes}

-- the entries of a tree map from texts to byte vectors, in the order of its keys
abbrev pub StoredEntries : Type 0
StoredEntries = List (String Global × Vec ℕ Global)

-- a tree map from texts to byte vectors
abbrev pub ByText : Type 0
ByText = tree.BTreeMap (String Global) (Vec ℕ Global)

-- each entry's key and value as bytes
abbrev pub stored_pairs : StoredEntries → List (List ℕ × List ℕ)
stored_pairs entries = map (λ e. (string_bytes e.0, e.1.items)) entries

-- the finite map from names to bytes
abbrev pub named_of : ByText → NamedBytes
named_of m = finite.from_entries (stored_pairs m.entries)

-- the bytes of a vector, where there is one
abbrev pub items_of : Option (Vec ℕ Global) → Option (List ℕ)
items_of found = option_map (λ v. v.items) found
