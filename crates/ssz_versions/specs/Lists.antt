-- Lists of entries.
use Rattle.std.specs.Prelude.{ℕ, cond, ◌==◌, List, [], ◌∷◌}
use Rattle.ssz_arena.specs.declared.node.NodeId.{NodeId}
use Rattle.ssz_versions.specs.Content.{Held}
use Rattle.ssz_versions.specs.Keys.{Key}

-- what one writer holds, under the keys of another one
abbrev pub relabelled : ℕ → ℕ → List (Key × Held) → List (Key × Held)
relabelled from to [] = []
relabelled from to (entry ∷ entries) = cond (entry.0.0 == from)
    (((to, entry.0.1), entry.1) ∷ relabelled from to entries) (relabelled from to entries)

-- the entries with these nodes
abbrev pub entries_moved : List (Key × Held) → List NodeId → List (Key × Held)
entries_moved [] ids = []
entries_moved (entry ∷ entries) [] = []
entries_moved (entry ∷ entries) (id ∷ ids) = (entry.0, (entry.1.0, id)) ∷ entries_moved entries ids
