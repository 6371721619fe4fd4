-- What a tree of entries is seen as: its entries from left to right.
use Rattle.std.specs.Prelude.{List, [], ◌∷◌, ◌++◌, not}
use Rattle.std.specs.FinMap.Entries.{where_key}
use Rattle.std.specs.Ordering.{eq_by_cmp}
use Rattle.ssz_versions.specs.Content.{Held}
use Rattle.ssz_versions.specs.Keys.{Key, key_cmp}
use Rattle.ssz_versions.specs.declared.tree.Cell.{Cell}
use Rattle.ssz_versions.specs.declared.tree.Cell.TheVariants.{Blank, Full}
use Rattle.ssz_versions.specs.declared.tree.Fork.{Fork}
use Rattle.ssz_versions.specs.declared.tree.Top.{Top}
use Rattle.ssz_versions.specs.declared.tree.Top.TheVariants.{Empty, Held as held}

-- the entries to the left, the entry, and those to the right
abbrev pub in_fork : Fork → List (Key × Held)
in_fork fork = fork.left ++ fork.entry ∷ fork.right

abbrev pub in_cell : Cell → List (Key × Held)
in_cell Blank = []
in_cell (Full fork) = in_fork fork

abbrev pub entries_of : Top → List (Key × Held)
entries_of Empty = []
entries_of (held room) = in_cell room.value

-- the entries of other keys
abbrev pub without : Key → List (Key × Held) → List (Key × Held)
without key = where_key key_cmp (λ k. not (eq_by_cmp key_cmp key k))
