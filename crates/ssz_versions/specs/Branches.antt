-- An entry between those of two trees.
use Rattle.std.specs.Prelude.{◌≡◌, ℕ, List, ◌∷◌, ◌++◌}
use Rattle.std.specs.declared.cmp.Ordering.TheVariants.{Equal}
use Rattle.ssz_versions.specs.Content.{Held}
use Rattle.ssz_versions.specs.Keys.{Key, key_cmp}
use Rattle.ssz_versions.specs.declared.tree.Branch.{Branch}
use Rattle.ssz_versions.specs.declared.tree.Cell.TheVariants.{Full}
use Rattle.ssz_versions.specs.declared.tree.Top.{Top}
use Rattle.ssz_versions.specs.declared.tree.Top.TheVariants.{Empty, Held as held}

-- the entries to the left, the entry, and those to the right
abbrev pub in_branch : Branch → List (Key × Held)
in_branch branch = branch.left ++ branch.entry ∷ branch.right

-- the entries are as before, with the one of the key between the others
abbrev pub IsRaised : Key → List (Key × Held) → Branch → Type 0
IsRaised key row branch = (row ≡ in_branch branch) × (key_cmp key branch.entry.0 ≡ Equal)

-- the uppermost entry is that of the branch, and the sides are those of the branch
abbrev pub IsTopOf : Branch → Top → Type 0
IsTopOf branch Empty = ⊥
IsTopOf branch (held room) =
    (height : ℕ) × (room.value ≡ Full (record {
      left = branch.left;
      entry = branch.entry;
      height = height;
      right = branch.right;
    }))
