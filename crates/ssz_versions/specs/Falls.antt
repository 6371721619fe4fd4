-- The entries to each side of an entry are fewer than those of the tree.
use Rattle.std.specs.Prelude.{◌≤◌, max, ◌∷◌, length}
use Rattle.std.proofs.Common.{arith, length-append}
use Rattle.ssz_versions.specs.declared.tree.Cell.{Cell}
use Rattle.ssz_versions.specs.declared.tree.Cell.TheVariants.{Blank, Full}
use Rattle.ssz_versions.specs.declared.tree.Top.{Top}
use Rattle.ssz_versions.specs.declared.tree.Top.TheVariants.{Empty, Held}
use Rattle.ssz_versions.specs.declared.tree.Tree.TheDeep.{deep-Cell, deep-Top}
use Rattle.ssz_versions.specs.Trees.{in_cell, entries_of}

falls_in : (cell : Cell) → max (deep-Cell cell) 0 ≤ length (in_cell cell)
falls_in Blank = omega arith
falls_in (Full fork) = omega (arith, length-append fork.left (fork.entry ∷ fork.right))

pub falls : (top : Top) → max (deep-Top top) 0 ≤ length (entries_of top)
falls Empty = omega arith
falls (Held room) = omega (arith, falls_in room.value)
