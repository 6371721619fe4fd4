-- What becomes of a tree of which a part was lent.
use Rattle.std.specs.Prelude.{◌≡◌, List, ◌∷◌, ◌++◌, Option, OnSome, T}
use Rattle.std.specs.Borrow.{LendsIf, LendsSo, MutBor, Fml}
use Rattle.std.specs.FinMap.Entries.{is_sorted}
use Rattle.ssz_arena.specs.declared.node.NodeId.{NodeId}
use Rattle.ssz_arena.specs.contracts.node.NodeId as node
use Rattle.ssz_versions.specs.Content.{Held}
use Rattle.ssz_versions.specs.Keys.{Key, key_cmp}
use Rattle.ssz_versions.specs.declared.tree.Branch.{Branch}
use Rattle.ssz_versions.specs.declared.tree.Cell.{Cell}
use Rattle.ssz_versions.specs.declared.tree.Cell.TheVariants.{Blank, Full}
use Rattle.ssz_versions.specs.declared.tree.Fork.{Fork}
use Rattle.ssz_versions.specs.contracts.tree.Cell as cell
use Rattle.ssz_versions.specs.contracts.tree.Fork as fork
use Rattle.ssz_versions.specs.contracts.tree.Tree as tree

abbrev pub LendsFork : MutBor Cell → Option (MutBor Fork) → Fml
LendsFork c lent = LendsIf cell.the_row fork.the_row c lent Full Blank

-- the entries of the branch, with another node
abbrev pub with_node : Branch → NodeId → List (Key × Held)
with_node branch id = branch.left ++ (branch.entry.0, (branch.entry.1.0, id)) ∷ branch.right

-- entries in the order of their keys stay so
abbrev pub StaysOrdered : List (Key × Held) → List (Key × Held) → Type 0
StaysOrdered old new = T (is_sorted key_cmp old) → T (is_sorted key_cmp new)

abbrev pub LendsNodeOf : MutBor (List (Key × Held)) → Branch → Option (MutBor NodeId) → Fml
LendsNodeOf t branch lent =
    LendsSo tree.the_row node.the_row t lent
    (λ new id. OnSome lent (new ≡ with_node branch id)) (StaysOrdered t.now)
