-- A part put in its place, from an arena to one that has more nodes.
use Rattle.std.proofs.Common.{◌≡◌, ℕ, ◌+◌, ◌≤◌, sym, ap, ap₂, subst, ◌∙◌, Some, None, Result, Err, arith}
use Rattle.std.specs.Prelude.{IsOk, is_ok}
use Rattle.std.proofs.lemmas.Bool.{false≢true}
use Rattle.std.proofs.lemmas.Option.{none-some}
use Rattle.ssz_chunk.specs.Tree.{Tree}
use Rattle.ssz_chunk.specs.Index.{at, put, levels}
use Rattle.ssz_arena.specs.declared.node.NodeId.{NodeId}
use Rattle.ssz_arena.specs.Content.{ArenaContent, tree_of, todo, IsNodeOf, KeepsNodes}
use Rattle.ssz_tree.specs.Added.{AddsNodes, IsPartNode}
use Rattle.ssz_making.specs.Parts.{MadePart}
use Rattle.ssz_tree.proofs.Adding.{Adds-none, Adds-within}
use Rattle.ssz_edit.specs.Edited.{IsPut}

-- an error is no answer
pub not_ok : {X E : Type 0} (r : Result X E) (e : E) → r ≡ Err e → IsOk r → ⊥
not_ok r e is ok = false≢true (sym (ap is_ok is) ∙ ok)

-- nothing was added
pub adds_nothing : (nodes pairs : ℕ) (old new : ArenaContent) → new ≡ old
    → AddsNodes nodes pairs old new
adds_nothing nodes pairs old new same =
    subst (λ a. AddsNodes nodes pairs old a) (sym same)
    (Adds-within 0 0 nodes pairs old old (Adds-none old) (omega arith) (omega arith))

-- a node that was there
module _ (old new : ArenaContent) (keeps : KeepsNodes old new) (node : NodeId)
    (known : IsNodeOf old node)
  where
    -- has an index where it had it
    pub index_there : {X : Type 0} (index : ℕ) (found : Tree)
        → at (tree_of old node) index ≡ Some found → at (tree_of new node) index ≡ None → X
    index_there index found is none = absurd (none-some found
        (sym none ∙ ap (λ t. at t index) (keeps.trees node known) ∙ is))

    -- and with a part put there
    pub put_made : (index : ℕ) (other : MadePart) (part made : NodeId) → IsPartNode new other part
        → (last : ArenaContent) → IsNodeOf last made
        → put (tree_of new node) index (tree_of new part) ≡ Some (tree_of last made)
        → todo last made ≤ todo new node + levels index + todo new part
        → IsPut old last node index other made
    put_made index other part made is last there tree due = record {
      known = there;
      is = ap₂ (λ t o. put t index o) (sym (keeps.trees node known)) (sym is.tree) ∙ tree;
      due = omega (arith, due, is.todo, keeps.todo node known);
    }
