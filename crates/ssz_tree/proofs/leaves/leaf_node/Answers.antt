use Rattle.std.proofs.Common.{◌≡◌, ◌∙◌, sym, subst}
use Rattle.std.proofs.lemmas.Slice.Eq.{bytes_eq-Decides}
use Rattle.ssz_chunk.specs.Chunk.{zero_chunk}
use Rattle.ssz_making.specs.Parts.{chunk_part}
use Rattle.ssz_tree.specs.Added.{MakesNode}
use Rattle.ssz_tree.proofs.Adding.{makes_leaf, makes_zero}
use Rattle.ssz_tree.proofs.leaves.leaf_node.Goals as goal

pub returns-then-is_zero : goal.returns-then-is_zero
returns-then-is_zero g c =
    let e = c.zero.ensures in
    let zero : c.args.chunk.now.0 ≡ zero_chunk =
    (bytes_eq-Decides c.args.chunk.now.0 zero_chunk).0 (sym c.is_zero.ensures ∙ c.if-is_zero.true)
    in
    subst (λ bytes. MakesNode c.args.arena.now c.args.arena.now (chunk_part bytes) c.zero.result)
    (sym zero) (makes_zero c.args.arena.now c.zero.result e.node e.tree e.todo)

pub returns : goal.returns
returns g c =
    let e = c.leaf.ensures in
    makes_leaf _ _ _ _ e.node e.tree e.todo e.keeps e.same e.unhashed e.count e.spare
