use Rattle.std.proofs.Common.{◌∙◌, sym, ap}
use Rattle.std.proofs.lemmas.List.{take-append-le}
use Rattle.ssz_chunk.specs.Chunk.{zero_chunk}
use Rattle.ssz_making.specs.Parts.{chunk_part}
use Rattle.ssz_tree.proofs.Adding.{Makes-same}
use Rattle.ssz_tree.proofs.leaves.front_node.Goals as goal

pub returns-in-Some : goal.returns-in-Some
returns-in-Some g c = let h = c.in-Some.ensures.cases in
    Makes-same _ _ _ _ _ (ap chunk_part (h.same
    ∙ sym (take-append-le 32 c.args.bytes.now zero_chunk h.enough)))
    c.leaf_node.ensures
