use Rattle.std.proofs.Common.{take, ap, ◌∙◌}
use Rattle.ssz_arena.specs.Content.{tree_of}
use Rattle.ssz_nodes.proofs.Chunked.{LastChunk, first_chunk}
use Rattle.ssz_nodes.proofs.chunks.few_bytes.Goals as goal

pub returns : goal.returns
returns g c = λ bytes are.
    let only : LastChunk (tree_of c.args.arena.now c.node_of_place-first.result) bytes c.args.len =
    first_chunk bytes c.args.len c.args.top.depth (tree_of c.args.arena.now c.args.top.node)
    (tree_of c.args.arena.now c.node_of_place-first.result) are c.requires.few
    c.node_of_place-first.ensures.tree in
    ap (take c.args.len) (c.chunk_of-chunk.ensures only.chunk only.is) ∙ only.same
