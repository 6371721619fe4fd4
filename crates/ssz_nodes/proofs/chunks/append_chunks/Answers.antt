use Rattle.std.proofs.Common.{◌++◌, ap, ◌∙◌}
use Rattle.ssz_arena.specs.Content.{tree_of}
use Rattle.ssz_nodes.proofs.Chunked.{LastChunk, first_chunk, on_ok}
use Rattle.ssz_nodes.proofs.chunks.append_chunks.Goals as goal

pub returns-then-len-le32-clause-bytes : goal.returns-then-len-le32-clause-bytes
returns-then-len-le32-clause-bytes g c = λ bytes are.
    let only : LastChunk (tree_of c.args.arena.now c.node_of_place-first.result) bytes c.args.len =
    first_chunk bytes c.args.len c.args.top.depth (tree_of c.args.arena.now c.args.top.node)
    (tree_of c.args.arena.now c.node_of_place-first.result) are c.if-len-le32.true
    c.node_of_place-first.ensures.tree in
    on_ok c.append_leaf.result
    (λ is. is ∙ ap (λ xs. c.args.out.now.items ++ xs) only.same)
    (c.append_leaf.ensures.bytes only.chunk only.is)
