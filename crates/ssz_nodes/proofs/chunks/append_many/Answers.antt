use Rattle.std.proofs.Common.{◌≡◌, ◌≤◌, ◌<◌, ◌*◌, ◌++◌, take, length, ap, ◌∙◌, arith}
use Rattle.std.proofs.lemmas.List.{length-take-le}
use Rattle.ssz_arena.specs.Content.{tree_of}
use Rattle.ssz_nodes.proofs.Chunked.{BytesLeft-row, ChunkRow, chunk_row, LastChunk, BytesLeft-last, Extends-trans, on_ok}
use Rattle.ssz_nodes.proofs.chunks.append_many.Goals as goal

pub loop-left-preserved : goal.loop-left-preserved
loop-left-preserved g c =
    let few : 32 * c.min-chunks.result ≤ c.loop-left.left =
    omega (arith, c.min-chunks.ensures, c.min-most.ensures) in
    let some : 0 < c.min-chunks.result =
    omega (
      arith,
      c.min-chunks.ensures,
      c.min-most.ensures,
      c.loop-left-test.true,
      c.row-row.ensures.some,
    ) in
    let within : c.min-chunks.result ≤ length c.row-row.result.now =
    omega (arith, c.min-chunks.ensures) in
    let many : length (take c.min-chunks.result c.row-row.result.now) ≡ c.min-chunks.result =
    length-take-le c.min-chunks.result c.row-row.result.now within in (
      c.skip.ensures.nodes c.args.arena.now c.refill.ensures.nodes,
      Extends-trans c.args.out.now.items c.loop-left.out.items c.append_row.new.out.items
          c.loop-left.invariant.1 c.append_row.ensures.kept,
      omega (arith, c.loop-left.invariant.2, c.in_ok-append_row.ensures.long, many, few),
      λ bytes are.
          let h = c.loop-left.invariant.3 bytes are in
          let all : 32 * c.min-chunks.result ≤ length h.rest = omega (arith, few, h.many) in
          let chunks : ChunkRow c.args.arena.now h.rest c.min-chunks.result c.row-row.result.now
          c.skip.new.self =
          chunk_row c.args.arena.now h.rest c.min-chunks.result c.row-row.result.now
          c.refill.new.self c.skip.new.self (c.refill.ensures.holds _ h.holds) some within all
          (record {
            trees = λ trees. c.row-row.ensures.trees c.args.arena.now trees
                c.refill.ensures.filled;
            few = λ trees. c.row-row.ensures.few c.args.arena.now trees c.refill.ensures.filled;
            rest = c.skip.ensures.rest c.args.arena.now;
          }) in
          BytesLeft-row c.args.arena.now bytes c.args.out.now.items c.loop-left.left
          c.min-chunks.result c.loop-left.out.items c.append_row.new.out.items
          c.loop-left.places c.skip.new.self c.row-row.result.now h few chunks
          (c.in_ok-append_row.ensures.bytes h.rest 0 chunks.are (omega (arith, all, many))
          ∙ ap (λ n. c.loop-left.out.items ++ take (32 * n) h.rest) many),
    )

pub returns-clause-bytes : goal.returns-clause-bytes
returns-clause-bytes g c = λ bytes are.
    let so_far = c.loop-left.invariant.3 bytes are in
    let last : LastChunk (tree_of c.args.arena.now c.next.result) so_far.rest c.loop-left.left =
    BytesLeft-last c.args.arena.now bytes c.args.out.now.items c.loop-left.left
    c.loop-left.out.items c.loop-left.places c.next.new.self c.next.result so_far
    (omega (arith, c.if-left-eq0.false)) (omega (arith, c.loop-left-test.false))
    (record { tree = c.next.ensures.tree; rest = c.next.ensures.rest }) in
    on_ok c.append_leaf.result
    (λ is. is ∙ ap (λ xs. c.loop-left.out.items ++ xs) last.same ∙ so_far.all)
    (c.append_leaf.ensures.bytes last.chunk last.is)
