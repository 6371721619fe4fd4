use Rattle.std.proofs.Common.{◌*◌}
use Rattle.ssz_reading.proofs.PackedParts.{BitsLeft-more}
use Rattle.ssz_reading.proofs.packed.read_bits.Goals as goal

pub loop-left-preserved : goal.loop-left-preserved
loop-left-preserved g c = (
  c.next.ensures.nodes,
  λ bs are.
      let more = BitsLeft-more c.args.arena.now bs c.loop-left.left c.min-here.result
      c.loop-left.bits.items c.chunk_of-chunk.result.now.0 c.loop-left.places c.next.new.self
      c.next.result (c.loop-left.invariant.1 bs are) c.loop-left-test.true c.min-here.ensures
      (record { tree = c.next.ensures.tree; rest = c.next.ensures.rest })
      c.chunk_of-chunk.ensures in
      more.next c.append_bits.new.bits.items
      (c.in_ok-append_bits.ensures bs (256 * more.j) more.bits more.within),
)
