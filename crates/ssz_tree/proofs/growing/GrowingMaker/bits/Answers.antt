use Rattle.std.proofs.Common.{◌+◌, ◌/◌, arith}
use Rattle.ssz_packing.specs.Bits.{undelimited}
use Rattle.ssz_making.proofs.Chunks.{nodes-of_chunks}
use Rattle.ssz_tree.proofs.growing.GrowingMaker.bits.Goals as goal

pub bits_node-requires-clause-room : goal.bits_node-requires-clause-room
bits_node-requires-clause-room g c = omega (
  arith,
  c.requires.room,
  nodes-of_chunks c.args.depth ((c.args.len + 255) / 256) (undelimited c.args.bytes.now),
)
