use Rattle.std.proofs.Common.{◌+◌, ◌/◌, length, arith}
use Rattle.ssz_making.proofs.Chunks.{nodes-of_chunks}
use Rattle.ssz_tree.proofs.growing.GrowingMaker.packed.Goals as goal

pub packed_node-requires-clause-room : goal.packed_node-requires-clause-room
packed_node-requires-clause-room g c = omega (
  arith,
  c.requires.room,
  nodes-of_chunks c.args.depth ((length c.args.bytes.now + 31) / 32) c.args.bytes.now,
)
