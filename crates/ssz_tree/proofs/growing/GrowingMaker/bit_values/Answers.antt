use Rattle.std.proofs.Common.{arith}
use Rattle.ssz_making.proofs.ValueForms.{bits-nodes}
use Rattle.ssz_tree.proofs.growing.GrowingMaker.bit_values.Goals as goal

pub bit_values_node-requires-clause-room : goal.bit_values_node-requires-clause-room
bit_values_node-requires-clause-room g c = omega (
  arith,
  c.requires.room,
  bits-nodes c.args.depth c.args.bits.now,
)
