use Rattle.ssz_upgrade.proofs.Walking.{FieldsSoFar}
use Rattle.ssz_upgrade.proofs.fields.field_nodes.Given as goal

abbrev pub invariant-loop-i : goal.invariant-loop-i
invariant-loop-i g l = FieldsSoFar l.arena l.node l.depth l.count l.i l.nodes.items
