use Rattle.std.proofs.Common.{◌≡◌, ◌-◌, ◌*◌, None, replicate}
use Rattle.ssz_value.specs.Faults.{later_fault, head_fault}
use Rattle.ssz_parts.proofs.heads.offsets_fault.Given as goal

abbrev pub invariant-loop-i : goal.invariant-loop-i
invariant-loop-i l = later_fault (replicate (l.count - l.i) None) (4 * l.i) l.before l.start l.bytes
    ≡ head_fault (replicate l.count None) l.start l.bytes
