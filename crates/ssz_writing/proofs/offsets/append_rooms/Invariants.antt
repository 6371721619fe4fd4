use Rattle.std.proofs.Common.{◌≡◌, ◌-◌, ◌++◌}
use Rattle.ssz_nodes.specs.Shown.{ExtendsBytes}
use Rattle.ssz_writing.specs.Offsets.{offset_rooms}
use Rattle.ssz_writing.proofs.offsets.append_rooms.Given as goal

abbrev pub invariant-loop-i : goal.invariant-loop-i
invariant-loop-i l =
    ExtendsBytes l.initial.out.items l.out.items
    × (l.out.items ++ offset_rooms (l.count - l._i)
    ≡ l.initial.out.items ++ offset_rooms l.count)
