use Rattle.std.proofs.Common.{◌^◌, ◌≤◌, arith}
use Rattle.std.proofs.Math.Nat.{pow-le-pow_right}
use Rattle.ssz_upgrade.proofs.fields.field_node.Goals as goal

pub overflow_add-depth : goal.overflow_add-depth
overflow_add-depth g c =
    let small : 2 ^ c.args.depth ≤ 2 ^ 126 = pow-le-pow_right (omega arith) c.requires.depth in
    omega (arith, small, c.ranges.i.fits)
