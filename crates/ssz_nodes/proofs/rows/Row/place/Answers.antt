use Rattle.std.proofs.Common.{◌≤◌, ◌^◌, arith}
use Rattle.std.proofs.Math.Nat.{pow-le-pow_right}
use Rattle.ssz_nodes.proofs.rows.Row.place.Goals as goal

pub returns-clause-tree : goal.returns-clause-tree
returns-clause-tree g c = λ trees inside is.
    let near : c.args.top.depth ≤ 3 = omega (arith, c.if-top-gt-NEAR_DEPTH.false) in
    let few : 2 ^ c.args.top.depth ≤ 2 ^ 3 = pow-le-pow_right (omega arith) near in
    let none : ⊥ = omega (arith, few, inside, c.if-i-lt-NEAR.false) in
    absurd none
