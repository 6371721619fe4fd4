use Rattle.std.proofs.Common.{◌≤◌, ◌^◌, arith}
use Rattle.ssz_types.specs.Sizes.{depth_of}
use Rattle.ssz_types.proofs.DepthLemmas.{halved, depth_of-small, depth_of-least}
use Rattle.ssz_types.proofs.depth.depth_of_count.Goals as goal

pub returns-then-rest-le1-clause-exact : goal.returns-then-rest-le1-clause-exact
returns-then-rest-le1-clause-exact c =
    omega (arith, c.loop-depth.invariant, depth_of-small c.loop-depth.rest c.if-rest-le1.true)

pub loop-depth-preserved : goal.loop-depth-preserved
loop-depth-preserved c =
    halved c.loop-depth.depth c.loop-depth.rest (depth_of c.args.count) (omega arith)
    c.loop-depth.invariant

pub returns-clause-exact : goal.returns-clause-exact
returns-clause-exact c =
    let fits : c.args.count ≤ 2 ^ 64 = omega arith in
    omega (arith, c.loop-depth.invariant, depth_of-least c.args.count 64 fits)
