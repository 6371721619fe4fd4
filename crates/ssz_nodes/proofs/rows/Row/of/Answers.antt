use Rattle.std.proofs.Common.{◌≤◌, ◌^◌, arith}
use Rattle.std.proofs.Math.Nat.{pow-le-pow_right}
use Rattle.ssz_nodes.proofs.rows.Row.of.Goals as goal

pub spread-requires-clause-room : goal.spread-requires-clause-room
spread-requires-clause-room g c =
    let few : 2 ^ c.args.top.depth ≤ 2 ^ 3 =
    pow-le-pow_right (omega arith) c.if-top-le-NEAR_DEPTH.true in few
