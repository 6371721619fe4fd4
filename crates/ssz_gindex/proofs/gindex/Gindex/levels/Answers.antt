use Rattle.std.proofs.Common.{◌<◌, ◌^◌, suc, sym, ap, ◌∙◌, arith}
use Rattle.ssz_chunk.specs.Index.{levels}
use Rattle.ssz_chunk.proofs.Digits.{levels_is}
use Rattle.ssz_gindex.proofs.gindex.Gindex.levels.Goals as goal

pub returns-clause-exact : goal.returns-clause-exact
returns-clause-exact c =
    let number = c.self.inside.number in
    let below : number < 2 ^ suc c.ilog2.result = omega (arith, c.ilog2.ensures.next_power_gt) in
    let counted = levels_is c.ilog2.result number c.ilog2.ensures.power_le below in
    sym counted ∙ ap levels c.self.view_is
