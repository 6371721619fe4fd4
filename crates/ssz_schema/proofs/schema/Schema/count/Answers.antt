use Rattle.std.proofs.Common.{arith, subst}
use Rattle.ssz_schema.specs.Inside.{IsWhole}
use Rattle.ssz_schema.proofs.Entries.{count_is}
use Rattle.ssz_schema.proofs.schema.Schema.count.Goals as goal

pub returns-clause-exact : goal.returns-clause-exact
returns-clause-exact c =
    omega (arith, c.len.ensures, count_is c.self.inside c.args.self.now c.self.view_is)

pub returns-clause-whole : goal.returns-clause-whole
returns-clause-whole c = subst IsWhole c.self.view_is c.self.invariant.whole
