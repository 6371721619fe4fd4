use Rattle.std.proofs.Common.{subst}
use Rattle.ssz_schema.specs.Inside.{IsWhole}
use Rattle.ssz_schema.proofs.Entries.{all_legal}
use Rattle.ssz_schema.proofs.schema.Schema.allocator.Goals as goal

pub returns-clause-whole : goal.returns-clause-whole
returns-clause-whole c = subst IsWhole c.self.view_is c.self.invariant.whole

pub returns-clause-legal : goal.returns-clause-legal
returns-clause-legal c = all_legal c.self.inside c.args.self.now c.self.view_is c.self.invariant
