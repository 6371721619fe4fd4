use Rattle.std.proofs.Common.{refl, arith}
use Rattle.ssz_schema.specs.declared.schema.Schema.TheInside.{Inside}
use Rattle.ssz_schema.proofs.Entries.{IsSchema-push, Extends-push, count_is}
use Rattle.ssz_schema.proofs.schema.Schema.push.Goals as goal

pub invariant_of-self-2 : goal.invariant_of-self-2
invariant_of-self-2 c =
    IsSchema-push c.self.inside _ c.args.self.now c.args.entry c.self.view_is c.self.invariant
    c.requires refl refl c.in_ok-push.ensures.items

pub returns-clause-number : goal.returns-clause-number
returns-clause-number c =
    omega (
      arith,
      c.new-id.ensures,
      c.len.ensures,
      count_is c.self.inside c.args.self.now c.self.view_is,
    )

pub returns-clause-added : goal.returns-clause-added
returns-clause-added c =
    let after : Inside = record {
      format = c.self.inside.format;
      entries = c.push.new.self;
      names =
          c.self.inside.names;
    } in
    Extends-push c.self.inside after c.args.self.now c.args.entry c.self.view_is refl refl
    c.in_ok-push.ensures.items
