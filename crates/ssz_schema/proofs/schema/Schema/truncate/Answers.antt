use Rattle.std.proofs.Common.{refl}
use Rattle.ssz_schema.specs.declared.schema.Schema.TheInside.{Inside}
use Rattle.ssz_schema.proofs.Entries.{IsSchema-take, types_of-take}
use Rattle.ssz_schema.proofs.schema.Schema.truncate.Goals as goal

pub invariant_of-self : goal.invariant_of-self
invariant_of-self c =
    IsSchema-take c.self.inside _ c.args.self.now c.args.count c.self.view_is c.self.invariant
    c.requires.basics c.requires.names refl refl c.truncate.ensures.items

pub returns : goal.returns
returns c =
    let after : Inside = record {
      format = c.self.inside.format;
      entries =
          c.truncate.new.self;
      names = c.self.inside.names;
    } in
    types_of-take c.self.inside after c.args.self.now c.args.count c.self.view_is refl refl
    c.truncate.ensures.items
