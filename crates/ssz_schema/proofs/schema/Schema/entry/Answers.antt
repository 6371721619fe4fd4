use Rattle.std.proofs.Common.{ℕ, arith, get_or, ap, ◌∙◌}
use Rattle.ssz_schema.specs.Inside.{IsSchemaEntry}
use Rattle.ssz_types.specs.Unfolding.{type_of}
use Rattle.ssz_schema.proofs.Entries.{count_is, entry_is}
use Rattle.ssz_schema.proofs.SmallLemmas.{small_facts}
use Rattle.ssz_schema.proofs.schema.Schema.entry.Goals as goal

pub index-requires-2 : goal.index-requires-2
index-requires-2 c = omega (
  arith,
  c.index.ensures,
  count_is c.self.inside c.args.self.now c.self.view_is,
)

pub returns : goal.returns
returns c =
    let is : IsSchemaEntry c.args.self.now c.args.id c.index-2.result.now =
    entry_is c.self.inside c.args.self.now c.self.view_is c.self.invariant c.args.id
    c.index-2.result.now c.requires
    (c.index-2.ensures ∙ ap (λ (i : ℕ). get_or c.self.inside.entries.items i c.index-2.result.now)
    c.index.ensures) in
    record {
      entry = is;
      small = small_facts c.args.self.now.format
          (type_of c.args.self.now c.args.id) c.index-2.result.now.facts is.legal is.facts;
    }
