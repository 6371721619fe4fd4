use Rattle.std.proofs.Common.{sym, ◌∙◌, subst, length, ◌<◌}
use Rattle.ssz_types.specs.Unfolding.{Types}
use Rattle.ssz_schema.proofs.schema.Schema.find_bytes.Goals as goal

pub returns-clause-known : goal.returns-clause-known
returns-clause-known c = λ id e.
    let found = sym c.find.ensures ∙ e in
    subst (λ (types : Types). id < length types.trees) c.self.view_is
    (c.self.invariant.whole.names c.args.name.now id found)
