use Rattle.std.proofs.Common.{◌≡◌, subst}
use Rattle.std.specs.Prelude.{IfOk}
use Rattle.ssz_schema.specs.Inside.{IsWhole}
use Rattle.ssz_types.specs.Unfolding.{Types}
use Rattle.ssz_schema.proofs.ListedLemmas.{names_known}
use Rattle.ssz_schema.proofs.schema.Schema.names.Goals as goal

pub returns-clause-known : goal.returns-clause-known
returns-clause-known c =
    names_known c.args.self.now (subst IsWhole c.self.view_is c.self.invariant.whole)
    c.listed.result
    (subst (λ (types : Types). IfOk c.listed.result (λ names. names.items ≡ types.names))
    c.self.view_is c.listed.ensures.exact)
    c.listed.ensures.found
