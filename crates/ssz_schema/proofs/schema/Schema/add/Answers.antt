use Rattle.std.proofs.Common.{Ok, Err}
use Rattle.std.specs.Prelude.{IfOk}
use Rattle.ssz_schema.specs.Forms.{form_of}
use Rattle.ssz_schema.specs.Walk.{resolved}
use Rattle.ssz_types.specs.Unfolding.{known_in, type_of}
use Rattle.ssz_schema.specs.Adding.{Knows, DefinesOrExtends}
use Rattle.ssz_schema.proofs.KnownLemmas.{knows-Defines}
use Rattle.ssz_schema.proofs.schema.Schema.add.Goals as goal

pub returns-else-is_err-clause-known : goal.returns-else-is_err-clause-known
returns-else-is_err-clause-known c =
    let name = c.args.name.now in
    let old = c.args.self.now in
    let new = c.define-added.new.self in
    elim c.define-added.result
    as (λ r. DefinesOrExtends name (resolved old.format (known_in old) (form_of c.args.expr.now))
    old new r
    → IfOk r (λ id. Knows name (type_of new id) old new)) [
      | Ok id ↦ λ h. knows-Defines name old new id c.count-count.ensures.whole h.0
      | Err e ↦ λ h. tt
    ] c.define-added.ensures
