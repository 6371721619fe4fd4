use Rattle.std.proofs.Common.{◌≡◌, Ok, Err, refl}
use Rattle.std.proofs.lemmas.Result.{err_from_is_err_and}
use Rattle.ssz_schema_json.specs.declared.fault.SchemaRead.TheVariants.{Memory}
use Rattle.ssz_said.specs.Outcome.{CallOutcome}
use Rattle.ssz_schema.specs.Unfolding.{Types}
use Rattle.ssz_typed.specs.Library.{too_long}
use Rattle.ssz_handles.proofs.session.Session.boxed.Goals as goal

-- the bytes were read before memory ran out, so they are not too many
pub returns-in_err-new : goal.returns-in_err-new
returns-in_err-new c =
    let p = err_from_is_err_and c.from_residual-in_err-new.result
    c.from_residual-in_err-new.ensures.1 in
    rw (p.1, p.2) (record {
      long = λ many.
          let read : ◌≡◌ {A = CallOutcome Types} (Ok c.in_ok-session.session.engine.types)
          (Err too_long) = c.in_ok-session.ensures.0.long many in
          cc;
      short = λ few. (Memory, refl, tt);
    })
