use Rattle.std.proofs.lemmas.Result.{err_from_is_err_and}
use Rattle.ssz_schema.specs.Unfolding.{type_of}
use Rattle.ssz_value.specs.Standing.{value_of, IsValue}
use Rattle.ssz_places.specs.Charges.{set_charge}
use Rattle.ssz_edit.proofs.Landing.{from_type}
use Rattle.ssz_edit.proofs.Refusing.{set_refused}
use Rattle.ssz_edit.proofs.setting.set.Goals as goal

pub returns-in_err-place-clause-answers : goal.returns-in_err-place-clause-answers
returns-in_err-place-clause-answers g c v of =
    let p = err_from_is_err_and c.from_residual.result c.from_residual.ensures.1 in
    let x = value_of c.args.value.now in
    rw (p.1, p.2) (set_refused c.args.schema.now c.args.arena.now c.args.arena.now c.args.id
    c.args.node c.args.path.now c.ty-legal.ensures.legal
    (set_charge (type_of c.args.schema.now c.args.id) c.args.path.now x) v of x
    c.in_err-place.field-0.0
    c.in_err-place.ensures.err)

pub put_part-requires-clause-given : goal.put_part-requires-clause-given
put_part-requires-clause-given g c =
    from_type c.args.schema.now.format c.args.schema.now c.args.arena.now c.args.id c.args.node
    c.args.path.now c.in_ok-place.place c.ty-legal.ensures.legal c.in_ok-place.ensures.at.found
    (λ u. IsValue u c.args.value.now) c.requires.value

pub returns-clause-answers : goal.returns-clause-answers
returns-clause-answers g c v of =
    c.in_ok-made.ensures.edits c.args.id c.args.path.now v c.in_ok-place.ensures.at of
