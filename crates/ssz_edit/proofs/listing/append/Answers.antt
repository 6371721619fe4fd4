use Rattle.std.proofs.Common.{sym, subst}
use Rattle.std.proofs.lemmas.Result.{err_from_is_err_and}
use Rattle.ssz_schema.specs.Unfolding.{type_of}
use Rattle.ssz_value.specs.Standing.{value_of, IsValue}
use Rattle.ssz_value.specs.Suiting.{IsElement}
use Rattle.ssz_places.specs.Charges.{append_charge}
use Rattle.ssz_edit.proofs.Counted.{counted_where, element_is}
use Rattle.ssz_edit.proofs.Landing.{from_type}
use Rattle.ssz_edit.proofs.ListLanding.{element_type_is}
use Rattle.ssz_edit.proofs.Refusing.{append_refused}
use Rattle.ssz_edit.proofs.listing.append.Goals as goal

pub returns-in_err-end-clause-answers : goal.returns-in_err-end-clause-answers
returns-in_err-end-clause-answers g c v of =
    let p = err_from_is_err_and c.from_residual.result c.from_residual.ensures.1 in
    rw (p.1, p.2) (append_refused c.args.schema.now c.args.arena.now c.args.arena.now c.args.id
    c.args.node c.args.path.now c.ty-legal.ensures.legal
    (append_charge (type_of c.args.schema.now c.args.id) v c.args.path.now
    (value_of c.args.value.now)) v of c.args.value.now c.requires.value c.in_err-end.field-0.0
    c.in_err-end.ensures.err)

pub put_element-requires-clause-given : goal.put_element-requires-clause-given
put_element-requires-clause-given g c =
    let types = c.args.schema.now in
    let at = c.in_ok-end.ensures.at in
    let end = c.in_ok-end.end in
    let u = type_of types end.list.id in
    subst (λ s. IsValue s c.args.value.now)
    (sym (element_type_is types.format types c.args.arena.now c.args.id c.args.node
    c.args.path.now end.list at.legal at.found at.limit at.limited at.content at.content_node
    end.count at.within end.slot at.slot))
    (element_is u c.args.value.now (counted_where u at.limit at.limited)
    (from_type types.format types c.args.arena.now c.args.id c.args.node c.args.path.now end.list
    at.legal at.found (λ s. IsElement s c.args.value.now) c.requires.value))

pub returns-clause-answers : goal.returns-clause-answers
returns-clause-answers g c v of =
    c.in_ok-made.ensures.edits c.args.id c.args.path.now v c.in_ok-end.ensures.at of
