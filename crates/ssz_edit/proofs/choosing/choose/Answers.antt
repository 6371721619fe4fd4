use Rattle.std.proofs.Common.{Option, sym, subst, option_map}
use Rattle.std.proofs.lemmas.Result.{err_from_is_err_and}
use Rattle.ssz_schema.specs.Unfolding.{type_of}
use Rattle.ssz_value.specs.Values.{SszValue}
use Rattle.ssz_value.specs.Standing.{value_of}
use Rattle.ssz_value.specs.Edits.{choose_at}
use Rattle.ssz_value.specs.Suiting.{inner_of}
use Rattle.ssz_places.specs.Charges.{choose_charge}
use Rattle.ssz_edit.specs.declared.given.Given.{Given}
use Rattle.ssz_edit.specs.Edited.{Edits}
use Rattle.ssz_edit.specs.Given.{IsOfOption, option_value}
use Rattle.ssz_edit.proofs.ChoiceLanding.{chosen}
use Rattle.ssz_edit.proofs.Refusing.{choose_refused}
use Rattle.ssz_edit.proofs.choosing.choose.Goals as goal

pub returns-in_err-choice-clause-answers : goal.returns-in_err-choice-clause-answers
returns-in_err-choice-clause-answers g c v of =
    let p = err_from_is_err_and c.from_residual.result c.from_residual.ensures.1 in
    let x = option_map value_of (inner_of c.args.inner) in
    rw (p.1, p.2) (choose_refused c.args.schema.now c.args.arena.now c.args.arena.now c.args.id
    c.args.node c.args.path.now c.ty-legal.ensures.legal
    (choose_charge (type_of c.args.schema.now c.args.id) c.args.path.now c.args.selector x) v of
    c.args.selector x c.in_err-choice.field-0.0 c.in_err-choice.ensures.err)

pub put_choice-requires-clause-inner : goal.put_choice-requires-clause-inner
put_choice-requires-clause-inner g c =
    subst (λ (inner : Option Given). IsOfOption c.args.schema.now
    c.in_ok-choice.choice.option inner)
    (sym c.given_of.ensures)
    (chosen c.args.schema.now c.args.arena.now c.args.id c.args.node c.args.path.now
    c.args.selector c.in_ok-choice.choice c.in_ok-choice.ensures.at c.args.inner
    c.requires.inner).0

pub returns-clause-answers : goal.returns-clause-answers
returns-clause-answers g c v of =
    let types = c.args.schema.now in
    let t = type_of types c.args.id in
    let k = c.args.selector in
    let path = c.args.path.now in
    let option = c.in_ok-choice.choice.option in
    subst (λ (x : Option SszValue). Edits t c.args.arena.now c.put_choice.new.arena c.args.node
    (choose_charge t path k x) (choose_at t v path k x) c.in_ok-made.made)
    (chosen types c.args.arena.now c.args.id c.args.node path k c.in_ok-choice.choice
    c.in_ok-choice.ensures.at c.args.inner c.requires.inner).1
    (subst (λ (inner : Option Given). (let x = option_value types option inner in
    Edits t c.args.arena.now c.put_choice.new.arena c.args.node
    (choose_charge t path k x) (choose_at t v path k x) c.in_ok-made.made))
    c.given_of.ensures
    (c.in_ok-made.ensures.edits c.args.id path k v c.in_ok-choice.ensures.at of))
