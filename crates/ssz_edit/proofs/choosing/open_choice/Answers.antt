use Rattle.std.proofs.Common.{◌∙◌, sym, refl}
use Rattle.std.proofs.lemmas.Result.{err_from_is_err_and}
use Rattle.ssz_edit.proofs.ChoiceLanding.{below_option, below_more}
use Rattle.ssz_edit.proofs.Refusing.{lost_choose}
use Rattle.ssz_edit.proofs.choosing.open_choice.Goals as goal

pub returns-in_err-place-clause-err : goal.returns-in_err-place-clause-err
returns-in_err-place-clause-err g c =
    let p = err_from_is_err_and c.from_residual.result c.from_residual.ensures.1 in
    rw (p.1, p.2) (lost_choose c.args.schema.now c.args.arena.now c.args.id c.args.node
    c.args.path.now c.args.selector c.in_err-place.field-0.0 c.in_err-place.ensures.lost)

pub returns-in_default-clause-err : goal.returns-in_default-clause-err
returns-in_default-clause-err g c =
    (c.in_ok-place.place, c.in_ok-place.ensures.found, λ v w of there. c.in_default.ensures.none)

pub returns-in_default-option_at-clause-err : goal.returns-in_default-option_at-clause-err
returns-in_default-option_at-clause-err g c = (
  c.in_ok-place.place,
  c.in_ok-place.ensures.found,
  λ v w of there. (
    c.in-Some.options.now,
    c.in-Some.ensures.some.0,
    sym c.in_default-option_at.is ∙ c.option_at.ensures,
  ),
)

pub returns-clause-choice : goal.returns-clause-choice
returns-clause-choice g c =
    let led = c.in_ok-place.ensures.found.led in
    record {
      below = below_more c.in_ok-place.place.id _ c.in-Some-option_at.option led.known
          (below_option c.in_ok-place.place.id c.in-Some.options.now c.args.selector
          c.in-Some-option_at.option (sym c.in-Some-option_at.is ∙ c.option_at.ensures)
          c.in-Some.ensures.some.1);
      top = c.requires.node;
      inside = led.inside;
      there = led.tree_at;
    }

pub returns-clause-at : goal.returns-clause-at
returns-clause-at g c = record {
  legal = c.ty-legal.ensures.legal;
  found = c.in_ok-place.ensures.found;
  options = c.in-Some.options.now;
  is = c.in-Some.ensures.some.0;
  option_there = sym c.in-Some-option_at.is ∙ c.option_at.ensures;
  selects = refl;
}
