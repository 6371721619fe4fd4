use Rattle.std.proofs.Common.{◌∙◌, sym}
use Rattle.std.proofs.lemmas.Result.{err_from_is_err_and}
use Rattle.ssz_edit.proofs.Landing.{lies}
use Rattle.ssz_edit.proofs.Refusing.{lost_set}
use Rattle.ssz_edit.proofs.setting.open_part.Goals as goal

pub returns-in_err-place-clause-err : goal.returns-in_err-place-clause-err
returns-in_err-place-clause-err g c =
    let p = err_from_is_err_and c.from_residual.result c.from_residual.ensures.1 in
    rw (p.1, p.2) (lost_set c.args.schema.now c.args.arena.now c.args.id c.args.node
    c.args.path.now c.in_err-place.field-0.0 c.in_err-place.ensures.lost)

pub returns-then-not-is_changeable-clause-err : goal.returns-then-not-is_changeable-clause-err
returns-then-not-is_changeable-clause-err g c = (
  c.in_ok-place.place,
  c.in_ok-place.ensures.found,
  λ v w of there. sym c.is_changeable.ensures ∙ c.if-not-is_changeable.true,
)

pub returns-clause-place : goal.returns-clause-place
returns-clause-place g c =
    let led = c.in_ok-place.ensures.found.led in
    record {
      known = led.known;
      top = c.requires.node;
      inside = led.inside;
      lies = lies c.args.schema.now.format c.args.schema.now c.args.arena.now c.args.id c.args.node
          c.args.path.now c.in_ok-place.place c.ty-legal.ensures.legal
          c.in_ok-place.ensures.found;
      there = led.tree_at;
    }

pub returns-clause-at : goal.returns-clause-at
returns-clause-at g c = record {
  legal = c.ty-legal.ensures.legal;
  found = c.in_ok-place.ensures.found;
  free = sym c.is_changeable.ensures ∙ c.if-not-is_changeable.false;
}
