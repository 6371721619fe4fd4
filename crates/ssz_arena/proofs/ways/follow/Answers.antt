use Rattle.std.proofs.Common.{◌∙◌, ◌-◌, ap, sym, refl, arith, Some, None}
use Rattle.ssz_arena.specs.Content.{node_at}
use Rattle.ssz_arena.proofs.Following.{digits-step, next_before, node_at-child, node_at-end, shifted, top_digit}
use Rattle.ssz_arena.proofs.ways.follow.Goals as goal

pub steps-init : goal.steps-init
steps-init c = record {
  inside = c.requires.inside;
  few = c.requires.few;
  rest = refl;
  same = refl;
}

pub returns-in-None : goal.returns-in-None
returns-in-None c =
    let nodes = c.args.store.now.nodes in
    let number = c.args.number in
    let next = shifted number c.steps.left c.steps.rest c.steps-test.true c.steps.invariant.few
    c.steps.invariant.rest in
    let way = digits-step c.steps.left number c.steps-test.true _
    (top_digit number (c.steps.left - 1) _ (omega (arith, c.steps.invariant.few)) next) in
    sym (sym c.steps.invariant.same
    ∙ ap (node_at nodes c.steps.place) way
    ∙ node_at-child nodes c.steps.place c.steps.invariant.inside _ None c.in-None.ensures _)

pub steps-preserved : goal.steps-preserved
steps-preserved c =
    let nodes = c.args.store.now.nodes in
    let number = c.args.number in
    let shift = shifted number c.steps.left c.steps.rest c.steps-test.true c.steps.invariant.few
    c.steps.invariant.rest in
    let way = digits-step c.steps.left number c.steps-test.true _
    (top_digit number (c.steps.left - 1) _ (omega (arith, c.steps.invariant.few)) shift) in
    record {
      inside = omega (
        arith,
        c.steps.invariant.inside,
        next_before nodes c.requires.ordered c.steps.place c.in-Some.next
            c.steps.invariant.inside _ c.in-Some.ensures,
      );
      few = omega (arith, c.steps.invariant.few);
      rest = shift;
      same = sym (ap (node_at nodes c.steps.place) way
          ∙ node_at-child nodes c.steps.place c.steps.invariant.inside _ (Some c.in-Some.next)
          c.in-Some.ensures _)
          ∙ c.steps.invariant.same;
    }

pub returns : goal.returns
returns c =
    sym (node_at-end _ _ c.steps.left c.args.number c.steps-test.false) ∙ c.steps.invariant.same
