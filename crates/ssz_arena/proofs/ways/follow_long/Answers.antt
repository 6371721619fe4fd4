use Rattle.std.proofs.Common.{ℕ, ◌%◌, ◌^◌, ◌∙◌, ◌∷◌, ◌-◌, ◌<◌, ap, sym, refl, arith, Some, None}
use Rattle.std.proofs.lemmas.Nat.{one_shl}
use lib.Count.{count_leading_zeros}
use Rattle.ssz_chunk.specs.Index.{digits}
use Rattle.ssz_arena.specs.Content.{node_at}
use Rattle.ssz_arena.specs.Shown.{steps_left}
use Rattle.ssz_arena.proofs.Lefts.{lefts_digits}
use Rattle.ssz_arena.proofs.Following.{digits-mod, digits-step, next_before, node_at-append, node_at-child}
use Rattle.ssz_arena.proofs.ways.follow_long.Goals as goal

pub high-init : goal.high-init
high-init c = record {
  inside = c.requires.inside;
  few = c.requires.few;
  same = refl;
}

pub returns-in-None : goal.returns-in-None
returns-in-None c =
    let nodes = c.args.store.now.nodes in
    let way = digits-step c.high.left c.args.number (omega (arith, c.high-test.true)) _ refl
    ∙ ap (λ t. t ∷ digits (c.high.left - 1) c.args.number) (sym c.digit.ensures) in
    sym (sym c.high.invariant.same
    ∙ ap (node_at nodes c.high.place) way
    ∙ node_at-child nodes c.high.place c.high.invariant.inside _ None c.in-None.ensures _)

pub high-preserved : goal.high-preserved
high-preserved c =
    let nodes = c.args.store.now.nodes in
    let way = digits-step c.high.left c.args.number (omega (arith, c.high-test.true)) _ refl
    ∙ ap (λ t. t ∷ digits (c.high.left - 1) c.args.number) (sym c.digit.ensures) in
    record {
      inside = omega (
        arith,
        c.high.invariant.inside,
        next_before nodes c.requires.ordered c.high.place c.in-Some.next
            c.high.invariant.inside _ c.in-Some.ensures,
      );
      few = omega (arith, c.high.invariant.few);
      same = sym (ap (node_at nodes c.high.place) way
          ∙ node_at-child nodes c.high.place c.high.invariant.inside _ (Some c.in-Some.next)
          c.in-Some.ensures _)
          ∙ c.high.invariant.same;
    }

pub returns : goal.returns
returns c =
    let nodes = c.args.store.now.nodes in
    let few : c.high.left < 64 = omega (arith, c.high-test.false) in
    let low : ℕ = c.args.number % 2 ^ 64 in
    let gone = c.lefts-gone.result.1 in
    let way = lefts_digits c.high.left low _ c.saturating_sub-zeros.result gone few refl
    (c.saturating_sub-zeros.ensures
    ∙ ap (λ k. count_leading_zeros 64 (low % k) - (64 - c.high.left)) (one_shl c.high.left 64 few))
    c.lefts-gone.ensures.few in
    c.follow.ensures
    ∙ sym (node_at-append nodes c.high.place c.lefts-gone.result.0 (steps_left gone)
    (digits (c.high.left - gone) low) c.lefts-gone.ensures.found)
    ∙ ap (node_at nodes c.high.place) (sym way.1 ∙ digits-mod c.high.left c.args.number few)
    ∙ c.high.invariant.same
