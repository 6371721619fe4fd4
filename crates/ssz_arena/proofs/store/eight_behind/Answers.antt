use Rattle.std.proofs.Common.{◌≡◌, ◌+◌, ◌-◌, ◌∙◌, ap, sym, refl, arith}
use Rattle.std.proofs.lemmas.Bool.{ne_eqb}
use Rattle.std.proofs.lemmas.Nat.{and_mask}
use Rattle.ssz_arena.specs.Stored.{shape_of}
use Rattle.ssz_arena.proofs.Lefts.{lanes_behind}
use Rattle.ssz_arena.proofs.store.eight_behind.Goals as goal

pub returns : goal.returns
returns c none = (
  c.if-i-lt8.false,
  λ k less.
      let same : c.args.i - k ≡ c.args.i - 7 + (7 - k) = omega (arith, less, c.if-i-lt8.false) in
      ap (shape_of c.args.kinds.now.items) same
      ∙ ap (λ ks. shape_of ks (c.args.i - 7 + (7 - k))) (sym c.deref.ensures.value)
      ∙ lanes_behind c.deref.result.now (c.args.i - 7) _ _
      (omega (arith, c.requires.inside, c.if-i-lt8.false, c.deref.ensures.len)) none
      (λ x. and_mask x 2) (λ x other. rw (ne_eqb x 3 other) refl) (7 - k) (omega (arith, less)),
)
