use Rattle.std.proofs.Common.{◌≡◌, get_or, length, ◌%◌, ◌<◌, ◌∙◌, sym, ap, arith, inl, inr}
use Rattle.std.proofs.lemmas.Bool.{cases_eq}
use Rattle.ssz_arena.specs.Stored.{count_of, link_count}
use Rattle.std.proofs.lemmas.Grind.{get_or_default_zero}
use Rattle.ssz_arena.proofs.store.links_at.Goals as goal

pub overflow_sub-result : goal.overflow_sub-result
overflow_sub-result c =
    let kinds = c.args.kinds.now.items in
    let within : c.args.i < length kinds = omega (arith, c.requires.inside, c.args.kinds.now.ok.0)
    in
    let read : c.index.result.now ≡ get_or kinds c.args.i 0 =
    c.index.ensures ∙ get_or_default_zero kinds c.args.i c.index.result.now within in
    elim (cases_eq c.args.i 0) [
      | inl none ↦ absurd (c.requires.stored.first (ap (λ k. link_count kinds k) (sym none)
          ∙ ap (λ k. count_of (k % 4)) (sym read) ∙ ap count_of c.if-shape-eq-RIGHT_BEFORE.true))
      | inr some ↦ omega (arith, some)
    ]
