use Rattle.std.proofs.Common.{List, ◌∙◌, ◌≡◌, ◌+◌, ◌++◌, ◌∷◌, [], take, ap, sym, subst, Some}
use Rattle.std.proofs.lemmas.List.{take_more, take_all}
use Rattle.ssz_value.specs.declared.value.Value.{Value}
use Rattle.ssz_value.specs.declared.value.Value.TheVariants.{Seq, Union}
use Rattle.ssz_value.specs.Standing.{IsCopy}
use Rattle.ssz_value.proofs.CopyLemmas.{AreCopies, AreCopies-push, seq_copy, chosen_copy}
use Rattle.ssz_value.proofs.copying.+copy.Goals as goal

pub loop-part-preserved : goal.loop-part-preserved
loop-part-preserved t c =
    let more : take (c.loop-part.part-index + 1) c.deref-part-items.result.now
    ≡ take c.loop-part.part-index c.deref-part-items.result.now ++ c.part-item.result ∷ [] =
    take_more c.deref-part-items.result.now c.loop-part.part-index c.part-item.result
    c.loop-part-test.true ∙ ap
    (λ v. take c.loop-part.part-index c.deref-part-items.result.now ++ v ∷ [])
    (sym c.part-item.is) in
    subst (AreCopies (take (c.loop-part.part-index + 1) c.deref-part-items.result.now))
    (sym c.in_ok-push-in-Seq.ensures.items)
    (subst (λ (vs : List Value).
    AreCopies vs (c.loop-part.copies.items ++ c.in_ok-part-in-Seq.part ∷ [])) (sym more)
    (AreCopies-push _ _ c.part-item.result c.in_ok-part-in-Seq.part c.loop-part.invariant
    c.in_ok-part-in-Seq.ensures))

pub returns-after-loop-part : goal.returns-after-loop-part
returns-after-loop-part t c =
    let all : take c.loop-part.part-index c.deref-part-items.result.now ≡ c.in-Seq.parts.items =
    take_all c.loop-part.part-index c.deref-part-items.result.now c.loop-part-test.false
    ∙ c.deref-part-items.ensures.value in
    subst (λ (v : Value). IsCopy v (Seq c.loop-part.copies)) (sym c.in-Seq.is)
    (seq_copy c.in-Seq.parts c.loop-part.copies
    (subst (λ (vs : List Value). AreCopies vs c.loop-part.copies.items) all
    c.loop-part.invariant))

pub returns-in_ok-new-in-Some : goal.returns-in_ok-new-in-Some
returns-in_ok-new-in-Some t c =
    let inner : IsCopy c.in-Some.inner.value c.in_ok-new-in-Some.field-0.value =
    subst (IsCopy c.in-Some.inner.value) (sym c.in_ok-new-in-Some.ensures.ok)
    (subst (λ (v : Value). IsCopy v c.in_ok-inner-in-Some.inner) c.deref.ensures
    c.in_ok-inner-in-Some.ensures) in
    subst (λ (v : Value). IsCopy v (Union c.in-Union.selector (Some c.in_ok-new-in-Some.field-0)))
    (sym (c.in-Union.is ∙ ap (Union c.in-Union.selector) c.in-Some.is))
    (chosen_copy c.in-Union.selector c.in-Some.inner c.in_ok-new-in-Some.field-0 inner)
