use Rattle.std.proofs.Common.{◌≡◌, ◌<◌, ◌∙◌, ℕ, List, get_or, length, refl, sym, ap, subst, arith, inl, inr}
use Rattle.std.proofs.lemmas.Bool.{cases_eq, eqb-false, eqb-true, false≢true, not-true}
use Rattle.std.proofs.lemmas.List.{ext_get_or, get_or-map, length-map}
use Rattle.ssz_proof.specs.declared.entry.Entry.{Entry}
use Rattle.ssz_proof.specs.Calculation.{Known, indices_of}
use Rattle.ssz_clash.proofs.Leaves.{true-from_not}
use Rattle.ssz_clash.proofs.places.same_places.Goals as goal

index-at : (known : Known) (i : ℕ) (entry : Entry) → i < length known
    → get_or (indices_of known) i 0 ≡ (get_or known i entry).index
index-at known i entry below =
    get_or-map (λ (entry : Entry). entry.index) known i entry 0 below

length-indices : (known : Known) → length (indices_of known) ≡ length known
length-indices known = length-map known (λ (entry : Entry). entry.index)

pub returns-then-ne : goal.returns-then-ne
returns-then-ne c =
    let first : Known = c.args.first.now in
    let second : Known = c.args.second.now in
    let i = c.loop-i.i in
    let at_first = index-at first i c.index-first-i.result (omega arith) in
    let at_second = index-at second i c.index-second-i.result (omega arith) in (
      λ yes. absurd (false≢true yes),
      λ same. absurd (eqb-false (get_or first i c.index-first-i.result).index
          (get_or second i c.index-second-i.result).index
          (not-true _ (sym c.ne.ensures ∙ c.if-ne.true))
          (sym at_first ∙ ap (λ (indices : List ℕ). get_or indices i 0) same ∙ at_second)),
    )

pub loop-i-preserved : goal.loop-i-preserved
loop-i-preserved c = λ k below.
    let first : Known = c.args.first.now in
    let second : Known = c.args.second.now in
    let i = c.loop-i.i in
    let at_first = index-at first i c.index-first-i.result (omega arith) in
    let at_second = index-at second i c.index-second-i.result (omega arith) in
    let here : get_or (indices_of first) i 0 ≡ get_or (indices_of second) i 0 =
    at_first
    ∙ eqb-true (get_or first i c.index-first-i.result).index
    (get_or second i c.index-second-i.result).index
    (true-from_not _ (sym c.ne.ensures ∙ c.if-ne.false))
    ∙ sym at_second in
    elim (cases_eq i k) [
      | inl same ↦
          subst (λ (n : ℕ). get_or (indices_of first) n 0 ≡ get_or (indices_of second) n 0) same
          here
      | inr other ↦ c.loop-i.invariant k (omega arith)
    ]

pub returns : goal.returns
returns c =
    let first : Known = c.args.first.now in
    let second : Known = c.args.second.now in
    let long : length (indices_of first) ≡ length (indices_of second) =
    length-indices first ∙ c.if-first-second.false ∙ sym (length-indices second) in (
      λ yes. ext_get_or 0 (indices_of first) (indices_of second) long
          (λ k below. c.loop-i.invariant k (omega (arith, length-indices first))),
      λ same. refl,
    )
