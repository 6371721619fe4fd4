use Rattle.std.proofs.Common.{sym, ◌∙◌, ap, subst, Some, ◌≡◌}
use Rattle.ssz_value.specs.declared.value.Value.TheVariants.{Union}
use Rattle.ssz_value.specs.Standing.{IsValue}
use Rattle.ssz_plain.proofs.Steps.{part_of_union}
use Rattle.ssz_plain.proofs.reading.inner.Goals as goal

pub returns-then-selector-number-clause-fits : goal.returns-then-selector-number-clause-fits
returns-then-selector-number-clause-fits c = λ t u step typed at value.
    (let whole : c.args.value.now ≡ Union c.args.number (Some c.in-Some.part) =
    c.in-Union.is ∙ ap (λ k. Union k c.in-Union.inner) c.if-selector-number.true
    ∙ ap (Union c.args.number) c.in-Some.is in
    let of = part_of_union t u step c.args.number c.in-Some.part typed at
    (subst (IsValue t) whole value) in
    subst (IsValue u) (sym c.deref.ensures) of.there)
