use Rattle.std.proofs.Common.{◌≡◌, ◌∙◌, ℕ, List, Option, None, length, map, sym, ap, subst, arith}
use Rattle.std.specs.Prelude.{slice_index_or}
use Rattle.ssz_schema.specs.Unfolding.{type_tree_at, fields_over}
use Rattle.ssz_value.specs.Standing.{value_of}
use Rattle.ssz_forms.specs.Taking.{IsFieldTaken}
use Rattle.ssz_forms.specs.Upgrades.{field_taken, field_value}
use Rattle.ssz_forms.proofs.Taken.{taken_at, taken_many}
use Rattle.ssz_forms.proofs.Upgrading.{UpgradedSoFar-more, UpgradedSoFar-end, taken_part}
use Rattle.ssz_forms.proofs.plain.upgraded_parts.Goals as goal

pub bounds-taken-i : goal.bounds-taken-i
bounds-taken-i c = omega (
  arith,
  ap (length {A = Option ℕ}) c.requires.taken,
  taken_many c.args.schema.now.trees c.args.old.now c.args.new.now,
)

pub upgraded_part-requires-clause-taken : goal.upgraded_part-requires-clause-taken
upgraded_part-requires-clause-taken c =
    let trees = c.args.schema.now.trees in
    let part = c.index-new-i.result in
    let t = type_tree_at trees part.1 in
    let number : slice_index_or c.args.taken.now c.loop-i.i None
    ≡ field_taken (fields_over trees c.args.old.now) part.0 t =
    ap (λ (ks : List (Option ℕ)). slice_index_or ks c.loop-i.i None) c.requires.taken
    ∙ taken_at trees c.args.old.now c.args.new.now c.loop-i.i part c.loop-i-test.true
    c.index-new-i.is in
    subst (IsFieldTaken c.args.parts.now t) (sym number)
    (taken_part (fields_over trees c.args.old.now) c.args.parts.now part.0 t c.requires.parts)

pub loop-i-preserved : goal.loop-i-preserved
loop-i-preserved c =
    let trees = c.args.schema.now.trees in
    let part = c.index-new-i.result in
    let t = type_tree_at trees part.1 in
    let number : slice_index_or c.args.taken.now c.loop-i.i None
    ≡ field_taken (fields_over trees c.args.old.now) part.0 t =
    ap (λ (ks : List (Option ℕ)). slice_index_or ks c.loop-i.i None) c.requires.taken
    ∙ taken_at trees c.args.old.now c.args.new.now c.loop-i.i part c.loop-i-test.true
    c.index-new-i.is in
    UpgradedSoFar-more trees c.args.old.now c.args.parts.now c.args.new.now c.loop-i.i
    c.loop-i.made.items c.push.new.self.items part c.in_ok-part.part c.loop-i.invariant
    c.loop-i-test.true c.index-new-i.is
    (c.in_ok-part.ensures.stands.value
    ∙ ap (field_value (map value_of c.args.parts.now) t) number)
    c.in_ok-part.ensures.is
    c.in_ok-push.ensures.items

pub returns : goal.returns
returns c =
    UpgradedSoFar-end c.args.schema.now.trees c.args.old.now c.args.parts.now c.args.new.now
    c.loop-i.i c.loop-i.made.items c.loop-i.invariant (omega arith)
