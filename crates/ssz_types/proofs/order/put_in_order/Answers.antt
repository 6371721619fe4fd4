use Rattle.std.proofs.Common.{◌≡◌, ◌<◌, ◌+◌, length, Less, Equal, Greater, refl, sym, ap, subst, ◌∙◌, arith}
use Rattle.std.specs.List.{All, insert}
use Rattle.std.proofs.lemmas.List.Elements.{All-set}
use Rattle.ssz_types.specs.Order.{with_names}
use Rattle.ssz_types.proofs.RepeatLemmas.{names_of}
use Rattle.ssz_types.proofs.PlaceLemmas.{PassedTo-start, PassedTo-more, placed, placed_before, placed_last, placed_instead, below_insert, is_below, compared}
use Rattle.ssz_types.proofs.order.put_in_order.Goals.{else-loop-place-test, then-loop-place-test+in-Less}
use Rattle.ssz_types.proofs.order.put_in_order.Goals as goal

pub loop-place-init : goal.loop-place-init
loop-place-init c = record {
  kept = refl;
  within = omega arith;
  passed = PassedTo-start c.args.fields.now c.args.order.now.items c.args.number;
}

pub bounds-fields-index : goal.bounds-fields-index
bounds-fields-index c =
    is_below (length c.args.fields.now) c.loop-place.order.items c.args.order.now.items
    c.loop-place.place c.index.result.now (omega arith) c.loop-place.invariant.kept
    c.requires.numbers c.index.ensures

pub returns-in-Equal-clause-numbers : goal.returns-in-Equal-clause-numbers
returns-in-Equal-clause-numbers c =
    All-set (λ m. m < length c.args.fields.now) c.loop-place.order.items c.loop-place.place
    c.args.number c.requires.number
    (subst (All (λ m. m < length c.args.fields.now)) (sym c.loop-place.invariant.kept)
    c.requires.numbers)

pub returns-in-Equal-clause-names : goal.returns-in-Equal-clause-names
returns-in-Equal-clause-names c =
    placed_instead c.args.fields.now c.loop-place.order.items c.args.number c.loop-place.place
    c.index.result.now (omega arith) c.index.ensures
    (compared c.args.fields.now c.args.number c.index.result.now c.as_bytes-name.result.now
    c.as_bytes.result.now c.name_cmp.result Equal c.index-fields-number.result
    c.index-fields-index.result c.requires.number
    (is_below (length c.args.fields.now) c.loop-place.order.items c.args.order.now.items
    c.loop-place.place c.index.result.now (omega arith) c.loop-place.invariant.kept
    c.requires.numbers c.index.ensures) c.index-fields-number.is
    c.index-fields-index.is c.as_bytes-name.ensures c.as_bytes.ensures c.name_cmp.ensures
    c.in-Equal.is)
    c.loop-place.invariant.passed
    ∙ ap (λ ns. placed c.args.fields.now ns c.args.number) c.loop-place.invariant.kept

pub loop-place-preserved : goal.loop-place-preserved
loop-place-preserved c = record {
  kept = c.loop-place.invariant.kept;
  within = omega arith;
  passed = PassedTo-more c.args.fields.now c.loop-place.order.items c.args.number
      c.loop-place.place c.index.result.now (omega arith) c.index.ensures
      (compared c.args.fields.now c.args.number c.index.result.now c.as_bytes-name.result.now
      c.as_bytes.result.now c.name_cmp.result Greater c.index-fields-number.result
      c.index-fields-index.result c.requires.number
      (is_below (length c.args.fields.now) c.loop-place.order.items c.args.order.now.items
      c.loop-place.place c.index.result.now (omega arith) c.loop-place.invariant.kept
      c.requires.numbers c.index.ensures) c.index-fields-number.is
      c.index-fields-index.is c.as_bytes-name.ensures c.as_bytes.ensures c.name_cmp.ensures
      c.in-Greater.is)
      c.loop-place.invariant.passed;
}

pub returns-clause-numbers : goal.returns-clause-numbers
returns-clause-numbers c =
    subst (All (λ m. m < length c.args.fields.now)) (sym c.in_ok-insert.ensures.items)
    (below_insert (length c.args.fields.now) c.loop-place.order.items c.loop-place.place
    c.args.number c.requires.number
    (subst (All (λ m. m < length c.args.fields.now)) (sym c.loop-place.invariant.kept)
    c.requires.numbers))

pub returns-clause-names : goal.returns-clause-names
returns-clause-names c =
    let stands : with_names (names_of c.args.fields.now)
    (insert c.loop-place.order.items c.loop-place.place c.args.number)
    ≡ placed c.args.fields.now c.loop-place.order.items c.args.number =
    elim c.loop-place-test.branch [
      | else-loop-place-test w ↦
          placed_last c.args.fields.now c.loop-place.order.items c.args.number c.loop-place.place
          (omega (arith, w.loop-place-test)) c.loop-place.invariant.passed
      | then-loop-place-test+in-Less w ↦
          placed_before c.args.fields.now c.loop-place.order.items c.args.number
          c.loop-place.place w.index.result.now (omega (arith, w.loop-place-test))
          w.index.ensures
          (compared c.args.fields.now c.args.number w.index.result.now
          c.as_bytes-name.result.now w.as_bytes.result.now w.name_cmp.result Less
          c.index-fields-number.result w.index-fields-index.result c.requires.number
          (is_below (length c.args.fields.now) c.loop-place.order.items c.args.order.now.items
          c.loop-place.place w.index.result.now (omega (arith, w.loop-place-test))
          c.loop-place.invariant.kept c.requires.numbers w.index.ensures)
          c.index-fields-number.is w.index-fields-index.is c.as_bytes-name.ensures
          w.as_bytes.ensures w.name_cmp.ensures w.in-Less.is)
          c.loop-place.invariant.passed
    ] in
    ap (with_names (names_of c.args.fields.now)) c.in_ok-insert.ensures.items
    ∙ stands
    ∙ ap (λ ns. placed c.args.fields.now ns c.args.number) c.loop-place.invariant.kept
