use Rattle.std.proofs.Common.{◌∙◌, ◌+◌, ℕ, List, Some, None, ap, sym, length, cond, ltb}
use Rattle.std.proofs.lemmas.List.{take_rest}
use Rattle.ssz_bytes.specs.Faults.{extra}
use Rattle.ssz_parts.proofs.UnionLemmas.{union_past, union_none, union_some, some_byte}
use Rattle.ssz_value.proofs.OptionLemmas.{option_below}
use Rattle.ssz_parts.proofs.unions.union_head.Goals as goal

pub returns-in-None-clause-err : goal.returns-in-None-clause-err
returns-in-None-clause-err c = λ trees.
    union_past trees c.args.options.now c.args.start c.args.bytes.now
    (some_byte c.args.bytes.now (sym c.if-is_empty.ensures)) c.in-None.ensures

pub returns-in-Some-None-clause-err : goal.returns-in-Some-None-clause-err
returns-in-Some-None-clause-err c = λ trees.
    union_none trees c.args.options.now c.args.start c.args.bytes.now
    (some_byte c.args.bytes.now (sym c.if-is_empty.ensures))
    (ap Some (sym c.in-Some-None.field-0-is) ∙ c.in-Some-None.ensures)
    ∙ sym (c.none_fault.ensures
    ∙ ap (λ (b : List ℕ). cond (ltb 0 (length b)) (extra (c.args.start + 1)) None)
    (take_rest c.args.bytes.now 1))

pub returns-in-Some-Some-clause-ok : goal.returns-in-Some-Some-clause-ok
returns-in-Some-Some-clause-ok c = λ trees.
    union_some trees c.args.options.now c.args.start c.in-Some-Some.option c.args.bytes.now
    (some_byte c.args.bytes.now (sym c.if-is_empty.ensures))
    (ap Some (sym c.in-Some-Some.field-0-is) ∙ c.in-Some-Some.ensures)

pub returns-in-Some-Some-clause-below : goal.returns-in-Some-Some-clause-below
returns-in-Some-Some-clause-below c = λ count all.
    option_below c.args.options.now _ c.in-Some-Some.option count
    (ap Some (sym c.in-Some-Some.field-0-is) ∙ c.in-Some-Some.ensures) all
