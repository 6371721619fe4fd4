use Rattle.ssz_types.proofs.RepeatLemmas.{SearchedTo-more, repeat_found}
use Rattle.ssz_types.proofs.repeats.first_repeat.Goals as goal

pub returns-then-not-branch : goal.returns-then-not-branch
returns-then-not-branch c =
    repeat_found c.loop-i.seen c.args.fields.now c.loop-i.i c.index-fields-i.result
    c.as_bytes.result c.in_ok-insert.field-0 c.loop-i.invariant c.loop-i-test.true
    c.index-fields-i.is
    c.as_bytes.ensures c.in_ok-insert.ensures.added c.if-not-branch.true

pub loop-i-preserved : goal.loop-i-preserved
loop-i-preserved c =
    SearchedTo-more c.loop-i.seen c.insert.new.self c.args.fields.now c.loop-i.i
    c.index-fields-i.result c.as_bytes.result c.in_ok-insert.field-0 c.loop-i.invariant
    c.loop-i-test.true c.index-fields-i.is
    c.as_bytes.ensures c.in_ok-insert.ensures.added c.if-not-branch.false
    c.in_ok-insert.ensures.updates
