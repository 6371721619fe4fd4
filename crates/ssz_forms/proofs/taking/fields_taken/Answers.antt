use Rattle.ssz_value.proofs.PartLemmas.{part_known}
use Rattle.ssz_forms.proofs.Taken.{TakenSoFar-more, TakenSoFar-end}
use Rattle.ssz_forms.proofs.taking.fields_taken.Goals as goal

pub field_taken-requires-clause-field : goal.field_taken-requires-clause-field
field_taken-requires-clause-field c =
    part_known _ c.args.new.now c.loop-field.field-index c.field-item.result
    c.loop-field-test.true c.field-item.is c.requires.new

pub loop-field-preserved : goal.loop-field-preserved
loop-field-preserved c =
    TakenSoFar-more c.args.schema.now c.args.old.now c.args.new.now c.loop-field.field-index
    c.loop-field.taken.items c.push.new.self.items c.loop-field.forms c.field_taken.new.forms
    c.field-item.result c.in_ok-number.number c.loop-field.invariant c.loop-field-test.true
    c.field-item.is c.in_ok-number.ensures.found c.in_ok-push.ensures.items
    c.field_taken.ensures.right

pub returns : goal.returns
returns c =
    TakenSoFar-end c.args.schema.now c.args.old.now c.args.new.now c.loop-field.field-index
    c.loop-field.taken.items c.loop-field.forms c.loop-field.invariant c.loop-field-test.false
