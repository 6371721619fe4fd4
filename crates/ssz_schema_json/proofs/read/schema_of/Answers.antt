use Rattle.std.proofs.Common.{◌∙◌}
use Rattle.ssz_schema_json.proofs.Adding.{adds_start, adds_more, adds_fault, adds_end}
use Rattle.ssz_schema_json.proofs.read.schema_of.Goals as goal

pub loop-name-init : goal.loop-name-init
loop-name-init c =
    let gives = c.into_iter-name-iterator.ensures.into_iter_gives in
    adds_start c.args.definitions c.into_iter-name-iterator.result c.in_ok-schema.schema
    c.in_ok-schema.ensures gives.0 (gives.1 ∙ c.args.definitions.items.ok.0)

pub returns-in-Err-Fault : goal.returns-in-Err-Fault
returns-in-Err-Fault c =
    adds_fault c.args.definitions c.loop-name.number c.loop-name.name-iterator c.next.new.self
    c.in-Some.name c.in-Some.form c.loop-name.schema c.loop-name.invariant c.in-Some.ensures.steps
    c.in-Err-Fault.fault (rw c.in-Err-Fault.field-0-is at c.in-Err-Fault.ensures.answer)

pub loop-name-preserved : goal.loop-name-preserved
loop-name-preserved c =
    adds_more c.args.definitions c.loop-name.number c.loop-name.name-iterator c.next.new.self
    c.in-Some.name c.in-Some.form c.loop-name.schema c.loop-name.invariant c.in-Some.ensures.steps
    c.add.new.self c.in-Ok.field-0 c.in-Ok.ensures.answer c.in-Ok.ensures.known

pub returns : goal.returns
returns c =
    adds_end c.args.definitions c.loop-name.number c.loop-name.name-iterator c.loop-name.schema
    c.loop-name.invariant c.in-None.ensures.steps.0
