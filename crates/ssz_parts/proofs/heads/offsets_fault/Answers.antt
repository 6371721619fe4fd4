use Rattle.std.proofs.Common.{◌∙◌, ◌==◌, ◌*◌, ap, sym, arith, eqb-true}
use Rattle.std.specs.Result.{result_err}
use Rattle.ssz_value.proofs.Cut.{chosen_none_of}
use Rattle.ssz_parts.proofs.ElementFaults.{head_fault-short, head_fault-first, later-start, later-found, later-next}
use Rattle.ssz_parts.proofs.heads.offsets_fault.Goals as goal

pub returns-then-len-count : goal.returns-then-len-count
returns-then-len-count c =
    sym (head_fault-short c.args.count c.args.start c.args.bytes.now (omega arith))

pub returns-in-Err : goal.returns-in-Err
returns-in-Err c =
    sym (head_fault-first c.args.count c.args.start c.offset_at-before.result c.args.bytes.now
    c.in-Err.fault (omega arith) (omega arith)
    c.offset_at-before.ensures (sym c.check_first.ensures ∙ ap result_err c.in-Err.is))

pub loop-i-init : goal.loop-i-init
loop-i-init c =
    let first = chosen_none_of (c.offset_at-before.result == 4 * c.args.count) _ _
    (sym c.check_first.ensures ∙ ap result_err c.in_default.is) in
    later-start c.args.count c.offset_at-before.result c.args.start c.args.bytes.now (omega arith)
    (omega arith) c.offset_at-before.ensures
    (eqb-true _ _ first.0)

pub loop-i-preserved : goal.loop-i-preserved
loop-i-preserved c =
    later-next c.args.count c.loop-i.i c.loop-i.before c.offset_at-offset.result c.args.start
    c.args.bytes.now (omega arith)
    c.offset_at-offset.ensures (sym c.check_next.ensures ∙ ap result_err c.in_default-check_next.is)
    ∙ c.loop-i.invariant

pub returns-in-Err-check_next : goal.returns-in-Err-check_next
returns-in-Err-check_next c =
    sym (sym c.loop-i.invariant
    ∙ later-found c.args.count c.loop-i.i c.loop-i.before c.offset_at-offset.result c.args.start
    c.args.bytes.now c.in-Err-check_next.fault (omega arith)
    c.offset_at-offset.ensures (sym c.check_next.ensures ∙ ap result_err c.in-Err-check_next.is))
