use Rattle.std.proofs.Common.{sym, ap, ◌∙◌}
use Rattle.ssz_clash.specs.Compared.{compared}
use Rattle.ssz_outside.proofs.Asking.{asks-nothing}
use Rattle.ssz_outside.specs.declared.status.Status.TheVariants.{Accepted}
use Rattle.ssz_schema.specs.Unfolding.{type_of}
use Rattle.ssz_tool.specs.ToDo.{line_of_value, printed}
use Rattle.ssz_tool.specs.declared.line.Line.TheVariants.{Compared}
use Rattle.ssz_tool.proofs.Beginnings.{line_does, line_does_as}
use Rattle.ssz_tool.proofs.Trees.{tree_does}
use Rattle.ssz_tool.proofs.top.do_task.Goals as goal

pub returns-in-Text-clause-ends : goal.returns-in-Text-clause-ends
returns-in-Text-clause-ends g c = λ reads held told.
    rw (told, c.in-Text.is, sym c.as_str.ensures.value)
    (line_does (g.S.Sink.ample c.args.out.now) held reads
    (record { text = c.as_str.result.now; status = Accepted }) c.say_line.result
    (g.H.PairHash.pairs c.args.hasher.now) (g.H.PairHash.pairs c.args.hasher.now)
    (g.S.Sink.pieces c.args.out.now) (g.S.Sink.pieces c.say_line.new.out)
    (c.say_line.ensures.ends held reads))

pub returns-in-Root-clause-ends : goal.returns-in-Root-clause-ends
returns-in-Root-clause-ends g c = λ reads held told.
    let t = type_of c.in-Root.schema c.in-Root.id in
    rw (told, c.in-Root.is) (line_does_as (g.S.Sink.ample c.args.out.now) held reads
    c.line_of_value-line.result
    (line_of_value g.H.PairHash.pair_of t c.in-Root.bytes.items) c.print_line.result
    (g.H.PairHash.pairs c.args.hasher.now) (g.H.PairHash.pairs c.line_of_value-line.new.hasher)
    (g.S.Sink.pieces c.args.out.now) (g.S.Sink.pieces c.print_line.new.out)
    (c.line_of_value-line.ensures.value
    ∙ ap (line_of_value g.H.PairHash.pair_of t) c.deref.ensures.value)
    (c.print_line.ensures.ends held reads))

pub returns-in-Verify-clause-ends : goal.returns-in-Verify-clause-ends
returns-in-Verify-clause-ends g c = λ reads held told.
    rw (told, c.in-Verify.is, sym c.line_of_proof-line.ensures.value)
    (line_does (g.S.Sink.ample c.args.out.now) held reads (printed c.line_of_proof-line.result)
    c.print_line-in-Verify.result
    (g.H.PairHash.pairs c.args.hasher.now) (g.H.PairHash.pairs c.line_of_proof-line.new.hasher)
    (g.S.Sink.pieces c.args.out.now) (g.S.Sink.pieces c.print_line-in-Verify.new.out)
    (c.print_line-in-Verify.ensures.ends held reads))

pub returns-in-Clash-clause-ends : goal.returns-in-Clash-clause-ends
returns-in-Clash-clause-ends g c = λ reads held told.
    rw (told, c.in-Clash.is) (line_does_as (g.S.Sink.ample c.args.out.now) held reads
    (Compared c.clash.result)
    (Compared (compared g.H.PairHash.pair_of c.in-Clash.one c.in-Clash.other))
    c.print_line-in-Clash.result
    (g.H.PairHash.pairs c.args.hasher.now) (g.H.PairHash.pairs c.clash.new.hasher)
    (g.S.Sink.pieces c.args.out.now) (g.S.Sink.pieces c.print_line-in-Clash.new.out)
    (ap Compared c.clash.ensures.exact) (c.print_line-in-Clash.ensures.ends held reads))

pub returns-in-Script-clause-ends : goal.returns-in-Script-clause-ends
returns-in-Script-clause-ends g c = λ reads held told.
    rw (c.in-Script.is, sym c.as_slice.ensures.value) (c.run_script.ensures.ends reads held told)

pub returns-in-Weave-clause-ends : goal.returns-in-Weave-clause-ends
returns-in-Weave-clause-ends g c = λ reads held told.
    rw c.in-Weave.is (c.run_weave.ensures.ends reads held told)

pub returns-in-Partial-clause-ends : goal.returns-in-Partial-clause-ends
returns-in-Partial-clause-ends g c = λ reads held told.
    let t = type_of c.in-Partial.schema c.in-Partial.partial.id in
    rw (told, c.in-Partial.is, sym c.as_slice-in-Partial.ensures.value)
    (tree_does (g.S.Sink.ample c.args.out.now) g.H.PairHash.pair_of t c.in-Partial.partial.proof
    c.as_slice-in-Partial.result.now held reads c.run_partial.result
    (g.H.PairHash.pairs c.args.hasher.now)
    (g.H.PairHash.pairs c.run_partial.new.hasher) (g.S.Sink.pieces c.args.out.now)
    (g.S.Sink.pieces c.run_partial.new.out) (c.run_partial.ensures.ends held).ends)

pub returns-in-Work-clause-ends : goal.returns-in-Work-clause-ends
returns-in-Work-clause-ends g c = λ reads held told.
    rw c.in-Work.is (c.run_work.ensures.ends reads held told)

pub returns-in-Text-clause-asks : goal.returns-in-Text-clause-asks
returns-in-Text-clause-asks g c =
    rw c.in-Text.is (λ held told. asks-nothing _ _)

pub returns-in-Root-clause-asks : goal.returns-in-Root-clause-asks
returns-in-Root-clause-asks g c =
    rw c.in-Root.is (λ held told. asks-nothing _ _)

pub returns-in-Verify-clause-asks : goal.returns-in-Verify-clause-asks
returns-in-Verify-clause-asks g c =
    rw c.in-Verify.is (λ held told. asks-nothing _ _)

pub returns-in-Clash-clause-asks : goal.returns-in-Clash-clause-asks
returns-in-Clash-clause-asks g c =
    rw c.in-Clash.is (λ held told. asks-nothing _ _)

pub returns-in-Partial-clause-asks : goal.returns-in-Partial-clause-asks
returns-in-Partial-clause-asks g c =
    rw c.in-Partial.is (λ held told. asks-nothing _ _)

pub returns-in-Script-clause-asks : goal.returns-in-Script-clause-asks
returns-in-Script-clause-asks g c =
    rw (c.in-Script.is, sym c.as_slice.ensures.value) c.run_script.ensures.asks

pub returns-in-Weave-clause-asks : goal.returns-in-Weave-clause-asks
returns-in-Weave-clause-asks g c =
    rw c.in-Weave.is c.run_weave.ensures.asks

pub returns-in-Work-clause-asks : goal.returns-in-Work-clause-asks
returns-in-Work-clause-asks g c =
    rw (c.in-Work.is, c.run_work.ensures.asks) (λ held told. asks-nothing _ _)
