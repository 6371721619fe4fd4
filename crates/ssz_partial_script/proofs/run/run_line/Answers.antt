use Rattle.std.proofs.Common.{ap, ap₂, ◌∙◌}
use Rattle.std.specs.Prelude.{◌||◌}
use Rattle.ssz_schema.specs.Unfolding.{type_of}
use Rattle.ssz_script.specs.Texts.{reply_line}
use Rattle.ssz_partial.specs.Partial.{Knowledge}
use Rattle.ssz_partial_script.specs.Runs.{PartialScene}
use Rattle.ssz_partial_script.proofs.Printing.{printed_counts, printed_turn}
use Rattle.ssz_partial_script.proofs.run.run_line.Goals as goal

pub returns-in-Ok-clause-runs : goal.returns-in-Ok-clause-runs
returns-in-Ok-clause-runs g c =
    let before : PartialScene = record {
      known = c.args.partial.now.proof;
      hashed = g.H.PairHash.pairs c.args.hasher.now;
      pieces = g.S.Sink.pieces c.args.out.now;
      ample = g.S.Sink.ample c.args.out.now;
      refused = c.args.replies.now.refused;
    } in
    let after : PartialScene = record {
      known = c.reply_to.new.partial.proof;
      hashed = g.H.PairHash.pairs c.reply_to.new.hasher;
      pieces = g.S.Sink.pieces c.print_reply.new.out;
      ample = g.S.Sink.ample c.print_reply.new.out;
      refused = c.print_reply.new.replies.refused;
    } in
    printed_turn g.H.PairHash.pair_of (type_of c.args.schema.now c.args.partial.now.id)
    (c.args.line.now.number, c.args.line.now.statement) before after c.in-Ok.reply
    c.print_reply.result c.in-Ok.ensures.reply
    (ap (λ (k : Knowledge). k.proof) c.in-Ok.ensures.known)
    (c.print_reply.ensures.refused
    ∙ ap₂ (λ a b. a || b) c.is_refusal.ensures c.begin.ensures.refused) c.print_reply.ensures.ample
    c.print_reply.ensures.memory c.print_reply.ensures.prints

pub returns-in-Ok-clause-counts : goal.returns-in-Ok-clause-counts
returns-in-Ok-clause-counts g c =
    printed_counts c.print_reply.result (reply_line c.in-Ok.reply)
    (g.S.Sink.pieces c.args.out.now) (g.S.Sink.pieces c.print_reply.new.out)
    (g.S.Sink.faults c.args.out.now) (g.S.Sink.faults c.print_reply.new.out)
    c.print_reply.ensures.prints c.print_reply.ensures.counts
