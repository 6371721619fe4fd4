use Rattle.std.proofs.Common.{◌≡◌, ◌≤◌, length}
use Rattle.ssz_schema.specs.Unfolding.{type_of}
use Rattle.ssz_script.specs.Grammar.{partial_statements}
use Rattle.ssz_script.specs.Lines.{lines_said}
use Rattle.ssz_partial_script.specs.Runs.{PartialRunReaches}
use Rattle.ssz_partial_script.proofs.run.run_lines.Given as goal

-- the lines that were taken were done, and no fault was counted
abbrev pub invariant-loop-line : goal.invariant-loop-line
invariant-loop-line g l = record {
  comes : PartialRunReaches g.H.PairHash.pair_of (type_of l.schema l.fn.partial.id)
      (lines_said partial_statements l.fn.lines) (lines_said partial_statements l.lines)
      (record {
        known = l.fn.partial.proof;
        hashed = g.H.PairHash.pairs l.fn.hasher;
        pieces = g.S.Sink.pieces l.fn.out;
        ample = g.S.Sink.ample l.fn.out;
        refused = l.fn.replies.refused;
      })
      (record {
        known = l.partial.proof;
        hashed = g.H.PairHash.pairs l.hasher;
        pieces = g.S.Sink.pieces l.out;
        ample = g.S.Sink.ample l.out;
        refused = l.replies.refused;
      });
  same : l.partial.id ≡ l.fn.partial.id;
  rises : g.H.PairHash.pairs l.fn.hasher ≤ g.H.PairHash.pairs l.hasher;
  sinks : g.S.Sink.faults l.out ≡ g.S.Sink.faults l.fn.out;
  usable : g.S.Sink.usable l.out;
}

abbrev pub decreases-loop-line : goal.decreases-loop-line
decreases-loop-line g l = length (lines_said partial_statements l.lines)
