use Rattle.std.proofs.Common.{length}
use Rattle.ssz_machine.specs.Plays.{all_of}
use Rattle.ssz_engine.specs.Lines.{LeavesOthers}
use Rattle.ssz_engine.specs.Points.{RunsSome}
use Rattle.ssz_engine.specs.Scripts.{scene}
use Rattle.ssz_engine.proofs.run.run_lines.Given as goal

-- the lines that were taken were done
abbrev pub invariant-loop-line : goal.invariant-loop-line
invariant-loop-line g l = record {
  runs : RunsSome g.H.PairHash.pair_of l.fn.place (all_of l.fn.writer.0 l.fn.lines)
      (all_of l.fn.writer.0 l.lines) l.fn.replies.refused l.replies.refused
      (scene g.F.Files g.S.Sink g.H.PairHash l.fn.engine l.fn.files l.fn.out l.fn.hasher)
      (scene g.F.Files g.S.Sink g.H.PairHash l.engine l.files l.out l.hasher);
  others : LeavesOthers l.fn.writer.0 l.fn.engine.entries l.engine.entries;
  files_usable : g.F.Files.usable l.files;
  sink_usable : g.S.Sink.usable l.out;
}

abbrev pub decreases-loop-line : goal.decreases-loop-line
decreases-loop-line g l = length l.lines
