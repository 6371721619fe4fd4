use Rattle.std.proofs.Common.{◌≤◌, ◌-◌, drop, vec_len}
use Rattle.ssz_machine.specs.Plays.{base_writer, rest_from}
use Rattle.ssz_machine.specs.declared.place.Place.TheVariants.{Weave}
use Rattle.ssz_engine.specs.Points.{RunsSome}
use Rattle.ssz_engine.specs.Scripts.{scene}
use Rattle.ssz_engine.proofs.turns.run_rest.Given as goal

-- the scripts from this writer on are left
abbrev pub invariant-loop-writer : goal.invariant-loop-writer
invariant-loop-writer g l = record {
  few : vec_len l.scripts ≤ base_writer;
  within : l.number ≤ vec_len l.scripts;
  runs : RunsSome g.H.PairHash.pair_of Weave (rest_from 0 l.fn.scripts.items)
      (rest_from l.number (drop l.number l.scripts.items)) l.fn.replies.refused l.replies.refused
      (scene g.F.Files g.S.Sink g.H.PairHash l.fn.engine l.fn.files l.fn.out l.fn.hasher)
      (scene g.F.Files g.S.Sink g.H.PairHash l.engine l.files l.out l.hasher);
  files_usable : g.F.Files.usable l.files;
  sink_usable : g.S.Sink.usable l.out;
}

abbrev pub decreases-loop-writer : goal.decreases-loop-writer
decreases-loop-writer g l = vec_len l.scripts - l.number
