use Rattle.std.proofs.Common.{◌≡◌, drop, vec_len}
use Rattle.ssz_machine.specs.Plays.{woven}
use Rattle.ssz_machine.specs.declared.place.Place.TheVariants.{Weave}
use Rattle.ssz_engine.specs.Points.{RunsSome}
use Rattle.ssz_engine.specs.Scripts.{scene}
use Rattle.ssz_engine.proofs.turns.run_turns.Given as goal

-- the turns so far were taken
abbrev pub invariant-loop-number : goal.invariant-loop-number
invariant-loop-number g l = record {
  runs : RunsSome g.H.PairHash.pair_of Weave (woven l.order l.fn.scripts.items)
      (woven (drop l.number-index l.order) l.scripts.items) l.fn.replies.refused l.replies.refused
      (scene g.F.Files g.S.Sink g.H.PairHash l.fn.engine l.fn.files l.fn.out l.fn.hasher)
      (scene g.F.Files g.S.Sink g.H.PairHash l.engine l.files l.out l.hasher);
  count : vec_len l.scripts ≡ vec_len l.fn.scripts;
  files_usable : g.F.Files.usable l.files;
  sink_usable : g.S.Sink.usable l.out;
}
