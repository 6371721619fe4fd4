use Rattle.std.proofs.Common.{◌≤◌, ◌-◌, ℕ, []}
use Rattle.ssz_machine.specs.State.{State}
use Rattle.ssz_decisions.specs.Content.{rules_of}
use Rattle.ssz_engine.specs.Scripts.{point}
use Rattle.ssz_engine.specs.Works.{IsAtState}
use Rattle.ssz_engine.proofs.WorkRounds.{AreRounds}
use Rattle.ssz_engine.proofs.work_steps.work_rounds.Given as goal
use Rattle.std.specs.Prelude.{Ok}
use Rattle.ssz_engine.specs.Lines.{Tries}

-- the rounds so far were made
abbrev pub invariant-loop-round : goal.invariant-loop-round
invariant-loop-round g l = record {
  tries : Tries {T = ℕ} [] (Ok l.edits)
      (point g.F.Files g.H.PairHash l.fn.engine l.fn.files l.fn.hasher)
      (point g.F.Files g.H.PairHash l.engine l.files l.hasher);
  few : l.edits ≤ l._round;
  rounds : (state : State)
      → let before = point g.F.Files g.H.PairHash l.fn.engine l.fn.files l.fn.hasher in
      IsAtState state before
      → AreRounds (rules_of g.H.PairHash.pair_of l.fn.engine) l.count l.seed state
      (l.count - l._round) l.generator l.edits before
      (point g.F.Files g.H.PairHash l.engine l.files l.hasher);
  usable : g.F.Files.usable l.files;
}
