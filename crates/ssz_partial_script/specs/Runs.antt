-- How a script runs, line after line.
use Rattle.std.specs.Prelude.{ℕ, ◌≡◌, ◌≤◌, ◌+◌, ◌||◌, ◌⊎◌, Bool, true, false, List, [], ◌∷◌, ◌++◌, map, take, Option, Some, None, Result, Ok, Err}
use Rattle.std.specs.List.{list_any}
use Rattle.ssz_outside.specs.Content.{Content}
use Rattle.ssz_outside.specs.Job.{CountsRun, Ends, steps_begun, steps_done}
use Rattle.ssz_outside.specs.Pieces.{Told, told_append}
use Rattle.ssz_outside.specs.declared.status.Status.{Status}
use Rattle.ssz_outside.specs.declared.status.Status.TheVariants as status
use Rattle.ssz_schema.specs.Types.{SszType}
use Rattle.ssz_schema.specs.Unfolding.{Types, type_of}
use Rattle.ssz_proof.specs.Calculation.{PairOf}
use Rattle.ssz_partial.specs.Partial.{Knowledge}
use Rattle.ssz_proof.specs.Multiproof.{Multiproof}
use Rattle.ssz_script.specs.declared.reply.Reply.{Reply}
use Rattle.ssz_script.specs.declared.reply.Reply.TheVariants.{Refused, Blind}
use Rattle.ssz_partial_script.specs.Plays.{PartialScriptLine, PartialTurn, partial_step, partial_play, partial_shown, known_after, known_last, is_partial_refused, partial_charges, partial_job_of}
use Rattle.ssz_partial_script.specs.declared.line.PartialLine.{PartialLine}

-- the next line was the first of the old ones, and the new ones come after it; there is none where
-- there were none
abbrev pub IsNextPartialLine : Option PartialLine → List PartialScriptLine → List PartialScriptLine
    → Type 0
IsNextPartialLine None old new = (old ≡ []) × (new ≡ [])
IsNextPartialLine (Some next) old new = old ≡ (next.number, next.statement) ∷ new

abbrev pub is_partial_refusal : Reply → Bool
is_partial_refusal (Refused line code fault) = true
is_partial_refusal (Blind line index) = true
is_partial_refusal other = false

-- the step of a line over a tree of which this is known
abbrev pub partial_turn_at : PairOf → Types → Knowledge → PartialScriptLine → PartialTurn
partial_turn_at pair_of types known line =
    partial_step pair_of (type_of types known.id) known.proof line

-- What is there before or after a run: what is known, the hasher's count, the pieces that the sink
-- has, and whether it always finds memory.
pub record PartialPoint : Type 0 where
  pub known : Multiproof
  pub hashed : ℕ
  pub pieces : Told
  pub ample : Bool

-- What is there between two lines of it: that, and whether a line was refused.
pub record PartialScene : Type 0 where
  pub known : Multiproof
  pub hashed : ℕ
  pub pieces : Told
  pub ample : Bool
  pub refused : Bool

abbrev pub partial_point : PartialScene → PartialPoint
partial_point scene = record {
  known = scene.known;
  hashed = scene.hashed;
  pieces = scene.pieces;
  ample = scene.ample;
}

-- the step was made and its line printed
pub record MakesPartialTurn (turn : PartialTurn) (before after : PartialScene) : Type 0 where
  pub known : after.known ≡ known_after turn
  pub printed : after.pieces ≡ told_append before.pieces (partial_shown turn ∷ [])
  pub answer : after.refused ≡ is_partial_refused turn || before.refused
  pub ample : after.ample ≡ before.ample

-- the step was made, and its line was printed in part
pub record TearsPartialLine (turn : PartialTurn) (before after : PartialScene) : Type 0 where
  pub count : ℕ
  pub printed : after.pieces ≡ told_append before.pieces (take count (partial_shown turn) ∷ [])
  pub known : after.known ≡ known_after turn

-- Memory was wanting and nothing was printed: nothing more is known, or the step was made and the
-- sink found none for its line.
pub record LacksPartialMemory (turn : PartialTurn) (before after : PartialScene) : Type 0 where
  pub printed : after.pieces ≡ before.pieces
  pub known : (after.known ≡ before.known)
      ⊎ ((after.known ≡ known_after turn) × (before.ample ≡ false))

-- a step ended the run
abbrev pub Breaks : PartialTurn → Status → PartialScene → PartialScene → Type 0
Breaks turn status.WriteFault before after = TearsPartialLine turn before after
Breaks turn status.Memory before after = LacksPartialMemory turn before after
Breaks turn other before after = ⊥

abbrev pub RunsTurn : PartialTurn → Result (Unit {0}) Status → PartialScene → PartialScene → Type 0
RunsTurn turn (Ok x) before after = MakesPartialTurn turn before after
RunsTurn turn (Err ended) before after = Breaks turn ended before after

-- the sink's count of faults, and no other
abbrev pub CountsPartialFaults : Result (Unit {0}) Status → ℕ → ℕ → Type 0
CountsPartialFaults (Ok x) old new = new ≡ old
CountsPartialFaults (Err ended) old new =
    (gets puts : ℕ) → CountsRun ended gets gets puts puts old new

-- These steps were made and printed.
pub record DoesPartialTurns (turns : List PartialTurn) (before after : PartialScene) : Type 0 where
  pub known : after.known ≡ known_last before.known turns
  pub printed : after.pieces ≡ told_append before.pieces (map partial_shown turns)
  pub answer : after.refused ≡ list_any is_partial_refused turns || before.refused

-- A run of these steps ended, as their job does.
pub record EndsPartial (held : Content) (turns : List PartialTurn) (ended : Status)
    (before after : PartialPoint) : Type 0 where
  pub ends : Ends before.ample ended (partial_job_of held turns) before.pieces after.pieces
      (Some held)
  -- what is known is what the steps leave that were done, also where a fault or out of memory
  -- ended it: no line behind them was done
  pub known : after.known ≡ known_last before.known (take (steps_done before.ample ended
      (partial_job_of held turns) before.pieces after.pieces (Some held) ends) turns)
  -- what was hashed is paid for by the steps that were begun
  pub paid : after.hashed ≤ before.hashed + partial_charges (take (steps_begun before.ample ended
      (partial_job_of held turns) before.pieces after.pieces (Some held) ends) turns)

-- All of them were, or their job was broken off.
abbrev pub RunsAll : List PartialTurn → Result (Unit {0}) Status → PartialScene → PartialScene
    → Type 0
RunsAll turns (Ok x) before after = DoesPartialTurns turns before after
RunsAll turns (Err ended) before after =
    (held : Content) → EndsPartial held turns ended (partial_point before) (partial_point after)

-- Of the lines at first some were done, in these steps, and the others are left.
pub record PartialRunReaches (pair_of : PairOf) (t : SszType) (lines left : List PartialScriptLine)
    (before after : PartialScene)
    : Type 0 where
  pub done : List PartialTurn
  pub turns : partial_play pair_of t before.known lines
      ≡ done ++ partial_play pair_of t after.known left
  pub known : after.known ≡ known_last before.known done
  pub printed : after.pieces ≡ told_append before.pieces (map partial_shown done)
  pub answer : after.refused ≡ list_any is_partial_refused done || before.refused
  pub ample : after.ample ≡ before.ample
  pub paid : after.hashed ≤ before.hashed + partial_charges done
