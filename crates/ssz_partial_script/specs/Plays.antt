-- Whole scripts for a partial tree: their steps, their job, and the pairs that they may hash.
use Rattle.std.specs.Prelude.{ℕ, Bool, true, false, if◌then◌else◌, List, [], ◌∷◌, length, map, take, sum_by, Option, Some, None, Ok, Err}
use Rattle.std.specs.List.{list_any}
use Rattle.ssz_chunk.specs.Index.{levels}
use Rattle.ssz_outside.specs.Content.{Content}
use Rattle.ssz_outside.specs.Job.{Job}
use Rattle.ssz_outside.specs.declared.status.Status.{Status}
use Rattle.ssz_outside.specs.declared.status.Status.TheVariants as status
use Rattle.ssz_schema.specs.Types.{SszType}
use Rattle.ssz_proof.specs.Calculation.{PairOf, indices_of}
use Rattle.ssz_proof.specs.Multiproof.{Multiproof}
use Rattle.ssz_script.specs.declared.partial.PartialStatement.{PartialStatement}
use Rattle.ssz_script.specs.declared.partial.PartialStatement.TheVariants.{Root}
use Rattle.ssz_script.specs.declared.reply.Reply.{Reply}
use Rattle.ssz_script.specs.Lines.{partial_statements_in}
use Rattle.ssz_script.specs.Texts.{reply_line}
use Rattle.ssz_partial_script.specs.Statements.{PartialRow, partial_refusal_reply, partial_row_said}

-- A line of a script that is neither blank nor a comment: its number, and its statement where it is
-- one of the grammar.
abbrev pub PartialScriptLine : Type 0
PartialScriptLine = ℕ × Option PartialStatement

-- A step: a line, what was known before it, and what it does.
pub record PartialTurn : Type 0 where
  pub line : PartialScriptLine
  pub before : Multiproof
  pub row : PartialRow

abbrev pub partial_step : PairOf → SszType → Multiproof → PartialScriptLine → PartialTurn
partial_step pair_of t proof line =
    record { line = line; before = proof; row = partial_row_said pair_of t proof line.1 }

-- the reply
abbrev pub partial_reply_in : ℕ → PartialRow → Reply
partial_reply_in line (Ok effect) = effect.reply
partial_reply_in line (Err refusal) = partial_refusal_reply line refusal

abbrev pub partial_reply_of : PartialTurn → Reply
partial_reply_of turn = partial_reply_in turn.line.0 turn.row

-- what is known after it: the same where it is refused
abbrev pub known_of_row : Multiproof → PartialRow → Multiproof
known_of_row proof (Ok effect) = effect.known
known_of_row proof (Err refusal) = proof

abbrev pub known_after : PartialTurn → Multiproof
known_after turn = known_of_row turn.before turn.row

abbrev pub is_partial_refused_row : PartialRow → Bool
is_partial_refused_row (Ok effect) = false
is_partial_refused_row (Err refusal) = true

abbrev pub is_partial_refused : PartialTurn → Bool
is_partial_refused turn = is_partial_refused_row turn.row

-- how many pairs it may hash: a `root` as many as the leaves of the proof have levels together
abbrev pub partial_charge_in : Multiproof → Option PartialStatement → ℕ
partial_charge_in proof (Some Root) = sum_by levels (indices_of proof.leaves)
partial_charge_in proof other = 0

abbrev pub partial_charge_of : PartialTurn → ℕ
partial_charge_of turn = partial_charge_in turn.before turn.line.1

abbrev pub partial_charges : List PartialTurn → ℕ
partial_charges turns = sum_by partial_charge_of turns

-- the steps of some lines, each from what is known after the one before
abbrev pub partial_play : PairOf → SszType → Multiproof → List PartialScriptLine → List PartialTurn
partial_play pair_of t proof [] = []
partial_play pair_of t proof (line ∷ lines) =
    let turn = partial_step pair_of t proof line in
    turn ∷ partial_play pair_of t (known_after turn) lines

-- what is known after some steps
abbrev pub known_last : Multiproof → List PartialTurn → Multiproof
known_last proof [] = proof
known_last proof (turn ∷ turns) = known_last (known_after turn) turns

-- the line that is printed
abbrev pub partial_shown : PartialTurn → List ℕ
partial_shown turn = reply_line (partial_reply_of turn)

-- all accepted, or one refused
abbrev pub partial_status_after : List PartialTurn → Status
partial_status_after turns =
    if list_any is_partial_refused turns then status.Refused else status.Accepted

-- Each step prints its line. No file is read or written.
abbrev pub partial_job_of : Content → List PartialTurn → Job
partial_job_of held turns = record {
  at = λ k. record { files = held; lines = map partial_shown (take k turns) };
  reads = λ k. false;
  saves = λ k. None;
  steps = length turns;
  status = partial_status_after turns;
}

-- the steps of a script over the tree of a value of the type, of which this is known at first
abbrev pub partial_turns_of_script : PairOf → SszType → Multiproof → List ℕ → List PartialTurn
partial_turns_of_script pair_of t proof script =
    partial_play pair_of t proof (partial_statements_in script)

abbrev pub partial_script_job : PairOf → SszType → Multiproof → Content → List ℕ → Job
partial_script_job pair_of t proof held script =
    partial_job_of held (partial_turns_of_script pair_of t proof script)
