-- The line of a step, printed.
use Rattle.std.proofs.Common.{ℕ, ◌≡◌, false, List, take, Option, Some, None, refl, ap, ◌∙◌, subst, inl, inr}
use Rattle.std.specs.Prelude.{◌||◌, ◌⊎◌, Result, Ok, Err}
use Rattle.ssz_outside.specs.Pieces.{Told}
use Rattle.ssz_outside.specs.declared.status.Status.{Status}
use Rattle.ssz_outside.specs.declared.status.Status.TheVariants as status
use Rattle.ssz_bytes.specs.declared.fault.Fault.{Fault}
use Rattle.ssz_schema.specs.Types.{SszType}
use Rattle.ssz_value.specs.Faults.{first_fault}
use Rattle.ssz_value.specs.Reading.{value_in}
use Rattle.ssz_proof.specs.Calculation.{PairOf}
use Rattle.ssz_proof.specs.Multiproof.{Multiproof, known_of}
use Rattle.ssz_partial.specs.Partial.{FoundPart, got, settable, set_to, type_at}
use Rattle.ssz_partial.specs.declared.fault.PartialFault.{PartialFault}
use Rattle.ssz_partial.specs.declared.piece.Piece.{Piece}
use Rattle.ssz_script.specs.declared.partial.PartialStatement.{PartialStatement}
use Rattle.ssz_script.specs.declared.partial.PartialStatement.TheVariants.{Get, Set, Root}
use Rattle.ssz_script.specs.declared.reply.Reply.{Reply}
use Rattle.ssz_script.specs.declared.reply.Reply.TheVariants.{Bytes, Done}
use Rattle.ssz_script.specs.Texts.{reply_line}
use Rattle.ssz_partial_script.specs.Statements.{coded, blind, bad_bytes, PartialRow, ◌>>=◌, ◌>>◌, covered, partial_faultless, becomes, partial_row_said, partial_says}
use Rattle.ssz_partial_script.specs.Plays.{PartialScriptLine, PartialTurn, partial_step, partial_reply_in, partial_reply_of, known_after, known_of_row, is_partial_refused, is_partial_refused_row}
use Rattle.ssz_outside.specs.Printed.{CountsPrint, PrintsLine}
use Rattle.ssz_partial_script.specs.Runs.{CountsPartialFaults, PartialScene, RunsTurn, is_partial_refusal}

-- no reply to an accepted statement is a refusal
abbrev IsNoRefusal : PartialRow → Type 0
IsNoRefusal (Ok effect) = is_partial_refusal effect.reply ≡ false
IsNoRefusal (Err refusal) = Unit {0}

get_accepts : (proof : Multiproof) (answer : Result Piece PartialFault)
    → IsNoRefusal (covered answer
    >>= (λ piece. partial_says proof (Bytes (take piece.len piece.bytes.0))))
get_accepts proof (Ok piece) = refl
get_accepts proof (Err fault) = tt

set_accepts : (place : Result FoundPart PartialFault) (fault : Option Fault)
    (made : Result Multiproof PartialFault)
    → IsNoRefusal (covered place >> (partial_faultless fault >> becomes made))
set_accepts (Err refused) fault made = tt
set_accepts (Ok place) (Some fault) made = tt
set_accepts (Ok place) None (Ok new) = refl
set_accepts (Ok place) None (Err refused) = tt

said_accepts : (pair_of : PairOf) (t : SszType) (proof : Multiproof)
    (statement : Option PartialStatement) → IsNoRefusal (partial_row_said pair_of t proof statement)
said_accepts pair_of t proof None = tt
said_accepts pair_of t proof (Some (Get path)) = get_accepts proof (got (known_of proof) t path)
said_accepts pair_of t proof (Some (Set path literal)) =
    set_accepts (settable (known_of proof) t path) (first_fault (type_at t path) 0 literal)
    (set_to proof t path (value_in (type_at t path) literal))
said_accepts pair_of t proof (Some Root) = refl

row_refuses : (line : ℕ) (row : PartialRow) → IsNoRefusal row
    → is_partial_refusal (partial_reply_in line row) ≡ is_partial_refused_row row
row_refuses line (Ok effect) accepts = accepts
row_refuses line (Err (coded code)) accepts = refl
row_refuses line (Err (blind index)) accepts = refl
row_refuses line (Err (bad_bytes fault)) accepts = refl

-- an accepted statement says `ok`, or leaves what is known
abbrev SaysDone : Multiproof → PartialRow → Type 0
SaysDone proof (Ok effect) = (effect.known ≡ proof) ⊎ (effect.reply ≡ Done)
SaysDone proof (Err refusal) = Unit {0}

get_keeps : (proof : Multiproof) (answer : Result Piece PartialFault)
    → SaysDone proof (covered answer
    >>= (λ piece. partial_says proof (Bytes (take piece.len piece.bytes.0))))
get_keeps proof (Ok piece) = inl refl
get_keeps proof (Err fault) = tt

set_keeps : (proof : Multiproof) (place : Result FoundPart PartialFault) (fault : Option Fault)
    (made : Result Multiproof PartialFault)
    → SaysDone proof (covered place >> (partial_faultless fault >> becomes made))
set_keeps proof (Err refused) fault made = tt
set_keeps proof (Ok place) (Some fault) made = tt
set_keeps proof (Ok place) None (Ok new) = inr refl
set_keeps proof (Ok place) None (Err refused) = tt

said_keeps : (pair_of : PairOf) (t : SszType) (proof : Multiproof)
    (statement : Option PartialStatement)
    → SaysDone proof (partial_row_said pair_of t proof statement)
said_keeps pair_of t proof None = tt
said_keeps pair_of t proof (Some (Get path)) = get_keeps proof (got (known_of proof) t path)
said_keeps pair_of t proof (Some (Set path literal)) =
    set_keeps proof (settable (known_of proof) t path) (first_fault (type_at t path) 0 literal)
    (set_to proof t path (value_in (type_at t path) literal))
said_keeps pair_of t proof (Some Root) = inl refl

-- a reply refuses where its step is refused
turn_refuses : (pair_of : PairOf) (t : SszType) (proof : Multiproof) (line : PartialScriptLine)
    → is_partial_refusal (partial_reply_of (partial_step pair_of t proof line))
    ≡ is_partial_refused (partial_step pair_of t proof line)
turn_refuses pair_of t proof line =
    row_refuses line.0 (partial_row_said pair_of t proof line.1)
    (said_accepts pair_of t proof line.1)

-- the step was made, and its reply was printed or not
pub printed_turn : (pair_of : PairOf) (t : SszType) (line : PartialScriptLine)
    (before after : PartialScene)
    (reply : Reply) (result : Result (Unit {0}) Status)
    → reply ≡ partial_reply_of (partial_step pair_of t before.known line)
    → after.known ≡ known_after (partial_step pair_of t before.known line)
    → after.refused ≡ (is_partial_refusal reply || before.refused)
    → after.ample ≡ before.ample
    → (result ≡ Err status.Memory → reply ≡ Done → before.ample ≡ false)
    → PrintsLine result (reply_line reply) before.pieces after.pieces
    → RunsTurn (partial_step pair_of t before.known line) result before after
printed_turn pair_of t line before after reply result said known answer ample memory prints =
    by result (λ none is. memory none (said ∙ is))
    (subst (λ (r : Reply). PrintsLine result (reply_line r) before.pieces after.pieces) said
    prints)
  where
    turn : PartialTurn
    turn = partial_step pair_of t before.known line

    -- a reply that found no memory was not `ok`, and its step knows no more than before; or it was
    by_row : (row : PartialRow) → SaysDone before.known row
        → after.known ≡ known_of_row before.known row
        → (partial_reply_in line.0 row ≡ Done → before.ample ≡ false)
        → (after.known ≡ before.known)
        ⊎ ((after.known ≡ known_of_row before.known row) × (before.ample ≡ false))
    by_row (Err refusal) keeps is lacks = inl is
    by_row (Ok effect) (inl same) is lacks = inl (is ∙ same)
    by_row (Ok effect) (inr done) is lacks = inr (is, lacks done)

    by : (result : Result (Unit {0}) Status)
        → (result ≡ Err status.Memory → partial_reply_of turn ≡ Done → before.ample ≡ false)
        → PrintsLine result (reply_line (partial_reply_of turn)) before.pieces after.pieces
        → RunsTurn turn result before after
    by (Ok done) lacks printed = record {
      known = known;
      printed = printed;
      answer = answer ∙ ap (λ b. b || before.refused)
          (ap is_partial_refusal said ∙ turn_refuses pair_of t before.known line);
      ample = ample;
    }
    by (Err status.WriteFault) lacks (count, printed) =
        record { count = count; printed = printed; known = known }
    by (Err status.Memory) lacks printed = record {
      printed = printed;
      known = by_row (partial_row_said pair_of t before.known line.1)
          (said_keeps pair_of t before.known line.1) known (lacks refl);
    }
    by (Err status.Accepted) lacks printed = absurd printed
    by (Err status.Refused) lacks printed = absurd printed
    by (Err status.Usage) lacks printed = absurd printed
    by (Err status.SchemaFault) lacks printed = absurd printed
    by (Err status.ReadFault) lacks printed = absurd printed

-- the fault that ended a print was counted, and no other
pub printed_counts : (result : Result (Unit {0}) Status) (line : List ℕ) (old new : Told)
    (before now : ℕ) → PrintsLine result line old new → CountsPrint result before now
    → CountsPartialFaults result before now
printed_counts (Ok done) line old new before now prints sinks = sinks
printed_counts (Err status.WriteFault) line old new before now prints sinks = λ gets puts.
    (refl, inr (refl, sinks))
printed_counts (Err status.Memory) line old new before now prints sinks = λ gets puts.
    (refl, refl, sinks)
printed_counts (Err status.Accepted) line old new before now prints sinks = absurd prints
printed_counts (Err status.Refused) line old new before now prints sinks = absurd prints
printed_counts (Err status.Usage) line old new before now prints sinks = absurd prints
printed_counts (Err status.SchemaFault) line old new before now prints sinks = absurd prints
printed_counts (Err status.ReadFault) line old new before now prints sinks = absurd prints
