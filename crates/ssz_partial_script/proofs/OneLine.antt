-- Each line that is printed is one line.
use Rattle.std.proofs.Common.{ℕ, [], ◌∷◌, take, Option, Some, None}
use Rattle.std.specs.Prelude.{Result, Ok, Err}
use Rattle.ssz_bytes.specs.declared.fault.Fault.{Fault}
use Rattle.ssz_schema.specs.Types.{SszType}
use Rattle.ssz_value.specs.Faults.{first_fault}
use Rattle.ssz_value.specs.Reading.{value_in}
use Rattle.ssz_proof.specs.Calculation.{PairOf}
use Rattle.ssz_proof.specs.Multiproof.{Multiproof, known_of}
use Rattle.ssz_partial.specs.Partial.{FoundPart, got, settable, set_to, type_at}
use Rattle.ssz_partial.specs.declared.fault.PartialFault.{PartialFault}
use Rattle.ssz_partial.specs.declared.piece.Piece.{Piece}
use Rattle.ssz_script.specs.declared.partial.PartialStatement.{PartialStatement}
use Rattle.ssz_script.specs.declared.partial.PartialStatement.TheVariants.{Get, Set, Root}
use Rattle.ssz_script.specs.declared.reply.Reply.TheVariants.{Bytes}
use Rattle.ssz_script.specs.OneLine.{FitsLine}
use Rattle.ssz_script.proofs.OneLineLemmas.{replies_are_lines_lem}
use Rattle.ssz_partial_script.specs.Statements.{coded, blind, bad_bytes, PartialRow, ◌>>=◌, ◌>>◌, becomes, covered, partial_faultless, partial_row_said, partial_says}
use Rattle.ssz_partial_script.specs.Plays.{partial_step, partial_reply_in, partial_reply_of, known_after}
use Rattle.ssz_partial_script.specs.Laws.{PartialLinesAreLines}

abbrev Fitting : PartialRow → Type 0
Fitting (Ok effect) = FitsLine effect.reply
Fitting (Err refusal) = Unit {0}

get_fits : (proof : Multiproof) (answer : Result Piece PartialFault)
    → Fitting (covered answer
    >>= (λ piece. partial_says proof (Bytes (take piece.len piece.bytes.0))))
get_fits proof (Ok piece) = tt
get_fits proof (Err fault) = tt

set_fits : (place : Result FoundPart PartialFault) (fault : Option Fault)
    (made : Result Multiproof PartialFault)
    → Fitting (covered place >> (partial_faultless fault >> becomes made))
set_fits (Err refused) fault made = tt
set_fits (Ok place) (Some fault) made = tt
set_fits (Ok place) None (Ok new) = tt
set_fits (Ok place) None (Err refused) = tt

said_fits : (pair_of : PairOf) (t : SszType) (proof : Multiproof)
    (statement : Option PartialStatement) → Fitting (partial_row_said pair_of t proof statement)
said_fits pair_of t proof None = tt
said_fits pair_of t proof (Some (Get path)) = get_fits proof (got (known_of proof) t path)
said_fits pair_of t proof (Some (Set path literal)) =
    set_fits (settable (known_of proof) t path) (first_fault (type_at t path) 0 literal)
    (set_to proof t path (value_in (type_at t path) literal))
said_fits pair_of t proof (Some Root) = tt

row_fits : (line : ℕ) (row : PartialRow) → Fitting row → FitsLine (partial_reply_in line row)
row_fits line (Ok effect) fits = fits
row_fits line (Err (coded code)) fits = tt
row_fits line (Err (blind index)) fits = tt
row_fits line (Err (bad_bytes fault)) fits = tt

pub printed_lines_are_lines_lem : PartialLinesAreLines
printed_lines_are_lines_lem pair_of t proof [] = tt
printed_lines_are_lines_lem pair_of t proof (line ∷ lines) =
    let turn = partial_step pair_of t proof line in (
      replies_are_lines_lem (partial_reply_of turn)
          (row_fits line.0 (partial_row_said pair_of t proof line.1)
          (said_fits pair_of t proof line.1)),
      printed_lines_are_lines_lem pair_of t (known_after turn) lines,
    )
