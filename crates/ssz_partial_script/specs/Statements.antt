-- What the statements of a script for a partial tree do (this project's).
use Rattle.std.specs.Prelude.{ℕ, List, take, Option, Some, None, Result, Ok, Err}
pub use Rattle.ssz_bind.specs.Results.{◌>>=◌, ◌>>◌}
use Rattle.ssz_bytes.specs.declared.fault.Fault.{Fault}
use Rattle.ssz_schema.specs.Types.{SszType}
use Rattle.ssz_schema.specs.Paths.{Path}
use Rattle.ssz_value.specs.Faults.{first_fault}
use Rattle.ssz_value.specs.Reading.{value_in}
use Rattle.ssz_proof.specs.Calculation.{PairOf, calculate_root}
use Rattle.ssz_proof.specs.Multiproof.{Multiproof, known_of}
use Rattle.ssz_partial.specs.Partial.{got, settable, set_to, type_at}
use Rattle.ssz_partial.specs.declared.fault.PartialFault.{PartialFault}
use Rattle.ssz_partial.specs.declared.fault.PartialFault.TheVariants.{BadPath, NotThat, Blind, Absent}
use Rattle.ssz_script.specs.declared.partial.PartialStatement.{PartialStatement}
use Rattle.ssz_script.specs.declared.partial.PartialStatement.TheVariants.{Get, Set, Root}
use Rattle.ssz_script.specs.declared.reply.Reply.{Reply}
use Rattle.ssz_script.specs.declared.reply.Reply.TheVariants.{Done, Bytes, Root as RootIs, Refused, Blind as BlindTo}
use Rattle.ssz_script.specs.declared.reply.TheConstants.Reply.{SYNTAX, BAD_PATH, NOT_THAT, ABSENT, BAD_LITERAL}

-- why a statement is refused: a code alone, the index of a node that is needed and not known, or
-- the first fault of the literal
pub data PartialRefusal : Type 0 where
  coded : ℕ → PartialRefusal
  blind : ℕ → PartialRefusal
  bad_bytes : Fault → PartialRefusal

-- the reply to the statement of this line that is refused
abbrev pub partial_refusal_reply : ℕ → PartialRefusal → Reply
partial_refusal_reply line (coded code) = Refused line code None
partial_refusal_reply line (blind index) = BlindTo line index
partial_refusal_reply line (bad_bytes fault) = Refused line BAD_LITERAL (Some fault)

-- something, or the first refusal
abbrev pub PartialOutcome : Type 0 → Type 0
PartialOutcome A = Result A PartialRefusal

-- how a fault of the tree is refused
abbrev pub refusal_of : PartialFault → PartialRefusal
refusal_of BadPath = coded BAD_PATH
refusal_of NotThat = coded NOT_THAT
refusal_of (Blind index) = blind index
refusal_of Absent = coded ABSENT

-- what the tree answers, or the refusal of its fault
abbrev pub covered : {A : Type 0} → Result A PartialFault → PartialOutcome A
covered (Ok x) = Ok x
covered (Err fault) = Err (refusal_of fault)

-- refused where the bytes have a fault
abbrev pub partial_faultless : Option Fault → PartialOutcome (Unit {0})
partial_faultless None = Ok tt
partial_faultless (Some fault) = Err (bad_bytes fault)

-- What an accepted statement does: its reply, and what is known after it.
pub record PartialEffect : Type 0 where
  pub reply : Reply
  pub known : Multiproof

-- What a statement does, or why it is refused.
abbrev pub PartialRow : Type 0
PartialRow = PartialOutcome PartialEffect

-- the reply, where this is known then
abbrev pub partial_says : Multiproof → Reply → PartialRow
partial_says proof reply = Ok (record { reply = reply; known = proof })

-- `get P`: the encoding of the basic part, or of the bit, at P
abbrev pub get : SszType → Multiproof → Path → PartialRow
get t proof path = do
  piece ← covered (got (known_of proof) t path)
  partial_says proof (Bytes (take piece.len piece.bytes.0))

-- what is known then, and no more to say
abbrev pub becomes : Result Multiproof PartialFault → PartialRow
becomes made = do
  new ← covered made
  partial_says new Done

-- `set P LIT`: the value that the literal encodes takes the place of that part. Whether a value can
-- be set there is tested first, then the literal.
abbrev pub partial_set : SszType → Multiproof → Path → List ℕ → PartialRow
partial_set t proof path literal = do
  covered (settable (known_of proof) t path)
  partial_faultless (first_fault (type_at t path) 0 literal)
  becomes (set_to proof t path (value_in (type_at t path) literal))

-- `root`: the root that is calculated from what is known
abbrev pub partial_root_row : PairOf → Multiproof → PartialRow
partial_root_row pair_of proof =
    partial_says proof (RootIs (record { 0 = calculate_root pair_of (known_of proof) 1 }))

-- What a statement does to what is known of the tree of a value of the type.
abbrev pub partial_effect : PairOf → SszType → Multiproof → PartialStatement → PartialRow
partial_effect pair_of t proof (Get path) = get t proof path
partial_effect pair_of t proof (Set path literal) = partial_set t proof path literal
partial_effect pair_of t proof Root = partial_root_row pair_of proof

-- a line that is not of the grammar is refused
abbrev pub partial_row_said : PairOf → SszType → Multiproof → Option PartialStatement → PartialRow
partial_row_said pair_of t proof None = Err (coded SYNTAX)
partial_row_said pair_of t proof (Some statement) = partial_effect pair_of t proof statement
