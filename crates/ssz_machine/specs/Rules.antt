-- What stays the same while a script runs, and what a statement answers.
use Rattle.std.specs.Prelude.{ℕ, Bool, Option, Some, None, Result, Ok, Err, if◌then◌else◌}
pub use Rattle.ssz_bind.specs.Results.{◌>>=◌, ◌>>◌}
use Rattle.ssz_outside.specs.Job.{Save}
use Rattle.ssz_proof.specs.Calculation.{PairOf}
use Rattle.ssz_schema.specs.Types.{SszType}
use Rattle.ssz_bytes.specs.declared.fault.Fault.{Fault}
use Rattle.ssz_script.specs.declared.reply.Reply.{Reply}
use Rattle.ssz_script.specs.declared.reply.Reply.TheVariants.{Done, Refused, BadJson}
use Rattle.ssz_script.specs.declared.reply.TheConstants.Reply.{BAD_LITERAL}
use Rattle.ssz_value.specs.Values.{SszValue}
use Rattle.ssz_value.specs.declared.edit_fault.EditFault.{EditFault}
use Rattle.ssz_value.specs.declared.edit_fault.EditFault.TheVariants as edit_fault
use Rattle.ssz_value_json.specs.declared.fault.JsonFault.{JsonFault}
use Rattle.ssz_script.specs.declared.reply.TheConstants.Reply as code
use Rattle.ssz_machine.specs.State.{Name, Versions, with_version}

-- the types by their names, the most bytes of an encoding that is read or written, and what is made
-- of two chunks
pub record Rules : Type 0 where
  pub type_named : Name → Option SszType
  pub max_bytes : ℕ
  pub pair_of : PairOf

-- why a statement is refused: a code alone, or the first fault of bytes, or of a JSON text
pub data Refusal : Type 0 where
  coded : ℕ → Refusal
  bad_bytes : Fault → Refusal
  bad_json : JsonFault → Refusal

-- the reply to a statement of this line that is refused
abbrev pub refusal_reply : ℕ → Refusal → Reply
refusal_reply line (coded code) = Refused line code None
refusal_reply line (bad_bytes fault) = Refused line BAD_LITERAL (Some fault)
refusal_reply line (bad_json fault) = BadJson line fault.code fault.number

-- something, or the first refusal
abbrev pub Outcome : Type 0 → Type 0
Outcome A = Result A Refusal

-- what is there; refused with the code where nothing is
abbrev pub need : {A : Type 0} → ℕ → Option A → Outcome A
need code None = Err (coded code)
need code (Some x) = Ok x

-- refused with the code where the test holds
abbrev pub refuse : ℕ → Bool → Outcome (Unit {0})
refuse code test = if test then Err (coded code) else Ok tt

-- refused where the bytes have a fault
abbrev pub faultless : Option Fault → Outcome (Unit {0})
faultless None = Ok tt
faultless (Some fault) = Err (bad_bytes fault)

-- refused where the JSON text has a fault
abbrev pub well_spelled : Option JsonFault → Outcome (Unit {0})
well_spelled None = Ok tt
well_spelled (Some fault) = Err (bad_json fault)

abbrev pub edit_code : EditFault → ℕ
edit_code edit_fault.BadPath = code.BAD_PATH
edit_code edit_fault.Absent = code.ABSENT
edit_code edit_fault.NotThat = code.NOT_THAT
edit_code edit_fault.Full = code.FULL
edit_code edit_fault.Empty = code.EMPTY
edit_code edit_fault.BadSelector = code.BAD_SELECTOR
-- no edit of a whole value wants memory
edit_code edit_fault.Memory = 0

-- What an accepted statement does: its reply, the versions of its writer after it, what it writes
-- into a file, and how many pairs it may cause to be hashed.
pub record Effect : Type 0 where
  pub reply : Reply
  pub versions : Versions
  pub save : Option Save
  pub charge : ℕ

-- What a statement does, or why it is refused.
abbrev pub Row : Type 0
Row = Outcome Effect

-- a reply, and nothing else
abbrev pub said_effect : Versions → Reply → Effect
said_effect versions reply =
    record { reply = reply; versions = versions; save = None; charge = 0 }

abbrev pub says_reply : Versions → Reply → Row
says_reply versions reply = Ok (said_effect versions reply)

-- a name holds a value of the type, at a charge
abbrev pub made_effect : Versions → Name → SszType → SszValue → ℕ → Effect
made_effect versions name type value charge = record {
  reply = Done;
  versions = with_version name (record { type = type; value = value }) versions;
  save = None;
  charge = charge;
}

abbrev pub makes : Versions → Name → SszType → SszValue → ℕ → Row
makes versions name type value charge = Ok (made_effect versions name type value charge)

-- a name holds the edited value
abbrev pub edits : Versions → Name → SszType → Result SszValue EditFault → ℕ → Row
edits versions name type (Ok value) charge = makes versions name type value charge
edits versions name type (Err fault) charge = Err (coded (edit_code fault))
