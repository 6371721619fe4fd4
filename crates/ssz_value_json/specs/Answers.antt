-- What the calls answer.
use Rattle.std.specs.Prelude.{ℕ, ◌≡◌, List, Option, Some, None, Result, Ok, Err}
use Rattle.serde_json.specs.Data.{Data}
use Rattle.serde_json.specs.Errors.{IsMemory}
use Rattle.serde_json.specs.View.{view}
use Rattle.serde_json.specs.declared.error.Error.{Error}
use Rattle.serde_json.specs.declared.value.Value.{Value as Json}
use Rattle.ssz_schema.specs.Types.{SszType, Options, union}
use Rattle.ssz_value.specs.declared.value.Value.{Value, out-Value}
use Rattle.ssz_value.specs.Standing.{value_of, is_byte, IsFormed, AreFormed}
use Rattle.ssz_value_json.specs.declared.fault.JsonRead.{JsonRead}
use Rattle.ssz_value_json.specs.declared.fault.JsonRead.TheVariants.{Bad, Memory}
use Rattle.ssz_value_json.specs.Steps.{not_json, Found, Walked}
use Rattle.ssz_value_json.specs.Faults.{first_json_fault}
use Rattle.ssz_json_text.specs.Text.{json}

-- the answer stands for what is found, or is the first fault, or memory ran out
abbrev pub FindsJson : {X A : Type 0} → (X → A) → (X → Type 0) → Found A → Result X JsonRead
    → Type 0
FindsJson seen P found (Ok x) = (found ≡ Ok (seen x)) × P x
FindsJson seen P found (Err (Bad f)) = found ≡ Err f
FindsJson seen P found (Err Memory) = Unit {0}

-- the same of parts, where the number is then that of the part behind them
abbrev pub WalksJson : {X A : Type 0}
    → (X → A) → (X → Type 0) → Walked A → ℕ → Result X JsonRead → Type 0
WalksJson seen P walked behind (Ok x) = (walked ≡ Ok (seen x, behind)) × P x
WalksJson seen P walked behind (Err (Bad f)) = walked ≡ Err f
WalksJson seen P walked behind (Err Memory) = Unit {0}

-- the value whose text the bytes are, or their first fault, or memory ran out
abbrev pub ReadsTo : SszType → List ℕ → Result Value JsonRead → Type 0
ReadsTo t b (Ok v) = (first_json_fault t b ≡ None) × (json t (value_of v) ≡ b)
ReadsTo t b (Err (Bad f)) = first_json_fault t b ≡ Some f
ReadsTo t b (Err Memory) = Unit {0}

-- that answer, or none
abbrev pub ReadsDraft : SszType → List ℕ → Result (Option Value) JsonRead → Type 0
ReadsDraft t b (Ok (Some v)) = ReadsTo t b (Ok v)
ReadsDraft t b (Ok None) = Unit {0}
ReadsDraft t b (Err fault) = ReadsTo t b (Err fault)

-- a sequence of this type is in the form that the type wants
abbrev pub IsFormedSequence : SszType → Value → Type 0
IsFormedSequence elem v = AreFormed (is_byte elem) (IsFormed elem) (out-Value v)

-- a union without a value
abbrev pub IsFormedUnion : Value → Type 0
IsFormedUnion v = (os : Options) → IsFormed (union os) v

-- the JSON read, or none, unless memory runs out
abbrev pub ReadsJson : Result Json JsonRead → Option Data → Type 0
ReadsJson (Ok value) json = json ≡ Some (view value)
ReadsJson (Err (Bad f)) json = (json ≡ None) × (f ≡ not_json)
ReadsJson (Err Memory) json = Unit {0}

-- want of memory, or another error
abbrev pub IsJsonFaultOf : Error → JsonRead → Type 0
IsJsonFaultOf error Memory = IsMemory error
IsJsonFaultOf error (Bad f) = ¬ (IsMemory error) × (f ≡ not_json)
