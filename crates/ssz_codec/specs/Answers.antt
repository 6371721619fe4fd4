-- What the calls answer.
use Rattle.std.specs.Prelude.{ℕ, ◌≡◌, List, map, Option, Some, None, Result, Ok, Err}
use Rattle.ssz_bytes.specs.declared.fault.Fault.{Fault}
use Rattle.ssz_schema.specs.width.Width.{Width}
use Rattle.ssz_schema.specs.Types.{SszType, Fields, uint}
use Rattle.ssz_schema.specs.Sizes.{byte_count}
use Rattle.ssz_value.specs.declared.value.Value.{Value}
use Rattle.ssz_value.specs.Values.{SszValue}
use Rattle.ssz_value.specs.Faults.{first_fault}
use Rattle.ssz_value.specs.Reading.{value_in, elements_in}
use Rattle.ssz_value.specs.Standing.{value_of, Stands, FieldsFormed}
use Rattle.ssz_value.specs.Shapes.{StandAlike}
use Rattle.ssz_codec.specs.declared.fault.DecodeFault.{DecodeFault}
use Rattle.ssz_codec.specs.declared.fault.DecodeFault.TheVariants.{Bad, Memory}

-- this is the first fault; memory runs out only where there is none
abbrev pub Faulty : Option Fault → DecodeFault → Type 0
Faulty fault (Bad f) = fault ≡ Some f
Faulty fault Memory = fault ≡ None

-- there is no fault, and the answer is as wanted or memory ran out; or it is the first fault
abbrev pub Decodes : {X : Type 0} → Option Fault → (X → Type 0) → Result X DecodeFault → Type 0
Decodes fault P (Ok x) = (fault ≡ None) × P x
Decodes fault P (Err e) = Faulty fault e

-- of bytes that begin at start: the value of the type which they stand for, or their first fault
abbrev pub DecodesTo : SszType → ℕ → List ℕ → Result Value DecodeFault → Type 0
DecodesTo t start b = Decodes (first_fault t start b) (Stands t (value_in t b))

-- these are count numbers of this width one after another
abbrev pub AreNumbers : Width → ℕ → List ℕ → List Value → Type 0
AreNumbers w count b =
    StandAlike (uint w) (map (value_in (uint w)) (elements_in (Some (byte_count w)) count b))

-- these values stand for those of the fields, each in the form that the type of its field wants
pub record AreFieldsRead (fs : Fields) (ws : List SszValue) (vs : List Value) : Type 0 where
  pub value : map value_of vs ≡ ws
  pub formed : FieldsFormed fs vs
