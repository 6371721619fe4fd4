-- The JSON text of bytes, bytes for a JSON text, and the bytes of a default.
use Rattle.std.specs.Prelude.{ℕ, List, Option, Some, None, Ok, Err}
use Rattle.ssz_schema.specs.Types.{SszType}
use Rattle.ssz_value.specs.Defaults.{default_of}
use Rattle.ssz_value.specs.Encoding.{serialize}
use Rattle.ssz_value.specs.Faults.{first_fault}
use Rattle.ssz_value.specs.Reading.{value_in}
use Rattle.ssz_value_json.specs.declared.fault.JsonFault.{JsonFault}
use Rattle.ssz_value_json.specs.Faults.{first_json_fault, value_spelled}
use Rattle.ssz_json_text.specs.Text.{json}
use Rattle.ssz_said.specs.declared.fault.SszFault.{SszFault}
use Rattle.ssz_said.specs.declared.status.TheConstants.{BAD_JSON, MOST_SHOWN, TOO_LONG}
use Rattle.ssz_said.specs.Outcome.{CallOutcome, ◌>>=◌, at_most, faultless}

-- the JSON text of the value that the bytes encode
abbrev pub text_said : SszType → List ℕ → CallOutcome (List ℕ)
text_said t bytes = do
  valid ← faultless (first_fault t 0 bytes) bytes
  at_most TOO_LONG MOST_SHOWN (json t (value_in t valid))

-- the encoding of the default of a type
abbrev pub default_said : SszType → CallOutcome (List ℕ)
default_said t = at_most TOO_LONG MOST_SHOWN (serialize t (default_of t))

-- the first fault of a text
abbrev pub bad_json : JsonFault → SszFault
bad_json fault = record { status = BAD_JSON; code = fault.code; position = fault.number }

-- a text without a fault
abbrev pub well_spelled : {A : Type 0} → Option JsonFault → A → CallOutcome A
well_spelled None x = Ok x
well_spelled (Some fault) x = Err (bad_json fault)

-- the encoding of the value whose JSON text the bytes are: there is one such value at most
abbrev pub encoding_said : SszType → List ℕ → CallOutcome (List ℕ)
encoding_said t text = do
  valid ← well_spelled (first_json_fault t text) text
  at_most TOO_LONG MOST_SHOWN (serialize t (value_spelled t valid))
