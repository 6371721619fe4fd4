-- The first fault of bytes that are to be the JSON text of a value, and the value of those that
-- have none.
use Rattle.std.specs.Prelude.{ℕ, false, if◌then◌else◌, List, Option, Some, None, Ok, Err}
use Rattle.std.specs.Str.{bytes_eq}
use Rattle.serde_json.specs.Data.{Data}
use Rattle.ssz_schema.specs.Types.{SszType}
use Rattle.ssz_schema_json.specs.Schema.{json_read}
use Rattle.ssz_value.specs.Values.{SszValue, truth}
use Rattle.ssz_value_json.specs.declared.fault.JsonFault.{JsonFault}
use Rattle.ssz_value_json.specs.Steps.{not_json, bad_spelling, Walked}
use Rattle.ssz_json_text.specs.Text.{json}
use Rattle.ssz_value_json.specs.Walk.{json_walk}

-- J8 where the value has another text
abbrev pub walked_fault : SszType → List ℕ → Walked SszValue → Option JsonFault
walked_fault t b (Ok p) = if bytes_eq (json t p.0) b then None else Some bad_spelling
walked_fault t b (Err f) = Some f

-- J1 where nothing is read, then the first fault of what is read
abbrev pub read_fault : SszType → List ℕ → Option Data → Option JsonFault
read_fault t b None = Some not_json
read_fault t b (Some d) = walked_fault t b (json_walk t 0 d)

-- the first fault
abbrev pub first_json_fault : SszType → List ℕ → Option JsonFault
first_json_fault t b = read_fault t b (json_read b)

-- the value that a walk comes to; where it comes to a fault, any
abbrev pub walked_value : Walked SszValue → SszValue
walked_value (Ok p) = p.0
walked_value (Err f) = truth false

-- of what is read
abbrev pub value_read : SszType → Option Data → SszValue
value_read t None = truth false
value_read t (Some d) = walked_value (json_walk t 0 d)

-- the value whose text the bytes are, where they have no fault
abbrev pub value_spelled : SszType → List ℕ → SszValue
value_spelled t b = value_read t (json_read b)
