-- Statements that make, take away and list versions. Each is a list of tests in order, and then
-- what it does.
use Rattle.std.specs.Prelude.{ℕ, nat_lt, List, length, map, Result, Ok, Err}
use Rattle.ssz_schema.specs.Types.{SszType}
use Rattle.ssz_script.specs.declared.reply.Reply.TheVariants.{Done, List as Listed}
use Rattle.ssz_script.specs.declared.reply.TheConstants.Reply.{NO_TYPE, NO_VERSION, NAME_TAKEN, TOO_LONG, NOT_CONTAINER}
use Rattle.ssz_value.specs.Values.{SszValue}
use Rattle.ssz_value.specs.Defaults.{default_of}
use Rattle.ssz_value.specs.Faults.{first_fault}
use Rattle.ssz_value.specs.Reading.{value_in}
use Rattle.ssz_value.specs.Pairs.{pairs}
use Rattle.ssz_value_json.specs.Faults.{first_json_fault, value_spelled}
use Rattle.ssz_forms.specs.declared.upgrade_fault.UpgradeFault.{UpgradeFault}
use Rattle.ssz_forms.specs.Upgrades.{upgraded, upgrade_charge}
use Rattle.ssz_machine.specs.State.{Name, Versions, version_of, has_version, without_version}
use Rattle.ssz_machine.specs.Rules.{Rules, Outcome, coded, ◌>>=◌, ◌>>◌, need, refuse, faultless, well_spelled, Row, says_reply, makes}

-- a name holds a value that is brought in, at the charge of its pairs
abbrev pub brings : Versions → Name → SszType → SszValue → Row
brings versions v type value = makes versions v type value (pairs type value)

-- the value of a type that the bytes encode
abbrev pub decoded : SszType → List ℕ → Outcome SszValue
decoded type bytes = do
  faultless (first_fault type 0 bytes)
  Ok (value_in type bytes)

-- `new V T`: V is the default of T
abbrev pub new : Rules → Versions → Name → Name → Row
new rules versions v t = do
  type ← need NO_TYPE (rules.type_named t)
  refuse NAME_TAKEN (has_version v versions)
  brings versions v type (default_of type)

-- `lit V T LIT`: V is the value of T that the literal encodes
abbrev pub lit : Rules → Versions → Name → Name → List ℕ → Row
lit rules versions v t literal = do
  type ← need NO_TYPE (rules.type_named t)
  refuse NAME_TAKEN (has_version v versions)
  value ← decoded type literal
  brings versions v type value

-- `load V T FILE`: V is the value of T that the file's bytes encode
abbrev pub load : Rules → Versions → Name → Name → List ℕ → Row
load rules versions v t bytes = do
  type ← need NO_TYPE (rules.type_named t)
  refuse NAME_TAKEN (has_version v versions)
  refuse TOO_LONG (nat_lt rules.max_bytes (length bytes))
  value ← decoded type bytes
  brings versions v type value

-- the value of a type whose JSON text the bytes are
abbrev pub spelled : SszType → List ℕ → Outcome SszValue
spelled type bytes = do
  well_spelled (first_json_fault type bytes)
  Ok (value_spelled type bytes)

-- `loadjson V T FILE`: V is the value of T whose JSON text the file's bytes are
abbrev pub loadjson : Rules → Versions → Name → Name → List ℕ → Row
loadjson rules versions v t bytes = do
  type ← need NO_TYPE (rules.type_named t)
  refuse NAME_TAKEN (has_version v versions)
  refuse TOO_LONG (nat_lt rules.max_bytes (length bytes))
  value ← spelled type bytes
  brings versions v type value

-- `fork V W`: W is the value of V
abbrev pub fork : Versions → Name → Name → Row
fork versions v w = do
  version ← need NO_VERSION (version_of v versions)
  refuse NAME_TAKEN (has_version w versions)
  makes versions w version.type version.value 0

-- the value, where both types are containers
abbrev pub contained : Result SszValue UpgradeFault → Outcome SszValue
contained (Ok value) = Ok value
contained (Err fault) = Err (coded NOT_CONTAINER)

-- `upgrade V W T`: W, of type T, has the fields of V that T has too
abbrev pub upgrade : Rules → Versions → Name → Name → Name → Row
upgrade rules versions v w t = do
  type ← need NO_TYPE (rules.type_named t)
  version ← need NO_VERSION (version_of v versions)
  refuse NAME_TAKEN (has_version w versions)
  value ← contained (upgraded version.type version.value type)
  makes versions w type value (upgrade_charge version.type type)

-- `drop V`: V is gone
abbrev pub drop : Versions → Name → Row
drop versions v = do
  version ← need NO_VERSION (version_of v versions)
  says_reply (without_version v versions) Done

-- `list`: the writer's names in byte order
abbrev pub names_of : Versions → List Name
names_of versions = map (λ entry. entry.0) versions

abbrev pub list : Versions → Row
list versions = says_reply versions (Listed (names_of versions))

-- `compact`: memory that no version needs is given up
abbrev pub compact : Versions → Row
compact versions = says_reply versions Done
