-- Statements that edit a version. Each is a list of tests in order, and then the edit of the whole
-- value, as ssz_value defines it.
use Rattle.std.specs.Prelude.{ℕ, ◌==◌, nat_le, Bool, true, false, is_none, List, [], ◌∷◌, Option, Some, None, option_map, Ok}
use Rattle.ssz_schema.specs.declared.path.PathStep.TheVariants.{Len, Selector}
use Rattle.ssz_schema.specs.Types.{SszType, Options, list, bitlist, union, boolean}
use Rattle.ssz_schema.specs.Sizes.{option_count}
use Rattle.ssz_schema.specs.Paths.{Path, path_type, option_type}
use Rattle.ssz_script.specs.declared.reply.TheConstants.Reply.{NO_VERSION, BAD_PATH, ABSENT, NOT_THAT, FULL, EMPTY, BAD_SELECTOR}
use Rattle.ssz_value.specs.Values.{SszValue}
use Rattle.ssz_value.specs.Defaults.{default_of}
use Rattle.ssz_value.specs.Faults.{option_fault}
use Rattle.ssz_value.specs.Reading.{value_in}
use Rattle.ssz_value.specs.Parts.{part}
use Rattle.ssz_value.specs.Edits.{set_at, append_at, pop_at, choose_at}
use Rattle.ssz_places.specs.EditLaws.{count_of}
use Rattle.ssz_places.specs.Charges.{set_charge, append_charge, pop_charge, choose_charge}
use Rattle.ssz_machine.specs.State.{Name, Versions, version_of}
use Rattle.ssz_machine.specs.Rules.{Outcome, ◌>>=◌, ◌>>◌, need, refuse, faultless, Row, edits}
use Rattle.ssz_machine.specs.Making.{decoded}

-- whether a path ends at a length or a selector
abbrev pub ends_beside : Path → Bool
ends_beside [] = false
ends_beside (Len ∷ []) = true
ends_beside (Selector ∷ []) = true
ends_beside (step ∷ path) = ends_beside path

-- the type of an element, of a list or bitlist alone
abbrev pub element_of : SszType → Option SszType
element_of (list elem limit) = Some elem
element_of (bitlist limit) = Some boolean
element_of other = None

-- the limit of a list or bitlist
abbrev pub limit_of : SszType → ℕ
limit_of (list elem limit) = limit
limit_of (bitlist limit) = limit
limit_of other = 0

-- the options of a union
abbrev pub options_of : SszType → Option Options
options_of (union os) = Some os
options_of other = None

-- the value under a selector: what the literal encodes, or without one the default; the option None
-- has none, and wants no bytes
abbrev pub inner_value : Options → ℕ → Option (List ℕ) → Outcome (Option SszValue)
inner_value os k None = Ok (option_map default_of (option_type os k))
inner_value os k (Some literal) = do
  faultless (option_fault os k 0 literal)
  Ok (option_map (λ type. value_in type literal) (option_type os k))

-- `set V P LIT`: the part at P is the literal's value
abbrev pub set : Versions → Name → Path → List ℕ → Row
set versions v path literal = do
  version ← need NO_VERSION (version_of v versions)
  type ← need BAD_PATH (path_type version.type path)
  refuse ABSENT (is_none (part version.type version.value path))
  refuse NOT_THAT (ends_beside path)
  value ← decoded type literal
  edits versions v version.type (set_at version.type version.value path value)
      (set_charge version.type path value)

-- `append V P LIT`: the list or bitlist at P gets one element
abbrev pub append : Versions → Name → Path → List ℕ → Row
append versions v path literal = do
  version ← need NO_VERSION (version_of v versions)
  type ← need BAD_PATH (path_type version.type path)
  present ← need ABSENT (part version.type version.value path)
  element ← need NOT_THAT (element_of type)
  refuse FULL (nat_le (limit_of type) (count_of present))
  value ← decoded element literal
  edits versions v version.type (append_at version.type version.value path value)
      (append_charge version.type version.value path value)

-- `pop V P`: the list or bitlist at P loses its last element
abbrev pub pop : Versions → Name → Path → Row
pop versions v path = do
  version ← need NO_VERSION (version_of v versions)
  type ← need BAD_PATH (path_type version.type path)
  present ← need ABSENT (part version.type version.value path)
  refuse NOT_THAT (is_none (element_of type))
  refuse EMPTY (count_of present == 0)
  edits versions v version.type (pop_at version.type version.value path)
      (pop_charge version.type version.value path)

-- `choose V P SEL [LIT]`: the union at P has option SEL, with the literal's value or the default
abbrev pub choose : Versions → Name → Path → ℕ → Option (List ℕ) → Row
choose versions v path k literal = do
  version ← need NO_VERSION (version_of v versions)
  type ← need BAD_PATH (path_type version.type path)
  refuse ABSENT (is_none (part version.type version.value path))
  os ← need NOT_THAT (options_of type)
  refuse BAD_SELECTOR (nat_le (option_count os) k)
  inner ← inner_value os k literal
  edits versions v version.type (choose_at version.type version.value path k inner)
      (choose_charge version.type path k inner)
