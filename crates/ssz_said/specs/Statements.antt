-- The statements that the arguments of a call say: of a session's call, what it does.
use Rattle.std.specs.Prelude.{ℕ, List, Some, None, Ok}
use Rattle.ssz_script.specs.declared.statement.Statement.{Statement}
use Rattle.ssz_script.specs.declared.statement.Statement.TheVariants as says
pub use Rattle.ssz_script.specs.Literals.{HasShortLiteral}
use Rattle.ssz_said.specs.declared.status.TheConstants.{MOST_BYTES, TOO_LONG}
use Rattle.ssz_said.specs.Outcome.{CallOutcome, ◌>>=◌, at_most}
use Rattle.ssz_said.specs.Texts.{name_in, path_in}

-- `lit V T LIT`, with the bytes of the literal
abbrev pub lit_said : List ℕ → List ℕ → List ℕ → CallOutcome Statement
lit_said v t bytes = do
  few ← at_most TOO_LONG MOST_BYTES bytes
  version ← name_in v
  named ← name_in t
  Ok (says.Lit version named few)

-- `new V T`
abbrev pub new_said : List ℕ → List ℕ → CallOutcome Statement
new_said v t = do
  version ← name_in v
  named ← name_in t
  Ok (says.New version named)

-- `upgrade V W T`
abbrev pub upgrade_said : List ℕ → List ℕ → List ℕ → CallOutcome Statement
upgrade_said v w t = do
  version ← name_in v
  other ← name_in w
  named ← name_in t
  Ok (says.Upgrade version other named)

-- `fork V W`, `drop V` and `root V`
abbrev pub fork_said : List ℕ → List ℕ → CallOutcome Statement
fork_said v w = do
  version ← name_in v
  other ← name_in w
  Ok (says.Fork version other)

abbrev pub drop_said : List ℕ → CallOutcome Statement
drop_said v = do
  version ← name_in v
  Ok (says.Drop version)

abbrev pub root_said : List ℕ → CallOutcome Statement
root_said v = do
  version ← name_in v
  Ok (says.Root version)

-- `compact`
abbrev pub compact_said : CallOutcome Statement
compact_said = Ok says.Compact

-- `bytes V P`
abbrev pub bytes_said : List ℕ → List ℕ → CallOutcome Statement
bytes_said v path = do
  version ← name_in v
  steps ← path_in path
  Ok (says.Bytes version steps)

-- `set V P LIT`, `append V P LIT`, `pop V P` and `choose V P SEL LIT`
abbrev pub set_said : List ℕ → List ℕ → List ℕ → CallOutcome Statement
set_said v path bytes = do
  few ← at_most TOO_LONG MOST_BYTES bytes
  version ← name_in v
  steps ← path_in path
  Ok (says.Set version steps few)

abbrev pub append_said : List ℕ → List ℕ → List ℕ → CallOutcome Statement
append_said v path bytes = do
  few ← at_most TOO_LONG MOST_BYTES bytes
  version ← name_in v
  steps ← path_in path
  Ok (says.Append version steps few)

abbrev pub pop_said : List ℕ → List ℕ → CallOutcome Statement
pop_said v path = do
  version ← name_in v
  steps ← path_in path
  Ok (says.Pop version steps)

abbrev pub choose_said : List ℕ → List ℕ → ℕ → List ℕ → CallOutcome Statement
choose_said v path selector bytes = do
  few ← at_most TOO_LONG MOST_BYTES bytes
  version ← name_in v
  steps ← path_in path
  Ok (says.Choose version steps selector (Some few))

-- `len V P` and `json V P`
abbrev pub len_said : List ℕ → List ℕ → CallOutcome Statement
len_said v path = do
  version ← name_in v
  steps ← path_in path
  Ok (says.Len version steps)

abbrev pub json_said : List ℕ → List ℕ → CallOutcome Statement
json_said v path = do
  version ← name_in v
  steps ← path_in path
  Ok (says.Json version steps)

-- `gindex T P`
abbrev pub gindex_said : List ℕ → List ℕ → CallOutcome Statement
gindex_said t path = do
  named ← name_in t
  steps ← path_in path
  Ok (says.Gindex named steps)

-- `choose V P SEL`, with the option's default
abbrev pub choose_default_said : List ℕ → List ℕ → ℕ → CallOutcome Statement
choose_default_said v path selector = do
  version ← name_in v
  steps ← path_in path
  Ok (says.Choose version steps selector None)
