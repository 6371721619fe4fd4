-- What a name is given that is free: the value that a literal or a file has.
use Rattle.std.specs.Prelude.{◌≡◌, ◌<◌, ◌⊎◌, IsTrue, Bool, true, false, length, ℕ, List, [], ◌∷◌, Option, Some, None, IsSome}
use Rattle.ssz_outside.specs.Asked.{Ask, Asks, AsksOf}
use Rattle.ssz_outside.specs.Content.{Content as Files, contents, is_absent}
use Rattle.ssz_schema.specs.Types.{SszType}
use Rattle.ssz_schema.specs.Unfolding.{type_number}
use Rattle.ssz_value.specs.Pairs.{pairs}
use Rattle.ssz_value.specs.Values.{SszValue}
use Rattle.ssz_proof.specs.Calculation.{PairOf}
use Rattle.ssz_script.specs.declared.reply.TheConstants.Reply.{NO_TYPE, NAME_TAKEN}
use Rattle.ssz_versions.specs.Content.{held_at}
use Rattle.ssz_machine.specs.State.{Name, Versions}
use Rattle.ssz_machine.specs.Rules.{Rules, Outcome, Row, ◌>>=◌, makes}
use Rattle.ssz_machine.specs.Making.{decoded, spelled, load, loadjson}
use Rattle.ssz_machine.specs.Machine.{can_load}
use Rattle.ssz_machine.specs.Changes.{Touch}
use Rattle.ssz_decisions.specs.Content.{EngineContent, rules_of}
use Rattle.ssz_decisions.specs.Standing.{StandsForWriter}
use Rattle.ssz_decisions.specs.declared.decision.Decision.{Decision}
use Rattle.ssz_decisions.specs.declared.load_form.Form.{Form}
use Rattle.ssz_decisions.specs.declared.load_form.Form.TheVariants.{Encoding, Json}
use Rattle.ssz_decisions.specs.Decisions.{AnswersAnew}

-- what a name is given that is free: the value of the type that the bytes encode
abbrev pub loaded_row : Versions → Name → SszType → List ℕ → Row
loaded_row versions v type bytes =
    decoded type bytes >>= (λ value. makes versions v type value (pairs type value))

-- the value of the type that the bytes have in a form
abbrev pub read_as : Form → SszType → List ℕ → Outcome SszValue
read_as Encoding type bytes = decoded type bytes
read_as Json type bytes = spelled type bytes

-- the same of a value in a form
abbrev pub brought_as : Form → Versions → Name → SszType → List ℕ → Row
brought_as form versions v type bytes =
    read_as form type bytes >>= (λ value. makes versions v type value (pairs type value))

-- the row of a statement that loads a value in a form
abbrev pub load_row : Form → Rules → Versions → Name → Name → List ℕ → Row
load_row Encoding rules versions v t bytes = load rules versions v t bytes
load_row Json rules versions v t bytes = loadjson rules versions v t bytes

-- the file has these bytes, where the files tell it
abbrev pub ReadsAs : Option Files → List ℕ → List ℕ → Type 0
ReadsAs None file bytes = Unit {0}
ReadsAs (Some told) file bytes = contents told file ≡ bytes

-- The same of a function that reads a file: for some bytes, those that the file has where the files
-- tell them.
pub record LoadsWith (pair_of : PairOf) (told : Option Files) (file : List ℕ)
    (row : List ℕ → Rules → Versions → Row) (touch : Touch) (writer : ℕ) (old new : EngineContent)
    (made : Decision) : Type 0 where
  pub bytes : List ℕ
  pub read : ReadsAs told file bytes
  pub answers : AnswersAnew pair_of (row bytes) touch writer old new made

-- the type of a name, where it is known and the other name is free
pub record IsFree (store : EngineContent) (writer : ℕ) (v t : Name) (id : ℕ) : Type 0 where
  pub known : id < length store.types.trees
  pub named : type_number store.types t ≡ Some id
  pub free : held_at store.entries writer v ≡ None

-- the first test that refuses it
abbrev pub IsTaken : EngineContent → ℕ → Name → Name → ℕ → Type 0
IsTaken store writer v t code =
    ((code ≡ NO_TYPE) × (type_number store.types t ≡ None))
    ⊎ ((code ≡ NAME_TAKEN) × IsSome (type_number store.types t)
    × IsSome (held_at store.entries writer v))

-- a file is read for it
abbrev pub CanLoad : PairOf → EngineContent → ℕ → Name → Name → Type 0
CanLoad pair_of store writer v t =
    (versions : Versions) → StandsForWriter store writer versions
    → IsTrue (can_load (rules_of pair_of store) versions v t)

-- it is there, where the files tell what they hold
abbrev pub FindsFile : PairOf → EngineContent → ℕ → Name → Name → Name → Option Files → Type 0
FindsFile pair_of store writer v t file told =
    (held : Files) → told ≡ Some held → (versions : Versions)
    → StandsForWriter store writer versions
    → can_load (rules_of pair_of store) versions v t ≡ true → is_absent held file ≡ false

-- one ask, or none
abbrev pub asks_where : Bool → Ask → List Ask
asks_where true ask = ask ∷ []
asks_where false ask = []

-- The files are asked for that file where one is read for it, once and with the most bytes of a
-- value; else they are asked for nothing. What was cut short may not have come to it.
abbrev pub AsksLoad : PairOf → EngineContent → ℕ → Name → Name → Name → (cut : Bool) → Asks → Asks
    → Type 0
AsksLoad pair_of store writer v t file cut old new =
    (versions : Versions) → StandsForWriter store writer versions
    → AsksOf cut
    (asks_where (can_load (rules_of pair_of store) versions v t) (file, store.most)) old new
