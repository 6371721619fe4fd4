-- Which entries a statement changes.
use Rattle.std.specs.Prelude.{ℕ, ◌≡◌, ◌≢◌, true, Option, None, IsSomeAnd, IfOk}
use Rattle.ssz_outside.specs.Job.{Save}
use Rattle.ssz_script.specs.declared.statement.Statement.{Statement}
use Rattle.ssz_script.specs.declared.statement.Statement.TheVariants.{New, Lit, Load, LoadJson, Fork, Upgrade, Drop, Set, Append, Pop, Choose, Save as SaveInto}
use Rattle.ssz_machine.specs.declared.place.Place.{Place}
use Rattle.ssz_machine.specs.State.{Name, Version, Versions, View, State, with_version, without_version}
use Rattle.ssz_machine.specs.Rules.{Rules, Effect}
use Rattle.ssz_machine.specs.Machine.{Line, Turn, effect, step, state_of, save_of, charge_of, is_refused}

-- what an accepted statement does to the names of its writer
pub data Touch : Type 0 where
  nothing : Touch
  -- the name holds a version, a new one or an edited one
  puts : Name → Touch
  takes : Name → Touch

-- by the table of statements
abbrev pub touch : Statement → Touch
touch (New v t) = puts v
touch (Lit v t literal) = puts v
touch (Load v t file) = puts v
touch (LoadJson v t file) = puts v
touch (Fork v w) = puts w
touch (Upgrade v w t) = puts w
touch (Drop v) = takes v
touch (Set v path literal) = puts v
touch (Append v path literal) = puts v
touch (Pop v path) = puts v
touch (Choose v path k literal) = puts v
-- all others change none
touch other = nothing

-- the versions are as they were but for the one entry
abbrev pub Changes : Touch → Versions → Versions → Type 0
Changes nothing old new = new ≡ old
Changes (puts name) old new = (version : Version) × (new ≡ with_version name version old)
Changes (takes name) old new = new ≡ without_version name old

-- `save` writes into its file, and no other statement into any
abbrev pub SavesInto : Statement → Option Save → Type 0
SavesInto (SaveInto v file) saved = IsSomeAnd saved (λ save. save.name ≡ file)
SavesInto other saved = saved ≡ None

-- what an accepted statement may do
pub record IsChange (statement : Statement) (old : Versions) (effect : Effect) : Type 0 where
  pub entries : Changes (touch statement) old effect.versions
  pub files : SavesInto statement effect.save

-- An accepted statement changes the one entry that the table names, if any, and no file but that of
-- a `save`.
abbrev pub StatementsChangeTheirEntry : Type 0
StatementsChangeTheirEntry =
    (rules : Rules) (place : Place) (number : ℕ) (view : View) (statement : Statement)
    → IfOk (effect rules place number view statement) (IsChange statement view.versions)

-- A line leaves the versions of every other writer.
abbrev pub LinesLeaveOthers : Type 0
LinesLeaveOthers =
    (rules : Rules) (place : Place) (number : ℕ) (state : State) (writer other : ℕ) (line : Line)
    → other ≢ writer
    → (state_of (step rules place number state writer line)).versions other
    ≡ state.versions other

-- a step that does nothing but reply
pub record DoesNothing (turn : Turn) : Type 0 where
  pub state : state_of turn ≡ turn.before
  pub save : save_of turn ≡ None
  pub charge : charge_of turn ≡ 0

-- A refused line leaves all as it was, and costs nothing.
abbrev pub RefusedDoNothing : Type 0
RefusedDoNothing = (turn : Turn) → is_refused turn ≡ true → DoesNothing turn
