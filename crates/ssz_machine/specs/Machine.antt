-- The plain machine: the table of statements, and a step.
use Rattle.std.specs.Prelude.{ℕ, not, ◌&&◌, is_some, Bool, true, false, Option, Some, None, Ok, Err}
use Rattle.ssz_outside.specs.Content.{Content, contents, is_absent, may_fail, with_bytes}
use Rattle.ssz_outside.specs.Job.{Save}
use Rattle.ssz_script.specs.declared.statement.Statement.{Statement}
use Rattle.ssz_script.specs.declared.statement.Statement.TheVariants.{New, Lit, Load, Fork, Drop, List as ListNames, Set, Append, Pop, Choose, Root, Bytes, Len, Save as SaveInto, Gindex, Prove, Hashes, Upgrade, Json, LoadJson, Compact}
use Rattle.ssz_script.specs.declared.reply.Reply.{Reply}
use Rattle.ssz_script.specs.declared.reply.TheConstants.Reply.{SYNTAX}
use Rattle.ssz_machine.specs.declared.place.Place.{Place}
use Rattle.ssz_machine.specs.State.{Name, Versions, View, State, has_version, view_of, with_view}
use Rattle.ssz_machine.specs.Rules.{Rules, coded, Row, refusal_reply}
use Rattle.ssz_machine.specs.Making.{new, lit, load, loadjson, fork, upgrade, drop, list, compact}
use Rattle.ssz_machine.specs.Editing.{set, append, pop, choose}
use Rattle.ssz_machine.specs.Asking.{root_row, bytes, json_row, len, save, gindex, prove, hashes}

-- What a statement does to what its writer sees. The number is the one that `hashes` prints.
abbrev pub effect : Rules → Place → ℕ → View → Statement → Row
effect rules place number view (New v t) = new rules view.versions v t
effect rules place number view (Lit v t literal) = lit rules view.versions v t literal
effect rules place number view (Load v t file) =
    load rules view.versions v t (contents view.files file)
effect rules place number view (Fork v w) = fork view.versions v w
effect rules place number view (Upgrade v w t) = upgrade rules view.versions v w t
effect rules place number view (Drop v) = drop view.versions v
effect rules place number view ListNames = list view.versions
effect rules place number view (Set v path literal) = set view.versions v path literal
effect rules place number view (Append v path literal) = append view.versions v path literal
effect rules place number view (Pop v path) = pop view.versions v path
effect rules place number view (Choose v path k literal) = choose view.versions v path k literal
effect rules place number view (Root v) = root_row rules view.versions v
effect rules place number view (Bytes v path) = bytes rules view.versions v path
effect rules place number view (Len v path) = len view.versions v path
effect rules place number view (SaveInto v file) = save rules place view.versions v file
effect rules place number view (Gindex t path) = gindex rules view.versions t path
effect rules place number view (Prove v indices) = prove rules view.versions v indices
effect rules place number view Hashes = hashes place number view.versions
effect rules place number view (Json v path) = json_row rules view.versions v path
effect rules place number view (LoadJson v t file) =
    loadjson rules view.versions v t (contents view.files file)
-- only what is kept of the nodes changes, of which the machine knows nothing
effect rules place number view Compact = compact view.versions

-- a line that is not of the grammar is refused
abbrev pub row_said : Rules → Place → ℕ → View → Option Statement → Row
row_said rules place number view None = Err (coded SYNTAX)
row_said rules place number view (Some statement) = effect rules place number view statement

abbrev pub saved : Option Save → Content → Content
saved None files = files
saved (Some save) files = with_bytes save.name save.bytes files

-- A line of a script that is neither blank nor a comment: its number, and its statement where it is
-- one of the grammar.
abbrev pub Line : Type 0
Line = ℕ × Option Statement

-- A step of the machine: a line of a writer, the state before it, and what it does there.
pub record Turn : Type 0 where
  pub writer : ℕ
  pub line : Line
  pub before : State
  pub row : Row

abbrev pub step : Rules → Place → ℕ → State → ℕ → Line → Turn
step rules place number state writer line = record {
  writer = writer;
  line = line;
  before = state;
  row = row_said rules place number (view_of writer state) line.1;
}

-- the reply
abbrev pub reply_in : ℕ → Row → Reply
reply_in line (Ok effect) = effect.reply
reply_in line (Err refusal) = refusal_reply line refusal

abbrev pub reply_of : Turn → Reply
reply_of turn = reply_in turn.line.0 turn.row

-- the state after it: the same where it is refused
abbrev pub state_in : ℕ → State → Row → State
state_in writer state (Ok effect) =
    with_view writer
    (record { versions = effect.versions; files = saved effect.save state.files }) state
state_in writer state (Err refusal) = state

abbrev pub state_of : Turn → State
state_of turn = state_in turn.writer turn.before turn.row

abbrev pub is_refused_row : Row → Bool
is_refused_row (Ok effect) = false
is_refused_row (Err refusal) = true

abbrev pub is_refused : Turn → Bool
is_refused turn = is_refused_row turn.row

-- what it writes into a file
abbrev pub save_in : Row → Option Save
save_in (Ok effect) = effect.save
save_in (Err refusal) = None

abbrev pub save_of : Turn → Option Save
save_of turn = save_in turn.row

-- how many pairs it may cause to be hashed: none where it is refused
abbrev pub charge_in : Row → ℕ
charge_in (Ok effect) = effect.charge
charge_in (Err refusal) = 0

abbrev pub charge_of : Turn → ℕ
charge_of turn = charge_in turn.row

-- whether a statement reads a file: it loads a type that is known under a name that is free
abbrev pub can_load : Rules → Versions → Name → Name → Bool
can_load rules versions v t = is_some (rules.type_named t) && not (has_version v versions)

abbrev pub reads : Rules → Versions → Option Statement → Bool
reads rules versions (Some (Load v t file)) = can_load rules versions v t
reads rules versions (Some (LoadJson v t file)) = can_load rules versions v t
reads rules versions other = false

abbrev pub reads_file : Rules → Turn → Bool
reads_file rules turn = reads rules (turn.before.versions turn.writer) turn.line.1

-- whether a read of the file that a statement names may fail
abbrev pub may_miss : Content → Option Statement → Bool
may_miss files (Some (Load v t file)) = may_fail files file
may_miss files (Some (LoadJson v t file)) = may_fail files file
may_miss files other = false

-- whether a step reads a file of which the read may fail, as the files stand before the step
abbrev pub may_stop : Rules → Turn → Bool
may_stop rules turn = reads_file rules turn && may_miss turn.before.files turn.line.1

-- whether the file that a statement names is absent
abbrev pub names_absent : Content → Option Statement → Bool
names_absent files (Some (Load v t file)) = is_absent files file
names_absent files (Some (LoadJson v t file)) = is_absent files file
names_absent files other = false

-- whether a step reads a file that is absent in the files before the step
abbrev pub misses : Rules → Turn → Bool
misses rules turn = reads_file rules turn && names_absent turn.before.files turn.line.1
