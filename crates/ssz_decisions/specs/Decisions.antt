-- What a statement is found to come to, before anything but nodes is changed.
use Rattle.std.specs.Prelude.{◌≡◌, ◌≤◌, ◌+◌, ◌*◌, ℕ, Some, None, IsSome, Ok, Err}
use Rattle.ssz_arena.specs.Content.{ArenaContent as Nodes, node_count, todo, unhashed}
use Rattle.ssz_arena.specs.declared.node.NodeId.{NodeId}
use Rattle.ssz_proof.specs.Calculation.{PairOf}
use Rattle.ssz_script.specs.declared.reply.Reply.TheVariants.{Done}
use Rattle.ssz_versions.specs.Content.{Held, held_at, Entries}
use Rattle.ssz_machine.specs.State.{Name, Version, Versions, version_of, without_version}
use Rattle.ssz_machine.specs.Rules.{Rules, Row, coded, bad_bytes, bad_json, says_reply, makes}
use Rattle.ssz_machine.specs.Machine.{charge_in}
use Rattle.ssz_machine.specs.Changes.{Touch, nothing, puts, takes}
use Rattle.ssz_decisions.specs.Content.{EngineContent, rules_of}
use Rattle.ssz_decisions.specs.Standing.{IsVersion, IsSomeVersion, StandsForWriter}
use Rattle.ssz_decisions.specs.declared.decision.Decision.{Decision}
use Rattle.ssz_decisions.specs.declared.decision.Decision.TheVariants as decision
use Rattle.ssz_script.specs.declared.statement.Statement.{Statement}
use Rattle.ssz_script.specs.declared.statement.Statement.TheVariants.{Fork}

-- The row makes a version, under a name that is free, for which a type and a node stand.
pub record MakesVersion (store : EngineContent) (versions : Versions) (name : Name) (held : Held)
    (does : Row)
    : Type 0 where
  pub version : Version
  pub charge : ℕ
  pub free : version_of name versions ≡ None
  pub stands : IsVersion store.types store.arena held version
  pub row : does ≡ makes versions name version.type version.value charge

-- The row edits a version, for the new value of which a node stands. What is to be hashed for it,
-- with what was hashed since, is at most what was to be hashed before and the charge.
pub record Edits (old new : EngineContent) (before after : ℕ) (versions : Versions) (writer : ℕ)
    (name : Name) (node : NodeId) (does : Row) : Type 0 where
  pub version : Version
  pub charge : ℕ
  pub held : Held
  pub there : held_at old.entries writer name ≡ Some held
  pub stands : IsVersion new.types new.arena (held.0, node) version
  pub row : does ≡ makes versions name version.type version.value charge
  pub todo : after + todo new.arena node ≤ before + todo old.arena held.1 + charge

-- What a decision says of the row, where the writer has these versions; counts of pairs stand
-- before and after it.
abbrev pub DecidesRow : EngineContent → EngineContent → ℕ → ℕ → ℕ → Versions → Row → Decision
    → Type 0
DecidesRow old new before after writer versions row (decision.Refused code) = row ≡ Err (coded code)
DecidesRow old new before after writer versions row (decision.BadBytes fault) =
    row ≡ Err (bad_bytes fault)
DecidesRow old new before after writer versions row (decision.BadJson fault) =
    row ≡ Err (bad_json fault)
DecidesRow old new before after writer versions row (decision.Said reply) =
    row ≡ says_reply versions reply
DecidesRow old new before after writer versions row (decision.Made name id node room) =
    MakesVersion new versions name.now (id, node) row
DecidesRow old new before after writer versions row (decision.Edited name node) =
    Edits old new before after versions writer name.now node row
DecidesRow old new before after writer versions row (decision.Dropped name) =
    row ≡ says_reply (without_version name.now versions) Done
DecidesRow old new before after writer versions row (decision.Saved name bytes) =
    row ≡ Ok (record {
      reply = Done;
      versions = versions;
      save = Some (record { name = name.now; bytes = bytes.items });
      charge = 0;
    })

-- a name is held, and the node stands for another version of its type
pub record CanEdit (store : EngineContent) (writer : ℕ) (name : Name) (node : NodeId) : Type 0 where
  pub held : Held
  pub there : held_at store.entries writer name ≡ Some held
  pub stands : IsSomeVersion store.types store.arena (held.0, node)

-- A decision can be carried out: it makes a name that is free, edits or drops one that is held, and
-- nodes stand for versions.
abbrev pub CanDo : EngineContent → ℕ → Decision → Type 0
CanDo store writer (decision.Refused code) = Unit {0}
CanDo store writer (decision.BadBytes fault) = Unit {0}
CanDo store writer (decision.BadJson fault) = Unit {0}
CanDo store writer (decision.Said reply) = Unit {0}
CanDo store writer (decision.Made name id node room) =
    (held_at store.entries writer name.now ≡ None)
    × IsSomeVersion store.types store.arena (id, node)
CanDo store writer (decision.Edited name node) = CanEdit store writer name.now node
CanDo store writer (decision.Dropped name) = IsSome (held_at store.entries writer name.now)
CanDo store writer (decision.Saved name bytes) = Unit {0}

-- It does to the names what the table of statements says.
abbrev pub IsOf : Touch → Decision → Type 0
IsOf touch (decision.Refused code) = Unit {0}
IsOf touch (decision.BadBytes fault) = Unit {0}
IsOf touch (decision.BadJson fault) = Unit {0}
IsOf touch (decision.Said reply) = touch ≡ nothing
IsOf touch (decision.Made name id node room) = touch ≡ puts name.now
IsOf touch (decision.Edited name node) = touch ≡ puts name.now
IsOf touch (decision.Dropped name) = touch ≡ takes name.now
IsOf touch (decision.Saved name bytes) = touch ≡ nothing

-- How many nodes it made, by its charge: at most two for each pair, and one; and none where no
-- version gets a node.
abbrev pub MakesFew : Decision → ℕ → Nodes → Nodes → Type 0
MakesFew (decision.Made name id node room) charge old new =
    node_count new ≤ node_count old + 2 * charge + 1
MakesFew (decision.Edited name node) charge old new =
    node_count new ≤ node_count old + 2 * charge + 1
MakesFew made charge old new = node_count new ≡ node_count old

-- What every statement's function answers. Whatever versions the writer's entries stand for, the
-- decision says what the row of the machine does; and what is hashed and what is then to be hashed
-- is at most what was to be hashed and the charge.
pub record AnswersRow (pair_of : PairOf) (row : Rules → Versions → Row) (touch : Touch) (writer : ℕ)
    (old new : EngineContent) (before after : ℕ) (made : Decision) : Type 0 where
  pub can : CanDo new writer made
  pub of : IsOf touch made
  pub comes : (versions : Versions) → StandsForWriter old writer versions
      → DecidesRow old new before after writer versions (row (rules_of pair_of old) versions) made
  pub spends : (versions : Versions) → StandsForWriter old writer versions
      → after + unhashed new.arena
      ≤ before + unhashed old.arena + charge_in (row (rules_of pair_of old) versions)
  pub few : (versions : Versions) → StandsForWriter old writer versions
      → MakesFew made (charge_in (row (rules_of pair_of old) versions)) old.arena new.arena

-- the same of a function that hashes nothing
abbrev pub AnswersWith : PairOf → (Rules → Versions → Row) → Touch → ℕ → EngineContent
    → EngineContent →
    Decision
    → Type 0
AnswersWith pair_of row touch writer old new made =
    (count : ℕ) → AnswersRow pair_of row touch writer old new count count made

-- no more is to be hashed for the node of a decision than its charge
abbrev pub IsPaid : Nodes → ℕ → Decision → Type 0
IsPaid arena charge (decision.Made name id node room) = todo arena node ≤ charge
IsPaid arena charge (decision.Edited name node) = todo arena node ≤ charge
IsPaid arena charge made = Unit {0}

-- so of a row, whatever versions the writer's entries stand for
abbrev pub PaysRow : PairOf → (Rules → Versions → Row) → ℕ → EngineContent → EngineContent
    → Decision → Type 0
PaysRow pair_of row writer old new made =
    (versions : Versions) → StandsForWriter old writer versions
    → IsPaid new.arena (charge_in (row (rules_of pair_of old) versions)) made

-- and makes a version of no other: no more is to be hashed for it than the charge
abbrev pub AnswersAnew : PairOf → (Rules → Versions → Row) → Touch → ℕ → EngineContent
    → EngineContent →
    Decision
    → Type 0
AnswersAnew pair_of row touch writer old new made =
    AnswersWith pair_of row touch writer old new made × PaysRow pair_of row writer old new made

-- and makes no node
abbrev pub AnswersOf : PairOf → (Rules → Versions → Row) → Touch → ℕ → EngineContent → Decision
    → Type 0
AnswersOf pair_of row touch writer store made =
    AnswersWith pair_of row touch writer store store made

-- a fork is found to come to that, or is refused
abbrev pub MakesFork : Statement → ℕ → Entries → Decision → Type 0
MakesFork (Fork v w) writer entries (decision.Refused code) = Unit {0}
MakesFork (Fork v w) writer entries (decision.Made name id node room) =
    (name.now ≡ w) × (held_at entries writer v ≡ Some (id, node))
MakesFork (Fork v w) writer entries (decision.BadBytes fault) = ⊥
MakesFork (Fork v w) writer entries (decision.BadJson fault) = ⊥
MakesFork (Fork v w) writer entries (decision.Said reply) = ⊥
MakesFork (Fork v w) writer entries (decision.Edited name node) = ⊥
MakesFork (Fork v w) writer entries (decision.Dropped name) = ⊥
MakesFork (Fork v w) writer entries (decision.Saved name bytes) = ⊥
MakesFork _ writer entries made = Unit {0}
