-- What `root` and `prove` hash.
use Rattle.std.specs.Prelude.{◌≡◌, ℕ, Some, ◌≤◌, ◌+◌, ◌<◌, ◌^◌}
use Rattle.ssz_arena.specs.Content.{todo}
use Rattle.ssz_script.specs.declared.statement.Statement.{Statement}
use Rattle.ssz_script.specs.declared.statement.Statement.TheVariants.{Root, Prove}
use Rattle.ssz_versions.specs.Content.{Held, held_at}
use Rattle.ssz_decisions.specs.Content.{EngineContent}
use Rattle.ssz_machine.specs.State.{Name}

-- `root` leaves nothing to be hashed of what its name stands for
abbrev pub LeavesHashed : Statement → ℕ → EngineContent → Type 0
LeavesHashed (Root v) writer store =
    (held : Held) → held_at store.entries writer v ≡ Some held → todo store.arena held.1 ≡ 0
LeavesHashed _ writer store = Unit {0}

-- no more is hashed than was to be hashed for what a name stands for
abbrev pub HashesFor : Name → ℕ → EngineContent → ℕ → ℕ → Type 0
HashesFor v writer old before after =
    (held : Held) → held_at old.entries writer v ≡ Some held
    → after ≤ before + todo old.arena held.1

-- so by `root` and `prove`, whatever is to be hashed for other versions
abbrev pub HashesDue : Statement → ℕ → EngineContent → ℕ → ℕ → Type 0
HashesDue (Root v) writer old before after = HashesFor v writer old before after
HashesDue (Prove v indices) writer old before after = HashesFor v writer old before after
HashesDue _ writer old before after = Unit {0}

-- a count of pairs rose by n at least, or came to the greatest u64
abbrev pub RisesBy : ℕ → ℕ → ℕ → Type 0
RisesBy n before after = after + 1 < 2 ^ 64 → before + n ≤ after

-- `root` hashes something where something is to be hashed for what its name stands for
abbrev pub HashesSome : Statement → ℕ → EngineContent → ℕ → ℕ → Type 0
HashesSome (Root v) writer old before after =
    (held : Held) → held_at old.entries writer v ≡ Some held → 0 < todo old.arena held.1
    → RisesBy 1 before after
HashesSome _ writer old before after = Unit {0}
