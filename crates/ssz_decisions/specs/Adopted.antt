-- Writers that take over what the base's writer holds.
use Rattle.std.specs.Prelude.{◌≡◌, ◌≤◌, ℕ, nat_lt, if◌then◌else◌}
use Rattle.ssz_versions.specs.Content.{Entries, held_at}
use Rattle.ssz_machine.specs.State.{Name}
use Rattle.ssz_machine.specs.Plays.{base_writer}

-- each writer of so many scripts holds what the base's holds, and all else is as before
abbrev pub AdoptsAll : ℕ → Entries → Entries → Type 0
AdoptsAll count old new = (writer : ℕ) (name : Name)
    → held_at new writer name
    ≡ (if nat_lt writer count then held_at old base_writer name else held_at old writer name)

-- so have those of at most so many
abbrev pub AdoptsSome : ℕ → Entries → Entries → Type 0
AdoptsSome most old new = (count : ℕ) × (count ≤ most) × AdoptsAll count old new
