-- What is hashed for a version was to be hashed for it.
use Rattle.std.proofs.Common.{◌≡◌, ◌<◌, ◌≤◌, ◌+◌, ◌∙◌, ℕ, Some, sym, subst}
use Rattle.ssz_arena.specs.Content.{todo}
use Rattle.ssz_versions.specs.Content.{Held, held_at}
use Rattle.ssz_machine.specs.State.{Name}
use Rattle.ssz_decisions.specs.Content.{EngineContent}
use Rattle.ssz_script.specs.declared.statement.Statement.TheVariants.{Root}
use Rattle.ssz_decisions.specs.Roots.{HashesFor, HashesSome, RisesBy}
use Rattle.ssz_decisions.proofs.Entries.{some_held}

-- the node of an entry is what its name stands for
pub hashed-for : (store : EngineContent) (writer : ℕ) (v : Name) (held : Held) (before after : ℕ)
    → held_at store.entries writer v ≡ Some held → after ≤ before + todo store.arena held.1
    → HashesFor v writer store before after
hashed-for store writer v held before after there paid = λ is found.
    subst (λ (h : Held). after ≤ before + todo store.arena h.1)
    (some_held held is (sym there ∙ found)) paid

-- and something is hashed for it, where something was to be
pub hashed-some : (store : EngineContent) (writer : ℕ) (v : Name) (held : Held) (before after : ℕ)
    → held_at store.entries writer v ≡ Some held
    → (0 < todo store.arena held.1 → RisesBy 1 before after)
    → HashesSome (Root v) writer store before after
hashed-some store writer v held before after there rises = λ is found some.
    rises (subst (λ (h : Held). 0 < todo store.arena h.1)
    (some_held is held (sym found ∙ there)) some)
