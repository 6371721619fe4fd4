-- What becomes of versions whose node was lent for writing.
use Rattle.std.specs.Prelude.{◌≡◌, ℕ, List, Option, Some, OnSome, MatchOption}
use Rattle.std.specs.Borrow.{LendsSo, MutBor, Fml}
use Rattle.ssz_arena.specs.declared.node.NodeId.{NodeId}
use Rattle.ssz_arena.specs.contracts.node.NodeId as node
use Rattle.ssz_versions.specs.Content.{VersionsContent, Held, held_at, with_held}
use Rattle.ssz_versions.specs.contracts.versions.Versions.{the_row}

-- the entry has its type and the last node written, and all else is as before
abbrev pub EntryHasNode : VersionsContent → ℕ → List ℕ → VersionsContent → NodeId → Type 0
EntryHasNode old writer name new id =
    (held : Held) × (held_at old.entries writer name ≡ Some held)
    × (new.entries ≡ with_held old.entries writer name (held.0, id)) × (new.spare ≡ old.spare)

abbrev pub LendsNode : MutBor VersionsContent → ℕ → List ℕ → Option (MutBor NodeId) → Fml
LendsNode versions writer name lent =
    LendsSo the_row node.the_row versions lent
    (λ new id. OnSome lent (EntryHasNode versions.now writer name new id))
    (λ new. MatchOption lent (new ≡ versions.now) (λ _. Unit {0}))
