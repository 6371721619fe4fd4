-- Tables of at most one entry.
use Rattle.std.proofs.Common.{◌≡◌, Bool, true, false, cond, Some, None}
use Rattle.std.proofs.lemmas.Option.{none-some, same_Some}
use Rattle.std.proofs.Common.{subst}
use Rattle.ssz_arena.specs.declared.node.NodeId.{NodeId}
use Rattle.ssz_versions.specs.Content.{Held}

-- where at most one entry is held, what holds of its node holds of that of each entry
pub one_held : (b : Bool) (held other : Held) (P : NodeId → Type 0) → P held.1
    → cond b (Some held) None ≡ Some other → P other.1
one_held true held other P here e = subst (λ h. P h.1) (same_Some held other e) here
one_held false held other P here e = absurd (none-some other e)
