use Rattle.std.proofs.Common.{◌≡◌, ◌-◌, ◌≤◌, vec_len}
use Rattle.ssz_versions.proofs.pool.Pool.reserve.Given as goal

abbrev pub invariant-loop-self : goal.invariant-loop-self
invariant-loop-self l =
    (l.fn.self ≤ vec_len l.self-inside.rooms)
    × (l.n ≤ l.fn.self → vec_len l.self-inside.rooms ≡ l.fn.self)

abbrev pub decreases-loop-self : goal.decreases-loop-self
decreases-loop-self l = l.n - vec_len l.self-inside.rooms
