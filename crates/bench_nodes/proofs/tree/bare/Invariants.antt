use Rattle.std.specs.Prelude.{◌*◌, ◌-◌, ◌≤◌}
use Rattle.ssz_arena.specs.Content.{IsNodeOf}
use Rattle.bench_nodes.proofs.tree.bare.Given as goal

-- there is room for the rest
abbrev pub invariant-loop-i : goal.invariant-loop-i
invariant-loop-i g l = IsNodeOf l.arena l.top × (2 * (l.count - l._i) ≤ l.arena.spare)
