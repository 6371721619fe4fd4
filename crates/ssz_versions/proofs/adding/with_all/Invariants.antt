use Rattle.std.proofs.Common.{◌≡◌, ◌+◌, ◌≤◌, ◌++◌, vec_len}
use Rattle.std.specs.FinMap.Entries.{find}
use Rattle.ssz_versions.specs.Keys.{Key, key_cmp}
use Rattle.ssz_versions.proofs.Ordered.{IsOrdered}
use Rattle.ssz_versions.proofs.adding.with_all.Given as goal

abbrev pub decreases-loop-key : goal.decreases-loop-key
decreases-loop-key l = vec_len l.added

abbrev pub invariant-loop-key : goal.invariant-loop-key
invariant-loop-key l = record {
  ordered : IsOrdered l.tree;
  entries : (key : Key) → find key_cmp key (l.added.items ++ l.tree)
      ≡ find key_cmp key (l.fn.added.items ++ l.fn.held);
  room : vec_len l.added ≤ l.pool;
  spare : l.fn.pool + vec_len l.added ≤ l.pool + vec_len l.fn.added;
}
