use Rattle.std.proofs.Common.{◌≡◌, ◌-◌, ◌%◌, ◌≤◌, length}
use Rattle.ssz_roots.proofs.Packing.{Packed}
use Rattle.ssz_roots.proofs.rows.push_chunk_rows.Given as goal

abbrev pub invariant-rows : goal.invariant-rows
invariant-rows g l = record {
  at_most : l.done ≤ l.count;
  whole : l.done % 8 ≡ 0;
  long : length l.row ≡ 512;
  packed : Packed g.H.PairHash.pair_of l.fn.pushed.depth l.bytes l.done l.pushed
      (g.H.PairHash.pairs l.fn.hasher) (g.H.PairHash.pairs l.hasher);
}

abbrev pub decreases-rows : goal.decreases-rows
decreases-rows g l = l.count - l.done
