use Rattle.std.proofs.Common.{◌≡◌, ◌-◌, ◌%◌, ◌≤◌, length}
use Rattle.ssz_schema.specs.Unfolding.{type_of}
use Rattle.ssz_roots.proofs.Gathering.{FirstElements}
use Rattle.ssz_roots.proofs.pushing.push_element_rows.Given as goal

abbrev pub invariant-rows : goal.invariant-rows
invariant-rows g l = record {
  at_most : l.done ≤ l.count;
  whole : l.done % 8 ≡ 0;
  long : length l.row ≡ 512;
  first : FirstElements g.H.PairHash.pair_of l.fn.pushed.depth l.pushed
      (type_of l.lanes.schema.now l.elem) l.count l.lanes.bytes.now l.done
      (g.H.PairHash.pairs l.fn.hasher) (g.H.PairHash.pairs l.hasher);
}

abbrev pub decreases-rows : goal.decreases-rows
decreases-rows g l = l.count - l.done
