use Rattle.std.proofs.Common.{◌≡◌, ◌+◌, ◌^◌, ◌≤◌, drop, refl, sym, subst, arith, length-append, length-take, length-drop}
use Rattle.ssz_roots.proofs.Packing.{Packed, Packed-start}
use Rattle.ssz_roots.proofs.RowChunks.{Packed-row, row_high}
use Rattle.ssz_roots.proofs.rows.push_chunk_rows.Goals as goal

pub returns-then-count-lt-SHORTEST-clause-holds : goal.returns-then-count-lt-SHORTEST-clause-holds
returns-then-count-lt-SHORTEST-clause-holds g c = c.requires.empty

pub returns-then-count-lt-SHORTEST-clause-counts :
    goal.returns-then-count-lt-SHORTEST-clause-counts
returns-then-count-lt-SHORTEST-clause-counts g c =
    let none : Packed g.H.PairHash.pair_of c.args.pushed.now.depth c.args.bytes.now 0
    c.args.pushed.now (g.H.PairHash.pairs c.args.hasher.now)
    (g.H.PairHash.pairs c.args.hasher.now) = Packed-start _ _ _ _ _ refl c.requires.empty in
    none.pushed.counted

pub rows-init : goal.rows-init
rows-init g c = record {
  at_most = omega arith;
  whole = omega arith;
  long = omega arith;
  packed = Packed-start _ _ _ _ _ refl c.requires.empty;
}

pub push_row_of-requires-clause-deep : goal.push_row_of-requires-clause-deep
push_row_of-requires-clause-deep g c =
    let enough : c.next_row-height.result.0 ≤ c.args.pushed.now.depth =
    row_high c.args.pushed.now.depth c.next_row-height.result.0
    (omega (
      arith,
      c.requires.room,
      c.next_row-height.ensures.room,
      c.next_row-height.ensures.width,
    )) in
    omega (arith, enough, c.rows.invariant.packed.pushed.deep)

pub rows-preserved : goal.rows-preserved
rows-preserved g c =
    let width : 2 ^ c.next_row-height.result.0 ≡ c.next_row-height.result.1 =
    sym c.next_row-height.ensures.width in
    record {
      at_most = omega (arith, c.next_row-height.ensures.room);
      whole = c.next_row-height.ensures.next;
      long = omega (
        arith,
        c.push_row_of.auto.row,
        c.rows.invariant.long,
        c.next_row-height.ensures.short,
        length-append c.push_row_of.new.row (drop c.next_row-height.result.1 c.rows.row),
        length-take c.next_row-height.result.1 c.rows.row,
        length-drop c.next_row-height.result.1 c.rows.row,
      );
      packed = subst (λ n. Packed g.H.PairHash.pair_of c.args.pushed.now.depth c.args.bytes.now
          (c.rows.done + n) c.push_row_of.new.pushed (g.H.PairHash.pairs c.args.hasher.now)
          (g.H.PairHash.pairs c.push_row_of.new.hasher)) width
          (Packed-row g.H.PairHash.pair_of c.args.pushed.now.depth c.args.bytes.now
          c.rows.done (2 ^ c.next_row-height.result.0) c.rows.pushed c.push_row_of.new.pushed _ _ _
          c.rows.invariant.packed c.push_row_of.ensures.depth c.push_row_of.ensures.pushed
          c.push_row_of.ensures.holds c.push_row_of.ensures.counts);
    }

pub returns-clause-depth : goal.returns-clause-depth
returns-clause-depth g c = c.rows.invariant.packed.pushed.deep

pub returns-clause-holds : goal.returns-clause-holds
returns-clause-holds g c = c.rows.invariant.packed.holds

pub returns-clause-counts : goal.returns-clause-counts
returns-clause-counts g c = c.rows.invariant.packed.pushed.counted
