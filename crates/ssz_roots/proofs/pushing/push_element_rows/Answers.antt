use Rattle.std.proofs.Common.{◌≡◌, ℕ, ◌+◌, ◌-◌, ◌%◌, ◌^◌, ◌≤◌, ◌++◌, List, length, take, drop, refl, sym, ap, ◌∙◌, subst, arith, length-append, length-take, length-drop}
use Rattle.std.proofs.lemmas.List.{take_at}
use Rattle.ssz_chunk.specs.declared.Chunk.{Chunk}
use Rattle.ssz_chunk.specs.Chunk.{CountsUp}
use Rattle.ssz_schema.specs.Unfolding.{type_of}
use Rattle.ssz_merkle.specs.Frontier.{FrontierHolds, chunk_bytes, whole_pairs}
use Rattle.ssz_roots.proofs.Gathering.{FirstElements-start}
use Rattle.ssz_roots.proofs.RowChunks.{row_high}
use Rattle.ssz_roots.proofs.ElementRows.{roots_from, costs_from, FirstElements-fits, FirstElements-row, FirstElements-counted}
use Rattle.ssz_roots.proofs.pushing.push_element_rows.Goals as goal

pub rows-init : goal.rows-init
rows-init g c = record {
  at_most = omega arith;
  whole = omega arith;
  long = omega arith;
  first = FirstElements-start _ _ _ _ _ _ _ refl c.requires.empty;
}

pub push_row-requires : goal.push_row-requires
push_row-requires g c =
    let width : c.next_row-height.result.1 ≡ 2 ^ c.next_row-height.result.0 =
    c.next_row-height.ensures.width in
    let n = c.next_row-height.result.1 in
    let fits = FirstElements-fits _ _ _ _ _ _ _ n _ _ c.rows.invariant.first
    (omega (arith, c.next_row-height.ensures.room)) c.requires.few in
    let enough : c.next_row-height.result.0 ≤ c.args.pushed.now.depth =
    row_high c.args.pushed.now.depth c.next_row-height.result.0
    (omega (arith, c.requires.few, c.next_row-height.ensures.room, width)) in
    let part : length (take n c.rows.row) ≡ n =
    omega (
      arith,
      length-take n c.rows.row,
      c.rows.invariant.long,
      c.next_row-height.ensures.short,
    ) in
    let long : length c.fill_row.new.row ≡ n = c.fill_row.auto.row ∙ part in
    record {
      level = subst (λ d. c.next_row-height.result.0 ≤ d) (sym c.rows.invariant.first.gathered.deep)
          enough;
      count = ap (λ (l : List Chunk). length l)
          (take_at c.fill_row.new.row (drop n c.rows.row) n long) ∙ long ∙ width;
      whole = subst (λ k. c.rows.pushed.pushed % k ≡ 0) width
          (subst (λ m. m % n ≡ 0) (sym fits.0) c.next_row-height.ensures.whole);
      room = subst (λ k. c.rows.pushed.pushed + k ≤ 2 ^ c.rows.pushed.depth) width fits.1;
    }

pub rows-preserved : goal.rows-preserved
rows-preserved g c =
    let pair_of = g.H.PairHash.pair_of in
    let ty = type_of c.args.lanes.now.schema.now c.args.elem in
    let n = c.next_row-height.result.1 in
    let width : 2 ^ c.next_row-height.result.0 ≡ n = sym c.next_row-height.ensures.width in
    let part : length (take n c.rows.row) ≡ n =
    omega (
      arith,
      length-take n c.rows.row,
      c.rows.invariant.long,
      c.next_row-height.ensures.short,
    ) in
    let row : List Chunk = c.fill_row.new.row in
    let long : length row ≡ n = c.fill_row.auto.row ∙ part in
    let all : length (row ++ drop n c.rows.row) ≡ 512 =
    omega (
      arith,
      long,
      c.rows.invariant.long,
      c.next_row-height.ensures.short,
      length-append row (drop n c.rows.row),
      length-drop n c.rows.row,
    ) in
    record {
      at_most = omega (arith, c.next_row-height.ensures.room);
      whole = c.next_row-height.ensures.next;
      long = omega (
        arith,
        all,
        c.push_row.auto.chunks,
        c.next_row-height.ensures.short,
        length-append c.push_row.new.chunks (drop n (row ++ drop n c.rows.row)),
        length-take n (row ++ drop n c.rows.row),
        length-drop n (row ++ drop n c.rows.row),
      );
      first = FirstElements-row _ _ c.rows.pushed c.push_row.new.self ty c.args.count
          c.args.lanes.now.bytes.now c.rows.done n _ _ _ _ row c.rows.invariant.first
          (omega (arith, c.next_row-height.ensures.room))
          (c.fill_row.ensures.roots ∙ ap (roots_from pair_of ty c.args.count
          c.args.lanes.now.bytes.now c.rows.done) part)
          (subst (λ k. CountsUp (costs_from ty c.args.count c.args.lanes.now.bytes.now
          c.rows.done k) (g.H.PairHash.pairs c.rows.hasher)
          (g.H.PairHash.pairs c.fill_row.new.hasher)) part c.fill_row.ensures.counts)
          c.push_row.ensures.depth
          (subst (λ (l : List Chunk). (before : List (List ℕ))
          → FrontierHolds pair_of before c.rows.pushed
          → FrontierHolds pair_of (before ++ chunk_bytes l) c.push_row.new.self)
          (take_at row (drop n c.rows.row) n long) c.push_row.ensures.holds)
          (subst (λ k. CountsUp (whole_pairs c.rows.pushed.depth (c.rows.pushed.pushed + k)
          - whole_pairs c.rows.pushed.depth c.rows.pushed.pushed)
          (g.H.PairHash.pairs c.fill_row.new.hasher) (g.H.PairHash.pairs c.push_row.new.hasher))
          width c.push_row.ensures.counts);
    }

pub returns-clause-depth : goal.returns-clause-depth
returns-clause-depth g c = c.rows.invariant.first.gathered.deep

pub returns-clause-holds : goal.returns-clause-holds
returns-clause-holds g c = c.rows.invariant.first.gathered.holds

pub returns-clause-counts : goal.returns-clause-counts
returns-clause-counts g c =
    FirstElements-counted _ _ _ _ _ _ _ _ _ c.rows.invariant.first (omega arith)
