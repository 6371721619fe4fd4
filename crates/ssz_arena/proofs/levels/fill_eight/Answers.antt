use Rattle.std.proofs.Common.{◌≡◌, ◌∙◌, ◌+◌, ◌-◌, ◌≤◌, List, take, length, refl, sym, ap, subst, inl, inr, arith, length-take}
use Rattle.std.specs.List.{All, count_by}
use Rattle.std.proofs.lemmas.Bool.{cases_lt}
use Rattle.std.proofs.lemmas.List.{take_all}
use Rattle.std.proofs.lemmas.List.Elements.{All-filter}
use Rattle.std.proofs.lemmas.List.Sums.{sum_by_more}
use Rattle.ssz_chunk.specs.Chunk.{CountsUp}
use Rattle.ssz_arena.specs.declared.node.NodeId.{NodeId}
use Rattle.ssz_arena.specs.Content.{is_unhashed}
use Rattle.ssz_arena.specs.Batches.{AreHashed, IsNodeReady, id_at, is_due, todo_all}
use Rattle.ssz_arena.proofs.Nodes.{due}
use Rattle.ssz_arena.proofs.Together.{counts_then, due_below, due_hashed, due_pass, fills_then, ready_sum}
use Rattle.ssz_arena.proofs.levels.fill_eight.Goals as goal

pub fill_batch-requires-clause-below : goal.fill_batch-requires-clause-below
fill_batch-requires-clause-below g c =
    due_below c.args.store.now.nodes c.args.ids.now _ c.args.limit c.due_of-count.ensures.due
    c.requires.below

pub fill_batch-requires-clause-due : goal.fill_batch-requires-clause-due
fill_batch-requires-clause-due g c =
    due_pass c.args.store.now.nodes c.args.ids.now _ c.due_of-count.ensures.due

pub fill_batch-requires-clause-ready : goal.fill_batch-requires-clause-ready
fill_batch-requires-clause-ready g c =
    subst (λ (l : List NodeId). All (IsNodeReady c.args.store.now.nodes) l)
    (sym c.due_of-count.ensures.due)
    (All-filter (is_due c.args.store.now.nodes) (IsNodeReady c.args.store.now.nodes) c.args.ids.now
    c.requires.ready)

pub fill_batch-requires-clause-distinct : goal.fill_batch-requires-clause-distinct
fill_batch-requires-clause-distinct g c = c.if-are_distinct.ensures refl

pub returns-then-are_distinct-clause-hashed : goal.returns-then-are_distinct-clause-hashed
returns-then-are_distinct-clause-hashed g c =
    due_hashed c.args.store.now.nodes c.fill_batch.new.store.nodes c.args.ids.now
    (λ j within. omega (arith, c.requires.below j within, c.requires.inside))
    c.fill_batch.ensures.wrote.fills.todo
    (subst (AreHashed c.fill_batch.new.store.nodes) c.due_of-count.ensures.due
    c.fill_batch.ensures.wrote.hashed)

pub returns-then-are_distinct-clause-falls : goal.returns-then-are_distinct-clause-falls
returns-then-are_distinct-clause-falls g c = omega (arith, c.fill_batch.ensures.wrote.fewer)

pub returns-then-are_distinct-clause-counts : goal.returns-then-are_distinct-clause-counts
returns-then-are_distinct-clause-counts g c =
    let made : length (take c.due_of-count.result.1 c.due_of-count.result.0)
    ≡ count_by is_unhashed c.args.store.now.nodes - count_by is_unhashed
    c.fill_batch.new.store.nodes =
    omega (arith, c.fill_batch.ensures.wrote.fewer) in
    subst (λ k. CountsUp k (g.H.PairHash.pairs c.args.hasher.now)
    (g.H.PairHash.pairs c.fill_batch.new.hasher)) made c.fill_batch.ensures.counts

pub fill-requires-clause-inside : goal.fill-requires-clause-inside
fill-requires-clause-inside g c =
    omega (
      arith,
      c.requires.inside,
      c.each.invariant.fills.count,
      due_below c.args.store.now.nodes c.args.ids.now _ c.args.limit c.due_of-count.ensures.due
          c.requires.below c.each.i c.each-test.true,
    )

pub each-preserved : goal.each-preserved
each-preserved g c =
    let nodes = c.args.store.now.nodes in
    let ids = take c.due_of-count.result.1 c.due_of-count.result.0 in
    let under : (id_at ids c.each.i).0 ≤ c.args.limit =
    omega (
      arith,
      due_below nodes c.args.ids.now ids c.args.limit c.due_of-count.ensures.due
          c.requires.below c.each.i c.each-test.true,
    ) in
    let more : todo_all nodes (take (c.each.i + 1) ids)
    ≡ todo_all nodes (take c.each.i ids) + due nodes (id_at ids c.each.i).0 =
    sum_by_more (λ (id : NodeId). due nodes id.0) ids c.each.i _ c.each-test.true in
    record {
      arena = c.fill.ensures.arena;
      spare = c.fill.ensures.spare ∙ c.each.invariant.spare;
      fills = fills_then _ _ _ _ _ _ (omega arith) under c.each.invariant.fills
          c.fill.ensures.fills;
      hashed = λ j below. elim (cases_lt j c.each.i) [
        | inl earlier ↦ omega (
          arith,
          c.each.invariant.hashed j earlier,
          c.fill.ensures.fills.todo (id_at ids j).0,
        )
        | inr here ↦
            let same : c.each.i ≡ j = omega arith in
            subst (λ k. due c.fill.new.store.nodes (id_at ids k).0 ≡ 0) same
            c.fill.ensures.hashed
      ];
      todo = omega (
        arith,
        more,
        c.each.invariant.todo,
        c.fill.ensures.todo,
        c.each.invariant.fills.todo (id_at ids c.each.i).0,
      );
      falls = omega (arith, c.each.invariant.falls, c.fill.ensures.falls);
      counts = counts_then _ _ _ _ _ _ c.each.invariant.falls c.fill.ensures.falls
          c.each.invariant.counts c.fill.ensures.counts;
    }

pub returns-clause-hashed : goal.returns-clause-hashed
returns-clause-hashed g c =
    due_hashed c.args.store.now.nodes c.each.store.nodes c.args.ids.now
    (λ j within. omega (arith, c.requires.below j within, c.requires.inside))
    c.each.invariant.fills.todo
    (subst (AreHashed c.each.store.nodes) c.due_of-count.ensures.due
    (λ j within. c.each.invariant.hashed j (omega arith)))

pub returns-clause-todo : goal.returns-clause-todo
returns-clause-todo g c =
    let nodes = c.args.store.now.nodes in
    let found = take c.due_of-count.result.1 c.due_of-count.result.0 in
    let few : _ = ready_sum g.H.PairHash.pair_of nodes found c.requires.arena
    (due_below nodes c.args.ids.now found (length nodes) c.due_of-count.ensures.due
    (λ j within. omega (arith, c.requires.below j within, c.requires.inside)))
    (due_pass nodes c.args.ids.now found c.due_of-count.ensures.due)
    (subst (λ (l : List NodeId). All (IsNodeReady nodes) l) (sym c.due_of-count.ensures.due)
    (All-filter (is_due nodes) (IsNodeReady nodes) c.args.ids.now c.requires.ready)) in
    let all : todo_all nodes (take c.each.i found) ≡ todo_all nodes found =
    ap (todo_all nodes) (take_all c.each.i found (omega arith)) in
    omega (
      arith,
      few,
      all,
      c.each.invariant.todo,
      length-take c.due_of-count.result.1 c.due_of-count.result.0,
      c.due_of-count.ensures.few,
    )
