use Rattle.std.proofs.Common.{◌∙◌, [], get_or, ◌<◌, ◌≡◌, ◌+◌, ◌-◌, ◌*◌, take, drop, length, ap, subst, sym, arith, length-take}
use Rattle.std.proofs.lemmas.List.Sums.{sum_by-take-drop}
use Rattle.std.proofs.lemmas.Option.{get_or_from_slice_get, slice_get-get_or}
use Rattle.ssz_chunk.specs.Tree.{leaf, root}
use Rattle.ssz_arena.specs.declared.node.Node.TheVariants.{Leaf}
use Rattle.ssz_arena.proofs.Filling.{found_two, value_read, left_before, right_before, due_old, fills, hashed, unhashed_fall, arena_filled, counts_none, counts_all}
use Rattle.ssz_arena.specs.declared.node.NodeId.{NodeId}
use Rattle.ssz_arena.specs.Content.{is_unhashed}
use Rattle.std.specs.List.{count_by}
use Rattle.ssz_arena.specs.Batches.{NodesAreBelow, AreDue, AreHashed, id_at, kids, todo_all}
use Rattle.ssz_arena.specs.Filled.{FillsUpTo}
use Rattle.ssz_arena.proofs.Nodes.{tree, due, none_due}
use Rattle.ssz_arena.proofs.Together.{KidsParts, due_below, due_hashed, due_pass, due_sum, fills_then, hashed_join, kids_parts, kids_sum, ready_later, sum_less}
use Rattle.ssz_arena.proofs.Forks.{due_now, due_then, fills_wider, left_low, one_below, one_hashed, one_sum, right_low, todo-two, two_below}
use Rattle.ssz_arena.proofs.levels.+fill.Goals as goal

pub fill_way-returns-then-not-is_due-clause-hashed :
    goal.fill_way-returns-then-not-is_due-clause-hashed
fill_way-returns-then-not-is_due-clause-hashed g t c =
    none_due c.args.store.now.nodes c.args.id.0 _
    (slice_get-get_or _ _ _ c.requires.inside) (sym c.is_due.ensures ∙ c.if-not-is_due.true)

pub fill_way-returns-then-not-is_due-clause-counts :
    goal.fill_way-returns-then-not-is_due-clause-counts
fill_way-returns-then-not-is_due-clause-counts g t c =
    counts_none (count_by is_unhashed c.args.store.now.nodes) _

pub fill_fork-is_due-requires : goal.fill_fork-is_due-requires
fill_fork-is_due-requires g t c = omega (
  arith,
  c.requires.inside,
  left_before g.H.PairHash.pair_of c.args.store.now.nodes c.args.id.0 c.args.left c.args.right
      c.requires.arena c.requires.found,
)

pub fill_fork-is_due-requires-then-is_due : goal.fill_fork-is_due-requires-then-is_due
fill_fork-is_due-requires-then-is_due g t c = omega (
  arith,
  c.requires.inside,
  right_before g.H.PairHash.pair_of c.args.store.now.nodes c.args.id.0 c.args.left c.args.right
      c.requires.arena c.requires.found,
)

pub fill_fork-fill_all-requires : goal.fill_fork-fill_all-requires
fill_fork-fill_all-requires g t c κs within =
    let nodes = c.args.store.now.nodes in
    let low_left : c.args.left.0 < c.args.id.0 =
    left_low g.H.PairHash.pair_of nodes c.args.id _ _ c.requires.arena c.requires.found in
    let low_right : c.args.right.0 < c.args.id.0 =
    right_low g.H.PairHash.pair_of nodes c.args.id _ _ c.requires.arena c.requires.found in (
      omega (arith, c.decreases),
      (
        within,
        (
          c.requires.arena,
          (
            omega (arith, c.requires.inside),
            (two_below c.args.id.0 _ _ low_left low_right, omega arith),
          ),
        ),
      ),
    )

pub fill_fork-returns-then-is_due-2-clause-fills : goal.fill_fork-returns-then-is_due-2-clause-fills
fill_fork-returns-then-is_due-2-clause-fills g t c =
    fills_then c.args.id.0 c.args.id.0 c.args.id.0 c.args.store.now.nodes
    c.fill_all.new.store.nodes c.fill.new.store.nodes (omega arith) (omega arith)
    c.fill_all.ensures.fills c.fill.ensures.fills

pub fill_fork-returns-then-is_due-2-clause-todo : goal.fill_fork-returns-then-is_due-2-clause-todo
fill_fork-returns-then-is_due-2-clause-todo g t c =
    let p = g.H.PairHash.pair_of in
    let nodes = c.args.store.now.nodes in
    omega (
      arith,
      c.fill.ensures.todo,
      c.fill_all.ensures.todo,
      c.fill_all.ensures.hashed 0 (omega arith),
      c.fill_all.ensures.hashed 1 (omega arith),
      todo-two nodes c.args.left c.args.right,
      due_now p nodes c.args.id _ _ c.requires.arena c.requires.found,
      due_then p nodes c.args.id _ _ c.requires.arena c.requires.found c.args.id.0
          c.fill_all.new.store.nodes c.fill_all.ensures.fills,
    )

pub fill_fork-fill_way-requires : goal.fill_fork-fill_way-requires
fill_fork-fill_way-requires g t c κs within =
    let before : c.args.left.0 < c.args.id.0 = left_before g.H.PairHash.pair_of
    c.args.store.now.nodes c.args.id.0 c.args.left c.args.right
    c.requires.arena c.requires.found in (
      omega (arith, c.decreases, before),
      (
        within,
        (
          c.requires.arena,
          omega (
            arith,
            before,
            c.requires.inside,
          ),
        ),
      ),
    )

pub fill_fork-fill_way-requires-2 : goal.fill_fork-fill_way-requires-2
fill_fork-fill_way-requires-2 g t c κs within =
    let before : c.args.right.0 < c.args.id.0 = right_before g.H.PairHash.pair_of
    c.args.store.now.nodes c.args.id.0 c.args.left c.args.right
    c.requires.arena c.requires.found in (
      omega (arith, c.decreases, before),
      (
        within,
        (
          c.fill_way.ensures.arena,
          omega (
            arith,
            before,
            c.requires.inside,
            c.fill_way.ensures.fills.count,
          ),
        ),
      ),
    )

pub fill_fork-chunk-requires : goal.fill_fork-chunk-requires
fill_fork-chunk-requires g t c =
    omega (
      arith,
      left_before g.H.PairHash.pair_of c.args.store.now.nodes c.args.id.0 c.args.left c.args.right
          c.requires.arena c.requires.found,
      c.requires.inside,
      c.fill_way.ensures.fills.count,
      c.fill_way-2.ensures.fills.count,
    )

pub fill_fork-chunk-requires-2 : goal.fill_fork-chunk-requires-2
fill_fork-chunk-requires-2 g t c =
    omega (
      arith,
      right_before g.H.PairHash.pair_of c.args.store.now.nodes c.args.id.0 c.args.left c.args.right
          c.requires.arena c.requires.found,
      c.requires.inside,
      c.fill_way.ensures.fills.count,
      c.fill_way-2.ensures.fills.count,
    )

pub fill_fork-keep_root-requires-clause-inside : goal.fill_fork-keep_root-requires-clause-inside
fill_fork-keep_root-requires-clause-inside g t c =
    omega (
      arith,
      c.requires.inside,
      c.fill_way.ensures.fills.count,
      c.fill_way-2.ensures.fills.count,
    )

pub fill_fork-keep_root-requires-clause-due : goal.fill_fork-keep_root-requires-clause-due
fill_fork-keep_root-requires-clause-due g t c =
    ap is_unhashed (get_or_from_slice_get c.fill_way-2.new.store.nodes c.args.id.0 _ _
    (found_two g.H.PairHash.pair_of c.args.store.now.nodes c.args.id.0 c.args.left c.args.right
    c.requires.arena c.requires.found c.fill_way.new.store.nodes c.fill_way-2.new.store.nodes
    c.pair-chunk.result
    c.fill_way.ensures.fills c.fill_way.ensures.hashed c.fill_way-2.ensures.fills
    c.fill_way-2.ensures.hashed))

pub fill_fork-returns-clause-fills : goal.fill_fork-returns-clause-fills
fill_fork-returns-clause-fills g t c =
    let kept : c.keep_root.new.self.nodes ≡ _ =
    c.keep_root.ensures.nodes c.args.left c.args.right (found_two g.H.PairHash.pair_of
    c.args.store.now.nodes c.args.id.0 c.args.left c.args.right
    c.requires.arena c.requires.found c.fill_way.new.store.nodes c.fill_way-2.new.store.nodes
    c.pair-chunk.result
    c.fill_way.ensures.fills c.fill_way.ensures.hashed c.fill_way-2.ensures.fills
    c.fill_way-2.ensures.hashed) in
    rw kept (fills g.H.PairHash.pair_of c.args.store.now.nodes c.args.id.0 c.args.left c.args.right
    c.requires.arena c.requires.found c.fill_way.new.store.nodes c.fill_way-2.new.store.nodes
    c.pair-chunk.result
    c.fill_way.ensures.fills c.fill_way.ensures.hashed c.fill_way-2.ensures.fills
    c.fill_way-2.ensures.hashed)

pub fill_fork-returns-clause-hashed : goal.fill_fork-returns-clause-hashed
fill_fork-returns-clause-hashed g t c =
    let kept : c.keep_root.new.self.nodes ≡ _ =
    c.keep_root.ensures.nodes c.args.left c.args.right (found_two g.H.PairHash.pair_of
    c.args.store.now.nodes c.args.id.0 c.args.left c.args.right
    c.requires.arena c.requires.found c.fill_way.new.store.nodes c.fill_way-2.new.store.nodes
    c.pair-chunk.result
    c.fill_way.ensures.fills c.fill_way.ensures.hashed c.fill_way-2.ensures.fills
    c.fill_way-2.ensures.hashed) in
    rw kept (hashed g.H.PairHash.pair_of c.args.store.now.nodes c.args.id.0 c.args.left c.args.right
    c.requires.arena c.requires.found c.fill_way.new.store.nodes c.fill_way-2.new.store.nodes
    c.pair-chunk.result
    c.fill_way.ensures.fills c.fill_way.ensures.hashed c.fill_way-2.ensures.fills
    c.fill_way-2.ensures.hashed)

pub fill_fork-returns-clause-todo : goal.fill_fork-returns-clause-todo
fill_fork-returns-clause-todo g t c =
    omega (
      arith,
      c.pair-chunk.ensures.counts.at_most,
      c.fill_way-2.ensures.todo,
      c.fill_way.ensures.todo,
      c.fill_way.ensures.fills.todo c.args.right.0,
      due_old g.H.PairHash.pair_of c.args.store.now.nodes c.args.id.0 c.args.left c.args.right
          c.requires.arena c.requires.found,
    )

pub fill_fork-returns-clause-falls : goal.fill_fork-returns-clause-falls
fill_fork-returns-clause-falls g t c =
    let kept : c.keep_root.new.self.nodes ≡ _ =
    c.keep_root.ensures.nodes c.args.left c.args.right (found_two g.H.PairHash.pair_of
    c.args.store.now.nodes c.args.id.0 c.args.left c.args.right
    c.requires.arena c.requires.found c.fill_way.new.store.nodes c.fill_way-2.new.store.nodes
    c.pair-chunk.result
    c.fill_way.ensures.fills c.fill_way.ensures.hashed c.fill_way-2.ensures.fills
    c.fill_way-2.ensures.hashed) in
    rw kept (omega (
      arith,
      c.fill_way.ensures.falls,
      c.fill_way-2.ensures.falls,
      unhashed_fall g.H.PairHash.pair_of c.args.store.now.nodes c.args.id.0 c.args.left c.args.right
          c.requires.arena c.requires.found c.fill_way.new.store.nodes c.fill_way-2.new.store.nodes
          c.pair-chunk.result
          c.fill_way.ensures.fills c.fill_way.ensures.hashed c.fill_way-2.ensures.fills
          c.fill_way-2.ensures.hashed,
    ))

pub fill_fork-returns-clause-counts : goal.fill_fork-returns-clause-counts
fill_fork-returns-clause-counts g t c =
    let kept : c.keep_root.new.self.nodes ≡ _ =
    c.keep_root.ensures.nodes c.args.left c.args.right (found_two g.H.PairHash.pair_of
    c.args.store.now.nodes c.args.id.0 c.args.left c.args.right
    c.requires.arena c.requires.found c.fill_way.new.store.nodes c.fill_way-2.new.store.nodes
    c.pair-chunk.result
    c.fill_way.ensures.fills c.fill_way.ensures.hashed c.fill_way-2.ensures.fills
    c.fill_way-2.ensures.hashed) in
    rw kept (counts_all (count_by is_unhashed c.args.store.now.nodes) (count_by is_unhashed
    c.fill_way.new.store.nodes)
    (count_by is_unhashed c.fill_way-2.new.store.nodes) _ _ _ _ _ c.fill_way.ensures.falls
    c.fill_way-2.ensures.falls
    (unhashed_fall g.H.PairHash.pair_of c.args.store.now.nodes c.args.id.0 c.args.left c.args.right
    c.requires.arena c.requires.found c.fill_way.new.store.nodes c.fill_way-2.new.store.nodes
    c.pair-chunk.result
    c.fill_way.ensures.fills c.fill_way.ensures.hashed c.fill_way-2.ensures.fills
    c.fill_way-2.ensures.hashed)
    c.fill_way.ensures.counts c.fill_way-2.ensures.counts c.pair-chunk.ensures.counts)

pub fill_fork-returns-clause-arena : goal.fill_fork-returns-clause-arena
fill_fork-returns-clause-arena g t c =
    let kept : c.keep_root.new.self.nodes ≡ _ =
    c.keep_root.ensures.nodes c.args.left c.args.right (found_two g.H.PairHash.pair_of
    c.args.store.now.nodes c.args.id.0 c.args.left c.args.right
    c.requires.arena c.requires.found c.fill_way.new.store.nodes c.fill_way-2.new.store.nodes
    c.pair-chunk.result
    c.fill_way.ensures.fills c.fill_way.ensures.hashed c.fill_way-2.ensures.fills
    c.fill_way-2.ensures.hashed) in
    let p = g.H.PairHash.pair_of in
    let left_inside : c.args.left.0 < length c.fill_way-2.new.store.nodes =
    omega (
      arith,
      left_before g.H.PairHash.pair_of c.args.store.now.nodes c.args.id.0 c.args.left c.args.right
          c.requires.arena c.requires.found,
      c.requires.inside,
      c.fill_way.ensures.fills.count,
      c.fill_way-2.ensures.fills.count,
    ) in
    let right_inside : c.args.right.0 < length c.fill_way-2.new.store.nodes =
    omega (
      arith,
      right_before g.H.PairHash.pair_of c.args.store.now.nodes c.args.id.0 c.args.left c.args.right
          c.requires.arena c.requires.found,
      c.requires.inside,
      c.fill_way.ensures.fills.count,
      c.fill_way-2.ensures.fills.count,
    ) in
    let left_none : due c.fill_way-2.new.store.nodes c.args.left.0 ≡ 0 =
    omega (arith, c.fill_way.ensures.hashed, c.fill_way-2.ensures.fills.todo c.args.left.0) in
    let left_root : c.chunk.result.now.0 ≡ root p (tree c.args.store.now.nodes c.args.left.0) =
    value_read p c.fill_way-2.new.store.nodes c.args.left.0 _ c.chunk.result.now
    c.fill_way-2.ensures.arena left_none
    (slice_get-get_or c.fill_way-2.new.store.nodes c.args.left.0
    (Leaf (record { 0 = [] })) left_inside) c.chunk.ensures
    ∙ ap (λ ts. root p (get_or ts c.args.left.0 (leaf [])))
    (c.fill_way-2.ensures.fills.trees ∙ c.fill_way.ensures.fills.trees) in
    let right_root : c.chunk-2.result.now.0
    ≡ root p (tree c.fill_way.new.store.nodes c.args.right.0) =
    value_read p c.fill_way-2.new.store.nodes c.args.right.0 _ c.chunk-2.result.now
    c.fill_way-2.ensures.arena c.fill_way-2.ensures.hashed
    (slice_get-get_or c.fill_way-2.new.store.nodes
    c.args.right.0
    (Leaf (record { 0 = [] })) right_inside) c.chunk-2.ensures
    ∙ ap (λ ts. root p (get_or ts c.args.right.0 (leaf []))) c.fill_way-2.ensures.fills.trees in
    rw kept (arena_filled g.H.PairHash.pair_of c.args.store.now.nodes c.args.id.0 c.args.left
    c.args.right
    c.requires.arena c.requires.found c.fill_way.new.store.nodes c.fill_way-2.new.store.nodes
    c.pair-chunk.result
    c.fill_way.ensures.fills c.fill_way.ensures.hashed c.fill_way-2.ensures.fills
    c.fill_way-2.ensures.hashed
    (c.pair-chunk.ensures.value ∙ ap (λ a. p a c.chunk-2.result.now.0) left_root
    ∙ ap (p (root p (tree c.args.store.now.nodes c.args.left.0))) right_root)
    c.fill_way-2.ensures.arena)

pub fill_all-returns-then-count-eq0-clause-hashed :
    goal.fill_all-returns-then-count-eq0-clause-hashed
fill_all-returns-then-count-eq0-clause-hashed g t c =
    let nodes = c.args.store.now.nodes in
    let n = c.due_of-count.result.1 in
    let none : AreHashed nodes (take n c.due_of-count.result.0) =
    λ j inner. absurd (omega (arith, c.if-count-eq0.true, length-take n c.due_of-count.result.0)) in
    due_hashed nodes nodes c.args.ids.now
    (λ j inner. omega (arith, c.requires.below j inner, c.requires.inside)) (λ j. omega arith)
    (subst (AreHashed nodes) c.due_of-count.ensures.due none)

pub fill_all-fill_way-requires : goal.fill_all-fill_way-requires
fill_all-fill_way-requires g t c κs within =
    let found = c.due_of-count.result.0 in
    let low : (id_at found 0).0 < c.args.limit =
    one_below found c.due_of-count.result.1 c.if-count-eq1.true c.args.limit
    c.due_of-count.ensures.long
    (due_below c.args.store.now.nodes c.args.ids.now _ c.args.limit c.due_of-count.ensures.due
    c.requires.below) in (
      omega (arith, c.decreases, low),
      (within, (c.requires.arena, omega (arith, low, c.requires.inside))),
    )

pub fill_all-returns-then-count-eq1-clause-fills :
    goal.fill_all-returns-then-count-eq1-clause-fills
fill_all-returns-then-count-eq1-clause-fills g t c =
    let low : _ = one_below c.due_of-count.result.0 c.due_of-count.result.1 c.if-count-eq1.true
    c.args.limit c.due_of-count.ensures.long
    (due_below c.args.store.now.nodes c.args.ids.now _ c.args.limit c.due_of-count.ensures.due
    c.requires.below) in
    fills_wider _ _ _ _ (omega (arith, low)) c.fill_way.ensures.fills

pub fill_all-returns-then-count-eq1-clause-hashed :
    goal.fill_all-returns-then-count-eq1-clause-hashed
fill_all-returns-then-count-eq1-clause-hashed g t c =
    due_hashed c.args.store.now.nodes c.fill_way.new.store.nodes c.args.ids.now
    (λ j inner. omega (arith, c.requires.below j inner, c.requires.inside))
    c.fill_way.ensures.fills.todo
    (subst (AreHashed c.fill_way.new.store.nodes) c.due_of-count.ensures.due
    (one_hashed c.due_of-count.result.0 c.due_of-count.result.1 c.if-count-eq1.true
    c.fill_way.new.store.nodes c.fill_way.ensures.hashed))

pub fill_all-returns-then-count-eq1-clause-todo : goal.fill_all-returns-then-count-eq1-clause-todo
fill_all-returns-then-count-eq1-clause-todo g t c =
    omega (
      arith,
      c.fill_way.ensures.todo,
      one_sum c.args.store.now.nodes c.due_of-count.result.0 c.due_of-count.result.1
          c.if-count-eq1.true
          c.due_of-count.ensures.long,
      due_sum c.args.store.now.nodes c.args.ids.now _ c.due_of-count.ensures.due,
    )

pub fill_all-children-kids-requires-clause-inside :
    goal.fill_all-children-kids-requires-clause-inside
fill_all-children-kids-requires-clause-inside g t c =
    due_below c.args.store.now.nodes c.args.ids.now _ (length c.args.store.now.nodes)
    c.due_of-count.ensures.due
    (λ j inner. omega (arith, c.requires.below j inner, c.requires.inside))

pub fill_all-fill_all-requires : goal.fill_all-fill_all-requires
fill_all-fill_all-requires g t c κs within =
    let nodes = c.args.store.now.nodes in
    let n = c.due_of-count.result.1 in
    let found = take n c.due_of-count.result.0 in
    let long : length found ≡ n =
    omega (
      arith,
      length-take n c.due_of-count.result.0,
      c.due_of-count.ensures.long,
      c.due_of-count.ensures.few,
      c.requires.few,
    ) in
    let below : NodesAreBelow c.args.limit found =
    due_below nodes c.args.ids.now _ c.args.limit c.due_of-count.ensures.due c.requires.below in
    let inside : NodesAreBelow (length nodes) found =
    λ j inner. omega (arith, below j inner, c.requires.inside) in
    let pairs : AreDue nodes found =
    due_pass nodes c.args.ids.now found c.due_of-count.ensures.due in
    let parts : KidsParts nodes found c.children-kids.result n c.min-first.result c.args.limit =
    kids_parts g.H.PairHash.pair_of nodes found c.children-kids.result n c.min-first.result
    c.args.limit c.requires.arena inside below pairs long c.if-count-eq0.false
    (omega (arith, c.due_of-count.ensures.few, c.requires.few)) c.min-first.ensures
    c.children-kids.ensures in (
      omega (arith, c.decreases, parts.some),
      (
        within,
        (
          c.requires.arena,
          (omega (arith, c.requires.inside), (parts.first_below, parts.first_few)),
        ),
      ),
    )

pub fill_all-fill_all-requires-2 : goal.fill_all-fill_all-requires-2
fill_all-fill_all-requires-2 g t c κs within =
    let nodes = c.args.store.now.nodes in
    let n = c.due_of-count.result.1 in
    let found = take n c.due_of-count.result.0 in
    let long : length found ≡ n =
    omega (
      arith,
      length-take n c.due_of-count.result.0,
      c.due_of-count.ensures.long,
      c.due_of-count.ensures.few,
      c.requires.few,
    ) in
    let below : NodesAreBelow c.args.limit found =
    due_below nodes c.args.ids.now _ c.args.limit c.due_of-count.ensures.due c.requires.below in
    let inside : NodesAreBelow (length nodes) found =
    λ j inner. omega (arith, below j inner, c.requires.inside) in
    let pairs : AreDue nodes found =
    due_pass nodes c.args.ids.now found c.due_of-count.ensures.due in
    let parts : KidsParts nodes found c.children-kids.result n c.min-first.result c.args.limit =
    kids_parts g.H.PairHash.pair_of nodes found c.children-kids.result n c.min-first.result
    c.args.limit c.requires.arena inside below pairs long c.if-count-eq0.false
    (omega (arith, c.due_of-count.ensures.few, c.requires.few)) c.min-first.ensures
    c.children-kids.ensures in (
      omega (arith, c.decreases, parts.some),
      (
        within,
        (
          c.fill_all.ensures.arena,
          (
            omega (arith, c.requires.inside, c.fill_all.ensures.fills.count),
            (parts.rest_below, parts.rest_few),
          ),
        ),
      ),
    )

pub fill_all-fill_level-requires-clause-below : goal.fill_all-fill_level-requires-clause-below
fill_all-fill_level-requires-clause-below g t c =
    due_below c.args.store.now.nodes c.args.ids.now _ c.args.limit c.due_of-count.ensures.due
    c.requires.below

pub fill_all-fill_level-requires-clause-ready : goal.fill_all-fill_level-requires-clause-ready
fill_all-fill_level-requires-clause-ready g t c =
    let nodes = c.args.store.now.nodes in
    let n = c.due_of-count.result.1 in
    let found = take n c.due_of-count.result.0 in
    let long : length found ≡ n =
    omega (
      arith,
      length-take n c.due_of-count.result.0,
      c.due_of-count.ensures.long,
      c.due_of-count.ensures.few,
      c.requires.few,
    ) in
    let below : NodesAreBelow c.args.limit found =
    due_below nodes c.args.ids.now _ c.args.limit c.due_of-count.ensures.due c.requires.below in
    let inside : NodesAreBelow (length nodes) found =
    λ j inner. omega (arith, below j inner, c.requires.inside) in
    let pairs : AreDue nodes found =
    due_pass nodes c.args.ids.now found c.due_of-count.ensures.due in
    let parts : KidsParts nodes found c.children-kids.result n c.min-first.result c.args.limit =
    kids_parts g.H.PairHash.pair_of nodes found c.children-kids.result n c.min-first.result
    c.args.limit c.requires.arena inside below pairs long c.if-count-eq0.false
    (omega (arith, c.due_of-count.ensures.few, c.requires.few)) c.min-first.ensures
    c.children-kids.ensures in
    let first : AreHashed c.fill_all-2.new.store.nodes (take c.min-first.result (kids nodes found))
    =
    subst (AreHashed c.fill_all-2.new.store.nodes) parts.first_is (λ j inner. omega (
      arith,
      c.fill_all.ensures.hashed j inner,
      c.fill_all-2.ensures.fills.todo
          (id_at (take c.min-first.result c.children-kids.result) j).0,
    )) in
    let rest : AreHashed c.fill_all-2.new.store.nodes (drop c.min-first.result (kids nodes found)) =
    subst (AreHashed c.fill_all-2.new.store.nodes) parts.rest_is c.fill_all-2.ensures.hashed in
    let hashed : AreHashed c.fill_all-2.new.store.nodes (kids nodes found) =
    hashed_join c.fill_all-2.new.store.nodes (kids nodes found) c.min-first.result parts.cut first
    rest in
    let fills : FillsUpTo c.args.limit nodes c.fill_all-2.new.store.nodes =
    fills_then (c.args.limit - 1) (c.args.limit - 1) c.args.limit nodes c.fill_all.new.store.nodes
    c.fill_all-2.new.store.nodes (omega arith) (omega arith) c.fill_all.ensures.fills
    c.fill_all-2.ensures.fills in
    ready_later g.H.PairHash.pair_of nodes found c.requires.arena inside pairs c.args.limit
    c.fill_all-2.new.store.nodes fills hashed

pub fill_all-returns-clause-fills : goal.fill_all-returns-clause-fills
fill_all-returns-clause-fills g t c =
    fills_then (c.args.limit - 1) c.args.limit c.args.limit c.args.store.now.nodes
    c.fill_all.new.store.nodes _
    (omega arith) (omega arith) c.fill_all.ensures.fills
    (fills_then (c.args.limit - 1) c.args.limit c.args.limit c.fill_all.new.store.nodes
    c.fill_all-2.new.store.nodes _ (omega arith) (omega arith) c.fill_all-2.ensures.fills
    c.fill_level.ensures.fills)

pub fill_all-returns-clause-hashed : goal.fill_all-returns-clause-hashed
fill_all-returns-clause-hashed g t c =
    due_hashed c.args.store.now.nodes _ c.args.ids.now
    (λ j inner. omega (arith, c.requires.below j inner, c.requires.inside))
    (λ j. omega (
      arith,
      c.fill_all.ensures.fills.todo j,
      c.fill_all-2.ensures.fills.todo j,
      c.fill_level.ensures.fills.todo j,
    ))
    (subst (AreHashed c.fill_level.new.store.nodes) c.due_of-count.ensures.due
    c.fill_level.ensures.hashed)

pub fill_all-returns-clause-todo : goal.fill_all-returns-clause-todo
fill_all-returns-clause-todo g t c =
    let nodes = c.args.store.now.nodes in
    let n = c.due_of-count.result.1 in
    let found = take n c.due_of-count.result.0 in
    let long : length found ≡ n =
    omega (
      arith,
      length-take n c.due_of-count.result.0,
      c.due_of-count.ensures.long,
      c.due_of-count.ensures.few,
      c.requires.few,
    ) in
    let below : NodesAreBelow c.args.limit found =
    due_below nodes c.args.ids.now _ c.args.limit c.due_of-count.ensures.due c.requires.below in
    let inside : NodesAreBelow (length nodes) found =
    λ j inner. omega (arith, below j inner, c.requires.inside) in
    let pairs : AreDue nodes found =
    due_pass nodes c.args.ids.now found c.due_of-count.ensures.due in
    let parts : KidsParts nodes found c.children-kids.result n c.min-first.result c.args.limit =
    kids_parts g.H.PairHash.pair_of nodes found c.children-kids.result n c.min-first.result
    c.args.limit c.requires.arena inside below pairs long c.if-count-eq0.false
    (omega (arith, c.due_of-count.ensures.few, c.requires.few)) c.min-first.ensures
    c.children-kids.ensures in
    let both : todo_all nodes (take c.min-first.result (kids nodes found))
    + todo_all nodes (drop c.min-first.result (kids nodes found))
    ≡ todo_all nodes (kids nodes found) =
    sum_by-take-drop (λ (id : NodeId). due nodes id.0) (kids nodes found) c.min-first.result in
    omega (
      arith,
      both,
      c.fill_all.ensures.todo,
      c.fill_all-2.ensures.todo,
      c.fill_level.ensures.todo,
      ap (todo_all nodes) parts.first_is,
      ap (todo_all nodes) parts.rest_is,
      sum_less nodes c.fill_all.new.store.nodes
          (take (2 * n - c.min-first.result) (drop c.min-first.result c.children-kids.result))
          c.fill_all.ensures.fills.todo,
      kids_sum g.H.PairHash.pair_of nodes found c.requires.arena inside pairs,
      due_sum nodes c.args.ids.now found c.due_of-count.ensures.due,
    )
