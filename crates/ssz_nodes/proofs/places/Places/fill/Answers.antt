use Rattle.std.proofs.Common.{ℕ, ◌≡◌, ◌≤◌, ◌<◌, ◌^◌, ◌*◌, ◌%◌, ◌-◌, List, length, suc, refl, sym, ap, ◌∙◌, subst, arith, slice_set, get_or-set_same}
use Rattle.std.proofs.Math.Nat.{pow-le-pow_right}
use Rattle.std.specs.Int.{trailing_zeros, w64}
use Rattle.ssz_arena.specs.declared.node.NodeId.{NodeId}
use Rattle.ssz_arena.specs.Content.{row_node, tree_of}
use Rattle.ssz_nodes.specs.Ahead.{Ahead, AheadAreNodes, AheadHolds, Stand}
use Rattle.ssz_nodes.proofs.Ending.{Ends, ends, ends_within, at_least}
use Rattle.ssz_nodes.proofs.Taking.{Opened, Opening, Opening-start, Opening-more, Holds-filled}
use Rattle.ssz_nodes.proofs.places.Places.fill.Goals as goal

-- the number of places of a row, which is shifted
places_of : (low level : ℕ) → low ≤ level → level ≤ 63 → 1 * 2 ^ low % 2 ^ 64 ≡ 2 ^ low
places_of low level within shallow =
    let small : low ≤ 63 = omega arith in
    let few : 2 ^ low ≤ 2 ^ 63 = pow-le-pow_right (omega arith) small in
    omega arith

-- what is left ends with the zeros of the lowest subtree
ends_there : (ahead now : Ahead) → ahead ≡ now → 0 < now.left → ahead.left ≤ 2 ^ 63
    → Ends ahead.left (trailing_zeros w64 ahead.left)
ends_there ahead now same some few =
    ends ahead.left (subst (λ (a : Ahead). 0 < a.left) (sym same) some) few

pub loop-below-init : goal.loop-below-init
loop-below-init g c =
    let is = ends_there _ _ c.self.view_is c.requires.some c.self.invariant.0 in
    let all = subst (AheadAreNodes c.args.arena.now) (sym c.self.view_is) c.requires.nodes in (
      omega (arith, c.min-low.ensures),
      refl,
      refl,
      refl,
      Opening-start c.args.arena.now c.self.inside.left (trailing_zeros w64 c.self.inside.left)
          _ c.self.inside.nodes is c.self.invariant.0 c.self.invariant.1 all.1 refl,
    )

pub loop-below-preserved : goal.loop-below-preserved
loop-below-preserved g c =
    let is = ends_there _ _ c.self.view_is c.requires.some c.self.invariant.0 in
    let now : c.loop-below.below ≡ suc (c.loop-below.below - 1) =
    omega (arith, c.loop-below-test.true) in (
      omega (arith, c.loop-below-test.true),
      c.loop-below.invariant.1,
      c.loop-below.invariant.2,
      c.loop-below.invariant.3,
      Opening-more c.args.arena.now c.loop-below.self-inside.left
          (trailing_zeros w64 c.self.inside.left) (c.loop-below.below - 1) c.loop-below.node
          c.halves.result.0 c.halves.result.1 c.self.inside.nodes c.loop-below.self-inside.nodes
          (omega (arith, c.loop-below.auto.below, c.loop-below-test.true))
          (ends_within _ _ c.self.invariant.0 is)
          (subst (λ n. Opening c.args.arena.now c.loop-below.self-inside.left
          (trailing_zeros w64 c.self.inside.left) n c.loop-below.node c.self.inside.nodes
          c.loop-below.self-inside.nodes) now c.loop-below.invariant.4)
          c.halves.ensures.left c.halves.ensures.right c.halves.ensures.left_tree
          c.halves.ensures.right_tree,
    )

pub overflow_sub-self : goal.overflow_sub-self
overflow_sub-self g c =
    let is = ends_there _ _ c.self.view_is c.requires.some c.self.invariant.0 in
    let within : c.min-low.result ≤ trailing_zeros w64 c.self.inside.left =
    omega (arith, c.min-low.ensures) in
    omega (
      arith,
      places_of c.min-low.result _ within (ends_within _ _ c.self.invariant.0 is),
      at_least _ _ is c.min-low.result within,
      c.loop-below.invariant.1,
    )

pub returns-clause-holds : goal.returns-clause-holds
returns-clause-holds g c = λ trees held.
    let is = ends_there _ _ c.self.view_is c.requires.some c.self.invariant.0 in
    let within : c.min-low.result ≤ trailing_zeros w64 c.self.inside.left =
    omega (arith, c.min-low.ensures) in
    let row = places_of c.min-low.result _ within (ends_within _ _ c.self.invariant.0 is) in
    let here : c.loop-below.below ≡ c.min-low.result =
    omega (arith, c.loop-below.invariant.0, c.loop-below-test.false) in
    let first : row_node (slice_set c.loop-below.self-inside.row 0 c.loop-below.node) 0
    ≡ c.loop-below.node = get_or-set_same c.loop-below.self-inside.row 0 c.loop-below.node
    (record { 0 = 0 }) (omega (
      arith,
      c.self.invariant.2,
      ap (λ (ns : List NodeId). length ns) c.loop-below.invariant.2,
    )) in
    let left : c.loop-below.self-inside.left ≡ c.self.inside.left = c.loop-below.invariant.1 in
    subst (λ n. AheadHolds c.args.arena.now trees (record {
      row = c.spread.new.row;
      from = 0;
      to = n;
      left = c.loop-below.self-inside.left - n;
      nodes = c.loop-below.self-inside.nodes;
    })) (sym row)
    (subst (λ n. AheadHolds c.args.arena.now trees (record {
      row = c.spread.new.row;
      from = 0;
      to = 2 ^ c.min-low.result;
      left = n - 2 ^ c.min-low.result;
      nodes = c.loop-below.self-inside.nodes;
    })) (sym left)
    (Holds-filled c.args.arena.now trees c.self.inside.left
    (trailing_zeros w64 c.self.inside.left) c.min-low.result c.self.inside.from c.self.inside.to
    c.loop-below.node c.self.inside.nodes c.loop-below.self-inside.nodes c.self.inside.row
    c.spread.new.row is within
    (subst (λ (a : Ahead). a.from ≡ a.to) (sym c.self.view_is) c.requires.taken)
    (λ ts stand. subst (λ n. Opened c.args.arena.now ts (trailing_zeros w64 c.self.inside.left) n
    c.loop-below.node c.self.inside.nodes c.loop-below.self-inside.nodes) here
    (c.loop-below.invariant.4.each ts
    (subst (λ n. Stand c.args.arena.now ts n c.self.inside.nodes) (sym left) stand)))
    (λ ts whole i below. c.spread.ensures.places ts
    (ap (tree_of c.args.arena.now) first ∙ whole) i below)
    (subst (AheadHolds c.args.arena.now trees) (sym c.self.view_is) held)))
