use Rattle.std.proofs.Common.{◌++◌, ◌∷◌, [], ap, ◌∙◌, length, refl, arith}
use Rattle.ssz_prove.specs.declared.finding.Spot.{Spot}
use Rattle.ssz_prove.proofs.Listed.{next_from, other_from}
use Rattle.ssz_prove.proofs.Rising.{rise_helpers, same_helpers}
use Rattle.ssz_prove.proofs.Walked.{inner_missing, inner_small, walks_end, walks_inner, walks_leaf, walks_node, walks_start}
use Rattle.ssz_prove.proofs.finding.walk.Goals as goal

pub places-init : goal.places-init
places-init g c =
    let first : Spot = record { index = c.root.result; node = c.args.top } in
    walks_start c.args.arena.now c.args.top c.args.asked.now c.args.beside.now first
    c.push.new.self.items c.args.found.now.leaves.items c.args.found.now.nodes.items
    c.requires.node c.requires.some c.requires.rise
    (rise_helpers c.args.asked.now c.args.beside.now c.requires.beside)
    (same_helpers c.args.asked.now c.args.beside.now c.requires.beside)
    (c.in_ok-push.ensures.items ∙ ap (λ xs. xs ++ first ∷ []) c.requires.spots)
    c.requires.leaves c.requires.nodes c.root.ensures refl

pub places-preserved-in-Continue-branch-2 : goal.places-preserved-in-Continue-branch-2
places-preserved-in-Continue-branch-2 g c =
    let arena = c.args.arena.now in
    let asked = c.args.asked.now in
    let beside = c.args.beside.now in
    let spots = c.places.found.spots.items in
    let leaves = c.places.found.leaves.items in
    let nodes = c.places.found.nodes.items in
    let spot = c.index-spot.result.now in
    walks_leaf arena c.args.top asked beside spots leaves nodes c.places.met c.places.invariant
    c.requires.flat spot (omega (arith, c.places-test.true, c.len.ensures)) c.index-spot.ensures
    c.push-then-is_next.new.self.items c.in_ok-push-2.ensures.items
    (next_from asked c.len-in-places.result (length leaves) spot.index c.is_next.result
    c.is_next.ensures (omega (arith, c.len-in-places.ensures)) c.if-is_next.true)

pub places-preserved-in-Continue-branch-3 : goal.places-preserved-in-Continue-branch-3
places-preserved-in-Continue-branch-3 g c =
    let arena = c.args.arena.now in
    let asked = c.args.asked.now in
    let beside = c.args.beside.now in
    let spots = c.places.found.spots.items in
    let leaves = c.places.found.leaves.items in
    let nodes = c.places.found.nodes.items in
    let spot = c.index-spot.result.now in
    walks_node arena c.args.top asked beside spots leaves nodes c.places.met c.places.invariant
    c.requires.flat spot (omega (arith, c.places-test.true, c.len.ensures)) c.index-spot.ensures
    c.push-then-is_next-2.new.self.items c.in_ok-push-3.ensures.items
    (next_from beside c.len-else-is_next.result (length nodes) spot.index
    c.is_next-else-is_next.result c.is_next-else-is_next.ensures
    (omega (arith, c.len-else-is_next.ensures)) c.if-is_next-2.true)

pub places-preserved : goal.places-preserved
places-preserved g c =
    let arena = c.args.arena.now in
    let asked = c.args.asked.now in
    let beside = c.args.beside.now in
    let spots = c.places.found.spots.items in
    let leaves = c.places.found.leaves.items in
    let nodes = c.places.found.nodes.items in
    let spot = c.index-spot.result.now in
    walks_inner arena c.args.top asked beside spots leaves nodes c.places.met c.places.invariant
    c.requires.flat spot (omega (arith, c.places-test.true, c.len.ensures)) c.index-spot.ensures
    (other_from asked c.len-in-places.result (length leaves) spot.index c.is_next.result
    c.is_next.ensures (omega (arith, c.len-in-places.ensures)) c.if-is_next.false)
    (other_from beside c.len-else-is_next.result (length nodes) spot.index
    c.is_next-else-is_next.result c.is_next-else-is_next.ensures
    (omega (arith, c.len-else-is_next.ensures)) c.if-is_next-2.false)
    c.in-Pair.left c.in-Pair.right c.in-Pair.ensures c.push_children.new.spots.items
    c.in_ok-push_children.ensures

pub push_children-requires-clause-small : goal.push_children-requires-clause-small
push_children-requires-clause-small g c =
    let arena = c.args.arena.now in
    let asked = c.args.asked.now in
    let beside = c.args.beside.now in
    let spots = c.places.found.spots.items in
    let leaves = c.places.found.leaves.items in
    let nodes = c.places.found.nodes.items in
    let spot = c.index-spot.result.now in
    inner_small arena c.args.top asked beside spots leaves nodes c.places.met c.places.invariant
    c.requires.flat spot (omega (arith, c.places-test.true, c.len.ensures)) c.index-spot.ensures
    (other_from asked c.len-in-places.result (length leaves) spot.index c.is_next.result
    c.is_next.ensures (omega (arith, c.len-in-places.ensures)) c.if-is_next.false)
    (other_from beside c.len-else-is_next.result (length nodes) spot.index
    c.is_next-else-is_next.result c.is_next-else-is_next.ensures
    (omega (arith, c.len-else-is_next.ensures)) c.if-is_next-2.false)
    c.requires.all

pub returns-in_default-clause-none : goal.returns-in_default-clause-none
returns-in_default-clause-none g c =
    let arena = c.args.arena.now in
    let asked = c.args.asked.now in
    let beside = c.args.beside.now in
    let spots = c.places.found.spots.items in
    let leaves = c.places.found.leaves.items in
    let nodes = c.places.found.nodes.items in
    let spot = c.index-spot.result.now in
    λ same inside.
    inner_missing arena c.args.top asked beside spots leaves nodes c.places.met c.places.invariant
    c.requires.flat spot (omega (arith, c.places-test.true, c.len.ensures)) c.index-spot.ensures
    (other_from asked c.len-in-places.result (length leaves) spot.index c.is_next.result
    c.is_next.ensures (omega (arith, c.len-in-places.ensures)) c.if-is_next.false)
    (other_from beside c.len-else-is_next.result (length nodes) spot.index
    c.is_next-else-is_next.result c.is_next-else-is_next.ensures
    (omega (arith, c.len-else-is_next.ensures)) c.if-is_next-2.false)
    c.in_default.field-0.now.0 c.in_default.ensures inside

pub returns-clause-found : goal.returns-clause-found
returns-clause-found g c =
    λ all. walks_end c.args.arena.now c.args.top c.args.asked.now c.args.beside.now
    c.places.found.spots.items c.places.found.leaves.items c.places.found.nodes.items c.places.met
    c.places.invariant c.requires.flat _ refl refl
    (omega (arith, c.places-test.false, c.len.ensures))
