use Rattle.std.proofs.Common.{◌≡◌, ℕ, suc, ◌*◌, ◌%◌, ◌<◌, ◌≤◌, ◌^◌, length, refl, sym, ap, ◌∙◌, arith, pow-suc, mul_assoc}
use Rattle.std.proofs.Math.Nat.{pow-le-pow_right, mul-le-mul_left}
use Rattle.ssz_nodes.proofs.Spreading.{Spread-start, Spread-more, Spread-end}
use Rattle.ssz_nodes.proofs.rows.spread_each.Goals as goal

-- twice the nodes of a level have room
room_for : (count level depth long : ℕ) → level < depth → count * 2 ^ depth ≤ long
    → 2 * (count * 2 ^ level) ≤ long
room_for count level depth long below room =
    let next : suc level ≤ depth = omega arith in
    let few : 2 ^ suc level ≤ 2 ^ depth = pow-le-pow_right (omega arith) next in
    let all : count * 2 ^ suc level ≤ count * 2 ^ depth = mul-le-mul_left count few in
    let twice : count * 2 ^ suc level ≡ count * 2 ^ level * 2 =
    ap (λ n. count * n) (pow-suc 2 level) ∙ sym (mul_assoc count (2 ^ level) 2) in
    omega arith

-- the number of nodes of a level, which is shifted
nodes_of : (count level depth : ℕ) → level < depth → count * 2 ^ depth ≤ 2 ^ 63
    → count * 2 ^ level % 2 ^ 64 ≡ count * 2 ^ level
nodes_of count level depth below few =
    let twice = room_for count level depth (2 ^ 63) below few in
    omega arith

pub loop-level-init : goal.loop-level-init
loop-level-init g c = (
  refl,
  c.requires.nodes,
  λ k trees below is. Spread-start c.args.arena.now trees c.args.depth k c.args.row.now is,
)

pub widen-requires-clause-room : goal.widen-requires-clause-room
widen-requires-clause-room g c =
    let long : c.args.count * 2 ^ c.args.depth ≤ length c.loop-level.row =
    omega (arith, c.requires.room, c.loop-level.invariant.0) in
    omega (
      arith,
      nodes_of c.args.count c.loop-level.level c.args.depth c.loop-level-test.true
          c.requires.few,
      room_for c.args.count c.loop-level.level c.args.depth _ c.loop-level-test.true long,
    )

pub loop-level-preserved : goal.loop-level-preserved
loop-level-preserved g c =
    let len = nodes_of c.args.count c.loop-level.level c.args.depth c.loop-level-test.true
    c.requires.few in
    let all : (i : ℕ) → i < c.args.count * 2 ^ c.loop-level.level
    → i < c.args.count * 2 ^ c.loop-level.level % 2 ^ 64 =
    λ i within. omega (arith, within, len) in (
      omega (arith, c.widen.ensures.long, c.loop-level.invariant.0),
      c.widen.ensures.nodes,
      λ k trees here is. Spread-more c.args.arena.now trees c.args.depth c.loop-level.level k
          c.args.count c.loop-level.row c.widen.new.row here c.loop-level-test.true
          (c.loop-level.invariant.2 k trees here is)
          (λ i left right within. c.widen.ensures.left i left right (all i within))
          (λ i left right within. c.widen.ensures.right i left right (all i within)),
    )

pub returns-clause-places : goal.returns-clause-places
returns-clause-places g c = λ k trees here is i within.
    Spread-end c.args.arena.now trees c.args.depth c.loop-level.level k i c.loop-level.row
    (c.loop-level.invariant.2 k trees here is) (omega (arith, c.loop-level-test.false)) within
