use Rattle.std.proofs.Common.{◌≡◌, ◌-◌, suc, subst, arith}
use Rattle.ssz_nodes.proofs.Placed.{Nearer, Nearer-start, Nearer-more, Nearer-end}
use Rattle.ssz_nodes.proofs.places.node_of_place.Goals as goal

pub loop-level-init : goal.loop-level-init
loop-level-init g c = (
  c.requires.node,
  λ trees inside is. Nearer-start c.args.arena.now trees c.args.i c.args.top.depth c.args.top.node
      inside
      is,
)

pub loop-level-preserved : goal.loop-level-preserved
loop-level-preserved g c =
    let now : c.loop-level.level ≡ suc (c.loop-level.level - 1) =
    omega (arith, c.loop-level-test.true) in (
      c.half_of-here.ensures.node,
      λ trees inside is. Nearer-more c.args.arena.now trees c.args.i (c.loop-level.level - 1)
          c.loop-level.here c.half_of-here.result
          (subst (λ n. Nearer c.args.arena.now trees c.args.i n c.loop-level.here) now
          (c.loop-level.invariant.1 trees inside is))
          (record { first = c.half_of-here.ensures.left; second = c.half_of-here.ensures.right }),
    )

pub returns-clause-tree : goal.returns-clause-tree
returns-clause-tree g c = λ trees inside is.
    Nearer-end c.args.arena.now trees c.args.i c.loop-level.here
    (subst (λ n. Nearer c.args.arena.now trees c.args.i n c.loop-level.here)
    (omega (arith, c.loop-level-test.false)) (c.loop-level.invariant.1 trees inside is))
