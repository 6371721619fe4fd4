use Rattle.std.proofs.Common.{◌≡◌, ℕ, ◌+◌, ◌*◌, ◌≤◌, ◌^◌, ap, ◌∙◌, arith}
use Rattle.std.proofs.Math.Nat.{pow-le-pow_right}
use Rattle.ssz_arena.specs.Content.{row_node, tree_of}
use Rattle.ssz_nodes.proofs.rows.spread.Goals as goal

pub spread_each-requires-clause-few : goal.spread_each-requires-clause-few
spread_each-requires-clause-few g c =
    let within : c.args.depth ≤ 63 = omega (arith, c.requires.depth) in
    let few : 2 ^ c.args.depth ≤ 2 ^ 63 = pow-le-pow_right (omega arith) within in
    omega (arith, few)

pub returns-clause-places : goal.returns-clause-places
returns-clause-places g c = λ trees is i within.
    ap (λ j. tree_of c.args.arena.now (row_node c.spread_each.new.row j)) (first _ i)
    ∙ c.spread_each.ensures.places 0 trees (omega arith) is i within
  where
    first : (n i : ℕ) → i ≡ 0 * n + i
    first n i = omega arith
