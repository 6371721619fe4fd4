use Rattle.std.proofs.Common.{◌≡◌, ◌≤◌, ◌^◌, ◌*◌, ◌%◌, replicate, arith, sym, subst}
use Rattle.std.proofs.Math.Nat.{pow-le-pow_right}
use Rattle.std.proofs.lemmas.List.{get_or-replicate}
use Rattle.ssz_arena.specs.Content.{IsNodeOf}
use Rattle.ssz_nodes.specs.Ahead.{AheadHolds}
use Rattle.ssz_nodes.proofs.Taking.{Holds-whole}
use Rattle.ssz_nodes.proofs.places.Places.new.Goals as goal

pub returns-clause-nodes : goal.returns-clause-nodes
returns-clause-nodes c = λ arena inside. (
  λ k d below. subst (IsNodeOf arena) (sym (get_or-replicate 128 k c.args.top.node d below)) inside,
  λ k d below. subst (IsNodeOf arena) (sym (get_or-replicate 64 k c.args.top.node d below)) inside,
)

pub returns-clause-holds : goal.returns-clause-holds
returns-clause-holds c = λ arena trees few is.
    let shallow : c.args.top.depth ≤ 63 = omega (arith, c.requires) in
    let small : 2 ^ c.args.top.depth ≤ 2 ^ 63 = pow-le-pow_right (omega arith) shallow in
    let same : 2 ^ c.args.top.depth ≡ 1 * 2 ^ c.args.top.depth % 2 ^ 64 = omega arith in
    subst (λ n. AheadHolds arena trees (record {
      row = replicate 128 c.args.top.node;
      from = 0;
      to = 0;
      left = n;
      nodes = replicate 64 c.args.top.node;
    })) same
    (Holds-whole arena trees c.args.top.node c.args.top.depth (replicate 128 c.args.top.node)
    c.requires few is)
