use Rattle.std.proofs.Common.{◌≡◌, ℕ, List, take, drop, suc, length, sym, ap, ◌∙◌, subst, arith}
use Rattle.std.proofs.Math.Seq.{take-length}
use Rattle.std.proofs.lemmas.Bool.{false≢true}
use Rattle.ssz_gindex.specs.Walk.{WalksHelpers}
use Rattle.ssz_gindex.specs.Faults.{AreHelpers}
use Rattle.ssz_gindex.proofs.Prefixes.{nodes-from, take-next, ends-all}
use Rattle.ssz_gindex.proofs.helpers.are_helpers.Goals as goal

pub returns-then-not-branch : goal.returns-then-not-branch
returns-then-not-branch c =
    let whole = nodes-from c.args.nodes.now c.loop-node.node-index c.node-item.result
    c.loop-node-test.true c.node-item.is in (
      λ same. absurd (false≢true same),
      λ are. absurd (c.in_ok-next_is.ensures.other c.if-not-branch.true c.args.indices.now
          (take c.loop-node.node-index c.args.nodes.now)
          c.loop-node.invariant (drop (suc c.loop-node.node-index) c.args.nodes.now)
          (subst (λ (nodes : List ℕ). AreHelpers c.args.indices.now nodes) whole are)),
    )

pub loop-node-preserved : goal.loop-node-preserved
loop-node-preserved c =
    subst (λ (nodes : List ℕ). WalksHelpers c.args.indices.now c.next_is.new.walk.indices.items
    c.next_is.new.walk.parents.items nodes)
    (sym (take-next c.args.nodes.now c.loop-node.node-index c.node-item.result
    c.loop-node-test.true c.node-item.is))
    (c.in_ok-next_is.ensures.same c.if-not-branch.false c.args.indices.now
    (take c.loop-node.node-index c.args.nodes.now) c.loop-node.invariant)

pub returns : goal.returns
returns c =
    let all : c.loop-node.node-index ≡ length c.args.nodes.now =
    omega (arith, c.loop-node-test.false, c.loop-node.auto.node-index-end) in
    let whole = ap (λ n. take n c.args.nodes.now) all ∙ take-length c.args.nodes.now in
    ends-all c.args.indices.now c.args.nodes.now c.loop-node.walk.indices.items
    c.loop-node.walk.parents.items c.is_at_root.result
    (subst (λ (nodes : List ℕ). WalksHelpers c.args.indices.now c.loop-node.walk.indices.items
    c.loop-node.walk.parents.items nodes) whole c.loop-node.invariant) c.is_at_root.ensures
