use Rattle.std.proofs.Common.{◌≡◌, ◌-◌, ◌^◌, ◌≤◌, subst, arith}
use Rattle.std.proofs.Math.Nat.{pow-le-pow_right}
use Rattle.ssz_making.specs.Parts.{whole_of}
use Rattle.ssz_tree.specs.Added.{AddsNodes, IsPartNode}
use Rattle.ssz_tree.proofs.Adding.{Adds-none, Adds-pair, Adds-within, one_more}
use Rattle.ssz_tree.proofs.Blocks.{IsPart-left}
use Rattle.ssz_tree.proofs.builder.beside_zeros.Goals as goal

pub loop-level-init : goal.loop-level-init
loop-level-init g c = record {
  inside = c.requires.node;
  adds = Adds-within 0 0 _ _ _ _ (Adds-none c.args.arena.now) (omega arith) (omega arith);
  part = λ parts some few is. is;
}

pub pair-node-requires-clause-room : goal.pair-node-requires-clause-room
pair-node-requires-clause-room g c = omega (
  arith,
  c.requires.room,
  c.loop-level.invariant.adds.spare,
  c.loop-level.auto.level,
  c.loop-level-test.true,
)

pub loop-level-preserved : goal.loop-level-preserved
loop-level-preserved g c =
    let e = c.pair-node.ensures in
    let z = c.zero-right.ensures in
    record {
      inside = e.node;
      adds = one_more _ _ _ _ _ c.loop-level.auto.level c.loop-level.invariant.adds
          (Adds-pair c.loop-level.arena _ e.keeps e.same e.unhashed e.count e.spare);
      part = λ parts some few is.
          let up : 2 ^ c.args.from ≤ 2 ^ c.loop-level.level =
          pow-le-pow_right (omega arith) c.loop-level.auto.level in
          IsPart-left c.loop-level.arena _ c.loop-level.level parts c.loop-level.node
          c.zero-right.result _ some (omega (arith, few, up))
          (c.loop-level.invariant.part parts some few is) z.node z.tree z.todo
          (record { node = e.node; tree = e.tree; todo = e.todo });
    }

pub returns-clause-part : goal.returns-clause-part
returns-clause-part g c = λ parts some few is.
    let last : c.loop-level.level ≡ c.args.to = omega (arith, c.requires.up) in
    subst (λ k. IsPartNode c.loop-level.arena (whole_of k parts) c.loop-level.node) last
    (c.loop-level.invariant.part parts some few is)

pub returns-clause-adds : goal.returns-clause-adds
returns-clause-adds g c =
    let last : c.loop-level.level ≡ c.args.to = omega (arith, c.requires.up) in
    subst (λ k. AddsNodes (k - c.args.from) (k - c.args.from) c.args.arena.now c.loop-level.arena)
    last c.loop-level.invariant.adds
