use Rattle.std.proofs.Common.{◌≡◌, ◌+◌, ◌/◌, ◌<◌, ◌≤◌, ◌^◌, ℕ, suc, refl, sym, ap, ◌∙◌, arith}
use Rattle.ssz_merkle.proofs.Binary.{shr-suc}
use Rattle.ssz_tree.proofs.Adding.{makes_pair}
use Rattle.ssz_tree.proofs.Carrying.{digit-within}
use Rattle.ssz_tree.proofs.Copies.{HasCopies-start, HasCopies-more, HasCopies-adds, HasCopies-holds, level-within}
use Rattle.ssz_tree.proofs.builder.Builder.of_copies.Goals as goal

pub levels-init : goal.levels-init
levels-init g c = record {
  within = omega arith;
  rest = omega arith;
  copied = HasCopies-start c.args.arena.now c.args.count c.args.node c.requires.node;
}

-- there is a whole subtree on the next level
another : (count left level : ℕ) → left ≡ count / 2 ^ (level + 1) → 0 < left
    → 0 < count / 2 ^ (level + 1)
another count left level is some = omega (arith, is, some)

pub bounds-nodes-level : goal.bounds-nodes-level
bounds-nodes-level g c =
    let some = another c.args.count _ _ c.levels.invariant.rest c.levels-test.true in
    let here : c.levels.level + 1 < 64 =
    digit-within c.args.count (c.levels.level + 1) 64 (omega arith) some in
    omega (arith, here, c.levels.invariant.copied.length_is)

pub levels-preserved : goal.levels-preserved
levels-preserved g c =
    let some = another c.args.count _ _ c.levels.invariant.rest c.levels-test.true in
    let below : c.levels.level + 1 ≤ c.args.depth =
    level-within c.args.count c.levels.level c.args.depth some c.requires.few in
    let here : c.levels.level + 1 < 64 =
    digit-within c.args.count (c.levels.level + 1) 64 (omega arith) some in
    let next : suc (c.levels.level + 1) ≡ c.levels.level + 1 + 1 = omega arith in
    let p = c.pair-copies.ensures in
    record {
      within = below;
      rest = ap (λ n. n / 2) c.levels.invariant.rest
          ∙ sym (shr-suc c.args.count (c.levels.level + 1))
          ∙ ap (λ k. c.args.count / 2 ^ k) next;
      copied = HasCopies-more c.args.arena.now c.levels.arena c.pair-copies.new.self
          c.args.count c.levels.level c.args.node c.levels.copies c.pair-copies.result
          c.levels.nodes c.levels.invariant.copied some here
          (makes_pair _ _ _ _ _ p.node p.tree p.todo p.keeps p.same p.unhashed p.count p.spare);
    }

pub returns-clause-holds : goal.returns-clause-holds
returns-clause-holds g c = λ part is.
    HasCopies-holds c.args.arena.now c.levels.arena c.args.count c.levels.level
    c.args.node c.levels.copies c.levels.nodes _ part c.levels.invariant.copied
    (omega (arith, c.levels.invariant.rest, c.levels-test.false)) refl refl is

pub returns-clause-adds : goal.returns-clause-adds
returns-clause-adds g c = HasCopies-adds c.args.arena.now c.levels.arena c.args.count
    c.levels.level c.args.depth c.args.node c.levels.copies c.levels.nodes
    c.levels.invariant.copied c.levels.invariant.within
