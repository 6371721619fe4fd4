use Rattle.std.proofs.Common.{◌≡◌, ◌+◌, ◌-◌, ◌<◌, ◌≤◌, ◌^◌, ℕ, [], ◌∷◌, ◌++◌, refl, sym, ap, subst, ◌∙◌, arith}
use Rattle.ssz_merkle.specs.Frontier.{whole_pairs}
use Rattle.ssz_merkle.proofs.Carrying.{Carries}
use Rattle.ssz_tree.specs.Added.{AddsNodes}
use Rattle.ssz_tree.specs.Stack.{Stack, StackHolds}
use Rattle.ssz_tree.proofs.Adding.{Adds-none, Adds-then, Adds-pair}
use Rattle.ssz_tree.proofs.Blocks.{IsTop, IsTop-push}
use Rattle.ssz_tree.proofs.Carrying.{Carries-push, made_by_push}
use Rattle.ssz_tree.proofs.Holding.{IsTop-carry, Holds-push}
use Rattle.ssz_tree.proofs.builder.Builder.push.Goals as goal

-- as many pairs as the level that was come to, and no more than there is room for
room_for : (old : Stack) (depth pushed low spare : ℕ) (carries : Carries pushed low depth)
    → old.depth ≡ depth → old.pushed ≡ pushed → pushed < 2 ^ depth → depth ≤ 126
    → whole_pairs old.depth (old.pushed + 1) - whole_pairs old.depth old.pushed ≤ spare
    → low ≤ spare
room_for old depth pushed low spare carries deep count below shallow room =
    let made : low ≡ whole_pairs depth (pushed + 1) - whole_pairs depth pushed =
    made_by_push depth pushed low carries.before carries.is below
    (omega (arith, carries.within)) in
    let space : whole_pairs depth (pushed + 1) - whole_pairs depth pushed ≤ spare =
    subst (λ d. whole_pairs d (pushed + 1) - whole_pairs d pushed ≤ spare) deep
    (subst (λ n. whole_pairs old.depth (n + 1) - whole_pairs old.depth n ≤ spare) count room) in
    omega (arith, made, space)

pub loop-level-init : goal.loop-level-init
loop-level-init g c = record {
  inside = c.requires.node;
  adds = Adds-none c.args.arena.now;
  top = λ parts part held is. subst (λ n. IsTop c.args.arena.now n 0 (parts ++ part ∷ [])
      c.args.node) (sym held.number) (IsTop-push c.args.arena.now parts part c.args.node is);
}

pub bounds-self-inside-level : goal.bounds-self-inside-level
bounds-self-inside-level g c =
    let up : Carries c.self.inside.pushed c.trailing_ones-whole.result c.self.inside.depth
    × (c.trailing_ones-whole.result < 64) =
    Carries-push _ _ _ c.self.inside.nodes _ c.self.view_is c.requires.below c.requires.counted
    c.trailing_ones-whole.ensures in
    omega (arith, up.1, c.self.invariant.2)

pub pair-carry-requires-clause-room : goal.pair-carry-requires-clause-room
pair-carry-requires-clause-room g c =
    let up : Carries c.self.inside.pushed c.trailing_ones-whole.result c.self.inside.depth
    × (c.trailing_ones-whole.result < 64) =
    Carries-push _ _ _ c.self.inside.nodes _ c.self.view_is c.requires.below c.requires.counted
    c.trailing_ones-whole.ensures in
    let carries = up.0 in
    let low : c.trailing_ones-whole.result ≤ c.args.arena.now.spare =
    room_for c.args.self.now _ _ _ _ carries (sym (ap (λ (s : Stack). s.depth) c.self.view_is))
    (sym (ap (λ (s : Stack). s.pushed) c.self.view_is))
    (subst (λ (s : Stack). s.pushed < 2 ^ s.depth) (sym c.self.view_is) c.requires.below)
    c.self.invariant.0 c.requires.room in
    omega (arith, low, c.loop-level.invariant.adds.spare)

pub loop-level-preserved : goal.loop-level-preserved
loop-level-preserved g c =
    let up : Carries c.self.inside.pushed c.trailing_ones-whole.result c.self.inside.depth
    × (c.trailing_ones-whole.result < 64) =
    Carries-push _ _ _ c.self.inside.nodes _ c.self.view_is c.requires.below c.requires.counted
    c.trailing_ones-whole.ensures in
    let carries = up.0 in
    let e = c.pair-carry.ensures in
    record {
      inside = e.node;
      adds = Adds-then _ _ 1 1 _ c.loop-level.arena _ c.loop-level.invariant.adds
          (Adds-pair c.loop-level.arena _ e.keeps e.same e.unhashed e.count e.spare);
      top = λ parts part held is. IsTop-carry c.args.arena.now c.loop-level.arena _ parts _ part
          c.loop-level.carry c.pair-carry.result c.loop-level.level held
          c.loop-level.invariant.adds.keeps
          (carries.ones c.loop-level.level c.loop-level-test.true)
          (c.loop-level.invariant.top parts part held is)
          (record { node = e.node; tree = e.tree; todo = e.todo });
    }

pub bounds-self-inside-whole : goal.bounds-self-inside-whole
bounds-self-inside-whole g c =
    let up : Carries c.self.inside.pushed c.trailing_ones-whole.result c.self.inside.depth
    × (c.trailing_ones-whole.result < 64) =
    Carries-push _ _ _ c.self.inside.nodes _ c.self.view_is c.requires.below c.requires.counted
    c.trailing_ones-whole.ensures in
    omega (arith, up.1, c.self.invariant.2)

pub overflow_add-self : goal.overflow_add-self
overflow_add-self g c =
    let few : c.self.inside.pushed + 1 < 2 ^ 64 =
    subst (λ (s : Stack). s.pushed + 1 < 2 ^ 64) (sym c.self.view_is) c.requires.counted in
    omega (arith, few)

pub returns-clause-holds : goal.returns-clause-holds
returns-clause-holds g c = λ parts part held is.
    let known : StackHolds c.args.arena.now parts
    (record {
      depth = c.self.inside.depth;
      pushed = c.self.inside.pushed;
      nodes = c.self.inside.nodes;
    }) =
    subst (StackHolds c.args.arena.now parts) (sym c.self.view_is) held in
    let up : Carries c.self.inside.pushed c.trailing_ones-whole.result c.self.inside.depth
    × (c.trailing_ones-whole.result < 64) =
    Carries-push _ _ _ c.self.inside.nodes _ c.self.view_is c.requires.below c.requires.counted
    c.trailing_ones-whole.ensures in
    let carries = up.0 in
    let last : c.loop-level.level ≡ c.trailing_ones-whole.result = omega arith in
    Holds-push c.args.arena.now c.loop-level.arena parts _ _ part c.loop-level.carry
    c.trailing_ones-whole.result carries.before known c.loop-level.invariant.adds.keeps carries.is
    (omega (arith, up.1, c.self.invariant.2))
    (subst (λ k. IsTop c.loop-level.arena c.self.inside.pushed k (parts ++ part ∷ [])
    c.loop-level.carry) last (c.loop-level.invariant.top parts part known is))
    refl refl

pub returns-clause-adds : goal.returns-clause-adds
returns-clause-adds g c =
    let up : Carries c.self.inside.pushed c.trailing_ones-whole.result c.self.inside.depth
    × (c.trailing_ones-whole.result < 64) =
    Carries-push _ _ _ c.self.inside.nodes _ c.self.view_is c.requires.below c.requires.counted
    c.trailing_ones-whole.ensures in
    let carries = up.0 in
    let room : c.self.inside.pushed < 2 ^ c.self.inside.depth =
    subst (λ (s : Stack). s.pushed < 2 ^ s.depth) (sym c.self.view_is) c.requires.below in
    let last : c.loop-level.level ≡ c.trailing_ones-whole.result = omega arith in
    let made = made_by_push c.self.inside.depth c.self.inside.pushed c.trailing_ones-whole.result
    carries.before carries.is room (omega (arith, carries.within, c.self.invariant.0)) in
    subst (λ (s : Stack).
    AddsNodes (whole_pairs s.depth (s.pushed + 1) - whole_pairs s.depth s.pushed)
    (whole_pairs s.depth (s.pushed + 1) - whole_pairs s.depth s.pushed) c.args.arena.now
    c.loop-level.arena) c.self.view_is
    (subst (λ n. AddsNodes n n c.args.arena.now c.loop-level.arena) (last ∙ made)
    c.loop-level.invariant.adds)
