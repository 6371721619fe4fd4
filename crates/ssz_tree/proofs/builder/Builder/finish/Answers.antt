use Rattle.std.proofs.Common.{◌≡◌, ◌+◌, ◌-◌, ◌/◌, ◌%◌, ◌<◌, ◌≤◌, ◌^◌, ℕ, suc, refl, sym, ap, subst, ◌∙◌, arith}
use Rattle.std.specs.Int.{trailing_zeros, w64}
use Rattle.ssz_chunk.specs.Tree.{merkle_pairs}
use Rattle.ssz_arena.specs.Content.{IsNodeOf}
use Rattle.ssz_merkle.specs.Frontier.{whole_pairs}
use Rattle.ssz_merkle.proofs.Binary.{shr-suc}
use Rattle.ssz_merkle.proofs.Carrying.{Carries}
use Rattle.ssz_tree.specs.Added.{AddsNodes, IsPartNode}
use Rattle.ssz_making.specs.Parts.{whole_of}
use Rattle.ssz_tree.specs.Stack.{Stack, LevelsAreNodes, StackHolds, stack_node}
use Rattle.ssz_tree.proofs.Adding.{Adds-none, Adds-then, Adds-pair, Adds-within, one_more}
use Rattle.ssz_tree.proofs.Blocks.{IsTop, IsTop-left, IsTop-whole, Joins}
use Rattle.ssz_tree.proofs.Carrying.{Carries-last, below-level, digit-within, made_by_finish}
use Rattle.ssz_tree.proofs.Holding.{IsTop-first, IsTop-next}
use Rattle.ssz_tree.proofs.builder.Builder.finish.Goals as goal
use Rattle.ssz_tree.proofs.builder.Builder.finish.Goals.{then-left-eq1, else-left-eq1}

-- no more than there is room for
room_for : (now : Stack) (depth pushed low spare : ℕ) → Carries (pushed - 1) low depth
    → now.depth ≡ depth → now.pushed ≡ pushed → 0 < pushed → depth ≤ 126
    → merkle_pairs now.depth now.pushed - whole_pairs now.depth now.pushed ≤ spare
    → depth - low ≤ spare
room_for now depth pushed low spare carries deep count some shallow room =
    let next : pushed - 1 + 1 ≡ pushed = omega arith in
    let made : depth - low ≡ merkle_pairs depth pushed - whole_pairs depth pushed =
    subst (λ n. depth - low ≡ merkle_pairs depth n - whole_pairs depth n) next
    (made_by_finish depth (pushed - 1) low carries.before carries.is shallow) in
    let space : merkle_pairs depth pushed - whole_pairs depth pushed ≤ spare =
    subst (λ d. merkle_pairs d pushed - whole_pairs d pushed ≤ spare) deep
    (subst (λ n. merkle_pairs now.depth n - whole_pairs now.depth n ≤ spare) count room) in
    omega (arith, made, space)

pub bounds-self-inside-first : goal.bounds-self-inside-first
bounds-self-inside-first g c =
    let up : Carries (c.self.inside.pushed - 1) (trailing_zeros w64 c.self.inside.pushed)
    c.self.inside.depth × (trailing_zeros w64 c.self.inside.pushed < 64) =
    Carries-last c.self.inside.depth c.self.inside.pushed _ c.self.invariant.1 (omega arith)
    (omega (arith, c.if-self-eq0.false)) refl in
    omega (arith, up.1, c.self.invariant.2)

pub levels-init : goal.levels-init
levels-init g c =
    let up : Carries (c.self.inside.pushed - 1) (trailing_zeros w64 c.self.inside.pushed)
    c.self.inside.depth × (trailing_zeros w64 c.self.inside.pushed < 64) =
    Carries-last c.self.inside.depth c.self.inside.pushed _ c.self.invariant.1 (omega arith)
    (omega (arith, c.if-self-eq0.false)) refl in
    let next : c.self.inside.pushed ≡ c.self.inside.pushed - 1 + 1 =
    omega (arith, c.if-self-eq0.false) in
    let nodes : LevelsAreNodes c.args.arena.now c.self.inside.nodes =
    subst (λ (s : Stack). LevelsAreNodes c.args.arena.now s.nodes) (sym c.self.view_is)
    c.requires.nodes in
    record {
      inside = nodes.each (trailing_zeros w64 c.self.inside.pushed)
          (omega (arith, up.1, c.self.invariant.2));
      above = omega arith;
      within = up.0.within;
      rest = refl;
      adds = Adds-within 0 0 _ _ _ _ (Adds-none c.args.arena.now) (omega arith) (omega arith);
      top = λ parts held. IsTop-first c.args.arena.now parts _ (c.self.inside.pushed - 1)
          _ up.0.before held next up.0.is;
    }

pub bounds-self-inside-level : goal.bounds-self-inside-level
bounds-self-inside-level g c =
    let low : c.levels.level < 64 =
    digit-within (c.self.inside.pushed - 1) c.levels.level 64 (omega arith)
    (omega (arith, c.levels.invariant.rest, c.levels-test.true)) in
    omega (arith, low, c.self.invariant.2)

pub pair-node-requires-clause-room : goal.pair-node-requires-clause-room
pair-node-requires-clause-room g c =
    let up : Carries (c.self.inside.pushed - 1) (trailing_zeros w64 c.self.inside.pushed)
    c.self.inside.depth × (trailing_zeros w64 c.self.inside.pushed < 64) =
    Carries-last c.self.inside.depth c.self.inside.pushed _ c.self.invariant.1 (omega arith)
    (omega (arith, c.if-self-eq0.false)) refl in
    let levels : c.self.inside.depth - trailing_zeros w64 c.self.inside.pushed
    ≤ c.args.arena.now.spare =
    room_for c.args.self.now _ _ _ _ up.0 (sym (ap (λ (s : Stack). s.depth) c.self.view_is))
    (sym (ap (λ (s : Stack). s.pushed) c.self.view_is)) (omega (arith, c.if-self-eq0.false))
    c.self.invariant.0 c.requires.room in
    let deeper : c.levels.level < c.self.inside.depth =
    digit-within (c.self.inside.pushed - 1) c.levels.level c.self.inside.depth
    (omega (arith, c.self.invariant.1, c.if-self-eq0.false))
    (omega (arith, c.levels.invariant.rest, c.levels-test.true)) in
    omega (arith, levels, c.levels.invariant.adds.spare, c.levels.invariant.above, deeper)

pub pair-node-requires-else-left-eq1-clause-room : goal.pair-node-requires-else-left-eq1-clause-room
pair-node-requires-else-left-eq1-clause-room g c =
    let up : Carries (c.self.inside.pushed - 1) (trailing_zeros w64 c.self.inside.pushed)
    c.self.inside.depth × (trailing_zeros w64 c.self.inside.pushed < 64) =
    Carries-last c.self.inside.depth c.self.inside.pushed _ c.self.invariant.1 (omega arith)
    (omega (arith, c.if-self-eq0.false)) refl in
    let levels : c.self.inside.depth - trailing_zeros w64 c.self.inside.pushed
    ≤ c.args.arena.now.spare =
    room_for c.args.self.now _ _ _ _ up.0 (sym (ap (λ (s : Stack). s.depth) c.self.view_is))
    (sym (ap (λ (s : Stack). s.pushed) c.self.view_is)) (omega (arith, c.if-self-eq0.false))
    c.self.invariant.0 c.requires.room in
    let deeper : c.levels.level < c.self.inside.depth =
    digit-within (c.self.inside.pushed - 1) c.levels.level c.self.inside.depth
    (omega (arith, c.self.invariant.1, c.if-self-eq0.false))
    (omega (arith, c.levels.invariant.rest, c.levels-test.true)) in
    omega (arith, levels, c.levels.invariant.adds.spare, c.levels.invariant.above, deeper)

pub beside_zeros-requires-clause-room : goal.beside_zeros-requires-clause-room
beside_zeros-requires-clause-room g c =
    let up : Carries (c.self.inside.pushed - 1) (trailing_zeros w64 c.self.inside.pushed)
    c.self.inside.depth × (trailing_zeros w64 c.self.inside.pushed < 64) =
    Carries-last c.self.inside.depth c.self.inside.pushed _ c.self.invariant.1 (omega arith)
    (omega (arith, c.if-self-eq0.false)) refl in
    let levels : c.self.inside.depth - trailing_zeros w64 c.self.inside.pushed
    ≤ c.args.arena.now.spare =
    room_for c.args.self.now _ _ _ _ up.0 (sym (ap (λ (s : Stack). s.depth) c.self.view_is))
    (sym (ap (λ (s : Stack). s.pushed) c.self.view_is)) (omega (arith, c.if-self-eq0.false))
    c.self.invariant.0 c.requires.room in
    omega (
      arith,
      levels,
      c.levels.invariant.adds.spare,
      c.levels.invariant.above,
      c.levels.invariant.within,
    )

pub levels-preserved : goal.levels-preserved
levels-preserved g c =
    let up : Carries (c.self.inside.pushed - 1) (trailing_zeros w64 c.self.inside.pushed)
    c.self.inside.depth × (trailing_zeros w64 c.self.inside.pushed < 64) =
    Carries-last c.self.inside.depth c.self.inside.pushed _ c.self.invariant.1 (omega arith)
    (omega (arith, c.if-self-eq0.false)) refl in
    let carries = up.0 in
    let h = c.levels.invariant in
    let next : c.self.inside.pushed ≡ c.self.inside.pushed - 1 + 1 =
    omega (arith, c.if-self-eq0.false) in
    let deeper : c.levels.level < c.self.inside.depth =
    digit-within (c.self.inside.pushed - 1) c.levels.level c.self.inside.depth
    (omega (arith, c.self.invariant.1, c.if-self-eq0.false))
    (omega (arith, h.rest, c.levels-test.true)) in
    let half : c.levels.left / 2 ≡ (c.self.inside.pushed - 1) / 2 ^ (c.levels.level + 1) =
    let step : suc c.levels.level ≡ c.levels.level + 1 = omega arith in
    ap (λ n. n / 2) h.rest ∙ sym (shr-suc (c.self.inside.pushed - 1) c.levels.level)
    ∙ ap (λ k. (c.self.inside.pushed - 1) / 2 ^ k) step in
    elim c.if-left-eq1.branch [
      | then-left-eq1 w ↦
          let e = w.pair-node.ensures in
          let joins : Joins c.levels.arena w.pair-node.new.self
          (stack_node c.self.inside.nodes c.levels.level) c.levels.node w.pair-node.result =
          record { node = e.node; tree = e.tree; todo = e.todo } in
          let adds = one_more _ _ _ _ _ h.above h.adds
          (Adds-pair c.levels.arena _ e.keeps e.same e.unhashed e.count e.spare) in
          record {
            inside = subst (λ a. IsNodeOf a c.if-left-eq1.node) (sym w.arena-is)
                (subst (λ n. IsNodeOf w.pair-node.new.self n) (sym w.node-is) e.node);
            above = omega (arith, h.above);
            within = omega (arith, deeper);
            rest = half;
            adds = subst (λ a. AddsNodes _ _ c.args.arena.now a) (sym w.arena-is) adds;
            top = λ parts held. subst (λ a. IsTop a _ _ parts c.if-left-eq1.node)
                (sym w.arena-is)
                (subst (λ n. IsTop w.pair-node.new.self _ _ parts n) (sym w.node-is)
                (IsTop-next c.args.arena.now c.levels.arena _ parts _
                (c.self.inside.pushed - 1) _ carries.before c.levels.level c.levels.node _
                held h.adds.keeps next carries.is h.above
                (sym (ap (λ n. n % 2) h.rest) ∙ w.if-left-eq1.true) (h.top parts held) joins));
          }
      | else-left-eq1 w ↦
          let e = w.pair-node-else-left-eq1.ensures in
          let z = w.zero-zero.ensures in
          let joins : Joins c.levels.arena w.pair-node-else-left-eq1.new.self
          c.levels.node w.zero-zero.result w.pair-node-else-left-eq1.result =
          record { node = e.node; tree = e.tree; todo = e.todo } in
          let adds = one_more _ _ _ _ _ h.above h.adds
          (Adds-pair c.levels.arena _ e.keeps e.same e.unhashed e.count e.spare) in
          record {
            inside = subst (λ a. IsNodeOf a c.if-left-eq1.node) (sym w.arena-is)
                (subst (λ n. IsNodeOf w.pair-node-else-left-eq1.new.self n) (sym w.node-is)
                e.node);
            above = omega (arith, h.above);
            within = omega (arith, deeper);
            rest = half;
            adds = subst (λ a. AddsNodes _ _ c.args.arena.now a) (sym w.arena-is) adds;
            top = λ parts held. subst (λ a. IsTop a _ _ parts c.if-left-eq1.node)
                (sym w.arena-is)
                (subst (λ n. IsTop w.pair-node-else-left-eq1.new.self _ _ parts n)
                (sym w.node-is)
                (IsTop-left c.levels.arena _ (c.self.inside.pushed - 1) c.levels.level parts
                c.levels.node w.zero-zero.result _
                (sym (ap (λ n. n % 2) h.rest) ∙ omega (arith, w.if-left-eq1.false))
                (sym held.number ∙ next) (h.top parts held) z.node z.tree z.todo joins));
          }
    ]

pub returns-clause-part : goal.returns-clause-part
returns-clause-part g c = λ parts held.
    let known : StackHolds c.args.arena.now parts
    (record {
      depth = c.self.inside.depth;
      pushed = c.self.inside.pushed;
      nodes = c.self.inside.nodes;
    }) =
    subst (StackHolds c.args.arena.now parts) (sym c.self.view_is) held in
    let h = c.levels.invariant in
    let low : c.self.inside.pushed - 1 < 2 ^ c.levels.level =
    below-level (c.self.inside.pushed - 1) c.levels.level
    (omega (arith, h.rest, c.levels-test.false)) in
    let here = IsTop-whole c.levels.arena (c.self.inside.pushed - 1) c.levels.level parts
    c.levels.node low (h.top parts known) in
    subst (λ (s : Stack). IsPartNode c.beside_zeros.new.arena (whole_of s.depth parts)
    c.beside_zeros.result) c.self.view_is
    (c.beside_zeros.ensures.part parts
    (omega (arith, known.number, c.if-self-eq0.false)) (omega (arith, known.number, low)) here)

pub returns-clause-adds : goal.returns-clause-adds
returns-clause-adds g c =
    let up : Carries (c.self.inside.pushed - 1) (trailing_zeros w64 c.self.inside.pushed)
    c.self.inside.depth × (trailing_zeros w64 c.self.inside.pushed < 64) =
    Carries-last c.self.inside.depth c.self.inside.pushed _ c.self.invariant.1 (omega arith)
    (omega (arith, c.if-self-eq0.false)) refl in
    let h = c.levels.invariant in
    let next : c.self.inside.pushed - 1 + 1 ≡ c.self.inside.pushed =
    omega (arith, c.if-self-eq0.false) in
    let sum : c.levels.level - trailing_zeros w64 c.self.inside.pushed
    + (c.self.inside.depth - c.levels.level)
    ≡ c.self.inside.depth - trailing_zeros w64 c.self.inside.pushed =
    omega (arith, h.above, h.within) in
    let made : c.self.inside.depth - trailing_zeros w64 c.self.inside.pushed
    ≡ merkle_pairs c.self.inside.depth c.self.inside.pushed
    - whole_pairs c.self.inside.depth c.self.inside.pushed =
    subst (λ n. c.self.inside.depth - trailing_zeros w64 c.self.inside.pushed
    ≡ merkle_pairs c.self.inside.depth n - whole_pairs c.self.inside.depth n) next
    (made_by_finish c.self.inside.depth (c.self.inside.pushed - 1) _ up.0.before up.0.is
    c.self.invariant.0) in
    subst (λ (s : Stack). AddsNodes (merkle_pairs s.depth s.pushed - whole_pairs s.depth s.pushed)
    (merkle_pairs s.depth s.pushed - whole_pairs s.depth s.pushed) c.args.arena.now
    c.beside_zeros.new.arena)
    c.self.view_is
    (subst (λ n. AddsNodes n n c.args.arena.now c.beside_zeros.new.arena) (sum ∙ made)
    (Adds-then _ _ _ _ c.args.arena.now c.levels.arena c.beside_zeros.new.arena h.adds
    c.beside_zeros.ensures.adds))
