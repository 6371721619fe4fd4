use Rattle.std.proofs.Common.{◌≡◌, ◌<◌, ◌∷◌, List, sym, subst, arith}
use Rattle.ssz_chunk.specs.Tree.{Tree}
use Rattle.ssz_arena.specs.Content.{ArenaContent}
use Rattle.ssz_nodes.specs.Ahead.{Ahead, AheadHolds}
use Rattle.ssz_nodes.proofs.Taking.{Holds-next, Holds-rest}
use Rattle.ssz_nodes.proofs.places.Places.next.Goals as goal

-- with an empty row and nothing behind it, no place is left
no_place : (arena : ArenaContent) (tree : Tree) (trees : List Tree) (ahead : Ahead)
    → ahead.from ≡ ahead.to → (ahead.from ≡ ahead.to → ahead.left ≡ 0)
    → AheadHolds arena (tree ∷ trees) ahead → ⊥
no_place arena tree trees ahead none end held = omega (arith, held.few, none, end none)

pub returns-then-self-clause-tree : goal.returns-then-self-clause-tree
returns-then-self-clause-tree g c = λ tree trees held.
    absurd (no_place c.args.arena.now tree trees c.refill.new.self
    (subst (λ (a : Ahead). a.from ≡ a.to) c.self.view_is c.if-self.true) c.refill.ensures.filled
    (c.refill.ensures.holds _ held))

pub returns-then-self-clause-rest : goal.returns-then-self-clause-rest
returns-then-self-clause-rest g c = λ tree trees held.
    absurd (no_place c.args.arena.now tree trees c.refill.new.self
    (subst (λ (a : Ahead). a.from ≡ a.to) c.self.view_is c.if-self.true) c.refill.ensures.filled
    (c.refill.ensures.holds _ held))

pub returns-clause-tree : goal.returns-clause-tree
returns-clause-tree g c = λ tree trees held.
    let some : c.self.inside.from < c.self.inside.to =
    omega (arith, c.if-self.false, c.self.invariant) in
    Holds-next c.args.arena.now tree trees c.self.inside.row c.self.inside.nodes
    c.self.inside.from c.self.inside.to c.self.inside.left some
    (subst (AheadHolds c.args.arena.now (tree ∷ trees)) (sym c.self.view_is)
    (c.refill.ensures.holds _ held))

pub returns-clause-rest : goal.returns-clause-rest
returns-clause-rest g c = λ tree trees held.
    let some : c.self.inside.from < c.self.inside.to =
    omega (arith, c.if-self.false, c.self.invariant) in
    Holds-rest c.args.arena.now tree trees c.self.inside.row c.self.inside.nodes
    c.self.inside.from c.self.inside.to c.self.inside.left some
    (subst (AheadHolds c.args.arena.now (tree ∷ trees)) (sym c.self.view_is)
    (c.refill.ensures.holds _ held))
