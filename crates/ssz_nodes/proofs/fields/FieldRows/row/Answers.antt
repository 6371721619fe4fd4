use Rattle.std.proofs.Common.{◌≡◌, ℕ, ◌+◌, ◌-◌, ◌*◌, ◌%◌, ◌^◌, ◌<◌, ◌≤◌, ◌∷◌, List, take, drop, sym, ap, subst, arith, mul-le-mul_right}
use Rattle.std.proofs.Math.Nat.{pow-le-pow_right}
use borrow.Rule.Slice.PartMut.{mid_of}
use Rattle.ssz_chunk.specs.Tree.{Tree, merkle_tree, place}
use Rattle.ssz_arena.specs.Content.{row_node, tree_of}
use Rattle.ssz_nodes.specs.Ahead.{IsRowOf}
use Rattle.ssz_nodes.specs.Beside.{FieldsAhead, FieldsHold, fields_at}
use Rattle.ssz_nodes.proofs.Beside.{FieldsHold-next, IsRowOf-front}
use Rattle.ssz_nodes.proofs.fields.FieldRows.row.Goals as goal

-- where the row of a container begins, and how long it is
begins : (from to depth : ℕ) → from < to → to * 2 ^ depth ≤ 256
    → from * 2 ^ depth % 2 ^ 64 ≡ from * 2 ^ depth
begins from to depth some room =
    let within : from ≤ to = omega arith in
    let all : from * 2 ^ depth ≤ to * 2 ^ depth = mul-le-mul_right (2 ^ depth) within in
    omega arith

long : (depth : ℕ) → depth ≤ 3 → 1 * 2 ^ depth % 2 ^ 64 ≡ 2 ^ depth
long depth few =
    let small : 2 ^ depth ≤ 2 ^ 3 = pow-le-pow_right (omega arith) few in
    omega arith

pub returns-clause-fields : goal.returns-clause-fields
returns-clause-fields c = λ arena tree trees held.
    let some : c.self.inside.from < c.self.inside.to =
    subst (λ (a : FieldsAhead). a.from < a.to) (sym c.self.view_is) c.requires in
    let at = begins c.self.inside.from c.self.inside.to c.self.inside.depth some
    c.self.invariant.3 in
    let size = long c.self.inside.depth c.self.invariant.0 in
    let row : IsRowOf arena c.self.inside.depth tree
    (fields_at c.self.inside.depth c.self.inside.nodes c.self.inside.from) =
    FieldsHold-next arena tree trees c.self.inside.depth c.self.inside.from c.self.inside.to
    c.self.inside.nodes c.self.inside.places some
    (subst (FieldsHold arena (tree ∷ trees)) (sym c.self.view_is) held) in
    subst (λ (a : FieldsAhead). (ts : List Tree) → tree ≡ merkle_tree a.depth ts → (i : ℕ)
    → i < 2 ^ a.depth → tree_of arena (row_node (mid_of
    (c.self.inside.from * 2 ^ c.self.inside.depth % 2 ^ 64)
    (c.self.inside.from * 2 ^ c.self.inside.depth % 2 ^ 64
    + 1 * 2 ^ c.self.inside.depth % 2 ^ 64
    - c.self.inside.from * 2 ^ c.self.inside.depth % 2 ^ 64) c.self.inside.nodes) i)
    ≡ place ts i) c.self.view_is
    (IsRowOf-front arena c.self.inside.depth
    (c.self.inside.from * 2 ^ c.self.inside.depth % 2 ^ 64
    + 1 * 2 ^ c.self.inside.depth % 2 ^ 64
    - c.self.inside.from * 2 ^ c.self.inside.depth % 2 ^ 64)
    tree (fields_at c.self.inside.depth c.self.inside.nodes c.self.inside.from) _
    (omega (arith, size))
    (ap (λ n. take (c.self.inside.from * 2 ^ c.self.inside.depth % 2 ^ 64
    + 1 * 2 ^ c.self.inside.depth % 2 ^ 64
    - c.self.inside.from * 2 ^ c.self.inside.depth % 2 ^ 64) (drop n c.self.inside.nodes)) at)
    row)
