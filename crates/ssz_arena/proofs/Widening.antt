-- How the nodes of a row make way for their children.
use Rattle.std.proofs.Common.{◌≡◌, ℕ, suc, ◌+◌, ◌*◌, ◌<◌, ◌≤◌, List, length, set, refl, ap, ◌∙◌, subst, inl, inr, arith, get_or-set_same, get_or-set_other, length-set}
use Rattle.std.specs.List.{All}
use Rattle.std.proofs.lemmas.Bool.{cases_lt}
use Rattle.std.proofs.lemmas.List.Elements.{All-set}
use Rattle.ssz_chunk.specs.Tree.{Tree, pair}
use Rattle.ssz_arena.specs.declared.node.NodeId.{NodeId}
use Rattle.ssz_arena.specs.Content.{ArenaContent, IsNodeOf, row_node, tree_of}

-- The nodes from `now` on made way for their children, and those before it are as they were.
pub record Widened (arena : ArenaContent) (len now : ℕ) (old new : List NodeId) : Type 0 where
  pub count : length new ≡ length old
  pub all : All (IsNodeOf arena) new
  pub low : (k : ℕ) → k < now → row_node new k ≡ row_node old k
  pub left : (i : ℕ) (left right : Tree) → now ≤ i → i < len
      → tree_of arena (row_node old i) ≡ pair left right
      → tree_of arena (row_node new (2 * i)) ≡ left
  pub right : (i : ℕ) (left right : Tree) → now ≤ i → i < len
      → tree_of arena (row_node old i) ≡ pair left right
      → tree_of arena (row_node new (2 * i + 1)) ≡ right

pub Widened-start : (arena : ArenaContent) (len : ℕ) (nodes : List NodeId)
    → All (IsNodeOf arena) nodes
    → Widened arena len len nodes nodes
Widened-start arena len nodes all = record {
  count = refl;
  all = all;
  low = λ k below. refl;
  left = λ i l r from below is. absurd (omega arith);
  right = λ i l r from below is. absurd (omega arith);
}

module _ (arena : ArenaContent) (len now : ℕ) (first second : NodeId) (old nodes : List NodeId)
    (below : now < len) (room : 2 * len ≤ length old) (h : Widened arena len (suc now) old nodes)
    (one : IsNodeOf arena first) (two : IsNodeOf arena second)
    (left_is : (left right : Tree) → tree_of arena (row_node nodes now) ≡ pair left right
    → tree_of arena first ≡ left)
    (right_is : (left right : Tree) → tree_of arena (row_node nodes now) ≡ pair left right
    → tree_of arena second ≡ right) where
  abbrev pub mid : List NodeId
  mid = set nodes (2 * now) first

  abbrev pub new : List NodeId
  new = set mid (2 * now + 1) second

  -- what is at other places stays
  others : (k : ℕ) → (k ≡ 2 * now → ⊥) → (k ≡ 2 * now + 1 → ⊥)
      → row_node new k ≡ row_node nodes k
  others k even odd =
      get_or-set_other mid (2 * now + 1) k second (record { 0 = 0 }) odd
      ∙ get_or-set_other nodes (2 * now) k first (record { 0 = 0 }) even

  at_first : row_node new (2 * now) ≡ first
  at_first =
      get_or-set_other mid (2 * now + 1) (2 * now) second (record { 0 = 0 }) (λ e. omega arith)
      ∙ get_or-set_same nodes (2 * now) first (record { 0 = 0 }) (omega (arith, h.count))

  at_second : row_node new (2 * now + 1) ≡ second
  at_second = get_or-set_same mid (2 * now + 1) second (record { 0 = 0 })
      (omega (arith, h.count, length-set nodes (2 * now) first))

  same_node : row_node nodes now ≡ row_node old now
  same_node = h.low now (omega arith)

  pub Widened-more : Widened arena len now old new
  Widened-more = record {
    count = length-set mid (2 * now + 1) second ∙ length-set nodes (2 * now) first ∙ h.count;
    all = All-set (IsNodeOf arena) mid (2 * now + 1) second two
        (All-set (IsNodeOf arena) nodes (2 * now) first one h.all);
    low = λ k less. others k (λ e. omega arith) (λ e. omega arith) ∙ h.low k (omega arith);
    left = λ i l r from within is. elim (cases_lt now i) [
      | inl above ↦ ap (tree_of arena) (others (2 * i) (λ e. omega arith) (λ e. omega arith))
          ∙ h.left i l r (omega arith) within is
      | inr here ↦
          (let same : now ≡ i = omega arith in
          subst (λ k. tree_of arena (row_node old k) ≡ pair l r
          → tree_of arena (row_node new (2 * k)) ≡ l) same
          (λ pair_is. ap (tree_of arena) at_first
          ∙ left_is l r (ap (tree_of arena) same_node ∙ pair_is)) is)
    ];
    right = λ i l r from within is. elim (cases_lt now i) [
      | inl above ↦ ap (tree_of arena) (others (2 * i + 1) (λ e. omega arith) (λ e. omega arith))
          ∙ h.right i l r (omega arith) within is
      | inr here ↦
          (let same : now ≡ i = omega arith in
          subst (λ k. tree_of arena (row_node old k) ≡ pair l r
          → tree_of arena (row_node new (2 * k + 1)) ≡ r) same
          (λ pair_is. ap (tree_of arena) at_second
          ∙ right_is l r (ap (tree_of arena) same_node ∙ pair_is)) is)
    ];
  }
