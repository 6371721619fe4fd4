-- How the next place is taken: the lowest subtree that is left is opened down to its first place.
use Rattle.std.proofs.Common.{◌≡◌, ◌≢◌, ℕ, suc, ◌+◌, ◌-◌, ◌*◌, ◌/◌, ◌%◌, ◌^◌, ◌<◌, ◌≤◌, List, ◌∷◌, length, take, drop, set, replicate, refl, sym, ap, ap₂, ◌∙◌, subst, ⊎_elim, arith, inl, inr, get_or-set_same, get_or-set_other, length-set}
use Rattle.std.specs.Int.{bit_at}
use Rattle.std.proofs.Math.Nat.{pow-suc}
use Rattle.std.proofs.lemmas.Bool.{cases_lt}
use Rattle.std.proofs.lemmas.Nat.{pow_pos, mod-mul-add}
use Rattle.std.proofs.lemmas.Nat.Bits.{bit_at-pow_other}
use Rattle.std.specs.List.{All}
use Rattle.std.proofs.lemmas.Bool.{cases_eq}
use Rattle.std.proofs.lemmas.List.{take-take, drop-take, drop-drop, take_all, get_or-replicate}
use Rattle.std.proofs.lemmas.List.Elements.{All-set}
use Rattle.ssz_chunk.specs.Tree.{Tree, pair, merkle_tree, place}
use Rattle.ssz_chunk.proofs.Trees.{full-suc}
use Rattle.ssz_chunk.proofs.FullTrees.{place-take}
use Rattle.ssz_arena.specs.declared.node.NodeId.{NodeId}
use Rattle.ssz_arena.specs.Content.{ArenaContent, row_node, tree_of, IsNodeOf}
use Rattle.ssz_nodes.specs.Ahead.{AheadHolds, Stand, tree_block}
use Rattle.ssz_nodes.proofs.Ending.{Ends, ends_within, whole, none-left, digit, digit-same, digit-gone, unit_ends, less-digit, none_below, low_rest, high_rest}

-- Opened down to a level: the node has the first places there, the nodes of the levels from there
-- to the one that was opened have the places behind as many, and those above are as before.
pub record Opened (arena : ArenaContent) (trees : List Tree) (level now : ℕ) (node : NodeId)
    (old nodes : List NodeId) : Type 0 where
  pub first : tree_of arena node ≡ merkle_tree now (take (2 ^ now) trees)
  pub low : (k : ℕ) → now ≤ k → k < level
      → tree_of arena (row_node nodes k) ≡ merkle_tree k (take (2 ^ k) (drop (2 ^ k) trees))
  pub high : (k : ℕ) → level ≤ k → row_node nodes k ≡ row_node old k

pub Opened-start : (arena : ArenaContent) (trees : List Tree) (left level : ℕ) (nodes : List NodeId)
    → Ends left level → Stand arena trees left nodes
    → Opened arena trees level level (row_node nodes level) nodes nodes
Opened-start arena trees left level nodes is held = record {
  first = held level is.one
      ∙ ap (λ n. merkle_tree level (take (2 ^ level) (drop n trees)))
      (none-left left level is level (omega arith));
  low = λ k from below. absurd (omega arith);
  high = λ k above. refl;
}

pub halves_of : (now : ℕ) (trees : List Tree)
    → merkle_tree (suc now) (take (2 ^ suc now) trees)
    ≡ pair (merkle_tree now (take (2 ^ now) trees))
    (merkle_tree now (take (2 ^ now) (drop (2 ^ now) trees)))
halves_of now trees =
    let double : 2 ^ suc now ≡ 2 ^ now + 2 ^ now = omega (arith, pow-suc 2 now) in
    full-suc now (take (2 ^ suc now) trees)
    ∙ ap₂ (λ left right. pair (merkle_tree now left) (merkle_tree now right))
    (take-take (2 ^ now) (2 ^ suc now) trees (omega arith))
    (ap (λ n. drop (2 ^ now) (take n trees)) double ∙ drop-take (2 ^ now) (2 ^ now) trees)

-- one level further
pub Opened-more : (arena : ArenaContent) (trees : List Tree) (level now : ℕ)
    (node first second : NodeId) (old nodes : List NodeId) → now < level → level ≤ length nodes
    → Opened arena trees level (suc now) node old nodes
    → ((left right : Tree) → tree_of arena node ≡ pair left right → tree_of arena first ≡ left)
    → ((left right : Tree) → tree_of arena node ≡ pair left right → tree_of arena second ≡ right)
    → Opened arena trees level now first old (set nodes now second)
Opened-more arena trees level now node first second old nodes below room h left right =
    let both = h.first ∙ halves_of now trees in
    record {
      first = left _ _ both;
      low = λ k from within. elim (cases_lt now k) [
        | inl above ↦ ap (tree_of arena)
            (get_or-set_other nodes now k second (record { 0 = 0 }) (λ e. omega arith))
            ∙ h.low k (omega arith) within
        | inr here ↦
            (let same : k ≡ now = omega arith in
            subst (λ j. tree_of arena (row_node (set nodes now second) j)
            ≡ merkle_tree j (take (2 ^ j) (drop (2 ^ j) trees))) (sym same)
            (ap (tree_of arena)
            (get_or-set_same nodes now second (record { 0 = 0 }) (omega arith))
            ∙ right _ _ both))
      ];
      high = λ k above.
          get_or-set_other nodes now k second (record { 0 = 0 }) (λ e. omega arith)
          ∙ h.high k above;
    }

-- the first places of the lowest subtree are taken away, as many as a subtree below it has
module _ (arena : ArenaContent) (trees : List Tree) (left level low q : ℕ) (node : NodeId)
    (old nodes : List NodeId) (is : Ends left level) (within : low ≤ level)
    (units : left ≡ q * 2 ^ low) (held : Stand arena trees left old)
    (h : Opened arena trees level low node old nodes) where
  behind : (k n : ℕ) → 2 ^ low + (left - 2 ^ low) % 2 ^ k ≡ n
      → merkle_tree k (take (2 ^ k) (drop n trees))
      ≡ merkle_tree k (tree_block k (left - 2 ^ low) (drop (2 ^ low) trees))
  behind k n same = ap (λ ts. merkle_tree k (take (2 ^ k) ts))
      (ap (λ m. drop m trees) (sym same)
      ∙ sym (drop-drop ((left - 2 ^ low) % 2 ^ k) (2 ^ low) trees))

  unit_bit : (j k : ℕ) → low + j ≡ k → bit_at (left - 2 ^ low) k ≡ 1 → bit_at (q - 1) j ≡ 1
  unit_bit j k at one = sym (less-digit left level low q is within units j)
      ∙ subst (λ n. bit_at (left - 2 ^ low) n ≡ 1) (sym at) one

  same_bit : (j k : ℕ) → level - low < j → low + j ≡ k → bit_at (left - 2 ^ low) k ≡ 1
      → bit_at left k ≡ 1
  same_bit j k above at one = subst (λ n. bit_at left n ≡ 1) at
      (ap (λ n. bit_at n (low + j)) units ∙ digit q low j
      ∙ sym (digit-same q (level - low) (unit_ends left level low q is within units) j above)
      ∙ unit_bit j k at one)

  from_unit : (j k : ℕ) → low + j ≡ k → j + low ≡ k → bit_at (left - 2 ^ low) k ≡ 1
      → tree_of arena (row_node nodes k)
      ≡ merkle_tree k (tree_block k (left - 2 ^ low) (drop (2 ^ low) trees))
  from_unit j k at same one = elim (cases_lt j (level - low)) [
    | inl below ↦ h.low k (omega arith) (omega arith)
        ∙ behind k (2 ^ k) (subst (λ n. 2 ^ low + (left - 2 ^ low) % 2 ^ n ≡ 2 ^ n) same
        (low_rest left level low q is within units j below))
    | inr from ↦ elim (cases_lt (level - low) j) [
      | inl above ↦ ap (tree_of arena) (h.high k (omega arith))
          ∙ held k (same_bit j k above at one)
          ∙ behind k (left % 2 ^ k)
          (subst (λ n. 2 ^ low + (left - 2 ^ low) % 2 ^ n ≡ left % 2 ^ n) same
          (high_rest left level low q is within units j above))
      | inr below ↦
          (let here : j ≡ level - low = omega arith in
          absurd (omega (
            arith,
            digit-gone q (level - low) (unit_ends left level low q is within units),
            subst (λ n. bit_at (q - 1) n ≡ 1) here (unit_bit j k at one),
          )))
    ]
  ]

  less_stand : Stand arena (drop (2 ^ low) trees) (left - 2 ^ low) nodes
  less_stand k one = elim (cases_lt k low) [
    | inl below ↦ absurd (omega (arith, one, none_below left level low q is within units k below))
    | inr from ↦ from_unit (k - low) k (omega arith) (omega arith) one
  ]

pub Stand-less : (arena : ArenaContent) (trees : List Tree) (left level low : ℕ) (node : NodeId)
    (old nodes : List NodeId) → Ends left level → low ≤ level → Stand arena trees left old
    → Opened arena trees level low node old nodes
    → Stand arena (drop (2 ^ low) trees) (left - 2 ^ low) nodes
Stand-less arena trees left level low node old nodes is within held h =
    less_stand arena trees left level low (left / 2 ^ low) node old nodes is within
    (whole left level is low within) held h

drop_of : (n m : ℕ) (tree : Tree) (trees : List Tree) → n ≡ suc m
    → drop n (tree ∷ trees) ≡ drop m trees
drop_of n m tree trees is = ap (λ k. drop k (tree ∷ trees)) is

-- the next place is the first of the row, and the others are left
pub Holds-next : (arena : ArenaContent) (tree : Tree) (trees : List Tree) (row nodes : List NodeId)
    (from to left : ℕ) → from < to
    → AheadHolds arena (tree ∷ trees)
    (record { row = row; from = from; to = to; left = left; nodes = nodes })
    → tree_of arena (row_node row from) ≡ tree
Holds-next arena tree trees row nodes from to left some held =
    let first : from + 0 ≡ from = omega arith in
    subst (λ k. tree_of arena (row_node row k) ≡ tree) first (held.row 0 (omega arith))

pub Holds-rest : (arena : ArenaContent) (tree : Tree) (trees : List Tree) (row nodes : List NodeId)
    (from to left : ℕ) → from < to
    → AheadHolds arena (tree ∷ trees)
    (record { row = row; from = from; to = to; left = left; nodes = nodes })
    → AheadHolds arena trees
    (record { row = row; from = from + 1; to = to; left = left; nodes = nodes })
Holds-rest arena tree trees row nodes from to left some held = record {
  few = omega (arith, held.few);
  row = λ i below.
      let next : from + suc i ≡ from + 1 + i = omega arith in
      subst (λ k. tree_of arena (row_node row k) ≡ place trees i) next
      (held.row (suc i) (omega arith));
  nodes = subst (λ ts. Stand arena ts left nodes)
      (drop_of (to - from) (to - (from + 1)) tree trees (omega arith)) held.nodes;
}

-- a row of the first places, come down to together
pub Holds-filled : (arena : ArenaContent) (trees : List Tree) (left level low from to : ℕ)
    (node : NodeId) (old nodes row filled : List NodeId) → Ends left level → low ≤ level
    → from ≡ to
    → ((ts : List Tree) → Stand arena ts left old → Opened arena ts level low node old nodes)
    → ((ts : List Tree) → tree_of arena node ≡ merkle_tree low ts → (i : ℕ) → i < 2 ^ low
    → tree_of arena (row_node filled i) ≡ place ts i)
    → AheadHolds arena trees (record { row = row; from = from; to = to; left = left; nodes = old })
    → AheadHolds arena trees
    (record { row = filled; from = 0; to = 2 ^ low; left = left - 2 ^ low; nodes = nodes })
Holds-filled arena trees left level low from to node old nodes row filled is within none opened
    found held =
    let all : to - from ≡ 0 = omega arith in
    let stand : Stand arena trees left old =
    subst (λ n. Stand arena (drop n trees) left old) all held.nodes in
    let start = opened trees stand in
    let same : 2 ^ low ≡ 2 ^ low - 0 = omega arith in
    record {
      few = omega (arith, held.few);
      row = λ i below.
          let inside : i < 2 ^ low = omega (arith, below) in
          let at : 0 + i ≡ i = omega arith in
          ap (λ k. tree_of arena (row_node filled k)) at
          ∙ found (take (2 ^ low) trees) start.first i inside
          ∙ place-take (2 ^ low) i trees inside;
      nodes = subst (λ n. Stand arena (drop n trees) (left - 2 ^ low) nodes) same
          (Stand-less arena trees left level low node old nodes is within stand start);
    }

-- all places of a full tree
pub Holds-whole : (arena : ArenaContent) (trees : List Tree) (node : NodeId) (depth : ℕ)
    (row : List NodeId) → depth < 64
    → length trees ≤ 2 ^ depth → tree_of arena node ≡ merkle_tree depth trees
    → AheadHolds arena trees
    (record { row = row; from = 0; to = 0; left = 2 ^ depth; nodes = replicate 64 node })
Holds-whole arena trees node depth row shallow few is = record {
  few = omega (arith, few);
  row = λ i below. absurd (omega arith);
  nodes = λ k one. ⊎_elim
      (λ (same : k ≡ depth).
      let none : 2 ^ depth % 2 ^ depth ≡ 0 = no_rest (2 ^ depth) (pow_pos depth) in
      subst (λ (j : ℕ). tree_of arena (row_node (replicate 64 node) j)
      ≡ merkle_tree j (take (2 ^ j) (drop (2 ^ depth % 2 ^ j) trees))) (sym same)
      (ap (tree_of arena) (get_or-replicate 64 depth node (record { 0 = 0 }) (omega arith))
      ∙ is ∙ ap (merkle_tree depth) (sym (take_all (2 ^ depth) trees few))
      ∙ ap (λ n. merkle_tree depth (take (2 ^ depth) (drop n trees))) (sym none)))
      (λ (other : k ≢ depth). absurd (omega (arith, one, bit_at-pow_other depth k other)))
      (cases_eq k depth);
}
  where
    no_rest : (m : ℕ) → 0 < m → m % m ≡ 0
    no_rest m positive = let once : m ≡ 1 * m + 0 = omega arith in
        ap (λ k. k % m) once ∙ mod-mul-add 1 m 0 positive

-- what the loop down to the next place keeps
pub record Opening (arena : ArenaContent) (left level now : ℕ) (node : NodeId)
    (old nodes : List NodeId) : Type 0 where
  pub inside : IsNodeOf arena node
  pub count : length nodes ≡ 64
  pub all : All (IsNodeOf arena) nodes
  pub each : (trees : List Tree) → Stand arena trees left old
      → Opened arena trees level now node old nodes

pub Opening-start : (arena : ArenaContent) (left level : ℕ) (node : NodeId) (nodes : List NodeId)
    → Ends left level → left ≤ 2 ^ 63 → length nodes ≡ 64 → All (IsNodeOf arena) nodes
    → node ≡ row_node nodes level → Opening arena left level level node nodes nodes
Opening-start arena left level node nodes is few count all here = record {
  inside = subst (IsNodeOf arena) (sym here)
      (all level (record { 0 = 0 }) (omega (arith, ends_within left level few is)));
  count = count;
  all = all;
  each = λ trees held. subst (λ n. Opened arena trees level level n nodes nodes) (sym here)
      (Opened-start arena trees left level nodes is held);
}

pub Opening-more : (arena : ArenaContent) (left level now : ℕ) (node first second : NodeId)
    (old nodes : List NodeId) → now < level → level ≤ 63
    → Opening arena left level (suc now) node old nodes
    → IsNodeOf arena first → IsNodeOf arena second
    → ((left right : Tree) → tree_of arena node ≡ pair left right → tree_of arena first ≡ left)
    → ((left right : Tree) → tree_of arena node ≡ pair left right → tree_of arena second ≡ right)
    → Opening arena left level now first old (set nodes now second)
Opening-more arena left level now node first second old nodes below shallow h one two left_is
    right_is = record {
      inside = one;
      count = length-set nodes now second ∙ h.count;
      all = All-set (IsNodeOf arena) nodes now second two h.all;
      each = λ trees held.
          Opened-more arena trees level now node first second old nodes below
          (omega (arith, h.count)) (h.each trees held) left_is right_is;
    }
