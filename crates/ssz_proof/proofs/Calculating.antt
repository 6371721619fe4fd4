-- The equations of a calculated root as it goes down, and the root that a tree's chunks give.
use Rattle.std.proofs.Common.{◌≡◌, ◌≢◌, ℕ, zero, suc, ◌+◌, ◌*◌, ◌/◌, ◌%◌, ◌^◌, ◌<◌, ◌≤◌, true, false, List, [], ◌∷◌, ◌++◌, refl, sym, ap, ap₂, ◌∙◌, Some, None, is_some, unwrap_or, arith, inl, inr}
use Rattle.std.specs.List.{AllByRecursion}
use Rattle.std.proofs.lemmas.Bool.{false≢true, or_left}
use Rattle.std.proofs.lemmas.Option.{none-some, same_Some}
use Rattle.ssz_chunk.specs.Chunk.{zero_chunk}
use Rattle.ssz_chunk.specs.Tree.{Tree, pair, root}
use Rattle.ssz_chunk.specs.Index.{levels, way, digits, at, at_way}
use Rattle.ssz_chunk.proofs.Digits.{way-one}
use Rattle.ssz_chunk.proofs.Ways.{at_way-append_some}
use Rattle.ssz_gindex.specs.Helpers.{is_within, is_on_paths, helpers}
use Rattle.ssz_proof.specs.declared.entry.Entry.{Entry}
use Rattle.ssz_proof.specs.Calculation.{Known, PairOf, indices_of, chunk_at, deepest, calculate_root_within, calculate_root}
use Rattle.ssz_proof.specs.Laws.{HasChunk, LawOfProofs}
use Rattle.ssz_gindex.proofs.Within.{below_from, way_below}
use Rattle.ssz_gindex.proofs.HelperNodes.{some_from, is_pair, first_digit}
use Rattle.ssz_proof.proofs.Within.{child_levels, child_way, child_within, root_within}
use Rattle.ssz_proof.proofs.KnownChunks.{any_known, any_from, known-left, unknown-left, known_holds, known_deep, some_or_none}
use Rattle.ssz_proof.proofs.HelperIndices.{reached, reached-on, both_children, on_if_unknown}

-- the calculation goes on from an index that is not known to both children
pub within-down : (pair_of : PairOf) (down : ℕ) (known : Known) (g : ℕ)
    → chunk_at known g ≡ None → calculate_root_within pair_of (suc down) known g
    ≡ pair_of (calculate_root_within pair_of down known (g * 2 + 0))
    (calculate_root_within pair_of down known (g * 2 + 1))
within-down pair_of down known g e =
    let left : 2 * g ≡ g * 2 + 0 = omega arith in
    let right : 2 * g + 1 ≡ g * 2 + 1 = omega arith in
    ap (λ o. unwrap_or o (pair_of (calculate_root_within pair_of down known (2 * g))
    (calculate_root_within pair_of down known (2 * g + 1)))) e
    ∙ ap₂ (λ l r. pair_of (calculate_root_within pair_of down known l)
    (calculate_root_within pair_of down known r)) left right

pub within-known : (pair_of : PairOf) (down : ℕ) (known : Known) (g : ℕ)
    (chunk : List ℕ) → chunk_at known g ≡ Some chunk
    → calculate_root_within pair_of down known g ≡ chunk
within-known pair_of zero known g chunk e = ap (λ o. unwrap_or o zero_chunk) e
within-known pair_of (suc down) known g chunk e =
    ap (λ o. unwrap_or o (pair_of (calculate_root_within pair_of down known (2 * g))
    (calculate_root_within pair_of down known (2 * g + 1)))) e

-- a leaf so many levels below an index that is not known, and both children of that
pub record LeafBelow (leaves nodes : Known) (g : ℕ) : Type 0 where
  pub leaf : ℕ
  pub down : ℕ
  pub is : is_some (chunk_at leaves leaf) ≡ true
  pub levels : levels leaf ≡ levels g + suc down
  pub high : leaf / 2 ^ suc down ≡ g

-- Leaves, and nodes at their helper indices.
module _ (leaves nodes : Known) (complete : indices_of nodes ≡ helpers (indices_of leaves)) where
  abbrev known : Known
  known = leaves ++ nodes

  pub leaf_below : (g : ℕ) → reached leaves nodes complete g ≡ true → chunk_at known g ≡ None
      → LeafBelow leaves nodes g
  leaf_below g is_reached unknown =
      let on = on_if_unknown leaves nodes complete g is_reached unknown in
      let leaf_of = any_known (is_within g) leaves on in
      let i : ℕ = leaf_of.0 in
      let below = below_from g i leaf_of.1 in
      (elim below.n as (λ (n : ℕ). levels i ≡ levels g + n → i / 2 ^ n ≡ g
      → LeafBelow leaves nodes g) [
        | zero ↦ (λ l h.
            let same : g ≡ i = omega arith in
            absurd (false≢true (sym (ap is_some (unknown-left leaves nodes g unknown))
            ∙ ap (λ k. is_some (chunk_at leaves k)) same ∙ leaf_of.2)))
        | suc m ↦ (λ l h. record { leaf = i; down = m; is = leaf_of.2; levels = l; high = h })
      ]) below.levels below.high

  pub children_reached : (g : ℕ) → 0 < g → LeafBelow leaves nodes g
      → (reached leaves nodes complete (g * 2 + 0) ≡ true)
      × (reached leaves nodes complete (g * 2 + 1) ≡ true)
  children_reached g positive below =
      let b : ℕ = below.leaf / 2 ^ below.down % 2 in
      both_children leaves nodes complete g positive b (omega arith)
      (any_from (is_within (g * 2 + b)) leaves below.leaf below.is
      (child_within g below.leaf below.down positive below.levels below.high))

  -- no index that is not known is as deep as the deepest leaf
  pub deeper : (g : ℕ) → LeafBelow leaves nodes g → levels g < deepest (indices_of leaves)
  deeper g below = omega (arith, below.levels, known_deep leaves below.leaf below.is)

  deeper_known : (g : ℕ) → LeafBelow leaves nodes g → levels g < deepest (indices_of known)
  deeper_known g below =
      omega (
        arith,
        below.levels,
        known_deep known below.leaf (known-left leaves nodes below.leaf below.is),
      )

  module _ (pair_of : PairOf) where
    abbrev within : ℕ → ℕ → List ℕ
    within down g = calculate_root_within pair_of down known g

    -- any number of levels that is enough gives the same
    enough_alike : (f k g : ℕ) → 0 < g → reached leaves nodes complete g ≡ true
        → deepest (indices_of known) ≤ levels g + f → deepest (indices_of known) ≤ levels g + k
        → within f g ≡ within k g
    enough_alike zero k g positive is enough_f enough_k = elim (some_or_none (chunk_at known g)) [
      | inl chunk ↦
          within-known pair_of 0 known g chunk.0 chunk.1
          ∙ sym (within-known pair_of k known g chunk.0 chunk.1)
      | inr unknown ↦
          absurd (let above = deeper_known g (leaf_below g is unknown) in omega arith)
    ]
    enough_alike (suc f) zero g positive is enough_f enough_k =
        elim (some_or_none (chunk_at known g)) [
          | inl chunk ↦
              within-known pair_of (suc f) known g chunk.0 chunk.1
              ∙ sym (within-known pair_of 0 known g chunk.0 chunk.1)
          | inr unknown ↦
              absurd (let above = deeper_known g (leaf_below g is unknown) in omega arith)
        ]
    enough_alike (suc f) (suc k) g positive is enough_f enough_k =
        elim (some_or_none (chunk_at known g)) [
          | inl chunk ↦
              within-known pair_of (suc f) known g chunk.0 chunk.1
              ∙ sym (within-known pair_of (suc k) known g chunk.0 chunk.1)
          | inr unknown ↦
              (let both = children_reached g positive (leaf_below g is unknown) in
              let left = child_levels g 0 positive (omega arith) in
              let right = child_levels g 1 positive (omega arith) in
              within-down pair_of f known g unknown
              ∙ ap₂ pair_of
              (enough_alike f k (g * 2 + 0) (omega arith) both.0 (omega arith) (omega arith))
              (enough_alike f k (g * 2 + 1) (omega arith) both.1 (omega arith) (omega arith))
              ∙ sym (within-down pair_of k known g unknown))
        ]

    -- an index that is not known has the chunk of the pair of its children's
    pub calculated-down : (g : ℕ) → 0 < g → reached leaves nodes complete g ≡ true
        → chunk_at known g ≡ None
        → calculate_root pair_of known g
        ≡ pair_of (calculate_root pair_of known (g * 2 + 0))
        (calculate_root pair_of known (g * 2 + 1))
    calculated-down g positive is unknown =
        let above = deeper_known g (leaf_below g is unknown) in
        let deep : ℕ = deepest (indices_of known) in
        enough_alike deep (suc deep) g positive is (omega arith) (omega arith)
        ∙ within-down pair_of deep known g unknown

-- A tree that has the chunks.

-- what an entry says of the tree, by its way
record HoldsAt (pair_of : PairOf) (tree : Tree) (g : ℕ) (chunk : List ℕ) : Type 0 where
  pub node : Tree
  pub found : at_way tree (way g) ≡ Some node
  pub root : root pair_of node ≡ chunk

by_way : (pair_of : PairOf) (tree : Tree) (entry : Entry)
    → HasChunk pair_of tree entry → HoldsAt pair_of tree entry.index entry.chunk.0
by_way pair_of tree entry has = go entry.index has.found
  where
    go : (g : ℕ) → at tree g ≡ Some has.node → HoldsAt pair_of tree g entry.chunk.0
    go zero e = absurd (none-some has.node e)
    go (suc n) e = record { node = has.node; found = e; root = has.root }

all_by_way : (pair_of : PairOf) (tree : Tree) (known : Known)
    → AllByRecursion (HasChunk pair_of tree) known
    → AllByRecursion (λ entry. HoldsAt pair_of tree entry.index entry.chunk.0) known
all_by_way pair_of tree [] all = tt
all_by_way pair_of tree (entry ∷ known) all =
    (by_way pair_of tree entry all.0, all_by_way pair_of tree known all.1)

digit_left : digits 1 0 ≡ false ∷ []
unfolding digits
digit_left = refl

digit_right : digits 1 1 ≡ true ∷ []
unfolding digits
digit_right = refl

to_left : (node left right : Tree) → node ≡ pair left right → at_way node (digits 1 0) ≡ Some left
to_left node left right is = ap₂ at_way is digit_left

to_right : (node left right : Tree) → node ≡ pair left right
    → at_way node (digits 1 1) ≡ Some right
to_right node left right is = ap₂ at_way is digit_right

-- each entry holds in the tree
abbrev AllHold : PairOf → Tree → Known → Type 0
AllHold pair_of tree known =
    AllByRecursion (λ entry. HoldsAt pair_of tree entry.index entry.chunk.0) known

module _ (leaves nodes : Known) (complete : indices_of nodes ≡ helpers (indices_of leaves))
    (pair_of : PairOf) (tree : Tree) (held : AllHold pair_of tree (leaves ++ nodes)) where
  known_is : (g : ℕ) (node : Tree) (c : List ℕ) → at_way tree (way g) ≡ Some node
      → chunk_at (leaves ++ nodes) g ≡ Some c → root pair_of node ≡ c
  known_is g node c found e =
      let has = known_holds (HoldsAt pair_of tree) (leaves ++ nodes) g c held e in
      ap (root pair_of) (same_Some node has.node (sym found ∙ has.found)) ∙ has.root

  -- the children of a node above a leaf
  record HasChildren (g : ℕ) (node : Tree) : Type 0 where
    pub left : Tree
    pub right : Tree
    pub is : node ≡ pair left right
    pub left_at : at_way tree (way (g * 2 + 0)) ≡ Some left
    pub right_at : at_way tree (way (g * 2 + 1)) ≡ Some right

  children : (g : ℕ) (node : Tree) → 0 < g → at_way tree (way g) ≡ Some node
      → LeafBelow leaves nodes g → HasChildren g node
  children g node positive found below =
      let i : ℕ = below.leaf in
      let is_known : is_some (chunk_at (leaves ++ nodes) i) ≡ true =
      known-left leaves nodes i below.is in
      let chunk = some_from (chunk_at (leaves ++ nodes) i) is_known in
      let has = known_holds (HoldsAt pair_of tree) (leaves ++ nodes) i chunk.0 held chunk.1 in
      let rest : ℕ = i % 2 ^ suc below.down in
      let digit = first_digit below.down rest in
      let inside : at_way node (digit.0 ∷ digit.1) ≡ Some has.node =
      ap (at_way node) (sym digit.2)
      ∙ sym (at_way-append_some tree node (way g) (digits (suc below.down) rest) found)
      ∙ ap (at_way tree) (sym (way_below g i (suc below.down) positive below.high))
      ∙ has.found in
      let is = is_pair node has.node digit.0 digit.1 inside in
      record {
        left = is.0;
        right = is.1;
        is = is.2;
        left_at = ap (at_way tree) (child_way g 0 positive (omega arith))
            ∙ at_way-append_some tree node (way g) (digits 1 0) found
            ∙ to_left node is.0 is.1 is.2;
        right_at = ap (at_way tree) (child_way g 1 positive (omega arith))
            ∙ at_way-append_some tree node (way g) (digits 1 1) found
            ∙ to_right node is.0 is.1 is.2;
      }

  calculated_is : (down g : ℕ) (node : Tree) → 0 < g → at_way tree (way g) ≡ Some node
      → reached leaves nodes complete g ≡ true
      → deepest (indices_of leaves) ≤ levels g + down
      → calculate_root_within pair_of down (leaves ++ nodes) g ≡ root pair_of node
  calculated_is zero g node positive found is enough =
      elim (some_or_none (chunk_at (leaves ++ nodes) g)) [
        | inl chunk ↦
            within-known pair_of 0 (leaves ++ nodes) g chunk.0 chunk.1
            ∙ sym (known_is g node chunk.0 found chunk.1)
        | inr unknown ↦
            absurd (let above = deeper leaves nodes complete g
            (leaf_below leaves nodes complete g is unknown) in omega arith)
      ]
  calculated_is (suc down) g node positive found is enough =
      elim (some_or_none (chunk_at (leaves ++ nodes) g)) [
        | inl chunk ↦
            within-known pair_of (suc down) (leaves ++ nodes) g chunk.0 chunk.1
            ∙ sym (known_is g node chunk.0 found chunk.1)
        | inr unknown ↦
            (let leaf_is = leaf_below leaves nodes complete g is unknown in
            let below = children g node positive found leaf_is in
            let both = children_reached leaves nodes complete g positive leaf_is in
            let left_levels = child_levels g 0 positive (omega arith) in
            let right_levels = child_levels g 1 positive (omega arith) in
            within-down pair_of down (leaves ++ nodes) g unknown
            ∙ ap₂ pair_of
            (calculated_is down (g * 2 + 0) below.left (omega arith) below.left_at both.0
            (omega arith))
            (calculated_is down (g * 2 + 1) below.right (omega arith) below.right_at both.1
            (omega arith))
            ∙ ap (root pair_of) (sym below.is))
      ]

-- the root is reached
pub root_reached : (leaves nodes : Known)
    (complete : indices_of nodes ≡ helpers (indices_of leaves)) → leaves ≢ []
    → AllByRecursion (λ index. 0 < index) (indices_of leaves)
    → reached leaves nodes complete 1 ≡ true
root_reached [] nodes complete some positive = absurd (some refl)
root_reached (entry ∷ leaves) nodes complete some positive =
    reached-on (entry ∷ leaves) nodes complete 1
    (or_left (is_within 1 entry.index) (is_on_paths (indices_of leaves) 1)
    (root_within entry.index positive.0))

positive_indices : (pair_of : PairOf) (tree : Tree) (leaves nodes : Known)
    → AllByRecursion (HasChunk pair_of tree) (leaves ++ nodes)
    → AllByRecursion (λ index. 0 < index) (indices_of leaves)
positive_indices pair_of tree [] nodes all = tt
positive_indices pair_of tree (entry ∷ leaves) nodes all =
    (go entry.index all.0.found, positive_indices pair_of tree leaves nodes all.1)
  where
    go : (g : ℕ) → at tree g ≡ Some all.0.node → 0 < g
    go zero e = absurd (none-some all.0.node e)
    go (suc n) e = omega arith

deepest-append : (xs ys : Known)
    → deepest (indices_of xs) ≤ deepest (indices_of (xs ++ ys))
deepest-append [] ys = omega arith
deepest-append (entry ∷ xs) ys = omega (arith, deepest-append xs ys)

pub law_of_proofs : LawOfProofs
law_of_proofs pair_of tree leaves nodes some complete held =
    calculated_is leaves nodes complete pair_of tree
    (all_by_way pair_of tree (leaves ++ nodes) held)
    (deepest (indices_of (leaves ++ nodes))) 1 tree (omega arith) (ap (at_way tree) way-one)
    (root_reached leaves nodes complete some (positive_indices pair_of tree leaves nodes held))
    (omega (arith, deepest-append leaves nodes))
