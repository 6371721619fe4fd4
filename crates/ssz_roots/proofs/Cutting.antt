-- Fields and elements of fixed size, cut in two.
use Rattle.std.proofs.Common.{◌≡◌, ℕ, zero, suc, ◌+◌, ◌-◌, ◌<◌, ◌≤◌, ◌^◌, min, List, [], ◌∷◌, ◌++◌, length, take, drop, get_or, replicate, Option, Some, None, refl, sym, ap, ◌∙◌, subst, arith, length-take, length-drop}
use Rattle.std.specs.List.{AllByRecursion}
use Rattle.std.proofs.lemmas.List.{take-append-drop, take_rest}
use Rattle.ssz_chunk.specs.Tree.{root, merkle_tree, merkle_pairs}
use Rattle.ssz_chunk.proofs.Trees.{full-zero}
use Rattle.ssz_schema.specs.Types.{SszType}
use Rattle.ssz_schema.specs.Unfolding.{type_tree_at, fields_over}
use Rattle.ssz_value.specs.Encoding.{heads_length}
use Rattle.ssz_value.specs.Faults.{first_fault}
use Rattle.ssz_value.specs.Reading.{value_in}
use Rattle.ssz_value.specs.Trees.{tree}
use Rattle.ssz_value.specs.Pairs.{pairs}
use Rattle.ssz_value.proofs.PartLemmas.{Part, sizes_of, size_at, known_from, length-sizes_of}
use Rattle.ssz_roots.specs.Eights.{pieces, AreFixed, AreFaultless}
use Rattle.ssz_roots.proofs.Halves.{root-halves, grow-halves}
use Rattle.ssz_roots.proofs.Pieces.{pieces-append, length-pieces, fixed-front, fixed-back, heads-append, sizes-append, trees_in, pairs_in, trees-append, pairs-append, length-trees_in, faultless-append}

-- fields, and others behind them, from a place on
pub record CutFields (trees : List SszType) (parts front back : List Part) (a : ℕ) (b : List ℕ)
    : Type 0 where
  pub front_fixed : AreFixed (sizes_of trees front)
  pub back_fixed : AreFixed (sizes_of trees back)
  pub heads : heads_length (sizes_of trees parts)
      ≡ heads_length (sizes_of trees front) + heads_length (sizes_of trees back)
  pub all_trees : trees_in trees parts (pieces (sizes_of trees parts) a b)
      ≡ trees_in trees front (pieces (sizes_of trees front) a b)
      ++ trees_in trees back
      (pieces (sizes_of trees back) (a + heads_length (sizes_of trees front)) b)
  pub all_pairs : pairs_in trees parts (pieces (sizes_of trees parts) a b)
      ≡ pairs_in trees front (pieces (sizes_of trees front) a b)
      + pairs_in trees back
      (pieces (sizes_of trees back) (a + heads_length (sizes_of trees front)) b)
  pub front_count : length (trees_in trees front (pieces (sizes_of trees front) a b))
      ≡ length front
  pub back_count : length (trees_in trees back
      (pieces (sizes_of trees back) (a + heads_length (sizes_of trees front)) b)) ≡ length back
  pub faultless : AreFaultless (fields_over trees parts) (pieces (sizes_of trees parts) a b)
      → AreFaultless (fields_over trees front) (pieces (sizes_of trees front) a b)
      × AreFaultless (fields_over trees back)
      (pieces (sizes_of trees back) (a + heads_length (sizes_of trees front)) b)

cut : (trees : List SszType) (front back : List Part) (a : ℕ) (b : List ℕ)
    → AreFixed (sizes_of trees (front ++ back))
    → CutFields trees (front ++ back) front back a b
cut trees front back a b fixed =
    let all : AreFixed (sizes_of trees front ++ sizes_of trees back) =
    subst AreFixed (sizes-append trees front back) fixed in
    let one : AreFixed (sizes_of trees front) =
    fixed-front (sizes_of trees front) (sizes_of trees back) all in
    let two : AreFixed (sizes_of trees back) =
    fixed-back (sizes_of trees front) (sizes_of trees back) all in
    let place : ℕ = a + heads_length (sizes_of trees front) in
    let bytes : pieces (sizes_of trees (front ++ back)) a b
    ≡ pieces (sizes_of trees front) a b ++ pieces (sizes_of trees back) place b =
    ap (λ sizes. pieces sizes a b) (sizes-append trees front back)
    ∙ pieces-append (sizes_of trees front) (sizes_of trees back) a b one in
    let long : length (pieces (sizes_of trees front) a b) ≡ length front =
    length-pieces (sizes_of trees front) a b one ∙ length-sizes_of trees front in
    let rest : length (pieces (sizes_of trees back) place b) ≡ length back =
    length-pieces (sizes_of trees back) place b two ∙ length-sizes_of trees back in
    record {
      front_fixed = one;
      back_fixed = two;
      heads = ap heads_length (sizes-append trees front back)
          ∙ heads-append (sizes_of trees front) (sizes_of trees back);
      all_trees = ap (trees_in trees (front ++ back)) bytes
          ∙ trees-append trees front back _ _ long;
      all_pairs = ap (pairs_in trees (front ++ back)) bytes
          ∙ pairs-append trees front back _ _ long;
      front_count = length-trees_in trees front _ long;
      back_count = length-trees_in trees back _ rest;
      faultless = λ good. faultless-append trees front back _ _ long
          (subst (AreFaultless (fields_over trees (front ++ back))) bytes good);
    }

-- what stands behind the first parts
abbrev pub behind : ℕ → List Part → List Part
behind half parts = take (length parts - half) (drop half parts)

pub cut_fields : (trees : List SszType) (parts : List Part) (half a : ℕ) (b : List ℕ)
    → AreFixed (sizes_of trees parts)
    → CutFields trees parts (take half parts) (behind half parts) a b
cut_fields trees parts half a b fixed =
    let whole : take half parts ++ behind half parts ≡ parts =
    ap (λ ps. take half parts ++ ps) (take_rest parts half) ∙ take-append-drop half parts in
    subst (λ ps. CutFields trees ps (take half parts) (behind half parts) a b) whole
    (cut trees (take half parts) (behind half parts) a b
    (subst (λ ps. AreFixed (sizes_of trees ps)) (sym whole) fixed))

-- the root over fields
pub fields-halves : (pair_of : List ℕ → List ℕ → List ℕ) (trees : List SszType)
    (parts : List Part) (d half a : ℕ) (b : List ℕ) (left right chunk : List ℕ)
    → half ≡ min (2 ^ d) (length parts) → AreFixed (sizes_of trees parts)
    → left ≡ root pair_of (merkle_tree d (trees_in trees (take half parts)
    (pieces (sizes_of trees (take half parts)) a b)))
    → right ≡ root pair_of (merkle_tree d (trees_in trees (behind half parts)
    (pieces (sizes_of trees (behind half parts))
    (a + heads_length (sizes_of trees (take half parts))) b)))
    → chunk ≡ pair_of left right
    → chunk ≡ root pair_of
    (merkle_tree (suc d) (trees_in trees parts (pieces (sizes_of trees parts) a b)))
fields-halves pair_of trees parts d half a b left right chunk middle fixed is_left is_right is =
    let made = cut_fields trees parts half a b fixed in
    root-halves pair_of d (length parts) _ _ left right chunk
    (made.front_count ∙ omega (arith, length-take half parts, middle))
    (made.back_count
    ∙ omega (arith, ap length (take_rest parts half), length-drop half parts, middle))
    is_left is_right is
    ∙ ap (λ ts. root pair_of (merkle_tree (suc d) ts)) (sym made.all_trees)

-- and its pairs
pub fields-pairs : (trees : List SszType) (parts : List Part) (d half a : ℕ) (b : List ℕ)
    → half ≡ min (2 ^ d) (length parts) → 0 < length parts → length parts ≤ 2 ^ suc d
    → AreFixed (sizes_of trees parts)
    → merkle_pairs (suc d) (length parts) + pairs_in trees parts (pieces (sizes_of trees parts) a b)
    ≡ (merkle_pairs d (length (take half parts)) + pairs_in trees (take half parts)
    (pieces (sizes_of trees (take half parts)) a b))
    + (merkle_pairs d (length (behind half parts)) + pairs_in trees (behind half parts)
    (pieces (sizes_of trees (behind half parts))
    (a + heads_length (sizes_of trees (take half parts))) b)) + 1
fields-pairs trees parts d half a b middle some few fixed =
    let made = cut_fields trees parts half a b fixed in
    let one : length (take half parts) ≡ min (2 ^ d) (length parts) =
    omega (arith, length-take half parts, middle) in
    let two : length (behind half parts) ≡ length parts - min (2 ^ d) (length parts) =
    omega (arith, ap length (take_rest parts half), length-drop half parts, middle) in
    omega (
      arith,
      grow-halves d (length parts) some few,
      ap (merkle_pairs d) one,
      ap (merkle_pairs d) two,
      made.all_pairs,
    )

pub no_items : {X : Type 0} (xs : List X) → length xs ≡ 0 → xs ≡ []
no_items [] none = refl
no_items (x ∷ xs) none = absurd (omega arith)

pub one_item : {X : Type 0} (xs : List X) (x : X) → length xs ≡ 1 → x ≡ get_or xs 0 x → xs ≡ x ∷ []
one_item [] x one is = absurd (omega arith)
one_item (y ∷ []) x one is = ap (λ z. z ∷ []) (sym is)
one_item (y ∷ z ∷ xs) x one is = absurd (omega arith)

-- one part, which has no pair above it
abbrev pub part_at : Option ℕ → ℕ → List ℕ → List ℕ
part_at size a b = get_or (pieces (replicate 1 size) a b) 0 []

one_tree : (trees : List SszType) (part : Part) (a : ℕ) (b : List ℕ) (size : Option ℕ)
    → AreFixed (size ∷ []) → trees_in trees (part ∷ []) (pieces (size ∷ []) a b)
    ≡ tree (type_tree_at trees part.1) (value_in (type_tree_at trees part.1) (part_at size a b))
    ∷ []
one_tree trees part a b None fixed = absurd fixed
one_tree trees part a b (Some z) fixed = refl

one_field_pairs : (trees : List SszType) (part : Part) (a : ℕ) (b : List ℕ) (size : Option ℕ)
    → AreFixed (size ∷ []) → pairs_in trees (part ∷ []) (pieces (size ∷ []) a b)
    ≡ pairs (type_tree_at trees part.1) (value_in (type_tree_at trees part.1) (part_at size a b))
one_field_pairs trees part a b None fixed = absurd fixed
one_field_pairs trees part a b (Some z) fixed = omega arith

one_faultless : (trees : List SszType) (part : Part) (a : ℕ) (b : List ℕ) (size : Option ℕ)
    → AreFixed (size ∷ [])
    → AreFaultless (fields_over trees (part ∷ [])) (pieces (size ∷ []) a b)
    → first_fault (type_tree_at trees part.1) 0 (part_at size a b) ≡ None
one_faultless trees part a b None fixed good = absurd fixed
one_faultless trees part a b (Some z) fixed good = good.0

pub record IsOneField (pair_of : List ℕ → List ℕ → List ℕ) (trees : List SszType)
    (parts : List Part) (part : Part) (d a : ℕ) (b : List ℕ) : Type 0 where
  pub one_root : root pair_of
      (tree (type_tree_at trees part.1) (value_in (type_tree_at trees part.1)
      (part_at (size_at trees part) a b)))
      ≡ root pair_of (merkle_tree d (trees_in trees parts (pieces (sizes_of trees parts) a b)))
  pub one_pairs : pairs (type_tree_at trees part.1) (value_in (type_tree_at trees part.1)
      (part_at (size_at trees part) a b))
      ≡ merkle_pairs d (length parts) + pairs_in trees parts (pieces (sizes_of trees parts) a b)
  pub heads : heads_length (replicate 1 (size_at trees part)) ≡ heads_length (sizes_of trees parts)
  pub faultless : AreFaultless (fields_over trees parts) (pieces (sizes_of trees parts) a b)
      → first_fault (type_tree_at trees part.1) 0 (part_at (size_at trees part) a b) ≡ None
  pub fixed : AreFixed (replicate 1 (size_at trees part))

pub one_field : (pair_of : List ℕ → List ℕ → List ℕ) (trees : List SszType) (parts : List Part)
    (part : Part) (d a : ℕ) (b : List ℕ) → d ≡ 0 → length parts ≡ 1 → part ≡ get_or parts 0 part
    → AreFixed (sizes_of trees parts) → IsOneField pair_of trees parts part d a b
unfolding merkle_pairs
one_field pair_of trees parts part d a b flat one is fixed =
    subst (λ k. IsOneField pair_of trees parts part k a b) (sym flat)
    (subst (λ ps. AreFixed (sizes_of trees ps) → IsOneField pair_of trees ps part 0 a b)
    (sym (one_item parts part one is)) (λ only. record {
      one_root = sym (ap (λ ts. root pair_of (merkle_tree 0 ts))
          (one_tree trees part a b (size_at trees part) only)
          ∙ ap (root pair_of) (full-zero _));
      one_pairs = omega (arith, one_field_pairs trees part a b (size_at trees part) only);
      heads = refl;
      faultless = one_faultless trees part a b (size_at trees part) only;
      fixed = only;
    }) fixed)

pub known-front : (count : ℕ) (parts : List Part) (i : ℕ)
    → AllByRecursion (λ (p : Part). p.1 < count) parts
    → AllByRecursion (λ (p : Part). p.1 < count) (take i parts)
known-front count parts zero all = tt
known-front count [] (suc i) all = tt
known-front count (p ∷ parts) (suc i) all = (all.0, known-front count parts i all.1)

pub known-behind : (count : ℕ) (parts : List Part) (i : ℕ)
    → AllByRecursion (λ (p : Part). p.1 < count) parts
    → AllByRecursion (λ (p : Part). p.1 < count) (behind i parts)
known-behind count parts i all =
    subst (AllByRecursion (λ (p : Part). p.1 < count)) (sym (take_rest parts i))
    (known_from count parts i all)

pub length-behind : (half : ℕ) (parts : List Part)
    → length (behind half parts) ≡ length parts - half
length-behind half parts = ap length (take_rest parts half) ∙ length-drop half parts
