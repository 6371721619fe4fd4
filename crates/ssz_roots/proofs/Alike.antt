-- Elements of one fixed size, cut in two.
use Rattle.std.proofs.Common.{◌≡◌, ℕ, suc, ◌+◌, ◌-◌, ◌*◌, ◌<◌, ◌≤◌, ◌^◌, min, List, [], ◌∷◌, ◌++◌, length, map, get_or, replicate, Option, Some, None, refl, sym, ap, ◌∙◌, subst, arith, option_map}
use Rattle.std.specs.List.{sum_by}
use Rattle.std.proofs.lemmas.List.{map-append, length-map, get_or_append_left, get_or-append-add, length-replicate}
use Rattle.std.proofs.lemmas.List.Sums.{sum_by-append}
use Rattle.ssz_chunk.specs.Tree.{Tree, root, merkle_tree, merkle_pairs}
use Rattle.ssz_chunk.proofs.Trees.{full-zero}
use Rattle.ssz_schema.specs.Types.{SszType}
use Rattle.ssz_value.specs.Encoding.{heads_length}
use Rattle.ssz_value.specs.Faults.{first_fault}
use Rattle.ssz_value.specs.Reading.{value_in}
use Rattle.ssz_value.specs.Trees.{tree}
use Rattle.ssz_value.specs.Pairs.{pairs}
use Rattle.ssz_value.proofs.Agree.{no_some, same_some}
use Rattle.ssz_parts.proofs.PartSizes.{heads_alike}
use Rattle.ssz_roots.specs.Eights.{pieces, AreFixed}
use Rattle.ssz_roots.proofs.Halves.{root-halves, grow-halves}
use Rattle.ssz_roots.proofs.Pieces.{pieces-append, length-pieces, fixed-front, fixed-back, fixed-alike, heads-append, replicate-append}
use Rattle.ssz_roots.proofs.Cutting.{part_at}

-- the trees of the values of these bytes, and their pairs
abbrev pub trees_of : SszType → List (List ℕ) → List Tree
trees_of t bytes = map (tree t) (map (value_in t) bytes)

abbrev pub pairs_of : SszType → List (List ℕ) → ℕ
pairs_of t bytes = sum_by (pairs t) (map (value_in t) bytes)

-- so many elements, and the others behind them, from a place on
pub record CutElements (size : Option ℕ) (n half a : ℕ) (b : List ℕ) : Type 0 where
  pub front_fixed : AreFixed (replicate half size)
  pub back_fixed : AreFixed (replicate (n - half) size)
  pub heads : heads_length (replicate n size)
      ≡ heads_length (replicate half size) + heads_length (replicate (n - half) size)
  pub bytes : pieces (replicate n size) a b ≡ pieces (replicate half size) a b
      ++ pieces (replicate (n - half) size) (a + heads_length (replicate half size)) b
  pub front_count : length (pieces (replicate half size) a b) ≡ half
  pub back_count : length (pieces (replicate (n - half) size)
      (a + heads_length (replicate half size)) b) ≡ n - half

pub cut_elements : (size : Option ℕ) (n half a : ℕ) (b : List ℕ) → half ≤ n
    → AreFixed (replicate n size) → CutElements size n half a b
cut_elements size n half a b within fixed =
    let all : half + (n - half) ≡ n = omega arith in
    let split : replicate n size ≡ replicate half size ++ replicate (n - half) size =
    ap (λ k. replicate k size) (sym all) ∙ replicate-append half (n - half) size in
    let both : AreFixed (replicate half size ++ replicate (n - half) size) =
    subst AreFixed split fixed in
    let one : AreFixed (replicate half size) =
    fixed-front (replicate half size) (replicate (n - half) size) both in
    let two : AreFixed (replicate (n - half) size) =
    fixed-back (replicate half size) (replicate (n - half) size) both in
    record {
      front_fixed = one;
      back_fixed = two;
      heads = ap heads_length split
          ∙ heads-append (replicate half size) (replicate (n - half) size);
      bytes = ap (λ sizes. pieces sizes a b) split
          ∙ pieces-append (replicate half size) (replicate (n - half) size) a b one;
      front_count = length-pieces (replicate half size) a b one
          ∙ length-replicate half size;
      back_count = length-pieces (replicate (n - half) size)
          (a + heads_length (replicate half size)) b two ∙ length-replicate (n - half) size;
    }

pub elements-halves : (pair_of : List ℕ → List ℕ → List ℕ) (t : SszType) (size : Option ℕ)
    (n d half a : ℕ) (b : List ℕ) (left right chunk : List ℕ) → half ≡ min (2 ^ d) n
    → AreFixed (replicate n size)
    → left ≡ root pair_of (merkle_tree d (trees_of t (pieces (replicate half size) a b)))
    → right ≡ root pair_of (merkle_tree d (trees_of t (pieces (replicate (n - half) size)
    (a + heads_length (replicate half size)) b)))
    → chunk ≡ pair_of left right
    → chunk ≡ root pair_of (merkle_tree (suc d) (trees_of t (pieces (replicate n size) a b)))
elements-halves pair_of t size n d half a b left right chunk middle fixed is_left is_right is =
    let made = cut_elements size n half a b (omega (arith, middle)) fixed in
    let front : List (List ℕ) = pieces (replicate half size) a b in
    let back : List (List ℕ) = pieces (replicate (n - half) size)
    (a + heads_length (replicate half size)) b in
    let count : (xs : List (List ℕ)) → length (trees_of t xs) ≡ length xs =
    λ xs. length-map (map (value_in t) xs) (tree t) ∙ length-map xs (value_in t) in
    let split : trees_of t (pieces (replicate n size) a b) ≡ trees_of t front ++ trees_of t back =
    ap (trees_of t) made.bytes ∙ ap (map (tree t)) (map-append (value_in t) front back)
    ∙ map-append (tree t) (map (value_in t) front) (map (value_in t) back) in
    root-halves pair_of d n (trees_of t front) (trees_of t back) left right chunk
    (count front ∙ made.front_count ∙ middle)
    (count back ∙ made.back_count ∙ ap (λ k. n - k) middle) is_left is_right is
    ∙ ap (λ ts. root pair_of (merkle_tree (suc d) ts)) (sym split)

pub elements-pairs : (t : SszType) (size : Option ℕ) (n d half a : ℕ) (b : List ℕ)
    → half ≡ min (2 ^ d) n → 0 < n → n ≤ 2 ^ suc d → AreFixed (replicate n size)
    → merkle_pairs (suc d) n + pairs_of t (pieces (replicate n size) a b)
    ≡ (merkle_pairs d half + pairs_of t (pieces (replicate half size) a b))
    + (merkle_pairs d (n - half) + pairs_of t (pieces (replicate (n - half) size)
    (a + heads_length (replicate half size)) b)) + 1
elements-pairs t size n d half a b middle some few fixed =
    let made = cut_elements size n half a b (omega (arith, middle)) fixed in
    let front : List (List ℕ) = pieces (replicate half size) a b in
    let back : List (List ℕ) = pieces (replicate (n - half) size)
    (a + heads_length (replicate half size)) b in
    let split : pairs_of t (pieces (replicate n size) a b) ≡ pairs_of t front + pairs_of t back =
    ap (pairs_of t) made.bytes ∙ ap (sum_by (pairs t)) (map-append (value_in t) front back)
    ∙ sum_by-append (pairs t) (map (value_in t) front) (map (value_in t) back) in
    let above : merkle_pairs (suc d) n ≡ 1 + merkle_pairs d half + merkle_pairs d (n - half) =
    grow-halves d n some few
    ∙ ap (λ k. 1 + merkle_pairs d k + merkle_pairs d (n - k)) (sym middle) in
    omega (arith, above, split)

-- no element has a fault
abbrev pub HaveNone : SszType → Option ℕ → ℕ → ℕ → List ℕ → Type 0
HaveNone t size n a b =
    (i : ℕ) → i < n → first_fault t 0 (get_or (pieces (replicate n size) a b) i [])
    ≡ None

pub none-front : (t : SszType) (size : Option ℕ) (n half a : ℕ) (b : List ℕ) → half ≤ n
    → AreFixed (replicate n size) → HaveNone t size n a b → HaveNone t size half a b
none-front t size n half a b within fixed good i below =
    let made = cut_elements size n half a b within fixed in
    let front : List (List ℕ) = pieces (replicate half size) a b in
    let back : List (List ℕ) = pieces (replicate (n - half) size)
    (a + heads_length (replicate half size)) b in
    ap (first_fault t 0) (sym (ap (λ xs. get_or xs i []) made.bytes
    ∙ get_or_append_left front back [] i (omega (arith, made.front_count))))
    ∙ good i (omega arith)

pub none-back : (t : SszType) (size : Option ℕ) (n half a : ℕ) (b : List ℕ) → half ≤ n
    → AreFixed (replicate n size) → HaveNone t size n a b
    → HaveNone t size (n - half) (a + heads_length (replicate half size)) b
none-back t size n half a b within fixed good i below =
    let made = cut_elements size n half a b within fixed in
    let front : List (List ℕ) = pieces (replicate half size) a b in
    let back : List (List ℕ) = pieces (replicate (n - half) size)
    (a + heads_length (replicate half size)) b in
    ap (first_fault t 0) (sym (ap (λ xs. get_or xs (half + i) []) made.bytes
    ∙ ap (λ k. get_or (front ++ back) (k + i) []) (sym made.front_count)
    ∙ get_or-append-add front back i []))
    ∙ good (half + i) (omega arith)

-- one element
one_value : (t : SszType) (size : Option ℕ) (a : ℕ) (b : List ℕ) → AreFixed (replicate 1 size)
    → pieces (replicate 1 size) a b ≡ part_at size a b ∷ []
one_value t None a b fixed = absurd fixed
one_value t (Some z) a b fixed = refl

pub one_element : (pair_of : List ℕ → List ℕ → List ℕ) (t : SszType) (size : Option ℕ)
    (n d a : ℕ) (b : List ℕ) → n ≡ 1 → d ≡ 0 → AreFixed (replicate n size)
    → root pair_of (tree t (value_in t (part_at size a b)))
    ≡ root pair_of (merkle_tree d (trees_of t (pieces (replicate n size) a b)))
one_element pair_of t size n d a b one flat fixed =
    let only : AreFixed (replicate 1 size) = subst (λ k. AreFixed (replicate k size)) one fixed in
    sym (ap (λ k. root pair_of (merkle_tree d (trees_of t (pieces (replicate k size) a b)))) one
    ∙ ap (λ k. root pair_of (merkle_tree k (trees_of t (pieces (replicate 1 size) a b)))) flat
    ∙ ap (λ xs. root pair_of (merkle_tree 0 (trees_of t xs))) (one_value t size a b only)
    ∙ ap (root pair_of) (full-zero (trees_of t (part_at size a b ∷ []))))

pub one_element_pairs : (t : SszType) (size : Option ℕ) (n d a : ℕ) (b : List ℕ) → n ≡ 1
    → d ≡ 0 → AreFixed (replicate n size) → pairs t (value_in t (part_at size a b))
    ≡ merkle_pairs d n + pairs_of t (pieces (replicate n size) a b)
unfolding merkle_pairs
one_element_pairs t size n d a b one flat fixed =
    let only : AreFixed (replicate 1 size) = subst (λ k. AreFixed (replicate k size)) one fixed in
    let sum : pairs_of t (part_at size a b ∷ []) ≡ pairs t (value_in t (part_at size a b)) =
    omega arith in
    let none : merkle_pairs d n ≡ 0 = ap (λ k. merkle_pairs k n) flat in
    let all : pairs_of t (pieces (replicate n size) a b)
    ≡ pairs_of t (part_at size a b ∷ []) =
    ap (λ k. pairs_of t (pieces (replicate k size) a b)) one
    ∙ ap (pairs_of t) (one_value t size a b only) in
    omega (arith, sum, none, all)

-- elements of a fixed-size type
pub fixed_elements : (n size : ℕ) (one : Option ℕ) → option_map (λ z. n * z) one ≡ Some size
    → AreFixed (replicate n one) × (heads_length (replicate n one) ≡ size)
fixed_elements n size None e = absurd (no_some size e)
fixed_elements n size (Some z) e =
    (fixed-alike n z, heads_alike n (Some z) ∙ same_some (n * z) size e)
