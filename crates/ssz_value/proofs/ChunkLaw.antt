-- Chunks and full trees tell what they are made of.
use Rattle.std.proofs.Common.{ℕ, zero, suc, ◌+◌, ◌-◌, ◌*◌, ◌/◌, ◌^◌, ◌≤◌, ◌≡◌, inl, inr, List, [], ◌∷◌, ◌++◌, length, take, drop, map, refl, sym, ap, ap₂, ◌∙◌, arith, length-take, length-drop, take-append-drop, take_at, take_all}
use Rattle.std.proofs.lemmas.List.{take-take, take-append-le, length-take-le}
use Rattle.std.proofs.lemmas.Bool.{cases_lt}
use Rattle.ssz_chunk.specs.Chunk.{zero_chunk}
use Rattle.ssz_chunk.specs.Tree.{Tree, leaf, pair, merkle_tree}
use Rattle.ssz_value.specs.Trees.{padded, chunks, pack}

pub same_leaf : (a b : List ℕ) → leaf a ≡ leaf b → a ≡ b
same_leaf a b e = cc

pub same_left : (a b c d : Tree) → pair a b ≡ pair c d → a ≡ c
same_left a b c d e = cc

pub same_right : (a b c d : Tree) → pair a b ≡ pair c d → b ≡ d
same_right a b c d e = cc

-- a full tree tells its leaves
half_length : (n : ℕ) (xs : List Tree) → length (drop n xs) ≡ length xs - n
half_length n xs = length-drop n xs

pub same_full : (d : ℕ) (xs ys : List Tree) → length xs ≡ length ys → length xs ≤ 2 ^ d
    → merkle_tree d xs ≡ merkle_tree d ys → xs ≡ ys
unfolding merkle_tree
same_full zero [] [] e few h = refl
same_full zero [] (y ∷ ys) e few h = absurd (omega arith)
same_full zero (x ∷ xs) [] e few h = absurd (omega arith)
same_full zero (x ∷ []) (y ∷ []) e few h = ap (λ t. t ∷ []) h
same_full zero (x ∷ []) (y ∷ z ∷ ys) e few h = absurd (omega arith)
same_full zero (x ∷ z ∷ xs) (y ∷ ys) e few h = absurd (omega arith)
same_full (suc d) xs ys e few h =
    let low = same_full d (take (2 ^ d) xs) (take (2 ^ d) ys)
    (omega (arith, length-take (2 ^ d) xs, length-take (2 ^ d) ys))
    (omega (arith, length-take (2 ^ d) xs)) (same_left _ _ _ _ h) in
    let high = same_full d (drop (2 ^ d) xs) (drop (2 ^ d) ys)
    (omega (arith, length-drop (2 ^ d) xs, length-drop (2 ^ d) ys))
    (omega (arith, length-drop (2 ^ d) xs)) (same_right _ _ _ _ h) in
    sym (take-append-drop (2 ^ d) xs) ∙ ap₂ ◌++◌ low high ∙ take-append-drop (2 ^ d) ys

-- chunks tell the bytes, where it is known how many there are
pub same_padded : (a b : List ℕ) → length a ≡ length b → length a ≤ 32 → padded a ≡ padded b → a ≡ b
same_padded a b e few h = sym (unpad a few) ∙ ap₂ take e h ∙ unpad b (omega arith)
  where
    unpad : (a : List ℕ) → length a ≤ 32 → take (length a) (padded a) ≡ a
    unpad a few = take-take (length a) 32 (a ++ zero_chunk) few
        ∙ take_at a zero_chunk (length a) refl

padded-take : (a : List ℕ) → padded (take 32 a) ≡ padded a
padded-take a = elim (cases_lt (length a) 32) [
  | inl less ↦ ap padded (take_all 32 a (omega arith))
  | inr more ↦ take_at (take 32 a) zero_chunk 32 (length-take-le 32 a more)
      ∙ sym (take-append-le 32 a zero_chunk more)
]

same_chunks : (count : ℕ) (a b : List ℕ) → length a ≡ length b → length a ≤ 32 * count
    → chunks count a ≡ chunks count b → a ≡ b
same_chunks zero [] [] e few h = refl
same_chunks zero [] (y ∷ b) e few h = absurd (omega arith)
same_chunks zero (x ∷ a) b e few h = absurd (omega arith)
same_chunks (suc count) a b e few h =
    let first : padded a ≡ padded b = cc in
    let others : chunks count (drop 32 a) ≡ chunks count (drop 32 b) = cc in
    let low = same_padded (take 32 a) (take 32 b)
    (omega (arith, length-take 32 a, length-take 32 b)) (omega (arith, length-take 32 a))
    (padded-take a ∙ first ∙ sym (padded-take b)) in
    let high = same_chunks count (drop 32 a) (drop 32 b)
    (omega (arith, length-drop 32 a, length-drop 32 b))
    (omega (arith, length-drop 32 a)) others in
    sym (take-append-drop 32 a) ∙ ap₂ ◌++◌ low high ∙ take-append-drop 32 b

pub same_pack : (a b : List ℕ) → length a ≡ length b → pack a ≡ pack b → a ≡ b
same_pack a b e h = same_chunks ((length a + 31) / 32) a b e (omega arith) (h
    ∙ ap (λ n. chunks ((n + 31) / 32) b) (sym e))

pub same_leaves : (xs ys : List (List ℕ)) → map leaf xs ≡ map leaf ys → xs ≡ ys
same_leaves [] [] e = refl
same_leaves [] (y ∷ ys) e = cc
same_leaves (x ∷ xs) [] e = cc
same_leaves (x ∷ xs) (y ∷ ys) e =
    let first : leaf x ≡ leaf y = cc in
    let others : map leaf xs ≡ map leaf ys = cc in
    ap₂ ◌∷◌ (same_leaf x y first) (same_leaves xs ys others)

pub length-chunks : (count : ℕ) (a : List ℕ) → length (chunks count a) ≡ count
length-chunks zero a = refl
length-chunks (suc count) a = ap suc (length-chunks count (drop 32 a))
