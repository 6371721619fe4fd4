-- Lists of a few numbers, and what holds of each of a few.
use Rattle.std.proofs.Common.{◌≡◌, ℕ, zero, suc, ◌<◌, List, [], ◌∷◌, ◌++◌, length, map, get_or, slice_index, refl, ap, arith}

-- the first n values of a function, as a list
abbrev pub values_of : ℕ → (ℕ → ℕ) → List ℕ
values_of zero f = []
values_of (suc n) f = f 0 ∷ values_of n (λ k. f (suc k))

pub values-at : (n : ℕ) (f : ℕ → ℕ) (k : ℕ) → k < n → slice_index (values_of n f) k ≡ f k
values-at zero f k lt = absurd (omega arith)
values-at (suc n) f zero lt = refl
values-at (suc n) f (suc k) lt = values-at n (λ k. f (suc k)) k (omega arith)

-- a list is what stands at each of its places
pub all-values : (n : ℕ) (xs : List ℕ) → length xs ≡ n → xs ≡ values_of n (slice_index xs)
all-values zero [] long = refl
all-values zero (x ∷ xs) long = absurd (omega arith)
all-values (suc n) [] long = absurd (omega arith)
all-values (suc n) (x ∷ xs) long = ap (λ l. x ∷ l) (all-values n xs (omega arith))

-- lanes of two vectors, by the words of the first
pub shuffled : (x y ks : List ℕ) → length x ≡ 8
    → map (λ k. get_or (x ++ y) k 0) ks
    ≡ map (λ k. get_or (values_of 8 (slice_index x) ++ y) k 0) ks
shuffled x y ks long = ap (λ l. map (λ k. get_or (l ++ y) k 0) ks) (all-values 8 x long)

-- what holds of each number below four
pub by_four : (P : ℕ → Type 0) → P 0 → P 1 → P 2 → P 3 → (j : ℕ) → j < 4 → P j
by_four P p0 p1 p2 p3 zero lt = p0
by_four P p0 p1 p2 p3 (suc zero) lt = p1
by_four P p0 p1 p2 p3 (suc (suc zero)) lt = p2
by_four P p0 p1 p2 p3 (suc (suc (suc zero))) lt = p3
by_four P p0 p1 p2 p3 (suc (suc (suc (suc j)))) lt = absurd (omega arith)

-- what holds of each number below eight
pub by_eight : (P : ℕ → Type 0) → P 0 → P 1 → P 2 → P 3 → P 4 → P 5 → P 6 → P 7
    → (j : ℕ) → j < 8 → P j
by_eight P p0 p1 p2 p3 p4 p5 p6 p7 zero lt = p0
by_eight P p0 p1 p2 p3 p4 p5 p6 p7 (suc zero) lt = p1
by_eight P p0 p1 p2 p3 p4 p5 p6 p7 (suc (suc zero)) lt = p2
by_eight P p0 p1 p2 p3 p4 p5 p6 p7 (suc (suc (suc zero))) lt = p3
by_eight P p0 p1 p2 p3 p4 p5 p6 p7 (suc (suc (suc (suc zero)))) lt = p4
by_eight P p0 p1 p2 p3 p4 p5 p6 p7 (suc (suc (suc (suc (suc zero))))) lt = p5
by_eight P p0 p1 p2 p3 p4 p5 p6 p7 (suc (suc (suc (suc (suc (suc zero)))))) lt = p6
by_eight P p0 p1 p2 p3 p4 p5 p6 p7 (suc (suc (suc (suc (suc (suc (suc zero))))))) lt = p7
by_eight P p0 p1 p2 p3 p4 p5 p6 p7 (suc (suc (suc (suc (suc (suc (suc (suc j)))))))) lt =
    absurd (omega arith)
