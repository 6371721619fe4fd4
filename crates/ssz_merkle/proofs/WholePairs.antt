-- The pairs that are hashed by each push, and at the end.
use Rattle.std.proofs.Common.{◌≡◌, ℕ, zero, suc, ◌+◌, ◌-◌, ◌*◌, ◌/◌, ◌%◌, ◌^◌, ◌<◌, ◌≤◌, min, refl, sym, ap, ◌∙◌, subst, ⊎_elim, add-zero, arith}
use Rattle.std.specs.List.{sum_by, range_with_len}
use Rattle.std.proofs.Math.Nat.{div-eq_of_lt}
use Rattle.std.proofs.Math.Pow.{shr_mono}
use Rattle.std.proofs.lemmas.Bool.{cases_lt}
use Rattle.std.proofs.lemmas.List.{map-id}
use Rattle.std.proofs.lemmas.List.FromFn.{sum_by-map-range_with_len_more}
use Rattle.std.proofs.lemmas.Nat.{pow_pos, pow-add}
use Rattle.ssz_chunk.specs.Chunk.{CountsUp}
use Rattle.ssz_chunk.specs.Tree.{merkle_pairs}
use Rattle.ssz_chunk.proofs.Counting.{CountsUp-none, CountsUp-add}
use Rattle.ssz_chunk.proofs.Growing.{grow-zero}
use Rattle.ssz_merkle.specs.Frontier.{whole_pairs, push_pairs}
use Rattle.ssz_merkle.specs.Laws.{LawOfCounts}
use Rattle.ssz_merkle.proofs.RowsBehind.{multiple, row-above}
use Rattle.ssz_merkle.proofs.Binary.{IsFollowed, div_at, shr-above, shr-below}

-- one more chunk makes a pair on each level up to its last zeros
pub whole_pairs-next : (d last low q : ℕ) → IsFollowed last low q → whole_pairs d (last + 1)
    ≡ whole_pairs d last + min d low
unfolding whole_pairs
whole_pairs-next zero last low q is = omega arith
whole_pairs-next (suc d) last low q is = ⊎_elim
    (λ (above : low < suc d). omega (
      arith,
      whole_pairs-next d last low q is,
      shr-above last low q (suc d) is above,
    ))
    (λ (below : suc d ≤ low).
    let pair : ((last + 1) / 2 ^ suc d ≡ (2 * q + 1) * 2 ^ (low - suc d))
    × (last / 2 ^ suc d + 1 ≡ (2 * q + 1) * 2 ^ (low - suc d)) =
    shr-below last low q (suc d) is below in
    omega (arith, whole_pairs-next d last low q is, pair.0, pair.1))
    (cases_lt low (suc d))

-- above some chunks stands, on each level past their number's last zeros, one pair that is not
-- whole
grow-whole_pairs : (d last low q : ℕ) → IsFollowed last low q → merkle_pairs d (last + 1)
    ≡ whole_pairs d (last + 1) + (d - low)
unfolding merkle_pairs whole_pairs
grow-whole_pairs zero last low q is = omega arith
grow-whole_pairs (suc d) last low q is = ⊎_elim
    (λ (above : low < suc d).
    let same : (last + 1) / 2 ^ suc d ≡ last / 2 ^ suc d = shr-above last low q (suc d) is above in
    let rest : 0 < (last + 1) % 2 ^ suc d = some_rest last (2 ^ suc d) (pow_pos (suc d)) same in
    omega (arith, grow-whole_pairs d last low q is, rest))
    (λ (below : suc d ≤ low).
    let pair : ((last + 1) / 2 ^ suc d ≡ (2 * q + 1) * 2 ^ (low - suc d))
    × (last / 2 ^ suc d + 1 ≡ (2 * q + 1) * 2 ^ (low - suc d)) =
    shr-below last low q (suc d) is below in
    let none : (last + 1) % 2 ^ suc d ≡ 0 = no_rest last (2 ^ suc d) (pow_pos (suc d))
    (omega (arith, pair.0, pair.1)) in
    omega (arith, grow-whole_pairs d last low q is, none))
    (cases_lt low (suc d))
  where
    some_rest : (n m : ℕ) → 0 < m → (n + 1) / m ≡ n / m → 0 < (n + 1) % m
    some_rest n m positive same = parts ((n + 1) % m) ((n + 1) / m * m) (n / m * m) n
        (ap (λ a. a * m) same) (omega arith) (omega arith)
      where
        parts : (r a b n : ℕ) → a ≡ b → n + 1 ≡ a + r → b ≤ n → 0 < r
        parts r a b n same is least = omega arith

    no_rest : (n m : ℕ) → 0 < m → (n + 1) / m ≡ n / m + 1 → (n + 1) % m ≡ 0
    no_rest n m positive next = parts ((n + 1) % m) ((n + 1) / m * m) (n / m) m n
        (ap (λ a. a * m) next) (omega arith) (omega arith)
      where
        parts : (r a b m n : ℕ) → a ≡ (b + 1) * m → n + 1 ≡ a + r → n < b * m + m → r ≡ 0
        parts r a b m n same is most = omega arith

-- the pairs that are made at the end
pub CountsUp-finish : (depth last low q old new : ℕ) → IsFollowed last low q
    → CountsUp (depth - low) old new
    → CountsUp (merkle_pairs depth (last + 1) - whole_pairs depth (last + 1)) old new
CountsUp-finish depth last low q old new is counted =
    let made : depth - low ≡ merkle_pairs depth (last + 1) - whole_pairs depth (last + 1) =
    omega (arith, grow-whole_pairs depth last low q is) in
    subst (λ n. CountsUp n old new) made counted

-- one pair for each level from the lowest on
pub CountsUp-level : (low level first now end : ℕ) → low ≤ level → CountsUp (level - low) first now
    → CountsUp 1 now end → CountsUp (level + 1 - low) first end
CountsUp-level low level first now end above before pair =
    let sum : level - low + 1 ≡ level + 1 - low = omega arith in
    subst (λ n. CountsUp n first end) sum (CountsUp-add _ _ first now end before pair)

-- nothing is hashed where nothing was pushed
pub CountsUp-empty : (depth pushed count : ℕ) → pushed ≡ 0
    → CountsUp (merkle_pairs depth pushed - whole_pairs depth pushed) count count
CountsUp-empty depth pushed count none =
    let no_pair : 0 ≡ merkle_pairs depth pushed - whole_pairs depth pushed =
    omega (arith, ap (merkle_pairs depth) none, grow-zero depth) in
    subst (λ n. CountsUp n count count) no_pair (CountsUp-none count)

-- nothing is whole before the first push
pub whole_pairs-zero : (d : ℕ) → whole_pairs d 0 ≡ 0
unfolding whole_pairs
whole_pairs-zero zero = refl
whole_pairs-zero (suc d) = omega (arith, whole_pairs-zero d, div-eq_of_lt (pow_pos (suc d)))

-- a push makes as many pairs as it adds whole ones
pub whole_pairs-rises : (d n : ℕ) → whole_pairs d n ≤ whole_pairs d (n + 1)
unfolding whole_pairs
whole_pairs-rises zero n = omega arith
whole_pairs-rises (suc d) n = omega (
  arith,
  whole_pairs-rises d n,
  shr_mono (suc d) (let more : n ≤ n + 1 = omega arith in more),
)

-- the whole pairs are among all
pub whole_pairs-le-grow : (d n : ℕ) → whole_pairs d n ≤ merkle_pairs d n
unfolding whole_pairs merkle_pairs
whole_pairs-le-grow zero n = omega arith
whole_pairs-le-grow (suc d) n = omega (arith, whole_pairs-le-grow d n)

-- what n pushes make is what is whole after them
sum_pushes : (d n : ℕ) → sum_by (push_pairs d) (range_with_len 0 n) ≡ whole_pairs d n
sum_pushes d zero = sym (whole_pairs-zero d)
sum_pushes d (suc n) =
    let more : _ = sum_by-map-range_with_len_more (push_pairs d) (λ (x : ℕ). x) 0 n n
    (omega arith) in
    let one : suc n ≡ n + 1 = omega arith in
    ap (λ k. sum_by (push_pairs d) (range_with_len 0 k)) one
    ∙ sym (ap (sum_by (push_pairs d)) (map-id (range_with_len 0 (n + 1)))) ∙ more
    ∙ ap (λ xs. sum_by (push_pairs d) xs + push_pairs d n) (map-id (range_with_len 0 n))
    ∙ last (sum_by (push_pairs d) (range_with_len 0 n)) (whole_pairs d n) (whole_pairs d (n + 1))
    (sum_pushes d n) (whole_pairs-rises d n)
    ∙ ap (whole_pairs d) (sym one)
  where
    last : (sum a b : ℕ) → sum ≡ a → a ≤ b → sum + (b - a) ≡ b
    last sum a b is more = omega arith

pub law_of_counts : LawOfCounts
law_of_counts d n = record {
  none = whole_pairs-zero d;
  rises = whole_pairs-rises d n;
  within = whole_pairs-le-grow d n;
  all = omega (arith, sum_pushes d n, whole_pairs-le-grow d n);
}

-- a row of 2 ^ k chunks behind a multiple of as many makes on each level up to its own the pairs of
-- the row
row_inside : (n k j : ℕ) → n % 2 ^ k ≡ 0 → j ≤ k
    → (n + (2 ^ k - 1)) / 2 ^ j + 1 ≡ n / 2 ^ j + 2 ^ (k - j)
row_inside n k j whole below =
    let p : ℕ = 2 ^ j in
    let c : ℕ = 2 ^ (k - j) in
    let a : ℕ = n / 2 ^ k in
    let width : 2 ^ k ≡ c * p =
    ap (λ i. 2 ^ i) (let sum : k ≡ k - j + j = omega arith in sum) ∙ pow-add 2 (k - j) j in
    let first : n ≡ a * c * p = multiple n (2 ^ k) (pow_pos k) whole ∙ ap (λ w. a * w) width
    ∙ regroup a c p in
    let last : n + (2 ^ k - 1) ≡ (a * c + c - 1) * p + (p - 1) =
    ap (λ w. n + (w - 1)) width ∙ past n (a * c) c p (pow_pos j) (pow_pos (k - j)) first in
    let here : n / p ≡ a * c =
    div_at n (a * c) p 0 (first ∙ sym (add-zero (a * c * p))) (pow_pos j) in
    let there : (n + (2 ^ k - 1)) / p ≡ a * c + c - 1 =
    div_at (n + (2 ^ k - 1)) (a * c + c - 1) p (p - 1) last (omega (arith, pow_pos j)) in
    omega (arith, here, there, pow_pos (k - j))
  where
    regroup : (a c p : ℕ) → a * (c * p) ≡ a * c * p
    regroup a c p = omega arith

    past : (n b c p : ℕ) → 0 < p → 0 < c → n ≡ b * p → n + (c * p - 1) ≡ (b + c - 1) * p + (p - 1)
    past n b zero p some more is = absurd (omega arith)
    past n b (suc c) p some more is =
        let same : b + suc c - 1 ≡ b + c = omega arith in
        rw same (omega arith)

-- all of them but the pairs that its last chunk makes
row_pairs : (d n k : ℕ) → n % 2 ^ k ≡ 0
    → whole_pairs d (n + (2 ^ k - 1)) + 2 ^ (k - min d k) + min d k ≡ whole_pairs d n + 2 ^ k
unfolding whole_pairs
row_pairs zero n k whole =
    let all : k - min 0 k ≡ k = omega arith in
    omega (arith, ap (λ i. 2 ^ i) all)
row_pairs (suc d) n k whole = ⊎_elim
    (λ (above : k < suc d).
    let same : (n + (2 ^ k - 1)) / 2 ^ suc d ≡ n / 2 ^ suc d =
    row-above n k (suc d) whole (omega arith) in
    let here : min (suc d) k ≡ k = omega arith in
    let there : min d k ≡ k = omega arith in
    rw here (omega (arith, rw there at (row_pairs d n k whole), same)))
    (λ (below : suc d ≤ k).
    let more : (n + (2 ^ k - 1)) / 2 ^ suc d + 1 ≡ n / 2 ^ suc d + 2 ^ (k - suc d) =
    row_inside n k (suc d) whole below in
    let here : min (suc d) k ≡ suc d = omega arith in
    let there : min d k ≡ d = omega arith in
    let width : k - d ≡ suc (k - suc d) = omega arith in
    let twice : 2 ^ (k - d) ≡ 2 * 2 ^ (k - suc d) =
    ap (λ i. 2 ^ i) width
    ∙ (let double : 2 ^ suc (k - suc d) ≡ 2 * 2 ^ (k - suc d) = omega arith in double) in
    rw here (omega (arith, rw there at (row_pairs d n k whole), more, twice)))
    (cases_lt k (suc d))

-- the pairs of a row, and those of its last chunk above it
pub CountsUp-row : (depth n k last low q start middle end : ℕ) → n % 2 ^ k ≡ 0 → k ≤ depth
    → last ≡ n + (2 ^ k - 1) → IsFollowed last low q → k ≤ low → low ≤ depth
    → CountsUp (2 ^ k - 1) start middle
    → CountsUp (push_pairs depth last - k) middle end
    → CountsUp (whole_pairs depth (n + 2 ^ k) - whole_pairs depth n) start end
CountsUp-row depth n k last low q start middle end whole fits is_last is reached within row above =
    let next : n + 2 ^ k ≡ last + 1 = omega (arith, is_last, pow_pos k) in
    let top : whole_pairs depth (last + 1) ≡ whole_pairs depth last + min depth low =
    whole_pairs-next depth last low q is in
    let inside : whole_pairs depth last + 2 ^ (k - min depth k) + min depth k
    ≡ whole_pairs depth n + 2 ^ k =
    ap (λ x. whole_pairs depth x + 2 ^ (k - min depth k) + min depth k) is_last
    ∙ row_pairs depth n k whole in
    let narrow : min depth k ≡ k = omega arith in
    let one : 2 ^ (k - min depth k) ≡ 1 =
    ap (λ i. 2 ^ i) (let none : k - min depth k ≡ 0 = omega arith in none) in
    let sum : 2 ^ k - 1 + (push_pairs depth last - k)
    ≡ whole_pairs depth (n + 2 ^ k) - whole_pairs depth n =
    ap_sum next (omega (arith, top, inside, one, narrow, pow_pos k)) in
    subst (λ x. CountsUp x start end) sum (CountsUp-add _ _ start middle end row above)
  where
    ap_sum : n + 2 ^ k ≡ last + 1
        → 2 ^ k - 1 + (push_pairs depth last - k)
        ≡ whole_pairs depth (last + 1) - whole_pairs depth n
        → 2 ^ k - 1 + (push_pairs depth last - k)
        ≡ whole_pairs depth (n + 2 ^ k) - whole_pairs depth n
    ap_sum next is = is ∙ ap (λ x. whole_pairs depth x - whole_pairs depth n) (sym next)
