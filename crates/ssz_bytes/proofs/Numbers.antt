-- Bytes and number determine each other.
use Rattle.std.proofs.Common.{ℕ, zero, suc, ◌+◌, ◌*◌, ◌/◌, ◌%◌, ◌^◌, ◌<◌, ◌≡◌, List, [], ◌∷◌, length, take, drop, refl, ap, ap₂, ◌∙◌, subst, arith, pow-suc}
use Rattle.std.proofs.lemmas.List.{get_or-drop}
use Rattle.ssz_bytes.specs.Bytes.{IsBytes, le_bytes, le_number}

pub length-le_bytes : (count n : ℕ) → length (le_bytes count n) ≡ count
length-le_bytes zero n = refl
length-le_bytes (suc count) n = ap suc (length-le_bytes count (n / 256))

-- the number of a number's bytes
pub le_number-le_bytes : (count n : ℕ) → n < 256 ^ count → le_number (le_bytes count n) ≡ n
le_number-le_bytes zero n h = omega arith
le_number-le_bytes (suc count) n h =
    let rest : n / 256 < 256 ^ count = omega arith in
    let same : le_number (le_bytes count (n / 256)) ≡ n / 256 =
    le_number-le_bytes count (n / 256) rest in
    omega (arith, same)

-- the bytes of the number of bytes
pub le_bytes-le_number : (bytes : List ℕ) → IsBytes bytes
    → le_bytes (length bytes) (le_number bytes) ≡ bytes
le_bytes-le_number [] h = refl
le_bytes-le_number (b ∷ bytes) h =
    let low : b < 256 = h zero in
    let first : (b + 256 * le_number bytes) % 256 ≡ b = omega arith in
    let rest : (b + 256 * le_number bytes) / 256 ≡ le_number bytes = omega arith in
    ap₂ ◌∷◌ first (ap (le_bytes (length bytes)) rest ∙ le_bytes-le_number bytes (λ i. h (suc i)))

pub le_bytes_of : (count : ℕ) (bytes : List ℕ) → IsBytes bytes → length bytes ≡ count
    → le_bytes count (le_number bytes) ≡ bytes
le_bytes_of count bytes h e = subst (λ k. le_bytes k (le_number bytes) ≡ bytes) e
    (le_bytes-le_number bytes h)

pub le_number_lt : (bytes : List ℕ) → IsBytes bytes → le_number bytes < 256 ^ length bytes
le_number_lt [] h = omega arith
le_number_lt (b ∷ bytes) h =
    let low : b < 256 = h zero in
    let rest : le_number bytes < 256 ^ length bytes = le_number_lt bytes (λ i. h (suc i)) in
    omega (arith, pow-suc 256 (length bytes))

pub IsBytes-drop : (n : ℕ) (bytes : List ℕ) → IsBytes bytes → IsBytes (drop n bytes)
IsBytes-drop n bytes h = λ i. rw get_or-drop (h (n + i))

pub IsBytes-take : (n : ℕ) (bytes : List ℕ) → IsBytes bytes → IsBytes (take n bytes)
IsBytes-take zero bytes h = λ i. omega arith
IsBytes-take (suc n) [] h = h
IsBytes-take (suc n) (b ∷ bytes) h =
    elim [ zero ↦ h zero | suc i ↦ IsBytes-take n bytes (λ j. h (suc j)) i ]

pub IsBytes-le_bytes : (count n : ℕ) → IsBytes (le_bytes count n)
IsBytes-le_bytes zero n = λ i. omega arith
IsBytes-le_bytes (suc count) n =
    elim [ zero ↦ omega arith | suc i ↦ IsBytes-le_bytes count (n / 256) i ]
