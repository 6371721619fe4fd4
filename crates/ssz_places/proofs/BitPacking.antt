-- Laws of packed bits: what stands at each bit of their chunks.
use Rattle.std.proofs.Common.{◌≡◌, ◌≢◌, ℕ, zero, suc, ◌+◌, ◌-◌, ◌*◌, ◌/◌, ◌%◌, ◌^◌, ◌<◌, ◌≤◌, Bool, true, false, List, [], ◌∷◌, length, get_or, take, drop, set, refl, sym, ap, ap₂, ◌∙◌, arith, length-set, get_or-set_same, get_or-set_other, inl, inr}
use Rattle.std.proofs.Math.Nat.{pow-suc, mul-le-mul_right}
use Rattle.std.proofs.lemmas.Bool.{cases_lt, cases_eq}
use Rattle.std.proofs.lemmas.List.{get_or-take, get_or-drop, get_or_past, length-take, length-drop, drop-drop}
use Rattle.std.proofs.lemmas.Nat.{shr-shr, pow_pos}
use Rattle.ssz_bytes.specs.Bytes.{le_bytes, bit_value, number_of_bits}
use Rattle.ssz_value.specs.Trees.{padded}
use Rattle.ssz_places.specs.Spots.{with_bit, bit_written}
use Rattle.ssz_places.proofs.Packing.{length-padded, get_or-padded, same_padded, SameBut}

pub length-le_bytes : (count n : ℕ) → length (le_bytes count n) ≡ count
length-le_bytes zero n = refl
length-le_bytes (suc count) n = ap suc (length-le_bytes count (n / 256))

bit_value-lt : (b : Bool) → bit_value b < 2
bit_value-lt true = omega arith
bit_value-lt false = omega arith

-- a number's lowest bit and the others
lowest : (bs : List Bool) → number_of_bits bs ≡ bit_value (get_or bs 0 false) + 2 * number_of_bits
    (drop 1 bs)
lowest [] = refl
lowest (b ∷ bs) = refl

none_set : (bs : List Bool) → ((k : ℕ) → get_or bs k false ≡ false) → number_of_bits bs ≡ 0
none_set [] h = refl
none_set (b ∷ bs) h = omega (arith, ap bit_value (h 0), none_set bs (λ k. h (suc k)))

-- a number is known by its bits
same_number : (xs ys : List Bool) → ((k : ℕ) → get_or ys k false ≡ get_or xs k false)
    → number_of_bits ys ≡ number_of_bits xs
same_number [] ys h = none_set ys h
same_number (x ∷ xs) [] h = sym (none_set (x ∷ xs) (λ k. sym (h k)))
same_number (x ∷ xs) (y ∷ ys) h =
    ap₂ (λ b n. bit_value b + 2 * n) (h 0) (same_number xs ys (λ k. h (suc k)))

get_or-rest : (bs : List Bool) (k : ℕ) → get_or (drop 1 bs) k false ≡ get_or bs (suc k) false
get_or-rest [] k = refl
get_or-rest (b ∷ bs) k = refl

-- the bit of this number
pub bit-number_of_bits : (q : ℕ) (bs : List Bool)
    → number_of_bits bs / 2 ^ q % 2 ≡ bit_value (get_or bs q false)
bit-number_of_bits zero bs = omega (arith, lowest bs, bit_value-lt (get_or bs 0 false))
bit-number_of_bits (suc q) bs =
    let rest : number_of_bits bs / 2 ^ 1 ≡ number_of_bits (drop 1 bs) =
    omega (arith, lowest bs, bit_value-lt (get_or bs 0 false)) in
    ap (λ n. number_of_bits bs / 2 ^ n % 2) (let e : suc q ≡ 1 + q = omega arith in e)
    ∙ ap (λ n. n % 2) (sym (shr-shr (number_of_bits bs) 1 q) ∙ ap (λ n. n / 2 ^ q) rest)
    ∙ bit-number_of_bits q (drop 1 bs) ∙ ap bit_value (get_or-rest bs q)

bit_within : (n p : ℕ) → n / p % 2 * p ≤ n
bit_within n p =
    let low : n / p % 2 ≤ n / p = omega arith in
    let high : n / p % 2 * p ≤ n / p * p = mul-le-mul_right p low in
    omega (arith, split n p)
  where
    split : (n p : ℕ) → n / p * p ≤ n
    split n p = omega arith

with_bit-suc : (b0 n q : ℕ) (b : Bool) → b0 < 2
    → with_bit (b0 + 2 * n) (suc q) b ≡ b0 + 2 * with_bit n q b
with_bit-suc b0 n q b small =
    let half : (b0 + 2 * n) / 2 ^ 1 ≡ n = omega arith in
    let shifted : (b0 + 2 * n) / 2 ^ suc q ≡ n / 2 ^ q =
    ap (λ k. (b0 + 2 * n) / 2 ^ k) (let e : suc q ≡ 1 + q = omega arith in e)
    ∙ sym (shr-shr (b0 + 2 * n) 1 q) ∙ ap (λ m. m / 2 ^ q) half in
    let within = bit_within n (2 ^ q) in
    ap (λ t. b0 + 2 * n - t % 2 * 2 ^ suc q + bit_value b * 2 ^ suc q) shifted
    ∙ ap (λ p. b0 + 2 * n - n / 2 ^ q % 2 * p + bit_value b * p) (pow-suc 2 q) ∙ omega arith

-- the number with one bit changed
number_changed : (q : ℕ) (xs ys : List Bool) → SameBut q false xs ys
    → number_of_bits ys ≡ with_bit (number_of_bits xs) q (get_or ys q false)
number_changed zero xs ys same =
    let rest : number_of_bits (drop 1 ys) ≡ number_of_bits (drop 1 xs) =
    same_number (drop 1 xs) (drop 1 ys)
    (λ k. get_or-rest ys k ∙ same (suc k) (λ e. omega arith) ∙ sym (get_or-rest xs k)) in
    omega (arith, lowest xs, lowest ys, rest, bit_value-lt (get_or xs 0 false))
number_changed (suc q) xs ys same =
    let rest : number_of_bits (drop 1 ys) ≡ with_bit (number_of_bits (drop 1 xs)) q
    (get_or (drop 1 ys) q false) =
    number_changed q (drop 1 xs) (drop 1 ys)
    (λ k other. get_or-rest ys k ∙ same (suc k) (λ e. other (omega arith))
    ∙ sym (get_or-rest xs k)) in
    let first : get_or ys 0 false ≡ get_or xs 0 false = same 0 (λ e. omega arith) in
    lowest ys ∙ ap₂ (λ b n. bit_value b + 2 * n) first rest
    ∙ sym (with_bit-suc (bit_value (get_or xs 0 false)) (number_of_bits (drop 1 xs)) q
    (get_or (drop 1 ys) q false) (bit_value-lt (get_or xs 0 false)))
    ∙ ap₂ (λ n b. with_bit n (suc q) b) (sym (lowest xs)) (get_or-rest ys q)

-- the bits of byte m
abbrev window : List Bool → ℕ → List Bool
window bs m = take 8 (drop (8 * m) bs)

in_window : (bs : List Bool) (m k : ℕ) → k < 8
    → get_or (window bs m) k false ≡ get_or bs (8 * m + k) false
in_window bs m k h = get_or-take 8 (drop (8 * m) bs) k false h ∙ get_or-drop (8 * m) bs k false

past_window : (bs : List Bool) (m k : ℕ) → 8 ≤ k → get_or (window bs m) k false ≡ false
past_window bs m k h =
    get_or_past (window bs m) k false (omega (arith, length-take 8 (drop (8 * m) bs)))

number-split : (bs : List Bool) (k : ℕ)
    → number_of_bits bs ≡ number_of_bits (take k bs) + 2 ^ k * number_of_bits (drop k bs)
number-split bs zero = omega arith
number-split [] (suc k) = omega arith
number-split (b ∷ bs) (suc k) =
    ap (λ n. bit_value b + 2 * n) (number-split bs k)
    ∙ ap (λ p. bit_value b + p) (grouped (number_of_bits (take k bs)) (2 ^ k)
    (number_of_bits (drop k bs)))
    ∙ ap (λ p. bit_value b + (2 * number_of_bits (take k bs) + p * number_of_bits (drop k bs)))
    (sym (pow-suc 2 k)) ∙ omega arith
  where
    grouped : (a p n : ℕ) → 2 * (a + p * n) ≡ 2 * a + p * 2 * n
    grouped a p n = omega arith

number-lt : (bs : List Bool) (k : ℕ) → number_of_bits (take k bs) < 2 ^ k
number-lt bs zero = omega arith
number-lt [] (suc k) = pow_pos (suc k)
number-lt (b ∷ bs) (suc k) = omega (arith, number-lt bs k, pow-suc 2 k, bit_value-lt b)

-- byte m of the bits
byte_at : (count m : ℕ) (bs : List Bool) → length bs ≤ 8 * count
    → get_or (le_bytes count (number_of_bits bs)) m 0 ≡ number_of_bits (window bs m)
byte_at zero m bs h =
    sym (none_set (window bs m) (λ k. get_or_past (window bs m) k false
    (omega (arith, length-take 8 (drop (8 * m) bs), length-drop (8 * m) bs))))
byte_at (suc count) zero bs h = omega (arith, number-split bs 8, number-lt bs 8)
byte_at (suc count) (suc m) bs h =
    let rest : number_of_bits bs / 256 ≡ number_of_bits (drop 8 bs) =
    omega (arith, number-split bs 8, number-lt bs 8) in
    ap (λ n. get_or (le_bytes count n) m 0) rest
    ∙ byte_at count m (drop 8 bs) (omega (arith, length-drop 8 bs))
    ∙ ap (λ ds. number_of_bits (take 8 ds))
    (drop-drop (8 * m) 8 bs ∙ ap (λ n. drop n bs) (let e : 8 + 8 * m ≡ 8 * suc m = omega arith in
    e))

-- the bytes of bits with no delimiter
abbrev pub bit_bytes : List Bool → List ℕ
bit_bytes bs = le_bytes ((length bs + 7) / 8) (number_of_bits bs)

-- a byte of a chunk of bits
chunk-byte : (bs : List Bool) (j k : ℕ)
    → get_or (drop (32 * j) (bit_bytes bs)) k 0 ≡ number_of_bits (window bs (32 * j + k))
chunk-byte bs j k =
    get_or-drop (32 * j) (bit_bytes bs) k 0
    ∙ byte_at ((length bs + 7) / 8) (32 * j + k) bs (omega arith)

-- Bits of which that of number i changes.
module _ (i : ℕ) (xs ys : List Bool) (same : SameBut i false xs ys) where
  other-byte : (m : ℕ) → m ≢ i / 8 → number_of_bits (window ys m) ≡ number_of_bits (window xs m)
  other-byte m other = same_number (window xs m) (window ys m) (λ k. elim (cases_lt k 8) [
    | inl lt ↦ in_window ys m k lt ∙ same (8 * m + k) (λ e. other (omega arith))
        ∙ sym (in_window xs m k lt)
    | inr ge ↦ past_window ys m k ge ∙ sym (past_window xs m k ge)
  ])

  changed-byte : number_of_bits (window ys (i / 8)) ≡ with_bit (number_of_bits (window xs (i / 8)))
      (i % 8) (get_or ys i false)
  changed-byte =
      number_changed (i % 8) (window xs (i / 8)) (window ys (i / 8))
      (λ k other. elim (cases_lt k 8) [
        | inl lt ↦ in_window ys (i / 8) k lt ∙ same (8 * (i / 8) + k) (λ e. other (omega arith))
            ∙ sym (in_window xs (i / 8) k lt)
        | inr ge ↦ past_window ys (i / 8) k ge ∙ sym (past_window xs (i / 8) k ge)
      ])
      ∙ ap (with_bit (number_of_bits (window xs (i / 8))) (i % 8))
      (in_window ys (i / 8) (i % 8) (omega arith)
      ∙ ap (λ n. get_or ys n false) (let e : 8 * (i / 8) + i % 8 ≡ i = omega arith in e))

  -- the other chunks stay
  pub other-bits : (j : ℕ) → j ≢ i / 256
      → padded (drop (32 * j) (bit_bytes ys)) ≡ padded (drop (32 * j) (bit_bytes xs))
  other-bits j other =
      same_padded (drop (32 * j) (bit_bytes ys)) (padded (drop (32 * j) (bit_bytes xs)))
      (length-padded (drop (32 * j) (bit_bytes xs)))
      (λ k below. chunk-byte ys j k ∙ other-byte (32 * j + k) (λ e. other (omega arith))
      ∙ sym (chunk-byte xs j k)
      ∙ sym (get_or-padded (drop (32 * j) (bit_bytes xs)) k below))

  abbrev old_bits : List ℕ
  old_bits = padded (drop (32 * (i / 256)) (bit_bytes xs))

  old-byte : (k : ℕ) → k < 32 → get_or old_bits k 0 ≡ number_of_bits (window xs
      (32 * (i / 256) + k))
  old-byte k below =
      get_or-padded (drop (32 * (i / 256)) (bit_bytes xs)) k below ∙ chunk-byte xs (i / 256) k

  -- the chunk in which the bit lies has it set or cleared
  pub bits-written : padded (drop (32 * (i / 256)) (bit_bytes ys)) ≡ bit_written old_bits (i % 256)
      (get_or ys i false)
  bits-written =
      let new : ℕ = with_bit (get_or old_bits (i % 256 / 8) 0) (i % 256 % 8) (get_or ys i false) in
      let long : length old_bits ≡ 32 = length-padded (drop (32 * (i / 256)) (bit_bytes xs)) in
      let here : 32 * (i / 256) + i % 256 / 8 ≡ i / 8 = omega arith in
      let low : i % 256 / 8 < 32 = omega arith in
      same_padded (drop (32 * (i / 256)) (bit_bytes ys))
      (bit_written old_bits (i % 256) (get_or ys i false))
      (length-set old_bits (i % 256 / 8) new ∙ long)
      (λ k below. chunk-byte ys (i / 256) k ∙ elim (cases_eq k (i % 256 / 8)) [
        | inl e ↦ ap (λ n. number_of_bits (window ys (32 * (i / 256) + n))) e
            ∙ ap (λ n. number_of_bits (window ys n)) here ∙ changed-byte
            ∙ ap₂ (λ n q. with_bit n q (get_or ys i false))
            (ap (λ n. number_of_bits (window xs n)) (sym here) ∙ sym (old-byte (i % 256 / 8) low))
            (let f : i % 8 ≡ i % 256 % 8 = omega arith in f)
            ∙ sym (get_or-set_same old_bits (i % 256 / 8) new 0 (omega arith))
            ∙ ap (λ n. get_or (set old_bits (i % 256 / 8) new) n 0) (sym e)
        | inr ne ↦ other-byte (32 * (i / 256) + k) (λ e. ne (omega arith)) ∙ sym (old-byte k below)
            ∙ sym (get_or-set_other old_bits (i % 256 / 8) k new 0 ne)
      ])

-- the bit as it stands in its chunk
pub bits-part : (i : ℕ) (bs : List Bool)
    → get_or (padded (drop (32 * (i / 256)) (bit_bytes bs)))
    (i % 256 / 8) 0 / 2 ^ (i % 256 % 8) % 2 ≡ bit_value (get_or bs i false)
bits-part i bs =
    let low : i % 256 / 8 < 32 = omega arith in
    let here : 32 * (i / 256) + i % 256 / 8 ≡ i / 8 = omega arith in
    let place : i % 256 % 8 ≡ i % 8 = omega arith in
    ap₂ (λ n q. n / 2 ^ q % 2)
    (get_or-padded (drop (32 * (i / 256)) (bit_bytes bs)) (i % 256 / 8) low
    ∙ chunk-byte bs (i / 256) (i % 256 / 8) ∙ ap (λ n. number_of_bits (window bs n)) here) place
    ∙ bit-number_of_bits (i % 8) (window bs (i / 8))
    ∙ ap bit_value (in_window bs (i / 8) (i % 8) (omega arith) ∙ ap (λ n. get_or bs n false)
    (let e : 8 * (i / 8) + i % 8 ≡ i = omega arith in e))
