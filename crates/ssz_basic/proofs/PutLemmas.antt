-- Bits that are written byte by byte.
use Rattle.std.proofs.Common.{ℕ, zero, suc, ◌≡◌, ◌<◌, ◌≤◌, ◌+◌, ◌-◌, ◌*◌, ◌/◌, ◌%◌, ◌^◌, Bool, true, false, List, [], ◌∷◌, ◌++◌, length, take, drop, get_or, set, refl, sym, ap, ap₂, ◌∙◌, arith, append_assoc, length-take}
use Rattle.std.proofs.Math.Nat.{pow-le-pow_right, pow-succ'}
use Rattle.std.proofs.lemmas.List.{append-nil, take_more_set, take_all, drop-drop, length-set}
use mir.Val.{bool_byte}
use Rattle.ssz_bytes.specs.Bytes.{le_bytes, number_of_bits, bit_value}
use Rattle.ssz_bytes.proofs.Bits.{number_of_bits_lt, power_up}

no_bits : (n p : ℕ) → number_of_bits (take n (drop p [])) ≡ 0
no_bits zero p = refl
no_bits (suc n) zero = refl
no_bits (suc n) (suc p) = refl

-- a bit, and those behind it
pub bits_from : (bits : List Bool) (p k : ℕ)
    → number_of_bits (take (k + 1) (drop p bits))
    ≡ bit_value (get_or bits p false) + 2 * number_of_bits (take k (drop (p + 1) bits))
bits_from [] p k = omega (arith, no_bits (k + 1) p, no_bits k (p + 1))
bits_from (b ∷ bits) zero k = ap (λ n. number_of_bits (take n (b ∷ bits))) one
  where
    one : k + 1 ≡ suc k
    one = omega arith
bits_from (b ∷ bits) (suc p) k =
    let next : suc (p + 1) ≡ suc p + 1 = omega arith in
    bits_from bits p k ∙ ap (λ n.
    bit_value (get_or bits p false) + 2 * number_of_bits (take k (drop n (b ∷ bits)))) next

pub few_bits : (bits : List Bool) (k : ℕ) → number_of_bits (take k bits) < 2 ^ k
few_bits bits k =
    let up : 2 ^ length (take k bits) ≤ 2 ^ k =
    pow-le-pow_right (omega arith) (omega (arith, length-take k bits)) in
    omega (arith, number_of_bits_lt (take k bits), up)

-- the byte of the k bits from here on
pub record ByteOf (bits : List Bool) (from k byte : ℕ) : Type 0 where
  pub is : byte ≡ number_of_bits (take k (drop (from + 8 - k) bits))

pub ByteOf-start : (bits : List Bool) (from : ℕ) → ByteOf bits from 0 0
ByteOf-start bits from = record { is = refl }

pub ByteOf-small : (bits : List Bool) (from k byte : ℕ) → ByteOf bits from k byte → k < 8
    → byte < 128
ByteOf-small bits from k byte h below =
    let up : 2 ^ k ≤ 2 ^ 7 = power_up k 7 (omega arith) in
    omega (arith, h.is, few_bits (drop (from + 8 - k) bits) k, up)

pub ByteOf-more : (bits : List Bool) (from k byte bit : ℕ) → ByteOf bits from k byte → k < 8
    → bit ≡ bit_value (get_or bits (from + 7 - k) false) → ByteOf bits from (k + 1) (2 * byte + bit)
ByteOf-more bits from k byte bit h below e =
    let next : from + 7 - k + 1 ≡ from + 8 - k = omega arith in
    let place : from + 8 - (k + 1) ≡ from + 7 - k = omega arith in
    let here = ap (λ p. number_of_bits (take (k + 1) (drop p bits))) place
    ∙ bits_from bits (from + 7 - k) k
    ∙ ap (λ p. bit_value (get_or bits (from + 7 - k) false) + 2 * number_of_bits
    (take k (drop p bits))) next in
    record { is = omega (arith, h.is, e, here) }

pub ByteOf-end : (bits : List Bool) (from k byte : ℕ) → ByteOf bits from k byte → 8 ≤ k → k ≤ 8
    → byte ≡ number_of_bits (take 8 (drop from bits))
ByteOf-end bits from k byte h low high =
    let all : k ≡ 8 = omega arith in
    let place : from + 8 - 8 ≡ from = omega arith in
    h.is ∙ ap (λ n. number_of_bits (take n (drop (from + 8 - n) bits))) all
    ∙ ap (λ p. number_of_bits (take 8 (drop p bits))) place

split_bits : (k : ℕ) (bits : List Bool)
    → number_of_bits bits ≡ number_of_bits (take k bits) + 2 ^ k * number_of_bits (drop k bits)
split_bits zero bits = omega arith
split_bits (suc k) [] = omega arith
split_bits (suc k) (b ∷ bits) =
    let power : 2 ^ suc k * number_of_bits (drop k bits)
    ≡ 2 * 2 ^ k * number_of_bits (drop k bits) =
    ap (λ p. p * number_of_bits (drop k bits)) (pow-succ' 2 k) in
    omega (arith, split_bits k bits, power)

-- the bytes so far, and those of the bits behind them
pub record BitsPut (bits : List Bool) (bytes : List ℕ) (i from : ℕ) : Type 0 where
  pub all : take i bytes ++ le_bytes (length bytes - i) (number_of_bits (drop from bits))
      ≡ le_bytes (length bytes) (number_of_bits bits)
  pub place : from ≡ 8 * i

pub BitsPut-start : (bits : List Bool) (bytes : List ℕ) → BitsPut bits bytes 0 0
BitsPut-start bits bytes =
    record { all = ap (λ n. le_bytes n (number_of_bits bits)) (omega arith); place = omega arith }

pub BitsPut-more : (bits : List Bool) (bytes : List ℕ) (i from byte : ℕ) → BitsPut bits bytes i from
    → i < length bytes → byte ≡ number_of_bits (take 8 (drop from bits))
    → BitsPut bits (set bytes i byte) (i + 1) (from + 8)
BitsPut-more bits bytes i from byte h below e =
    let rest = drop from bits in
    let halves = split_bits 8 (drop from bits) in
    let small : number_of_bits (take 8 (drop from bits)) < 256 = few_bits (drop from bits) 8 in
    let low : number_of_bits (drop from bits) % 256 ≡ byte = omega (arith, halves, small, e) in
    let high : number_of_bits (drop from bits) / 256 ≡ number_of_bits (drop (from + 8) bits) =
    omega (arith, halves, small) ∙ ap number_of_bits (drop-drop 8 from bits) in
    let same : length (set bytes i byte) ≡ length bytes = length-set bytes i byte in
    let left : length bytes - i ≡ suc (length bytes - (i + 1)) = omega arith in
    let size : length (set bytes i byte) - (i + 1) ≡ length bytes - (i + 1) = omega arith in
    record {
      all = ap₂ (λ done n. done ++ le_bytes n (number_of_bits (drop (from + 8) bits)))
          (take_more_set bytes i byte below) size
          ∙ append_assoc (take i bytes) (byte ∷ [])
          (le_bytes (length bytes - (i + 1)) (number_of_bits (drop (from + 8) bits)))
          ∙ ap₂ (λ x n. take i bytes ++ x ∷ le_bytes (length bytes - (i + 1)) n) (sym low)
          (sym high)
          ∙ sym (ap (λ n. take i bytes ++ le_bytes n (number_of_bits (drop from bits))) left)
          ∙ h.all ∙ ap (λ n. le_bytes n (number_of_bits bits)) (sym same);
      place = omega (arith, h.place);
    }

pub BitsPut-end : (bits : List Bool) (bytes : List ℕ) (i from : ℕ) → BitsPut bits bytes i from
    → length bytes ≤ i → bytes ≡ le_bytes (length bytes) (number_of_bits bits)
BitsPut-end bits bytes i from h all =
    let none : length bytes - i ≡ 0 = omega arith in
    sym (take_all i bytes all) ∙ sym (append-nil (take i bytes))
    ∙ sym (ap (λ n. take i bytes ++ le_bytes n (number_of_bits (drop from bits))) none) ∙ h.all

-- a bit as the program makes a number of it
pub bit_number : (b : Bool) → bool_byte b ≡ bit_value b
bit_number true = refl
bit_number false = refl

pub bit_small : (b : Bool) → bit_value b ≤ 1
bit_small true = omega arith
bit_small false = omega arith
