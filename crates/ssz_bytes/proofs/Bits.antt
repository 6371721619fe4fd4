-- Bits and number determine each other, and a delimiter is the highest 1 bit.
use Rattle.std.proofs.Common.{ℕ, zero, suc, ◌+◌, ◌*◌, ◌/◌, ◌%◌, ◌^◌, ◌<◌, ◌≤◌, ◌≡◌, Bool, true, false, eqb, List, [], ◌∷◌, ◌++◌, length, refl, sym, ap, ap₂, ◌∙◌, arith, pow-suc, inl, inr, eq-eqb, pow-add}
use Rattle.std.proofs.lemmas.Bool.{cases_lt, ne_eqb}
use Rattle.std.proofs.Math.Nat.{pow-le-pow_right}
use Rattle.ssz_bytes.specs.Bytes.{bit_value, number_of_bits, bits_of_number}

pub length-bits_of_number : (count n : ℕ) → length (bits_of_number count n) ≡ count
length-bits_of_number zero n = refl
length-bits_of_number (suc count) n = ap suc (length-bits_of_number count (n / 2))

-- the low bit is 1 exactly where the rest of the division by 2 is
low_bit : (b : Bool) (n : ℕ) → eqb ((bit_value b + 2 * n) % 2) 1 ≡ b
low_bit true n = eq-eqb _ _ (omega arith)
low_bit false n = ne_eqb _ _ (omega arith)

low_value : (n : ℕ) → bit_value (eqb (n % 2) 1) ≡ n % 2
low_value n = elim (cases_lt (n % 2) 1) [
  | inl low ↦ ap bit_value (ne_eqb (n % 2) 1 (omega arith)) ∙ omega arith
  | inr high ↦ (let one : n % 2 ≡ 1 = omega arith in ap bit_value (eq-eqb (n % 2) 1 one) ∙ sym one)
]

half : (b : Bool) (n : ℕ) → (bit_value b + 2 * n) / 2 ≡ n
half true n = omega arith
half false n = omega arith

pub power_up : (a b : ℕ) → a ≤ b → 2 ^ a ≤ 2 ^ b
power_up a b h = pow-le-pow_right (omega arith) h

top_low : (b : Bool) (place n : ℕ) → 2 ^ place ≤ n → 2 ^ suc place ≤ bit_value b + 2 * n
top_low true place n h = omega arith
top_low false place n h = omega arith

top_high : (b : Bool) (place n : ℕ) → n < 2 ^ (place + 1)
    → bit_value b + 2 * n < 2 ^ (suc place + 1)
top_high true place n h = omega (arith, pow-add 2 place 1, pow-add 2 (suc place) 1)
top_high false place n h = omega (arith, pow-add 2 place 1, pow-add 2 (suc place) 1)

pub number_of_bits_lt : (bits : List Bool) → number_of_bits bits < 2 ^ length bits
number_of_bits_lt [] = omega arith
number_of_bits_lt (true ∷ bits) = omega (arith, number_of_bits_lt bits, pow-suc 2 (length bits))
number_of_bits_lt (false ∷ bits) = omega (arith, number_of_bits_lt bits, pow-suc 2 (length bits))

pub bits_of_number-number_of_bits : (bits : List Bool)
    → bits_of_number (length bits) (number_of_bits bits) ≡ bits
bits_of_number-number_of_bits [] = refl
bits_of_number-number_of_bits (b ∷ bits) =
    let rest : (bit_value b + 2 * number_of_bits bits) / 2 ≡ number_of_bits bits =
    half b (number_of_bits bits) in
    ap₂ ◌∷◌ (low_bit b (number_of_bits bits)) (ap (bits_of_number (length bits)) rest
    ∙ bits_of_number-number_of_bits bits)

-- the same where a 1 bit stands above them
pub bits_of_number-delimited : (bits : List Bool)
    → bits_of_number (length bits) (number_of_bits (bits ++ true ∷ [])) ≡ bits
bits_of_number-delimited [] = refl
bits_of_number-delimited (b ∷ bits) =
    let rest : (bit_value b + 2 * number_of_bits (bits ++ true ∷ [])) / 2
    ≡ number_of_bits (bits ++ true ∷ []) = half b (number_of_bits (bits ++ true ∷ [])) in
    ap₂ ◌∷◌ (low_bit b (number_of_bits (bits ++ true ∷ [])))
    (ap (bits_of_number (length bits)) rest ∙ bits_of_number-delimited bits)

pub number_of_bits-bits_of_number : (count n : ℕ) → n < 2 ^ count
    → number_of_bits (bits_of_number count n) ≡ n
number_of_bits-bits_of_number zero n h = omega arith
number_of_bits-bits_of_number (suc count) n h =
    let rest : number_of_bits (bits_of_number count (n / 2)) ≡ n / 2 =
    number_of_bits-bits_of_number count (n / 2) (omega arith) in
    omega (arith, rest, low_value n)

pub number_of_bits-delimited : (count n : ℕ) → 2 ^ count ≤ n → n < 2 ^ (count + 1)
    → number_of_bits (bits_of_number count n ++ true ∷ []) ≡ n
number_of_bits-delimited zero n low high = omega arith
number_of_bits-delimited (suc count) n low high =
    let rest : number_of_bits (bits_of_number count (n / 2) ++ true ∷ []) ≡ n / 2 =
    number_of_bits-delimited count (n / 2) (omega arith)
    (omega (arith, pow-add 2 count 1, pow-add 2 (suc count) 1)) in
    omega (arith, rest, low_value n)

-- the number of delimited bits has its highest 1 bit at their length
pub record HasTop (place n : ℕ) : Type 0 where
  pub low : 2 ^ place ≤ n
  pub high : n < 2 ^ (place + 1)

pub HasTop-delimited : (bits : List Bool)
    → HasTop (length bits) (number_of_bits (bits ++ true ∷ []))
HasTop-delimited [] = record { low = omega arith; high = omega arith }
HasTop-delimited (b ∷ bits) =
    let rest = HasTop-delimited bits in record {
      low = top_low b (length bits) (number_of_bits (bits ++ true ∷ [])) rest.low;
      high = top_high b (length bits) (number_of_bits (bits ++ true ∷ [])) rest.high;
    }

-- there is one such place
pub same_top : (a b n : ℕ) → HasTop a n → HasTop b n → a ≡ b
same_top a b n f g = elim (cases_lt a b) [
  | inl lt ↦ absurd (omega (arith, f.high, g.low, power_up (a + 1) b (omega arith)))
  | inr le ↦ elim (cases_lt b a) [
    | inl lt ↦ absurd (omega (arith, g.high, f.low, power_up (b + 1) a (omega arith)))
    | inr ge ↦ omega arith
  ]
]

pub power_of_bytes : (count : ℕ) → 256 ^ count ≡ 2 ^ (8 * count)
power_of_bytes zero = refl
power_of_bytes (suc count) =
    let wide : 8 * suc count ≡ 8 * count + 8 = omega arith in
    pow-suc 256 count ∙ ap (λ n. n * 256) (power_of_bytes count) ∙ sym (pow-add 2 (8 * count) 8)
    ∙ ap (λ n. 2 ^ n) (sym wide)
