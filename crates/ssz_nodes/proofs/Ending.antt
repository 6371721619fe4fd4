-- Numbers by the zeros that they end with.
use Rattle.std.proofs.Common.{◌≡◌, ℕ, zero, suc, ◌+◌, ◌-◌, ◌*◌, ◌/◌, ◌%◌, ◌^◌, ◌<◌, ◌≤◌, sym, ap, ◌∙◌, subst, ⊎_elim, arith}
use Rattle.std.specs.Int.{bit_at, trailing_zeros, w64}
use Rattle.std.proofs.lemmas.Bool.{cases_lt}
use Rattle.std.proofs.lemmas.Nat.{pow_pos, pow-add, shr-shr, mod-mul-add, mod-pow-add}
use Rattle.std.proofs.lemmas.Nat.Bits.{bit_at-trailing_zeros, bit_at_above}
use Rattle.ssz_merkle.proofs.Binary.{IsFollowed, IsFollowed-zeros, div_at, low_zeros, shr-above, digit-low}

-- n ends with so many zeros and a 1 before them, and last is the number before it
pub record Ends (n level : ℕ) : Type 0 where
  pub one : bit_at n level ≡ 1
  pub zeros : (i : ℕ) → i < level → bit_at n i ≡ 0
  pub some : 0 < n

pub ends : (n : ℕ) → 0 < n → n ≤ 2 ^ 63 → Ends n (trailing_zeros w64 n)
ends n some few =
    let digits : (trailing_zeros w64 n < 64) × (bit_at n (trailing_zeros w64 n) ≡ 1)
    × ((i : ℕ) → i < trailing_zeros w64 n → bit_at n i ≡ 0) =
    bit_at-trailing_zeros w64 n some (omega arith) in
    record { one = digits.1; zeros = digits.2; some = some }

-- no number up to 2 ^ 63 ends with more than 63 zeros
pub ends_within : (n level : ℕ) → n ≤ 2 ^ 63 → Ends n level → level ≤ 63
ends_within n level few h = ⊎_elim
    (λ (deep : 63 < level). absurd (omega (
      arith,
      h.one,
      bit_at_above n 64 level (omega arith) (omega arith),
    )))
    (λ (within : level ≤ 63). within)
    (cases_lt 63 level)

module _ (n level : ℕ) (h : Ends n level) where
  pub whole : (k : ℕ) → k ≤ level → n ≡ n / 2 ^ k * 2 ^ k
  whole k within = low_zeros n k (λ i below. h.zeros i (omega arith))

  -- up to its last zeros nothing is left of the number
  pub none-left : (k : ℕ) → k ≤ level → n % 2 ^ k ≡ 0
  none-left k within = zero_rest n (2 ^ k) (pow_pos k) (whole k within)
    where
      zero_rest : (n m : ℕ) → 0 < m → n ≡ n / m * m → n % m ≡ 0
      zero_rest n m positive is = omega arith

  -- its lowest 1 is worth no more than it
  pub at_least : (k : ℕ) → k ≤ level → 2 ^ k ≤ n
  at_least k within = go (n / 2 ^ k) (2 ^ k) (whole k within)
    where
      go : (q m : ℕ) → n ≡ q * m → m ≤ n
      go zero m is = absurd (omega (arith, is, h.some))
      go (suc q) m is = omega (arith, is)

  followed : IsFollowed (n - 1) level (n / 2 ^ suc level)
  followed =
      let next : n ≡ n - 1 + 1 = omega (arith, h.some) in
      subst (λ m. IsFollowed (n - 1) level (m / 2 ^ suc level)) (sym next)
      (IsFollowed-zeros (n - 1) level (subst (λ m. bit_at m level ≡ 1) next h.one)
      (λ i below. subst (λ m. bit_at m i ≡ 0) next (h.zeros i below)))

  -- of the number before it all digits are left there
  pub all-left : (k : ℕ) → k ≤ level → (n - 1) % 2 ^ k ≡ 2 ^ k - 1
  all-left k within = before n (2 ^ k) (pow_pos k) h.some (none-left k within)
    where
      step : (q m : ℕ) → 0 < m → 0 < q → m * q - 1 ≡ (q - 1) * m + (m - 1)
      step zero m positive some = absurd (omega arith)
      step (suc q) m positive some =
          let same : suc q - 1 ≡ q = omega arith in rw same (omega arith)

      before : (n m : ℕ) → 0 < m → 0 < n → n % m ≡ 0 → (n - 1) % m ≡ m - 1
      before n m positive some none =
          let is : n ≡ m * (n / m) = omega arith in
          let more : 0 < n / m = ⊎_elim
          (λ (less : n / m < 1). let zero_is : n / m ≡ 0 = omega arith in
          absurd (omega (arith, is ∙ ap (λ q. m * q) zero_is)))
          (λ (h : 1 ≤ n / m). h) (cases_lt (n / m) 1) in
          ap (λ k. k % m) (ap (λ k. k - 1) is ∙ step (n / m) m positive more)
          ∙ mod-mul-add (n / m - 1) m (m - 1) (omega arith)

  same_high : (k : ℕ) → level < k → n / 2 ^ k ≡ (n - 1) / 2 ^ k
  same_high k above =
      let next : n ≡ n - 1 + 1 = omega (arith, h.some) in
      ap (λ m. m / 2 ^ k) next ∙ shr-above (n - 1) level (n / 2 ^ suc level) k followed above

  pub digit-same : (k : ℕ) → level < k → bit_at (n - 1) k ≡ bit_at n k
  digit-same k above = ap (λ q. q % 2) (sym (same_high k above))

  pub one-less : (k : ℕ) → level < k → n % 2 ^ k ≡ suc ((n - 1) % 2 ^ k)
  one-less k above = less n (2 ^ k) (pow_pos k) h.some (same_high k above)
    where
      less : (n m : ℕ) → 0 < m → 0 < n → n / m ≡ (n - 1) / m → n % m ≡ suc ((n - 1) % m)
      less n m positive some same = omega (arith, ap (λ q. m * q) same)

  pub digit-gone : bit_at (n - 1) level ≡ 0
  digit-gone = digit-low (n - 1) level (n / 2 ^ suc level) followed

-- a multiple of a power of two, by its binary digits
module _ (q low : ℕ) where
  shifted : q * 2 ^ low / 2 ^ low ≡ q
  shifted = div_at (q * 2 ^ low) q (2 ^ low) 0 (omega arith) (pow_pos low)

  pub digit : (j : ℕ) → bit_at (q * 2 ^ low) (low + j) ≡ bit_at q j
  digit j = ap (λ n. n % 2) (sym (shr-shr (q * 2 ^ low) low j))
      ∙ ap (λ n. n / 2 ^ j % 2) shifted

  rest : (j : ℕ) → q * 2 ^ low % 2 ^ (j + low) ≡ q % 2 ^ j * 2 ^ low
  rest j =
      let none : q * 2 ^ low % 2 ^ low ≡ 0 =
      ap (λ n. n % 2 ^ low) (let same : q * 2 ^ low ≡ q * 2 ^ low + 0 = omega arith in same)
      ∙ mod-mul-add q (2 ^ low) 0 (pow_pos low) in
      mod-pow-add (q * 2 ^ low) j low
      ∙ ap (λ n. n % 2 ^ j * 2 ^ low + q * 2 ^ low % 2 ^ low) shifted
      ∙ omega (arith, none)

  no_digit : (k : ℕ) → k < low → bit_at (q * 2 ^ low) k ≡ 0
  no_digit k below = go (low - suc k) (omega arith)
    where
      go : (i : ℕ) → low ≡ k + suc i → bit_at (q * 2 ^ low) k ≡ 0
      go i is =
          let double : 2 ^ suc i ≡ 2 * 2 ^ i = omega arith in
          let even : q * 2 ^ low / 2 ^ k ≡ q * 2 ^ i * 2 =
          div_at (q * 2 ^ low) (q * 2 ^ i * 2) (2 ^ k) 0
          (ap (λ n. q * 2 ^ n) is ∙ ap (λ n. q * n) (pow-add 2 k (suc i))
          ∙ ap (λ n. q * (2 ^ k * n)) double ∙ regroup q (2 ^ k) (2 ^ i)) (pow_pos k) in
          ap (λ n. n % 2) even ∙ no_rest (q * 2 ^ i)
        where
          regroup : (a m n : ℕ) → a * (m * (2 * n)) ≡ a * n * 2 * m + 0
          regroup a m n = omega arith

          no_rest : (n : ℕ) → n * 2 % 2 ≡ 0
          no_rest n = omega arith

-- a number that ends with so many zeros, in units of a power of two below them
module _ (left level low q : ℕ) (is : Ends left level) (within : low ≤ level)
    (units : left ≡ q * 2 ^ low) where
  some_unit : 0 < q
  some_unit = positive q (2 ^ low) (omega (arith, is.some, units))
    where
      positive : (n m : ℕ) → 0 < n * m → 0 < n
      positive zero m some = absurd (omega (arith, some))
      positive (suc n) m some = omega arith

  pub unit_ends : Ends q (level - low)
  unit_ends =
      let high : low + (level - low) ≡ level = omega arith in
      record {
        one = sym (digit q low (level - low)) ∙ ap (bit_at (q * 2 ^ low)) high
            ∙ ap (λ n. bit_at n level) (sym units) ∙ is.one;
        zeros = λ i below. sym (digit q low i) ∙ ap (λ n. bit_at n (low + i)) (sym units)
            ∙ is.zeros (low + i) (omega arith);
        some = some_unit;
      }

  one_unit_less : left - 2 ^ low ≡ (q - 1) * 2 ^ low
  one_unit_less = ap (λ n. n - 2 ^ low) units ∙ less q (2 ^ low) some_unit
    where
      less : (n m : ℕ) → 0 < n → n * m - m ≡ (n - 1) * m
      less zero m some = absurd (omega (arith, some))
      less (suc n) m some =
          let same : suc n - 1 ≡ n = omega arith in rw same (omega arith)

  -- the number without one unit, by its digits from the unit's on
  pub less-digit : (j : ℕ) → bit_at (left - 2 ^ low) (low + j) ≡ bit_at (q - 1) j
  less-digit j = ap (λ n. bit_at n (low + j)) one_unit_less ∙ digit (q - 1) low j

  less-rest : (j : ℕ) → (left - 2 ^ low) % 2 ^ (j + low) ≡ (q - 1) % 2 ^ j * 2 ^ low
  less-rest j = ap (λ n. n % 2 ^ (j + low)) one_unit_less ∙ rest (q - 1) low j

  pub none_below : (k : ℕ) → k < low → bit_at (left - 2 ^ low) k ≡ 0
  none_below k below = ap (λ n. bit_at n k) one_unit_less ∙ no_digit (q - 1) low k below

  -- below its last zeros all of it is left but the unit
  pub low_rest : (j : ℕ) → j < level - low
      → 2 ^ low + (left - 2 ^ low) % 2 ^ (j + low) ≡ 2 ^ (j + low)
  low_rest j below =
      ap (λ n. 2 ^ low + n)
      (less-rest j ∙ ap (λ n. n * 2 ^ low) (all-left q (level - low) unit_ends j (omega arith)))
      ∙ whole_unit (2 ^ j) (2 ^ low) (pow_pos j) ∙ sym (pow-add 2 j low)
    where
      whole_unit : (n m : ℕ) → 0 < n → m + (n - 1) * m ≡ n * m
      whole_unit zero m some = absurd (omega (arith, some))
      whole_unit (suc n) m some =
          let same : suc n - 1 ≡ n = omega arith in rw same (omega arith)

  -- above them it is as before without the unit
  pub high_rest : (j : ℕ) → level - low < j
      → 2 ^ low + (left - 2 ^ low) % 2 ^ (j + low) ≡ left % 2 ^ (j + low)
  high_rest j above =
      ap (λ n. 2 ^ low + n) (less-rest j)
      ∙ unit ((q - 1) % 2 ^ j) (2 ^ low)
      ∙ ap (λ n. n * 2 ^ low) (sym (one-less q (level - low) unit_ends j above))
      ∙ sym (rest q low j) ∙ ap (λ n. n % 2 ^ (j + low)) (sym units)
    where
      unit : (n m : ℕ) → m + n * m ≡ suc n * m
      unit n m = omega arith
