-- The last byte, and the bits of a bitvector that lie in it.
use Rattle.std.proofs.Common.{ℕ, zero, suc, ◌+◌, ◌-◌, ◌*◌, ◌/◌, ◌%◌, ◌^◌, ◌<◌, ◌≤◌, ◌≡◌, Some, None, List, [], ◌∷◌, length, get_or, refl, sym, ap, ◌∙◌, arith, pow-add, mul-le-mul_left}
use Rattle.std.proofs.lemmas.Bool.{cond-true, cond-false, le-leb, lt-leb}
use Rattle.std.proofs.lemmas.Nat.{one_shl}
use Rattle.ssz_bytes.specs.Bytes.{IsBytes, le_number}
use Rattle.ssz_bytes.proofs.Bits.{power_of_bytes}
use Rattle.ssz_bytes.proofs.Delimiters.{IsLedBy, last-leads}
use Rattle.ssz_bytes.specs.Faults.{last_after, last_byte, bitvector_fault}

last_after_is : (byte : ℕ) (b : List ℕ) → get_or (byte ∷ b) (length b) 0 ≡ last_after byte b
last_after_is byte [] = refl
last_after_is byte (c ∷ b) = last_after_is c b

pub last_byte_is : (b : List ℕ) → get_or b (length b - 1) 0 ≡ last_byte b
last_byte_is [] = refl
last_byte_is (c ∷ b) = ap (λ n. get_or (c ∷ b) n 0) (omega arith) ∙ last_after_is c b

-- the bits of a bit vector that lie in its last byte
pub used_bits : (n : ℕ) (b : List ℕ) → ℕ
used_bits n b = n - 8 * (length b - 1)

record HasTail (n l last x : ℕ) : Type 0 where
  pub split : n ≡ 8 * l + (n - 8 * l)
  pub led : IsLedBy (256 ^ l) last x

tail_low : (n l last x : ℕ) → HasTail n l last x → 2 ^ (n - 8 * l) ≤ last → 2 ^ n ≤ x
tail_low n l last x h le =
    let power : 2 ^ n ≡ 256 ^ l * 2 ^ (n - 8 * l) =
    ap (λ m. 2 ^ m) h.split ∙ pow-add 2 (8 * l) (n - 8 * l)
    ∙ ap (λ m. m * 2 ^ (n - 8 * l)) (sym (power_of_bytes l)) in
    omega (arith, power, h.led.low, mul-le-mul_left (256 ^ l) le)

tail_high : (n l last x : ℕ) → HasTail n l last x → last + 1 ≤ 2 ^ (n - 8 * l) → x < 2 ^ n
tail_high n l last x h le =
    let power : 2 ^ n ≡ 256 ^ l * 2 ^ (n - 8 * l) =
    ap (λ m. 2 ^ m) h.split ∙ pow-add 2 (8 * l) (n - 8 * l)
    ∙ ap (λ m. m * 2 ^ (n - 8 * l)) (sym (power_of_bytes l)) in
    omega (arith, power, h.led.high, mul-le-mul_left (256 ^ l) le)

has_tail : (n : ℕ) (byte : ℕ) (b : List ℕ) → 0 < n → suc (length b) ≡ (n + 7) / 8
    → IsBytes (byte ∷ b) → HasTail n (length b) (last_after byte b) (le_number (byte ∷ b))
has_tail n byte b some e fit =
    record { split = omega arith; led = last-leads byte b (fit zero) (λ i. fit (suc i)) }

one_less : (byte : ℕ) (b : List ℕ) → length (byte ∷ b) - 1 ≡ length b
one_less byte b = omega arith

last_is : (byte : ℕ) (b : List ℕ) → get_or (byte ∷ b) (length (byte ∷ b) - 1) 0 ≡ last_after byte b
last_is byte b = last_byte_is (byte ∷ b)

shifted : (n l m : ℕ) → m ≡ l → n - 8 * l ≤ 8 → (1 * 2 ^ (n - 8 * m)) % 2 ^ 32 ≡ 2 ^ (n - 8 * l)
shifted n l m e h = ap (λ k. (1 * 2 ^ (n - 8 * k)) % 2 ^ 32) e
    ∙ one_shl (n - 8 * l) 32 (omega arith)

pub bitvector-padded : (n s : ℕ) (b : List ℕ) → 0 < n → length b ≡ (n + 7) / 8 → IsBytes b
    → (1 * 2 ^ (n - 8 * (length b - 1))) % 2 ^ 32 ≤ get_or b (length b - 1) 0
    → bitvector_fault n s b ≡ Some (record { code = 9; position = s + length b - 1 })
bitvector-padded n s [] some e fit h = absurd (omega arith)
bitvector-padded n s (byte ∷ b) some e fit h =
    let low : 2 ^ (n - 8 * length b) ≤ last_after byte b =
    omega (
      arith,
      h,
      shifted n (length b) (length (byte ∷ b) - 1) (one_less byte b)
          (omega arith),
      last_is byte b,
    ) in
    cond-true _ _ _ (le-leb (2 ^ n) (le_number (byte ∷ b))
    (tail_low n (length b) (last_after byte b) (le_number (byte ∷ b))
    (has_tail n byte b some e fit) low))

pub bitvector-clean : (n s : ℕ) (b : List ℕ) → 0 < n → length b ≡ (n + 7) / 8 → IsBytes b
    → get_or b (length b - 1) 0 < (1 * 2 ^ (n - 8 * (length b - 1))) % 2 ^ 32
    → bitvector_fault n s b ≡ None
bitvector-clean n s [] some e fit h = absurd (omega arith)
bitvector-clean n s (byte ∷ b) some e fit h =
    let high : last_after byte b + 1 ≤ 2 ^ (n - 8 * length b) =
    omega (
      arith,
      h,
      shifted n (length b) (length (byte ∷ b) - 1) (one_less byte b)
          (omega arith),
      last_is byte b,
    ) in
    cond-false _ _ _ (lt-leb (2 ^ n) (le_number (byte ∷ b))
    (tail_high n (length b) (last_after byte b) (le_number (byte ∷ b))
    (has_tail n byte b some e fit) high))
