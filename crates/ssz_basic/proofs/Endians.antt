-- The little-endian numbers of two libraries are the same.
use Rattle.std.proofs.Common.{ℕ, zero, suc, ◌≡◌, ◌<◌, ◌+◌, ◌/◌, ◌%◌, ◌^◌, List, [], ◌∷◌, ◌++◌, length, drop, set, get_or, refl, sym, ap, ap₂, ◌∙◌, arith, pow-suc}
use Rattle.std.proofs.lemmas.List.{drop_more, drop_all, append-nil}
use Rattle.std.specs.Int.{bytes_low_first, byte_at}
use Rattle.std.proofs.Math.Nat.{div-div-eq-div-mul}
use Rattle.byteorder.specs.Endian.{little_from, little_number, little_bytes}
use Rattle.ssz_bytes.specs.Bytes.{le_bytes, le_number}

little_from_is : (i n : ℕ) (xs : List ℕ) → i + n ≡ length xs
    → little_from i n xs ≡ le_number (drop i xs)
little_from_is i zero xs e = sym (ap le_number (drop_all i xs (omega arith)))
little_from_is i (suc n) xs e =
    let one : suc i ≡ i + 1 = omega arith in
    let next : little_from (suc i) n xs ≡ le_number (drop (i + 1) xs) =
    little_from_is (suc i) n xs (omega arith) ∙ ap (λ k. le_number (drop k xs)) one in
    omega (arith, next, ap le_number (drop_more xs i 0 (omega arith)))

pub little_number_is : (n : ℕ) (xs : List ℕ) → length xs ≡ n → little_number n xs ≡ le_number xs
little_number_is n xs e = little_from_is 0 n xs (omega (arith, e))

byte_at_is : (i x : ℕ) → byte_at i x ≡ x / 256 ^ i % 256
byte_at_is zero x = omega arith
byte_at_is (suc i) x = refl

bytes_low_first_are : (i n x : ℕ) → bytes_low_first i n x ≡ le_bytes n (x / 256 ^ i)
bytes_low_first_are i zero x = refl
bytes_low_first_are i (suc n) x =
    let next : x / 256 ^ suc i ≡ x / 256 ^ i / 256 =
    ap (λ d. x / d) (pow-suc 256 i) ∙ sym (div-div-eq-div-mul x (256 ^ i) 256) in
    ap₂ (λ b bs. b ∷ bs) (byte_at_is i x) (bytes_low_first_are (suc i) n x ∙ ap (le_bytes n) next)

pub little_bytes_are : (n x : ℕ) → little_bytes n x ≡ le_bytes n x
little_bytes_are n x = let whole : x / 256 ^ 0 ≡ x =
    omega arith in bytes_low_first_are 0 n x ∙ ap (le_bytes n) whole

-- a number that fills the bytes
pub fills : (n x : ℕ) (old new : List ℕ) → length old ≡ n → new ≡ little_bytes n x ++ drop n old
    → new ≡ le_bytes n x
fills n x old new e is =
    is ∙ ap₂ (λ xs ys. xs ++ ys) (little_bytes_are n x) (drop_all n old (omega arith))
    ∙ append-nil (le_bytes n x)

pub one_byte : (old : List ℕ) (x : ℕ) → length old ≡ 1 → x < 256 → set old 0 x ≡ le_bytes 1 x
one_byte [] x e h = absurd (omega (arith, e))
one_byte (y ∷ []) x e h = let low : x ≡ x % 256 = omega arith in ap (λ b. b ∷ []) low
one_byte (y ∷ z ∷ old) x e h = absurd (omega (arith, e))

pub one_number : (xs : List ℕ) → length xs ≡ 1 → get_or xs 0 0 ≡ le_number xs
one_number [] e = absurd (omega (arith, e))
one_number (x ∷ []) e = omega arith
one_number (x ∷ y ∷ xs) e = absurd (omega (arith, e))
