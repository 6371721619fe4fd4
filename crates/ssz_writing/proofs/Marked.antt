-- The bytes of bits with a delimiter behind them.
use Rattle.std.proofs.Common.{ℕ, zero, suc, ◌+◌, ◌*◌, ◌/◌, ◌%◌, ◌^◌, ◌<◌, ◌≤◌, ◌≡◌, Bool, true, List, [], ◌∷◌, ◌++◌, length, refl, sym, ap, ap₂, ◌∙◌, arith, append_assoc, length-append}
use Rattle.std.proofs.Math.Nat.{pow-suc, div-div-eq-div-mul, div-eq_of_lt}
use Rattle.std.proofs.lemmas.Nat.{pow-add}
use Rattle.ssz_bytes.specs.Bytes.{le_bytes, number_of_bits, bits_size}
use Rattle.ssz_bytes.proofs.Bits.{number_of_bits_lt}
use Rattle.ssz_places.proofs.BitPacking.{bit_bytes}
use Rattle.ssz_packing.proofs.BitChunks.{number_of_bits-end}
use Rattle.ssz_nodes.specs.Shown.{ExtendsBytes}
use Rattle.ssz_writing.specs.Offsets.{delimited_bytes}

swap : (a c : ℕ) → a * 256 * c ≡ 256 * (a * c)
swap a c = omega arith

-- one more byte of a number to which something is added above the others
last_byte : (q n c : ℕ) → le_bytes (suc q) (n + 256 ^ q * c)
    ≡ le_bytes q n ++ (n / 256 ^ q + c) % 256 ∷ []
last_byte zero n c =
    let one : n + 256 ^ 0 * c ≡ n / 256 ^ 0 + c = omega arith in
    ap (λ m. m % 256 ∷ []) one
last_byte (suc q) n c =
    let scaled : 256 ^ suc q * c ≡ 256 * (256 ^ q * c) =
    ap (λ d. d * c) (pow-suc 256 q) ∙ swap (256 ^ q) c in
    let low : (n + 256 ^ suc q * c) % 256 ≡ n % 256 = omega (arith, scaled) in
    let high : (n + 256 ^ suc q * c) / 256 ≡ n / 256 + 256 ^ q * c = omega (arith, scaled) in
    let power : 256 * 256 ^ q ≡ 256 ^ suc q = omega (arith, pow-suc 256 q) in
    let deep : n / 256 / 256 ^ q ≡ n / 256 ^ suc q =
    div-div-eq-div-mul n 256 (256 ^ q) ∙ ap (λ d. n / d) power in
    ap₂ (λ b bs. b ∷ bs) low (ap (le_bytes (suc q)) high ∙ last_byte q (n / 256) c)
    ∙ ap (λ m. n % 256 ∷ le_bytes q (n / 256) ++ (m + c) % 256 ∷ []) deep

powers : (q : ℕ) → 2 ^ (8 * q) ≡ 256 ^ q
powers zero = refl
powers (suc q) =
    let more : 8 * suc q ≡ 8 * q + 8 = omega arith in
    ap (λ k. 2 ^ k) more ∙ pow-add 2 (8 * q) 8 ∙ ap (λ x. x * 256) (powers q) ∙ sym (pow-suc 256 q)

-- the last byte has the delimiter
delimited_last : (bs : List Bool) (q above : ℕ) → length bs ≡ 8 * q + above → above < 8
    → delimited_bytes bs ≡ le_bytes q (number_of_bits bs)
    ++ (number_of_bits bs / 256 ^ q + 2 ^ above) % 256 ∷ []
delimited_last bs q above e below =
    let count : bits_size true (length bs) ≡ suc q = omega (arith, e) in
    let power : 2 ^ length bs ≡ 256 ^ q * 2 ^ above =
    ap (λ k. 2 ^ k) e ∙ pow-add 2 (8 * q) above ∙ ap (λ x. x * 2 ^ above) (powers q) in
    ap₂ le_bytes count (number_of_bits-end bs ∙ ap (λ m. number_of_bits bs + m) power)
    ∙ last_byte q (number_of_bits bs) (2 ^ above)

-- bits in whole bytes have it in one more
pub whole_marked : (bs : List Bool) → length bs % 8 ≡ 0
    → delimited_bytes bs ≡ bit_bytes bs ++ 1 ∷ []
whole_marked bs whole =
    let q : ℕ = length bs / 8 in
    let e : length bs ≡ 8 * (length bs / 8) + 0 = omega (arith, whole) in
    let count : (length bs + 7) / 8 ≡ length bs / 8 = omega (arith, whole) in
    let few : length bs ≡ 8 * (length bs / 8) = omega (arith, whole) in
    let small : number_of_bits bs < 256 ^ (length bs / 8) =
    omega (arith, number_of_bits_lt bs, ap (λ k. 2 ^ k) few, powers (length bs / 8)) in
    let none : number_of_bits bs / 256 ^ (length bs / 8) ≡ 0 = div-eq_of_lt small in
    delimited_last bs (length bs / 8) 0 e (omega arith)
    ∙ ap₂ (λ n m. le_bytes n (number_of_bits bs) ++ (m + 2 ^ 0) % 256 ∷ []) (sym count) none

-- other bits have it in their last byte
pub record PartMarked (bs : List Bool) (above : ℕ) : Type 0 where
  pub front : List ℕ
  pub last : ℕ
  pub bytes : bit_bytes bs ≡ front ++ last ∷ []
  pub marked : delimited_bytes bs ≡ front ++ (last + 2 ^ above) % 256 ∷ []

pub part_marked : (bs : List Bool) (above : ℕ) → length bs % 8 ≡ above → 0 < above
    → PartMarked bs above
part_marked bs above part some =
    let e : length bs ≡ 8 * (length bs / 8) + above = omega (arith, part) in
    let below : above < 8 = omega (arith, part) in
    let count : (length bs + 7) / 8 ≡ suc (length bs / 8) = omega (arith, part, some) in
    let plain : number_of_bits bs ≡ number_of_bits bs + 256 ^ (length bs / 8) * 0 = omega arith in
    let same : (number_of_bits bs / 256 ^ (length bs / 8) + 2 ^ above) % 256
    ≡ ((number_of_bits bs / 256 ^ (length bs / 8) + 0) % 256 + 2 ^ above) % 256 = omega arith in
    record {
      front = le_bytes (length bs / 8) (number_of_bits bs);
      last = (number_of_bits bs / 256 ^ (length bs / 8) + 0) % 256;
      bytes = ap₂ le_bytes count plain ∙ last_byte (length bs / 8) (number_of_bits bs) 0;
      marked = delimited_last bs (length bs / 8) above e below
          ∙ ap (λ m. le_bytes (length bs / 8) (number_of_bits bs) ++ m ∷ []) same;
    }

-- the last of a list, and the others
pub same_last : (xs ys : List ℕ) (a b : ℕ) → xs ++ a ∷ [] ≡ ys ++ b ∷ [] → (xs ≡ ys) × (a ≡ b)
same_last [] [] a b e = let same : a ≡ b = cc in (refl, same)
same_last [] (y ∷ []) a b e = cc
same_last [] (y ∷ z ∷ ys) a b e = cc
same_last (x ∷ []) [] a b e = cc
same_last (x ∷ z ∷ xs) [] a b e = cc
same_last (x ∷ xs) (y ∷ ys) a b e =
    let first : x ≡ y = cc in
    let others : xs ++ a ∷ [] ≡ ys ++ b ∷ [] = cc in
    let same = same_last xs ys a b others in
    (ap₂ (λ z zs. z ∷ zs) first same.0, same.1)

prefix : (old popped more : List ℕ) (l : ℕ) → old ++ more ≡ popped ++ l ∷ []
    → length old ≤ length popped → ExtendsBytes old popped
prefix [] popped more l e few = record { more = popped; is = refl }
prefix (x ∷ old) [] more l e few = absurd (omega (arith, few))
prefix (x ∷ old) (y ∷ popped) more l e few =
    let first : y ≡ x = cc in
    let others : old ++ more ≡ popped ++ l ∷ [] = cc in
    let rest = prefix old popped more l others (omega (arith, few)) in
    record { more = rest.more; is = ap₂ (λ z zs. z ∷ zs) first rest.is }

-- what was there stays, where the last byte of what was appended leaves
pub popped_extends : (old mid popped : List ℕ) (l : ℕ) → ExtendsBytes old mid
    → length old < length mid → mid ≡ popped ++ l ∷ [] → ExtendsBytes old popped
popped_extends old mid popped l h longer is =
    prefix old popped h.more l (sym h.is ∙ is)
    (omega (arith, longer, ap (λ (xs : List ℕ). length xs) is, length-append popped (l ∷ [])))

-- the last byte is marked
pub marked_bytes : (bs : List Bool) (above l b : ℕ) (old mid popped new : List ℕ)
    → length bs % 8 ≡ above → 0 < above → mid ≡ old ++ bit_bytes bs → mid ≡ popped ++ l ∷ []
    → b ≡ (l + 2 ^ above) % 256 → new ≡ popped ++ b ∷ [] → new ≡ old ++ delimited_bytes bs
marked_bytes bs above l b old mid popped new part some written is marks new_is =
    let of = part_marked bs above part some in
    let both : popped ++ l ∷ [] ≡ (old ++ of.front) ++ of.last ∷ [] =
    sym is ∙ written ∙ ap (λ xs. old ++ xs) of.bytes
    ∙ sym (append_assoc old of.front (of.last ∷ [])) in
    let same = same_last popped (old ++ of.front) l of.last both in
    new_is ∙ ap₂ (λ xs x. xs ++ x ∷ []) same.0 (marks ∙ ap (λ x. (x + 2 ^ above) % 256) same.1)
    ∙ append_assoc old of.front ((of.last + 2 ^ above) % 256 ∷ [])
    ∙ ap (λ xs. old ++ xs) (sym of.marked)
