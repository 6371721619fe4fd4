-- The chunks of the bytes of a number.
use Rattle.std.proofs.Common.{◌≡◌, ℕ, zero, suc, ◌+◌, ◌-◌, ◌*◌, ◌/◌, ◌%◌, ◌^◌, ◌<◌, ◌≤◌, ◌∷◌, ◌++◌, length, take, drop, replicate, refl, sym, ap, ap₂, ◌∙◌, ⊎_elim, arith}
use Rattle.std.proofs.Math.Nat.{div-div-eq-div-mul, div-lt_iff_lt-mul}
use Rattle.std.proofs.lemmas.Bool.{cases_lt}
use Rattle.std.proofs.lemmas.Nat.{pow-add}
use Rattle.std.proofs.lemmas.List.{take-append-le}
use Rattle.ssz_chunk.specs.Chunk.{zero_chunk}
use Rattle.ssz_bytes.specs.Bytes.{le_bytes}
use Rattle.ssz_bytes.proofs.Numbers.{length-le_bytes}
use Rattle.ssz_value.specs.Trees.{padded}
use Rattle.ssz_merkle.specs.Packing.{packed_chunk}
use Rattle.ssz_merkle.proofs.Padding.{take-padded}
use Rattle.ssz_packing.proofs.Numbers.{le_bytes-zeros}

-- the bytes behind the first k are those of the number without them
drop-le_bytes : (k more n : ℕ) → drop k (le_bytes (k + more) n) ≡ le_bytes more (n / 256 ^ k)
drop-le_bytes zero more n =
    let none : zero + more ≡ more = omega arith in
    let whole : n ≡ n / 256 ^ 0 = omega arith in
    ap₂ le_bytes none whole
drop-le_bytes (suc k) more n =
    let longer : suc k + more ≡ suc (k + more) = omega arith in
    let power : 256 ^ suc k ≡ 256 * 256 ^ k = omega arith in
    ap (λ m. drop (suc k) (le_bytes m n)) longer ∙ drop-le_bytes k more (n / 256)
    ∙ ap (le_bytes more) (div-div-eq-div-mul n 256 (256 ^ k) ∙ ap (λ p. n / p) (sym power))

-- the first k bytes
take-le_bytes : (k more n : ℕ) → take k (le_bytes (k + more) n) ≡ le_bytes k n
take-le_bytes zero more n = refl
take-le_bytes (suc k) more n =
    let longer : suc k + more ≡ suc (k + more) = omega arith in
    ap (λ m. take (suc k) (le_bytes m n)) longer
    ∙ ap (λ bytes. n % 256 ∷ bytes) (take-le_bytes k more (n / 256))

-- bytes of a number that fits them, with zeros behind them
pub padded-le_bytes : (count n : ℕ) → n < 256 ^ count → padded (le_bytes count n) ≡ le_bytes 32 n
padded-le_bytes count n small = ⊎_elim
    (λ (less : count < 32).
    let parts : 32 ≡ count + (32 - count) = omega arith in
    let long : length (le_bytes count n) ≡ count = length-le_bytes count n in
    let all : le_bytes 32 n ≡ le_bytes count n ++ replicate (32 - count) 0 =
    ap (λ k. le_bytes k n) parts ∙ le_bytes-zeros count (32 - count) n small in
    take-padded 32 32 (le_bytes count n) (omega arith) (omega arith)
    ∙ ap (λ k. le_bytes count n ++ replicate (32 - k) 0) long ∙ sym all)
    (λ (more : 32 ≤ count).
    let parts : count ≡ 32 + (count - 32) = omega arith in
    take-append-le 32 (le_bytes count n) zero_chunk (omega (arith, length-le_bytes count n))
    ∙ ap (λ k. take 32 (le_bytes k n)) parts ∙ take-le_bytes 32 (count - 32) n)
    (cases_lt count 32)

-- chunk i of them
pub chunk_of-le_bytes : (count n i : ℕ) → n < 256 ^ count → 32 * i ≤ count
    → packed_chunk (le_bytes count n) i ≡ le_bytes 32 (n / 256 ^ (32 * i))
chunk_of-le_bytes count n i small within =
    let parts : count ≡ 32 * i + (count - 32 * i) = omega arith in
    let power : 256 ^ count ≡ 256 ^ (32 * i) * 256 ^ (count - 32 * i) = ap (λ k. 256 ^ k) parts
    ∙ pow-add 256 (32 * i) (count - 32 * i) in
    ap (λ k. padded (drop (32 * i) (le_bytes k n))) parts
    ∙ ap padded (drop-le_bytes (32 * i) (count - 32 * i) n)
    ∙ padded-le_bytes (count - 32 * i) (n / 256 ^ (32 * i))
    ((div-lt_iff_lt-mul {k = 256 ^ (32 * i)} {x = n} {y = 256 ^ (count - 32 * i)}
    (positive (32 * i))).1 (omega (arith, power)))
  where
    positive : (k : ℕ) → 0 < 256 ^ k
    positive zero = omega arith
    positive (suc k) = omega (arith, positive k)
