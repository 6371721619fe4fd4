-- Bits, packed.
use Rattle.std.proofs.Common.{◌≡◌, ℕ, zero, suc, ◌+◌, ◌*◌, ◌/◌, ◌^◌, ◌<◌, ◌≤◌, Bool, List, [], ◌∷◌, length, drop, sym, ap, ◌∙◌, arith}
use Rattle.std.proofs.Math.Nat.{div-div-eq-div-mul, zero-div}
use Rattle.ssz_basic.proofs.PutLemmas.{bit_small}
use Rattle.ssz_bytes.specs.Bytes.{le_bytes, number_of_bits, bit_value}
use Rattle.ssz_bytes.proofs.Bits.{number_of_bits_lt, power_of_bytes, power_up}
use Rattle.ssz_bytes.proofs.Numbers.{length-le_bytes}
use Rattle.ssz_value.specs.Trees.{chunks, pack_bits}
use Rattle.ssz_merkle.specs.Packing.{packed_chunk}
use Rattle.ssz_packing.proofs.ChunkLaws.{chunk_of-le_bytes}

-- the bytes of the bits
abbrev pub bytes_of_bits : List Bool → List ℕ
bytes_of_bits bs = le_bytes ((length bs + 7) / 8) (number_of_bits bs)

-- the number of the bits behind the first k
behind : (k : ℕ) (bs : List Bool) → number_of_bits bs / 2 ^ k ≡ number_of_bits (drop k bs)
behind zero bs = omega arith
behind (suc k) [] = zero-div (2 ^ suc k)
behind (suc k) (b ∷ bs) =
    let power : 2 ^ suc k ≡ 2 * 2 ^ k = omega arith in
    ap (λ p. (bit_value b + 2 * number_of_bits bs) / p) power
    ∙ sym (div-div-eq-div-mul (bit_value b + 2 * number_of_bits bs) 2 (2 ^ k))
    ∙ ap (λ n. n / 2 ^ k) (halved b)
    ∙ behind k bs
  where
    halved : (b : Bool) → (bit_value b + 2 * number_of_bits bs) / 2 ≡ number_of_bits bs
    halved b = omega (arith, bit_small b)

pub bits_fit : (bs : List Bool) → number_of_bits bs < 256 ^ ((length bs + 7) / 8)
bits_fit bs =
    let up : 2 ^ length bs ≤ 2 ^ (8 * ((length bs + 7) / 8)) =
    power_up (length bs) (8 * ((length bs + 7) / 8)) (omega arith) in
    omega (arith, number_of_bits_lt bs, up, power_of_bytes ((length bs + 7) / 8))

-- chunk i of the bytes of the bits is that of the bits behind the first 256 * i
pub bits_chunk_is : (bs : List Bool) (i : ℕ) → 256 * i < length bs
    → le_bytes 32 (number_of_bits (drop (256 * i) bs)) ≡ packed_chunk (bytes_of_bits bs) i
bits_chunk_is bs i within =
    let power : 256 ^ (32 * i) ≡ 2 ^ (256 * i) = power_of_bytes (32 * i)
    ∙ ap (λ k. 2 ^ k) (let k : 8 * (32 * i) ≡ 256 * i = omega arith in k) in
    sym (chunk_of-le_bytes ((length bs + 7) / 8) (number_of_bits bs) i (bits_fit bs) (omega arith)
    ∙ ap (λ p. le_bytes 32 (number_of_bits bs / p)) power ∙ ap (le_bytes 32) (behind (256 * i) bs))

-- all chunks of them
pub pack_bits-chunks : (bs : List Bool) (count : ℕ) → count ≡ (length bs + 255) / 256
    → chunks count (bytes_of_bits bs) ≡ pack_bits bs
pack_bits-chunks bs count is =
    ap (λ k. chunks k (bytes_of_bits bs)) (omega
    (arith, is, length-le_bytes ((length bs + 7) / 8) (number_of_bits bs)))
