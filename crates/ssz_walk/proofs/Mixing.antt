-- The number that is mixed in, by the first 8 bytes of its chunk.
use Rattle.std.proofs.Common.{◌≡◌, ℕ, ◌^◌, ◌<◌, List, length, take, ap, ◌∙◌, arith, length-take}
use Rattle.ssz_bytes.specs.Bytes.{IsBytes, le_number}
use Rattle.ssz_bytes.proofs.Numbers.{le_number-le_bytes, le_number_lt, IsBytes-take}
use Rattle.ssz_value.specs.Trees.{number_chunk}

pub small_number : (bytes chunk : List ℕ) → bytes ≡ chunk → IsBytes chunk → length chunk ≡ 32
    → le_number (take 8 bytes) < 2 ^ 64
small_number bytes chunk same are count =
    let long : length (take 8 chunk) ≡ 8 = omega (arith, length-take 8 chunk) in
    let below = le_number_lt (take 8 chunk) (IsBytes-take 8 chunk are) in
    omega (arith, below, ap (λ k. 256 ^ k) long, ap (λ bs. le_number (take 8 bs)) same)

pub number_of_chunk : (bytes : List ℕ) (n : ℕ) → bytes ≡ number_chunk n → n < 2 ^ 64
    → le_number (take 8 bytes) ≡ n
number_of_chunk bytes n is small =
    let few : n < 256 ^ 8 = omega arith in
    ap (λ bs. le_number (take 8 bs)) is ∙ le_number-le_bytes 8 n few
