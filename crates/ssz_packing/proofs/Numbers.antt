-- A number as a chunk.
use Rattle.std.proofs.Common.{◌≡◌, ℕ, zero, suc, ◌+◌, ◌/◌, ◌%◌, ◌^◌, ◌<◌, ◌∷◌, ◌++◌, replicate, refl, ap, ap₂, ◌∙◌, arith}
use Rattle.ssz_bytes.specs.Bytes.{le_bytes}

-- the bytes of a small number are zeros at the end
pub le_bytes-zeros : (count more n : ℕ) → n < 256 ^ count → le_bytes (count + more) n
    ≡ le_bytes count n ++ replicate more 0
le_bytes-zeros zero more n small = none more n (omega arith)
  where
    none : (more n : ℕ) → n ≡ 0 → le_bytes (zero + more) n ≡ replicate more 0
    none more n is = ap₂ le_bytes (let e : zero + more ≡ more = omega arith in e) is ∙ zeros more
      where
        zeros : (more : ℕ) → le_bytes more 0 ≡ replicate more 0
        zeros zero = refl
        zeros (suc more) = ap (λ bytes. 0 ∷ bytes) (zeros more)
le_bytes-zeros (suc count) more n small =
    let longer : suc count + more ≡ suc (count + more) = omega arith in
    ap (λ k. le_bytes k n) longer
    ∙ ap (λ bytes. n % 256 ∷ bytes) (le_bytes-zeros count more (n / 256) (omega arith))
