-- The chunks of bytes, one by one.
use Rattle.std.proofs.Common.{◌≡◌, ℕ, zero, suc, ◌+◌, ◌*◌, List, [], ◌∷◌, ◌++◌, length, drop, refl, ap, ◌∙◌, arith}
use Rattle.std.proofs.lemmas.List.{drop-drop}
use Rattle.ssz_value.specs.Trees.{chunks}
use Rattle.ssz_merkle.specs.Packing.{packed_chunk}

pub length-chunks : (count : ℕ) (bytes : List ℕ) → length (chunks count bytes) ≡ count
length-chunks zero bytes = refl
length-chunks (suc count) bytes = omega (arith, length-chunks count (drop 32 bytes))

-- one chunk more
pub chunks-suc : (count : ℕ) (bytes : List ℕ) → chunks (suc count) bytes ≡ chunks count bytes
    ++ packed_chunk bytes count ∷ []
chunks-suc zero bytes = refl
chunks-suc (suc count) bytes =
    let place : 32 + 32 * count ≡ 32 * suc count = omega arith in
    ap (λ rest. packed_chunk bytes 0 ∷ rest) (chunks-suc count (drop 32 bytes)
    ∙ ap (λ (b : List ℕ). chunks count (drop 32 bytes) ++ packed_chunk b 0 ∷ [])
    (drop-drop (32 * count) 32 bytes ∙ ap (λ n. drop n bytes) place))
