-- Rows of which the first chunks were made into pairs.
use Rattle.std.proofs.Common.{◌≡◌, ℕ, ◌+◌, ◌*◌, ◌<◌, ◌≤◌, List, [], ◌++◌, length, take, ap, ap₂, ◌∙◌, arith, length-take}
use Rattle.std.proofs.lemmas.List.{get_or-take, get_or_append_left}
use Rattle.ssz_chunk.specs.Rows.{IsHalved, chunk_in_row, pair_in_row}
use Rattle.ssz_chunk.specs.declared.Chunk.{Chunk}

-- the pairs of a row, which stand before what is left of it
pub halved_row : (p : List ℕ → List ℕ → List ℕ) (row half rest : List Chunk) (n : ℕ)
    → 2 * n ≤ length row → IsHalved p (take (2 * n) row) half
    → length half ≡ length (take (2 * n) row)
    → (j : ℕ) → j < n → chunk_in_row (half ++ rest) j ≡ pair_in_row p row j
halved_row p row half rest n fits is long j below =
    let count : length (take (2 * n) row) ≡ 2 * n = omega (arith, length-take (2 * n) row) in
    let d : Chunk = record { 0 = [] } in
    let left : chunk_in_row (take (2 * n) row) (2 * j) ≡ chunk_in_row row (2 * j) =
    ap (λ (c : Chunk). c.0) (get_or-take (2 * n) row (2 * j) d (omega arith)) in
    let right : chunk_in_row (take (2 * n) row) (2 * j + 1) ≡ chunk_in_row row (2 * j + 1) =
    ap (λ (c : Chunk). c.0) (get_or-take (2 * n) row (2 * j + 1) d (omega arith)) in
    ap (λ (c : Chunk). c.0) (get_or_append_left half rest d j (omega arith))
    ∙ is.made j (omega arith) ∙ ap₂ p left right
