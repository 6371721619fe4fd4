-- Elements of one byte.
use Rattle.std.proofs.Common.{ℕ, zero, suc, ◌+◌, ◌-◌, ◌*◌, ◌<◌, ◌≡◌, List, [], ◌∷◌, length, map, replicate, take, drop, get_or, slice_range, Some, sym, ap, ap₂, ◌∙◌, arith}
use Rattle.std.proofs.lemmas.List.{drop_more, drop_all}
use Rattle.ssz_schema.specs.width.Width.TheVariants.{W8}
use Rattle.ssz_schema.specs.Types.{uint}
use Rattle.ssz_value.specs.Values.{number}
use Rattle.ssz_value.specs.Faults.{scopes, scope_bytes}
use Rattle.ssz_value.specs.Reading.{value_in, elements_in}

-- the byte at a place
one_byte : (b : List ℕ) (place : ℕ) → place < length b
    → slice_range b place (place + 1) ≡ get_or b place 0 ∷ []
one_byte b place h =
    let one : place + 1 - place ≡ 1 = omega arith in
    ap (λ n. take n (drop place b)) one ∙ ap (take 1) (drop_more b place 0 h)

bytes_read_from : (n place : ℕ) (b : List ℕ) → place + n ≡ length b
    → map (value_in (uint W8)) (scope_bytes (scopes (replicate n (Some 1)) place b))
    ≡ map number (drop place b)
bytes_read_from zero place b e = sym (ap (map number) (drop_all place b (omega arith)))
bytes_read_from (suc n) place b e =
    let same : get_or b place 0 + 256 * 0 ≡ get_or b place 0 = omega arith in
    ap₂ (λ v vs. v ∷ vs) (ap (value_in (uint W8)) (one_byte b place (omega arith))
    ∙ ap number same) (bytes_read_from n (place + 1) b (omega arith))
    ∙ sym (ap (map number) (drop_more b place 0 (omega arith)))

pub bytes_read : (count : ℕ) (b : List ℕ) → length b ≡ count
    → map (value_in (uint W8)) (elements_in (Some 1) count b) ≡ map number b
bytes_read count b e = bytes_read_from count 0 b (omega arith)
