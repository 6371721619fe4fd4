-- Where the part of a field lies.
use Rattle.std.proofs.Common.{ℕ, ◌+◌, ◌<◌, ◌≤◌, ◌≡◌, List, length, drop, get_or, Option, ap, subst, arith}
use Rattle.ssz_schema.specs.Types.{SszType}
use Rattle.ssz_schema.specs.Sizes.{head_size}
use Rattle.ssz_value.specs.Encoding.{heads_length}
use Rattle.ssz_value.proofs.PartLemmas.{Part, sizes_of, size_at, sizes_from}
use Rattle.ssz_parts.specs.Ranges.{part_range}
use Rattle.ssz_parts.proofs.FieldLemmas.{FieldsFrom, InRange}

-- it lies within the bytes
pub field_range : (trees : List SszType) (parts : List Part) (s : ℕ) (b : List ℕ)
    (i place from to : ℕ) (part : Part) → FieldsFrom trees parts s b i place → i < length parts
    → part ≡ get_or parts i part
    → (from, to) ≡ part_range (size_at trees part) (sizes_of trees (drop (i + 1) parts)) place b
    → (from ≤ to) × (to ≤ length b)
field_range trees parts s b i place from to part h below e is =
    let range = subst (λ (sizes : List (Option ℕ)). InRange sizes place b)
    (sizes_from trees parts i part below e) h.range in
    let first = ap (λ (r : ℕ × ℕ). r.0) is in
    let last = ap (λ (r : ℕ × ℕ). r.1) is in (
      omega (arith, range.0, first, last),
      omega (arith, range.1, last),
    )

-- its fixed part, and those behind it, too
pub field_room : (trees : List SszType) (parts : List Part) (s : ℕ) (b : List ℕ)
    (i place : ℕ) (part : Part) → FieldsFrom trees parts s b i place → i < length parts
    → part ≡ get_or parts i part
    → place + head_size (size_at trees part)
    + heads_length (sizes_of trees (drop (i + 1) parts)) ≤ length b
field_room trees parts s b i place part h below e =
    omega (arith, h.room, ap heads_length (sizes_from trees parts i part below e))
