-- Where the encoding of a part stands in that of the whole, by sums of sizes (simple-serialize.md,
-- Serialization). A bit and a length have no encoding there.
use Rattle.std.specs.Prelude.{ℕ, ◌+◌, List, [], ◌∷◌, length, map, replicate, slice_get, Option, Some, None, option_map, option_and_then}
use Rattle.ssz_schema.specs.declared.path.PathStep.{PathStep}
use Rattle.ssz_schema.specs.declared.path.PathStep.TheVariants.{Field, Index, Selector, Option as Chosen}
use Rattle.ssz_schema.specs.Types.{SszType, Fields, container, vector, list, union, field}
use Rattle.ssz_schema.specs.Sizes.{fixed_size, part_sizes}
use Rattle.ssz_schema.specs.Sizes.{offset_size}
use Rattle.ssz_schema.specs.Paths.{Path, step_type, field_number}
use Rattle.ssz_value.specs.Values.{SszValue, sequence, chosen, items}
use Rattle.ssz_value.specs.Encoding.{heads_length}
use Rattle.ssz_value.specs.Sizes.{size, option_size}
use Rattle.ssz_value.specs.Parts.{step_part}

-- A stretch of an encoding: where it begins, and its length.
abbrev pub Span : Type 0
Span = ℕ × ℕ

-- The stretches of parts of these fixed sizes (None for a variable-size part) and lengths. A
-- fixed-size part stands among the fixed parts, of which the next begins at place, another among
-- the variable parts, of which the next begins at offset.
abbrev pub spans_from : List (Option ℕ) → List ℕ → ℕ → ℕ → List Span
spans_from (Some z ∷ sizes) (n ∷ lengths) place offset =
    (place, n) ∷ spans_from sizes lengths (place + z) offset
spans_from (None ∷ sizes) (n ∷ lengths) place offset =
    (offset, n) ∷ spans_from sizes lengths (place + offset_size) (offset + n)
spans_from _ _ place offset = []

-- the variable parts begin where the fixed parts of all end
abbrev pub spans : List (Option ℕ) → List ℕ → List Span
spans sizes lengths = spans_from sizes lengths 0 (heads_length sizes)

-- the length of each field's encoding
abbrev pub field_lengths : Fields → List SszValue → List ℕ
field_lengths (field name t fs) (v ∷ vs) = size t v ∷ field_lengths fs vs
field_lengths _ _ = []

abbrev pub element_spans : SszType → List SszValue → List Span
element_spans t vs = spans (replicate (length vs) (fixed_size t)) (map (size t) vs)

-- the stretch of the part that a step leads to; the selector of a union is its first byte
abbrev pub step_span : SszType → SszValue → PathStep → Option Span
step_span (container fs) (sequence vs) (Field name) =
    slice_get (spans (part_sizes fs) (field_lengths fs (items vs))) (field_number fs name)
step_span (vector elem n) (sequence vs) (Index i) = slice_get (element_spans elem (items vs)) i
step_span (list elem limit) (sequence vs) (Index i) = slice_get (element_spans elem (items vs)) i
step_span (union os) v Selector = Some (0, 1)
step_span (union os) (chosen k v) (Chosen j) = Some (1, option_size os k v)
step_span _ _ _ = None

-- a stretch that is counted from the start of another one
abbrev pub within : Span → Span → Span
within outer inner = (outer.0 + inner.0, inner.1)

-- the stretch of the part at a path that fits the type, if the part is present
abbrev pub span_of_part : SszType → SszValue → Path → Option Span
span_of_part t v [] = Some (0, size t v)
span_of_part t v (step ∷ path) =
    option_and_then (λ span. option_and_then (λ u. option_and_then
    (λ w. option_map (within span) (span_of_part u w path)) (step_part t v step))
    (step_type t step))
    (step_span t v step)
