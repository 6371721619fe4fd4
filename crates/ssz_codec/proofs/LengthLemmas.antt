-- Lengths that are added up part by part.
use Rattle.std.proofs.Common.{ℕ, zero, suc, ◌≡◌, ◌<◌, ◌≤◌, ◌+◌, ◌^◌, List, [], ◌∷◌, length, map, drop, get_or, slice_get, sum_by, Option, Some, None, refl, ap, ap₂, subst, ◌∙◌, arith, zero-mul, ◌*◌, sym}
use Rattle.std.proofs.lemmas.List.{drop_all}
use Rattle.std.proofs.lemmas.List.Sums.{sum_by-cons}
use Rattle.ssz_schema.specs.width.Width.TheVariants.{W8}
use Rattle.ssz_schema.specs.Types.{SszType, uint}
use Rattle.ssz_schema.specs.Sizes.{fixed_size, part_length}
use Rattle.ssz_schema.specs.Unfolding.{type_tree_at, fields_over, options_over}
use Rattle.ssz_value.specs.declared.value.Value.{Value}
use Rattle.ssz_value.specs.Values.{SszValue, number}
use Rattle.ssz_value.specs.Standing.{value_of, IsValue}
use Rattle.ssz_value.specs.Sizes.{size, fields_size, option_size}
use Rattle.ssz_schema.proofs.WalkFields.{drop_at}
use Rattle.ssz_value.proofs.PartLemmas.{Part, size_at}
use Rattle.ssz_value.specs.Shapes.{AreFields}
use Rattle.ssz_value.specs.Written.{capped}
use Rattle.std.specs.List.{AllByRecursion}
use Rattle.ssz_schema.specs.format.Format.{Format}
use Rattle.ssz_schema.specs.Legal.{IsLegal}
use Rattle.ssz_parts.proofs.PartSizes.{fixed_part}

-- so many of one fixed size
pub fixed_sum : (format : Format) (t : SszType) (z : ℕ) (vs : List Value) → IsLegal format t
    → fixed_size t ≡ Some z → AllByRecursion (IsValue t) vs
    → sum_by (λ v. part_length (fixed_size t) (size t v)) (map value_of vs) ≡ length vs * z
fixed_sum format t z [] legal fixed all = sym (zero-mul z)
fixed_sum format t z (v ∷ vs) legal fixed all =
    sum_by-cons (λ v. part_length (fixed_size t) (size t v)) (value_of v) (map value_of vs)
    ∙ omega (
      arith,
      fixed_part format t z (value_of v) legal fixed all.0.fits,
      fixed_sum format t z vs legal fixed all.1,
    )

-- the sum so far and that of the parts from i on
pub record SumFrom (f : SszValue → ℕ) (parts : List Value) (i total : ℕ) : Type 0 where
  pub all : capped (total + sum_by f (map value_of (drop i parts)))
      ≡ capped (sum_by f (map value_of parts))
  pub small : total < 2 ^ 64

pub SumFrom-more : (f : SszValue → ℕ) (parts : List Value) (i total next : ℕ) (v : Value)
    → SumFrom f parts i total → i < length parts → v ≡ get_or parts i v
    → next ≡ capped (total + capped (f (value_of v))) → SumFrom f parts (i + 1) next
SumFrom-more f parts i total next v h below e is =
    let here : sum_by f (map value_of (drop i parts))
    ≡ f (value_of v) + sum_by f (map value_of (drop (i + 1) parts)) =
    ap (λ vs. sum_by f (map value_of vs)) (drop_at parts i v below e)
    ∙ sum_by-cons f (value_of v) (map value_of (drop (i + 1) parts)) in
    record { all = omega (arith, h.all, h.small, here, is); small = omega (arith, is) }

pub SumFrom-end : (f : SszValue → ℕ) (parts : List Value) (i total : ℕ) → SumFrom f parts i total
    → length parts ≤ i → total ≡ capped (sum_by f (map value_of parts))
SumFrom-end f parts i total h all =
    omega (arith, h.all, h.small, ap (λ vs. sum_by f (map value_of vs)) (drop_all i parts all))

-- each byte is an element of length 1
pub sum_of_bytes : (run : List ℕ)
    → sum_by (λ v. part_length (fixed_size (uint W8)) (size (uint W8) v)) (map number run)
    ≡ length run
sum_of_bytes [] = refl
sum_of_bytes (b ∷ run) =
    sum_by-cons (λ v. part_length (fixed_size (uint W8)) (size (uint W8) v)) (number b)
    (map number run) ∙ omega (arith, sum_of_bytes run)

-- the same of fields
pub record FieldSumFrom (trees : List SszType) (fields : List Part) (parts : List Value)
    (i total : ℕ) : Type 0 where
  pub all : capped (total + fields_size (fields_over trees (drop i fields))
      (map value_of (drop i parts)))
      ≡ capped (fields_size (fields_over trees fields) (map value_of parts))
  pub small : total < 2 ^ 64
  pub left : AreFields (fields_over trees (drop i fields)) (drop i parts)

pub FieldSumFrom-more : (trees : List SszType) (fields : List Part) (parts : List Value)
    (i total next : ℕ) (part : Part) (v : Value) → FieldSumFrom trees fields parts i total
    → i < length fields → i < length parts → part ≡ get_or fields i part → v ≡ get_or parts i v
    → next ≡ capped (total + capped
    (part_length (size_at trees part) (size (type_tree_at trees part.1) (value_of v))))
    → FieldSumFrom trees fields parts (i + 1) next
FieldSumFrom-more trees fields parts i total next part v h below within e is next_is =
    let fields_here = drop_at fields i part below e in
    let parts_here = drop_at parts i v within is in
    let here : fields_size (fields_over trees (drop i fields)) (map value_of (drop i parts))
    ≡ part_length (size_at trees part) (size (type_tree_at trees part.1) (value_of v)) + fields_size
    (fields_over trees (drop (i + 1) fields)) (map value_of (drop (i + 1) parts)) =
    ap₂ (λ fs vs. fields_size (fields_over trees fs) (map value_of vs)) fields_here parts_here in
    let both : AreFields (fields_over trees (part ∷ drop (i + 1) fields)) (v ∷ drop (i + 1) parts) =
    subst (λ (vs : List Value). AreFields (fields_over trees (part ∷ drop (i + 1) fields)) vs)
    parts_here (subst (λ (fs : List Part). AreFields (fields_over trees fs) (drop i parts))
    fields_here h.left) in
    record {
      all = omega (arith, h.all, h.small, here, next_is);
      small =
          omega (arith, next_is);
      left = both.1;
    }

pub FieldSumFrom-value : (trees : List SszType) (fields : List Part) (parts : List Value)
    (i total : ℕ) (part : Part) (v : Value) → FieldSumFrom trees fields parts i total
    → i < length fields → i < length parts → part ≡ get_or fields i part → v ≡ get_or parts i v
    → IsValue (type_tree_at trees part.1) v
FieldSumFrom-value trees fields parts i total part v h below within e is =
    let both : AreFields (fields_over trees (part ∷ drop (i + 1) fields)) (v ∷ drop (i + 1) parts) =
    subst (λ (vs : List Value). AreFields (fields_over trees (part ∷ drop (i + 1) fields)) vs)
    (drop_at parts i v within is)
    (subst (λ (fs : List Part). AreFields (fields_over trees fs) (drop i parts))
    (drop_at fields i part below e) h.left) in
    both.0

pub FieldSumFrom-end : (trees : List SszType) (fields : List Part) (parts : List Value)
    (i total : ℕ) → FieldSumFrom trees fields parts i total → length fields ≤ i
    → total ≡ capped (fields_size (fields_over trees fields) (map value_of parts))
FieldSumFrom-end trees fields parts i total h all =
    omega (
      arith,
      h.all,
      h.small,
      ap
          (λ fs. fields_size (fields_over trees fs) (map value_of (drop i parts)))
          (drop_all i fields all),
    )

-- the size of the value of an option
pub option_size_at : (trees : List SszType) (ids : List (Option ℕ)) (k id : ℕ) (w : SszValue)
    → Some (Some id) ≡ slice_get ids k
    → option_size (options_over trees ids) k w ≡ size (type_tree_at trees id) w
option_size_at trees [] k id w e = cc
option_size_at trees (None ∷ ids) zero id w e = cc
option_size_at trees (Some other ∷ ids) zero id w e = let same : other ≡ id =
    cc in ap (λ n. size (type_tree_at trees n) w) same
option_size_at trees (None ∷ ids) (suc k) id w e = option_size_at trees ids k id w e
option_size_at trees (Some other ∷ ids) (suc k) id w e = option_size_at trees ids k id w e
