-- Sizes of types.
use Rattle.std.proofs.Common.{ℕ, ◌+◌, ◌*◌, ◌/◌, ◌^◌, ◌<◌, ◌≤◌, ◌≡◌, List, ◌∷◌, Option, Some, None, option_map, refl, ap, ap₂, ◌∙◌, subst, arith, mul-pos, mul-le-mul_left}
use Rattle.ssz_types.specs.Types.{SszType, Fields, uint, boolean, container, vector, list, bitvector, bitlist, union, no_fields, field}
use Rattle.ssz_types.specs.declared.format.Format.{Format}
use Rattle.ssz_types.specs.Sizes.{byte_count, fixed_size, part_sizes, total_size, default_length, default_fields_length, part_length, field_count}
use Rattle.ssz_types.specs.Legal.{IsLegal, AreLegalFields, IsSize}
use Rattle.ssz_types.specs.declared.width.Width.{Width}
use Rattle.ssz_types.specs.declared.width.Width.TheVariants.{W8, W16, W32, W64, W128, W256}
use Rattle.std.specs.Option.{ForSome}

pub some_is : (a b : ℕ) → Some a ≡ Some b → a ≡ b
some_is a b e = cc

pub none_is : (b : ℕ) → None ≡ Some b → ⊥
none_is b e = cc

scaled : (n z length : ℕ) (size : Option ℕ) → ((y : ℕ) → size ≡ Some y → length ≡ y)
    → option_map (λ y. n * y) size ≡ Some z → n * part_length size length ≡ z
scaled n z length None h e = cc
scaled n z length (Some y) h e = ap (λ m. n * m) (h y refl) ∙ some_is (n * y) z e

first_fixed : (sizes : List (Option ℕ)) (z length rest : ℕ) (size : Option ℕ)
    → ((y : ℕ) → size ≡ Some y → length ≡ y) → ((y : ℕ) → total_size sizes ≡ Some y → rest ≡ y)
    → total_size (size ∷ sizes) ≡ Some z → part_length size length + rest ≡ z
first_fixed sizes z length rest None h k e = cc
first_fixed sizes z length rest (Some y) h k e = go (total_size sizes) k e
  where
    go : (others : Option ℕ) → ((x : ℕ) → others ≡ Some x → rest ≡ x)
        → option_map (λ n. y + n) others ≡ Some z → length + rest ≡ z
    go None k e = cc
    go (Some x) k e = ap₂ ◌+◌ (h y refl) (k x refl) ∙ some_is (y + x) z e

mutual
  -- the default of a fixed-size type has its size
  pub default_length-fixed : (t : SszType) (z : ℕ) → fixed_size t ≡ Some z → default_length t ≡ z
  default_length-fixed (uint w) z e = some_is (byte_count w) z e
  default_length-fixed boolean z e = some_is 1 z e
  default_length-fixed (container fs) z e = default_fields_length-fixed fs z e
  default_length-fixed (vector elem n) z e =
      scaled n z (default_length elem) (fixed_size elem) (default_length-fixed elem) e
  default_length-fixed (list elem limit) z e = absurd (none_is z e)
  default_length-fixed (bitvector n) z e = some_is ((n + 7) / 8) z e
  default_length-fixed (bitlist limit) z e = absurd (none_is z e)
  default_length-fixed (union os) z e = absurd (none_is z e)

  pub default_fields_length-fixed : (fs : Fields) (z : ℕ) → total_size (part_sizes fs) ≡ Some z
      → default_fields_length fs ≡ z
  default_fields_length-fixed no_fields z e = some_is 0 z e
  default_fields_length-fixed (field name t fs) z e =
      first_fixed (part_sizes fs) z (default_length t) (default_fields_length fs) (fixed_size t)
      (default_length-fixed t) (default_fields_length-fixed fs) e

-- the size of a vector, by the length of its default
pub vector_size : (t : SszType) (n : ℕ)
    → option_map (λ _. n * part_length (fixed_size t) (default_length t)) (fixed_size t)
    ≡ option_map (λ z. n * z) (fixed_size t)
vector_size t n = go (fixed_size t) (default_length-fixed t)
  where
    go : (size : Option ℕ) → ((z : ℕ) → size ≡ Some z → default_length t ≡ z)
        → option_map (λ _. n * part_length size (default_length t)) size
        ≡ option_map (λ z. n * z) size
    go None h = refl
    go (Some z) h = ap (λ m. Some (n * m)) (h z refl)

first_positive : (sizes : List (Option ℕ)) (z : ℕ) (size : Option ℕ)
    → ((y : ℕ) → size ≡ Some y → 0 < y) → total_size (size ∷ sizes) ≡ Some z → 0 < z
first_positive sizes z None h e = cc
first_positive sizes z (Some y) h e = go (total_size sizes) e
  where
    go : (others : Option ℕ) → option_map (λ n. y + n) others ≡ Some z → 0 < z
    go None e = cc
    go (Some x) e = omega (arith, h y refl, some_is (y + x) z e)

scaled_positive : (n z : ℕ) (size : Option ℕ) → 0 < n → ((y : ℕ) → size ≡ Some y → 0 < y)
    → option_map (λ y. n * y) size ≡ Some z → 0 < z
scaled_positive n z None some h e = cc
scaled_positive n z (Some y) some h e =
    subst (λ (m : ℕ). 0 < m) (some_is (n * y) z e) (mul-pos some (h y refl))

byte_count_positive : (w : Width) → 0 < byte_count w
byte_count_positive W8 = omega arith
byte_count_positive W16 = omega arith
byte_count_positive W32 = omega arith
byte_count_positive W64 = omega arith
byte_count_positive W128 = omega arith
byte_count_positive W256 = omega arith

mutual
  -- a fixed-size type has a byte at least
  pub fixed_size-positive : (format : Format) (t : SszType) → IsLegal format t → (z : ℕ)
      → fixed_size t ≡ Some z → 0 < z
  fixed_size-positive format (uint w) legal z e =
      subst (λ (n : ℕ). 0 < n) (some_is (byte_count w) z e) (byte_count_positive w)
  fixed_size-positive format boolean legal z e = omega (arith, some_is 1 z e)
  fixed_size-positive format (container fs) legal z e =
      fields_positive format fs legal.1 legal.0 z e
  fixed_size-positive format (vector elem n) legal z e =
      scaled_positive n z (fixed_size elem) legal.1 (fixed_size-positive format elem legal.0) e
  fixed_size-positive format (list elem limit) legal z e = absurd (none_is z e)
  fixed_size-positive format (bitvector n) legal z e =
      omega (arith, some_is ((n + 7) / 8) z e, legal.0)
  fixed_size-positive format (bitlist limit) legal z e = absurd (none_is z e)
  fixed_size-positive format (union os) legal z e = absurd (none_is z e)

  pub fields_positive : (format : Format) (fs : Fields) → AreLegalFields format fs
      → 0 < field_count fs → (z : ℕ) → total_size (part_sizes fs) ≡ Some z → 0 < z
  fields_positive format no_fields legal some z e = absurd (omega (arith, some))
  fields_positive format (field name t fs) legal some z e =
      first_positive (part_sizes fs) z (fixed_size t) (fixed_size-positive format t legal.1) e

default_within : (format : Format) (t : SszType) → IsLegal format t → default_length t ≤ 2 ^ 24
default_within format (uint W8) legal = omega arith
default_within format (uint W16) legal = omega arith
default_within format (uint W32) legal = omega arith
default_within format (uint W64) legal = omega arith
default_within format (uint W128) legal = omega arith
default_within format (uint W256) legal = omega arith
default_within format boolean legal = omega arith
default_within format (container fs) legal = legal.3.default_length
default_within format (vector elem n) legal = legal.2.default_length
default_within format (list elem limit) legal = legal.2.default_length
default_within format (bitvector n) legal = legal.1.default_length
default_within format (bitlist limit) legal = legal.1.default_length
default_within format (union os) legal = legal.4.default_length

pub ForSome-fixed_size : (format : Format) (t : SszType) → IsLegal format t
    → ForSome (fixed_size t) IsSize
ForSome-fixed_size format t legal z e = record {
  some = fixed_size-positive format t legal z e;
  few = omega (arith, default_within format t legal, default_length-fixed t z e);
}

pub ruleset sizes = (ForSome-fixed_size)

-- a part adds a byte at least to the default of the whole
pub part_length-positive : (format : Format) (t : SszType) → IsLegal format t
    → 1 ≤ part_length (fixed_size t) (default_length t)
part_length-positive format t legal =
    go (fixed_size t) (default_length t)
    (λ z e. omega (arith, fixed_size-positive format t legal z e, default_length-fixed t z e))
  where
    go : (size : Option ℕ) (length : ℕ) → ((z : ℕ) → size ≡ Some z → 0 < length)
        → 1 ≤ part_length size length
    go None length h = omega arith
    go (Some z) length h = h z refl

-- a legal vector has few elements
pub vector_few : (format : Format) (t : SszType) (n : ℕ) → IsLegal format (vector t n)
    → n ≤ 2 ^ 24
vector_few format t n legal =
    let long = mul-le-mul_left n (part_length-positive format t legal.0) in
    omega (arith, legal.2.default_length, long)

-- fields are no more than the bytes of their defaults
pub fields_few : (format : Format) (fs : Fields) → AreLegalFields format fs
    → field_count fs ≤ default_fields_length fs
fields_few format no_fields legal = omega arith
fields_few format (field name t fs) legal =
    omega (arith, part_length-positive format t legal.1, fields_few format fs legal.2)
