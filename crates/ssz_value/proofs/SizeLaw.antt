-- The length of an encoding is the size, and the default is a value of its type.
use Rattle.std.proofs.Common.{ℕ, zero, suc, ◌+◌, ◌*◌, ◌/◌, ◌<◌, ◌≡◌, false, List, [], ◌∷◌, length, map, replicate, sum_by, Option, Some, None, refl, sym, ap, ap₂, ◌∙◌, subst, arith, length-append, zero-mul}
use Rattle.std.specs.List.{AllByRecursion}
use Rattle.std.proofs.lemmas.List.{length-replicate}
use Rattle.std.proofs.lemmas.List.Sums.{sum_by-cons}
use Rattle.ssz_schema.specs.width.Width.{Width}
use Rattle.ssz_schema.specs.width.Width.TheVariants.{W8, W16, W32, W64, W128, W256}
use Rattle.ssz_schema.specs.format.Format.{Format}
use Rattle.ssz_schema.specs.Types.{SszType, Fields, Options, uint, boolean, container, vector, list, bitvector, bitlist, union, no_fields, field, no_options, none_option, option}
use Rattle.ssz_schema.specs.Legal.{IsLegal, AreLegalFields, AreLegalOptions}
use Rattle.ssz_schema.specs.Sizes.{fixed_size, part_sizes, part_length, option_count, default_length, default_fields_length, default_option_length}
use Rattle.ssz_value.specs.Laws.{DefaultsHaveLength}
use Rattle.ssz_value.specs.Values.{SszValue, sequence, bits, chosen, chosen_none, items, Fits, FitFields, FitsOption, FitsWidth}
use Rattle.ssz_value.specs.Encoding.{serialize, heads, bodies, joined, heads_length, field_encodings, option_encoding}
use Rattle.ssz_value.specs.Defaults.{default_of, default_number, default_fields, default_option}
use Rattle.ssz_value.specs.Sizes.{size, fields_size, option_size}
use Rattle.ssz_bytes.proofs.Numbers.{length-le_bytes, IsBytes-le_bytes}
use Rattle.ssz_value.proofs.Basic.{number_sized, truth_sized}
use Rattle.ssz_value.proofs.Sequences.{items-values}

-- what parts add to the whole
parts_length : List (Option ℕ) → List (List ℕ) → ℕ
parts_length (s ∷ sizes) (p ∷ parts) = part_length s (length p) + parts_length sizes parts
parts_length _ _ = 0

heads_and_bodies : (sizes : List (Option ℕ)) (parts : List (List ℕ)) (offset : ℕ)
    → length (heads sizes parts offset) + length (bodies sizes parts) ≡ parts_length sizes parts
unfolding parts_length
heads_and_bodies [] parts offset = refl
heads_and_bodies (Some z ∷ sizes) [] offset = refl
heads_and_bodies (None ∷ sizes) [] offset = refl
heads_and_bodies (Some z ∷ sizes) (p ∷ parts) offset =
    omega (arith, heads_and_bodies sizes parts offset, length-append p (heads sizes parts offset))
heads_and_bodies (None ∷ sizes) (p ∷ parts) offset =
    omega (
      arith,
      heads_and_bodies sizes parts (offset + length p),
      length-append p
          (bodies sizes parts),
    )

length-joined_parts : (sizes : List (Option ℕ)) (parts : List (List ℕ))
    → length (joined sizes parts) ≡ parts_length sizes parts
length-joined_parts sizes parts =
    length-append (heads sizes parts (heads_length sizes)) (bodies sizes parts)
    ∙ heads_and_bodies sizes parts (heads_length sizes)

-- the length of the encoding of each value is this
HasLengths : (t : SszType) → (SszValue → ℕ) → List SszValue → Type 0
HasLengths t f vs = AllByRecursion (λ v. length (serialize t v) ≡ f v) vs

alike_length : (t : SszType) (s : Option ℕ) (f : SszValue → ℕ) (vs : List SszValue)
    → HasLengths t f vs → parts_length (replicate (length (map (serialize t) vs)) s)
    (map (serialize t) vs)
    ≡ sum_by (λ v. part_length s (f v)) vs
unfolding parts_length HasLengths
alike_length t s f [] h = refl
alike_length t s f (v ∷ vs) h =
    ap₂ (λ a b. part_length s a + b) h.0 (alike_length t s f vs h.1)
    ∙ sym (sum_by-cons (λ v. part_length s (f v)) v vs)

-- by the law at one type
pub record IsMeasured (t : SszType) : Type 0 where
  pub length_is : (v : SszValue) → Fits t v → length (serialize t v) ≡ size t v

have_lengths : (t : SszType) → IsMeasured t → (vs : List SszValue) → AllByRecursion (Fits t) vs
    → HasLengths t (size t) vs
unfolding HasLengths
have_lengths t law [] fit = tt
have_lengths t law (v ∷ vs) fit = (law.length_is v fit.0, have_lengths t law vs fit.1)

vector_length : (t : SszType) (n : ℕ) → IsMeasured t → (v : SszValue) → Fits (vector t n) v
    → length (serialize (vector t n) v) ≡ size (vector t n) v
vector_length t n law (sequence vs) fit =
    length-joined_parts (replicate (length (map (serialize t) (items vs))) (fixed_size t))
    (map (serialize t) (items vs))
    ∙ alike_length t (fixed_size t) (size t) (items vs) (have_lengths t law (items vs) fit.1)
vector_length t n law _ fit = absurd fit

list_length : (t : SszType) (n : ℕ) → IsMeasured t → (v : SszValue) → Fits (list t n) v
    → length (serialize (list t n) v) ≡ size (list t n) v
list_length t n law (sequence vs) fit =
    length-joined_parts (replicate (length (map (serialize t) (items vs))) (fixed_size t))
    (map (serialize t) (items vs))
    ∙ alike_length t (fixed_size t) (size t) (items vs) (have_lengths t law (items vs) fit.1)
list_length t n law _ fit = absurd fit

bitvector_length : (n : ℕ) (v : SszValue) → Fits (bitvector n) v
    → length (serialize (bitvector n) v) ≡ size (bitvector n) v
bitvector_length n (bits bs) fit = length-le_bytes ((n + 7) / 8) _
bitvector_length n _ fit = absurd fit

bitlist_length_is : (n : ℕ) (v : SszValue) → Fits (bitlist n) v
    → length (serialize (bitlist n) v) ≡ size (bitlist n) v
bitlist_length_is n (bits bs) fit = length-le_bytes (length bs / 8 + 1) _
bitlist_length_is n _ fit = absurd fit

container_length : (fs : Fields)
    → ((vs : List SszValue) → FitFields fs vs
    → parts_length (part_sizes fs) (field_encodings fs vs) ≡ fields_size fs vs) → (v : SszValue)
    → Fits (container fs) v → length (serialize (container fs) v) ≡ size (container fs) v
container_length fs law (sequence vs) fit =
    length-joined_parts (part_sizes fs) (field_encodings fs (items vs)) ∙ law (items vs) fit
container_length fs law _ fit = absurd fit

field_length : (name : List ℕ) (t : SszType) (fs : Fields) → IsMeasured t
    → ((vs : List SszValue) → FitFields fs vs
    → parts_length (part_sizes fs) (field_encodings fs vs) ≡ fields_size fs vs)
    → (vs : List SszValue) → FitFields (field name t fs) vs
    → parts_length (part_sizes (field name t fs)) (field_encodings (field name t fs) vs)
    ≡ fields_size (field name t fs) vs
unfolding parts_length
field_length name t fs law laws [] fit = absurd fit
field_length name t fs law laws (v ∷ vs) fit =
    ap₂ (λ a b. part_length (fixed_size t) a + b) (law.length_is v fit.0) (laws vs fit.1)

no_field_length : (vs : List SszValue) → FitFields no_fields vs
    → parts_length [] (field_encodings no_fields vs) ≡ fields_size no_fields vs
unfolding parts_length
no_field_length [] fit = refl
no_field_length (v ∷ vs) fit = absurd fit

option_length : (t : SszType) (os : Options) → IsMeasured t
    → ((k : ℕ) (v : SszValue) → FitsOption os k v
    → length (option_encoding os k v) ≡ option_size os k v) → (k : ℕ) (v : SszValue)
    → FitsOption (option t os) k v
    → length (option_encoding (option t os) k v) ≡ option_size (option t os) k v
option_length t os law laws zero v fit = law.length_is v fit
option_length t os law laws (suc k) v fit = laws k v fit

none_length : (os : Options)
    → ((k : ℕ) (v : SszValue) → FitsOption os k v
    → length (option_encoding os k v) ≡ option_size os k v) → (k : ℕ) (v : SszValue)
    → FitsOption (none_option os) k v
    → length (option_encoding (none_option os) k v) ≡ option_size (none_option os) k v
none_length os laws zero v fit = absurd fit
none_length os laws (suc k) v fit = laws k v fit

union_length : (os : Options)
    → ((k : ℕ) (v : SszValue) → FitsOption os k v
    → length (option_encoding os k v) ≡ option_size os k v) → (v : SszValue) → Fits (union os) v
    → length (serialize (union os) v) ≡ size (union os) v
union_length os laws (chosen k v) fit = omega (arith, laws k v fit)
union_length os laws (chosen_none k) fit = refl
union_length os laws _ fit = absurd fit

mutual
  pub measured : (t : SszType) → IsMeasured t
  measured (uint w) = record { length_is = number_sized w }
  measured boolean = record { length_is = truth_sized }
  measured (container fs) = record { length_is = container_length fs (fields_measured fs) }
  measured (vector elem n) = record { length_is = vector_length elem n (measured elem) }
  measured (list elem n) = record { length_is = list_length elem n (measured elem) }
  measured (bitvector n) = record { length_is = bitvector_length n }
  measured (bitlist n) = record { length_is = bitlist_length_is n }
  measured (union os) = record { length_is = union_length os (options_measured os) }

  fields_measured : (fs : Fields) (vs : List SszValue) → FitFields fs vs
      → parts_length (part_sizes fs) (field_encodings fs vs) ≡ fields_size fs vs
  fields_measured no_fields = no_field_length
  fields_measured (field name t fs) = field_length name t fs (measured t) (fields_measured fs)

  options_measured : (os : Options) (k : ℕ) (v : SszValue) → FitsOption os k v
      → length (option_encoding os k v) ≡ option_size os k v
  options_measured no_options = λ k v fit. absurd fit
  options_measured (none_option os) = none_length os (options_measured os)
  options_measured (option t os) = option_length t os (measured t) (options_measured os)

-- defaults

default_number_fits : (w : Width) → FitsWidth w (default_number w)
default_number_fits W8 = omega arith
default_number_fits W16 = omega arith
default_number_fits W32 = omega arith
default_number_fits W64 = omega arith
default_number_fits W128 = omega arith
default_number_fits W256 = (refl, IsBytes-le_bytes 32 0)

all_replicate : (t : SszType) (n : ℕ) (v : SszValue) → Fits t v
    → AllByRecursion (Fits t) (replicate n v)
all_replicate t zero v h = tt
all_replicate t (suc n) v h = (h, all_replicate t n v h)

mutual
  pub default_fits : (format : Format) (t : SszType) → IsLegal format t → Fits t (default_of t)
  default_fits format (uint w) legal = default_number_fits w
  default_fits format boolean legal = tt
  default_fits format (container fs) legal =
      subst (FitFields fs) (sym (items-values (default_fields fs)))
      (default_fields_fit format fs legal.1)
  default_fits format (vector elem n) legal =
      subst (λ (vs : List SszValue). (length vs ≡ n) × AllByRecursion (Fits elem) vs)
      (sym (items-values (replicate n (default_of elem)))) (
        length-replicate n (default_of elem),
        all_replicate elem n (default_of elem)
            (default_fits format elem legal.0),
      )
  default_fits format (list elem limit) legal = (omega arith, tt)
  default_fits format (bitvector n) legal = length-replicate n false
  default_fits format (bitlist limit) legal = omega arith
  default_fits format (union os) legal = default_option_fits format os legal.3 legal.0

  default_fields_fit : (format : Format) (fs : Fields) → AreLegalFields format fs
      → FitFields fs (default_fields fs)
  default_fields_fit format no_fields legal = tt
  default_fields_fit format (field name t fs) legal =
      (default_fits format t legal.1, default_fields_fit format fs legal.2)

  default_option_fits : (format : Format) (os : Options) → AreLegalOptions format os
      → 0 < option_count os → Fits (union os) (default_option os)
  default_option_fits format no_options legal some = absurd (omega (arith, some))
  default_option_fits format (none_option os) legal some = tt
  default_option_fits format (option t os) legal some = default_fits format t legal.0

-- the length of the default's encoding

same_sum : (s : Option ℕ) (f : SszValue → ℕ) (n : ℕ) (v : SszValue)
    → sum_by (λ w. part_length s (f w)) (replicate n v) ≡ n * part_length s (f v)
same_sum s f zero v = sym (zero-mul (part_length s (f v)))
same_sum s f (suc n) v =
    sum_by-cons (λ w. part_length s (f w)) v (replicate n v) ∙ omega (arith, same_sum s f n v)

mutual
  -- the size of the default is what is read off the type
  default_size : (t : SszType) → size t (default_of t) ≡ default_length t
  default_size (uint w) = refl
  default_size boolean = refl
  default_size (container fs) =
      ap (fields_size fs) (items-values (default_fields fs)) ∙ default_fields_size fs
  default_size (vector elem n) =
      ap (sum_by (λ v. part_length (fixed_size elem) (size elem v)))
      (items-values (replicate n (default_of elem)))
      ∙ same_sum (fixed_size elem) (size elem) n (default_of elem)
      ∙ ap (λ m. n * part_length (fixed_size elem) m) (default_size elem)
  default_size (list elem limit) = refl
  default_size (bitvector n) = refl
  default_size (bitlist limit) = refl
  default_size (union os) = default_option_size os

  default_fields_size : (fs : Fields)
      → fields_size fs (default_fields fs) ≡ default_fields_length fs
  default_fields_size no_fields = refl
  default_fields_size (field name t fs) =
      ap₂ (λ m n. part_length (fixed_size t) m + n) (default_size t) (default_fields_size fs)

  default_option_size : (os : Options)
      → size (union os) (default_option os) ≡ 1 + default_option_length os
  default_option_size no_options = refl
  default_option_size (none_option os) = refl
  default_option_size (option t os) = ap (λ m. 1 + m) (default_size t)

pub defaults_have_length : DefaultsHaveLength
defaults_have_length format t legal =
    (measured t).length_is (default_of t) (default_fits format t legal) ∙ default_size t
