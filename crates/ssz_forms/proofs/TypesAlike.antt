-- Types that are the same by the test are equal, and only those.
use Rattle.std.proofs.Common.{ℕ, ◌≡◌, ◌==◌, ◌&&◌, true, List, refl, ap, ap₂, ◌∙◌, subst}
use Rattle.std.specs.Prelude.{bytes_eq}
use Rattle.std.proofs.lemmas.Bool.{and_parts, and_from, eqb-true, eq-eqb}
use Rattle.std.proofs.lemmas.Slice.Eq.{bytes_eq-Decides}
use Rattle.ssz_schema.specs.width.Width.{Width}
use Rattle.ssz_schema.specs.width.Width.TheVariants.{W8, W16, W32, W64, W128, W256}
use Rattle.ssz_schema.specs.Types.{SszType, Fields, Options, uint, boolean, container, vector, list, bitvector, bitlist, union, no_fields, field, no_options, none_option, option}
use Rattle.ssz_schema.specs.Sizes.{byte_count}
use Rattle.ssz_forms.specs.SameType.{same_type, same_fields, same_options, SameTypesAreEqual}

-- a type is the same as itself, and as no other
pub record TypeAlike (t : SszType) : Type 0 where
  pub same : (u : SszType) → same_type t u ≡ true → t ≡ u
  pub itself : same_type t t ≡ true

pub record FieldsAlike (fs : Fields) : Type 0 where
  pub same : (gs : Fields) → same_fields fs gs ≡ true → fs ≡ gs
  pub itself : same_fields fs fs ≡ true

pub record OptionsAlike (os : Options) : Type 0 where
  pub same : (ps : Options) → same_options os ps ≡ true → os ≡ ps
  pub itself : same_options os os ≡ true

same_width : (w x : Width) → (byte_count w == byte_count x) ≡ true → w ≡ x
same_width W8 W8 same = refl
same_width W16 W16 same = refl
same_width W32 W32 same = refl
same_width W64 W64 same = refl
same_width W128 W128 same = refl
same_width W256 W256 same = refl
same_width w x same = cc

itself : (n : ℕ) → (n == n) ≡ true
itself n = eq-eqb n n refl

uint_same : (w : Width) (u : SszType) → same_type (uint w) u ≡ true → uint w ≡ u
uint_same w (uint x) same = ap uint (same_width w x same)
uint_same w u same = cc

boolean_same : (u : SszType) → same_type boolean u ≡ true → boolean ≡ u
boolean_same boolean same = refl
boolean_same u same = cc

container_same : (fs : Fields) → FieldsAlike fs → (u : SszType)
    → same_type (container fs) u ≡ true → container fs ≡ u
container_same fs alike (container gs) same = ap container (alike.same gs same)
container_same fs alike u same = cc

vector_same : (t : SszType) (n : ℕ) → TypeAlike t → (u : SszType)
    → same_type (vector t n) u ≡ true → vector t n ≡ u
vector_same t n alike (vector u m) same =
    let parts = and_parts (n == m) (same_type t u) same in
    ap₂ vector (alike.same u parts.1) (eqb-true n m parts.0)
vector_same t n alike u same = cc

list_same : (t : SszType) (n : ℕ) → TypeAlike t → (u : SszType)
    → same_type (list t n) u ≡ true → list t n ≡ u
list_same t n alike (list u m) same =
    let parts = and_parts (n == m) (same_type t u) same in
    ap₂ list (alike.same u parts.1) (eqb-true n m parts.0)
list_same t n alike u same = cc

bitvector_same : (n : ℕ) (u : SszType) → same_type (bitvector n) u ≡ true → bitvector n ≡ u
bitvector_same n (bitvector m) same = ap bitvector (eqb-true n m same)
bitvector_same n u same = cc

bitlist_same : (n : ℕ) (u : SszType) → same_type (bitlist n) u ≡ true → bitlist n ≡ u
bitlist_same n (bitlist m) same = ap bitlist (eqb-true n m same)
bitlist_same n u same = cc

union_same : (os : Options) → OptionsAlike os → (u : SszType) → same_type (union os) u ≡ true
    → union os ≡ u
union_same os alike (union ps) same = ap union (alike.same ps same)
union_same os alike u same = cc

no_fields_same : (gs : Fields) → same_fields no_fields gs ≡ true → no_fields ≡ gs
no_fields_same no_fields same = refl
no_fields_same (field b u gs) same = cc

field_same : (a : List ℕ) (t : SszType) (fs : Fields) → TypeAlike t → FieldsAlike fs
    → (gs : Fields) → same_fields (field a t fs) gs ≡ true → field a t fs ≡ gs
field_same a t fs one more no_fields same = cc
field_same a t fs one more (field b u gs) same =
    let both = and_parts (bytes_eq a b && same_type t u) (same_fields fs gs) same in
    let front = and_parts (bytes_eq a b) (same_type t u) both.0 in
    ap₂ (λ name type. field name type fs) ((bytes_eq-Decides a b).0 front.0) (one.same u front.1)
    ∙ ap (field b u) (more.same gs both.1)

no_options_same : (ps : Options) → same_options no_options ps ≡ true → no_options ≡ ps
no_options_same no_options same = refl
no_options_same ps same = cc

none_option_same : (os : Options) → OptionsAlike os → (ps : Options)
    → same_options (none_option os) ps ≡ true → none_option os ≡ ps
none_option_same os more (none_option ps) same = ap none_option (more.same ps same)
none_option_same os more ps same = cc

option_same : (t : SszType) (os : Options) → TypeAlike t → OptionsAlike os → (ps : Options)
    → same_options (option t os) ps ≡ true → option t os ≡ ps
option_same t os one more (option u ps) same =
    let both = and_parts (same_type t u) (same_options os ps) same in
    ap₂ option (one.same u both.0) (more.same ps both.1)
option_same t os one more ps same = cc

both_itself : (t : SszType) (n : ℕ) → same_type t t ≡ true
    → ((n == n) && same_type t t) ≡ true
both_itself t n same = and_from (n == n) (same_type t t) (itself n) same

field_itself : (a : List ℕ) (t : SszType) (fs : Fields) → TypeAlike t → FieldsAlike fs
    → same_fields (field a t fs) (field a t fs) ≡ true
field_itself a t fs one more =
    and_from (bytes_eq a a && same_type t t) (same_fields fs fs)
    (and_from (bytes_eq a a) (same_type t t) ((bytes_eq-Decides a a).1 refl) one.itself)
    more.itself

mutual
  pub type_alike : (t : SszType) → TypeAlike t
  type_alike (uint w) = record { same = uint_same w; itself = itself (byte_count w) }
  type_alike boolean = record { same = boolean_same; itself = refl }
  type_alike (container fs) =
      record { same = container_same fs (fields_alike fs); itself = (fields_alike fs).itself }
  type_alike (vector t n) =
      record {
        same = vector_same t n (type_alike t);
        itself = both_itself t n (type_alike t).itself;
      }
  type_alike (list t n) =
      record {
        same = list_same t n (type_alike t);
        itself = both_itself t n (type_alike t).itself;
      }
  type_alike (bitvector n) = record { same = bitvector_same n; itself = itself n }
  type_alike (bitlist n) = record { same = bitlist_same n; itself = itself n }
  type_alike (union os) =
      record { same = union_same os (options_alike os); itself = (options_alike os).itself }

  fields_alike : (fs : Fields) → FieldsAlike fs
  fields_alike no_fields = record { same = no_fields_same; itself = refl }
  fields_alike (field a t fs) =
      record {
        same = field_same a t fs (type_alike t) (fields_alike fs);
        itself = field_itself a t fs (type_alike t) (fields_alike fs);
      }

  options_alike : (os : Options) → OptionsAlike os
  options_alike no_options = record { same = no_options_same; itself = refl }
  options_alike (none_option os) =
      record {
        same = none_option_same os (options_alike os);
        itself = (options_alike os).itself;
      }
  options_alike (option t os) =
      record {
        same = option_same t os (type_alike t) (options_alike os);
        itself = and_from (same_type t t) (same_options os os) (type_alike t).itself
            (options_alike os).itself;
      }

pub same_types_are_equal_law : SameTypesAreEqual
same_types_are_equal_law t u =
    ((type_alike t).same u, λ equal. subst (λ w. same_type t w ≡ true) equal (type_alike t).itself)

-- types of the same number are the same
pub same_number : (t u : SszType) → t ≡ u → same_type t u ≡ true
same_number t u equal = subst (λ w. same_type t w ≡ true) equal (type_alike t).itself
