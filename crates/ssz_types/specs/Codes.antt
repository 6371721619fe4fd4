-- A code of type trees, by which a proof tells two of them apart; no
-- statement about types is made here.
use Rattle.std.specs.Prelude.{ℕ, zero, suc, ◌≡◌, List, [], ◌∷◌, refl}
use Rattle.std.proofs.Common.{sym, ap, ap₂, ◌∙◌}
use base.Stored.{Gv, gnil, gnum, gcons, num, Coded}
use Rattle.std.specs.Prelude.{Bool, true, false}
use Rattle.std.specs.Coded.{code_by, coded_bool}
use Rattle.ssz_types.specs.declared.format.Format.{Format}
use Rattle.ssz_types.specs.declared.format.Format.TheVariants.{One, Two}
use Rattle.ssz_types.specs.declared.width.Width.{Width}
use Rattle.ssz_types.specs.declared.width.Width.TheVariants.{W8, W16, W32, W64, W128, W256}
use Rattle.ssz_types.specs.Types.{SszType, Fields, Options, uint, boolean, container, vector, list, bitvector, bitlist, union, no_fields, field, no_options, none_option, option}

abbrev width_number : Width → ℕ
width_number W8 = 0
width_number W16 = 1
width_number W32 = 2
width_number W64 = 3
width_number W128 = 4
width_number W256 = 5

abbrev width_of : ℕ → Width
width_of zero = W8
width_of (suc zero) = W16
width_of (suc (suc zero)) = W32
width_of (suc (suc (suc zero))) = W64
width_of (suc (suc (suc (suc zero)))) = W128
width_of (suc (suc (suc (suc (suc n))))) = W256

width_back : (w : Width) → width_of (width_number w) ≡ w
width_back W8 = refl
width_back W16 = refl
width_back W32 = refl
width_back W64 = refl
width_back W128 = refl
width_back W256 = refl

abbrev name_code : List ℕ → Gv
name_code [] = gnil
name_code (b ∷ bytes) = gcons (gnum b) (name_code bytes)

abbrev name_of : Gv → List ℕ
name_of (gcons b bytes) = num b ∷ name_of bytes
name_of _ = []

name_back : (name : List ℕ) → name_of (name_code name) ≡ name
name_back [] = refl
name_back (b ∷ bytes) = ap (λ bs. b ∷ bs) (name_back bytes)

abbrev mutual
  pub type_code : SszType → Gv
  type_code (uint w) = gcons (gcons (gnum 0) (gnum (width_number w))) gnil
  type_code boolean = gcons (gcons (gnum 1) (gnum 0)) gnil
  type_code (container fs) = gcons (gcons (gnum 2) (gnum 0)) (fields_code fs)
  type_code (vector t n) = gcons (gcons (gnum 3) (gnum n)) (type_code t)
  type_code (list t n) = gcons (gcons (gnum 4) (gnum n)) (type_code t)
  type_code (bitvector n) = gcons (gcons (gnum 5) (gnum n)) gnil
  type_code (bitlist n) = gcons (gcons (gnum 6) (gnum n)) gnil
  type_code (union os) = gcons (gcons (gnum 7) (gnum 0)) (options_code os)

  pub fields_code : Fields → Gv
  fields_code no_fields = gnil
  fields_code (field name t fs) = gcons (gcons (name_code name) (type_code t)) (fields_code fs)

  pub options_code : Options → Gv
  options_code no_options = gnil
  options_code (none_option os) = gcons gnil (options_code os)
  options_code (option t os) = gcons (gcons gnil (type_code t)) (options_code os)

abbrev form : ℕ → ℕ → SszType → Fields → Options → SszType
form zero n t fs os = uint (width_of n)
form (suc zero) n t fs os = boolean
form (suc (suc zero)) n t fs os = container fs
form (suc (suc (suc zero))) n t fs os = vector t n
form (suc (suc (suc (suc zero)))) n t fs os = list t n
form (suc (suc (suc (suc (suc zero))))) n t fs os = bitvector n
form (suc (suc (suc (suc (suc (suc zero)))))) n t fs os = bitlist n
form (suc (suc (suc (suc (suc (suc (suc k))))))) n t fs os = union os

abbrev mutual
  pub type_of_code : Gv → SszType
  type_of_code (gcons (gcons k n) body) =
      form (num k) (num n) (type_of_code body) (fields_of_code body) (options_of_code body)
  type_of_code _ = boolean

  pub fields_of_code : Gv → Fields
  fields_of_code (gcons (gcons name t) fs) =
      field (name_of name) (type_of_code t) (fields_of_code fs)
  fields_of_code _ = no_fields

  pub options_of_code : Gv → Options
  options_of_code (gcons gnil os) = none_option (options_of_code os)
  options_of_code (gcons (gcons k t) os) = option (type_of_code t) (options_of_code os)
  options_of_code _ = no_options

mutual
  pub type_back : (t : SszType) → type_of_code (type_code t) ≡ t
  type_back (uint w) = ap uint (width_back w)
  type_back boolean = refl
  type_back (container fs) = ap container (fields_back fs)
  type_back (vector t n) = ap (λ u. vector u n) (type_back t)
  type_back (list t n) = ap (λ u. list u n) (type_back t)
  type_back (bitvector n) = refl
  type_back (bitlist n) = refl
  type_back (union os) = ap union (options_back os)

  pub fields_back : (fs : Fields) → fields_of_code (fields_code fs) ≡ fs
  fields_back no_fields = refl
  fields_back (field name t fs) = λ i. field (name_back name i) (type_back t i) (fields_back fs i)

  pub options_back : (os : Options) → options_of_code (options_code os) ≡ os
  options_back no_options = refl
  options_back (none_option os) = ap none_option (options_back os)
  options_back (option t os) = ap₂ option (type_back t) (options_back os)

abbrev pub coded_type : Coded SszType
coded_type = record {
  code = type_code;
  inj = λ x y p. sym (type_back x) ∙ ap type_of_code p ∙ type_back y;
}

abbrev pub is_two : Format → Bool
is_two One = false
is_two Two = true

abbrev pub format_of : Bool → Format
format_of false = One
format_of true = Two

pub format_back : (format : Format) → format_of (is_two format) ≡ format
format_back One = refl
format_back Two = refl

abbrev pub coded_format : Coded Format
coded_format = code_by Bool coded_bool is_two format_of format_back
