-- Fields and options that are compared one after another.
use Rattle.std.proofs.Common.{ℕ, zero, suc, ◌+◌, ◌<◌, ◌≡◌, ◌&&◌, Bool, true, false, List, [], ◌∷◌, length, get_or, drop, Option, Some, None, refl, sym, ap, ap₂, ◌∙◌, subst, arith, bytes_eq}
use Rattle.std.specs.List.{AllByRecursion}
use Rattle.std.proofs.lemmas.Bool.{and_from}
use Rattle.ssz_schema.specs.Types.{SszType}
use Rattle.ssz_schema.specs.Unfolding.{type_tree_at, fields_over, options_over, IsBelow}
use Rattle.ssz_schema.proofs.WalkFields.{drop_at}
use Rattle.ssz_value.proofs.PartLemmas.{Part}
use Rattle.ssz_forms.specs.Answers.{same_option}
use Rattle.ssz_forms.specs.SameType.{same_type, same_fields, same_options}

abbrev pub fields_alike : List SszType → List Part → List Part → Bool
fields_alike trees xs ys = same_fields (fields_over trees xs) (fields_over trees ys)

abbrev pub options_alike : List SszType → List (Option ℕ) → List (Option ℕ) → Bool
options_alike trees xs ys = same_options (options_over trees xs) (options_over trees ys)

-- one field is like the other
abbrev pub field_alike : List SszType → Part → Part → Bool
field_alike trees x y =
    bytes_eq x.0 y.0 && same_type (type_tree_at trees x.1) (type_tree_at trees y.1)

-- lists of other lengths are not the same
pub fields_unlike : (trees : List SszType) (xs ys : List Part) → (length xs ≡ length ys → ⊥)
    → fields_alike trees xs ys ≡ false
fields_unlike trees [] [] apart = absurd (apart refl)
fields_unlike trees [] (y ∷ ys) apart = refl
fields_unlike trees (x ∷ xs) [] apart = refl
fields_unlike trees (x ∷ xs) (y ∷ ys) apart =
    and_false (field_alike trees x y) _ (fields_unlike trees xs ys (λ e. apart (ap suc e)))
  where
    and_false : (a b : Bool) → b ≡ false → (a && b) ≡ false
    and_false true b e = e
    and_false false b e = refl

option_first : (trees : List SszType) (x y : Option ℕ) (xs ys : List (Option ℕ))
    → options_alike trees (x ∷ xs) (y ∷ ys) ≡ (same_option trees x y && options_alike trees xs ys)
option_first trees None None xs ys = refl
option_first trees None (Some b) xs ys = refl
option_first trees (Some a) None xs ys = refl
option_first trees (Some a) (Some b) xs ys = refl

pub options_unlike : (trees : List SszType) (xs ys : List (Option ℕ))
    → (length xs ≡ length ys → ⊥) → options_alike trees xs ys ≡ false
options_unlike trees [] [] apart = absurd (apart refl)
options_unlike trees [] (None ∷ ys) apart = refl
options_unlike trees [] (Some b ∷ ys) apart = refl
options_unlike trees (None ∷ xs) [] apart = refl
options_unlike trees (Some a ∷ xs) [] apart = refl
options_unlike trees (x ∷ xs) (y ∷ ys) apart =
    option_first trees x y xs ys
    ∙ and_false (same_option trees x y) _ (options_unlike trees xs ys (λ e. apart (ap suc e)))
  where
    and_false : (a b : Bool) → b ≡ false → (a && b) ≡ false
    and_false true b e = e
    and_false false b e = refl

-- the first i fields are the same: the whole is as what is left
pub record FieldsFrom (trees : List SszType) (xs ys : List Part) (i : ℕ) : Type 0 where
  pub left : fields_alike trees xs ys ≡ fields_alike trees (drop i xs) (drop i ys)

pub FieldsFrom-start : (trees : List SszType) (xs ys : List Part) → FieldsFrom trees xs ys 0
FieldsFrom-start trees xs ys = record { left = refl }

fields_step : (trees : List SszType) (xs ys : List Part) (i : ℕ) (x y : Part)
    → FieldsFrom trees xs ys i → i < length xs → i < length ys → x ≡ get_or xs i x
    → y ≡ get_or ys i y
    → fields_alike trees xs ys
    ≡ (field_alike trees x y && fields_alike trees (drop (i + 1) xs) (drop (i + 1) ys))
fields_step trees xs ys i x y so_far in_xs in_ys is_x is_y =
    so_far.left ∙ ap₂ (fields_alike trees) (drop_at xs i x in_xs is_x) (drop_at ys i y in_ys is_y)

pub FieldsFrom-more : (trees : List SszType) (xs ys : List Part) (i : ℕ) (x y : Part)
    → FieldsFrom trees xs ys i → i < length xs → i < length ys → x ≡ get_or xs i x
    → y ≡ get_or ys i y → bytes_eq x.0 y.0 ≡ true
    → same_type (type_tree_at trees x.1) (type_tree_at trees y.1) ≡ true
    → FieldsFrom trees xs ys (i + 1)
FieldsFrom-more trees xs ys i x y so_far in_xs in_ys is_x is_y names types =
    let alike : field_alike trees x y ≡ true = and_from (bytes_eq x.0 y.0) _ names types in
    record {
      left = fields_step trees xs ys i x y so_far in_xs in_ys is_x is_y
          ∙ ap (λ b. b && fields_alike trees (drop (i + 1) xs) (drop (i + 1) ys)) alike;
    }

pub FieldsFrom-names : (trees : List SszType) (xs ys : List Part) (i : ℕ) (x y : Part)
    → FieldsFrom trees xs ys i → i < length xs → i < length ys → x ≡ get_or xs i x
    → y ≡ get_or ys i y → bytes_eq x.0 y.0 ≡ false → fields_alike trees xs ys ≡ false
FieldsFrom-names trees xs ys i x y so_far in_xs in_ys is_x is_y names =
    fields_step trees xs ys i x y so_far in_xs in_ys is_x is_y
    ∙ ap (λ b. (b && same_type (type_tree_at trees x.1) (type_tree_at trees y.1))
    && fields_alike trees (drop (i + 1) xs) (drop (i + 1) ys)) names

pub FieldsFrom-types : (trees : List SszType) (xs ys : List Part) (i : ℕ) (x y : Part)
    → FieldsFrom trees xs ys i → i < length xs → i < length ys → x ≡ get_or xs i x
    → y ≡ get_or ys i y → bytes_eq x.0 y.0 ≡ true
    → same_type (type_tree_at trees x.1) (type_tree_at trees y.1) ≡ false
    → fields_alike trees xs ys ≡ false
FieldsFrom-types trees xs ys i x y so_far in_xs in_ys is_x is_y names types =
    fields_step trees xs ys i x y so_far in_xs in_ys is_x is_y
    ∙ ap₂ (λ a b. (a && b) && fields_alike trees (drop (i + 1) xs) (drop (i + 1) ys)) names types

drop_end : {A : Type 0} (xs : List A) (i : ℕ) → (i < length xs → ⊥) → drop i xs ≡ []
drop_end [] zero out = refl
drop_end [] (suc i) out = refl
drop_end (x ∷ xs) zero out = absurd (out (omega arith))
drop_end (x ∷ xs) (suc i) out = drop_end xs i (λ h. out (omega arith))

pub FieldsFrom-end : (trees : List SszType) (xs ys : List Part) (i : ℕ)
    → FieldsFrom trees xs ys i → (i < length xs → ⊥) → length xs ≡ length ys
    → fields_alike trees xs ys ≡ true
FieldsFrom-end trees xs ys i so_far out even =
    so_far.left
    ∙ ap₂ (fields_alike trees) (drop_end xs i out) (drop_end ys i (λ h. out (omega arith)))

-- and so of options
pub record OptionsFrom (trees : List SszType) (xs ys : List (Option ℕ)) (i : ℕ) : Type 0 where
  pub left : options_alike trees xs ys ≡ options_alike trees (drop i xs) (drop i ys)

pub OptionsFrom-start : (trees : List SszType) (xs ys : List (Option ℕ))
    → OptionsFrom trees xs ys 0
OptionsFrom-start trees xs ys = record { left = refl }

drop_option : (xs : List (Option ℕ)) (i : ℕ) (x : Option ℕ) → i < length xs
    → x ≡ get_or xs i x → drop i xs ≡ x ∷ drop (i + 1) xs
drop_option [] i x h e = absurd (omega arith)
drop_option (y ∷ xs) zero x h e = ap (λ z. z ∷ xs) (sym e)
drop_option (y ∷ xs) (suc i) x h e =
    let up : suc (i + 1) ≡ suc i + 1 = omega arith in
    drop_option xs i x (omega arith) e ∙ ap (λ n. x ∷ drop n (y ∷ xs)) up

options_step : (trees : List SszType) (xs ys : List (Option ℕ)) (i : ℕ) (x y : Option ℕ)
    → OptionsFrom trees xs ys i → i < length xs → i < length ys → x ≡ get_or xs i x
    → y ≡ get_or ys i y
    → options_alike trees xs ys
    ≡ (same_option trees x y && options_alike trees (drop (i + 1) xs) (drop (i + 1) ys))
options_step trees xs ys i x y so_far in_xs in_ys is_x is_y =
    so_far.left
    ∙ ap₂ (options_alike trees) (drop_option xs i x in_xs is_x) (drop_option ys i y in_ys is_y)
    ∙ option_first trees x y _ _

pub OptionsFrom-more : (trees : List SszType) (xs ys : List (Option ℕ)) (i : ℕ) (x y : Option ℕ)
    → OptionsFrom trees xs ys i → i < length xs → i < length ys → x ≡ get_or xs i x
    → y ≡ get_or ys i y → same_option trees x y ≡ true → OptionsFrom trees xs ys (i + 1)
OptionsFrom-more trees xs ys i x y so_far in_xs in_ys is_x is_y same = record {
  left = options_step trees xs ys i x y so_far in_xs in_ys is_x is_y
      ∙ ap (λ b. b && options_alike trees (drop (i + 1) xs) (drop (i + 1) ys)) same;
}

pub OptionsFrom-other : (trees : List SszType) (xs ys : List (Option ℕ)) (i : ℕ)
    (x y : Option ℕ) → OptionsFrom trees xs ys i → i < length xs → i < length ys
    → x ≡ get_or xs i x → y ≡ get_or ys i y → same_option trees x y ≡ false
    → options_alike trees xs ys ≡ false
OptionsFrom-other trees xs ys i x y so_far in_xs in_ys is_x is_y same =
    options_step trees xs ys i x y so_far in_xs in_ys is_x is_y
    ∙ ap (λ b. b && options_alike trees (drop (i + 1) xs) (drop (i + 1) ys)) same

pub OptionsFrom-end : (trees : List SszType) (xs ys : List (Option ℕ)) (i : ℕ)
    → OptionsFrom trees xs ys i → (i < length xs → ⊥) → length xs ≡ length ys
    → options_alike trees xs ys ≡ true
OptionsFrom-end trees xs ys i so_far out even =
    so_far.left
    ∙ ap₂ (options_alike trees) (drop_end xs i out) (drop_end ys i (λ h. out (omega arith)))

pub option_below : (count : ℕ) (options : List (Option ℕ)) (i : ℕ) (option : Option ℕ)
    → i < length options → option ≡ get_or options i option
    → AllByRecursion (IsBelow count) options → IsBelow count option
option_below count [] i option h e all = absurd (omega arith)
option_below count (o ∷ options) zero option h e all = subst (IsBelow count) (sym e) all.0
option_below count (o ∷ options) (suc i) option h e all =
    option_below count options i option (omega arith) e all.1
