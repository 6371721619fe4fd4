-- What is counted for each field that is taken adds up to no more than for all fields there are.
use Rattle.std.proofs.Common.{◌≡◌, ℕ, suc, ◌+◌, ◌≤◌, Bool, true, false, cond, List, [], ◌∷◌, Option, Some, None, refl, sym, ap, ap₂, ◌∙◌, subst, slice_get, bytes_eq, arith}
use Rattle.std.specs.List.{AllByRecursion, IsDistinct, sum_by}
use Rattle.std.specs.Option.{option_and_then, option_map_or}
use Rattle.std.proofs.lemmas.List.Sums.{sum_by-cons}
use Rattle.std.proofs.lemmas.Map.Keys.{IsDistinct-head, IsDistinct-tail}
use Rattle.std.proofs.lemmas.Slice.Eq.{bytes_eq-Decides}
use Rattle.ssz_schema.specs.Types.{SszType, Fields, no_fields, field}
use Rattle.ssz_schema.specs.Legal.{field_names}
use Rattle.ssz_schema.specs.Paths.{field_type, field_number}
use Rattle.ssz_forms.specs.SameType.{same_type}
use Rattle.ssz_forms.specs.Upgrades.{field_taken}

module _ {X : Type 0} (weight : X → ℕ) where
  -- what is counted for the element of this number
  abbrev pub weight_at : List X → Option ℕ → ℕ
  weight_at xs None = 0
  weight_at xs (Some k) = option_map_or weight (slice_get xs k) 0

  -- for each new field that takes one
  abbrev pub weights : Fields → List X → Fields → ℕ
  weights old xs no_fields = 0
  weights old xs (field name t fs) = weight_at xs (field_taken old name t) + weights old xs fs

  -- the number of an old field, where its type is equal
  abbrev pub where_same : SszType → Option SszType → ℕ → Option ℕ
  where_same t found k = option_and_then (λ u. cond (same_type u t) (Some k) None) found

  later : (x : X) (xs : List X) (t : SszType) (found : Option SszType) (k : ℕ)
      → weight_at (x ∷ xs) (where_same t found (suc k)) ≡ weight_at xs (where_same t found k)
  later x xs t None k = refl
  later x xs t (Some u) k = go (same_type u t)
    where
      go : (same : Bool) → weight_at (x ∷ xs) (cond same (Some (suc k)) None)
          ≡ weight_at xs (cond same (Some k) None)
      go true = refl
      go false = refl

  here : (x : X) (xs : List X) (t u : SszType)
      → weight_at (x ∷ xs) (where_same t (Some u) 0) ≤ weight x
  here x xs t u = go (same_type u t)
    where
      go : (same : Bool) → weight_at (x ∷ xs) (cond same (Some 0) None) ≤ weight x
      go true = omega arith
      go false = omega arith

  -- of a field of another name it is that of the later fields
  apart : (a : List ℕ) (u : SszType) (fs : Fields) (x : X) (xs : List X) (name : List ℕ)
      (t : SszType) → bytes_eq a name ≡ false
      → weight_at (x ∷ xs) (field_taken (field a u fs) name t)
      ≡ weight_at xs (field_taken fs name t)
  apart a u fs x xs name t other =
      ap (λ b. weight_at (x ∷ xs) (where_same t (cond b (Some u) (field_type fs name))
      (cond b 0 (suc (field_number fs name))))) other
      ∙ later x xs t (field_type fs name) (field_number fs name)

  alike : (a : List ℕ) (u : SszType) (fs : Fields) (x : X) (xs : List X) (name : List ℕ)
      (t : SszType) → bytes_eq a name ≡ true
      → weight_at (x ∷ xs) (field_taken (field a u fs) name t) ≤ weight x
  alike a u fs x xs name t same =
      subst (λ n. n ≤ weight x) (sym (ap (λ b. weight_at (x ∷ xs) (where_same t
      (cond b (Some u) (field_type fs name)) (cond b 0 (suc (field_number fs name))))) same))
      (here x xs t u)

  -- where no new field has the name of the first old one
  absent : (a : List ℕ) (u : SszType) (fs : Fields) (x : X) (xs : List X) (new : Fields)
      → AllByRecursion (λ y. bytes_eq a y ≡ false) (field_names new)
      → weights (field a u fs) (x ∷ xs) new ≡ weights fs xs new
  absent a u fs x xs no_fields others = refl
  absent a u fs x xs (field name t new) others =
      ap₂ (λ m n. m + n) (apart a u fs x xs name t others.0)
      (absent a u fs x xs new others.1)

  -- the first old field is taken once at most
  once : (a : List ℕ) (u : SszType) (fs : Fields) (x : X) (xs : List X) (new : Fields)
      → IsDistinct bytes_eq (field_names new)
      → weights (field a u fs) (x ∷ xs) new ≤ weight x + weights fs xs new
  once a u fs x xs no_fields distinct = omega arith
  once a u fs x xs (field name t new) distinct =
      go (bytes_eq a name) refl
      (once a u fs x xs new (IsDistinct-tail bytes_eq name (field_names new) distinct))
    where
      go : (b : Bool) → bytes_eq a name ≡ b
          → weights (field a u fs) (x ∷ xs) new ≤ weight x + weights fs xs new
          → weights (field a u fs) (x ∷ xs) (field name t new)
          ≤ weight x + weights fs xs (field name t new)
      go true same rest =
          let is : a ≡ name = (bytes_eq-Decides a name).0 same in
          let others = IsDistinct-head bytes_eq name (field_names new) distinct in
          omega (
            arith,
            alike a u fs x xs name t same,
            absent a u fs x xs new (subst (λ (n : List ℕ).
                AllByRecursion (λ y. bytes_eq n y ≡ false) (field_names new)) (sym is) others),
          )
      go false other rest = omega (arith, apart a u fs x xs name t other, rest)

  none_old : (xs : List X) (new : Fields) → weights no_fields xs new ≡ 0
  none_old xs no_fields = refl
  none_old xs (field name t new) = omega (arith, none_old xs new)

  weight_nowhere : (number : Option ℕ) → weight_at [] number ≡ 0
  weight_nowhere None = refl
  weight_nowhere (Some k) = refl

  none_there : (old new : Fields) → weights old [] new ≡ 0
  none_there old no_fields = refl
  none_there old (field name t new) =
      ap₂ (λ m n. m + n) (weight_nowhere (field_taken old name t)) (none_there old new)

  pub weights-few : (old : Fields) (xs : List X) (new : Fields)
      → IsDistinct bytes_eq (field_names new) → weights old xs new ≤ sum_by weight xs
  weights-few no_fields xs new distinct = omega (arith, none_old xs new)
  weights-few (field a u fs) [] new distinct = omega (arith, none_there (field a u fs) new)
  weights-few (field a u fs) (x ∷ xs) new distinct = omega (
    arith,
    once a u fs x xs new distinct,
    weights-few fs xs new distinct,
    sum_by-cons weight x xs,
  )
