-- The greatest index below another.
use Rattle.std.proofs.Common.{◌≡◌, ℕ, ◌+◌, ◌<◌, ◌≤◌, Bool, true, false, cond, eqb, ltb, List, length, get_or, refl, sym, ap, ◌∙◌, subst, arith, ◌⊎◌, inl, inr}
use Rattle.std.specs.Prelude.{Contains}
use Rattle.std.specs.declared.cmp.Ordering.TheVariants.{Less, Equal, Greater}
use Rattle.std.specs.Ordering.{nat_cmp, is_lt}
use Rattle.std.proofs.lemmas.List.{get_or_default}
use Rattle.std.proofs.lemmas.Bool.{cases_eq, cases_lt, lt-ltb, le-ltb, cond-true, cond-false}
use Rattle.ssz_gindex.specs.Helpers.{is_within, AreNested, AreGreatestNested}
use Rattle.ssz_gindex.specs.Walk.{IsUpper}
use Rattle.ssz_gindex.proofs.Within.{within_least}

-- the greatest of the first i indices that lies below the upper one, or the upper one
pub record IsLowest (indices : List ℕ) (upper lowest i : ℕ) : Type 0 where
  pub is : (lowest ≡ upper) ⊎ (Contains indices lowest × (is_within upper lowest ≡ true))
  pub least : upper ≤ lowest
  pub greatest : (k : ℕ) → k < i → is_within upper (get_or indices k 0) ≡ true
      → get_or indices k 0 ≤ lowest

pub lowest-none : (indices : List ℕ) (upper : ℕ) → IsLowest indices upper upper 0
lowest-none indices upper = record {
  is = inl refl;
  least = omega arith;
  greatest = λ k below within. absurd (omega arith);
}

-- an index that is not below the upper one, or not greater, changes nothing
pub lowest-same : (indices : List ℕ) (upper lowest i index : ℕ) → i < length indices
    → index ≡ get_or indices i index
    → IsLowest indices upper lowest i → (is_within upper index ≡ true → index ≤ lowest)
    → IsLowest indices upper lowest (i + 1)
lowest-same indices upper lowest i index small there is passes =
    let at : index ≡ get_or indices i 0 = there ∙ get_or_default indices i index 0 small in
    record {
      is = is.is;
      least = is.least;
      greatest = λ k below within. elim (cases_eq k i) [
        | inl same ↦ (let here : index ≡ get_or indices k 0 = at
            ∙ ap (λ n. get_or indices n 0) (sym same) in
            omega (arith, here, passes (ap (is_within upper) here ∙ within)))
        | inr other ↦ is.greatest k (omega arith) within
      ];
    }

pub lowest-more : (indices : List ℕ) (upper lowest i index : ℕ) → i < length indices
    → index ≡ get_or indices i index
    → IsLowest indices upper lowest i → is_within upper index ≡ true → lowest < index
    → IsLowest indices upper index (i + 1)
lowest-more indices upper lowest i index small here is within less =
    let at : index ≡ get_or indices i 0 = here ∙ get_or_default indices i index 0 small in record {
      is = inr ((i, small, sym here), within);
      least = omega (arith, is.least);
      greatest = λ k below inside. elim (cases_eq k i) [
        | inl same ↦ (let equal : index ≡ get_or indices k 0 = at
            ∙ ap (λ n. get_or indices n 0) (sym same) in omega arith)
        | inr other ↦ omega (arith, is.greatest k (omega arith) inside)
      ];
    }

below-is : (x y : ℕ) → is_lt (nat_cmp x y) ≡ ltb x y
below-is x y = go (ltb x y) (eqb x y)
  where
    go : (less same : Bool) → is_lt (cond less Less (cond same Equal Greater)) ≡ less
    go true same = refl
    go false true = refl
    go false false = refl

-- the greater of the two, where the index is below the upper one
pub lowest-greater : (indices : List ℕ) (upper lowest i index greater : ℕ) → i < length indices
    → index ≡ get_or indices i index
    → IsLowest indices upper lowest i → is_within upper index ≡ true
    → greater ≡ cond (is_lt (nat_cmp index lowest)) lowest index
    → IsLowest indices upper greater (i + 1)
lowest-greater indices upper lowest i index greater small here is within e =
    let test : greater ≡ cond (ltb index lowest) lowest index = e
    ∙ ap (λ b. cond b lowest index) (below-is index lowest) in
    elim (cases_lt index lowest) [
      | inl less ↦ subst (λ (n : ℕ). IsLowest indices upper n (i + 1))
          (sym (test ∙ cond-true (ltb index lowest) lowest index (lt-ltb index lowest less)))
          (lowest-same indices upper lowest i index small here is (λ _. omega arith))
      | inr most ↦ (
          let other : greater ≡ index = test
          ∙ cond-false (ltb index lowest) lowest index (le-ltb index lowest most) in
          elim (cases_eq lowest index) [
            | inl same ↦ subst (λ (n : ℕ). IsLowest indices upper n (i + 1)) (same ∙ sym other)
                (lowest-same indices upper lowest i index small here is (λ _. omega arith))
            | inr apart ↦ subst (λ (n : ℕ). IsLowest indices upper n (i + 1)) (sym other)
                (lowest-more indices upper lowest i index small here is within (omega arith))
          ])
    ]

pub lowest-all : (indices : List ℕ) (upper lowest i : ℕ) → length indices ≤ i
    → IsUpper indices upper
    → IsLowest indices upper lowest i → AreGreatestNested indices upper lowest
lowest-all indices upper lowest i all is_upper is =
    let reach : (d : ℕ) → AreNested indices upper d → d ≤ lowest = (λ d nested.
    let place = nested.lower in
    let at : get_or indices place.0 0 ≡ d = get_or_default indices place.0 0 d place.1
    ∙ place.2 in
    let within : is_within upper (get_or indices place.0 0) ≡ true = ap (is_within upper) at
    ∙ nested.within in
    omega (arith, at, is.greatest place.0 (omega (arith, place.1)) within)) in
    let some = is_upper.nested in
    let below : upper < lowest =
    omega (
      arith,
      reach some.0 some.1,
      within_least upper some.0 some.1.within,
      some.1.apart,
    ) in
    record {
      nested = record {
        upper = some.1.upper;
        lower = (found is.is below).0;
        within = (found is.is below).1;
        apart = λ e. omega arith;
      };
      upper = is_upper.greatest;
      lower = reach;
    }
  where
    found : (lowest ≡ upper) ⊎ (Contains indices lowest × (is_within upper lowest ≡ true))
        → upper < lowest
        → Contains indices lowest × (is_within upper lowest ≡ true)
    found (inl same) below = absurd (omega arith)
    found (inr there) below = there
