-- What is kept of types stays right.
use Rattle.std.proofs.Common.{ℕ, ◌≡◌, Bool, true, false, IfSome, Some, None, Option, refl, sym, ap, ap₂, ◌∙◌, cond, subst}
use Rattle.std.proofs.lemmas.Bool.{false≢true}
use Rattle.std.proofs.lemmas.Map.Lookups.{exact_unsigned}
use Rattle.std.specs.Prelude.{Result, Ok, IfOk}
use Rattle.std.specs.Ordering.{is_eq, nat_cmp, ordering_then}
use Rattle.std.specs.declared.cmp.Ordering.{Ordering}
use Rattle.std.specs.declared.cmp.Ordering.TheVariants.{Less, Equal, Greater}
use Rattle.std.specs.declared.alloc.AllocError.{AllocError}
use Rattle.std.specs.BTreeMap.{BTreeMap, get}
use Rattle.ssz_schema.specs.Unfolding.{Types, type_of}
use Rattle.ssz_forms.specs.Answers.{by_both}
use Rattle.ssz_forms.specs.SameType.{same_type}

abbrev pub Kept : Type 0
Kept = BTreeMap (ℕ × ℕ) Bool

-- the types are the same
abbrev pub alike : Types → ℕ → ℕ → Bool
alike types first second = same_type (type_of types first) (type_of types second)

-- what was kept of the two types is the answer
pub known_answer : (known : Option Bool) (same wanted : Bool) → known ≡ Some same
    → IfSome known (λ found. found ≡ wanted) → same ≡ wanted
known_answer known same wanted is right =
    subst (λ (k : Option Bool). IfSome k (λ found. found ≡ wanted)) is right

-- what a comparison answered
pub ok_answer : (result : Result Bool AllocError) (found wanted : Bool)
    → IfOk result (λ answer. answer ≡ wanted) → result ≡ Ok found → found ≡ wanted
ok_answer result found wanted is was =
    subst (λ (r : Result Bool AllocError). IfOk r (λ answer. answer ≡ wanted)) was is

-- numbers that are ordered alike are equal
equal_numbers : (a b c d : ℕ) → is_eq (by_both (a, b) (c, d)) ≡ true → (a ≡ c) × (b ≡ d)
equal_numbers a b c d e = go (nat_cmp a c) refl
  where
    second : (r : Ordering) → nat_cmp b d ≡ r → is_eq r ≡ true → b ≡ d
    second Equal is same = exact_unsigned b d is
    second Less is same = cc
    second Greater is same = cc

    go : (r : Ordering) → nat_cmp a c ≡ r → (a ≡ c) × (b ≡ d)
    go Equal is = (
      exact_unsigned a c is,
      second (nat_cmp b d) refl (sym (ap (λ o. is_eq (ordering_then o (nat_cmp b d))) is) ∙ e),
    )
    go Less is = absurd (false≢true (sym (ap (λ o. is_eq (ordering_then o (nat_cmp b d))) is) ∙ e))
    go Greater is =
        absurd (false≢true (sym (ap (λ o. is_eq (ordering_then o (nat_cmp b d))) is) ∙ e))

-- one more right answer
pub kept_right : (types : Types) (old new : Kept) (first second : ℕ) (same : Bool)
    → ((a b : ℕ) (answer : Bool) → get by_both old (a, b) ≡ Some answer → answer ≡ alike types a b)
    → same ≡ alike types first second
    → ((key : ℕ × ℕ) → get by_both new key
    ≡ cond (is_eq (by_both (first, second) key)) (Some same) (get by_both old key))
    → (a b : ℕ) (answer : Bool) → get by_both new (a, b) ≡ Some answer → answer ≡ alike types a b
kept_right types old new first second same right here updates a b answer found =
    go (is_eq (by_both (first, second) (a, b))) refl (sym (updates (a, b)) ∙ found)
  where
    go : (found : Bool) → is_eq (by_both (first, second) (a, b)) ≡ found
        → cond found (Some same) (get by_both old (a, b)) ≡ Some answer → answer ≡ alike types a b
    go true equal e =
        let numbers = equal_numbers first second a b equal in
        let is : same ≡ answer = cc in
        sym is ∙ here ∙ ap₂ (alike types) numbers.0 numbers.1
    go false equal e = right a b answer e

-- what is found is right
pub found_right : (types : Types) (kept : Kept) (first second : ℕ) (found : Option Bool)
    → found ≡ get by_both kept (first, second)
    → ((a b : ℕ) (answer : Bool) → get by_both kept (a, b) ≡ Some answer
    → answer ≡ alike types a b) → IfSome found (λ answer. answer ≡ alike types first second)
found_right types kept first second None is right = tt
found_right types kept first second (Some answer) is right = right first second answer (sym is)
