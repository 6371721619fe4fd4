-- Numbers that digits make.
use Rattle.std.proofs.Common.{ℕ, suc, ◌+◌, ◌-◌, ◌*◌, ◌<◌, ◌≤◌, ◌≡◌, Bool, true, false, List, [], ◌∷◌, length, get_or, drop, refl, ap, subst, arith, Some, None, nat_lt, drop-cons, ◌&&◌, if◌then◌else◌}
use Rattle.std.proofs.lemmas.Bool.Decides.{nat_tests}
use Rattle.std.specs.List.{list_all}
use Rattle.ssz_decimal.specs.Decimal.{is_digit, number_after, digits_below}

-- more digits make no smaller number
pub number_after-ge : (n : ℕ) (digits : List ℕ) → n ≤ number_after n digits
number_after-ge n [] = omega arith
number_after-ge n (d ∷ digits) = omega (arith, number_after-ge (n * 10 + (d - 48)) digits)

-- with one digit more
pub number_after-digit : (n i : ℕ) (digits : List ℕ) → i < length digits
    → n * 10 + (get_or digits i 0 - 48) ≤ number_after n (drop i digits)
number_after-digit n i digits h =
    rw (drop-cons digits i 0)
    (number_after-ge (n * 10 + (get_or digits i 0 - 48)) (drop (suc i) digits))

none_if_not : (b : Bool) (n : ℕ) → b ≡ false → None ≡ (if b then Some n else None)
none_if_not b n h = rw h refl

and-false : (a b : Bool) → b ≡ false → (a && b) ≡ false
and-false true b h = h
and-false false b h = refl

not_below : (n bound : ℕ) → bound ≤ n → nat_lt n bound ≡ false
not_below n bound h = grind (arith, nat_tests)

-- what is not below the bound is none
pub digits_below-none : (bound : ℕ) (digits : List ℕ) → bound ≤ number_after 0 digits
    → None ≡ digits_below bound digits
digits_below-none bound digits h = none_if_not _ _ (and-false _ _ (not_below _ _ h))

-- all digits are read
pub digits_below-some : (n bound : ℕ) (digits : List ℕ) → list_all is_digit digits ≡ true
    → n ≡ number_after 0 digits → n < bound → Some n ≡ digits_below bound digits
digits_below-some n bound digits each value below =
    let fits : nat_lt (number_after 0 digits) bound ≡ true =
    subst (λ m. nat_lt m bound ≡ true) value (is_below n bound below) in
    rw (each, fits) (ap Some value)
  where
    is_below : (n bound : ℕ) → n < bound → nat_lt n bound ≡ true
    is_below n bound h = grind (arith, nat_tests)
