-- Decimal numbers as texts: one digit or more, and no 0 before others. So each number has one text.
use Rattle.std.specs.Prelude.{ℕ, ◌+◌, ◌-◌, ◌*◌, Bool, ◌&&◌, ◌==◌, nat_le, nat_lt, if◌then◌else◌, List, [], ◌∷◌, Option, Some, None}
use Rattle.std.specs.List.{list_all}

abbrev pub is_digit : ℕ → Bool
is_digit b = nat_le 48 b && nat_le b 57

-- the number that these digits make after the digits of n
abbrev pub number_after : ℕ → List ℕ → ℕ
number_after n [] = n
number_after n (b ∷ bytes) = number_after (n * 10 + (b - 48)) bytes

-- the number below a bound that digits make, or none
abbrev pub digits_below : ℕ → List ℕ → Option ℕ
digits_below bound digits =
    if list_all is_digit digits && nat_lt (number_after 0 digits) bound
    then Some (number_after 0 digits) else None

-- the number below a bound that a text is, or none
abbrev pub number_below : ℕ → List ℕ → Option ℕ
number_below bound [] = None
number_below bound (b ∷ []) = digits_below bound (b ∷ [])
number_below bound (b ∷ c ∷ bytes) = if b == 48 then None else digits_below bound (b ∷ c ∷ bytes)
