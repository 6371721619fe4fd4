-- Names of types and fields (this project's).
use Rattle.std.specs.Prelude.{ℕ, nat_le, Bool, false, ◌&&◌, ◌||◌, ◌==◌, List, [], ◌∷◌, length, IsTrue}
use Rattle.std.specs.List.{list_all}

-- an ASCII letter or `_`
abbrev pub is_letter : ℕ → Bool
is_letter b = (nat_le 65 b && nat_le b 90) || (nat_le 97 b && nat_le b 122) || (b == 95)

-- a letter, `_` or an ASCII digit
abbrev pub is_name_byte : ℕ → Bool
is_name_byte b = is_letter b || (nat_le 48 b && nat_le b 57)

-- 1 to 64 bytes, the first a letter or `_`, the others letters, digits or `_`
abbrev pub is_name : List ℕ → Bool
is_name [] = false
is_name (b ∷ bs) = nat_le (length bs) 63 && is_letter b && list_all is_name_byte bs

abbrev pub IsName : List ℕ → Type 0
IsName bytes = IsTrue (is_name bytes)
