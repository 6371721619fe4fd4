-- The name of a file is a text.
use Rattle.std.proofs.Common.{ℕ, zero, suc, ◌<◌, ◌≡◌, ◌&&◌, Bool, true, false, List, [], ◌∷◌, length, refl, arith}
use Rattle.std.specs.Prelude.{nat_le}
use Rattle.std.specs.List.{list_all}
use Rattle.std.specs.Str.{IsUtf8, IsAscii}
use Rattle.std.proofs.lemmas.Bool.Decides.{nat_tests}
use Rattle.std.proofs.lemmas.Str.{IsUtf8-from_ascii}
use Rattle.ssz_line.specs.Words.{is_nonempty}
use Rattle.ssz_line.specs.Single.{is_file, is_file_byte}

pub first_of_both : (a b : Bool) → (a && b) ≡ true → a ≡ true
first_of_both true b h = refl
first_of_both false b h = h

pub second_of_both : (a b : Bool) → (a && b) ≡ true → b ≡ true
second_of_both true b h = h
second_of_both false b h = cc

-- a byte of a file's name is ASCII
below-file : (b : ℕ) → is_file_byte b ≡ true → b < 128
below-file b is_one = grind (arith, nat_tests)

IsAscii-file_bytes : (bytes : List ℕ) → list_all is_file_byte bytes ≡ true → IsAscii bytes
IsAscii-file_bytes [] each i = omega arith
IsAscii-file_bytes (b ∷ bytes) each zero = below-file b (first_of_both _ _ each)
IsAscii-file_bytes (b ∷ bytes) each (suc i) = IsAscii-file_bytes bytes (second_of_both _ _ each) i

-- a file's name is text
pub IsUtf8-file : (name : List ℕ) → is_file name ≡ true → IsUtf8 name
IsUtf8-file name is_one =
    IsUtf8-from_ascii name (IsAscii-file_bytes name
    (second_of_both (is_nonempty name && nat_le (length name) 255) (list_all is_file_byte name)
    is_one))
