-- What a single word may spell.
use Rattle.std.specs.Prelude.{ℕ, ◌^◌, Bool, ◌&&◌, ◌||◌, ◌==◌, nat_eq, nat_le, if◌then◌else◌, List, length, drop, Option, Some, None, codes}
use Rattle.std.specs.List.{starts_with, list_all}
use Rattle.std.specs.Result.{result_ok}
use Rattle.hex.specs.Hex.{decode_of}
use Rattle.ssz_decimal.specs.Decimal.{number_below}
use Rattle.ssz_schema.specs.Names.{is_name, is_name_byte}
use Rattle.ssz_line.specs.Words.{is_nonempty}

-- What a word is read as, if it is read as anything.
abbrev pub Reader : Type 0 → Type 0
Reader A = List ℕ → Option A

-- the word, if the test holds
abbrev pub word_if : Bool → Reader (List ℕ)
word_if test word = if test then Some word else None

-- a name that types, fields and versions may have
abbrev pub name : Reader (List ℕ)
name word = word_if (is_name word) word

-- a byte of a file's name: a letter, a digit, `_`, `.`, `-` or `/`
abbrev pub is_file_byte : ℕ → Bool
is_file_byte b = is_name_byte b || b == 46 || b == 45 || b == 47

-- 1 to 255 such bytes
abbrev pub is_file : List ℕ → Bool
is_file word = is_nonempty word && nat_le (length word) 255 && list_all is_file_byte word

-- the name of a file
abbrev pub file : Reader (List ℕ)
file word = word_if (is_file word) word

-- the bytes of a literal: `0x` and an even number of hexadecimal digits in either case
unfoldable pub literal : Reader (List ℕ)
literal word =
    if starts_with nat_eq word (codes "0x") then result_ok (decode_of (drop 2 word)) else None

-- a decimal number from 0 to 255
abbrev pub selector : Reader ℕ
selector word = number_below (2 ^ 8) word
