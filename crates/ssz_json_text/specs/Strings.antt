-- What stands in the strings of a text: hexadecimal digits, bits.
use Rattle.std.specs.Prelude.{ℕ, Bool, true, false, List, ◌++◌, map, codes}
use Rattle.hex.specs.Hex.{encode_lower}

-- `0x` and two digits for each byte, in lower case
abbrev pub hex_text : List ℕ → List ℕ
hex_text bytes = codes "0x" ++ encode_lower bytes

abbrev pub bit_digit : Bool → ℕ
bit_digit true = 49
bit_digit false = 48

-- 0 or 1 for each bit, bit 0 first
abbrev pub bits_text : List Bool → List ℕ
bits_text = map bit_digit
