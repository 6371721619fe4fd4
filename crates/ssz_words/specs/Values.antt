-- The values of arguments, and what single words write.
use Rattle.std.specs.Prelude.{◌^◌, ◌-◌, ◌&&◌, ℕ, Bool, false, nat_eq, nat_le, nat_lt, if◌then◌else◌}
use Rattle.std.specs.Prelude.{map, List, [], ◌∷◌, Option, None, codes, drop}
use Rattle.std.specs.List.{list_all, starts_with}
use Rattle.std.specs.Result.{result_ok}
use Rattle.std.specs.Str.Parse.{digits_value, without_leading_plus}
use Rattle.clap.specs.Words.{Row, Text, found_of, one_of, rows_of}
use Rattle.clap.specs.ValueTests.{accepts}
use Rattle.clap.specs.declared.builder.value_parser.ValueParser.TheVariants.{Unsigned}
use Rattle.clap.specs.declared.parser.matches.ArgMatches.{ArgMatches}
use Rattle.hex.specs.Hex.{decode_sized}
use Rattle.ssz_words.specs.Reading.{◌>>=◌, some_if}

-- what was found for each argument
abbrev pub rows_in : ArgMatches → List Row
rows_in matches = rows_of (found_of matches)

-- the number below 2 ^ k that a text writes, where `clap` takes it for one
abbrev pub text_number_below : ℕ → Text → Option ℕ
text_number_below k text = some_if (accepts false (Unsigned 0 (2 ^ k - 1)) text)
    (digits_value 10 (without_leading_plus text))

-- the number of an argument
abbrev pub number_at : ℕ → Text → List Row → Option ℕ
number_at k id rows = do
  text ← one_of id rows
  text_number_below k text

-- a text without a `0x` that it begins with
abbrev pub without_mark : Text → Text
without_mark text = if starts_with nat_eq text (codes "0x") then drop 2 text else text

-- the 32 bytes that 64 hexadecimal digits write, in either case and with or without `0x`
abbrev pub root_value : Text → Option (List ℕ)
root_value text = result_ok (decode_sized (without_mark text) 32)

-- the byte is a decimal digit, from `0` (48) to `9` (57), below n
abbrev pub is_digit_below : ℕ → ℕ → Bool
is_digit_below n byte = nat_le 48 byte && nat_le byte 57 && nat_lt (byte - 48) n

-- the numbers that one or more digits name, each below n
abbrev pub order_value : ℕ → Text → Option (List ℕ)
order_value n [] = None
order_value n (byte ∷ text) =
    some_if (list_all (is_digit_below n) (byte ∷ text)) (map (λ b. b - 48) (byte ∷ text))
