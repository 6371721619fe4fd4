use Rattle.std.proofs.Common.{◌≡◌, ◌<◌, ◌^◌, drop}
use Rattle.std.specs.List.{list_all}
use Rattle.ssz_decimal.specs.Decimal.{is_digit, number_after}
use Rattle.ssz_decimal.proofs.decimal.digits_value.Given as goal

-- the digits so far are digits, and make the number
abbrev pub invariant-loop-digit : goal.invariant-loop-digit
invariant-loop-digit l = record {
  digits : list_all is_digit (drop l.digit-index l.digits) ≡ list_all is_digit l.digits;
  value : number_after l.number (drop l.digit-index l.digits) ≡ number_after 0 l.digits;
  fits : l.number < 2 ^ 128;
}
