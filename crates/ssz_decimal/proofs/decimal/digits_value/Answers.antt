use Rattle.std.proofs.Common.{◌^◌, ◌≤◌, arith, sym, ap, ◌∙◌, drop_of_length-le}
use Rattle.std.specs.List.{list_all}
use Rattle.ssz_decimal.specs.Decimal.{is_digit, number_after}
use Rattle.ssz_decimal.proofs.NumbersLemmas.{number_after-digit, digits_below-none, digits_below-some}
use Rattle.ssz_decimal.proofs.decimal.digits_value.Goals as goal

pub returns-in_err-checked_mul : goal.returns-in_err-checked_mul
returns-in_err-checked_mul c =
    let more = number_after-digit c.loop-digit.number c.loop-digit.digit-index c.args.digits.now
    (omega arith) in
    let large : 2 ^ 128 ≤ number_after 0 c.args.digits.now =
    omega (arith, more, c.loop-digit.invariant.value, c.in_err-checked_mul.ensures) in
    c.from_residual.ensures ∙ digits_below-none (2 ^ 128) c.args.digits.now large

pub returns-in_err-number : goal.returns-in_err-number
returns-in_err-number c =
    let more = number_after-digit c.loop-digit.number c.loop-digit.digit-index c.args.digits.now
    (omega arith) in
    let large : 2 ^ 128 ≤ number_after 0 c.args.digits.now =
    omega (arith, more, c.loop-digit.invariant.value, c.in_err-number.ensures) in
    c.from_residual-in_err-number.ensures ∙ digits_below-none (2 ^ 128) c.args.digits.now large

pub returns : goal.returns
returns c =
    let digits = c.args.digits.now in
    let none = drop_of_length-le digits c.loop-digit-test.false in
    digits_below-some c.loop-digit.number (2 ^ 128) digits
    (sym c.loop-digit.invariant.digits ∙ ap (list_all is_digit) none)
    (sym (ap (number_after c.loop-digit.number) none) ∙ c.loop-digit.invariant.value)
    c.loop-digit.invariant.fits
