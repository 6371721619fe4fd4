use Rattle.std.proofs.Common.{◌≡◌, ◌-◌, map, take, true}
use Rattle.std.specs.List.{list_all}
use Rattle.ssz_words.specs.Values.{is_digit_below}
use Rattle.ssz_words.proofs.values.read_order.Given as goal

abbrev pub invariant-loop-digit : goal.invariant-loop-digit
invariant-loop-digit l = (l.writers.items ≡ map (λ b. b - 48) (take l.digit-index l.digit-items))
    × (list_all (is_digit_below l.count) (take l.digit-index l.digit-items) ≡ true)
