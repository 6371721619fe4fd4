use Rattle.std.proofs.Common.{ℕ, ◌+◌, ◌*◌, List, ◌∙◌, arith, slice_index, slice_set, refl, ap}
use Rattle.std.proofs.lemmas.List.{length-set}
use Rattle.std.proofs.lemmas.Nat.{and_mask}
use Rattle.hex.specs.Hex.{lower_digits}
use Rattle.hex.proofs.Pairs.{encode_step, encode_done}
use Rattle.ssz_digits.proofs.digits.digits_of_block.Goals as goal

pub loop-i-init : goal.loop-i-init
loop-i-init c = record { long = refl; written = refl }

pub loop-i-preserved : goal.loop-i-preserved
loop-i-preserved c =
    let i : ℕ = c.loop-i.i in
    let byte : ℕ = slice_index c.args.block.now i in
    let digits : List ℕ = c.loop-i.digits in
    let high : ℕ = c.digit-high.result in
    let long = c.loop-i.invariant.long in
    record {
      long = length-set (slice_set digits (2 * i) high) (2 * i + 1) c.digit-low.result
          ∙ length-set digits (2 * i) high ∙ long;
      written = encode_step lower_digits c.args.block.now digits i high c.digit-low.result
          (omega (arith, c.requires)) (omega (arith, long)) c.digit-high.ensures
          (c.digit-low.ensures ∙ ap (slice_index lower_digits) (and_mask byte 4))
          c.loop-i.invariant.written;
    }

pub returns : goal.returns
returns c =
    encode_done lower_digits c.args.block.now c.loop-i.digits c.loop-i.i
    (omega (arith, c.requires))
    (omega (arith, c.requires, c.loop-i.invariant.long)) c.loop-i.invariant.written
