use Rattle.std.proofs.Common.{◌≡◌, ℕ, ◌+◌, ◌-◌, ◌*◌, length, take, drop, refl, ap, ◌∙◌, arith}
use borrow.Rule.Slice.PartMut.{same_len_mid}
use Rattle.ssz_digits.proofs.Spreading.{block_written, first_written, front_unread, none_written}
use Rattle.hex.specs.Hex.{encode_lower}
use Rattle.ssz_digits.proofs.digits.spread.Goals as goal

pub spreading-init : goal.spreading-init
spreading-init c = record {
  within = omega arith;
  long = refl;
  unread = refl;
  written = none_written c.args.room.now c.args.from c.args.count c.requires;
}

pub spreading-preserved : goal.spreading-preserved
spreading-preserved c =
    let end : ℕ = c.spreading.left in
    let left : ℕ = end - 32 in
    let sum : left + 32 ≡ end = omega arith in
    let at : ℕ = c.args.from + 2 * left in
    let wide : ℕ = at + 64 - at in
    let block : wide ≡ 64 = omega arith in
    let long : c.args.from + 2 * c.args.count ≡ length c.spreading.room =
    omega (arith, c.requires, c.spreading.invariant.long) in
    let span : left + 32 - left ≡ 32 = omega arith in
    let digits = c.copy_from_slice.ensures.after ∙ c.digits_of_block-digits.ensures
    ∙ ap (λ (n : ℕ). encode_lower (take n (drop left c.spreading.room))) span in
    record {
      within = omega (arith, c.spreading.invariant.within);
      long = same_len_mid at wide c.spreading.room c.copy_from_slice.new.self
          c.copy_from_slice.ensures.len ∙ c.spreading.invariant.long;
      unread = front_unread c.spreading.room c.copy_from_slice.new.self c.args.room.now c.args.from
          left end wide sum (omega (arith, long, sum, c.spreading.invariant.within))
          c.spreading.invariant.unread;
      written = block_written c.spreading.room c.copy_from_slice.new.self c.args.room.now
          c.args.from c.args.count left end wide sum block c.spreading.invariant.within long
          c.spreading.invariant.unread digits
          c.spreading.invariant.written;
    }

pub returns-clause-digits : goal.returns-clause-digits
returns-clause-digits c =
    first_written c.spreading.room c.spread_first.new.room c.args.room.now c.args.from c.args.count
    c.spreading.left c.spreading.invariant.within c.spreading.invariant.unread
    c.spread_first.ensures.digits c.spreading.invariant.written
