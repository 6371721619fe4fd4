use Rattle.ssz_digits.proofs.Spreading.{fronts_put}
use Rattle.ssz_digits.proofs.digits.put_front.Goals as goal

pub returns : goal.returns
returns c =
    fronts_put c.args.front.now c.args.word.now c.copy_from_slice.new.self
    c.copy_from_slice-2.new.self c.args.room.now c.copy_from_slice.ensures.after
    c.copy_from_slice-2.ensures.after
