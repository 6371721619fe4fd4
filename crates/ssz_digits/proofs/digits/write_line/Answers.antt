use Rattle.ssz_digits.proofs.Spreading.{fronts_written}
use Rattle.ssz_digits.proofs.digits.write_line.Goals as goal

pub returns : goal.returns
returns c =
    fronts_written c.args.front.now c.args.word.now c.spread.new.room c.put_front.new.room _
    c.put_front.ensures c.spread.ensures.digits
