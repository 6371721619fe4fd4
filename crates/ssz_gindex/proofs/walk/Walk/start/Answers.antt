use Rattle.ssz_gindex.proofs.Starting.{starts}
use Rattle.ssz_gindex.proofs.walk.Walk.start.Goals as goal

pub returns : goal.returns
returns c =
    starts c.args.indices.now c.in_ok-descending.field-0.items c.new.result.items
    c.are_positive.ensures c.in_ok-descending.ensures.falls c.in_ok-descending.ensures.same
    c.new.ensures.items
