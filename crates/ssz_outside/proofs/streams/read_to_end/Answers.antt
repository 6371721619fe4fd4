use Rattle.std.proofs.Common.{◌++◌, take, arith, length-append, length-take}
use Rattle.std.proofs.KnownBytes.{Consumes-trans}
use Rattle.ssz_outside.proofs.streams.read_to_end.Goals as goal

pub returns-then-count-allowed-clause-takes : goal.returns-then-count-allowed-clause-takes
returns-then-count-allowed-clause-takes g c =
    let before = c.loop-count.into.items in
    let more = take c.in_ok-count.count c.read_some.new.chunk in (
      before ++ more,
      omega (
        arith,
        length-append before more,
        length-take c.in_ok-count.count c.read_some.new.chunk,
        length-take c.bytes_to_ask.result c.loop-count.chunk,
        c.in_ok-count.ensures.bound,
        c.bytes_to_ask.ensures.most,
      ),
      Consumes-trans _ _ _ _ _ c.loop-count.invariant.taken c.in_ok-count.ensures.bytes.0,
    )

pub returns-then-is_err-clause-takes : goal.returns-then-is_err-clause-takes
returns-then-is_err-clause-takes g c =
    let before = c.loop-count.into.items in
    let more = take c.in_ok-count.count c.read_some.new.chunk in (
      before ++ more,
      omega (
        arith,
        length-append before more,
        length-take c.in_ok-count.count c.read_some.new.chunk,
        c.if-count-allowed.false,
      ),
      Consumes-trans _ _ _ _ _ c.loop-count.invariant.taken c.in_ok-count.ensures.bytes.0,
    )
