use Rattle.std.proofs.Common.{take-add, arith, length-drop}
use Rattle.std.proofs.KnownBytes.{Appends-trans}
use Rattle.std.proofs.lemmas.List.{take_rest}
use Rattle.ssz_outside.proofs.streams.write_all.Goals as goal

pub loop-done-preserved : goal.loop-done-preserved
loop-done-preserved g c =
    let bytes = c.args.bytes.now in
    let done = c.loop-done.done in
    let count = c.in_ok-done.field-0 in
    let wrote = rw (take_rest bytes done) at c.in_ok-done.ensures.bytes in
    let within = rw (take_rest bytes done) at c.in_ok-done.ensures.bound in
    let written = Appends-trans _ _ _ _ _ c.loop-done.invariant.written wrote in
    record {
      written = rw (take-add done count bytes) written;
      room = omega (arith, length-drop done bytes, within);
    }
