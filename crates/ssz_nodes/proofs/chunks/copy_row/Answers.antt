use Rattle.std.proofs.Common.{◌+◌, ◌*◌, ◌-◌, length, ◌∙◌, arith}
use borrow.Rule.Slice.PartMut.{same_len_mid}
use Rattle.ssz_nodes.proofs.Chunked.{copied_all, copied_more}
use Rattle.ssz_nodes.proofs.chunks.copy_row.Goals as goal

pub loop-i-preserved : goal.loop-i-preserved
loop-i-preserved g c = record {
  long = same_len_mid (32 * c.loop-i.i) (32 * c.loop-i.i + 32 - 32 * c.loop-i.i) c.loop-i.room
      c.copy_from_slice.new.self c.copy_from_slice.ensures.len ∙ c.loop-i.invariant.long;
  copied = λ bytes j are within. copied_more bytes j c.loop-i.i
      (32 * c.loop-i.i + 32 - 32 * c.loop-i.i) c.loop-i.room c.copy_from_slice.new.self
      (omega (arith, c.loop-i.invariant.long, c.requires.room, c.loop-i-test.true))
      (omega (arith, within, c.loop-i-test.true))
      (omega arith)
      (c.copy_from_slice.ensures.after
      ∙ c.chunk_of.ensures _ (are c.loop-i.i (omega (arith, c.loop-i-test.true))))
      (c.loop-i.invariant.copied bytes j are within);
}

pub returns-clause-bytes : goal.returns-clause-bytes
returns-clause-bytes g c = λ bytes j are within.
    copied_all bytes j c.loop-i.i (length c.args.row.now) c.loop-i.room
    (c.loop-i.invariant.long ∙ c.requires.room)
    (omega (arith, c.loop-i-test.false, c.loop-i.auto.i-end))
    (c.loop-i.invariant.copied bytes j are within)
