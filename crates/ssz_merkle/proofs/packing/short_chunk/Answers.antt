use Rattle.std.proofs.Common.{◌∙◌, ◌++◌, ℕ, List, length, drop, ap, sym, arith}
use Rattle.ssz_chunk.specs.Chunk.{zero_chunk}
use Rattle.ssz_merkle.proofs.Padding.{padded-short}
use Rattle.ssz_merkle.proofs.packing.short_chunk.Goals as goal

pub returns : goal.returns
returns c =
    ap (λ (front : List ℕ). front ++ drop (length c.args.bytes.now) zero_chunk)
    c.copy_from_slice.ensures.after ∙ sym (padded-short c.args.bytes.now (omega arith))
