use Rattle.std.proofs.Common.{◌∙◌, sym, ap, arith}
use Rattle.sha2.specs.Sha256.{digest_bytes}
use Rattle.ssz_lanes.specs.Lanes.{message}
use Rattle.ssz_lanes.proofs.Blocks.{two_blocks}
use Rattle.ssz_lanes.proofs.sha256_pairs.Goals as goal

pub returns : goal.returns
returns c = λ j lt.
    c.lanes.invariant.each j (omega arith)
    ∙ ap (λ h. digest_bytes h 8) (c.hashes-h.ensures.value j lt)
    ∙ sym (two_blocks (message c.args.row.now j) (c.hashes-h.ensures.long j lt))
