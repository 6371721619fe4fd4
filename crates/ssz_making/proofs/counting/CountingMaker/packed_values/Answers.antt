use Rattle.std.proofs.Common.{◌+◌, ◌/◌, length, subst, sym}
use Rattle.std.specs.List.{concat}
use Rattle.ssz_chunk.specs.Tree.{merkle_pairs}
use Rattle.ssz_packing.specs.Elements.{encodings_of}
use Rattle.ssz_making.proofs.ValueForms.{encodings_long}
use Rattle.ssz_making.proofs.Tallying.{tally-chunks}
use Rattle.ssz_making.specs.Tallies.{Tallies}
use Rattle.ssz_making.proofs.counting.CountingMaker.packed_values.Goals as goal

pub returns : goal.returns
returns c = λ t sized fit.
    let bytes = concat (encodings_of t c.args.parts.now) in
    tally-chunks c.args.depth ((length bytes + 31) / 32) bytes _
    (subst (λ n. Tallies (merkle_pairs c.args.depth ((n + 31) / 32))
    (merkle_pairs c.args.depth ((n + 31) / 32) + (n + 31) / 32) c.chunks.result)
    (sym (encodings_long t c.args.size c.args.parts.now sized fit))
    (subst (λ n. Tallies (merkle_pairs c.args.depth n)
    (merkle_pairs c.args.depth n + n) c.chunks.result)
    c.chunk_count.ensures c.chunks.ensures))
