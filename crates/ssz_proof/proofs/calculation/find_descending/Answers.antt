use Rattle.std.proofs.Common.{◌<◌, sym, ap, ◌∙◌}
use Rattle.std.specs.Prelude.{option_map}
use Rattle.ssz_proof.proofs.Searching.{chunk_at-none, more-apart}
use Rattle.ssz_proof.proofs.Located.{chunk_there}
use Rattle.ssz_proof.proofs.calculation.find_descending.Goals as goal

pub returns-in_err-place : goal.returns-in_err-place
returns-in_err-place c =
    ap (option_map (λ chunk. chunk.0)) c.from_residual.ensures
    ∙ sym (chunk_at-none c.args.entries.now c.args.index c.in_err-place.ensures)

pub returns : goal.returns
returns c =
    sym (chunk_there (λ one later. later < one) more-apart c.args.entries.now c.args.index
    c.in_ok-place.place c.index-entries-place.result c.requires c.in_ok-place.ensures)
