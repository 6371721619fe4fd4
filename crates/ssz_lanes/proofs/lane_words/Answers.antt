use Rattle.std.proofs.Common.{ℕ, [], ◌∷◌, slice_index, sym, ◌∙◌}
use Rattle.std.proofs.lemmas.Grind.{same_number_lists}
use Rattle.ssz_lanes.specs.Lanes.{lane}
use Rattle.ssz_lanes.proofs.Few.{values_of, values-at}
use Rattle.ssz_lanes.proofs.LaneLaws.{lane-at, length-lane}
use Rattle.ssz_lanes.proofs.lane_words.Goals as goal

pub returns : goal.returns
returns c =
    let j = c.args.j in
    let h = c.args.h.now in
    let at : (i : ℕ) → ℕ = slice_index (lane j h) in
    (λ i. sym (lane-at j 0 h) i ∷ sym (lane-at j 1 h) i ∷ sym (lane-at j 2 h) i
    ∷ sym (lane-at j 3 h) i ∷ sym (lane-at j 4 h) i ∷ sym (lane-at j 5 h) i
    ∷ sym (lane-at j 6 h) i ∷ sym (lane-at j 7 h) i ∷ [])
    ∙ same_number_lists (values_of 8 at) (lane j h) (sym (length-lane j h ∙ c.told-h))
    (values-at 8 at)
