use Rattle.std.proofs.Common.{◌+◌, ◌*◌, [], ◌∷◌}
use Rattle.ssz_proof.specs.Rows.{levels_left}
use Rattle.ssz_proof.proofs.rows.+rows.Given as goal

abbrev pub decreases-calculate : goal.decreases-calculate
decreases-calculate g l = 3 * levels_left l.leaves.now (l.index ∷ [])

abbrev pub decreases-found_or_calculated : goal.decreases-found_or_calculated
decreases-found_or_calculated g l = 3 * levels_left l.leaves.now (l.index ∷ []) + 1

abbrev pub decreases-calculate_row : goal.decreases-calculate_row
decreases-calculate_row g l = 3 * levels_left l.leaves.now l.indices.now + 1

abbrev pub decreases-calculate_rows : goal.decreases-calculate_rows
decreases-calculate_rows g l = 3 * levels_left l.leaves.now l.indices.now + 2
