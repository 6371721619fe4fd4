use Rattle.std.proofs.Common.{[], ◌∷◌, refl}
use Rattle.ssz_lanes.proofs.Few.{shuffled}
use Rattle.ssz_lanes.proofs.turning.last_by_fours.Goals as goal

pub returns : goal.returns
returns c = record {
  words = shuffled c.args.x c.args.y (4 ∷ 5 ∷ 6 ∷ 7 ∷ 12 ∷ 13 ∷ 14 ∷ 15 ∷ []) c.requires;
  lanes = refl;
}
