use Rattle.std.proofs.Common.{[], ◌∷◌, refl}
use Rattle.ssz_lanes.proofs.Few.{shuffled}
use Rattle.ssz_lanes.proofs.turning.first_by_fours.Goals as goal

pub returns : goal.returns
returns c = record {
  words = shuffled c.args.x c.args.y (0 ∷ 1 ∷ 2 ∷ 3 ∷ 8 ∷ 9 ∷ 10 ∷ 11 ∷ []) c.requires;
  lanes = refl;
}
