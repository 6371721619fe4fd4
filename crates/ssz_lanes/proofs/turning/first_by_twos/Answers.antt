use Rattle.std.proofs.Common.{[], ◌∷◌, refl}
use Rattle.ssz_lanes.proofs.Few.{shuffled}
use Rattle.ssz_lanes.proofs.turning.first_by_twos.Goals as goal

pub returns : goal.returns
returns c = record {
  words = shuffled c.args.x c.args.y (0 ∷ 1 ∷ 8 ∷ 9 ∷ 4 ∷ 5 ∷ 12 ∷ 13 ∷ []) c.requires;
  lanes = refl;
}
