use Rattle.std.proofs.Common.{[], ◌∷◌, refl}
use Rattle.ssz_lanes.proofs.Few.{shuffled}
use Rattle.ssz_lanes.proofs.turning.last_by_twos.Goals as goal

pub returns : goal.returns
returns c = record {
  words = shuffled c.args.x c.args.y (2 ∷ 3 ∷ 10 ∷ 11 ∷ 6 ∷ 7 ∷ 14 ∷ 15 ∷ []) c.requires;
  lanes = refl;
}
