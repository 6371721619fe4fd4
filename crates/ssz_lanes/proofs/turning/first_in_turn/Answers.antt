use Rattle.std.proofs.Common.{[], ◌∷◌, refl}
use Rattle.ssz_lanes.proofs.Few.{shuffled}
use Rattle.ssz_lanes.proofs.turning.first_in_turn.Goals as goal

pub returns : goal.returns
returns c = record {
  words = shuffled c.args.x c.args.y (0 ∷ 8 ∷ 1 ∷ 9 ∷ 4 ∷ 12 ∷ 5 ∷ 13 ∷ []) c.requires;
  lanes = refl;
}
