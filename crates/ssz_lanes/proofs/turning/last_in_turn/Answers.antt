use Rattle.std.proofs.Common.{[], ◌∷◌, refl}
use Rattle.ssz_lanes.proofs.Few.{shuffled}
use Rattle.ssz_lanes.proofs.turning.last_in_turn.Goals as goal

pub returns : goal.returns
returns c = record {
  words = shuffled c.args.x c.args.y (2 ∷ 10 ∷ 3 ∷ 11 ∷ 6 ∷ 14 ∷ 7 ∷ 15 ∷ []) c.requires;
  lanes = refl;
}
