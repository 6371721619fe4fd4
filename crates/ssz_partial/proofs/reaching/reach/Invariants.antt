use Rattle.std.proofs.Common.{◌<◌, length, drop}
use Rattle.ssz_schema.specs.Unfolding.{type_of}
use Rattle.ssz_proof.specs.Multiproof.{known_of}
use Rattle.ssz_walk.specs.Found.{spot_of}
use Rattle.ssz_partial.proofs.Leading.{LeadsTo}
use Rattle.ssz_partial.proofs.reaching.reach.Given as goal

abbrev pub invariant-loop-step : goal.invariant-loop-step
invariant-loop-step l = record {
  known : l.part < length l.schema.trees;
  leads : LeadsTo (known_of l.proof) (type_of l.schema l.fn.id) l.path l.index (spot_of l.spot)
      (type_of l.schema l.part) (drop l.step-index l.path);
}
