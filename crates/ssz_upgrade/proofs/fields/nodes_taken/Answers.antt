use Rattle.std.proofs.Common.{ap, ◌++◌, map, arith}
use Rattle.ssz_upgrade.specs.Fields.{pick}
use Rattle.ssz_upgrade.proofs.Walking.{PickedSoFar-end}
use Rattle.ssz_upgrade.proofs.fields.nodes_taken.Goals as goal

pub loop-number-init : goal.loop-number-init
loop-number-init c = record {
  left = ap (λ xs. xs ++ map (pick c.args.nodes.now) c.args.taken.now) c.in_ok-given.ensures.items;
}

pub returns : goal.returns
returns c =
    PickedSoFar-end c.args.nodes.now c.args.taken.now c.loop-number.number-index
    c.loop-number.given.items c.loop-number.invariant (omega arith)
