use Rattle.std.proofs.Common.{sym, ap₂, subst}
use Rattle.ssz_proof.specs.Multiproof.{IsOrdered}
use Rattle.ssz_proof.proofs.Changed.{ordered-with}
use Rattle.ssz_proof.proofs.Descending.{ascends, descends}
use Rattle.ssz_proof.proofs.proof.Proof.put.Goals as goal

pub put_ascending-requires : goal.put_ascending-requires
put_ascending-requires c =
    ascends c.self.inside.leaves.items c.self.inside.nodes.items c.self.invariant

pub put_descending-requires : goal.put_descending-requires
put_descending-requires c =
    descends c.self.inside.leaves.items c.self.inside.nodes.items c.self.invariant

pub invariant_of-self : goal.invariant_of-self
invariant_of-self c =
    subst IsOrdered (ap₂ (λ leaves nodes. record { leaves = leaves; nodes = nodes })
    (sym c.put_ascending.ensures) (sym c.put_descending.ensures))
    (ordered-with
    (record { leaves = c.self.inside.leaves.items; nodes = c.self.inside.nodes.items })
    c.args.index c.args.chunk c.self.invariant)
