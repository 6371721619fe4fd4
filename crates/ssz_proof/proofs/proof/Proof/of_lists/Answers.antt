use Rattle.std.proofs.Common.{◌^◌, ◌<◌, sym, ◌∙◌}
use Rattle.std.specs.List.{AllByRecursion}
use Rattle.std.proofs.lemmas.Bool.{false≢true}
use Rattle.ssz_proof.specs.Calculation.{indices_of}
use Rattle.ssz_proof.specs.Multiproof.{AreComplete, IsProofOf}
use Rattle.ssz_proof.proofs.Permuted.{made, has_complete}
use Rattle.ssz_proof.proofs.proof.Proof.of_lists.Goals as goal
use Rattle.ssz_proof.proofs.proof.Proof.of_lists.Goals.{Then-branch}

-- the proof of the sorted leaves
is_made : (c : Then-branch) → IsProofOf
    (record { leaves = c.args.leaves.items; nodes = c.args.nodes.items })
    (record { leaves = c.sort.new.entries.items; nodes = c.args.nodes.items })
is_made c =
    let complete : AreComplete c.sort.new.entries.items c.args.nodes.items =
    rw (c.deref.ensures.value, c.deref-2.ensures.value)
    at (c.in_ok-are_complete.ensures.complete.0 c.if-branch.true) in
    let fits : AllByRecursion (λ index. index < 2 ^ 128) (indices_of c.sort.new.entries.items) =
    rw c.deref.ensures.value at (c.in_ok-are_complete.ensures.fits c.if-branch.true) in
    made c.args.leaves.items c.sort.new.entries.items c.args.nodes.items c.sort.ensures.same
    complete fits

pub invariant_of-result : goal.invariant_of-result
invariant_of-result c = (is_made c).ordered

pub returns-then-branch-clause-ok : goal.returns-then-branch-clause-ok
returns-then-branch-clause-ok c = is_made c

pub returns-else-branch-clause-bad : goal.returns-else-branch-clause-bad
returns-else-branch-clause-bad c bad is =
    let complete : AreComplete c.deref.result.now c.deref-2.result.now =
    rw (c.deref.ensures.value, c.deref-2.ensures.value)
    (has_complete c.args.leaves.items c.sort.new.entries.items c.args.nodes.items
    c.sort.ensures.same c.sort.ensures.sorted is) in
    false≢true (sym c.if-branch.false ∙ c.in_ok-are_complete.ensures.complete.1 complete)
