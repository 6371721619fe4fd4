use Rattle.std.proofs.Common.{◌≡◌, ◌∙◌, ℕ, None, sym, ap, subst, arith}
use Rattle.std.proofs.lemmas.Bool.{false≢true, not-true}
use Rattle.std.proofs.lemmas.Slice.Eq.{bytes_eq-Decides}
use Rattle.ssz_chunk.specs.declared.Chunk.{Chunk}
use Rattle.ssz_proof.specs.Calculation.{Known, calculate_root, chunk_at, indices_of}
use Rattle.ssz_proof.specs.Multiproof.{known_of}
use Rattle.ssz_proof.specs.Descent.{IsReached, levels_below}
use Rattle.ssz_proof.proofs.Descending.{ascends, starts}
use Rattle.ssz_proof.proofs.Levels.{levels_below-all}
use Rattle.ssz_clash.specs.Clashes.{AreUnlike}
use Rattle.ssz_clash.specs.Walks.{IsFirstBelow, IsFirstWithin}
use Rattle.ssz_clash.proofs.Alike.{leaves-alike}
use Rattle.ssz_clash.proofs.ComesTo.{comes-compared}
use Rattle.ssz_clash.proofs.Leaves.{places-same, same-indices, same-known, true-from_not}
use Rattle.ssz_clash.proofs.Showing.{none-below-root, shown-below-root}
use Rattle.ssz_clash.proofs.comparing.clash.Goals as goal

pub returns-then-not-same_places-clause-comes : goal.returns-then-not-same_places-clause-comes
returns-then-not-same_places-clause-comes g c = λ same.
    let first = c.args.first.now in
    let second = c.args.second.now in
    let is : indices_of first.leaves ≡ indices_of second.leaves =
    same-indices first.leaves second.leaves
    (ascends first.leaves first.nodes c.leaves.ensures.ordered)
    (ascends second.leaves second.nodes c.leaves-2.ensures.ordered) same in
    let both : indices_of c.leaves.result.now ≡ indices_of c.leaves-2.result.now =
    ap indices_of c.leaves.ensures.value ∙ is ∙ sym (ap indices_of c.leaves-2.ensures.value) in
    false≢true (sym c.if-not-same_places.true ∙ c.same_places.ensures.1 both)

pub walk-walked-requires-clause-reached : goal.walk-walked-requires-clause-reached
walk-walked-requires-clause-reached g c =
    let first = c.args.first.now in
    subst (λ (k : ℕ). IsReached first.leaves first.nodes k) (sym c.root.ensures)
    (starts first.leaves first.nodes c.leaves.ensures.ordered)

pub returns-then-ne-clause-comes : goal.returns-then-ne-clause-comes
returns-then-ne-clause-comes g c =
    let first = c.args.first.now in
    let second = c.args.second.now in
    let pair_of = g.H.PairHash.pair_of in
    let both = c.same_places.ensures.0 c.if-not-same_places.false in
    let is : indices_of first.leaves ≡ indices_of second.leaves =
    sym (ap indices_of c.leaves.ensures.value) ∙ both ∙ ap indices_of c.leaves-2.ensures.value in
    record {
      places = places-same first.leaves second.leaves is;
      root_of_one = c.walk-walked.ensures.first
          ∙ ap (calculate_root pair_of (known_of first)) c.root.ensures;
      root_of_other = c.walk-walked.ensures.second
          ∙ ap (calculate_root pair_of (known_of second)) c.root.ensures;
      unlike = λ same. false≢true
          (sym (not-true _ (sym c.ne.ensures ∙ c.if-ne.true))
          ∙ (bytes_eq-Decides c.walk-walked.result.first.0 c.walk-walked.result.second.0).1
          (ap (λ (chunk : Chunk). chunk.0) same));
    }

pub returns-then-ne-clause-pairs : goal.returns-then-ne-clause-pairs
returns-then-ne-clause-pairs g c =
    let indices = indices_of c.args.first.now.leaves in
    let at_root : levels_below c.root.result indices ≡ levels_below 1 indices =
    ap (λ (k : ℕ). levels_below k indices) c.root.ensures in
    omega (arith, c.walk-walked.ensures.pairs, levels_below-all 1 indices)

pub returns-then-same_entries-clause-comes : goal.returns-then-same_entries-clause-comes
returns-then-same_entries-clause-comes g c =
    let first = c.args.first.now in
    let second = c.args.second.now in
    let pair_of = g.H.PairHash.pair_of in
    let roots : calculate_root pair_of (known_of first) 1
    ≡ calculate_root pair_of (known_of second) 1 =
    sym (c.walk-walked.ensures.first ∙ ap (calculate_root pair_of (known_of first)) c.root.ensures)
    ∙ (bytes_eq-Decides c.walk-walked.result.first.0 c.walk-walked.result.second.0).0
    (true-from_not _ (sym c.ne.ensures ∙ c.if-ne.false))
    ∙ c.walk-walked.ensures.second
    ∙ ap (calculate_root pair_of (known_of second)) c.root.ensures in
    let same : first.leaves ≡ second.leaves =
    sym c.leaves-3.ensures.value ∙ c.same_entries.ensures.0 c.if-same_entries.true
    ∙ c.leaves-4.ensures.value in
    record {
      root = roots;
      leaves = λ index. ap (λ (known : Known). chunk_at known index) same;
    }

pub returns-then-same_entries-clause-pairs : goal.returns-then-same_entries-clause-pairs
returns-then-same_entries-clause-pairs g c =
    let indices = indices_of c.args.first.now.leaves in
    let at_root : levels_below c.root.result indices ≡ levels_below 1 indices =
    ap (λ (k : ℕ). levels_below k indices) c.root.ensures in
    omega (arith, c.walk-walked.ensures.pairs, levels_below-all 1 indices)

pub unreachable-requires : goal.unreachable-requires
unreachable-requires g c =
    let first = c.args.first.now in
    let second = c.args.second.now in
    let pair_of = g.H.PairHash.pair_of in
    let both = c.same_places.ensures.0 c.if-not-same_places.false in
    let is : indices_of first.leaves ≡ indices_of second.leaves =
    sym (ap indices_of c.leaves.ensures.value) ∙ both ∙ ap indices_of c.leaves-2.ensures.value in
    let places = places-same first.leaves second.leaves is in
    let none : IsFirstWithin pair_of first second 1 None =
    subst (λ (k : ℕ). IsFirstWithin pair_of first second k None) c.root.ensures
    (rw c.in-None.is at c.walk-walked.ensures.clash) in
    let roots : calculate_root pair_of (known_of first) 1
    ≡ calculate_root pair_of (known_of second) 1 =
    sym (c.walk-walked.ensures.first ∙ ap (calculate_root pair_of (known_of first)) c.root.ensures)
    ∙ (bytes_eq-Decides c.walk-walked.result.first.0 c.walk-walked.result.second.0).0
    (true-from_not _ (sym c.ne.ensures ∙ c.if-ne.false))
    ∙ c.walk-walked.ensures.second
    ∙ ap (calculate_root pair_of (known_of second)) c.root.ensures in
    let leaves = leaves-alike pair_of first second c.leaves.ensures.ordered
    c.leaves-2.ensures.ordered places
    (none-below-root pair_of first second c.leaves.ensures.ordered c.leaves-2.ensures.ordered places
    none) roots in
    let same : first.leaves ≡ second.leaves = same-known first.leaves second.leaves
    (ascends first.leaves first.nodes c.leaves.ensures.ordered)
    (ascends second.leaves second.nodes c.leaves-2.ensures.ordered) leaves in
    false≢true (sym c.if-same_entries.false
    ∙ c.same_entries.ensures.1 (c.leaves-3.ensures.value ∙ same ∙ sym c.leaves-4.ensures.value))

pub returns-clause-comes : goal.returns-clause-comes
returns-clause-comes g c =
    let first = c.args.first.now in
    let second = c.args.second.now in
    let pair_of = g.H.PairHash.pair_of in
    let both = c.same_places.ensures.0 c.if-not-same_places.false in
    let is : indices_of first.leaves ≡ indices_of second.leaves =
    sym (ap indices_of c.leaves.ensures.value) ∙ both ∙ ap indices_of c.leaves-2.ensures.value in
    let places = places-same first.leaves second.leaves is in
    let roots : calculate_root pair_of (known_of first) 1
    ≡ calculate_root pair_of (known_of second) 1 =
    sym (c.walk-walked.ensures.first ∙ ap (calculate_root pair_of (known_of first)) c.root.ensures)
    ∙ (bytes_eq-Decides c.walk-walked.result.first.0 c.walk-walked.result.second.0).0
    (true-from_not _ (sym c.ne.ensures ∙ c.if-ne.false))
    ∙ c.walk-walked.ensures.second
    ∙ ap (calculate_root pair_of (known_of second)) c.root.ensures in
    let found : IsFirstBelow pair_of first second 1 c.in-Some.pairs =
    subst (λ (k : ℕ). IsFirstBelow pair_of first second k c.in-Some.pairs) c.root.ensures
    (rw c.in-Some.is at c.walk-walked.ensures.clash) in
    let unlike : AreUnlike pair_of first second c.in-Some.pairs.index c.in-Some.pairs.first
    c.in-Some.pairs.second = record {
      places = places;
      root = roots;
      leaves = λ leaves.
          let same : first.leaves ≡ second.leaves = same-known first.leaves second.leaves
          (ascends first.leaves first.nodes c.leaves.ensures.ordered)
          (ascends second.leaves second.nodes c.leaves-2.ensures.ordered) leaves in
          false≢true (sym c.if-same_entries.false
          ∙ c.same_entries.ensures.1
          (c.leaves-3.ensures.value ∙ same ∙ sym c.leaves-4.ensures.value));
      shown = shown-below-root pair_of first second c.leaves.ensures.ordered
          c.leaves-2.ensures.ordered places c.in-Some.pairs found;
    } in
    rw c.in-Some.is unlike

pub returns-clause-pairs : goal.returns-clause-pairs
returns-clause-pairs g c =
    let indices = indices_of c.args.first.now.leaves in
    let at_root : levels_below c.root.result indices ≡ levels_below 1 indices =
    ap (λ (k : ℕ). levels_below k indices) c.root.ensures in
    omega (arith, c.walk-walked.ensures.pairs, levels_below-all 1 indices)

pub returns-then-not-same_places-clause-exact : goal.returns-then-not-same_places-clause-exact
returns-then-not-same_places-clause-exact g c = sym (comes-compared g.H.PairHash.pair_of
    c.args.first.now c.args.second.now c.leaves.ensures.ordered c.leaves-2.ensures.ordered _
    (returns-then-not-same_places-clause-comes g c))

pub returns-then-ne-clause-exact : goal.returns-then-ne-clause-exact
returns-then-ne-clause-exact g c = sym (comes-compared g.H.PairHash.pair_of
    c.args.first.now c.args.second.now c.leaves.ensures.ordered c.leaves-2.ensures.ordered _
    (returns-then-ne-clause-comes g c))

pub returns-then-same_entries-clause-exact : goal.returns-then-same_entries-clause-exact
returns-then-same_entries-clause-exact g c = sym (comes-compared g.H.PairHash.pair_of
    c.args.first.now c.args.second.now c.leaves.ensures.ordered c.leaves-2.ensures.ordered _
    (returns-then-same_entries-clause-comes g c))

pub returns-clause-exact : goal.returns-clause-exact
returns-clause-exact g c = sym (comes-compared g.H.PairHash.pair_of
    c.args.first.now c.args.second.now c.leaves.ensures.ordered c.leaves-2.ensures.ordered _
    (returns-clause-comes g c))
