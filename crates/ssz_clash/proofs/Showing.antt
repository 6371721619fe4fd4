-- The first clash of two proofs, with the pairs below it.
use Rattle.std.proofs.Common.{◌≡◌, ℕ, ◌+◌, ◌*◌, true, List, sym, ap, ◌∙◌, None, is_some, inl, inr}
use Rattle.ssz_gindex.specs.Helpers.{is_on_paths}
use Rattle.ssz_gindex.proofs.Within.{on_paths_from}
use Rattle.ssz_proof.specs.Calculation.{PairOf, calculate_root, chunk_at, indices_of}
use Rattle.ssz_proof.specs.Multiproof.{Multiproof, known_of, IsOrdered}
use Rattle.ssz_proof.proofs.Descending.{goes_down}
use Rattle.ssz_proof.proofs.HelperIndices.{reached-on}
use Rattle.ssz_proof.proofs.KnownChunks.{some_or_none}
use Rattle.ssz_proof.proofs.Within.{root_within}
use Rattle.ssz_clash.specs.declared.walk.Pairs.{Pairs}
use Rattle.ssz_clash.specs.Clashes.{IsAbove, IsClash, IsClashShown, SamePlaces, pair_bytes}
use Rattle.ssz_clash.specs.Walks.{IsFirstBelow, IsFirstWithin}
use Rattle.ssz_clash.proofs.Below.{known-above-none}
use Rattle.ssz_clash.proofs.Leaves.{some-known}

-- the chunk above a leaf is made of the pair below it
made-of : (pair_of : PairOf) (proof : Multiproof) → IsOrdered proof → (g : ℕ)
    → IsAbove proof.leaves g
    → calculate_root pair_of (known_of proof) g
    ≡ pair_of (calculate_root pair_of (known_of proof) (2 * g))
    (calculate_root pair_of (known_of proof) (2 * g + 1))
made-of pair_of proof ordered g above =
    let on : is_on_paths (indices_of proof.leaves) g ≡ true =
    on_paths_from (indices_of proof.leaves) g above.leaf
    (sym (some-known proof.leaves above.leaf) ∙ above.there) above.within in
    let unknown : chunk_at (known_of proof) g ≡ None =
    elim (some_or_none (chunk_at (known_of proof) g)) [
      | inl chunk ↦ absurd (known-above-none proof.leaves proof.nodes ordered g above.leaf
          (ap is_some chunk.1) above.there above.within above.apart)
      | inr none ↦ none
    ] in
    (goes_down proof.leaves proof.nodes ordered pair_of g above.positive
    (reached-on proof.leaves proof.nodes ordered.is.complete g on) (sym unknown)).chunk

module _ (pair_of : PairOf) (one other : Multiproof) (ordered : IsOrdered one)
    (also : IsOrdered other) (places : SamePlaces one.leaves other.leaves) where
  -- there is none at all where there is none below the root
  pub none-below-root : IsFirstWithin pair_of one other 1 None
      → (h : ℕ) → IsClash pair_of one other h → ⊥
  none-below-root none h clash = none h (root_within h clash.above.positive) clash

  pub shown-below-root : (found : Pairs) → IsFirstBelow pair_of one other 1 found
      → IsClashShown pair_of one other found.index found.first found.second
  shown-below-root found is =
      let above = is.clash.above in
      let also_above : IsAbove other.leaves found.index = record {
        positive = above.positive;
        leaf = above.leaf;
        there = sym (places above.leaf) ∙ above.there;
        within = above.within;
        apart = above.apart;
      } in
      record {
        place = record {
          clash = is.clash;
          least = λ h clash. is.least h (root_within h clash.above.positive) clash;
        };
        pair_of_one = is.pair_of_one;
        pair_of_other = is.pair_of_other;
        unlike = λ same. is.clash.unlike
            (sym is.pair_of_one ∙ ap pair_bytes same ∙ is.pair_of_other);
        same = ap (λ (x : List ℕ × List ℕ). pair_of x.0 x.1) is.pair_of_one
            ∙ sym (made-of pair_of one ordered found.index above)
            ∙ is.clash.same
            ∙ made-of pair_of other also found.index also_above
            ∙ sym (ap (λ (x : List ℕ × List ℕ). pair_of x.0 x.1) is.pair_of_other);
      }
