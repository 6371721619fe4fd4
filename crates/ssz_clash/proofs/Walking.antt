-- A step of the walk down two proofs of the same places.
use Rattle.std.proofs.Common.{◌≡◌, ℕ, suc, ◌<◌, ◌||◌, false, List, ◌++◌, refl, sym, ap, ap₂, ◌∙◌, Option, Some, None, is_some, arith}
use Rattle.std.proofs.lemmas.Bool.{false≢true}
use Rattle.std.proofs.lemmas.List.{map-append}
use Rattle.ssz_chunk.specs.Index.{levels}
use Rattle.ssz_gindex.specs.Helpers.{is_on_paths, helpers}
use Rattle.ssz_gindex.proofs.Within.{within_from}
use Rattle.ssz_proof.specs.declared.entry.Entry.{Entry}
use Rattle.ssz_proof.specs.Calculation.{Known, PairOf, indices_of, chunk_at}
use Rattle.ssz_proof.specs.Multiproof.{Multiproof, known_of, IsOrdered}
use Rattle.ssz_proof.specs.Descent.{IsReached}
use Rattle.ssz_proof.proofs.Calculating.{leaf_below}
use Rattle.ssz_proof.proofs.Descending.{GoesDown, goes_down}
use Rattle.ssz_clash.specs.Clashes.{IsAbove, SamePlaces}
use Rattle.ssz_clash.proofs.Leaves.{places-same}

pub none-from : {X : Type 0} (o : Option X) → is_some o ≡ false → o ≡ None
none-from None e = refl
none-from (Some x) e = absurd (false≢true (sym e))

indices-append : (xs ys : Known) → indices_of (xs ++ ys) ≡ indices_of xs ++ indices_of ys
indices-append xs ys = map-append (λ (entry : Entry). entry.index) xs ys

-- both go down from an index that is not known
pub record GoDown (pair_of : PairOf) (one other : Multiproof) (g : ℕ) : Type 0 where
  pub first : GoesDown pair_of one.leaves one.nodes g
  pub second : GoesDown pair_of other.leaves other.nodes g
  pub above : IsAbove one.leaves g

module _ (one other : Multiproof) (ordered : IsOrdered one) (also : IsOrdered other)
    (places : indices_of one.leaves ≡ indices_of other.leaves) where
  -- chunks are known at the same indices
  known-places : SamePlaces (known_of one) (known_of other)
  known-places = places-same (known_of one) (known_of other)
      (indices-append one.leaves one.nodes
      ∙ ap₂ (λ (xs ys : List ℕ). xs ++ ys) places
      (ordered.is.complete ∙ ap helpers places ∙ sym also.is.complete)
      ∙ sym (indices-append other.leaves other.nodes))

  -- a chunk that one knows the other knows as well
  pub both-known : (g : ℕ) (chunk : List ℕ) → Some chunk ≡ chunk_at (known_of one) g
      → None ≡ chunk_at (known_of other) g → ⊥
  both-known g chunk some none =
      false≢true (ap is_some none ∙ sym (known-places g) ∙ sym (ap is_some some))

  pub go-down : (pair_of : PairOf) (g : ℕ) → 0 < g → IsReached one.leaves one.nodes g
      → None ≡ chunk_at (known_of one) g → GoDown pair_of one other g
  go-down pair_of g positive reached none =
      let below = leaf_below one.leaves one.nodes ordered.is.complete g reached (sym none) in
      let gone : chunk_at (known_of other) g ≡ None = none-from (chunk_at (known_of other) g)
      (sym (known-places g) ∙ ap is_some (sym none)) in
      let same : (is_on_paths (indices_of one.leaves) g || is_some (chunk_at (known_of one) g))
      ≡ (is_on_paths (indices_of other.leaves) g || is_some (chunk_at (known_of other) g)) =
      ap₂ (λ a b. a || b) (ap (λ (indices : List ℕ). is_on_paths indices g) places)
      (known-places g) in
      record {
        first = goes_down one.leaves one.nodes ordered pair_of g positive reached none;
        second = goes_down other.leaves other.nodes also pair_of g positive (sym same ∙ reached)
            (sym gone);
        above = record {
          positive = positive;
          leaf = below.leaf;
          there = below.is;
          within = within_from g below.leaf (suc below.down) below.levels below.high;
          apart = λ alike.
              let e : levels g ≡ levels below.leaf = ap (λ (k : ℕ). levels k) alike in
              omega (arith, below.levels);
        };
      }
