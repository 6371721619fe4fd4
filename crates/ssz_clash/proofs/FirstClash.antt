-- The first clash at or below an index, from those below its children.
use Rattle.std.proofs.Common.{◌≡◌, ℕ, ◌+◌, ◌*◌, ◌<◌, true, List, sym, ap, subst, ◌∙◌, Option, Some, None, is_some, inl, inr}
use Rattle.std.specs.Prelude.{MatchOption}
use Rattle.ssz_chunk.specs.declared.Chunk.{Chunk}
use Rattle.ssz_gindex.specs.Helpers.{is_within}
use Rattle.ssz_gindex.proofs.Within.{within_self, within_trans}
use Rattle.ssz_proof.specs.Calculation.{PairOf, calculate_root, chunk_at}
use Rattle.ssz_proof.specs.Multiproof.{Multiproof, known_of, IsOrdered}
use Rattle.ssz_clash.specs.declared.walk.Pairs.{Pairs}
use Rattle.ssz_clash.specs.Clashes.{IsAbove, IsClash, pair_at, pair_bytes}
use Rattle.ssz_clash.specs.Walks.{AreClashing, IsFirstBelow, IsFirstWithin, pick_pairs}
use Rattle.ssz_clash.proofs.Below.{same_index, to_left, to_right, where_below, below_left, below_right, apart_above, known-above-none}

abbrev chunk_from : List ℕ → Chunk
chunk_from bytes = record { 0 = bytes }

abbrev pair_from : List ℕ × List ℕ → Chunk × Chunk
pair_from bytes = (chunk_from bytes.0, chunk_from bytes.1)

-- chunks are told by their bytes
pub same-chunk : (a b : Chunk) → a.0 ≡ b.0 → a ≡ b
same-chunk a b same = ap chunk_from same

same-pair : (a b : Chunk × Chunk) → pair_bytes a ≡ pair_bytes b → a ≡ b
same-pair a b same = ap pair_from same

module _ (pair_of : PairOf) (one other : Multiproof) where
  -- none at or below an index that is known
  pub none-known : IsOrdered one → (i : ℕ) → is_some (chunk_at (known_of one) i) ≡ true
      → IsFirstWithin pair_of one other i None
  none-known ordered i known h within clash =
      let above = clash.above in
      known-above-none one.leaves one.nodes ordered i above.leaf known above.there
      (within_trans i h above.leaf within above.within)
      (apart_above i h above.leaf within above.within above.apart)

  -- what is found at the index itself
  pub record IsHere (i : ℕ) (found : Pairs) : Type 0 where
    pub index : found.index ≡ i
    pub clash : IsClash pair_of one other i
    pub pair_of_one : pair_bytes found.first ≡ pair_at pair_of one i
    pub pair_of_other : pair_bytes found.second ≡ pair_at pair_of other i

  abbrev pub IsFoundHere : ℕ → Option Pairs → Type 0
  IsFoundHere i None = IsClash pair_of one other i → ⊥
  IsFoundHere i (Some found) = IsHere i found

  first-here : (i : ℕ) (found : Pairs) → IsHere i found → IsFirstBelow pair_of one other i found
  first-here i found here = record {
    within = subst (λ (k : ℕ). is_within i k ≡ true) (sym here.index) (within_self i);
    clash = subst (λ (k : ℕ). IsClash pair_of one other k) (sym here.index) here.clash;
    least = λ h within clash. inl (subst (λ (k : ℕ). is_within k h ≡ true) (sym here.index) within);
    pair_of_one = here.pair_of_one ∙ ap (pair_at pair_of one) (sym here.index);
    pair_of_other = here.pair_of_other ∙ ap (pair_at pair_of other) (sym here.index);
  }

  module _ (i : ℕ) (positive : 0 < i) (not_here : IsClash pair_of one other i → ⊥) where
    not-there : (h : ℕ) → i ≡ h → IsClash pair_of one other h → ⊥
    not-there h same clash =
        not_here (subst (λ (k : ℕ). IsClash pair_of one other k) (sym same) clash)

    first-left : (found : Pairs) → IsFirstBelow pair_of one other (2 * i) found
        → IsFirstBelow pair_of one other i found
    first-left found is = record {
      within = below_left i found.index positive is.within;
      clash = is.clash;
      least = λ h within clash. elim (where_below i h positive within) [
        | same_index same ↦ absurd (not-there h same clash)
        | to_left left ↦ is.least h left clash
        | to_right right ↦ inr (i, is.within, right)
      ];
      pair_of_one = is.pair_of_one;
      pair_of_other = is.pair_of_other;
    }

    module _ (none : IsFirstWithin pair_of one other (2 * i) None) where
      first-right : (found : Pairs) → IsFirstBelow pair_of one other (2 * i + 1) found
          → IsFirstBelow pair_of one other i found
      first-right found is = record {
        within = below_right i found.index positive is.within;
        clash = is.clash;
        least = λ h within clash. elim (where_below i h positive within) [
          | same_index same ↦ absurd (not-there h same clash)
          | to_left left ↦ absurd (none h left clash)
          | to_right right ↦ is.least h right clash
        ];
        pair_of_one = is.pair_of_one;
        pair_of_other = is.pair_of_other;
      }

      none-right : IsFirstWithin pair_of one other (2 * i + 1) None
          → IsFirstWithin pair_of one other i None
      none-right also h within clash = elim (where_below i h positive within) [
        | same_index same ↦ not-there h same clash
        | to_left left ↦ none h left clash
        | to_right right ↦ also h right clash
      ]

  pub first-within : (i : ℕ) → 0 < i → (here left right : Option Pairs) → IsFoundHere i here
      → IsFirstWithin pair_of one other (2 * i) left
      → IsFirstWithin pair_of one other (2 * i + 1) right
      → IsFirstWithin pair_of one other i (pick_pairs here left right)
  first-within i positive (Some found) left right here before behind = first-here i found here
  first-within i positive None (Some found) right here before behind =
      first-left i positive here found before
  first-within i positive None None (Some found) here before behind =
      first-right i positive here before found behind
  first-within i positive None None None here before behind =
      none-right i positive here before behind

  -- what is calculated there, and below
  pub record Meet (i : ℕ) (a b : Chunk) (pairs : Pairs) : Type 0 where
    pub index : pairs.index ≡ i
    pub above : IsAbove one.leaves i
    pub chunk_of_one : a.0 ≡ calculate_root pair_of (known_of one) i
    pub chunk_of_other : b.0 ≡ calculate_root pair_of (known_of other) i
    pub pair_of_one : pair_bytes pairs.first ≡ pair_at pair_of one i
    pub pair_of_other : pair_bytes pairs.second ≡ pair_at pair_of other i

  -- the pairs, if they clash
  pub found-here : (i : ℕ) (a b : Chunk) (pairs : Pairs) (o : Option Pairs) → Meet i a b pairs
      → MatchOption o (AreClashing a b pairs → ⊥)
      (λ found. (found ≡ pairs) × AreClashing a b pairs)
      → IsFoundHere i o
  found-here i a b pairs (Some found) meet is =
      subst (λ (p : Pairs). IsHere i p) (sym is.0) (record {
        index = meet.index;
        clash = record {
          above = meet.above;
          same = sym meet.chunk_of_one ∙ ap (λ (c : Chunk). c.0) is.1.0 ∙ meet.chunk_of_other;
          unlike = λ same. is.1.1 (same-pair pairs.first pairs.second
              (meet.pair_of_one ∙ same ∙ sym meet.pair_of_other));
        };
        pair_of_one = meet.pair_of_one;
        pair_of_other = meet.pair_of_other;
      })
  found-here i a b pairs None meet is = λ clash. is (
    same-chunk a b (meet.chunk_of_one ∙ clash.same ∙ sym meet.chunk_of_other),
    λ same. clash.unlike (sym meet.pair_of_one ∙ ap pair_bytes same ∙ meet.pair_of_other),
  )
