-- Indices at and below others, and what is known above none.
use Rattle.std.proofs.Common.{◌≡◌, ◌≢◌, ℕ, zero, suc, ◌+◌, ◌*◌, ◌/◌, ◌%◌, ◌^◌, ◌<◌, true, List, ◌++◌, sym, ap, subst, ◌∙◌, Option, is_some, arith, inl, inr}
use Rattle.std.proofs.lemmas.Bool.{cases_eq, false≢true}
use Rattle.ssz_chunk.specs.Index.{levels}
use Rattle.ssz_gindex.specs.Helpers.{is_within}
use Rattle.ssz_gindex.specs.Laws.{contains}
use Rattle.ssz_gindex.proofs.HelperLists.{contains-helpers}
use Rattle.ssz_gindex.proofs.Walking.{contains_is, helper_is}
use Rattle.ssz_gindex.proofs.Within.{below_from, within_parent, on_paths_from}
use Rattle.ssz_proof.specs.Calculation.{Known, indices_of, chunk_at}
use Rattle.ssz_proof.specs.Multiproof.{IsOrdered}
use Rattle.ssz_proof.proofs.KnownChunks.{chunk_at-append, if_some, some_or_none}
use Rattle.ssz_proof.proofs.Within.{child_within}
use Rattle.ssz_clash.proofs.Leaves.{some-known}

-- what is properly below an index is so below all above that
pub apart_above : (a b c : ℕ) → is_within a b ≡ true → is_within b c ≡ true → b ≢ c → a ≢ c
apart_above a b c upper lower apart same =
    let one = below_from a b upper in
    let two = below_from b c lower in
    let alike : levels a ≡ levels c = ap (λ (k : ℕ). levels k) same in
    let none : two.n ≡ 0 = omega (arith, one.levels, two.levels) in
    let whole : c / 2 ^ 0 ≡ b = sym (ap (λ (k : ℕ). c / 2 ^ k) none) ∙ two.high in
    apart (omega arith)

-- an index at or below another is that one, or at or below one of its children
pub data Where (i h : ℕ) : Type 0 where
  same_index : i ≡ h → Where i h
  to_left : is_within (2 * i) h ≡ true → Where i h
  to_right : is_within (2 * i + 1) h ≡ true → Where i h

pub where_below : (i h : ℕ) → 0 < i → is_within i h ≡ true → Where i h
where_below i h positive within =
    let below = below_from i h within in
    (elim below.n as (λ (n : ℕ). levels h ≡ levels i + n → h / 2 ^ n ≡ i → Where i h) [
      | zero ↦ (λ l high. same_index (omega arith))
      | suc m ↦ (λ l high. by m (child_within i h m positive l high))
    ]) below.levels below.high
  where
    by : (m : ℕ) → is_within (i * 2 + h / 2 ^ m % 2) h ≡ true → Where i h
    by m inside = elim (cases_eq (h / 2 ^ m % 2) 0) [
      | inl even ↦
          (let left : i * 2 + h / 2 ^ m % 2 ≡ 2 * i = omega arith in
          to_left (subst (λ (k : ℕ). is_within k h ≡ true) left inside))
      | inr odd ↦
          (let right : i * 2 + h / 2 ^ m % 2 ≡ 2 * i + 1 = omega arith in
          to_right (subst (λ (k : ℕ). is_within k h ≡ true) right inside))
    ]

pub below_left : (i h : ℕ) → 0 < i → is_within (2 * i) h ≡ true → is_within i h ≡ true
below_left i h positive inside =
    let half : 2 * i / 2 ≡ i = omega arith in
    subst (λ (k : ℕ). is_within k h ≡ true) half (within_parent (2 * i) h (omega arith) inside)

pub below_right : (i h : ℕ) → 0 < i → is_within (2 * i + 1) h ≡ true → is_within i h ≡ true
below_right i h positive inside =
    let half : (2 * i + 1) / 2 ≡ i = omega arith in
    subst (λ (k : ℕ). is_within k h ≡ true) half
    (within_parent (2 * i + 1) h (omega arith) inside)

-- no index that is known is a proper ancestor of a leaf's
pub known-above-none : (leaves nodes : Known)
    → IsOrdered (record { leaves = leaves; nodes = nodes }) → (i leaf : ℕ)
    → is_some (chunk_at (leaves ++ nodes) i) ≡ true → is_some (chunk_at leaves leaf) ≡ true
    → is_within i leaf ≡ true → i ≢ leaf → ⊥
known-above-none leaves nodes ordered i leaf known there within apart =
    let among : contains (indices_of leaves) leaf ≡ true = sym (some-known leaves leaf) ∙ there in
    elim (some_or_none (chunk_at leaves i)) [
      | inl chunk ↦
          (let is : contains (indices_of leaves) i ≡ true =
          sym (some-known leaves i) ∙ ap is_some chunk.1 in
          ordered.is.flat i leaf (record {
            upper = contains_is (indices_of leaves) i is;
            lower = contains_is (indices_of leaves) leaf among;
            within = within;
            apart = apart;
          }))
      | inr none ↦
          (let node : is_some (chunk_at nodes i) ≡ true =
          sym (ap is_some (chunk_at-append leaves nodes i
          ∙ ap (λ (o : Option (List ℕ)). if_some o (chunk_at nodes i)) none)) ∙ known in
          let helper = helper_is (indices_of leaves) i (sym (contains-helpers (indices_of leaves) i)
          ∙ sym (ap (λ (indices : List ℕ). contains indices i) ordered.is.complete)
          ∙ sym (some-known nodes i) ∙ node) in
          false≢true (sym helper.off
          ∙ on_paths_from (indices_of leaves) i leaf among within))
    ]
