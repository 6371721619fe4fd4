-- Where there is no clash, equal roots come of equal leaves.
use Rattle.std.proofs.Common.{◌≡◌, ℕ, zero, suc, ◌+◌, ◌*◌, ◌/◌, ◌%◌, ◌^◌, ◌<◌, ◌≤◌, true, List, refl, sym, ap, subst, ◌∙◌, Option, Some, is_some, arith, inl, inr}
use Rattle.std.specs.Prelude.{bytes_eq}
use Rattle.std.specs.List.{AllByRecursion}
use Rattle.std.proofs.lemmas.Bool.{cases_eq, cases_Bool, false≢true}
use Rattle.std.proofs.lemmas.List.Elements.{All-contains, All-from_recursion}
use Rattle.std.proofs.lemmas.Nat.{pow_pos}
use Rattle.std.proofs.Math.Nat.{pow-suc}
use Rattle.std.proofs.lemmas.Slice.Eq.{bytes_eq-Decides}
use Rattle.ssz_chunk.specs.Index.{levels}
use Rattle.ssz_chunk.proofs.Digits.{has_levels}
use Rattle.ssz_gindex.specs.Helpers.{is_within, is_on_paths}
use Rattle.ssz_gindex.specs.Laws.{contains}
use Rattle.ssz_gindex.proofs.Walking.{contains_is}
use Rattle.ssz_gindex.proofs.Within.{above_from, below_from, within_parent, within_self, on_paths_from, on_paths_parent}
use Rattle.ssz_proof.specs.Calculation.{Known, PairOf, chunk_at, calculate_root, indices_of}
use Rattle.ssz_proof.specs.Multiproof.{Multiproof, known_of, IsOrdered}
use Rattle.ssz_proof.proofs.Descending.{known_is}
use Rattle.ssz_proof.proofs.KnownChunks.{chunk_at-append, if_some, some_or_none}
use Rattle.ssz_proof.proofs.Within.{child_levels}
use Rattle.ssz_clash.specs.Clashes.{IsAbove, IsClash, SamePlaces, SameLeaves, pair_at}
use Rattle.ssz_clash.proofs.Leaves.{some-known}
use Rattle.ssz_clash.proofs.Walking.{none-from}

module _ (pair_of : PairOf) (one other : Multiproof) (none : (h : ℕ)
    → IsClash pair_of one other h → ⊥) where
  abbrev one_at : ℕ → List ℕ
  one_at g = calculate_root pair_of (known_of one) g

  abbrev other_at : ℕ → List ℕ
  other_at g = calculate_root pair_of (known_of other) g

  -- where the chunks of an index are the same, so are those of a child on the paths
  child-alike : (g p b : ℕ) → 2 ≤ g → g ≡ p * 2 + b → b < 2
      → is_on_paths (indices_of one.leaves) g ≡ true → one_at p ≡ other_at p
      → one_at g ≡ other_at g
  child-alike g p b large is small on same =
      elim (cases_Bool (bytes_eq (one_at g) (other_at g))) [
        | inl alike ↦ (bytes_eq-Decides (one_at g) (other_at g)).0 alike
        | inr unlike ↦ absurd (none p (record {
          above = above;
          same = same;
          unlike = λ pairs. false≢true (sym unlike
              ∙ (bytes_eq-Decides (one_at g) (other_at g)).1 (component pairs));
        }))
      ]
    where
      half : g / 2 ≡ p
      half = omega arith

      below : ℕ
      below = (above_from (indices_of one.leaves) g on).index

      component : pair_at pair_of one p ≡ pair_at pair_of other p → one_at g ≡ other_at g
      component pairs = elim (cases_eq b 0) [
        | inl left ↦
            (let e : 2 * p ≡ g = omega arith in
            subst (λ (k : ℕ). one_at k ≡ other_at k) e
            (ap (λ (x : List ℕ × List ℕ). x.0) pairs))
        | inr right ↦
            (let e : 2 * p + 1 ≡ g = omega arith in
            subst (λ (k : ℕ). one_at k ≡ other_at k) e
            (ap (λ (x : List ℕ × List ℕ). x.1) pairs))
      ]

      above : IsAbove one.leaves p
      above =
          let leaf = above_from (indices_of one.leaves) g on in
          let inside = below_from g leaf.index leaf.within in
          let child : levels g ≡ levels p + 1 =
          ap (λ (k : ℕ). levels k) is ∙ child_levels p b (omega arith) small in
          record {
            positive = omega arith;
            leaf = leaf.index;
            there = some-known one.leaves leaf.index ∙ leaf.among;
            within = subst (λ (k : ℕ). is_within k leaf.index ≡ true) half
                (within_parent g leaf.index large leaf.within);
            apart = λ same.
                let e : levels p ≡ levels leaf.index = ap (λ (k : ℕ). levels k) same in
                omega (arith, inside.levels);
          }

  -- so they are at all indices on the paths
  paths-alike : one_at 1 ≡ other_at 1 → (n g : ℕ) → 0 < g → levels g ≡ n
      → is_on_paths (indices_of one.leaves) g ≡ true → one_at g ≡ other_at g
  paths-alike root zero g positive level on =
      let is = has_levels g positive in
      let high : g < 2 ^ suc 0 = subst (λ (n : ℕ). g < 2 ^ suc n) level is.high in
      let first : 1 ≡ g = omega arith in
      subst (λ (k : ℕ). one_at k ≡ other_at k) first root
  paths-alike root (suc n) g positive level on =
      let is = has_levels g positive in
      let low : 2 ^ suc n ≤ g = subst (λ (n : ℕ). 2 ^ n ≤ g) level is.low in
      let large : 2 ≤ g = two n g low in
      let p : ℕ = g / 2 in
      let split : g ≡ p * 2 + g % 2 = omega arith in
      let child : levels g ≡ levels p + 1 =
      ap (λ (k : ℕ). levels k) split ∙ child_levels p (g % 2) (omega arith) (omega arith) in
      child-alike g p (g % 2) large split (omega arith) on
      (paths-alike root n p (omega arith) (omega arith)
      (on_paths_parent (indices_of one.leaves) g large on))
    where
      two : (n g : ℕ) → 2 ^ suc n ≤ g → 2 ≤ g
      two n g low =
          let unit = pow_pos n in
          omega (arith, pow-suc 2 n)

-- a leaf is what is calculated there
pub leaf-is : (pair_of : PairOf) (proof : Multiproof) → IsOrdered proof → (g : ℕ) (chunk : List ℕ)
    → chunk_at proof.leaves g ≡ Some chunk → chunk ≡ calculate_root pair_of (known_of proof) g
leaf-is pair_of proof ordered g chunk is =
    known_is proof.leaves proof.nodes ordered pair_of g chunk
    (sym (chunk_at-append proof.leaves proof.nodes g
    ∙ ap (λ (o : Option (List ℕ)). if_some o (chunk_at proof.nodes g)) is))

leaf-there : (leaves : Known) (g : ℕ) → is_some (chunk_at leaves g) ≡ true
    → contains (indices_of leaves) g ≡ true
leaf-there leaves g there = sym (some-known leaves g) ∙ there

leaf-positive : (leaves : Known) (g : ℕ)
    → AllByRecursion (λ index. 0 < index) (indices_of leaves)
    → is_some (chunk_at leaves g) ≡ true → 0 < g
leaf-positive leaves g all there =
    All-contains (λ k. 0 < k) (indices_of leaves) g
    (All-from_recursion (λ k. 0 < k) (indices_of leaves) all)
    (contains_is (indices_of leaves) g (leaf-there leaves g there))

-- and so at all leaves
pub leaves-alike : (pair_of : PairOf) (one other : Multiproof) → IsOrdered one → IsOrdered other
    → SamePlaces one.leaves other.leaves → ((h : ℕ) → IsClash pair_of one other h → ⊥)
    → calculate_root pair_of (known_of one) 1 ≡ calculate_root pair_of (known_of other) 1
    → SameLeaves one.leaves other.leaves
leaves-alike pair_of one other ordered also places none root g =
    elim (some_or_none (chunk_at one.leaves g)) [
      | inl mine ↦ elim (some_or_none (chunk_at other.leaves g)) [
        | inl theirs ↦
            (let there : is_some (chunk_at one.leaves g) ≡ true = ap is_some mine.1 in
            let on : is_on_paths (indices_of one.leaves) g ≡ true =
            on_paths_from (indices_of one.leaves) g g (leaf-there one.leaves g there)
            (within_self g) in
            let positive : 0 < g = leaf-positive one.leaves g ordered.is.positive there in
            let chunk : mine.0 ≡ theirs.0 =
            leaf-is pair_of one ordered g mine.0 mine.1
            ∙ paths-alike pair_of one other none root (levels g) g positive refl on
            ∙ sym (leaf-is pair_of other also g theirs.0 theirs.1) in
            mine.1 ∙ ap (λ (c : List ℕ). Some c) chunk ∙ sym theirs.1)
        | inr gone ↦ absurd (false≢true
            (sym (ap is_some gone) ∙ sym (places g) ∙ ap is_some mine.1))
      ]
      | inr gone ↦
          gone ∙ sym (none-from (chunk_at other.leaves g) (sym (places g) ∙ ap is_some gone))
    ]
