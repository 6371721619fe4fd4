-- Leaves and their helper indices are beside one another.
use Rattle.std.proofs.Common.{◌≡◌, ◌≢◌, ℕ, zero, suc, ◌+◌, ◌*◌, ◌/◌, ◌%◌, ◌^◌, ◌<◌, ◌≤◌, true, false, not, ◌&&◌, eqb, leb, List, [], ◌∷◌, ◌++◌, sym, ap, ap₂, ◌∙◌, arith, ◌⊎◌, inl, inr}
use Rattle.std.specs.List.{AllByRecursion}
use Rattle.std.proofs.lemmas.Bool.{cases_eq, or_cases, and_parts, eqb-true, leb-true, not-true, true≢false, false≢true, false_from_ne_true}
use Rattle.std.proofs.lemmas.List.Folds.{list_any-append}
use Rattle.std.proofs.lemmas.Nat.{shr-shr}
use Rattle.ssz_chunk.specs.Index.{levels}
use Rattle.ssz_gindex.specs.Helpers.{sibling, is_within, is_on_paths, is_helper, helpers, AreFlat}
use Rattle.ssz_gindex.specs.Laws.{contains}
use Rattle.ssz_gindex.proofs.HelperLists.{contains-helpers}
use Rattle.ssz_gindex.proofs.HelperNodes.{half_sibling}
use Rattle.ssz_gindex.proofs.Walking.{contains_is}
use Rattle.ssz_proof.proofs.Within.{child_levels}
use Rattle.ssz_gindex.proofs.Within.{below_from, within_halves, within_trans, IsAbove, above_from, on_paths_from}
use Rattle.ssz_partial.proofs.Beside.{AreBeside, AllBeside}

levels_of_half : (g : ℕ) → 2 ≤ g → levels g ≡ levels (g / 2) + 1
levels_of_half g large =
    let whole : g ≡ g / 2 * 2 + g % 2 = omega arith in
    ap (λ k. levels k) whole ∙ child_levels (g / 2) (g % 2) (omega arith) (omega arith)

sibling_levels : (g : ℕ) → 2 ≤ g → levels (sibling g) ≡ levels g
sibling_levels g large =
    let half : sibling g / 2 ≡ g / 2 = half_sibling g large in
    levels_of_half (sibling g) (omega arith) ∙ ap (λ k. levels k + 1) half
    ∙ sym (levels_of_half g large)

-- What is above an index lies above its sibling too.
record IsAboveSibling (a g : ℕ) : Type 0 where
  pub within : is_within a (sibling g) ≡ true
  pub above : levels a < levels g

above_by : (a g n : ℕ) → 0 < a → 2 ≤ g → a ≢ g → levels g ≡ levels a + n → g / 2 ^ n ≡ a
    → IsAboveSibling a g
above_by a g zero pos large ne more high =
    absurd (ne (let same : a ≡ g = omega arith in same))
above_by a g (suc m) pos large ne more high =
    let split : suc m ≡ 1 + m = omega arith in
    let halves : sibling g / 2 ^ suc m ≡ a =
    ap (λ k. sibling g / 2 ^ k) split ∙ sym (shr-shr (sibling g) 1 m)
    ∙ ap (λ k. k / 2 ^ m) (half_sibling g large) ∙ shr-shr g 1 m
    ∙ ap (λ k. g / 2 ^ k) (sym split) ∙ high in
    record { within = within_halves a (sibling g) (suc m) pos halves; above = omega arith }

above_sibling : (a g : ℕ) → 0 < a → 2 ≤ g → is_within a g ≡ true → a ≢ g → IsAboveSibling a g
above_sibling a g pos large e ne =
    let below = below_from a g e in
    above_by a g below.n pos large ne below.levels below.high

positive : (xs : List ℕ) (i : ℕ) → AllByRecursion (λ k. 0 < k) xs → contains xs i ≡ true → 0 < i
positive [] i all e = absurd (false≢true e)
positive (x ∷ xs) i all e = elim (or_cases (eqb x i) (contains xs i) e) [
  | inl here ↦ (let same = eqb-true x i here in omega (arith, same, all.0))
  | inr later ↦ positive xs i all.1 later
]

-- a helper is no leaf's ancestor, but its sibling is
record Helps (leaves : List ℕ) (h : ℕ) : Type 0 where
  pub large : 2 ≤ h
  pub off : (i : ℕ) → contains leaves i ≡ true → is_within h i ≡ false
  pub leaf : IsAbove leaves (sibling h)

helps : (leaves : List ℕ) (h : ℕ) → is_helper leaves h ≡ true → Helps leaves h
helps leaves h e =
    let both = and_parts (leb 2 h && not (is_on_paths leaves h))
    (is_on_paths leaves (sibling h)) e in
    let first = and_parts (leb 2 h) (not (is_on_paths leaves h)) both.0 in
    record {
      large = leb-true 2 h first.0;
      off = λ i member. false_from_ne_true (is_within h i) (λ within.
          true≢false (sym (on_paths_from leaves h i member within)
          ∙ not-true (is_on_paths leaves h) first.1));
      leaf = above_from leaves (sibling h) both.1;
    }

module _ (leaves : List ℕ) (all : AllByRecursion (λ i. 0 < i) leaves)
    (flat : AllBeside leaves) where
  leaf_not_above : (i h : ℕ) → contains leaves i ≡ true → Helps leaves h
      → is_within i h ≡ true → ⊥
  leaf_not_above i h member is e =
      let ne : i ≢ h =
      λ same. true≢false (sym e ∙ ap₂ is_within same (sym same) ∙ is.off i member) in
      let up = above_sibling i h (positive leaves i all member) is.large e ne in
      let on = within_trans i (sibling h) is.leaf.index up.within is.leaf.within in
      elim (cases_eq i is.leaf.index) [
        | inl same ↦ (let below = below_from (sibling h) is.leaf.index is.leaf.within in omega (
          arith,
          below.levels,
          sibling_levels h is.large,
          up.above,
          ap (λ k. levels k) same,
        ))
        | inr other ↦ true≢false (sym on ∙ (flat i is.leaf.index member is.leaf.among other).left)
      ]

  leaf_helper : (i h : ℕ) → contains leaves i ≡ true → Helps leaves h → AreBeside i h
  leaf_helper i h member is = record {
    left = false_from_ne_true (is_within i h) (leaf_not_above i h member is);
    right = is.off i member;
  }

  helper_helper : (h k : ℕ) → Helps leaves h → Helps leaves k → h ≢ k → is_within h k ≡ false
  helper_helper h k is other ne = false_from_ne_true (is_within h k) (λ e.
      let positive : 0 < h = (let large = is.large in omega arith) in
      let up = above_sibling h k positive other.large e ne in
      let on = within_trans h (sibling k) other.leaf.index up.within other.leaf.within in
      true≢false (sym on ∙ is.off other.leaf.index other.leaf.among))

-- flat indices are beside one another
beside_of : (leaves : List ℕ) → AreFlat leaves → AllBeside leaves
beside_of leaves flat a b in_a in_b ne = record {
  left = false_from_ne_true (is_within a b) (λ e. flat a b (record {
    upper = contains_is leaves a in_a;
    lower = contains_is leaves b in_b;
    within = e;
    apart = ne;
  }));
  right = false_from_ne_true (is_within b a) (λ e. flat b a (record {
    upper = contains_is leaves b in_b;
    lower = contains_is leaves a in_a;
    within = e;
    apart = λ same. ne (sym same);
  }));
}

-- an index of leaves and nodes together is of one or the other
member_cases : (leaves nodes : List ℕ) (x : ℕ) → nodes ≡ helpers leaves
    → contains (leaves ++ nodes) x ≡ true
    → (contains leaves x ≡ true) ⊎ (is_helper leaves x ≡ true)
member_cases leaves nodes x complete e =
    elim (or_cases (contains leaves x) (contains nodes x)
    (sym (list_any-append (λ k. eqb k x) leaves nodes) ∙ e)) [
      | inl left ↦ inl left
      | inr right ↦ inr (sym (contains-helpers leaves x)
          ∙ ap (λ ks. contains ks x) (sym complete) ∙ right)
    ]

turned : (a b : ℕ) → AreBeside a b → AreBeside b a
turned a b beside = record { left = beside.right; right = beside.left }

-- leaves of which none is an ancestor of another, together with their helper indices
pub all_beside : (leaves nodes : List ℕ) → AllByRecursion (λ i. 0 < i) leaves → AreFlat leaves
    → nodes ≡ helpers leaves → AllBeside (leaves ++ nodes)
all_beside leaves nodes all apart complete a b in_a in_b ne =
    go (member_cases leaves nodes a complete in_a) (member_cases leaves nodes b complete in_b)
  where
    flat : AllBeside leaves
    flat = beside_of leaves apart

    go : (contains leaves a ≡ true) ⊎ (is_helper leaves a ≡ true)
        → (contains leaves b ≡ true) ⊎ (is_helper leaves b ≡ true) → AreBeside a b
    go (inl leaf_a) (inl leaf_b) = flat a b leaf_a leaf_b ne
    go (inl leaf_a) (inr helper_b) =
        leaf_helper leaves all flat a b leaf_a (helps leaves b helper_b)
    go (inr helper_a) (inl leaf_b) =
        turned b a (leaf_helper leaves all flat b a leaf_b (helps leaves a helper_a))
    go (inr helper_a) (inr helper_b) =
        let of_a = helps leaves a helper_a in
        let of_b = helps leaves b helper_b in
        record {
          left = helper_helper leaves all flat a b of_a of_b ne;
          right = helper_helper leaves all flat b a of_b of_a (λ same. ne (sym same));
        }
