-- Which of two indices stands before the other in preorder.
use Rattle.std.proofs.Common.{◌≡◌, ℕ, zero, suc, ◌+◌, ◌-◌, ◌*◌, ◌/◌, ◌^◌, ◌<◌, ◌≤◌, true, refl, sym, ap, subst, ◌∙◌, arith, inl, inr}
use Rattle.std.proofs.lemmas.Bool.{cases_lt}
use Rattle.std.proofs.lemmas.Nat.{shr-shr}
use Rattle.ssz_chunk.specs.Index.{levels, levels_within}
use Rattle.ssz_gindex.specs.Helpers.{is_within}
use Rattle.ssz_gindex.proofs.Within.{below_from, within_from, within_least, within_trans}
use Rattle.ssz_proof.proofs.Within.{child_levels}
use Rattle.ssz_clash.specs.Clashes.{IsLeftOf, IsNotBehind}

-- of two ancestors the one that is not deeper is an ancestor of the other
within_both : (a b g : ℕ) → is_within a g ≡ true → is_within b g ≡ true
    → levels a ≤ levels b → is_within a b ≡ true
within_both a b g one other le =
    let upper = below_from a g one in
    let lower = below_from b g other in
    let n : ℕ = upper.n - lower.n in
    let sum : lower.n + n ≡ upper.n = omega (arith, upper.levels, lower.levels, le) in
    within_from a b n (omega (arith, upper.levels, lower.levels, le))
    (ap (λ (k : ℕ). k / 2 ^ n) (sym lower.high) ∙ shr-shr g lower.n n
    ∙ ap (λ (m : ℕ). g / 2 ^ m) sum ∙ upper.high)

within_same : (a b : ℕ) → is_within a b ≡ true → is_within b a ≡ true → a ≡ b
within_same a b one other = omega (arith, within_least a b one, within_least b a other)

-- both children are as deep
sibling_levels : (k : ℕ) → levels (2 * k) ≡ levels (2 * k + 1)
unfolding levels_within
sibling_levels zero = refl
sibling_levels (suc k) =
    let left : 2 * suc k ≡ suc k * 2 + 0 = omega arith in
    let right : 2 * suc k + 1 ≡ suc k * 2 + 1 = omega arith in
    ap (λ (n : ℕ). levels n) left ∙ child_levels (suc k) 0 (omega arith) (omega arith)
    ∙ sym (child_levels (suc k) 1 (omega arith) (omega arith))
    ∙ sym (ap (λ (n : ℕ). levels n) right)

-- nothing lies below both
pub apart_children : (k g : ℕ) → is_within (2 * k) g ≡ true → is_within (2 * k + 1) g ≡ true → ⊥
apart_children k g left right =
    let same = sibling_levels k in
    let one = within_both (2 * k) (2 * k + 1) g left right (omega (arith, same)) in
    let other = within_both (2 * k + 1) (2 * k) g right left (omega (arith, same)) in
    let equal = within_same (2 * k) (2 * k + 1) one other in
    omega (arith, equal)

-- what lies above a child and is not as deep lies above the parent
above_parent : (a i b : ℕ) → 0 < i → b < 2 → is_within a (i * 2 + b) ≡ true
    → levels a < levels (i * 2 + b) → is_within a i ≡ true
above_parent a i b positive small within less =
    let below = below_from a (i * 2 + b) within in
    let child = child_levels i b positive small in
    let m : ℕ = below.n - 1 in
    let n : 1 + m ≡ below.n = omega (arith, below.levels, less) in
    let half : (i * 2 + b) / 2 ^ 1 ≡ i = omega arith in
    within_from a i m (omega (arith, below.levels, child, n))
    (ap (λ (k : ℕ). k / 2 ^ m) (sym half) ∙ shr-shr (i * 2 + b) 1 m
    ∙ ap (λ (k : ℕ). (i * 2 + b) / 2 ^ k) n ∙ below.high)

-- what lies to the left of an index below a right child does not lie below the left child
crossed : (k i g h : ℕ) → 0 < i → is_within (2 * k) g ≡ true → is_within (2 * k + 1) h ≡ true
    → is_within (2 * i) h ≡ true → is_within (2 * i + 1) g ≡ true
    → levels (2 * k) < levels (2 * i) → ⊥
crossed k i g h positive left right also_left also_right less =
    let here = sibling_levels k in
    let there = sibling_levels i in
    let upper : is_within (2 * k) (2 * i + 1) ≡ true =
    within_both (2 * k) (2 * i + 1) g left also_right (omega (arith, there, less)) in
    let lower : is_within (2 * k + 1) (2 * i) ≡ true =
    within_both (2 * k + 1) (2 * i) h right also_left (omega (arith, here, less)) in
    let odd : 2 * i + 1 ≡ i * 2 + 1 = omega arith in
    let even : 2 * i ≡ i * 2 + 0 = omega arith in
    apart_children k i
    (above_parent (2 * k) i 1 positive (omega arith)
    (subst (λ (n : ℕ). is_within (2 * k) n ≡ true) odd upper)
    (subst (λ (n : ℕ). levels (2 * k) < levels n) odd (omega (arith, there, less))))
    (above_parent (2 * k + 1) i 0 positive (omega arith)
    (subst (λ (n : ℕ). is_within (2 * k + 1) n ≡ true) even lower)
    (subst (λ (n : ℕ). levels (2 * k + 1) < levels n) even (omega (arith, here, less))))

-- an index that is as deep as something has a parent
has_parent : (k n : ℕ) → n < levels (2 * k) → 0 < k
unfolding levels_within
has_parent zero n less = absurd (omega (arith, less))
has_parent (suc k) n less = omega arith

-- an index below a right child is not to the left of one below the left child
pub left_not_right : (i g h : ℕ) → 0 < i → IsLeftOf g h → is_within (2 * i) h ≡ true
    → is_within (2 * i + 1) g ≡ true → ⊥
left_not_right i g h positive (k, left, right) below_left below_right =
    elim (cases_lt (levels (2 * k)) (levels (2 * i))) [
      | inl less ↦ crossed k i g h positive left right below_left below_right less
      | inr more ↦ elim (cases_lt (levels (2 * i)) (levels (2 * k))) [
        | inl less ↦ crossed i k h g (has_parent k (levels (2 * i)) less) below_left below_right
            left right less
        | inr most ↦
            (let one = within_both (2 * k) (2 * i + 1) g left below_right
            (omega (arith, sibling_levels i, more, most)) in
            let back = within_both (2 * i + 1) (2 * k) g below_right left
            (omega (arith, sibling_levels i, more, most)) in
            let equal = within_same (2 * k) (2 * i + 1) one back in
            omega (arith, equal))
      ]
    ]

-- nothing lies below one index and is not behind another that is not
pub not_behind_right : (i g h : ℕ) → 0 < i → is_within (2 * i) h ≡ true
    → is_within (2 * i + 1) g ≡ true → IsNotBehind g h → ⊥
not_behind_right i g h positive left right (inl above) =
    apart_children i h left (within_trans (2 * i + 1) g h right above)
not_behind_right i g h positive left right (inr before) =
    left_not_right i g h positive before left right

-- an index that is not behind one above it is that one
pub not_behind_above : (i g : ℕ) → is_within i g ≡ true → IsNotBehind g i → i ≡ g
not_behind_above i g within (inl above) = within_same i g within above
not_behind_above i g within (inr (k, left, right)) =
    absurd (apart_children k g left (within_trans (2 * k + 1) i g right within))
