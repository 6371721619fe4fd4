-- The levels below an index: one more than those below both of its children, where it is on the way
-- to a leaf.
use Rattle.std.proofs.Common.{◌≡◌, ◌≢◌, ℕ, zero, suc, ◌+◌, ◌-◌, ◌*◌, ◌/◌, ◌%◌, ◌^◌, ◌<◌, ◌≤◌, Bool, true, false, cond, ◌||◌, List, [], ◌∷◌, sym, ap, ◌∙◌, arith, inl, inr}
use Rattle.std.specs.List.{AllByRecursion, sum_by}
use Rattle.std.proofs.lemmas.List.Sums.{sum_by-cons}
use Rattle.std.proofs.lemmas.Nat.{shr-shr}
use Rattle.std.proofs.lemmas.Bool.{cases_eq, cases_Bool, false≢true, cond-true, cond-false, false_from_ne_true}
use Rattle.ssz_chunk.specs.Index.{levels}
use Rattle.ssz_gindex.specs.Helpers.{is_within, is_on_paths}
use Rattle.ssz_proof.specs.Descent.{levels_below}
use Rattle.ssz_gindex.proofs.Within.{below_from, within_from}
use Rattle.ssz_proof.proofs.Within.{child_levels}

-- the levels from g down to an index, 0 where it is not within g
abbrev levels_to : ℕ → ℕ → ℕ
levels_to g i = cond (is_within g i) (levels i - levels g) 0

abbrev within_count : ℕ → ℕ → ℕ
within_count g i = cond (is_within g i) 1 0

-- what is within a child is within its parent
within_parent : (g b i : ℕ) → 0 < g → b < 2 → is_within (g * 2 + b) i ≡ true
    → is_within g i ≡ true
within_parent g b i positive small e =
    let below = below_from (g * 2 + b) i e in
    within_from g i (below.n + 1) (omega (arith, below.levels, child_levels g b positive small))
    (sym (shr-shr i below.n 1) ∙ ap (λ k. k / 2 ^ 1) below.high ∙ omega arith)

-- the levels to an index that is strictly below g, by the two children of g
data Placed (g i : ℕ) : Type 0 where
  outside : levels_to (g * 2 + 0) i ≡ 0 → levels_to (g * 2 + 1) i ≡ 0 → within_count g i ≡ 0
      → Placed g i
  inside : levels_to (g * 2 + 0) i + levels_to (g * 2 + 1) i + 1 ≤ levels_to g i
      → within_count g i ≡ 1 → Placed g i

child_bound : (g b i m : ℕ) → 0 < g → b < 2 → levels i ≡ levels g + suc m
    → levels_to (g * 2 + b) i ≤ m
child_bound g b i m positive small l =
    let to : ℕ = levels i - levels (g * 2 + b) in
    elim (cases_Bool (is_within (g * 2 + b) i)) [
      | inl within ↦ omega (
        arith,
        cond-true (is_within (g * 2 + b) i) to 0 within,
        child_levels g b positive small,
      )
      | inr other ↦ omega (arith, cond-false (is_within (g * 2 + b) i) to 0 other)
    ]

child_other : (g b c i m : ℕ) → 0 < g → b < 2 → levels i ≡ levels g + suc m
    → i / 2 ^ m ≡ g * 2 + c → b ≢ c → levels_to (g * 2 + b) i ≡ 0
child_other g b c i m positive small l h other =
    cond-false (is_within (g * 2 + b) i) (levels i - levels (g * 2 + b)) 0
    (false_from_ne_true (is_within (g * 2 + b) i) (λ e.
    let below = below_from (g * 2 + b) i e in
    let same : below.n ≡ m = omega (arith, below.levels, child_levels g b positive small) in
    let both : i / 2 ^ m ≡ g * 2 + b = ap (λ n. i / 2 ^ n) (sym same) ∙ below.high in
    other (omega arith)))

-- an index that is within none of g, by either child
not_within : (g b i : ℕ) → 0 < g → b < 2 → is_within g i ≡ false → levels_to (g * 2 + b) i ≡ 0
not_within g b i positive small other =
    cond-false (is_within (g * 2 + b) i) (levels i - levels (g * 2 + b)) 0
    (false_from_ne_true (is_within (g * 2 + b) i)
    (λ e. false≢true (sym other ∙ within_parent g b i positive small e)))

strictly : (g i m : ℕ) → 0 < g → is_within g i ≡ true → levels i ≡ levels g + suc m
    → i / 2 ^ suc m ≡ g → Placed g i
strictly g i m positive within l h =
    let more : m + 1 ≡ suc m = omega arith in
    let halved : i / 2 ^ m / 2 ^ 1 ≡ g = shr-shr i m 1 ∙ ap (λ k. i / 2 ^ k) more ∙ h in
    let whole : levels_to g i ≡ suc m =
    cond-true (is_within g i) (levels i - levels g) 0 within ∙ omega arith in
    let count : within_count g i ≡ 1 = cond-true (is_within g i) 1 0 within in
    elim (cases_eq (i / 2 ^ m % 2) 0) [
      | inl even ↦
          inside (omega (
            arith,
            child_bound g 0 i m positive (omega arith) l,
            child_other g 1 0 i m positive (omega arith) l (omega arith) (λ e. omega arith),
            whole,
          ))
          count
      | inr odd ↦
          inside (omega (
            arith,
            child_bound g 1 i m positive (omega arith) l,
            child_other g 0 1 i m positive (omega arith) l (omega arith) (λ e. omega arith),
            whole,
          ))
          count
    ]

placed : (g i : ℕ) → 0 < g → g ≢ i → Placed g i
placed g i positive apart = elim (cases_Bool (is_within g i)) [
  | inr other ↦
      outside (not_within g 0 i positive (omega arith) other)
      (not_within g 1 i positive (omega arith) other) (cond-false (is_within g i) 1 0 other)
  | inl within ↦
      (let below = below_from g i within in
      (elim below.n as (λ (n : ℕ). levels i ≡ levels g + n → i / 2 ^ n ≡ g → Placed g i) [
        | zero ↦ (λ l h. absurd (apart (let e : g ≡ i = omega arith in e)))
        | suc m ↦ (λ l h. strictly g i m positive within l h)
      ]) below.levels below.high)
]

or_bound : (a b : Bool) → cond (a || b) 1 0 ≤ cond a 1 0 + cond b 1 0
or_bound true b = omega arith
or_bound false b = omega arith

-- of indices that are not g, those below g by its two children
levels_below-children : (g : ℕ) (indices : List ℕ) → 0 < g → AllByRecursion (λ i. g ≡ i → ⊥) indices
    → levels_below (g * 2 + 0) indices + levels_below (g * 2 + 1) indices
    + cond (is_on_paths indices g) 1 0 ≤ levels_below g indices
levels_below-children g [] positive apart = omega arith
levels_below-children g (i ∷ indices) positive apart =
    let rest = levels_below-children g indices positive apart.1 in
    let either = or_bound (is_within g i) (is_on_paths indices g) in
    elim (placed g i positive apart.0) [
      | outside left right none ↦ omega arith
      | inside bound one ↦ omega arith
    ]

-- where g is on the way to one, there is one more
pub levels_below-pair : (g : ℕ) (indices : List ℕ) → 0 < g
    → AllByRecursion (λ i. g ≡ i → ⊥) indices → is_on_paths indices g ≡ true
    → levels_below (2 * g) indices + levels_below (2 * g + 1) indices + 1 ≤ levels_below g indices
levels_below-pair g indices positive apart on =
    let left : levels_below (2 * g) indices ≡ levels_below (g * 2 + 0) indices =
    ap (λ k. levels_below k indices) (omega arith) in
    let right : levels_below (2 * g + 1) indices ≡ levels_below (g * 2 + 1) indices =
    ap (λ k. levels_below k indices) (omega arith) in
    omega (
      arith,
      left,
      right,
      levels_below-children g indices positive apart,
      cond-true {A = ℕ} (is_on_paths indices g) 1 0 on,
    )

-- below an index there are no more levels than from the root
pub levels_below-all : (g : ℕ) (indices : List ℕ) → levels_below g indices ≤ sum_by levels indices
levels_below-all g [] = omega arith
levels_below-all g (i ∷ indices) =
    omega (
      arith,
      levels_below-all g indices,
      sum_by-cons levels i indices,
      at_most (is_within g i) (levels i) (levels g),
    )
  where
    at_most : (b : Bool) (l k : ℕ) → cond b (l - k) 0 ≤ l
    at_most true l k = omega arith
    at_most false l k = omega arith
