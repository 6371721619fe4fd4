-- One of the two ends of what waits: a descending list, of which a node is taken at the front.
use Rattle.std.proofs.Common.{◌≡◌, ◌≢◌, ℕ, ◌+◌, ◌<◌, ◌≤◌, Bool, true, false, cond, eqb, List, [], ◌∷◌, ◌++◌, drop, refl, sym, ap, ◌∙◌, subst, arith, inl, inr}
use Rattle.std.proofs.lemmas.Bool.{cases_Bool, cases_eq, or_cases, or_left, or_right, eqb-true, eq-eqb, ne_eqb, false≢true}
use Rattle.ssz_gindex.specs.Laws.{IsDescending, contains}
use Rattle.ssz_gindex.specs.Walk.{first, total}
use Rattle.ssz_gindex.proofs.HelperLists.{below_first, at_most_first, has_first}

-- a node was taken where it stood at the front
pub record Takes (node : ℕ) (old new : List ℕ) (was : Bool) : Type 0 where
  pub is : was ≡ eqb (first old) node
  pub rest : new ≡ cond was (drop 1 old) old

-- of a node that is not below any that waits: the others are left, and whether it waited is told
pub record Leaves (node : ℕ) (old new : List ℕ) (was : Bool) : Type 0 where
  pub falls : IsDescending new
  pub kept : (k : ℕ) → contains new k ≡ true → (contains old k ≡ true) × (k ≢ node)
  pub stays : (k : ℕ) → contains old k ≡ true → k ≢ node → contains new k ≡ true
  pub waited : was ≡ contains old node

pub not_true : (b : Bool) → (b ≡ true → ⊥) → b ≡ false
not_true true never = absurd (never refl)
not_true false never = refl

leaves-all : (node : ℕ) (old new : List ℕ) (was : Bool) → IsDescending old
    → contains old node ≡ false → new ≡ old → was ≡ false → Leaves node old new was
leaves-all node old new was falls absent same none = record {
  falls = subst IsDescending (sym same) falls;
  kept = λ k e.
      let before : contains old k ≡ true = ap (λ (xs : List ℕ). contains xs k) (sym same) ∙ e in (
        before,
        λ is. false≢true (sym absent ∙ ap (contains old) (sym is) ∙ before),
      );
  stays = λ k e other. ap (λ (xs : List ℕ). contains xs k) same ∙ e;
  waited = none ∙ sym absent;
}

leaves-rest : (node x : ℕ) (rest new : List ℕ) (was : Bool) → x ≡ node
    → IsDescending (x ∷ rest) → new ≡ rest → was ≡ true → Leaves node (x ∷ rest) new was
leaves-rest node x rest new was same falls is there = record {
  falls = subst IsDescending (sym is) falls.1;
  kept = λ k e.
      let later : contains rest k ≡ true = ap (λ (xs : List ℕ). contains xs k) (sym is) ∙ e in (
        or_right (eqb x k) (contains rest k) later,
        λ at. omega (arith, below_first rest x k falls.0 later, same, at),
      );
  stays = λ k e other. elim (or_cases (eqb x k) (contains rest k) e) [
    | inl here ↦ absurd (other (sym (eqb-true x k here) ∙ same))
    | inr later ↦ ap (λ (xs : List ℕ). contains xs k) is ∙ later
  ];
  waited = there ∙ sym (or_left (eqb x node) (contains rest node) (eq-eqb x node same));
}

pub leaves_from : (node : ℕ) (old new : List ℕ) (was : Bool) → 0 < node → IsDescending old
    → ((k : ℕ) → contains old k ≡ true → k ≤ node) → Takes node old new was
    → Leaves node old new was
leaves_from node [] new was positive falls most takes =
    let none : was ≡ false = takes.is ∙ ne_eqb 0 node (λ e. omega (arith, e, positive)) in
    leaves-all node [] new was falls refl
    (takes.rest ∙ ap (λ (b : Bool). cond b (drop 1 []) []) none) none
leaves_from node (x ∷ rest) new was positive falls most takes = elim (cases_eq x node) [
  | inl same ↦
      (let there : was ≡ true = takes.is ∙ eq-eqb x node same in
      leaves-rest node x rest new was same falls
      (takes.rest ∙ ap (λ (b : Bool). cond b rest (x ∷ rest)) there) there)
  | inr other ↦
      (let none : was ≡ false = takes.is ∙ ne_eqb x node other in
      let absent : contains (x ∷ rest) node ≡ false =
      not_true (contains (x ∷ rest) node) (λ e.
      elim (or_cases (eqb x node) (contains rest node) e) [
        | inl here ↦ other (eqb-true x node here)
        | inr later ↦ omega (
          arith,
          below_first rest x node falls.0 later,
          most x (has_first x rest),
        )
      ]) in
      leaves-all node (x ∷ rest) new was falls absent
      (takes.rest ∙ ap (λ (b : Bool). cond b rest (x ∷ rest)) none) none)
]

-- no number is greater than the first
pub first-most : (xs : List ℕ) (k : ℕ) → IsDescending xs → contains xs k ≡ true → k ≤ first xs
first-most [] k falls e = absurd (false≢true e)
first-most (x ∷ xs) k falls e = at_most_first x xs k falls e

-- What is left is less.

pub total-taken : (node : ℕ) (old new : List ℕ) (was : Bool) → 0 < node → Takes node old new was
    → was ≡ true → total new + node ≡ total old
total-taken node [] new was positive takes there =
    absurd (omega (arith, eqb-true 0 node (sym takes.is ∙ there), positive))
total-taken node (x ∷ rest) new was positive takes there =
    omega (
      arith,
      ap total (takes.rest ∙ ap (λ (b : Bool). cond b rest (x ∷ rest)) there),
      eqb-true x node (sym takes.is ∙ there),
    )

pub total-left : (node : ℕ) (old new : List ℕ) (was : Bool) → Takes node old new was
    → was ≡ false → total new ≡ total old
total-left node old new was takes none =
    ap total (takes.rest ∙ ap (λ (b : Bool). cond b (drop 1 old) old) none)

pub total-some : (node : ℕ) (old new : List ℕ) (was : Bool) → 0 < node → Takes node old new was
    → total new ≤ total old
total-some node old new was positive takes = elim (cases_Bool was) [
  | inl there ↦ omega (arith, total-taken node old new was positive takes there)
  | inr none ↦ omega (arith, total-left node old new was takes none)
]

pub total-push : (xs : List ℕ) (k : ℕ) → total (xs ++ k ∷ []) ≡ total xs + k
total-push [] k = omega arith
total-push (x ∷ xs) k = omega (arith, total-push xs k)
