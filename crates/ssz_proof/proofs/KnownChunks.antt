-- The chunks that are known, by their indices.
use Rattle.std.proofs.Common.{◌≡◌, ℕ, ◌≤◌, Bool, true, false, cond, ◌||◌, eqb, List, [], ◌∷◌, ◌++◌, refl, sym, ap, ◌∙◌, subst, Option, Some, None, is_some, arith, ◌⊎◌, inl, inr}
use Rattle.std.specs.List.{list_any, AllByRecursion}
use Rattle.std.proofs.lemmas.Bool.{cases_Bool, or_cases, eqb-true, eqb-false, eq-eqb, false≢true, or_left, or_right, cond-true, cond-false}
use Rattle.std.proofs.lemmas.Option.{none-some, same_Some}
use Rattle.ssz_chunk.specs.Index.{levels}
use Rattle.ssz_proof.specs.Calculation.{Known, indices_of, chunk_at, deepest}

-- an entry of a list by a test on its index
pub any_known : (p : ℕ → Bool) (known : Known) → list_any p (indices_of known) ≡ true
    → (g : ℕ) × (p g ≡ true) × (is_some (chunk_at known g) ≡ true)
any_known p [] e = absurd (false≢true e)
any_known p (entry ∷ known) e = elim (or_cases (p entry.index) (list_any p (indices_of known)) e) [
  | inl here ↦ (
    entry.index,
    here,
    ap (λ b. is_some (cond b (Some entry.chunk.0) (chunk_at known entry.index)))
        (eq-eqb entry.index entry.index refl),
  )
  | inr later ↦
      (let rest = any_known p known later in (
        rest.0,
        rest.1,
        one (eqb entry.index rest.0) entry.chunk.0 (chunk_at known rest.0) rest.2,
      ))
]
  where
    one : (b : Bool) (c : List ℕ) (o : Option (List ℕ)) → is_some o ≡ true
        → is_some (cond b (Some c) o) ≡ true
    one true c o e = refl
    one false c o e = e

-- an index of an entry is known
pub known_from : (known : Known) (g : ℕ) → list_any (λ k. eqb k g) (indices_of known) ≡ true
    → is_some (chunk_at known g) ≡ true
known_from [] g e = absurd (false≢true e)
known_from (entry ∷ known) g e =
    go (eqb entry.index g) entry.chunk.0 (chunk_at known g) (known_from known g) e
  where
    go : (b : Bool) (c : List ℕ) (o : Option (List ℕ))
        → (list_any (λ k. eqb k g) (indices_of known) ≡ true → is_some o ≡ true)
        → (b || list_any (λ k. eqb k g) (indices_of known)) ≡ true
        → is_some (cond b (Some c) o) ≡ true
    go true c o rest e = refl
    go false c o rest e = rest e

-- the first, if there is one, and else the second
abbrev pub if_some : {X : Type 0} → Option X → Option X → Option X
if_some None other = other
if_some (Some x) other = Some x

-- what is known of two lists is that of the first, and else that of the second
pub chunk_at-append : (xs ys : Known) (g : ℕ)
    → chunk_at (xs ++ ys) g ≡ (if_some (chunk_at xs g) (chunk_at ys g))
chunk_at-append [] ys g = refl
chunk_at-append (entry ∷ xs) ys g =
    go (eqb entry.index g) entry.chunk.0 (chunk_at xs g) (chunk_at (xs ++ ys) g)
    (chunk_at-append xs ys g)
  where
    go : (b : Bool) (c : List ℕ) (o whole : Option (List ℕ))
        → whole ≡ if_some o (chunk_at ys g)
        → cond b (Some c) whole ≡ if_some (cond b (Some c) o) (chunk_at ys g)
    go true c o whole e = refl
    go false c o whole e = e

if_some-left : {X : Type 0} (o other : Option X) → is_some o ≡ true
    → is_some (if_some o other) ≡ true
if_some-left None other e = absurd (false≢true e)
if_some-left (Some x) other e = refl

if_some-right : {X : Type 0} (o other : Option X) → is_some other ≡ true
    → is_some (if_some o other) ≡ true
if_some-right None other e = e
if_some-right (Some x) other e = refl

if_some-none : {X : Type 0} (o other : Option X) → if_some o other ≡ None → o ≡ None
if_some-none None other e = refl
if_some-none (Some x) other e = absurd (none-some x (sym e))

pub known-left : (xs ys : Known) (g : ℕ) → is_some (chunk_at xs g) ≡ true
    → is_some (chunk_at (xs ++ ys) g) ≡ true
known-left xs ys g e =
    ap is_some (chunk_at-append xs ys g) ∙ if_some-left (chunk_at xs g) (chunk_at ys g) e

pub known-right : (xs ys : Known) (g : ℕ) → is_some (chunk_at ys g) ≡ true
    → is_some (chunk_at (xs ++ ys) g) ≡ true
known-right xs ys g e =
    ap is_some (chunk_at-append xs ys g) ∙ if_some-right (chunk_at xs g) (chunk_at ys g) e

pub unknown-left : (xs ys : Known) (g : ℕ) → chunk_at (xs ++ ys) g ≡ None → chunk_at xs g ≡ None
unknown-left xs ys g e =
    if_some-none (chunk_at xs g) (chunk_at ys g) (sym (chunk_at-append xs ys g) ∙ e)

-- what holds of each entry holds of a chunk that is known
pub known_holds : (P : ℕ → List ℕ → Type 0) (known : Known) (g : ℕ) (c : List ℕ)
    → AllByRecursion (λ entry. P entry.index entry.chunk.0) known → chunk_at known g ≡ Some c
    → P g c
known_holds P [] g c all e = absurd (none-some c e)
known_holds P (entry ∷ known) g c all e = elim (cases_Bool (eqb entry.index g)) [
  | inl here ↦
      (let index : entry.index ≡ g = eqb-true entry.index g here in
      let chunk : entry.chunk.0 ≡ c = same_Some entry.chunk.0 c
      (sym (cond-true (eqb entry.index g) (Some entry.chunk.0) (chunk_at known g) here) ∙ e) in
      subst (λ (x : List ℕ). P g x) chunk
      (subst (λ (k : ℕ). P k entry.chunk.0) index all.0))
  | inr later ↦ known_holds P known g c all.1
      (sym (cond-false (eqb entry.index g) (Some entry.chunk.0) (chunk_at known g) later) ∙ e)
]

-- no index that is known is deeper than the deepest
pub known_deep : (known : Known) (g : ℕ) → is_some (chunk_at known g) ≡ true
    → levels g ≤ deepest (indices_of known)
known_deep [] g e = absurd (false≢true e)
known_deep (entry ∷ known) g e = elim (cases_Bool (eqb entry.index g)) [
  | inl here ↦
      (let same : levels entry.index ≡ levels g =
      ap (λ k. levels k) (eqb-true entry.index g here) in
      omega arith)
  | inr later ↦
      (let rest : levels g ≤ deepest (indices_of known) = known_deep known g
      (ap is_some (sym (cond-false (eqb entry.index g) (Some entry.chunk.0) (chunk_at known g)
      later)) ∙ e) in
      omega arith)
]

-- a test that an index passes which is known
pub any_from : (p : ℕ → Bool) (known : Known) (g : ℕ) → is_some (chunk_at known g) ≡ true
    → p g ≡ true → list_any p (indices_of known) ≡ true
any_from p [] g e h = absurd (false≢true e)
any_from p (entry ∷ known) g e h = elim (cases_Bool (eqb entry.index g)) [
  | inl here ↦ or_left (p entry.index) (list_any p (indices_of known))
      (ap p (eqb-true entry.index g here) ∙ h)
  | inr later ↦ or_right (p entry.index) (list_any p (indices_of known))
      (any_from p known g (ap is_some (sym (cond-false (eqb entry.index g) (Some entry.chunk.0)
      (chunk_at known g) later)) ∙ e) h)
]

pub some_or_none : {X : Type 0} (o : Option X) → ((x : X) × (o ≡ Some x)) ⊎ (o ≡ None)
some_or_none None = inr refl
some_or_none (Some x) = inl (x, refl)

-- an index that is not known is that of no entry
pub apart_unknown : (known : Known) (g : ℕ) → chunk_at known g ≡ None
    → AllByRecursion (λ i. g ≡ i → ⊥) (indices_of known)
apart_unknown [] g e = tt
apart_unknown (entry ∷ known) g e = elim (cases_Bool (eqb entry.index g)) [
  | inl here ↦ absurd (none-some entry.chunk.0 (sym e
      ∙ cond-true (eqb entry.index g) (Some entry.chunk.0) (chunk_at known g) here))
  | inr later ↦ (
    (λ f. eqb-false entry.index g later (sym f)),
    apart_unknown known g
        (sym (cond-false (eqb entry.index g) (Some entry.chunk.0) (chunk_at known g) later) ∙ e),
  )
]
