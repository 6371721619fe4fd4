-- Where a search by halves ends, among entries that ascend or descend, and what is put there.
use Rattle.std.proofs.Common.{◌≡◌, ℕ, zero, suc, ◌<◌, ◌≤◌, eqb, [], ◌∷◌, length, set, get_or, refl, sym, ap, ap₂, ◌∙◌, Some, Result, Ok, Err, arith, inl, inr}
use Rattle.std.specs.Result.{result_ok}
use Rattle.std.specs.List.{AllByRecursion}
use Rattle.std.specs.List.Sorted.{IsBinarySearchResult, IsSearchInRange, IsNonDecreasingBy}
use Rattle.std.specs.Ordering.{nat_cmp, ordering_index}
use Rattle.std.specs.declared.cmp.Ordering.{Ordering}
use Rattle.std.specs.declared.cmp.Ordering.TheVariants.{Less, Equal, Greater}
use Rattle.std.proofs.lemmas.Bool.{cases_lt, eq-eqb, ne_eqb, lt-ltb, le-ltb, cond-true, cond-false}
use Rattle.ssz_chunk.specs.declared.Chunk.{Chunk}
use Rattle.ssz_proof.specs.declared.entry.Entry.{Entry}
use Rattle.ssz_proof.specs.Calculation.{Known, indices_of, chunk_at}
use Rattle.ssz_proof.specs.Changes.{with_chunk}
use Rattle.ssz_proof.specs.Descent.{InOrder, IsAscending, IsDescending, IsPlaceOf}
use Rattle.ssz_proof.proofs.Searching.{less-apart, more-apart}

-- what is so of the index at each place is so of all indices
all_from : (P : ℕ → Type 0) (known : Known)
    → ((k : ℕ) (d : Entry) → k < length known → P (get_or known k d).index)
    → AllByRecursion P (indices_of known)
all_from P [] each = tt
all_from P (entry ∷ known) each =
    (each 0 entry (omega arith), all_from P known (λ k d less. each (suc k) d (omega arith)))

-- what is so of all indices is so of the one at a place
all_at : (P : ℕ → Type 0) (known : Known) (k : ℕ) (d : Entry) → k < length known
    → AllByRecursion P (indices_of known) → P (get_or known k d).index
all_at P [] k d less all = absurd (omega arith)
all_at P (entry ∷ known) zero d less all = all.0
all_at P (entry ∷ known) (suc k) d less all = all_at P known k d (omega arith) all.1

-- no entry has the index
pub none_there : (known : Known) (g : ℕ) (chunk : Chunk)
    → AllByRecursion (λ k. k ≡ g → ⊥) (indices_of known) → with_chunk known g chunk ≡ known
none_there [] g chunk none = refl
none_there (entry ∷ known) g chunk none =
    ap₂ (λ x xs. x ∷ xs)
    (cond-false (eqb entry.index g) (record entry { chunk = chunk }) entry
    (ne_eqb entry.index g none.0))
    (none_there known g chunk none.1)

-- An order of indices, each before all later ones.
module _ (R : ℕ → ℕ → Type 0) (apart : (a b : ℕ) → R a b → a ≡ b → ⊥) where
  -- of two places the earlier has the earlier index
  in_order : (known : Known) (i j : ℕ) (d : Entry) → InOrder R (indices_of known) → i < j
      → j < length known → R (get_or known i d).index (get_or known j d).index
  in_order [] i j d order less below = absurd (omega arith)
  in_order (entry ∷ known) i zero d order less below = absurd (omega arith)
  in_order (entry ∷ known) zero (suc j) d order less below =
      all_at (λ later. R entry.index later) known j d (omega arith) order.0
  in_order (entry ∷ known) (suc i) (suc j) d order less below =
      in_order known i j d order.1 (omega arith) (omega arith)

  -- A search by a comparison that is equal at the index alone, and does not fall along the order.
  module _ (g : ℕ) (compare : ℕ → Ordering) (there : (k : ℕ) → compare k ≡ Equal → k ≡ g)
      (at : compare g ≡ Equal)
      (rises : (a b : ℕ) → R a b → ordering_index (compare a) ≤ ordering_index (compare b)) where
    no_fall : (known : Known) → InOrder R (indices_of known)
        → IsNonDecreasingBy (λ (entry : Entry). ordering_index (compare entry.index)) known
    no_fall known order i j d le below = elim (cases_lt i j) [
      | inl less ↦ rises _ _ (in_order known i j d order less below)
      | inr most ↦
          (let same : i ≡ j = omega arith in
          let alike = ap (λ k. ordering_index (compare (get_or known k d).index)) same in
          omega (arith, alike))
    ]

    pub place_found : (known : Known) (r : Result ℕ ℕ) → InOrder R (indices_of known)
        → IsSearchInRange r (length known)
        → IsBinarySearchResult (λ (entry : Entry). compare entry.index) known r
        → IsPlaceOf g known (result_ok r)
    place_found known (Ok i) order range is = (range, λ d. there _ (is d))
    place_found known (Err i) order range is =
        let parts = is (no_fall known order) in
        all_from (λ k. k ≡ g → ⊥) known (λ k d below same.
        elim (cases_lt k i) [
          | inl less ↦
              (let differ : Less ≡ Equal = sym (parts.0 k d (omega arith) less)
              ∙ ap compare same ∙ at in cc)
          | inr most ↦
              (let differ : Greater ≡ Equal = sym (parts.1 k d most below)
              ∙ ap compare same ∙ at in cc)
        ])

  -- the chunk at the place
  pub chunk_there : (known : Known) (g i : ℕ) (d : Entry) → InOrder R (indices_of known)
      → IsPlaceOf g known (Some i) → chunk_at known g ≡ Some (get_or known i d).chunk.0
  chunk_there [] g i d order is = absurd (let below = is.0 in omega arith)
  chunk_there (entry ∷ known) g zero d order is =
      cond-true (eqb entry.index g) (Some entry.chunk.0) (chunk_at known g)
      (eq-eqb entry.index g (is.1 d))
  chunk_there (entry ∷ known) g (suc i) d order is =
      let below = is.0 in
      let before = all_at (λ later. R entry.index later) known i d (omega arith) order.0 in
      cond-false (eqb entry.index g) (Some entry.chunk.0) (chunk_at known g)
      (ne_eqb entry.index g (λ same. apart entry.index _ before (same ∙ sym (is.1 d))))
      ∙ chunk_there known g i d order.1 (omega arith, is.1)

  -- another chunk is put there
  pub set_there : (known : Known) (g i : ℕ) (chunk : Chunk) (d : Entry)
      → InOrder R (indices_of known) → IsPlaceOf g known (Some i)
      → set known i (record (get_or known i d) { chunk = chunk }) ≡ with_chunk known g chunk
  set_there [] g i chunk d order is = absurd (let below = is.0 in omega arith)
  set_there (entry ∷ known) g zero chunk d order is =
      let here = eq-eqb entry.index g (is.1 d) in
      ap₂ (λ x xs. x ∷ xs)
      (sym (cond-true (eqb entry.index g) (record entry { chunk = chunk }) entry here))
      (sym (none_there known g chunk (later known order.0)))
    where
      later : (more : Known) → AllByRecursion (λ k. R entry.index k) (indices_of more)
          → AllByRecursion (λ k. k ≡ g → ⊥) (indices_of more)
      later [] all = tt
      later (x ∷ more) all =
          ((λ same. apart entry.index x.index all.0 (is.1 d ∙ sym same)), later more all.1)
  set_there (entry ∷ known) g (suc i) chunk d order is =
      let below = is.0 in
      let before = all_at (λ later. R entry.index later) known i d (omega arith) order.0 in
      ap₂ (λ x xs. x ∷ xs)
      (sym (cond-false (eqb entry.index g) (record entry { chunk = chunk }) entry
      (ne_eqb entry.index g (λ same. apart entry.index _ before (same ∙ sym (is.1 d))))))
      (set_there known g i chunk d order.1 (omega arith, is.1))

-- The comparisons of the two orders.

below_Less : (a b : ℕ) → a < b → nat_cmp a b ≡ Less
below_Less a b less = rw (lt-ltb a b less) refl

above_Greater : (a b : ℕ) → b < a → nat_cmp a b ≡ Greater
above_Greater a b more =
    rw (le-ltb a b (omega arith), ne_eqb a b (λ same. omega arith)) refl

equal_same : (a b : ℕ) → nat_cmp a b ≡ Equal → a ≡ b
equal_same a b e = elim (cases_lt a b) [
  | inl less ↦ (let differ : Less ≡ Equal = sym (below_Less a b less) ∙ e in cc)
  | inr most ↦ elim (cases_lt b a) [
    | inl more ↦ (let differ : Greater ≡ Equal = sym (above_Greater a b more) ∙ e in cc)
    | inr least ↦ omega arith
  ]
]

same_equal : (a : ℕ) → nat_cmp a a ≡ Equal
same_equal a = rw (le-ltb a a (omega arith), eq-eqb a a refl) refl

least : (o p : Ordering) → o ≡ Less → ordering_index o ≤ ordering_index p
least o p e = let zero_is : ordering_index o ≡ 0 = ap ordering_index e in omega arith

most : (o p : Ordering) → p ≡ Greater → ordering_index o ≤ ordering_index p
most Less p e = omega arith
most Equal p e = let two : ordering_index p ≡ 2 = ap ordering_index e in omega arith
most Greater p e = let two : ordering_index p ≡ 2 = ap ordering_index e in omega arith

pub ascending_found : (known : Known) (g : ℕ) (r : Result ℕ ℕ) → IsAscending (indices_of known)
    → IsSearchInRange r (length known)
    → IsBinarySearchResult (λ (entry : Entry). nat_cmp entry.index g) known r
    → IsPlaceOf g known (result_ok r)
ascending_found known g =
    place_found (λ one later. one < later) less-apart g (λ k. nat_cmp k g)
    (λ k. equal_same k g) (same_equal g) rises known
  where
    rises : (a b : ℕ) → a < b → ordering_index (nat_cmp a g) ≤ ordering_index (nat_cmp b g)
    rises a b less = elim (cases_lt a g) [
      | inl low ↦ least (nat_cmp a g) (nat_cmp b g) (below_Less a g low)
      | inr high ↦ most (nat_cmp a g) (nat_cmp b g) (above_Greater b g (omega arith))
    ]

pub descending_found : (known : Known) (g : ℕ) (r : Result ℕ ℕ)
    → IsDescending (indices_of known) → IsSearchInRange r (length known)
    → IsBinarySearchResult (λ (entry : Entry). nat_cmp g entry.index) known r
    → IsPlaceOf g known (result_ok r)
descending_found known g =
    place_found (λ one later. later < one) more-apart g (λ k. nat_cmp g k)
    (λ k e. sym (equal_same g k e)) (same_equal g) rises known
  where
    rises : (a b : ℕ) → b < a → ordering_index (nat_cmp g a) ≤ ordering_index (nat_cmp g b)
    rises a b more = elim (cases_lt g a) [
      | inl low ↦ least (nat_cmp g a) (nat_cmp g b) (below_Less g a low)
      | inr high ↦ most (nat_cmp g a) (nat_cmp g b) (above_Greater g b (omega arith))
    ]
