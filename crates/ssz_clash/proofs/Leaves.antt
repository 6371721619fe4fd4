-- Leaves in ascending order are told by what is known at each index.
use Rattle.std.proofs.Common.{◌≡◌, ℕ, ◌<◌, ◌≤◌, Bool, true, false, not, cond, ◌||◌, eqb, List, [], ◌∷◌, map, refl, sym, ap, ap₂, ◌∙◌, subst, Option, Some, None, is_some, arith, inl, inr}
use Rattle.std.specs.List.{AllByRecursion}
use Rattle.std.proofs.lemmas.Bool.{cases_eq, eq-eqb, ne_eqb, cond-true, cond-false}
use Rattle.std.proofs.lemmas.Option.{none-some, same_Some}
use Rattle.ssz_chunk.specs.Chunk.{zero_chunk}
use Rattle.ssz_gindex.specs.Laws.{contains}
use Rattle.ssz_proof.specs.declared.entry.Entry.{Entry}
use Rattle.ssz_proof.specs.Calculation.{Known, indices_of, chunk_at}
use Rattle.ssz_proof.specs.Descent.{IsAscending}
use Rattle.ssz_proof.proofs.KnownChunks.{known_holds}
use Rattle.ssz_clash.specs.Clashes.{SamePlaces, SameLeaves}

pub true-from_not : (b : Bool) → not b ≡ false → b ≡ true
true-from_not true e = refl
true-from_not false e = sym e

-- whether a chunk is known at an index is told by the indices alone
pub some-known : (known : Known) (g : ℕ)
    → is_some (chunk_at known g) ≡ contains (indices_of known) g
some-known [] g = refl
some-known (entry ∷ known) g =
    by (eqb entry.index g) entry.chunk.0 (chunk_at known g) (some-known known g)
  where
    by : (b : Bool) (c : List ℕ) (o : Option (List ℕ))
        → is_some o ≡ contains (indices_of known) g
        → is_some (cond b (Some c) o) ≡ (b || contains (indices_of known) g)
    by true c o e = refl
    by false c o e = e

pub places-same : (xs ys : Known) → indices_of xs ≡ indices_of ys → SamePlaces xs ys
places-same xs ys same g =
    some-known xs g ∙ ap (λ (indices : List ℕ). contains indices g) same ∙ sym (some-known ys g)

-- nothing is known below all indices
none-below : (known : Known) (g : ℕ) → AllByRecursion (λ k. g < k) (indices_of known)
    → chunk_at known g ≡ None
none-below [] g all = refl
none-below (entry ∷ known) g all =
    cond-false (eqb entry.index g) (Some entry.chunk.0) (chunk_at known g)
    (ne_eqb entry.index g (λ e. let above = all.0 in omega arith)) ∙ none-below known g all.1

known-first : (entry : Entry) (known : Known)
    → chunk_at (entry ∷ known) entry.index ≡ Some entry.chunk.0
known-first entry known =
    cond-true (eqb entry.index entry.index) (Some entry.chunk.0) (chunk_at known entry.index)
    (eq-eqb entry.index entry.index refl)

not-below : (i : ℕ) (known : Known) → AllByRecursion (λ later. i < later) (indices_of known)
    → AllByRecursion (λ entry. i ≤ entry.index) known
not-below i [] all = tt
not-below i (entry ∷ known) all =
    let above = all.0 in (omega arith, not-below i known all.1)

not-before : (entry : Entry) (known : Known) (g : ℕ) (c : List ℕ)
    → IsAscending (indices_of (entry ∷ known)) → chunk_at (entry ∷ known) g ≡ Some c
    → entry.index ≤ g
not-before entry known g c up is =
    known_holds (λ k bytes. entry.index ≤ k) (entry ∷ known) g c
    (omega arith, not-below entry.index known up.0) is

abbrev pub entry_of : ℕ → List ℕ → Entry
entry_of index bytes = record { index = index; chunk = record { 0 = bytes } }

-- what is known at each index tells entries that ascend
pub same-known : (xs ys : Known) → IsAscending (indices_of xs) → IsAscending (indices_of ys)
    → SameLeaves xs ys → xs ≡ ys
same-known [] [] up also same = refl
same-known [] (y ∷ ys) up also same =
    absurd (none-some y.chunk.0 (same y.index ∙ known-first y ys))
same-known (x ∷ xs) [] up also same =
    absurd (none-some x.chunk.0 (sym (same x.index) ∙ known-first x xs))
same-known (x ∷ xs) (y ∷ ys) up also same =
    let here : chunk_at (y ∷ ys) x.index ≡ Some x.chunk.0 = sym (same x.index) ∙ known-first x xs in
    let there : chunk_at (x ∷ xs) y.index ≡ Some y.chunk.0 = same y.index ∙ known-first y ys in
    let index : x.index ≡ y.index = omega (
      arith,
      not-before y ys x.index x.chunk.0 also here,
      not-before x xs y.index y.chunk.0 up there,
    ) in
    let chunk : x.chunk.0 ≡ y.chunk.0 = same_Some x.chunk.0 y.chunk.0
    (sym here ∙ ap (λ (k : ℕ). chunk_at (y ∷ ys) k) index ∙ known-first y ys) in
    ap₂ (λ z zs. z ∷ zs) (ap₂ entry_of index chunk) (same-known xs ys up.1 also.1
    (λ g. elim (cases_eq x.index g) [
      | inl first ↦
          none-below xs g
          (subst (λ (k : ℕ). AllByRecursion (λ later. k < later) (indices_of xs)) first up.0)
          ∙ sym (none-below ys g
          (subst (λ (k : ℕ). AllByRecursion (λ later. k < later) (indices_of ys))
          (sym index ∙ first) also.0))
      | inr other ↦
          sym (cond-false (eqb x.index g) (Some x.chunk.0) (chunk_at xs g)
          (ne_eqb x.index g other))
          ∙ same g
          ∙ cond-false (eqb y.index g) (Some y.chunk.0) (chunk_at ys g)
          (ne_eqb y.index g (λ e. other (index ∙ e)))
    ]))

-- with a zero chunk in place of each
abbrev bare : Known → Known
bare known = map (λ entry. entry_of entry.index zero_chunk) known

bare-indices : (known : Known) → indices_of (bare known) ≡ indices_of known
bare-indices [] = refl
bare-indices (entry ∷ known) = ap (λ rest. entry.index ∷ rest) (bare-indices known)

bare-at : (known : Known) (g : ℕ)
    → chunk_at (bare known) g ≡ cond (contains (indices_of known) g) (Some zero_chunk) None
bare-at [] g = refl
bare-at (entry ∷ known) g =
    by (eqb entry.index g) (chunk_at (bare known) g) (contains (indices_of known) g)
    (bare-at known g)
  where
    by : (b : Bool) (o : Option (List ℕ)) (rest : Bool) → o ≡ cond rest (Some zero_chunk) None
        → cond b (Some zero_chunk) o ≡ cond (b || rest) (Some zero_chunk) None
    by true o rest e = refl
    by false o rest e = e

-- and so the indices, where leaves are at the same ones
pub same-indices : (xs ys : Known) → IsAscending (indices_of xs) → IsAscending (indices_of ys)
    → SamePlaces xs ys → indices_of xs ≡ indices_of ys
same-indices xs ys up also same =
    sym (bare-indices xs)
    ∙ ap indices_of (same-known (bare xs) (bare ys)
    (subst (λ (indices : List ℕ). IsAscending indices) (sym (bare-indices xs)) up)
    (subst (λ (indices : List ℕ). IsAscending indices) (sym (bare-indices ys)) also)
    (λ g. bare-at xs g
    ∙ ap (λ (b : Bool). cond b (Some zero_chunk) None)
    (sym (some-known xs g) ∙ same g ∙ some-known ys g)
    ∙ sym (bare-at ys g)))
    ∙ bare-indices ys
