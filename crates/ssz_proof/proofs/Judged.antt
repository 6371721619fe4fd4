-- What a text is judged as, and what is calculated from its lists, whatever the order of its
-- leaves.
use Rattle.std.proofs.Common.{◌≡◌, ◌≢◌, ℕ, zero, suc, ◌+◌, ◌*◌, ◌≤◌, false, eqb, List, [], ◌∷◌, ◌++◌, refl, sym, ap, ◌∙◌, Option, Some, None, unwrap_or, arith, inl, inr, All}
use Rattle.std.specs.Prelude.{nat_eq, Contains, sum_by}
use Rattle.std.specs.Option.{option_and_then}
use Rattle.std.specs.List.{AllByRecursion, IsDistinct}
use Rattle.std.specs.List.Sorted.{IsPermutation}
use Rattle.std.proofs.lemmas.Bool.{eqb-true, eq-eqb, cases_Bool, cond-true, cond-false, false_from_ne_true}
use Rattle.std.proofs.lemmas.Option.{none-some}
use Rattle.std.proofs.lemmas.List.Elements.{All-cons, All-weaker}
use Rattle.std.proofs.lemmas.List.Sorted.{All-permutation, Contains-permutation, sum_by-IsPermutation, IsPermutation-map, IsPermutation-sym, IsPermutation-append_left}
use Rattle.ssz_chunk.specs.Index.{levels}
use Rattle.ssz_proof.specs.declared.entry.Entry.{Entry}
use Rattle.ssz_proof.specs.Calculation.{Known, indices_of, chunk_at, calculate_root_within, deepest, calculate_root}
use Rattle.ssz_proof.specs.Multiproof.{Multiproof, IsMultiproof, IsProofOf, known_of}
use Rattle.ssz_proof.specs.Text.{read_text, IsReadAs, IsRefused}
use Rattle.ssz_proof.specs.Judgement.{is_multiproof, judged, multiproof_of}
use Rattle.ssz_proof.proofs.Judging.{lists-judged}

judged-is : (lists : Multiproof) → IsMultiproof lists → judged lists ≡ Some lists
judged-is lists is = rw ((lists-judged lists).1 is) refl

judged-not : (lists : Multiproof) → ¬ IsMultiproof lists → judged lists ≡ None
judged-not lists not_is =
    rw (false_from_ne_true (is_multiproof lists)
    (λ yes_is. not_is ((lists-judged lists).0 yes_is))) refl

-- the text of a proof is judged as its lists
pub multiproof_of-read : (text : List ℕ) (proof : Multiproof) (is : IsReadAs text proof)
    → multiproof_of text ≡ Some is.lists
unfolding multiproof_of
multiproof_of-read text proof is = rw is.says (judged-is is.lists is.is.given)

pub multiproof_of-refused : (text : List ℕ) → IsRefused text → multiproof_of text ≡ None
unfolding multiproof_of
multiproof_of-refused text refused = at (read_text text) refl
  where
    at : (says : Option Multiproof) → read_text text ≡ says
        → option_and_then judged (read_text text) ≡ None
    at None says = rw says refl
    at (Some lists) says = rw says (judged-not lists (refused lists says))

-- an entry of this index and chunk
record Finds (known : Known) (at : ℕ) (bytes : List ℕ) : Type 0 where
  entry : Entry
  has : Contains known entry
  index : entry.index ≡ at
  chunk : entry.chunk.0 ≡ bytes

same-some : {A : Type 0} (a b : A) → Some a ≡ Some b → a ≡ b
same-some a b same = ap (λ o. unwrap_or o a) same

-- a chunk that is known is that of an entry
found : (known : Known) (index : ℕ) (chunk : List ℕ) → chunk_at known index ≡ Some chunk
    → Finds known index chunk
found [] index chunk is = absurd (none-some chunk is)
found (entry ∷ known) index chunk is = elim (cases_Bool (eqb entry.index index)) [
  | inl here ↦ record {
    entry = entry;
    has = (0, omega arith, refl);
    index = eqb-true _ _ here;
    chunk = same-some _ _ (sym (cond-true _ _ _ here) ∙ is);
  }
  | inr other ↦ (let later = found known index chunk (sym (cond-false _ _ _ other) ∙ is) in record {
    entry = later.entry;
    has = (suc later.has.0, omega (arith, later.has.1), later.has.2);
    index = later.index;
    chunk = later.chunk;
  })
]

-- none is known at an index that no entry has
unknown : (known : Known) (index : ℕ) → chunk_at known index ≡ None → (entry : Entry)
    → Contains known entry → entry.index ≢ index
unknown [] index none entry has same = absurd (let below = has.1 in omega arith)
unknown (other ∷ known) index none entry (zero, below, is) same =
    none-some other.chunk.0
    (sym none ∙ cond-true _ _ _ (eq-eqb other.index index (ap (λ e. e.index) is ∙ same)))
unknown (other ∷ known) index none entry (suc k, below, is) same =
    elim (cases_Bool (eqb other.index index)) [
      | inl here ↦ none-some other.chunk.0 (sym none ∙ cond-true _ _ _ here)
      | inr apart ↦
          unknown known index (sym (cond-false _ _ _ apart) ∙ none) entry (k, omega arith, is) same
    ]

-- each index of entries apart is that of one
only : (known : Known) (entry : Entry) → IsDistinct nat_eq (indices_of known)
    → Contains known entry → chunk_at known entry.index ≡ Some entry.chunk.0
unfolding IsDistinct
only [] entry apart has = absurd (let below = has.1 in omega arith)
only (first ∷ known) entry apart (zero, below, is) =
    ap (λ e. chunk_at (first ∷ known) e.index) (sym is)
    ∙ cond-true _ _ _ (eq-eqb first.index first.index refl) ∙ ap (λ e. Some e.chunk.0) is
only (first ∷ known) entry apart (suc k, below, is) =
    cond-false _ _ _ (other-first known apart.0 (k, omega arith, is))
    ∙ only known entry apart.1 (k, omega arith, is)
  where
    other-first : (rest : Known)
        → AllByRecursion (λ index. nat_eq first.index index ≡ false) (indices_of rest)
        → Contains rest entry → nat_eq first.index entry.index ≡ false
    other-first [] each has = absurd (let below = has.1 in omega arith)
    other-first (next ∷ rest) each (zero, below, is) =
        ap (λ e. nat_eq first.index e.index) (sym is) ∙ each.0
    other-first (next ∷ rest) each (suc k, below, is) = other-first rest each.1 (k, omega arith, is)

-- the order of entries apart does not matter
chunk_at-permutation : (xs ys : Known) (index : ℕ) → IsPermutation xs ys
    → IsDistinct nat_eq (indices_of ys) → chunk_at xs index ≡ chunk_at ys index
chunk_at-permutation xs ys index same apart = by (chunk_at xs index) refl (chunk_at ys index) refl
  where
    by : (one : Option (List ℕ)) → chunk_at xs index ≡ one → (two : Option (List ℕ))
        → chunk_at ys index ≡ two → chunk_at xs index ≡ chunk_at ys index
    by None none None other = none ∙ sym other
    by None none (Some chunk) other =
        let one = found ys index chunk other in
        absurd (unknown xs index none one.entry
        (Contains-permutation ys xs one.entry (IsPermutation-sym xs ys same) one.has) one.index)
    by (Some chunk) is two other =
        let one = found xs index chunk is in
        is ∙ sym (ap (chunk_at ys) (sym one.index)
        ∙ only ys one.entry apart (Contains-permutation xs ys one.entry same one.has)
        ∙ ap Some one.chunk)

-- what is known first, or else behind it
chunk_at-append : (xs ys : Known) (index : ℕ)
    → chunk_at (xs ++ ys) index
    ≡ elim (chunk_at xs index) [ None ↦ chunk_at ys index | Some chunk ↦ Some chunk ]
chunk_at-append [] ys index = refl
chunk_at-append (entry ∷ xs) ys index = elim (cases_Bool (eqb entry.index index)) [
  | inl here ↦ rw here refl
  | inr other ↦ rw other (chunk_at-append xs ys index)
]

chunk_at-front : (xs ys zs : Known) (index : ℕ) → chunk_at xs index ≡ chunk_at ys index
    → chunk_at (xs ++ zs) index ≡ chunk_at (ys ++ zs) index
chunk_at-front xs ys zs index same =
    chunk_at-append xs zs index
    ∙ ap (λ o. elim o [ None ↦ chunk_at zs index | Some chunk ↦ Some chunk ]) same
    ∙ sym (chunk_at-append ys zs index)

abbrev IsAtMost : ℕ → Entry → Type 0
IsAtMost most entry = levels entry.index ≤ most

-- the levels of each are at most those of the deepest
deepest-each : (known : Known) → All (IsAtMost (deepest (indices_of known))) known
deepest-each [] = λ k d below. absurd (omega (arith, below))
deepest-each (entry ∷ known) =
    let rest : ℕ = deepest (indices_of known) in
    let whole : ℕ = deepest (indices_of (entry ∷ known)) in
    let first : levels entry.index ≤ whole = omega arith in
    All-cons (IsAtMost whole) entry known first
    (All-weaker (IsAtMost rest) (IsAtMost whole) (deeper rest whole (omega arith)) known
    (deepest-each known))
  where
    deeper : (rest whole : ℕ) → rest ≤ whole → (other : Entry) → IsAtMost rest other
        → IsAtMost whole other
    deeper rest whole more other small = omega (arith, more, small)

deepest-least : (most : ℕ) (known : Known) → All (IsAtMost most) known
    → deepest (indices_of known) ≤ most
deepest-least most [] each = omega arith
deepest-least most (entry ∷ known) each =
    let first : levels entry.index ≤ most = each 0 entry (omega arith) in
    let rest : deepest (indices_of known) ≤ most =
    deepest-least most known (λ k d below. each (suc k) d (omega (arith, below))) in
    omega (arith, first, rest)

deepest-permutation : (xs ys : Known) → IsPermutation xs ys
    → deepest (indices_of xs) ≡ deepest (indices_of ys)
deepest-permutation xs ys same =
    let low : deepest (indices_of xs) ≤ deepest (indices_of ys) =
    deepest-least (deepest (indices_of ys)) xs
    (All-permutation (IsAtMost (deepest (indices_of ys))) ys xs (IsPermutation-sym xs ys same)
    (deepest-each ys)) in
    let high : deepest (indices_of ys) ≤ deepest (indices_of xs) =
    deepest-least (deepest (indices_of xs)) ys
    (All-permutation (IsAtMost (deepest (indices_of xs))) xs ys same (deepest-each xs)) in
    omega (arith, low, high)

calculated_within-same : (pair_of : List ℕ → List ℕ → List ℕ) (down : ℕ) (xs ys : Known)
    → ((index : ℕ) → chunk_at xs index ≡ chunk_at ys index) → (index : ℕ)
    → calculate_root_within pair_of down xs index ≡ calculate_root_within pair_of down ys index
calculated_within-same pair_of zero xs ys same index = rw (same index) refl
calculated_within-same pair_of (suc down) xs ys same index =
    rw (
      same index,
      calculated_within-same pair_of down xs ys same (2 * index),
      calculated_within-same pair_of down xs ys same (2 * index + 1),
    ) refl

-- what is known of a proof is known of the lists that it was made of
pub chunk_at-given : (lists proof : Multiproof) → IsProofOf lists proof → (index : ℕ)
    → chunk_at (known_of lists) index ≡ chunk_at (known_of proof) index
chunk_at-given lists proof is index =
    rw (is.nodes)
    (chunk_at-front lists.leaves proof.leaves lists.nodes index
    (chunk_at-permutation lists.leaves proof.leaves index is.leaves is.ordered.is.distinct))

-- what is calculated from a proof is calculated from the lists that it was made of
pub calculated-given : (pair_of : List ℕ → List ℕ → List ℕ) (lists proof : Multiproof)
    → IsProofOf lists proof → (index : ℕ)
    → calculate_root pair_of (known_of lists) index ≡ calculate_root pair_of (known_of proof) index
calculated-given pair_of lists proof is index =
    let deep : deepest (indices_of (known_of lists)) ≡ deepest (indices_of (known_of proof)) =
    rw (is.nodes)
    (deepest-permutation (lists.leaves ++ lists.nodes) (proof.leaves ++ lists.nodes)
    (IsPermutation-append_left lists.nodes lists.leaves proof.leaves is.leaves)) in
    ap (λ down. calculate_root_within pair_of down (known_of lists) index) deep
    ∙ calculated_within-same pair_of _ (known_of lists) (known_of proof)
    (chunk_at-given lists proof is) index

-- and their leaves have as many levels
pub levels-given : (lists proof : Multiproof) → IsProofOf lists proof
    → sum_by levels (indices_of proof.leaves) ≡ sum_by levels (indices_of lists.leaves)
levels-given lists proof is =
    sum_by-IsPermutation levels (indices_of lists.leaves) (indices_of proof.leaves)
    (IsPermutation-map (λ entry. entry.index) lists.leaves proof.leaves is.leaves)
