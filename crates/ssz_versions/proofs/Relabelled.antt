-- The entries of one writer among those in order.
use Rattle.std.proofs.Common.{◌≡◌, ℕ, ◌<◌, ◌≤◌, true, false, cond, ◌==◌, [], ◌∷◌, ◌++◌, length, map, arith, refl, sym, ap, ◌∙◌}
use Rattle.std.proofs.lemmas.Bool.{false≢true, eq-eqb, ne_eqb}
use Rattle.std.proofs.lemmas.Cmp.{ranked}
use Rattle.std.proofs.lemmas.List.{append-nil, length-map}
use Rattle.std.specs.Cmp.Lexicographic.{slice_cmp}
use Rattle.std.specs.FinMap as finite
use Rattle.std.specs.List.{filter, AllByRecursion}
use Rattle.std.specs.Ordering.{nat_cmp, ordering_then, is_lt}
use Rattle.std.specs.declared.cmp.Ordering.TheVariants.{Less, Equal, Greater}
use Rattle.ssz_versions.specs.Content.{Held, Entries, entry_names}
use Rattle.ssz_versions.specs.Keys.{Key, key_cmp}
use Rattle.ssz_versions.specs.Lists.{relabelled}
use Rattle.ssz_versions.proofs.Ordered.{Row, IsOrdered, left_of, right_of}

relabelled-append : (from to : ℕ) (l m : Row)
    → relabelled from to (l ++ m) ≡ relabelled from to l ++ relabelled from to m
relabelled-append from to [] m = refl
relabelled-append from to (e ∷ l) m =
    ap (λ row. cond (e.0.0 == from) (((to, e.0.1), e.1) ∷ row) row) (relabelled-append from to l m)
    ∙ elim (e.0.0 == from) as (λ b.
    cond b (((to, e.0.1), e.1) ∷ (relabelled from to l ++ relabelled from to m))
    (relabelled from to l ++ relabelled from to m)
    ≡ cond b (((to, e.0.1), e.1) ∷ relabelled from to l) (relabelled from to l)
    ++ relabelled from to m) [ true ↦ refl | false ↦ refl ]

relabelled-none : (from to : ℕ) (row : Row) → AllByRecursion (λ e. (e.0.0 == from) ≡ false) row
    → relabelled from to row ≡ []
relabelled-none from to [] h = refl
relabelled-none from to (e ∷ row) h =
    ap (λ b. cond b (((to, e.0.1), e.1) ∷ relabelled from to row) (relabelled from to row)) h.0
    ∙ relabelled-none from to row h.1

-- a key that comes before another is of no later writer
no_later : (a b : Key) → key_cmp a b ≡ Less → a.0 ≤ b.0
no_later a b =
    elim (nat_cmp a.0 b.0) as (λ o. o ≡ nat_cmp a.0 b.0
    → ordering_then o (slice_cmp nat_cmp a.1 b.1) ≡ Less → a.0 ≤ b.0) [
      | Less ↦ λ is h. let p : a.0 < b.0 = ranked a.0 b.0 Less is in omega arith
      | Equal ↦ λ is h. let p : a.0 ≡ b.0 = ranked a.0 b.0 Equal is in omega arith
      | Greater ↦ λ is h. absurd (false≢true (ap is_lt h))
    ] refl

module _ (from to : ℕ) (l : Row) (e : Key × Held) (r : Row) (ordered : IsOrdered (l ++ e ∷ r)) where
  split : relabelled from to (l ++ e ∷ r)
      ≡ relabelled from to l
      ++ cond (e.0.0 == from) (((to, e.0.1), e.1) ∷ relabelled from to r) (relabelled from to r)
  split = relabelled-append from to l (e ∷ r)

  -- an entry of an earlier writer has those of this one to its right
  pub relabelled_less : nat_cmp e.0.0 from ≡ Less
      → relabelled from to (l ++ e ∷ r) ≡ relabelled from to r
  relabelled_less less =
      let earlier : e.0.0 < from = ranked e.0.0 from Less (sym less) in
      let none = relabelled-none from to l
      (left_of (λ k. (k.0 == from) ≡ false) l e r
      (λ k before. let p : k.0 ≤ e.0.0 = no_later k e.0 before in ne_eqb k.0 from (omega arith))
      ordered) in
      split
      ∙ ap (λ row. row ++ cond (e.0.0 == from) (((to, e.0.1), e.1) ∷ relabelled from to r)
      (relabelled from to r)) none
      ∙ ap (λ b. cond b (((to, e.0.1), e.1) ∷ relabelled from to r) (relabelled from to r))
      (ne_eqb e.0.0 from (omega arith))

  pub relabelled_equal : nat_cmp e.0.0 from ≡ Equal
      → relabelled from to (l ++ e ∷ r)
      ≡ relabelled from to l ++ ((to, e.0.1), e.1) ∷ relabelled from to r
  relabelled_equal equal =
      split
      ∙ ap (λ b. relabelled from to l
      ++ cond b (((to, e.0.1), e.1) ∷ relabelled from to r) (relabelled from to r))
      (eq-eqb e.0.0 from (ranked e.0.0 from Equal (sym equal)))

  -- an entry of a later writer has those of this one to its left
  pub relabelled_greater : nat_cmp e.0.0 from ≡ Greater
      → relabelled from to (l ++ e ∷ r) ≡ relabelled from to l
  relabelled_greater greater =
      let later : from < e.0.0 = ranked e.0.0 from Greater (sym greater) in
      let none = relabelled-none from to r
      (right_of (λ k. (k.0 == from) ≡ false) l e r
      (λ k after. let p : e.0.0 ≤ k.0 = no_later e.0 k after in ne_eqb k.0 from (omega arith))
      ordered) in
      split
      ∙ ap (λ b. relabelled from to l
      ++ cond b (((to, e.0.1), e.1) ∷ relabelled from to r) (relabelled from to r))
      (ne_eqb e.0.0 from (omega arith))
      ∙ ap (λ row. relabelled from to l ++ row) none
      ∙ append-nil (relabelled from to l)

names-relabelled : (writer : ℕ) (row : Row)
    → map (λ e. e.0.1) (relabelled writer writer row)
    ≡ map (λ key. key.1) (filter (λ key. key.0 == writer) (map (λ e. e.0) row))
names-relabelled writer [] = refl
names-relabelled writer (e ∷ row) =
    elim (e.0.0 == writer) as (λ b.
    map (λ x. x.0.1) (cond b (((writer, e.0.1), e.1) ∷ relabelled writer writer row)
    (relabelled writer writer row))
    ≡ map (λ key. key.1) (cond b (e.0 ∷ filter (λ key. key.0 == writer) (map (λ x. x.0) row))
    (filter (λ key. key.0 == writer) (map (λ x. x.0) row)))) [
      | true ↦ ap (λ names. e.0.1 ∷ names) (names-relabelled writer row)
      | false ↦ names-relabelled writer row
    ]

-- the names of a writer are those of its entries
pub names_are : (row : Row) (m : Entries) (writer : ℕ) → IsOrdered row
    → finite.from_sorted {R = key_cmp} row ≡ m
    → map (λ e. e.0.1) (relabelled writer writer row) ≡ entry_names m writer
names_are row m writer ordered view =
    names-relabelled writer row
    ∙ ap (λ es. map (λ key. key.1) (filter (λ key. key.0 == writer) (map (λ e. e.0) es)))
    (sym (finite.entries-from_sorted key_cmp row ordered))
    ∙ ap (λ n. entry_names n writer) view

-- under which keys the entries of a writer are put, there are as many
as_many_relabelled : (from to other : ℕ) (row : Row)
    → length (relabelled from to row) ≡ length (relabelled from other row)
as_many_relabelled from to other [] = refl
as_many_relabelled from to other (e ∷ row) =
    let rest : length (relabelled from to row) ≡ length (relabelled from other row) =
    as_many_relabelled from to other row in
    elim (e.0.0 == from) as (λ b.
    length (cond b (((to, e.0.1), e.1) ∷ relabelled from to row) (relabelled from to row))
    ≡ length (cond b (((other, e.0.1), e.1) ∷ relabelled from other row)
    (relabelled from other row))) [ true ↦ omega (arith, rest) | false ↦ rest ]

-- there are as many as the writer has names
pub as_many_names : (row : Row) (m : Entries) (from to : ℕ) → IsOrdered row
    → finite.from_sorted {R = key_cmp} row ≡ m
    → length (relabelled from to row) ≡ length (entry_names m from)
as_many_names row m from to ordered view =
    as_many_relabelled from to from row
    ∙ sym (length-map (relabelled from from row) (λ (e : Key × Held). e.0.1))
    ∙ ap (λ names. length names) (names_are row m from ordered view)
