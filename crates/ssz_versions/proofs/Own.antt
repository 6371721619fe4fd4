-- The keys of one writer, in order.
use Rattle.std.proofs.Common.{◌≡◌, ℕ, true, ◌==◌, ◌&&◌, T, List, [], ◌∷◌, map, is_some, refl, sym, ap, ◌∙◌}
use Rattle.std.specs.FinMap as finite
use Rattle.std.specs.List.{list_any, filter, AllByRecursion}
use Rattle.std.specs.List.Sorted.{IsStrictlySortedBy}
use Rattle.std.specs.Ordering.{eq_by_cmp, is_eq}
use Rattle.std.specs.declared.cmp.Ordering.{Ordering}
use Rattle.std.specs.declared.cmp.Ordering.TheVariants.{Less, Equal, Greater}
use Rattle.std.proofs.lemmas.Bool.{false≢true}
use Rattle.std.proofs.lemmas.Bool.Decides.{Decides-eqb}
use Rattle.std.proofs.lemmas.List.Kept.{IsStrictlySortedBy-filter}
use Rattle.std.proofs.lemmas.Map.Views.{any-filter_same}
use Rattle.ssz_versions.specs.Content.{Entries}
use Rattle.ssz_versions.specs.Keys.{Key, key_cmp, key_cmp-exact}
use Rattle.ssz_versions.proofs.Ordered.{first_of, rest_of, less_of}

pub same_writer : (w v : ℕ) → w ≡ v → (w == v) ≡ true
same_writer w v e = (Decides-eqb w v).1 e

equal_of : (o : Ordering) → is_eq o ≡ true → o ≡ Equal
equal_of Less e = absurd (false≢true e)
equal_of Equal e = refl
equal_of Greater e = absurd (false≢true e)

equal_key : (a b : Key) → eq_by_cmp key_cmp a b ≡ true → a ≡ b
equal_key a b e = key_cmp-exact a b (equal_of (key_cmp a b) e)

-- the keys of a writer, in order
abbrev pub own_keys : Entries → ℕ → List Key
own_keys entries writer = filter (λ key. key.0 == writer) (finite.keys entries)

module _ {K X : Type 0} (R : K → K → Ordering) where
  below_others : (x : K) (es : List (K × X)) → T (finite.Entries.below_all R x es)
      → AllByRecursion (λ y. R x y ≡ Less) (map (λ e. e.0) es)
  below_others x [] h = tt
  below_others x (e ∷ es) h =
      (less_of (R x e.0) (first_of _ _ h), below_others x es (rest_of _ _ h))

  pub keys_ascend : (es : List (K × X)) → T (finite.is_sorted R es)
      → IsStrictlySortedBy R (map (λ e. e.0) es)
  unfolding IsStrictlySortedBy
  keys_ascend [] h = tt
  keys_ascend (e ∷ es) h =
      (below_others e.0 es (first_of _ _ h), keys_ascend es (rest_of _ _ h))

pub own_keys_ascend : (m : Entries) (writer : ℕ) → IsStrictlySortedBy key_cmp (own_keys m writer)
own_keys_ascend m writer = IsStrictlySortedBy-filter key_cmp (λ key. key.0 == writer)
    (finite.keys m) (keys_ascend key_cmp (finite.entries m) (finite.entries_sorted m))

pub own_contains : (m : Entries) (writer : ℕ) (q : Key)
    → list_any (eq_by_cmp key_cmp q) (own_keys m writer)
    ≡ ((q.0 == writer) && is_some (finite.get m q))
own_contains m writer q =
    any-filter_same (eq_by_cmp key_cmp q) (λ key. key.0 == writer) (q.0 == writer)
    (λ k e. ap (λ key. key.0 == writer) (sym (equal_key q k e))) (finite.keys m)
    ∙ ap (λ b. (q.0 == writer) && b) (sym (finite.contains_key-keys m q))
