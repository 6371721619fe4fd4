-- Names in an ordered map.
use Rattle.std.proofs.Common.{ℕ, ◌≡◌, Bool, true, false, cond, List, [], ◌∷◌, map, Some, Vec, Global, bytes_eq, refl, sym, ap, ap₂, ◌∙◌}
use Rattle.std.specs.List.{All, AllByRecursion, AllZip}
use Rattle.std.specs.List.Sorted.{IsStrictlySortedBy}
use Rattle.std.proofs.lemmas.List.Elements.{recursion_from_All}
use Rattle.std.specs.Ordering.{is_eq, nat_cmp, match_ordering}
use Rattle.std.specs.declared.cmp.Ordering.{Ordering}
use Rattle.std.specs.declared.cmp.Ordering.TheVariants.{Less, Equal, Greater}
use Rattle.std.specs.FinMap.{slice_cmp-IsAntisymmetric, nat_cmp-IsAntisymmetric}
use Rattle.std.proofs.lemmas.Slice.Eq.{bytes_eq-Decides}
use Rattle.std.specs.Cmp.Lexicographic.{slice_cmp}
use Rattle.std.specs.Map.{lookup}
use Rattle.std.specs.BTreeMap.{insert_entry}
use Rattle.std.proofs.lemmas.Map.Text.{is_eq-slice_cmp}
use Rattle.ssz_types.specs.Lookup.{lookup_name}
use Rattle.ssz_types.specs.NameTables.{IsInOrder, AreFound}

abbrev pub Key : Type 0
Key = Vec ℕ Global

abbrev pub named : List (Key × ℕ) → List (List ℕ × ℕ)
named es = map (λ e. (e.0.items, e.1)) es

-- looking a name up in the map is looking it up in the list
pub lookup-named : (es : List (Key × ℕ)) (name : List ℕ)
    → lookup (λ k. is_eq (slice_cmp nat_cmp name k.items)) es ≡ lookup_name (named es) name
lookup-named [] name = refl
lookup-named (e ∷ es) name = ap₂ (λ b r. cond b (Some e.1) r) (is_eq-slice_cmp name e.0.items)
    (lookup-named es name)

same_bytes : (xs ys : List ℕ) → bytes_eq xs ys ≡ true → xs ≡ ys
same_bytes xs ys e = (bytes_eq-Decides xs ys).0 e

equal_tests : (k e : List ℕ) → bytes_eq k e ≡ true → is_eq (slice_cmp nat_cmp k e) ≡ true
equal_tests k e same = is_eq-slice_cmp k e ∙ same

-- a name that is two keys makes them equal
both : (other k e : List ℕ) → bytes_eq other k ≡ true → bytes_eq other e ≡ true
    → bytes_eq k e ≡ true
both other k e a b = (bytes_eq-Decides k e).1 (sym (same_bytes other k a) ∙ same_bytes other e b)

swapped : {X : Type 0} (a b : Bool) (x y z : X) → (a ≡ true → b ≡ true → ⊥)
    → cond b y (cond a x z) ≡ cond a x (cond b y z)
swapped true true x y z apart = absurd (apart refl refl)
swapped true false x y z apart = refl
swapped false true x y z apart = refl
swapped false false x y z apart = refl

-- the name is found at its new number, and every other name where it was
pub insert-named : (es : List (Key × ℕ)) (k : Key) (id : ℕ) (other : List ℕ)
    → lookup_name (named (insert_entry (λ a b. slice_cmp nat_cmp a.items b.items) es k id)) other
    ≡ cond (bytes_eq other k.items) (Some id) (lookup_name (named es) other)
insert-named [] k id other = refl
insert-named (e ∷ es) k id other =
    placed (slice_cmp nat_cmp k.items e.0.items) refl (insert-named es k id other)
  where
    step : Ordering → List (Key × ℕ)
    step o = match_ordering o ((k, id) ∷ e ∷ es) ((e.0, id) ∷ es)
        (e ∷ insert_entry (λ a b. slice_cmp nat_cmp a.items b.items) es k id)

    placed : (o : Ordering) → slice_cmp nat_cmp k.items e.0.items ≡ o
        → lookup_name (named (insert_entry (λ a b. slice_cmp nat_cmp a.items b.items) es k id))
        other ≡ cond (bytes_eq other k.items) (Some id) (lookup_name (named es) other)
        → lookup_name (named (step o)) other ≡ cond (bytes_eq other k.items) (Some id)
        (lookup_name (named (e ∷ es)) other)
    placed Less is rest = refl
    placed Equal is rest =
        let same : k.items ≡ e.0.items =
        slice_cmp-IsAntisymmetric nat_cmp-IsAntisymmetric k.items e.0.items is in
        equal_keys (bytes_eq other e.0.items) (bytes_eq other k.items)
        (ap (bytes_eq other) (sym same))
      where
        equal_keys : (a b : Bool) → a ≡ b → cond a (Some id) (lookup_name (named es) other)
            ≡ cond b (Some id) (cond a (Some e.1) (lookup_name (named es) other))
        equal_keys true true is = refl
        equal_keys true false is = cc
        equal_keys false true is = cc
        equal_keys false false is = refl
    placed Greater is rest =
        ap (λ r. cond (bytes_eq other e.0.items) (Some e.1) r) rest
        ∙ swapped (bytes_eq other k.items) (bytes_eq other e.0.items) (Some id) (Some e.1)
        (lookup_name (named es) other)
        (λ a b. absurd_order (sym (equal_tests k.items e.0.items (both other k.items e.0.items a b))
        ∙ ap is_eq is))
      where
        absurd_order : true ≡ false → ⊥
        absurd_order wrong = cc

abbrev pub key_cmp : Key → Key → Ordering
key_cmp a b = slice_cmp nat_cmp a.items b.items

below_named : (k : Key) (es : List (Key × ℕ))
    → AllByRecursion (λ other. key_cmp k other ≡ Less) (map (λ e. e.0) es)
    → AllByRecursion (λ other. slice_cmp nat_cmp k.items other ≡ Less) (map (λ e. e.0) (named es))
below_named k [] below = tt
below_named k (e ∷ es) below = (below.0, below_named k es below.1)

-- names in a map's order are in byte order
pub in_order-named : (es : List (Key × ℕ)) → IsStrictlySortedBy key_cmp (map (λ e. e.0) es)
    → IsInOrder (named es)
unfolding IsStrictlySortedBy
in_order-named [] ordered = tt
in_order-named (e ∷ es) ordered = (below_named e.0 es ordered.0, in_order-named es ordered.1)

found_among : (all es : List (Key × ℕ))
    → AllByRecursion (λ e. lookup (λ k. is_eq (key_cmp e.0 k)) all ≡ Some e.1) es
    → AllByRecursion (λ e. lookup_name (named all) e.0 ≡ Some e.1) (named es)
found_among all [] found = tt
found_among all (e ∷ es) found =
    (sym (lookup-named all e.0.items) ∙ found.0, found_among all es found.1)

-- each name of a map is found for its own number
pub found-named : (es : List (Key × ℕ))
    → All (λ e. lookup (λ k. is_eq (key_cmp e.0 k)) es ≡ Some e.1) es → AreFound (named es)
found-named es found =
    found_among es es (recursion_from_All
    (λ e. lookup (λ k. is_eq (key_cmp e.0 k)) es ≡ Some e.1) es found)

-- a map whose keys have the same bytes has the same names
pub named-copied : (IsCopy : Key × ℕ → Key × ℕ → Type 0)
    → ((e f : Key × ℕ) → IsCopy e f → (f.0.items ≡ e.0.items) × (f.1 ≡ e.1))
    → (es fs : List (Key × ℕ)) → AllZip IsCopy es fs → named fs ≡ named es
named-copied IsCopy same [] [] copies = refl
named-copied IsCopy same [] (f ∷ fs) copies = absurd copies
named-copied IsCopy same (e ∷ es) [] copies = absurd copies
named-copied IsCopy same (e ∷ es) (f ∷ fs) copies =
    let first = same e f copies.0 in
    ap₂ (λ (n : List ℕ × ℕ) ns. n ∷ ns)
    (ap₂ (λ (name : List ℕ) (id : ℕ). (name, id)) first.0 first.1)
    (named-copied IsCopy same es fs copies.1)
