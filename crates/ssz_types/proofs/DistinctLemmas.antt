-- Names of which none stands twice: they are as many as the places of their order.
use Rattle.std.proofs.Common.{ℕ, ◌≡◌, ◌≤◌, ◌+◌, Bool, true, false, cond, List, [], ◌∷◌, length, Some, None, Ordering, Less, Equal, Greater, bytes_eq, is_eq, nat_cmp, refl, sym, ap, ap₂, ◌∙◌, arith}
use Rattle.std.specs.Prelude.{◌||◌}
use Rattle.std.specs.List.{AllByRecursion, list_any}
use Rattle.std.specs.List.Sorted.{IsStrictlySortedBy}
use Rattle.std.specs.BTreeMap.{insert_entry}
use Rattle.std.specs.Map.{keys_of}
use Rattle.std.specs.Ordering.{match_ordering, ordering_reverse}
use Rattle.std.specs.Cmp.Lexicographic.{slice_cmp, nat_list_cmp_total}
use Rattle.std.specs.FinMap.{slice_cmp-IsAntisymmetric, nat_cmp-IsAntisymmetric}
use Rattle.std.proofs.lemmas.List.{length-map}
use Rattle.std.proofs.lemmas.Map.Text.{is_eq-slice_cmp}
use Rattle.ssz_types.specs.Order.{order_from, name_order}
use Rattle.ssz_types.specs.Repeats.{first_repeat}

abbrev Named : Type 0
Named = List (List ℕ × ℕ)

abbrev name_cmp : List ℕ → List ℕ → Ordering
name_cmp = slice_cmp nat_cmp

-- each of the names stands behind this one
abbrev AreAbove : List ℕ → List (List ℕ) → Type 0
AreAbove x names = AllByRecursion (λ y. name_cmp x y ≡ Less) names

above_above : (k e : List ℕ) (names : List (List ℕ)) → name_cmp k e ≡ Less → AreAbove e names
    → AreAbove k names
above_above k e [] less above = tt
above_above k e (y ∷ names) less above =
    (nat_list_cmp_total.trans k e y less above.0, above_above k e names less above.1)

above_at : (o : Ordering) (x k : List ℕ) (n : ℕ) (e : List ℕ × ℕ) (es later : Named)
    → name_cmp x k ≡ Less → AreAbove x (keys_of (e ∷ es)) → AreAbove x (keys_of later)
    → AreAbove x (keys_of (match_ordering o ((k, n) ∷ e ∷ es) ((e.0, n) ∷ es) (e ∷ later)))
above_at Less x k n e es later less above rest = (less, above)
above_at Equal x k n e es later less above rest = above
above_at Greater x k n e es later less above rest = (above.0, rest)

above_insert : (x : List ℕ) (es : Named) (k : List ℕ) (n : ℕ) → name_cmp x k ≡ Less
    → AreAbove x (keys_of es) → AreAbove x (keys_of (insert_entry name_cmp es k n))
above_insert x [] k n less above = (less, tt)
above_insert x (e ∷ es) k n less above =
    above_at (name_cmp k e.0) x k n e es (insert_entry name_cmp es k n) less above
    (above_insert x es k n less above.1)

sorted_at : (o : Ordering) (k : List ℕ) (n : ℕ) (e : List ℕ × ℕ) (es : Named)
    → name_cmp k e.0 ≡ o → IsStrictlySortedBy name_cmp (keys_of (e ∷ es))
    → IsStrictlySortedBy name_cmp (keys_of (insert_entry name_cmp es k n))
    → IsStrictlySortedBy name_cmp (keys_of
    (match_ordering o ((k, n) ∷ e ∷ es) ((e.0, n) ∷ es) (e ∷ insert_entry name_cmp es k n)))
unfolding IsStrictlySortedBy
sorted_at Less k n e es is sorted rest =
    ((is, above_above k e.0 (keys_of es) is sorted.0), sorted)
sorted_at Equal k n e es is sorted rest = sorted
sorted_at Greater k n e es is sorted rest = (
  above_insert e.0 es k n (nat_list_cmp_total.antisymm e.0 k ∙ ap ordering_reverse is) sorted.0,
  rest,
)

sorted_insert : (es : Named) (k : List ℕ) (n : ℕ) → IsStrictlySortedBy name_cmp (keys_of es)
    → IsStrictlySortedBy name_cmp (keys_of (insert_entry name_cmp es k n))
unfolding IsStrictlySortedBy
sorted_insert [] k n sorted = (tt, tt)
sorted_insert (e ∷ es) k n sorted =
    sorted_at (name_cmp k e.0) k n e es refl sorted (sorted_insert es k n sorted.1)

-- the names of an order ascend
sorted_order : (n : ℕ) (names : List (List ℕ))
    → IsStrictlySortedBy name_cmp (keys_of (order_from n names))
unfolding order_from IsStrictlySortedBy
sorted_order n [] = tt
sorted_order n (name ∷ names) =
    sorted_insert (order_from (n + 1) names) name n (sorted_order (n + 1) names)

-- How many names an order has.

longer_at : (o : Ordering) (k : List ℕ) (n : ℕ) (e : List ℕ × ℕ) (es later : Named)
    → length later ≤ length es + 1
    → length (match_ordering o ((k, n) ∷ e ∷ es) ((e.0, n) ∷ es) (e ∷ later)) ≤ length es + 2
longer_at Less k n e es later h = omega arith
longer_at Equal k n e es later h = omega arith
longer_at Greater k n e es later h = omega (arith, h)

longer_insert : (es : Named) (k : List ℕ) (n : ℕ)
    → length (insert_entry name_cmp es k n) ≤ length es + 1
longer_insert [] k n = omega arith
longer_insert (e ∷ es) k n =
    omega (
      arith,
      longer_at (name_cmp k e.0) k n e es (insert_entry name_cmp es k n) (longer_insert es k n),
    )

most_names : (n : ℕ) (names : List (List ℕ)) → length (order_from n names) ≤ length names
unfolding order_from
most_names n [] = omega arith
most_names n (name ∷ names) =
    omega (
      arith,
      longer_insert (order_from (n + 1) names) name n,
      most_names (n + 1) names,
    )

-- Which names an order has.

any_at : (o : Ordering) (p : List ℕ → Bool) (k : List ℕ) (n : ℕ) (e : List ℕ × ℕ)
    (es later : Named) → (o ≡ Equal → k ≡ e.0)
    → list_any p (keys_of later) ≡ (p k || list_any p (keys_of es))
    → list_any p (keys_of (match_ordering o ((k, n) ∷ e ∷ es) ((e.0, n) ∷ es) (e ∷ later)))
    ≡ (p k || (p e.0 || list_any p (keys_of es)))
any_at Less p k n e es later same h = refl
any_at Equal p k n e es later same h =
    once (p e.0) (p k) (list_any p (keys_of es)) (ap p (same refl))
  where
    once : (a b c : Bool) → b ≡ a → (a || c) ≡ (b || (a || c))
    once true true c is = refl
    once true false c is = cc
    once false true c is = cc
    once false false c is = refl
any_at Greater p k n e es later same h =
    ap (λ b. p e.0 || b) h ∙ swapped (p e.0) (p k) (list_any p (keys_of es))
  where
    swapped : (a b c : Bool) → (a || (b || c)) ≡ (b || (a || c))
    swapped true true c = refl
    swapped true false c = refl
    swapped false true c = refl
    swapped false false c = refl

any_insert : (p : List ℕ → Bool) (es : Named) (k : List ℕ) (n : ℕ)
    → list_any p (keys_of (insert_entry name_cmp es k n)) ≡ (p k || list_any p (keys_of es))
any_insert p [] k n = refl
any_insert p (e ∷ es) k n =
    any_at (name_cmp k e.0) p k n e es (insert_entry name_cmp es k n)
    (slice_cmp-IsAntisymmetric nat_cmp-IsAntisymmetric k e.0) (any_insert p es k n)

any_order : (p : List ℕ → Bool) (n : ℕ) (names : List (List ℕ))
    → list_any p (keys_of (order_from n names)) ≡ list_any p names
unfolding order_from
any_order p n [] = refl
any_order p n (name ∷ names) =
    any_insert p (order_from (n + 1) names) name n
    ∙ ap (λ b. p name || b) (any_order p (n + 1) names)

none_above : (k : List ℕ) (names : List (List ℕ)) → AreAbove k names
    → list_any (bytes_eq k) names ≡ false
none_above k [] above = refl
none_above k (y ∷ names) above =
    ap₂ ◌||◌ (sym (is_eq-slice_cmp k y) ∙ ap is_eq above.0) (none_above k names above.1)

new_at : (o : Ordering) (k : List ℕ) (n : ℕ) (e : List ℕ × ℕ) (es later : Named)
    → name_cmp k e.0 ≡ o → AreAbove e.0 (keys_of es)
    → (length later ≡ length es + 1 → list_any (bytes_eq k) (keys_of es) ≡ false)
    → length (match_ordering o ((k, n) ∷ e ∷ es) ((e.0, n) ∷ es) (e ∷ later)) ≡ length es + 2
    → list_any (bytes_eq k) (keys_of (e ∷ es)) ≡ false
new_at Less k n e es later is above h more =
    none_above k (keys_of (e ∷ es)) (is, above_above k e.0 (keys_of es) is above)
new_at Equal k n e es later is above h more = absurd (omega (arith, more))
new_at Greater k n e es later is above h more =
    ap₂ ◌||◌ (sym (is_eq-slice_cmp k e.0) ∙ ap is_eq is) (h (omega (arith, more)))

-- a name that makes the order longer is new
new_name : (es : Named) (k : List ℕ) (n : ℕ) → IsStrictlySortedBy name_cmp (keys_of es)
    → length (insert_entry name_cmp es k n) ≡ length es + 1
    → list_any (bytes_eq k) (keys_of es) ≡ false
unfolding IsStrictlySortedBy
new_name [] k n sorted more = refl
new_name (e ∷ es) k n sorted more =
    new_at (name_cmp k e.0) k n e es (insert_entry name_cmp es k n) refl sorted.0
    (new_name es k n sorted.1) (omega (arith, more))

-- The first name that stands twice.

-- none of the names was seen
abbrev AreUnseen : List (List ℕ) → List (List ℕ) → Type 0
AreUnseen seen names =
    AllByRecursion (λ name. list_any (λ other. bytes_eq other name) seen ≡ false) names

unseen_first : (names : List (List ℕ)) → AreUnseen [] names
unseen_first [] = tt
unseen_first (name ∷ names) = (refl, unseen_first names)

unseen_more : (name : List ℕ) (seen names : List (List ℕ))
    → list_any (bytes_eq name) names ≡ false → AreUnseen seen names
    → AreUnseen (name ∷ seen) names
unseen_more name seen [] none unseen = tt
unseen_more name seen (y ∷ names) none unseen =
    let both = parts (bytes_eq name y) (list_any (bytes_eq name) names) none in
    (ap₂ ◌||◌ both.0 unseen.0, unseen_more name seen names both.1 unseen.1)
  where
    parts : (a b : Bool) → (a || b) ≡ false → (a ≡ false) × (b ≡ false)
    parts true b e = cc
    parts false b e = (refl, e)

none_repeats : (names : List (List ℕ)) (n i : ℕ) (seen : List (List ℕ))
    → length (order_from n names) ≡ length names → AreUnseen seen names
    → first_repeat seen i names ≡ None
unfolding order_from
none_repeats [] n i seen full unseen = refl
none_repeats (name ∷ names) n i seen full unseen =
    let es = order_from (n + 1) names in
    let longer = longer_insert (order_from (n + 1) names) name n in
    let most = most_names (n + 1) names in
    let rest : length (order_from (n + 1) names) ≡ length names =
    omega (arith, full, longer, most) in
    let fresh = new_name (order_from (n + 1) names) name n (sorted_order (n + 1) names)
    (omega (arith, full, rest)) in
    let other = sym (any_order (bytes_eq name) (n + 1) names) ∙ fresh in
    ap (λ b. cond b (Some i) (first_repeat (name ∷ seen) (i + 1) names)) unseen.0
    ∙ none_repeats names (n + 1) (i + 1) (name ∷ seen) rest
    (unseen_more name seen names other unseen.1)

-- an order that is as long as the names has each of them once
pub all_distinct : (names : List (List ℕ)) → length (name_order names) ≡ length names
    → first_repeat [] 0 names ≡ None
all_distinct names full =
    none_repeats names 0 0 []
    (omega (arith, full, length-map (order_from 0 names) (λ (e : List ℕ × ℕ). e.1)))
    (unseen_first names)
