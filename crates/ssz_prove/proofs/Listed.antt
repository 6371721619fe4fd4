-- Lists from a place on.
use Rattle.std.proofs.Common.{◌≡◌, ◌≢◌, ℕ, zero, suc, ◌+◌, ◌<◌, ◌≤◌, Bool, true, false, List, [], ◌∷◌, ◌++◌, length, take, drop, get_or, reverse, Some, refl, sym, ap, ◌∙◌, subst, arith}
use mathlib.Core.List.{reverse-cons}
use Rattle.std.specs.Prelude.{IsTrue, slice_get, ◌↔◌}
use Rattle.std.specs.List.{AllByRecursion}
use Rattle.std.proofs.lemmas.Bool.{true≢false}
use Rattle.std.proofs.lemmas.List.{take_more}
use Rattle.std.proofs.lemmas.List.Elements.{All-from_recursion}
use Rattle.ssz_chunk.specs.Index.{at}
use Rattle.ssz_gindex.specs.Walk.{first}
use Rattle.ssz_prove.specs.declared.finding.Spot.{Spot}
use Rattle.ssz_prove.specs.Found.{places}
use Rattle.ssz_prove.proofs.Taking.{all_pushed}

drop_at_suc : (spots : List Spot) (i : ℕ) (spot : Spot) → i < length spots
    → spot ≡ get_or spots i spot → drop i (places spots) ≡ spot.index ∷ drop (suc i) (places spots)
drop_at_suc [] i spot below is = absurd (omega arith)
drop_at_suc (x ∷ spots) zero spot below is =
    ap (λ (s : Spot). s.index ∷ places spots) (sym is)
drop_at_suc (x ∷ spots) (suc i) spot below is = drop_at_suc spots i spot (omega arith) is

pub drop_at : (spots : List Spot) (i : ℕ) (spot : Spot) → i < length spots
    → spot ≡ get_or spots i spot
    → drop i (places spots) ≡ spot.index ∷ drop (i + 1) (places spots)
drop_at spots i spot below is =
    drop_at_suc spots i spot below is
    ∙ ap (λ n. spot.index ∷ drop n (places spots)) (let e : suc i ≡ i + 1 = omega arith in e)

drop_next_suc : (xs : List ℕ) (i x : ℕ) → slice_get xs i ≡ Some x
    → drop i xs ≡ x ∷ drop (suc i) xs
drop_next_suc [] i x is = absurd (cc)
drop_next_suc (y ∷ xs) zero x is = ap (λ n. n ∷ xs) (let e : y ≡ x = cc in e)
drop_next_suc (y ∷ xs) (suc i) x is = drop_next_suc xs i x is

pub drop_next : (xs : List ℕ) (i x : ℕ) → slice_get xs i ≡ Some x → drop i xs ≡ x ∷ drop (i + 1) xs
drop_next xs i x is =
    drop_next_suc xs i x is
    ∙ ap (λ n. x ∷ drop n xs) (let e : suc i ≡ i + 1 = omega arith in e)

take_next_suc : (xs : List ℕ) (i x : ℕ) → slice_get xs i ≡ Some x
    → take (suc i) xs ≡ take i xs ++ x ∷ []
take_next_suc [] i x is = absurd (cc)
take_next_suc (y ∷ xs) zero x is = ap (λ n. n ∷ []) (let e : y ≡ x = cc in e)
take_next_suc (y ∷ xs) (suc i) x is = ap (λ ys. y ∷ ys) (take_next_suc xs i x is)

pub take_next : (xs : List ℕ) (i x : ℕ) → slice_get xs i ≡ Some x
    → take (i + 1) xs ≡ take i xs ++ x ∷ []
take_next xs i x is =
    ap (λ n. take n xs) (let e : i + 1 ≡ suc i = omega arith in e) ∙ take_next_suc xs i x is

pub not_next : (xs : List ℕ) (i x : ℕ) → 0 < x → (slice_get xs i ≡ Some x → ⊥)
    → first (drop i xs) ≢ x
not_next [] zero x some never e = omega arith
not_next [] (suc i) x some never e = omega arith
not_next (y ∷ xs) zero x some never e = never (ap Some e)
not_next (y ∷ xs) (suc i) x some never e = not_next xs i x some never e

-- whether the next of a list is met
pub next_from : (xs : List ℕ) (count met index : ℕ) (answer : Bool)
    → (IsTrue answer ↔ (slice_get xs count ≡ Some index)) → count ≡ met → answer ≡ true
    → slice_get xs met ≡ Some index
next_from xs count met index answer same at there =
    subst (λ n. slice_get xs n ≡ Some index) at (same.0 there)

pub other_from : (xs : List ℕ) (count met index : ℕ) (answer : Bool)
    → (IsTrue answer ↔ (slice_get xs count ≡ Some index)) → count ≡ met → answer ≡ false
    → slice_get xs met ≡ Some index → ⊥
other_from xs count met index answer same at other next =
    true≢false (sym (same.1 (subst (λ n. slice_get xs n ≡ Some index) (sym at) next)) ∙ other)

pub all_taken : (xs : List ℕ) (i : ℕ) → drop i xs ≡ [] → take i xs ≡ xs
all_taken [] zero none = refl
all_taken [] (suc i) none = refl
all_taken (x ∷ xs) zero none = absurd (cc)
all_taken (x ∷ xs) (suc i) none = ap (λ ys. x ∷ ys) (all_taken xs i none)

pub none_left : (xs : List ℕ) (i : ℕ) → length xs ≤ i → drop i xs ≡ []
none_left [] zero far = refl
none_left [] (suc i) far = refl
none_left (x ∷ xs) zero far = absurd (omega arith)
none_left (x ∷ xs) (suc i) far = none_left xs i (omega arith)

pub length_places : (spots : List Spot) → length (places spots) ≡ length spots
length_places [] = refl
length_places (spot ∷ spots) = ap suc (length_places spots)

pub places_more : (spots : List Spot) (spot : Spot)
    → places (spots ++ spot ∷ []) ≡ places spots ++ spot.index ∷ []
places_more [] spot = refl
places_more (x ∷ spots) spot = ap (λ ns. x.index ∷ ns) (places_more spots spot)

pub places_reverse : (spots : List Spot) → places (reverse spots) ≡ reverse (places spots)
places_reverse [] = refl
places_reverse (x ∷ spots) =
    ap places (reverse-cons x spots) ∙ places_more (reverse spots) x
    ∙ ap (λ ns. ns ++ x.index ∷ []) (places_reverse spots)
    ∙ sym (reverse-cons x.index (places spots))

pub length_more : (spots : List Spot) (spot : Spot)
    → length (spots ++ spot ∷ []) ≡ length spots + 1
length_more [] spot = refl
length_more (x ∷ spots) spot = omega (arith, length_more spots spot)

pub spot_at : (P : Spot → Type 0) (spots : List Spot) (i : ℕ) (spot : Spot)
    → AllByRecursion P spots → i < length spots → spot ≡ get_or spots i spot → P spot
spot_at P spots i spot all below is =
    subst P (sym is) (All-from_recursion P spots all i spot below)

-- one more of a list, of which all before it were looked at
pub all_next : (P : ℕ → Type 0) (xs : List ℕ) (i x : ℕ) → i < length xs → x ≡ get_or xs i x
    → P x → AllByRecursion P (take i xs) → AllByRecursion P (take (i + 1) xs)
all_next P xs i x small here one all =
    subst (AllByRecursion P) (sym (take_more xs i x small))
    (all_pushed P (take i xs) (get_or xs i x) all (subst P here one))
