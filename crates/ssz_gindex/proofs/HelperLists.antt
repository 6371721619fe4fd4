-- The helper indices as a list.
use Rattle.std.proofs.Common.{◌≡◌, ◌≢◌, ℕ, zero, suc, ◌+◌, ◌-◌, ◌%◌, ◌<◌, ◌≤◌, Bool, true, false, cond, not, ◌&&◌, ◌||◌, eqb, leb, List, [], ◌∷◌, filter, refl, sym, ap, ap₂, ◌∙◌, subst, arith, inl, inr}
use Rattle.std.specs.List.{AllByRecursion}
use Rattle.std.proofs.lemmas.Bool.{cases_Bool, or_cases, and_parts, eqb-true, eq-eqb, ne_eqb, false≢true, or_left, or_from, cases_eq, cond-true, cond-false}
use Rattle.ssz_gindex.specs.Helpers.{sibling, is_on_paths, is_helper, descending, greatest, helpers}
use Rattle.ssz_gindex.specs.Laws.{IsDescending, contains, IsListOfHelpers, LawOfHelpers}
use Rattle.ssz_gindex.proofs.Within.{on_paths-small}

-- a list whose numbers are all below x does not contain it
pub lacks : (x : ℕ) (ks : List ℕ) → AllByRecursion (λ k. k < x) ks → contains ks x ≡ false
lacks x [] h = refl
lacks x (k ∷ ks) h =
    or_from (eqb k x) (contains ks x) (ne_eqb k x (λ e. omega (arith, h.0))) (lacks x ks h.1)

pub below_first : (ks : List ℕ) (x g : ℕ) → AllByRecursion (λ k. k < x) ks
    → contains ks g ≡ true → g < x
below_first [] x g h e = absurd (false≢true e)
below_first (k ∷ ks) x g h e = elim (or_cases (eqb k g) (contains ks g) e) [
  | inl here ↦ omega (arith, eqb-true k g here, h.0)
  | inr later ↦ below_first ks x g h.1 later
]

pub at_most_first : (y : ℕ) (ys : List ℕ) (g : ℕ) → IsDescending (y ∷ ys)
    → contains (y ∷ ys) g ≡ true → g ≤ y
at_most_first y ys g h e = elim (or_cases (eqb y g) (contains ys g) e) [
  | inl here ↦ omega (arith, eqb-true y g here)
  | inr later ↦ omega (arith, below_first ys y g h.0 later)
]

pub has_first : (x : ℕ) (xs : List ℕ) → contains (x ∷ xs) x ≡ true
has_first x xs = or_left (eqb x x) (contains xs x) (eq-eqb x x refl)

-- two descending lists with the same numbers
same_descending : (xs ys : List ℕ) → IsDescending xs → IsDescending ys
    → ((g : ℕ) → contains xs g ≡ contains ys g) → xs ≡ ys
same_descending [] [] h k e = refl
same_descending [] (y ∷ ys) h k e = absurd (false≢true (e y ∙ has_first y ys))
same_descending (x ∷ xs) [] h k e = absurd (false≢true (sym (e x) ∙ has_first x xs))
same_descending (x ∷ xs) (y ∷ ys) h k e =
    let above = at_most_first y ys x k (sym (e x) ∙ has_first x xs) in
    let below = at_most_first x xs y h (e y ∙ has_first y ys) in
    let first : x ≡ y = omega (arith, above, below) in
    ap₂ (λ z zs. z ∷ zs) first (same_descending xs ys h.1 k.1 (λ g. elim (cases_eq x g) [
      | inl here ↦ ap (contains xs) (sym here) ∙ lacks x xs h.0
          ∙ sym (lacks y ys k.0) ∙ ap (contains ys) (sym first ∙ here)
      | inr other ↦ ap (λ b. b || contains xs g) (sym (ne_eqb x g other)) ∙ e g
          ∙ ap (λ b. b || contains ys g) (ne_eqb y g (λ f. other (first ∙ f)))
    ]))

keep_all : (P : ℕ → Type 0) (b : Bool) (n : ℕ) (rest : List ℕ) → P n
    → AllByRecursion P rest → AllByRecursion P (cond b (n ∷ rest) rest)
keep_all P true n rest h all = (h, all)
keep_all P false n rest h all = all

keep_descending : (b : Bool) (n : ℕ) (rest : List ℕ) → AllByRecursion (λ k. k < n) rest
    → IsDescending rest → IsDescending (cond b (n ∷ rest) rest)
keep_descending true n rest below h = (below, h)
keep_descending false n rest below h = h

filter-below : (p : ℕ → Bool) (m top : ℕ) → m ≤ top
    → AllByRecursion (λ k. k < top) (filter p (descending m))
unfolding descending
filter-below p zero top h = tt
filter-below p (suc m) top h =
    keep_all (λ k. k < top) (p m) m (filter p (descending m)) h
    (filter-below p m top (omega arith))

IsDescending-filter : (p : ℕ → Bool) (n : ℕ) → IsDescending (filter p (descending n))
unfolding descending
IsDescending-filter p zero = tt
IsDescending-filter p (suc n) =
    keep_descending (p n) n (filter p (descending n))
    (filter-below p n n (omega arith)) (IsDescending-filter p n)

contains-other : (b : Bool) (n g : ℕ) (rest : List ℕ) → n ≢ g
    → contains (cond b (n ∷ rest) rest) g ≡ contains rest g
contains-other true n g rest other = ap (λ c. c || contains rest g) (ne_eqb n g other)
contains-other false n g rest other = refl

contains-here : (b : Bool) (n : ℕ) (rest : List ℕ) → AllByRecursion (λ k. k < n) rest
    → contains (cond b (n ∷ rest) rest) n ≡ b
contains-here true n rest below = has_first n rest
contains-here false n rest below = lacks n rest below

contains-filter : (p : ℕ → Bool) (n g : ℕ) → (p g ≡ true → g < n)
    → contains (filter p (descending n)) g ≡ p g
unfolding descending
contains-filter p zero g h = elim (cases_Bool (p g)) [
  | inl yes_p ↦ absurd (let low = h yes_p in omega arith)
  | inr no_p ↦ sym no_p
]
contains-filter p (suc n) g h =
    let rest : List ℕ = filter p (descending n) in
    elim (cases_eq n g) [
      | inl here ↦
          subst (λ (k : ℕ). contains
          (cond (p n) (n ∷ filter p (descending n)) (filter p (descending n))) k ≡ p k)
          here (contains-here (p n) n (filter p (descending n)) (filter-below p n n (omega arith)))
      | inr other ↦
          contains-other (p n) n g (filter p (descending n)) other
          ∙ contains-filter p n g (λ e. let low = h e in omega arith)
    ]

near_sibling : (g : ℕ) → g ≤ sibling g + 1
near_sibling g = elim (cases_Bool (eqb (g % 2) 0)) [
  | inl even ↦ omega (arith, cond-true (eqb (g % 2) 0) (g + 1) (g - 1) even)
  | inr odd ↦ omega (arith, cond-false (eqb (g % 2) 0) (g + 1) (g - 1) odd)
]

helper-small : (indices : List ℕ) (g : ℕ) → is_helper indices g ≡ true → g < greatest indices + 2
helper-small indices g e =
    let both = and_parts (leb 2 g && not (is_on_paths indices g))
    (is_on_paths indices (sibling g)) e in
    omega (arith, on_paths-small indices (sibling g) both.1, near_sibling g)

pub contains-helpers : (indices : List ℕ) (g : ℕ)
    → contains (helpers indices) g ≡ is_helper indices g
contains-helpers indices g =
    contains-filter (is_helper indices) (greatest indices + 2) g (λ e. helper-small indices g e)

pub IsDescending-helpers : (indices : List ℕ) → IsDescending (helpers indices)
IsDescending-helpers indices = IsDescending-filter (is_helper indices) (greatest indices + 2)

-- no other descending list has exactly the helpers
pub only_helpers : (indices list : List ℕ) → IsDescending list
    → ((g : ℕ) → contains list g ≡ is_helper indices g) → list ≡ helpers indices
only_helpers indices list down members =
    same_descending list (helpers indices) down (IsDescending-helpers indices)
    (λ g. members g ∙ sym (contains-helpers indices g))

pub law_of_helpers : LawOfHelpers
law_of_helpers indices list = (
  (λ is. only_helpers indices list is.descends is.exact),
  (λ same. subst (IsListOfHelpers indices) (sym same) (record {
    descends = IsDescending-helpers indices;
    exact = contains-helpers indices;
  })),
)
