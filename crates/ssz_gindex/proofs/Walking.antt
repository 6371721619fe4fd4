-- The walk up the paths to some indices: one pair of siblings after another, from the greatest.
use Rattle.std.proofs.Common.{◌≡◌, ◌≢◌, ℕ, zero, suc, ◌+◌, ◌*◌, ◌/◌, ◌%◌, ◌^◌, ◌<◌, ◌≤◌, Bool, true, false, not, ◌&&◌, eqb, leb, List, [], ◌∷◌, ◌++◌, length, get_or, refl, sym, ◌∙◌, subst, arith, ◌⊎◌, inl, inr}
use Rattle.std.specs.Prelude.{Contains}
use Rattle.std.specs.List.{AllByRecursion}
use Rattle.std.proofs.lemmas.Bool.{cases_lt, cases_eq, or_cases, or_left, or_right, and_parts, and_from, eqb-true, eq-eqb, leb-true, le-leb, not_from_false, false≢true}
use Rattle.ssz_gindex.specs.Helpers.{sibling, is_within, is_on_paths, is_helper, helpers, AreNested, AreFlat}
use Rattle.ssz_gindex.specs.Laws.{IsDescending, contains}
use Rattle.ssz_gindex.specs.Walk.{IsUpper, Met}
use Rattle.ssz_gindex.proofs.Within.{below_from, within_halves, within_parent, within_least, within_self, halves_once, above_from, on_paths_from, sibling-even, sibling-odd}
use Rattle.ssz_gindex.proofs.HelperLists.{only_helpers}

-- Lists and tests.

pub contains_from : (xs : List ℕ) (k g : ℕ) → k < length xs → get_or xs k g ≡ g
    → contains xs g ≡ true
contains_from [] k g below e = absurd (omega arith)
contains_from (x ∷ xs) zero g below e = or_left (eqb x g) (contains xs g) (eq-eqb x g e)
contains_from (x ∷ xs) (suc k) g below e =
    or_right (eqb x g) (contains xs g) (contains_from xs k g (omega arith) e)

pub contains_is : (xs : List ℕ) (g : ℕ) → contains xs g ≡ true → Contains xs g
contains_is [] g e = absurd (false≢true e)
contains_is (x ∷ xs) g e = elim (or_cases (eqb x g) (contains xs g) e) [
  | inl here ↦ (0, omega arith, eqb-true x g here)
  | inr later ↦ (let rest = contains_is xs g later in (suc rest.0, omega (arith, rest.1), rest.2))
]

pub contains-append : (xs : List ℕ) (s k : ℕ) → contains (xs ++ s ∷ []) k ≡ true
    → (contains xs k ≡ true) ⊎ (s ≡ k)
contains-append [] s k e = elim (or_cases (eqb s k) false e) [
  | inl here ↦ inr (eqb-true s k here)
  | inr none ↦ absurd (false≢true none)
]
contains-append (x ∷ xs) s k e = elim (or_cases (eqb x k) (contains (xs ++ s ∷ []) k) e) [
  | inl here ↦ inl (or_left (eqb x k) (contains xs k) here)
  | inr later ↦ (elim (contains-append xs s k later) [
    | inl front ↦ inl (or_right (eqb x k) (contains xs k) front)
    | inr last ↦ inr last
  ])
]

pub append-front : (xs : List ℕ) (s k : ℕ) → contains xs k ≡ true
    → contains (xs ++ s ∷ []) k ≡ true
append-front [] s k e = absurd (false≢true e)
append-front (x ∷ xs) s k e = elim (or_cases (eqb x k) (contains xs k) e) [
  | inl here ↦ or_left (eqb x k) (contains (xs ++ s ∷ []) k) here
  | inr later ↦ or_right (eqb x k) (contains (xs ++ s ∷ []) k) (append-front xs s k later)
]

pub append-last : (xs : List ℕ) (s : ℕ) → contains (xs ++ s ∷ []) s ≡ true
append-last [] s = or_left (eqb s s) false (eq-eqb s s refl)
append-last (x ∷ xs) s = or_right (eqb x s) (contains (xs ++ s ∷ []) s) (append-last xs s)

below-append : (x s : ℕ) (xs : List ℕ) → AllByRecursion (λ k. k < x) xs → s < x
    → AllByRecursion (λ k. k < x) (xs ++ s ∷ [])
below-append x s [] all less = (less, tt)
below-append x s (y ∷ xs) all less = (all.0, below-append x s xs all.1 less)

-- a descending list, and a number behind it that is below all of it
pub descending-append : (xs : List ℕ) (s : ℕ) → IsDescending xs
    → ((k : ℕ) → contains xs k ≡ true → s < k) → IsDescending (xs ++ s ∷ [])
descending-append [] s down less = (tt, tt)
descending-append (x ∷ xs) s down less = (
  below-append x s xs down.0 (less x (or_left (eqb x x) (contains xs x) (eq-eqb x x refl))),
  descending-append xs s down.1 (λ k e. less k (or_right (eqb x k) (contains xs k) e)),
)

pub same_tests : (a b : Bool) → (a ≡ true → b ≡ true) → (b ≡ true → a ≡ true) → a ≡ b
same_tests true b there back = sym (there refl)
same_tests false true there back = back refl
same_tests false false there back = refl

-- What a helper is.
pub record IsHelper (indices : List ℕ) (k : ℕ) : Type 0 where
  pub large : 2 ≤ k
  pub off : is_on_paths indices k ≡ false
  pub beside : is_on_paths indices (sibling k) ≡ true

is_false : (b : Bool) → not b ≡ true → b ≡ false
is_false true e = absurd (false≢true e)
is_false false e = refl

pub helper_is : (indices : List ℕ) (k : ℕ) → is_helper indices k ≡ true → IsHelper indices k
helper_is indices k e =
    let both = and_parts (leb 2 k && not (is_on_paths indices k))
    (is_on_paths indices (sibling k)) e in
    let front = and_parts (leb 2 k) (not (is_on_paths indices k)) both.0 in
    record {
      large = leb-true 2 k front.0;
      off = is_false (is_on_paths indices k) front.1;
      beside = both.1;
    }

pub helper_from : (indices : List ℕ) (k : ℕ) → IsHelper indices k → is_helper indices k ≡ true
helper_from indices k h =
    and_from (leb 2 k && not (is_on_paths indices k)) (is_on_paths indices (sibling k))
    (and_from (leb 2 k) (not (is_on_paths indices k)) (le-leb 2 k h.large)
    (not_from_false (is_on_paths indices k) h.off)) h.beside

-- A pair of siblings: k is one of 2 * h and 2 * h + 1.
pub sibling_near : (k : ℕ) → 2 ≤ k
    → (2 * (k / 2) ≤ sibling k) × (sibling k ≤ 2 * (k / 2) + 1) × (sibling k ≢ k)
sibling_near k large = elim (cases_eq (k % 2) 0) [
  | inl even ↦ (let is = sibling-even k even in (omega arith, omega arith, λ e. omega arith))
  | inr odd ↦ (let is = sibling-odd k (omega arith) in
      (omega arith, omega arith, λ e. omega arith))
]

-- What an index on the paths stands for: it is one of the indices, or has a child on the paths.
pub record HasChild (indices : List ℕ) (k : ℕ) : Type 0 where
  pub child : ℕ
  pub on : is_on_paths indices child ≡ true
  pub half : child / 2 ≡ k

child_of : (indices : List ℕ) (k i n : ℕ) → 0 < k → contains indices i ≡ true → i / 2 ^ suc n ≡ k
    → HasChild indices k
child_of indices k i n positive among high =
    let half : i / 2 ^ n / 2 ≡ k = halves_once i n ∙ high in
    record {
      child = i / 2 ^ n;
      on = on_paths_from indices (i / 2 ^ n) i among
          (within_halves (i / 2 ^ n) i n (omega arith) refl);
      half = half;
    }

pub index_or_child : (indices : List ℕ) (k : ℕ) → 0 < k → is_on_paths indices k ≡ true
    → (contains indices k ≡ true) ⊎ HasChild indices k
index_or_child indices k positive on =
    let above = above_from indices k on in
    let below = below_from k above.index above.within in
    go below.n above.index above.among below.high
  where
    go : (n i : ℕ) → contains indices i ≡ true → i / 2 ^ n ≡ k
        → (contains indices k ≡ true) ⊎ HasChild indices k
    go zero i among high =
        inl (subst (λ (j : ℕ). contains indices j ≡ true) (let e : i ≡ k = omega arith in e) among)
    go (suc n) i among high = inr (child_of indices k i n positive among high)

pub nested_child : (indices : List ℕ) (a b : ℕ) → 0 < a → AreNested indices a b
    → HasChild indices a
nested_child indices a b positive nested =
    let below = below_from a b nested.within in
    go below.n below.high
  where
    go : (n : ℕ) → b / 2 ^ n ≡ a → HasChild indices a
    go zero high = absurd (nested.apart (let e : a ≡ b = omega arith in e))
    go (suc n) high =
        child_of indices a b n positive
        (contains_from indices nested.lower.0 b nested.lower.1 nested.lower.2) high

-- What stands at both ends, and what does not.
module _ (indices waiting parents found : List ℕ) (bound : ℕ)
    (met : Met indices waiting parents found bound) where
  -- an index that is a parent, too, is an ancestor of another
  pub nested_at : (n : ℕ) → contains waiting n ≡ true → contains parents n ≡ true
      → (b : ℕ) × AreNested indices n b
  nested_at n own upper =
      let is = met.parent n upper in
      let above = above_from indices is.child is.on in
      let half : is.child / 2 ≡ n = is.half in
      let large : 2 ≤ is.child = is.large in
      let least = within_least is.child above.index above.within in (
        above.index,
        record {
          upper = contains_is indices n (met.index n own).1;
          lower = contains_is indices above.index above.among;
          within = subst (λ (k : ℕ). is_within k above.index ≡ true) half
              (within_parent is.child above.index large above.within);
          apart = λ e. omega (arith, half, large, least, e);
        },
      )

  -- any other index is none, where its children were met
  pub not_nested : (n : ℕ) → (contains waiting n ≡ true → contains parents n ≡ true → ⊥)
      → ((k : ℕ) → is_on_paths indices k ≡ true → 0 < k → k < bound → k < 2 * n)
      → (b : ℕ) → AreNested indices n b → ⊥
  not_nested n single far b nested =
      let among : contains indices n ≡ true =
      contains_from indices nested.upper.0 n nested.upper.1 nested.upper.2 in
      let positive : 0 < n = met.positive n among in
      let below : n < bound = met.flat n b nested in
      let lower = nested_child indices n b positive nested in
      let half : lower.child / 2 ≡ n = lower.half in
      single (met.index_waits n among below)
      (subst (λ (k : ℕ). contains parents k ≡ true) half
      (elim (cases_lt lower.child bound) [
        | inl low ↦ absurd (omega (
          arith,
          half,
          far lower.child lower.on (omega (arith, half, positive)) low,
        ))
        | inr high ↦ met.parent_waits lower.child lower.on high
            (omega (arith, half, positive)) (omega (arith, half, below))
      ]))

-- No node on the paths below the bound is greater than all that wait.
module _ (indices waiting parents found : List ℕ) (bound : ℕ)
    (met : Met indices waiting parents found bound)
    (g : ℕ) (most : (k : ℕ) → contains waiting k ≡ true → k ≤ g)
    (parents_most : (k : ℕ) → contains parents k ≡ true → k ≤ g) where
  climb : (n k i : ℕ) → contains indices i ≡ true → i / 2 ^ n ≡ k → 0 < k → k < bound → k ≤ g
  climb zero k i among high positive below =
      most k (met.index_waits k
      (subst (λ (j : ℕ). contains indices j ≡ true) (let e : i ≡ k = omega arith in e) among)
      below)
  climb (suc n) k i among high positive below =
      let half : i / 2 ^ n / 2 ≡ k = halves_once i n ∙ high in
      elim (cases_lt (i / 2 ^ n) bound) [
        | inl low ↦ omega (arith, climb n (i / 2 ^ n) i among refl (omega arith) low)
        | inr far ↦ parents_most k (subst (λ (j : ℕ). contains parents j ≡ true) half
            (met.parent_waits (i / 2 ^ n)
            (on_paths_from indices (i / 2 ^ n) i among
            (within_halves (i / 2 ^ n) i n (omega arith) refl))
            far (omega arith) (omega arith)))
      ]

  pub on_below : (k : ℕ) → is_on_paths indices k ≡ true → 0 < k → k < bound → k ≤ g
  on_below k on positive below =
      let above = above_from indices k on in
      let way = below_from k above.index above.within in
      climb way.n k above.index above.among way.high positive below

  pub upper_positive : (a b : ℕ) → AreNested indices a b → 0 < a
  upper_positive a b nested =
      met.positive a (contains_from indices nested.upper.0 a nested.upper.1 nested.upper.2)

  pub upper_most : (a b : ℕ) → AreNested indices a b → a ≤ g
  upper_most a b nested =
      on_below a
      (on_paths_from indices a a
      (contains_from indices nested.upper.0 a nested.upper.1 nested.upper.2) (within_self a))
      (upper_positive a b nested) (met.flat a b nested)

  -- The greatest node is an index that is an ancestor of another.
  pub meets-upper : contains waiting g ≡ true → contains parents g ≡ true → IsUpper indices g
  meets-upper own upper = record {
    nested = nested_at indices waiting parents found bound met g own upper;
    greatest = upper_most;
  }

  module _ (single : contains waiting g ≡ true → contains parents g ≡ true → ⊥) where
    upper_other : (a b : ℕ) → AreNested indices a b → a ≢ g
    upper_other a b nested same =
        not_nested indices waiting parents found bound met a
        (λ own upper. single (subst (λ (k : ℕ). contains waiting k ≡ true) same own)
        (subst (λ (k : ℕ). contains parents k ≡ true) same upper))
        (λ k on positive below. omega (
          arith,
          on_below k on positive below,
          same,
          upper_positive a b nested,
        ))
        b nested

    -- The sibling is such an index.
    pub sibling-upper : 2 ≤ g → contains waiting (sibling g) ≡ true
        → contains parents (sibling g) ≡ true → IsUpper indices (sibling g)
    sibling-upper large own upper =
        let near = sibling_near g large in record {
          nested = nested_at indices waiting parents found bound met (sibling g) own upper;
          greatest = λ a b nested. omega (
            arith,
            near.0,
            near.1,
            near.2,
            most (sibling g) own,
            upper_most a b nested,
            upper_other a b nested,
          );
        }

    -- Otherwise there is none from the pair on.
    pub upper_lower : 2 ≤ g
        → (contains waiting (sibling g) ≡ true → contains parents (sibling g) ≡ true → ⊥)
        → (a b : ℕ) → AreNested indices a b → a < 2 * (g / 2)
    upper_lower large single_sibling a b nested =
        let near = sibling_near g large in
        let other = upper_other a b nested in
        let small = upper_most a b nested in
        let apart : a ≢ sibling g = (λ same.
        not_nested indices waiting parents found bound met a
        (λ own upper. single_sibling (subst (λ (k : ℕ). contains waiting k ≡ true) same own)
        (subst (λ (k : ℕ). contains parents k ≡ true) same upper))
        (λ k on positive below. omega (
          arith,
          on_below k on positive below,
          same,
          near.0,
          large,
        ))
        b nested) in
        omega (arith, near.0, near.1, near.2, other, small, apart)

    -- The walk ends where no more than the root waits.
    module _ (last : g ≤ 1) where
      helper_met : (k : ℕ) → is_helper indices k ≡ true → bound ≤ k
      helper_met k e =
          let helper = helper_is indices k e in
          let near = sibling_near k helper.large in
          let large : 2 ≤ k = helper.large in
          let even : bound % 2 ≡ 0 = met.even in
          elim (cases_lt k bound) [
            | inl low ↦ absurd (let less = on_below (sibling k) helper.beside
                (omega (arith, near.0)) (omega (arith, near.1)) in omega (arith, near.0))
            | inr far ↦ far
          ]

      pub ends-helpers : found ≡ helpers indices
      ends-helpers =
          only_helpers indices found met.down
          (λ k. same_tests (contains found k) (is_helper indices k)
          (λ e. (met.helper k e).1) (λ e. met.all k e (helper_met k e)))

      pub ends-flat : AreFlat indices
      ends-flat a b nested =
          omega (
            arith,
            upper_most a b nested,
            upper_positive a b nested,
            upper_other a b nested,
            last,
          )
