-- Entries in the order of their keys, around one of them.
use Rattle.std.proofs.Common.{◌≡◌, Bool, true, false, cond, not, ◌&&◌, T, List, [], ◌∷◌, ◌++◌, Some, ◌<◌, length, arith, length-append, refl, sym, ap, subst, ◌∙◌}
use Rattle.std.specs.FinMap.Entries.{find, put, by_order, below_all, is_sorted}
use Rattle.std.specs.List.{AllByRecursion}
use Rattle.std.specs.Ordering.{eq_by_cmp, is_eq, is_lt, ordering_reverse}
use Rattle.std.specs.declared.cmp.Ordering.{Ordering}
use Rattle.std.specs.declared.cmp.Ordering.TheVariants.{Less, Equal, Greater}
use Rattle.ssz_versions.specs.Content.{Held}
use Rattle.ssz_versions.specs.Keys.{Key, key_cmp, key_cmp-total}
use Rattle.ssz_versions.specs.declared.tree.Cell.{Cell}
use Rattle.ssz_versions.specs.declared.tree.Cell.TheVariants.{Full}
use Rattle.ssz_versions.specs.declared.tree.Fork.{Fork}
use Rattle.ssz_versions.specs.declared.tree.Top.{Top}
use Rattle.ssz_versions.specs.Trees.{entries_of, in_cell, in_fork, without}

-- entries from left to right
abbrev pub Row : Type 0
Row = List (Key × Held)

-- whether the entries stand in the order of their keys
abbrev pub IsOrdered : Row → Type 0
IsOrdered row = T (is_sorted key_cmp row)

-- the entries of a tree with full memory on top are those of the fork in it
pub full_fork : (row : Row) (top : Top) (cell : Cell) (fork : Fork) → entries_of top ≡ row
    → entries_of top ≡ in_cell cell → cell ≡ Full fork → row ≡ in_fork fork
full_fork row top cell fork seen held full = sym seen ∙ held ∙ ap in_cell full

-- the key comes after each of the entries
abbrev pub IsPast : Key → Row → Type 0
IsPast key = AllByRecursion (λ e. key_cmp key e.0 ≡ Greater)

-- the key comes before each of the entries
abbrev pub IsBefore : Key → Row → Type 0
IsBefore key = AllByRecursion (λ e. key_cmp key e.0 ≡ Less)

pub first_of : (a b : Bool) → T (a && b) → T a
first_of true b h = tt
first_of false b h = absurd h

pub rest_of : (a b : Bool) → T (a && b) → T b
rest_of true b h = h
rest_of false b h = absurd h

pub both : (a b : Bool) → T a → T b → T (a && b)
both true b p q = q
both false b p q = absurd p

pub less_of : (o : Ordering) → T (is_lt o) → o ≡ Less
less_of Less h = refl
less_of Equal h = absurd h
less_of Greater h = absurd h

-- a key that is passed is searched for behind the entries
find-past : (q : Key) (l m : Row) → IsPast q l → find key_cmp q (l ++ m) ≡ find key_cmp q m
find-past q [] m h = refl
find-past q (e ∷ l) m h =
    ap (λ o. cond (is_eq o) (Some e.1) (find key_cmp q (l ++ m))) h.0 ∙ find-past q l m h.1

find-before : (q : Key) (l m : Row) → IsBefore q m → find key_cmp q (l ++ m) ≡ find key_cmp q l
find-before q [] [] h = refl
find-before q [] (e ∷ m) h =
    ap (λ o. cond (is_eq o) (Some e.1) (find key_cmp q m)) h.0 ∙ find-before q [] m h.1
find-before q (e ∷ l) m h =
    ap (cond (eq_by_cmp key_cmp q e.0) (Some e.1)) (find-before q l m h)

put-past : (q : Key) (v : Held) (l m : Row) → IsPast q l
    → put key_cmp q v (l ++ m) ≡ l ++ put key_cmp q v m
put-past q v [] m h = refl
put-past q v (e ∷ l) m h =
    ap (λ o. by_order o ((q, v) ∷ e ∷ (l ++ m)) ((e.0, v) ∷ (l ++ m))
    (e ∷ put key_cmp q v (l ++ m))) h.0
    ∙ ap (λ row. e ∷ row) (put-past q v l m h.1)

put-before : (q : Key) (v : Held) (l : Row) (e : Key × Held) (r : Row) → key_cmp q e.0 ≡ Less
    → put key_cmp q v (l ++ e ∷ r) ≡ put key_cmp q v l ++ e ∷ r
put-before q v [] e r h =
    ap (λ o. by_order o ((q, v) ∷ e ∷ r) ((e.0, v) ∷ r) (e ∷ put key_cmp q v r)) h
put-before q v (x ∷ l) e r h =
    elim (key_cmp q x.0) as (λ o.
    by_order o ((q, v) ∷ x ∷ (l ++ e ∷ r)) ((x.0, v) ∷ (l ++ e ∷ r))
    (x ∷ put key_cmp q v (l ++ e ∷ r))
    ≡ by_order o ((q, v) ∷ x ∷ l) ((x.0, v) ∷ l) (x ∷ put key_cmp q v l) ++ e ∷ r) [
      | Less ↦ refl
      | Equal ↦ refl
      | Greater ↦ ap (λ row. x ∷ row) (put-before q v l e r h)
    ]

without-append : (q : Key) (l m : Row) → without q (l ++ m) ≡ without q l ++ without q m
without-append q [] m = refl
without-append q (e ∷ l) m =
    ap (λ row. cond (not (eq_by_cmp key_cmp q e.0)) (e ∷ row) row) (without-append q l m)
    ∙ elim (eq_by_cmp key_cmp q e.0) as (λ b.
    cond (not b) (e ∷ (without q l ++ without q m)) (without q l ++ without q m)
    ≡ cond (not b) (e ∷ without q l) (without q l) ++ without q m) [ true ↦ refl | false ↦ refl ]

without-past : (q : Key) (l : Row) → IsPast q l → without q l ≡ l
without-past q [] h = refl
without-past q (e ∷ l) h =
    ap (λ o. cond (not (is_eq o)) (e ∷ without q l) (without q l)) h.0
    ∙ ap (λ row. e ∷ row) (without-past q l h.1)

without-before : (q : Key) (l : Row) → IsBefore q l → without q l ≡ l
without-before q [] h = refl
without-before q (e ∷ l) h =
    ap (λ o. cond (not (is_eq o)) (e ∷ without q l) (without q l)) h.0
    ∙ ap (λ row. e ∷ row) (without-before q l h.1)

below_front : (k : Key) (l m : Row) → T (below_all key_cmp k (l ++ m)) → T (below_all key_cmp k l)
below_front k [] m h = tt
below_front k (x ∷ l) m h = both _ _ (first_of _ _ h) (below_front k l m (rest_of _ _ h))

ordered_front : (l m : Row) → IsOrdered (l ++ m) → IsOrdered l
ordered_front [] m h = tt
ordered_front (x ∷ l) m h =
    both _ _ (below_front x.0 l m (first_of _ _ h)) (ordered_front l m (rest_of _ _ h))

ordered_back : (l m : Row) → IsOrdered (l ++ m) → IsOrdered m
ordered_back [] m h = h
ordered_back (x ∷ l) m h = ordered_back l m (rest_of _ _ h)

below_middle : (k : Key) (l : Row) (e : Key × Held) (r : Row)
    → T (below_all key_cmp k (l ++ e ∷ r)) → key_cmp k e.0 ≡ Less
below_middle k [] e r h = less_of _ (first_of _ _ h)
below_middle k (x ∷ l) e r h = below_middle k l e r (rest_of _ _ h)

-- what holds of all keys before that of an entry holds of those to its left
pub left_of : (P : Key → Type 0) (l : Row) (e : Key × Held) (r : Row)
    → ((k : Key) → key_cmp k e.0 ≡ Less → P k) → IsOrdered (l ++ e ∷ r)
    → AllByRecursion (λ x. P x.0) l
left_of P [] e r before h = tt
left_of P (x ∷ l) e r before h = (
  before x.0 (below_middle x.0 l e r (first_of _ _ h)),
  left_of P l e r before (rest_of _ _ h),
)

right_all : (P : Key → Type 0) (k : Key) (r : Row) → ((j : Key) → key_cmp k j ≡ Less → P j)
    → T (below_all key_cmp k r) → AllByRecursion (λ x. P x.0) r
right_all P k [] after h = tt
right_all P k (x ∷ r) after h =
    (after x.0 (less_of _ (first_of _ _ h)), right_all P k r after (rest_of _ _ h))

-- and of all keys after it, of those to its right
pub right_of : (P : Key → Type 0) (l : Row) (e : Key × Held) (r : Row)
    → ((k : Key) → key_cmp e.0 k ≡ Less → P k) → IsOrdered (l ++ e ∷ r)
    → AllByRecursion (λ x. P x.0) r
right_of P l e r after h = right_all P e.0 r after (first_of _ _ (ordered_back l (e ∷ r) h))

after_greater : (q k j : Key) → key_cmp q k ≡ Greater → key_cmp j k ≡ Less → key_cmp q j ≡ Greater
after_greater q k j greater less =
    key_cmp-total.antisymm q j
    ∙ ap ordering_reverse (key_cmp-total.trans j k q less
    (key_cmp-total.antisymm k q ∙ ap ordering_reverse greater))

after_equal : (q k j : Key) → key_cmp q k ≡ Equal → key_cmp j k ≡ Less → key_cmp q j ≡ Greater
after_equal q k j equal less =
    key_cmp-total.congr q k j equal ∙ key_cmp-total.antisymm k j ∙ ap ordering_reverse less

module _ (q : Key) (l : Row) (e : Key × Held) (r : Row) {row : Row} (is : row ≡ l ++ e ∷ r) where
  -- each side has fewer entries
  pub left_shorter : length l < length row
  left_shorter = rw is (omega (arith, length-append l (e ∷ r)))

  pub right_shorter : length r < length row
  right_shorter = rw is (omega (arith, length-append l (e ∷ r)))

  -- a key before an entry goes to its left
  pub put_less : (v : Held) → key_cmp q e.0 ≡ Less
      → put key_cmp q v row ≡ put key_cmp q v l ++ e ∷ r
  put_less v less = ap (put key_cmp q v) is ∙ put-before q v l e r less

  module _ (given : IsOrdered row) where
    pub ordered : IsOrdered (l ++ e ∷ r)
    ordered = subst IsOrdered is given

    pub left_ordered : IsOrdered l
    left_ordered = ordered_front l (e ∷ r) ordered

    pub right_ordered : IsOrdered r
    right_ordered = rest_of _ _ (ordered_back l (e ∷ r) ordered)

    before_less : key_cmp q e.0 ≡ Less → IsBefore q (e ∷ r)
    before_less less = (
      less,
      right_of (λ k. key_cmp q k ≡ Less) l e r (λ k. key_cmp-total.trans q e.0 k less)
          ordered,
    )

    before_equal : key_cmp q e.0 ≡ Equal → IsBefore q r
    before_equal equal =
        right_of (λ k. key_cmp q k ≡ Less) l e r (λ k h. key_cmp-total.congr q e.0 k equal ∙ h)
        ordered

    past_equal : key_cmp q e.0 ≡ Equal → IsPast q l
    past_equal equal =
        left_of (λ k. key_cmp q k ≡ Greater) l e r (λ k. after_equal q e.0 k equal)
        ordered

    past_greater : key_cmp q e.0 ≡ Greater → IsPast q l
    past_greater greater =
        left_of (λ k. key_cmp q k ≡ Greater) l e r
        (λ k. after_greater q e.0 k greater) ordered

    pub find_less : key_cmp q e.0 ≡ Less → find key_cmp q row ≡ find key_cmp q l
    find_less less =
        ap (find key_cmp q) is ∙ find-before q l (e ∷ r) (before_less less)

    pub find_equal : key_cmp q e.0 ≡ Equal → find key_cmp q row ≡ Some e.1
    find_equal equal =
        ap (find key_cmp q) is ∙ find-past q l (e ∷ r) (past_equal equal)
        ∙ ap (λ o. cond (is_eq o) (Some e.1) (find key_cmp q r)) equal

    pub find_greater : key_cmp q e.0 ≡ Greater → find key_cmp q row ≡ find key_cmp q r
    find_greater greater =
        ap (find key_cmp q) is ∙ find-past q l (e ∷ r) (past_greater greater)
        ∙ ap (λ o. cond (is_eq o) (Some e.1) (find key_cmp q r)) greater

    pub put_equal : (v : Held) → key_cmp q e.0 ≡ Equal
        → put key_cmp q v row ≡ l ++ (e.0, v) ∷ r
    put_equal v equal =
        ap (put key_cmp q v) is ∙ put-past q v l (e ∷ r) (past_equal equal)
        ∙ ap (λ o. l ++ by_order o ((q, v) ∷ e ∷ r) ((e.0, v) ∷ r) (e ∷ put key_cmp q v r)) equal

    pub put_greater : (v : Held) → key_cmp q e.0 ≡ Greater
        → put key_cmp q v row ≡ l ++ e ∷ put key_cmp q v r
    put_greater v greater =
        ap (put key_cmp q v) is ∙ put-past q v l (e ∷ r) (past_greater greater)
        ∙ ap (λ o. l ++ by_order o ((q, v) ∷ e ∷ r) ((e.0, v) ∷ r) (e ∷ put key_cmp q v r)) greater

    pub without_less : key_cmp q e.0 ≡ Less → without q row ≡ without q l ++ e ∷ r
    without_less less =
        ap (without q) is ∙ without-append q l (e ∷ r)
        ∙ ap (λ rest. without q l ++ rest) (without-before q (e ∷ r) (before_less less))

    pub without_equal : key_cmp q e.0 ≡ Equal → without q row ≡ l ++ r
    without_equal equal =
        ap (without q) is ∙ without-append q l (e ∷ r)
        ∙ ap (λ rest. rest ++ without q (e ∷ r)) (without-past q l (past_equal equal))
        ∙ ap (λ o. l ++ cond (not (is_eq o)) (e ∷ without q r) (without q r)) equal
        ∙ ap (λ rest. l ++ rest) (without-before q r (before_equal equal))

    pub without_greater : key_cmp q e.0 ≡ Greater → without q row ≡ l ++ e ∷ without q r
    without_greater greater =
        ap (without q) is ∙ without-append q l (e ∷ r)
        ∙ ap (λ rest. rest ++ without q (e ∷ r)) (without-past q l (past_greater greater))
        ∙ ap (λ o. l ++ cond (not (is_eq o)) (e ∷ without q r) (without q r)) greater
