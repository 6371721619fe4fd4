-- A number that comes to the place of its name.
use Rattle.std.proofs.Common.{ℕ, zero, suc, ◌≡◌, ◌<◌, ◌≤◌, ◌+◌, ◌++◌, List, [], ◌∷◌, length, map, take, drop, set, get_or, Ordering, Less, Equal, Greater, refl, sym, ap, ap₂, subst, ◌∙◌, arith}
use Rattle.std.specs.List.{All, insert}
use Rattle.std.specs.BTreeMap.{insert_entry}
use Rattle.std.specs.Cmp.Lexicographic.{slice_cmp}
use Rattle.std.specs.FinMap.{slice_cmp-IsAntisymmetric, nat_cmp-IsAntisymmetric}
use Rattle.std.specs.Ordering.{nat_cmp, match_ordering}
use Rattle.std.proofs.lemmas.List.{append_assoc, drop_more, take_more, drop_all, map-append, map-set, take-map, drop-map, length-map, get_or-map}
use Rattle.std.proofs.lemmas.List.Elements.{All-append, All-take, All-drop, All-cons}
use Rattle.ssz_types.specs.Order.{order_from, with_names}
use Rattle.ssz_types.proofs.RepeatLemmas.{Written, names_of, drop_at}

abbrev Named : Type 0
Named = List (List ℕ × ℕ)

abbrev name_cmp : List ℕ → List ℕ → Ordering
name_cmp = slice_cmp nat_cmp

-- the name of a field that is there
name_at : (fields : List Written) (n : ℕ) (f : Written) → n < length fields
    → f ≡ get_or fields n f → f.0 ≡ get_or (names_of fields) n []
name_at fields n f below is =
    ap (λ (g : Written). g.0) is ∙ sym (get_or-map (λ (g : Written). g.0) fields n f [] below)

-- how the names of two fields compare
pub compared : (fields : List Written) (n m : ℕ) (x y : List ℕ) (r o : Ordering) (f g : Written)
    → n < length fields → m < length fields → f ≡ get_or fields n f → g ≡ get_or fields m g
    → x ≡ (get_or fields n f).0 → y ≡ (get_or fields m g).0 → r ≡ name_cmp x y → r ≡ o
    → name_cmp (get_or (names_of fields) n []) (get_or (names_of fields) m []) ≡ o
compared fields n m x y r o f g first second f_is g_is x_is y_is is answer =
    sym (ap₂ name_cmp (x_is ∙ ap (λ (h : Written). h.0) (sym f_is) ∙ name_at fields n f first f_is)
    (y_is ∙ ap (λ (h : Written). h.0) (sym g_is) ∙ name_at fields m g second g_is))
    ∙ sym is ∙ answer

-- the search has passed these places
abbrev pub Passed : Named → List ℕ → ℕ → ℕ → Type 0
Passed es k n p = insert_entry name_cmp es k n ≡ take p es ++ insert_entry name_cmp (drop p es) k n

passed_more : (es : Named) (k : List ℕ) (n p : ℕ) (e : List ℕ × ℕ) → p < length es
    → e ≡ get_or es p e → name_cmp k e.0 ≡ Greater → Passed es k n p → Passed es k n (p + 1)
passed_more es k n p e below is greater passed =
    passed
    ∙ ap (λ later. take p es ++ insert_entry name_cmp later k n) (drop_at es p e below is)
    ∙ ap (λ o. take p es ++ match_ordering o ((k, n) ∷ e ∷ drop (p + 1) es)
    ((e.0, n) ∷ drop (p + 1) es) (e ∷ insert_entry name_cmp (drop (p + 1) es) k n)) greater
    ∙ sym (append_assoc (take p es) (e ∷ []) (insert_entry name_cmp (drop (p + 1) es) k n))
    ∙ ap (λ front. front ++ insert_entry name_cmp (drop (p + 1) es) k n)
    (ap (λ d. take p es ++ d ∷ []) is ∙ sym (take_more es p e below))

passed_less : (es : Named) (k : List ℕ) (n p : ℕ) (e : List ℕ × ℕ) → p < length es
    → e ≡ get_or es p e → name_cmp k e.0 ≡ Less → Passed es k n p
    → insert_entry name_cmp es k n ≡ insert es p (k, n)
passed_less es k n p e below is less passed =
    passed
    ∙ ap (λ later. take p es ++ insert_entry name_cmp later k n) (drop_at es p e below is)
    ∙ ap (λ o. take p es ++ match_ordering o ((k, n) ∷ e ∷ drop (p + 1) es)
    ((e.0, n) ∷ drop (p + 1) es) (e ∷ insert_entry name_cmp (drop (p + 1) es) k n)) less
    ∙ ap (λ later. take p es ++ (k, n) ∷ later) (sym (drop_at es p e below is))

passed_all : (es : Named) (k : List ℕ) (n p : ℕ) → length es ≤ p → Passed es k n p
    → insert_entry name_cmp es k n ≡ insert es p (k, n)
passed_all es k n p over passed =
    passed
    ∙ ap (λ later. take p es ++ insert_entry name_cmp later k n) (drop_all p es over)
    ∙ ap (λ later. take p es ++ (k, n) ∷ later) (sym (drop_all p es over))

set_at : {X : Type 0} (xs : List X) (i : ℕ) (x : X) → i < length xs
    → set xs i x ≡ take i xs ++ x ∷ drop (i + 1) xs
set_at [] i x h = absurd (omega arith)
set_at (y ∷ xs) zero x h = refl
set_at (y ∷ xs) (suc i) x h =
    (let next : suc (i + 1) ≡ suc i + 1 = omega arith in
    ap (λ later. y ∷ later) (set_at xs i x (omega arith))
    ∙ ap (λ m. y ∷ (take i xs ++ x ∷ drop m (y ∷ xs))) next)

passed_equal : (es : Named) (k : List ℕ) (n p : ℕ) (e : List ℕ × ℕ) → p < length es
    → e ≡ get_or es p e → name_cmp k e.0 ≡ Equal → Passed es k n p
    → insert_entry name_cmp es k n ≡ set es p (k, n)
passed_equal es k n p e below is equal passed =
    passed
    ∙ ap (λ later. take p es ++ insert_entry name_cmp later k n) (drop_at es p e below is)
    ∙ ap (λ o. take p es ++ match_ordering o ((k, n) ∷ e ∷ drop (p + 1) es)
    ((e.0, n) ∷ drop (p + 1) es) (e ∷ insert_entry name_cmp (drop (p + 1) es) k n)) equal
    ∙ ap (λ name. take p es ++ (name, n) ∷ drop (p + 1) es)
    (sym (slice_cmp-IsAntisymmetric nat_cmp-IsAntisymmetric k e.0 equal))
    ∙ sym (set_at es p (k, n) below)

-- The same of numbers, each behind its name.

abbrev pub PassedTo : List Written → List ℕ → ℕ → ℕ → Type 0
PassedTo fields ns n p =
    Passed (with_names (names_of fields) ns) (get_or (names_of fields) n []) n p

abbrev named : List Written → ℕ → List ℕ × ℕ
named fields n = (get_or (names_of fields) n [], n)

abbrev pub placed : List Written → List ℕ → ℕ → Named
placed fields ns n =
    insert_entry name_cmp (with_names (names_of fields) ns) (get_or (names_of fields) n []) n

named_at : (fields : List Written) (ns : List ℕ) (p m : ℕ) → p < length ns → m ≡ get_or ns p m
    → named fields m ≡ get_or (with_names (names_of fields) ns) p (named fields m)
named_at fields ns p m below is =
    ap (named fields) is ∙ sym (get_or-map (named fields) ns p m (named fields m) below)

pub PassedTo-start : (fields : List Written) (ns : List ℕ) (n : ℕ) → PassedTo fields ns n 0
PassedTo-start fields ns n = refl

long : (fields : List Written) (ns : List ℕ) (p : ℕ) → p < length ns
    → p < length (with_names (names_of fields) ns)
long fields ns p below = omega (arith, length-map ns (named fields))

pub PassedTo-more : (fields : List Written) (ns : List ℕ) (n p m : ℕ) → p < length ns
    → m ≡ get_or ns p m
    → name_cmp (get_or (names_of fields) n []) (get_or (names_of fields) m []) ≡ Greater
    → PassedTo fields ns n p → PassedTo fields ns n (p + 1)
PassedTo-more fields ns n p m below is greater passed =
    passed_more (with_names (names_of fields) ns) (get_or (names_of fields) n []) n p
    (named fields m) (long fields ns p below) (named_at fields ns p m below is) greater passed

named-insert : (fields : List Written) (ns : List ℕ) (n p : ℕ)
    → insert (with_names (names_of fields) ns) p (named fields n)
    ≡ with_names (names_of fields) (insert ns p n)
named-insert fields ns n p =
    ap₂ (λ front later. front ++ named fields n ∷ later)
    (take-map (named fields) p ns) (drop-map (named fields) p ns)
    ∙ sym (map-append (named fields) (take p ns) (n ∷ drop p ns))

-- the number stands before the first whose name is greater
pub placed_before : (fields : List Written) (ns : List ℕ) (n p m : ℕ) → p < length ns
    → m ≡ get_or ns p m
    → name_cmp (get_or (names_of fields) n []) (get_or (names_of fields) m []) ≡ Less
    → PassedTo fields ns n p
    → with_names (names_of fields) (insert ns p n) ≡ placed fields ns n
placed_before fields ns n p m below is less passed =
    sym (passed_less (with_names (names_of fields) ns) (get_or (names_of fields) n []) n p
    (named fields m) (long fields ns p below) (named_at fields ns p m below is) less passed
    ∙ named-insert fields ns n p)

-- or behind all
pub placed_last : (fields : List Written) (ns : List ℕ) (n p : ℕ) → length ns ≤ p
    → PassedTo fields ns n p
    → with_names (names_of fields) (insert ns p n) ≡ placed fields ns n
placed_last fields ns n p over passed =
    sym (passed_all (with_names (names_of fields) ns) (get_or (names_of fields) n []) n p
    (omega (arith, over, length-map ns (named fields))) passed
    ∙ named-insert fields ns n p)

-- or instead of one of the same name
pub placed_instead : (fields : List Written) (ns : List ℕ) (n p m : ℕ) → p < length ns
    → m ≡ get_or ns p m
    → name_cmp (get_or (names_of fields) n []) (get_or (names_of fields) m []) ≡ Equal
    → PassedTo fields ns n p
    → with_names (names_of fields) (set ns p n) ≡ placed fields ns n
placed_instead fields ns n p m below is equal passed =
    sym (passed_equal (with_names (names_of fields) ns) (get_or (names_of fields) n []) n p
    (named fields m) (long fields ns p below) (named_at fields ns p m below is) equal passed
    ∙ sym (map-set (named fields) ns p n))

-- All fields, from the last.

abbrev pub OrderedFrom : List Written → List ℕ → ℕ → Type 0
OrderedFrom fields ns i =
    with_names (names_of fields) ns ≡ order_from i (names_of (drop i fields))

pub OrderedFrom-start : (fields : List Written) (ns : List ℕ) → ns ≡ []
    → OrderedFrom fields ns (length fields)
unfolding order_from
OrderedFrom-start fields ns none =
    ap (with_names (names_of fields)) none
    ∙ sym (ap (λ fs. order_from (length fields) (names_of fs))
    (drop_all (length fields) fields (omega arith)))

pub OrderedFrom-more : (fields : List Written) (ns new : List ℕ) (i : ℕ) → i < length fields
    → with_names (names_of fields) new ≡ placed fields ns i → OrderedFrom fields ns (i + 1)
    → OrderedFrom fields new i
unfolding order_from
OrderedFrom-more fields ns new i below is ordered =
    is ∙ ap (λ es. insert_entry name_cmp es (get_or (names_of fields) i []) i) ordered
    ∙ sym (ap (order_from i) (first_name fields i below))
  where
    first_name : (fields : List Written) (i : ℕ) → i < length fields
        → names_of (drop i fields)
        ≡ get_or (names_of fields) i [] ∷ names_of (drop (i + 1) fields)
    first_name fields i below =
        sym (drop-map (λ (f : Written). f.0) i fields)
        ∙ drop_more (names_of fields) i []
        (omega (arith, below, length-map fields (λ (f : Written). f.0)))
        ∙ ap (λ names. get_or (names_of fields) i [] ∷ names)
        (drop-map (λ (f : Written). f.0) (i + 1) fields)

pub numbers-named : (names : List (List ℕ)) (ns : List ℕ)
    → ns ≡ map (λ e. e.1) (with_names names ns)
numbers-named names [] = refl
numbers-named names (n ∷ ns) = ap (λ later. n ∷ later) (numbers-named names ns)

pub below_insert : (most : ℕ) (ns : List ℕ) (p n : ℕ) → n < most → All (λ m. m < most) ns
    → All (λ m. m < most) (insert ns p n)
below_insert most ns p n below all =
    All-append (λ m. m < most) (take p ns) (n ∷ drop p ns) (All-take (λ m. m < most) p ns all)
    (All-cons (λ m. m < most) n (drop p ns) below (All-drop (λ m. m < most) p ns all))

pub is_below : (most : ℕ) (ns before : List ℕ) (p m : ℕ) → p < length ns → ns ≡ before
    → All (λ n. n < most) before → m ≡ get_or ns p m → m < most
is_below most ns before p m below kept all is =
    subst (λ n. n < most) (sym is) (subst (All (λ n. n < most)) (sym kept) all p m below)
