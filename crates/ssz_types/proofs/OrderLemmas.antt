-- Names in byte order.
use Rattle.std.proofs.Common.{ℕ, ◌≡◌, ◌<◌, ◌+◌, List, [], ◌∷◌, length, map, drop, get_or, Bor, Ordering, Less, Equal, Greater, refl, sym, ap, ap₂, ◌∙◌, arith}
use Rattle.std.specs.BTreeMap.{insert_entry}
use Rattle.std.specs.Cmp.Lexicographic.{slice_cmp}
use Rattle.std.specs.Ordering.{nat_cmp, match_ordering}
use Rattle.std.proofs.lemmas.List.{drop_all}
use Rattle.ssz_types.specs.Order.{order_from}
use Rattle.ssz_types.proofs.RepeatLemmas.{Written, drop_at}

abbrev Lent : Type 0
Lent = List (Bor (List ℕ) × ℕ)

-- names that are lent, as what they are
abbrev pub lent : Lent → List (List ℕ × ℕ)
lent es = map (λ e. (e.0.now, e.1)) es

abbrev lent_cmp : Bor (List ℕ) → Bor (List ℕ) → Ordering
lent_cmp x y = slice_cmp nat_cmp x.now y.now

lent-ordering : (o : Ordering) (a b c : Lent)
    → lent (match_ordering o a b c) ≡ match_ordering o (lent a) (lent b) (lent c)
lent-ordering Less a b c = refl
lent-ordering Equal a b c = refl
lent-ordering Greater a b c = refl

-- a lent name goes to the place of the name
pub lent-insert : (es : Lent) (k : Bor (List ℕ)) (n : ℕ)
    → lent (insert_entry lent_cmp es k n) ≡ insert_entry (slice_cmp nat_cmp) (lent es) k.now n
lent-insert [] k n = refl
lent-insert (e ∷ es) k n =
    lent-ordering (lent_cmp k e.0) ((k, n) ∷ e ∷ es) ((e.0, n) ∷ es)
    (e ∷ insert_entry lent_cmp es k n)
    ∙ ap (λ later. match_ordering (lent_cmp k e.0) ((k.now, n) ∷ lent (e ∷ es))
    ((e.0.now, n) ∷ lent es) ((e.0.now, e.1) ∷ later)) (lent-insert es k n)

pub numbers-lent : (es : Lent) → map (λ e. e.1) es ≡ map (λ e. e.1) (lent es)
numbers-lent [] = refl
numbers-lent (e ∷ es) = ap (λ ns. e.1 ∷ ns) (numbers-lent es)

-- the names from this number on
abbrev pub names_left : List Written → ℕ → List (List ℕ)
names_left fields i = map (λ f. f.0) (drop i fields)

pub lent-start : (fields : List Written) (es : Lent) → es ≡ []
    → lent es ≡ order_from (length fields) (names_left fields (length fields))
unfolding order_from
lent-start fields es none =
    ap lent none ∙ sym (ap (λ fs. order_from (length fields) (map (λ f. f.0) fs))
    (drop_all (length fields) fields (omega arith)))

-- the name of field i comes to those behind it
pub lent-more : (fields : List Written) (es new : Lent) (i : ℕ) (k : Bor (List ℕ)) (f : Written)
    → i < length fields → f ≡ get_or fields i f → k.now ≡ f.0
    → new ≡ insert_entry lent_cmp es k i
    → lent es ≡ order_from (i + 1) (names_left fields (i + 1))
    → lent new ≡ order_from i (names_left fields i)
unfolding order_from
lent-more fields es new i k f below here name is h =
    ap lent is ∙ lent-insert es k i
    ∙ ap₂ (λ later l. insert_entry (slice_cmp nat_cmp) later l i) h name
    ∙ sym (ap (λ fs. order_from i (map (λ f. f.0) fs)) (drop_at fields i f below here))
