-- Entries that are inserted from the last to the first.
use Rattle.std.proofs.Common.{◌≡◌, ℕ, Bool, true, false, cond, ◌==◌, ◌&&◌, if◌then◌else◌, List, [], ◌∷◌, ◌++◌, length, Option, Some, None, arith, refl, sym, ap, ◌∙◌}
use Rattle.std.specs.Cmp.{unsigned_ties, nat_eq_equiv}
use Rattle.std.specs.Cmp.Lexicographic.{slice_cmp}
use Rattle.std.specs.FinMap as finite
use Rattle.std.specs.FinMap.Entries.{find, put, find-put}
use Rattle.std.specs.Ordering.{nat_cmp, eq_by_cmp, is_eq, ordering_then}
use Rattle.std.specs.declared.cmp.Ordering.{Ordering}
use Rattle.std.specs.declared.cmp.Ordering.TheVariants.{Less, Equal, Greater}
use Rattle.std.proofs.lemmas.Bool.Decides.{Decides-eqb}
use Rattle.ssz_versions.specs.Content.{Held, Entries, held_at}
use Rattle.ssz_versions.specs.Keys.{Key, key_cmp, key_cmp-total}
use Rattle.ssz_versions.specs.Lists.{relabelled}
use Rattle.ssz_versions.specs.Outcomes.{Adopts}
use Rattle.ssz_versions.proofs.Changes.{found_is}
use Rattle.ssz_versions.proofs.Ordered.{Row, IsOrdered}

-- the last of the entries to be inserted is in
pub last_inserted : (left : Row) (key : Key) (held : Held) (es : Row) (q : Key)
    → find key_cmp q (left ++ put key_cmp key held es)
    ≡ find key_cmp q ((left ++ (key, held) ∷ []) ++ es)
last_inserted [] key held es q = find-put key_cmp key_cmp-total q key held es
last_inserted (y ∷ left) key held es q =
    ap (cond (eq_by_cmp key_cmp q y.0) (Some y.1)) (last_inserted left key held es q)

pub nothing_left : {A : Type 0} (xs : List A) → length xs ≡ 0 → xs ≡ []
nothing_left [] e = refl
nothing_left (x ∷ xs) e = absurd (omega arith)

-- the first, or else the second
abbrev or_else : Option Held → Option Held → Option Held
or_else None other = other
or_else (Some held) other = Some held

at_append : (xs ys : Row) (q : Key)
    → find key_cmp q (xs ++ ys) ≡ or_else (find key_cmp q xs) (find key_cmp q ys)
at_append [] ys q = refl
at_append (x ∷ xs) ys q =
    ap (cond (eq_by_cmp key_cmp q x.0) (Some x.1)) (at_append xs ys q)
    ∙ elim (eq_by_cmp key_cmp q x.0) as (λ b.
    cond b (Some x.1) (or_else (find key_cmp q xs) (find key_cmp q ys))
    ≡ or_else (cond b (Some x.1) (find key_cmp q xs)) (find key_cmp q ys))
    [ true ↦ refl | false ↦ refl ]

is_eq_then : (o p : Ordering) → is_eq (ordering_then o p) ≡ (is_eq o && is_eq p)
is_eq_then Less p = refl
is_eq_then Equal p = refl
is_eq_then Greater p = refl

-- keys are equal where writers and names are
pub equal_parts : (w v : ℕ) (n m : List ℕ) → eq_by_cmp key_cmp (w, n) (v, m)
    ≡ ((w == v) && eq_by_cmp (slice_cmp nat_cmp) n m)
equal_parts w v n m = is_eq_then (nat_cmp w v) (slice_cmp nat_cmp n m)
    ∙ ap (λ b. b && is_eq (slice_cmp nat_cmp n m)) (sym (unsigned_ties w v))

taken_over : (own wanted named : Bool) (held : Held) (found : Option Held)
    → cond own (cond (wanted && named) (Some held) (cond wanted found None))
    (cond wanted found None)
    ≡ cond wanted (cond (own && named) (Some held) found) None
taken_over true true named held found = refl
taken_over true false named held found = refl
taken_over false true named held found = refl
taken_over false false named held found = refl

at_choice : (b : Bool) (x : Key × Held) (xs : Row) (q : Key)
    → find key_cmp q (cond b (x ∷ xs) xs)
    ≡ cond b (cond (eq_by_cmp key_cmp q x.0) (Some x.1) (find key_cmp q xs)) (find key_cmp q xs)
at_choice true x xs q = refl
at_choice false x xs q = refl

either_way : (b : Bool) (found : Option Held) → found ≡ cond b found found
either_way true found = refl
either_way false found = refl

-- under the other writer stands what the first holds
at_relabelled : (from to : ℕ) (es : Row) (w : ℕ) (n : List ℕ)
    → find key_cmp (w, n) (relabelled from to es) ≡ cond (w == to) (find key_cmp (from, n) es) None
at_relabelled from to [] w n = either_way (w == to) None
at_relabelled from to (e ∷ es) w n =
    let named = eq_by_cmp (slice_cmp nat_cmp) n e.0.1 in
    let later = relabelled from to es in
    at_choice (e.0.0 == from) ((to, e.0.1), e.1) later (w, n)
    ∙ ap (λ rest. cond (e.0.0 == from)
    (cond (eq_by_cmp key_cmp (w, n) (to, e.0.1)) (Some e.1) rest) rest)
    (at_relabelled from to es w n)
    ∙ ap (λ b. cond (e.0.0 == from)
    (cond b (Some e.1) (cond (w == to) (find key_cmp (from, n) es) None))
    (cond (w == to) (find key_cmp (from, n) es) None)) (equal_parts w to n e.0.1)
    ∙ taken_over (e.0.0 == from) (w == to) named e.1 (find key_cmp (from, n) es)
    ∙ ap (λ b. cond (w == to) (cond (b && named) (Some e.1) (find key_cmp (from, n) es)) None)
    (nat_eq_equiv.symm e.0.0 from)
    ∙ ap (λ b. cond (w == to) (cond b (Some e.1) (find key_cmp (from, n) es)) None)
    (sym (equal_parts from e.0.0 n e.0.1))

pub or_else-None : (found : Option Held) → or_else found None ≡ found
or_else-None None = refl
or_else-None (Some held) = refl

adopted_cases : (b : Bool) (theirs own : Option Held) → (b ≡ true → own ≡ None)
    → or_else (cond b theirs None) own ≡ (if b then theirs else own)
adopted_cases true theirs own h = ap (or_else theirs) (h refl) ∙ or_else-None theirs
adopted_cases false theirs own h = refl

-- the entries of one writer, under the keys of another that holds nothing
pub adopted : (es fs added : Row) (m : Entries) (from to : ℕ) → IsOrdered es
    → finite.from_sorted {R = key_cmp} es ≡ m → IsOrdered fs → added ≡ relabelled from to es
    → ((q : Key) → find key_cmp q fs ≡ find key_cmp q (added ++ es))
    → ((name : List ℕ) → held_at m to name ≡ None)
    → Adopts m (finite.from_sorted fs) from to
adopted es fs added m from to ordered view new_ordered is inserted none w n =
    let held = found_is es m ordered view in
    finite.get-from_sorted key_cmp fs (w, n) new_ordered
    ∙ inserted (w, n)
    ∙ at_append added es (w, n)
    ∙ ap (λ xs. or_else (find key_cmp (w, n) xs) (find key_cmp (w, n) es)) is
    ∙ ap (λ o. or_else o (find key_cmp (w, n) es)) (at_relabelled from to es w n)
    ∙ adopted_cases (w == to) (find key_cmp (from, n) es) (find key_cmp (w, n) es)
    (λ e. held (w, n) ∙ ap (λ v. held_at m v n) ((Decides-eqb w to).0 e) ∙ none n)
    ∙ ap (λ o. if w == to then o else find key_cmp (w, n) es) (held (from, n))
    ∙ ap (λ o. if w == to then held_at m from n else o) (held (w, n))
