-- What a change of the entries is, name by name, and the names of a writer beside a sorted list:
-- for those who say which versions each writer has.
use Rattle.std.proofs.Common.{◌≡◌, ℕ, Bool, true, false, cond, ◌==◌, ◌&&◌, ◌||◌, if◌then◌else◌, T, List, [], ◌∷◌, map, Option, Some, None, is_some, refl, sym, ap, ◌∙◌}
use Rattle.std.specs.Cmp.{nat_cmp_total}
use Rattle.std.specs.Cmp.Lexicographic.{slice_cmp, nat_list_cmp_total}
use Rattle.std.specs.FinMap as finite
use Rattle.std.specs.List.{list_any, filter, AllByRecursion}
use Rattle.std.specs.List.Sorted.{IsStrictlySortedBy}
use Rattle.std.specs.Ordering.{nat_cmp, ordering_then, eq_by_cmp}
use Rattle.std.specs.declared.cmp.Ordering.{Ordering}
use Rattle.std.specs.declared.cmp.Ordering.TheVariants.{Less, Equal}
use Rattle.std.proofs.lemmas.Bool.Decides.{Decides-eqb}
use Rattle.std.proofs.lemmas.Cmp.{tied_itself}
use Rattle.std.proofs.lemmas.Map.Lookups.{btree_set_from_contains, exact_bytes}
use Rattle.ssz_versions.specs.Content.{Held, Entries, held_at, with_held, without_held, entry_names}
use Rattle.ssz_versions.specs.Keys.{Key, key_cmp, key_cmp-total}
use Rattle.ssz_versions.proofs.Inserting.{equal_parts}
use Rattle.ssz_versions.proofs.Own.{own_keys, own_keys_ascend, own_contains, keys_ascend, same_writer}

-- by the bytes of the name
abbrev pub name_cmp : List ℕ → List ℕ → Ordering
name_cmp = slice_cmp nat_cmp

both_tests : (a b : Bool) (x y : Option Held)
    → cond (a && b) x y ≡ (if a then (if b then x else y) else y)
both_tests true b x y = refl
both_tests false b x y = refl

-- one writer holds something else under one name, and all others hold what they did
pub held_made : (m : Entries) (writer w : ℕ) (name n : List ℕ) (held : Held)
    → held_at (with_held m writer name held) w n
    ≡ (if w == writer then (if eq_by_cmp name_cmp n name then Some held else held_at m w n)
    else held_at m w n)
held_made m writer w name n held =
    finite.get-insert key_cmp-total m (writer, name) held (w, n)
    ∙ ap (λ b. cond b (Some held) (held_at m w n)) (equal_parts w writer n name)
    ∙ both_tests (w == writer) (eq_by_cmp name_cmp n name) (Some held) (held_at m w n)

pub held_dropped : (m : Entries) (writer w : ℕ) (name n : List ℕ)
    → held_at (without_held m writer name) w n
    ≡ (if w == writer then (if eq_by_cmp name_cmp n name then None else held_at m w n)
    else held_at m w n)
held_dropped m writer w name n =
    finite.get-remove key_cmp-total m (writer, name) (w, n)
    ∙ ap (λ b. cond b None (held_at m w n)) (equal_parts w writer n name)
    ∙ both_tests (w == writer) (eq_by_cmp name_cmp n name) None (held_at m w n)

kept_own : (b : Bool) (writer : ℕ) (key : Key) (keys : List Key) → (b ≡ true → key.0 ≡ writer)
    → AllByRecursion (λ k. k.0 ≡ writer) keys
    → AllByRecursion (λ k. k.0 ≡ writer) (cond b (key ∷ keys) keys)
kept_own true writer key keys own all = (own refl, all)
kept_own false writer key keys own all = all

all_own : (writer : ℕ) (keys : List Key)
    → AllByRecursion (λ k. k.0 ≡ writer) (filter (λ k. k.0 == writer) keys)
all_own writer [] = tt
all_own writer (key ∷ keys) =
    kept_own (key.0 == writer) writer key (filter (λ k. k.0 == writer) keys)
    (Decides-eqb key.0 writer).0 (all_own writer keys)

same_number : (w v : ℕ) → w ≡ v → nat_cmp w v ≡ Equal
same_number w v e = ap (nat_cmp w) (sym e) ∙ tied_itself nat_cmp_total w

below_names : (writer : ℕ) (key : Key) (keys : List Key) → key.0 ≡ writer
    → AllByRecursion (λ k. k.0 ≡ writer) keys
    → AllByRecursion (λ k. key_cmp key k ≡ Less) keys
    → AllByRecursion (λ n. name_cmp key.1 n ≡ Less) (map (λ k. k.1) keys)
below_names writer key [] own all less = tt
below_names writer key (k ∷ keys) own all less = (
  sym (ap (λ o. ordering_then o (name_cmp key.1 k.1)) (same_number key.0 k.0 (own ∙ sym all.0)))
      ∙ less.0,
  below_names writer key keys own all.1 less.1,
)

names_ascend : (writer : ℕ) (keys : List Key) → AllByRecursion (λ k. k.0 ≡ writer) keys
    → IsStrictlySortedBy key_cmp keys → IsStrictlySortedBy name_cmp (map (λ k. k.1) keys)
unfolding IsStrictlySortedBy
names_ascend writer [] all sorted = tt
names_ascend writer (key ∷ keys) all sorted =
    (below_names writer key keys all.0 all.1 sorted.0, names_ascend writer keys all.1 sorted.1)

any_named : (writer : ℕ) (name : List ℕ) (keys : List Key)
    → AllByRecursion (λ k. k.0 ≡ writer) keys
    → list_any (eq_by_cmp name_cmp name) (map (λ k. k.1) keys)
    ≡ list_any (eq_by_cmp key_cmp (writer, name)) keys
any_named writer name [] all = refl
any_named writer name (key ∷ keys) all =
    ap (λ b. b || list_any (eq_by_cmp name_cmp name) (map (λ k. k.1) keys))
    (sym (equal_parts writer key.0 name key.1
    ∙ ap (λ b. b && eq_by_cmp name_cmp name key.1) (same_writer writer key.0 (sym all.0))))
    ∙ ap (λ b. eq_by_cmp key_cmp (writer, name) key || b) (any_named writer name keys all.1)

-- a sorted list with an entry at exactly the names that a writer holds has these names in order
pub names_beside : {X : Type 0} (m : Entries) (writer : ℕ) (state : List (List ℕ × X))
    → T (finite.is_sorted name_cmp state)
    → ((name : List ℕ)
    → is_some (finite.find name_cmp name state) ≡ is_some (held_at m writer name))
    → entry_names m writer ≡ map (λ entry. entry.0) state
names_beside m writer state sorted same =
    let own = all_own writer (finite.keys m) in
    btree_set_from_contains nat_list_cmp_total
    (record { keys = entry_names m writer }) (record { keys = map (λ entry. entry.0) state })
    (names_ascend writer (own_keys m writer) own (own_keys_ascend m writer))
    (keys_ascend name_cmp state sorted)
    (λ name.
    any_named writer name (own_keys m writer) own
    ∙ own_contains m writer (writer, name)
    ∙ ap (λ b. b && is_some (held_at m writer name)) (same_writer writer writer refl)
    ∙ sym (same name) ∙ finite.Entries.is_some-find name_cmp name state)
    exact_bytes
