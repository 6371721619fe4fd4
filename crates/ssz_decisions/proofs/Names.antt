-- The names of a writer are those of the versions for which its entries stand.
use Rattle.std.proofs.Common.{◌≡◌, ◌≢◌, ◌==◌, ◌&&◌, ℕ, Bool, true, false, cond, List, [], ◌∷◌, map, Option, Some, None, refl, sym, ap, subst, ◌∙◌}
use Rattle.std.proofs.lemmas.Bool.{true≢false}
use Rattle.std.proofs.lemmas.Bool.Decides.{Decides-eqb}
use Rattle.std.proofs.lemmas.Cmp.{nat_list_cmp_total, nat_cmp_total}
use Rattle.std.proofs.lemmas.Map.Lookups.{exact_bytes}
use Rattle.std.proofs.lemmas.Map.Text.{is_eq-slice_cmp}
use Rattle.std.specs.FinMap as finite
use Rattle.std.specs.FinMap.Entries.{find, is_sorted, below_all, same_entries}
use Rattle.std.specs.List.{filter}
use Rattle.std.specs.Ordering.{nat_cmp, eq_by_cmp, ordering_then, is_lt}
use Rattle.std.specs.Cmp.{tied_itself}
use Rattle.std.specs.Cmp.Lexicographic.{slice_cmp}
use lib.Dec.{T}
use Rattle.ssz_schema.specs.Unfolding.{Types}
use Rattle.ssz_arena.specs.Content.{ArenaContent as Nodes}
use Rattle.ssz_versions.specs.Content.{Entries, Held, entry_names}
use Rattle.ssz_versions.specs.Keys.{Key, key_cmp}
use Rattle.ssz_machine.specs.State.{Name, Version, Versions}
use Rattle.ssz_decisions.specs.Standing.{Match, StandsForVersions}
use Rattle.ssz_decisions.proofs.Keys.{same_writer, other_writer}
use Rattle.ssz_decisions.proofs.Standing.{of_test}

abbrev by_name : Name → Name → Rattle.std.specs.declared.cmp.Ordering.Ordering
by_name = slice_cmp nat_cmp

abbrev seen : {A : Type 0} → Option A → Option ℕ
seen None = None
seen (Some x) = Some 0

seen-cond : {A : Type 0} (test : Bool) (x : A) (rest : Option A)
    → cond test (Some 0) (seen rest) ≡ seen (cond test (Some x) rest)
seen-cond true x rest = refl
seen-cond false x rest = refl

-- the names of a writer among entries
abbrev own : ℕ → List (Key × Held) → List (Name × ℕ)
own writer [] = []
own writer (e ∷ es) = cond (e.0.0 == writer) ((e.0.1, 0) ∷ own writer es) (own writer es)

-- the names of versions
abbrev flat : Versions → List (Name × ℕ)
flat [] = []
flat (e ∷ es) = (e.0, 0) ∷ flat es

both : (a b : Bool) → T a → T b → T (a && b)
both true b p q = q
both false b p q = p

first : (a b : Bool) → T (a && b) → T a
first true b p = tt
first false b p = p

second : (a b : Bool) → T (a && b) → T b
second true b p = p
second false b p = absurd p

-- a test that is true of equal numbers alone
pub by_writer : (P : Bool → Type 0) (a writer : ℕ) → (a ≡ writer → P true) → (a ≢ writer → P false)
    → P (a == writer)
by_writer P a writer same other = by (a == writer) refl
  where
    by : (test : Bool) → (a == writer) ≡ test → P test
    by true e = same ((Decides-eqb a writer).0 e)
    by false e = other (λ is. true≢false (sym ((Decides-eqb a writer).1 is) ∙ e))

names-own : (writer : ℕ) (es : List (Key × Held))
    → map (λ (k : Key). k.1)
    (filter (λ (k : Key). k.0 == writer) (map (λ (e : Key × Held). e.0) es))
    ≡ map (λ (e : Name × ℕ). e.0) (own writer es)
names-own writer [] = refl
names-own writer (e ∷ es) =
    let rest = names-own writer es in
    elim (e.0.0 == writer) as (λ b.
    map (λ (k : Key). k.1) (cond b
    (e.0 ∷ filter (λ (k : Key). k.0 == writer) (map (λ (e : Key × Held). e.0) es))
    (filter (λ (k : Key). k.0 == writer) (map (λ (e : Key × Held). e.0) es)))
    ≡ map (λ (e : Name × ℕ). e.0) (cond b ((e.0.1, 0) ∷ own writer es) (own writer es)))
    [ true ↦ ap (λ ns. e.0.1 ∷ ns) rest | false ↦ rest ]

find-own : (writer : ℕ) (n : Name) (es : List (Key × Held))
    → find by_name n (own writer es) ≡ seen (find key_cmp (writer, n) es)
find-own writer n [] = refl
find-own writer n (e ∷ es) =
    let rest = find-own writer n es in
    let more = find key_cmp (writer, n) es in
    by_writer (λ b. find by_name n (cond b ((e.0.1, 0) ∷ own writer es) (own writer es))
    ≡ seen (cond (eq_by_cmp key_cmp (writer, n) e.0) (Some e.1) more)) e.0.0 writer
    (λ same. ap (cond (eq_by_cmp by_name n e.0.1) (Some 0)) rest
    ∙ seen-cond (eq_by_cmp by_name n e.0.1) e.1 more
    ∙ ap (λ b. seen (cond b (Some e.1) more))
    (is_eq-slice_cmp n e.0.1 ∙ sym (same_writer writer n e.0.1)
    ∙ ap (λ w. eq_by_cmp key_cmp (writer, n) (w, e.0.1)) (sym same)))
    (λ other. rest ∙ ap (λ b. seen (cond b (Some e.1) more))
    (sym (other_writer writer e.0.0 n e.0.1 (λ is. other (sym is)))))

below-own : (writer : ℕ) (x : Key) → x.0 ≡ writer → (es : List (Key × Held))
    → T (below_all key_cmp x es) → T (below_all by_name x.1 (own writer es))
below-own writer x mine [] h = tt
below-own writer x mine (e ∷ es) h =
    let rest = below-own writer x mine es (second _ _ h) in
    by_writer (λ b. T (below_all by_name x.1 (cond b ((e.0.1, 0) ∷ own writer es) (own writer es))))
    e.0.0 writer
    (λ same. both _ _ (subst (λ o. T (is_lt (ordering_then o (by_name x.1 e.0.1))))
    (ap (λ w. nat_cmp x.0 w) (same ∙ sym mine) ∙ tied_itself nat_cmp_total x.0)
    (first _ _ h)) rest)
    (λ other. rest)

sorted-own : (writer : ℕ) (es : List (Key × Held)) → T (is_sorted key_cmp es)
    → T (is_sorted by_name (own writer es))
sorted-own writer [] h = tt
sorted-own writer (e ∷ es) h =
    let rest = sorted-own writer es (second _ _ h) in
    by_writer (λ b. T (is_sorted by_name (cond b ((e.0.1, 0) ∷ own writer es) (own writer es))))
    e.0.0 writer
    (λ same. both _ _ (below-own writer e.0 same es (first _ _ h)) rest)
    (λ other. rest)

names-flat : (vs : Versions) → map (λ (e : Name × ℕ). e.0) (flat vs) ≡ map (λ e. e.0) vs
names-flat [] = refl
names-flat (e ∷ es) = ap (λ ns. e.0 ∷ ns) (names-flat es)

find-flat : (n : Name) (vs : Versions) → find by_name n (flat vs) ≡ seen (find by_name n vs)
find-flat n [] = refl
find-flat n (e ∷ es) = ap (cond (eq_by_cmp by_name n e.0) (Some 0)) (find-flat n es)
    ∙ seen-cond (eq_by_cmp by_name n e.0) e.1 (find by_name n es)

below-flat : (x : Name) (vs : Versions) → T (below_all by_name x vs)
    → T (below_all by_name x (flat vs))
below-flat x [] h = tt
below-flat x (e ∷ es) h = both _ _ (first _ _ h) (below-flat x es (second _ _ h))

sorted-flat : (vs : Versions) → T (is_sorted by_name vs) → T (is_sorted by_name (flat vs))
sorted-flat [] h = tt
sorted-flat (e ∷ es) h =
    both _ _ (below-flat e.0 es (first _ _ h)) (sorted-flat es (second _ _ h))

match-seen : (types : Types) (arena : Nodes) (held : Option Held) (version : Option Version)
    → Match types arena held version → seen held ≡ seen version
match-seen types arena None None is = refl
match-seen types arena (Some held) (Some version) is = refl
match-seen types arena None (Some version) is = absurd is
match-seen types arena (Some held) None is = absurd is

pub names-same : (types : Types) (arena : Nodes) (entries : Entries) (writer : ℕ)
    (versions : Versions) → StandsForVersions types arena entries writer versions
    → entry_names entries writer ≡ map (λ e. e.0) versions
names-same types arena entries writer versions stand =
    let es = finite.entries entries in
    names-own writer es
    ∙ ap (map (λ (e : Name × ℕ). e.0))
    (same_entries by_name nat_list_cmp_total exact_bytes (own writer es) (flat versions)
    (sorted-own writer es (finite.entries_sorted entries))
    (sorted-flat versions (of_test _ stand.sorted))
    (λ n. find-own writer n es
    ∙ ap seen (sym (finite.get-entries entries (writer, n)))
    ∙ match-seen types arena _ _ (stand.each n)
    ∙ sym (find-flat n versions)))
    ∙ names-flat versions
