-- Fields in byte order of their names.
use Rattle.std.proofs.Common.{ℕ, zero, suc, ◌≡◌, ◌<◌, ◌≤◌, ◌+◌, List, [], ◌∷◌, map, length, get_or, Ordering, Less, Equal, Greater, refl, sym, ap, ◌∙◌, subst, arith, is_eq, nat_cmp}
use Rattle.std.specs.List.{AllByRecursion}
use Rattle.std.specs.Cmp.Lexicographic.{slice_cmp}
use Rattle.std.specs.Ordering.{match_ordering}
use Rattle.std.specs.BTreeMap.{insert_entry}
use Rattle.std.proofs.lemmas.List.{length-map}
use Rattle.std.proofs.lemmas.Map.Text.{is_eq-slice_cmp}
use Rattle.std.proofs.lemmas.Slice.Eq.{bytes_eq-Decides}
use Rattle.ssz_schema.specs.Order.{order_from}
use Rattle.ssz_value.proofs.PartLemmas.{Part}
use Rattle.serde_json.specs.Data.{Data, Members, no_members, member, put}
use Rattle.ssz_json_text.specs.Order.{in_order, IsOrder, IsFieldOf}

-- names, each with a number
abbrev pub Entries : Type 0
Entries = List (List ℕ × ℕ)

-- the names as members, each with the JSON of its number
abbrev pub members_over : (ℕ → Data) → Entries → Members
members_over part [] = no_members
members_over part (e ∷ es) = member e.0 (part e.1) (members_over part es)

-- a member for each field, in byte order of their names; the first field has this number
abbrev pub members_from : (ℕ → Data) → ℕ → List Part → Members
members_from part n [] = no_members
members_from part n (field ∷ fields) = put field.0 (part n) (members_from part (n + 1) fields)

-- the order of names
abbrev name_cmp : List ℕ → List ℕ → Ordering
name_cmp = slice_cmp nat_cmp

over_ordering : (part : ℕ → Data) (o : Ordering) (a b c : Entries)
    → members_over part (match_ordering o a b c)
    ≡ match_ordering o (members_over part a) (members_over part b) (members_over part c)
over_ordering part Less a b c = refl
over_ordering part Equal a b c = refl
over_ordering part Greater a b c = refl

-- a name goes to its place
over_insert : (part : ℕ → Data) (es : Entries) (k : List ℕ) (n : ℕ)
    → members_over part (insert_entry name_cmp es k n) ≡ put k (part n) (members_over part es)
over_insert part [] k n = refl
over_insert part (e ∷ es) k n =
    over_ordering part (name_cmp k e.0) ((k, n) ∷ e ∷ es) ((e.0, n) ∷ es)
    (e ∷ insert_entry name_cmp es k n)
    ∙ ap (λ ms. match_ordering (name_cmp k e.0)
    (member k (part n) (member e.0 (part e.1) (members_over part es)))
    (member e.0 (part n) (members_over part es)) (member e.0 (part e.1) ms))
    (over_insert part es k n)

over_from : (part : ℕ → Data) (n : ℕ) (fields : List Part)
    → members_over part (order_from n (map (λ f. f.0) fields)) ≡ members_from part n fields
unfolding order_from
over_from part n [] = refl
over_from part n (f ∷ fields) =
    over_insert part (order_from (n + 1) (map (λ g. g.0) fields)) f.0 n
    ∙ ap (put f.0 (part n)) (over_from part (n + 1) fields)

-- the fields in order are the members
pub members_in_order : (part : ℕ → Data) (fields : List Part)
    → members_over part (in_order fields) ≡ members_from part 0 fields
members_in_order part fields = over_from part 0 fields

equal_names : (k l : List ℕ) → slice_cmp nat_cmp k l ≡ Equal → k ≡ l
equal_names k l e = (bytes_eq-Decides k l).0 (sym (is_eq-slice_cmp k l) ∙ ap is_eq e)

insert_at : (P : List ℕ → ℕ → Type 0) (o : Ordering) (k : List ℕ) (n : ℕ) (e : List ℕ × ℕ)
    (es later : Entries) → (o ≡ Equal → k ≡ e.0) → P k n → P e.0 e.1
    → AllByRecursion (λ x. P x.0 x.1) es → AllByRecursion (λ x. P x.0 x.1) later
    → AllByRecursion (λ x. P x.0 x.1)
    (match_ordering o ((k, n) ∷ e ∷ es) ((e.0, n) ∷ es) (e ∷ later))
insert_at P Less k n e es later same new old rest more = (new, (old, rest))
insert_at P Equal k n e es later same new old rest more =
    (subst (λ (l : List ℕ). P l n) (same refl) new, rest)
insert_at P Greater k n e es later same new old rest more = (old, more)

all_insert : (P : List ℕ → ℕ → Type 0) (es : Entries) (k : List ℕ) (n : ℕ) → P k n
    → AllByRecursion (λ x. P x.0 x.1) es
    → AllByRecursion (λ x. P x.0 x.1) (insert_entry name_cmp es k n)
all_insert P [] k n new all = (new, tt)
all_insert P (e ∷ es) k n new all =
    insert_at P (name_cmp k e.0) k n e es (insert_entry name_cmp es k n)
    (equal_names k e.0) new all.0 all.1 (all_insert P es k n new all.1)

-- each name is that of its number, where these fields stand from number n on
each_from : (all : List Part) (n : ℕ) (fields : List Part) → n + length fields ≤ length all
    → ((k : ℕ) → k < length fields
    → (get_or all (n + k) ([], 0)).0 ≡ (get_or fields k ([], 0)).0)
    → AllByRecursion (IsFieldOf all) (order_from n (map (λ f. f.0) fields))
unfolding order_from
each_from all n [] fits same = tt
each_from all n (f ∷ fields) fits same =
    let first : n + 0 ≡ n = omega arith in
    all_insert (λ l i. (i < length all) × (l ≡ (get_or all i ([], 0)).0))
    (order_from (n + 1) (map (λ g. g.0) fields)) f.0 n
    (omega arith, sym (ap (λ i. (get_or all i ([], 0)).0) (sym first) ∙ same 0 (omega arith)))
    (each_from all (n + 1) fields (omega arith) (λ k below.
    let next : n + 1 + k ≡ n + suc k = omega arith in
    ap (λ i. (get_or all i ([], 0)).0) next ∙ same (suc k) (omega arith)))

each_in_order : (fields : List Part) → AllByRecursion (IsFieldOf fields) (in_order fields)
each_in_order fields = each_from fields 0 fields (omega arith) (λ k below.
    let first : 0 + k ≡ k = omega arith in
    ap (λ i. (get_or fields i ([], 0)).0) first)

pub order_length : (fields : List Part) (order : List ℕ) → IsOrder fields order
    → length order ≡ length (in_order fields)
order_length fields order is = ap length is ∙ length-map (in_order fields) (λ e. e.1)

entry_of : (es : Entries) (i : ℕ) (P : List ℕ × ℕ → Type 0) → i < length es
    → AllByRecursion P es → (name : List ℕ) × (P (name, get_or (map (λ e. e.1) es) i 0))
    × ((e : List ℕ × ℕ) → get_or es i e ≡ (name, get_or (map (λ d. d.1) es) i 0))
entry_of [] i P below all = absurd (omega arith)
entry_of (e ∷ es) zero P below all = (e.0, all.0, λ d. refl)
entry_of (e ∷ es) (suc i) P below all = entry_of es i P (omega arith) all.1

-- what stands at a place of the order
pub record IsMember (fields : List Part) (i n : ℕ) : Type 0 where
  pub below : n < length fields
  pub here : (name : List ℕ) → ((p : Part) → name ≡ (get_or fields n p).0)
      → (name, n) ≡ get_or (in_order fields) i (name, n)

get_or_any : (fields : List Part) (i : ℕ) (a b : Part) → i < length fields
    → get_or fields i a ≡ get_or fields i b
get_or_any [] i a b h = absurd (omega arith)
get_or_any (p ∷ fields) zero a b h = refl
get_or_any (p ∷ fields) (suc i) a b h = get_or_any fields i a b (omega arith)

-- the name of a field is that of its number, whatever stands behind the last
pub name_any : (fields : List Part) (n : ℕ) (f : Part) (name : List ℕ) → n < length fields
    → name ≡ (get_or fields n f).0 → (p : Part) → name ≡ (get_or fields n p).0
name_any fields n f name below is p =
    is ∙ ap (λ (q : Part). q.0) (get_or_any fields n f p below)

pub in_order_at : (fields : List Part) (order : List ℕ) (i : ℕ) → IsOrder fields order
    → i < length order → IsMember fields i (get_or order i 0)
in_order_at fields order i is below =
    let within : i < length (in_order fields) = omega (arith, order_length fields order is) in
    let found = entry_of (in_order fields) i (IsFieldOf fields) within (each_in_order fields) in
    subst (IsMember fields i) (sym (ap (λ ns. get_or ns i 0) is)) (record {
      below = found.1.0;
      here = λ name named.
          let n = get_or (map (λ (e : List ℕ × ℕ). e.1) (in_order fields)) i 0 in
          sym (found.2 (name, n) ∙ ap (λ (l : List ℕ). (l, n)) (found.1.1 ∙ sym (named ([], 0))));
    })
