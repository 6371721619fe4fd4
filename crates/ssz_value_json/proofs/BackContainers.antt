-- Containers are read back, and walked to themselves.
use Rattle.std.proofs.Common.{◌≡◌, ℕ, suc, ◌+◌, ◌≤◌, true, eqb, List, [], ◌∷◌, length, Some, None, Ok, refl, sym, ap, ◌∙◌, arith, Ordering, Less, Equal, Greater}
use Rattle.std.specs.Prelude.{is_some}
use Rattle.std.specs.List.{list_all, IsDistinct}
use Rattle.std.specs.Cmp.Lexicographic.{slice_cmp}
use Rattle.std.specs.Ordering.{nat_cmp, match_ordering}
use Rattle.std.specs.Str.{bytes_eq}
use Rattle.std.proofs.lemmas.Bool.{and_from, eq-eqb}
use Rattle.serde_json.specs.Data.{Data, Members, no_members, member, put}
use Rattle.serde_json.specs.Events.{members_len}
use Rattle.serde_json.specs.Find.{get_member}
use Rattle.serde_json.proofs.Views.{get_member-put, get_member-put_other}
use Rattle.ssz_schema.specs.Legal.{field_names}
use Rattle.ssz_schema.specs.Names.{IsName}
use Rattle.ssz_schema.specs.Sizes.{nesting, field_nesting}
use Rattle.ssz_schema.specs.Types.{SszType, Fields, container, no_fields, field}
use Rattle.ssz_value.specs.Values.{SszValue, sequence, values, items, Fits, FitFields}
use Rattle.ssz_value.proofs.Sequences.{values-items}
use Rattle.ssz_json_text.specs.Text.{json_of, members_json}
use Rattle.ssz_value_json.specs.Steps.{◌>>=◌, where_holds, next, bad_member}
use Rattle.ssz_value_json.specs.Walk.{json_walk, fields_at, field_walked}
use Rattle.ssz_value_json.proofs.Ascii.{name_utf8}
use Rattle.ssz_json_text.proofs.Lengths.{IsNoField, unlike, distinct_fields, absent, rest_absent}
use Rattle.ssz_value_json.proofs.ReadBack.{ReadsBack, MembersReadBack, AreInOrder, object_back, in_order_put, back_put}
use Rattle.ssz_value_json.proofs.BackWords.{BackLaw, WalksTo, deeper}

-- each field has its member
abbrev HasMembers : Fields → List SszValue → Members → Type 0
HasMembers (field name t fs) (v ∷ vs) ms =
    (get_member name ms ≡ Some (json_of t v)) × HasMembers fs vs ms
HasMembers _ _ ms = Unit {0}

pub record FieldsBack (fs : Fields) : Type 0 where
  pub back : (vs : List SszValue) → FitFields fs vs
      → MembersReadBack (field_nesting fs) (members_json fs vs)
  pub walked : (vs : List SszValue) → FitFields fs vs → (ms : Members) → HasMembers fs vs ms
      → WalksTo (λ n. fields_at fs n ms) vs

has_put : (name : List ℕ) (d : Data) (fs : Fields) (vs : List SszValue) (ms : Members)
    → IsNoField name fs → HasMembers fs vs ms → HasMembers fs vs (put name d ms)
has_put name d no_fields [] ms others h = tt
has_put name d no_fields (v ∷ vs) ms others h = tt
has_put name d (field other t fs) [] ms others h = tt
has_put name d (field other t fs) (v ∷ vs) ms others h = (
  get_member-put_other other name d ms (λ same. unlike name other others.0 (sym same)) ∙ h.0,
  has_put name d fs vs ms others.1 h.1,
)

has_members : (fs : Fields) (vs : List SszValue) → IsDistinct bytes_eq (field_names fs)
    → HasMembers fs vs (members_json fs vs)
has_members no_fields [] all = tt
has_members no_fields (v ∷ vs) all = tt
has_members (field name t fs) [] all = tt
has_members (field name t fs) (v ∷ vs) all =
    let rest = distinct_fields name t fs all in (
      get_member-put name (json_of t v) (members_json fs vs),
      has_put name (json_of t v) fs vs (members_json fs vs) rest.0 (has_members fs vs rest.1),
    )

in_order : (fs : Fields) (vs : List SszValue) → AreInOrder (members_json fs vs)
in_order no_fields [] = tt
in_order no_fields (v ∷ vs) = tt
in_order (field name t fs) [] = tt
in_order (field name t fs) (v ∷ vs) =
    in_order_put name (json_of t v) (members_json fs vs) (in_order fs vs)

found_all : (fs : Fields) (vs : List SszValue) (ms : Members) → FitFields fs vs
    → HasMembers fs vs ms
    → list_all (λ name. is_some (get_member name ms)) (field_names fs) ≡ true
found_all no_fields vs ms fit h = refl
found_all (field name t fs) [] ms fit h = absurd fit
found_all (field name t fs) (v ∷ vs) ms fit h =
    and_from (is_some (get_member name ms))
    (list_all (λ name. is_some (get_member name ms)) (field_names fs))
    (ap is_some h.0) (found_all fs vs ms fit.1 h.1)

put_count_at : (o : Ordering) (k l : List ℕ) (d e : Data) (ms later : Members)
    → match_ordering o None (Some e) None ≡ None → members_len later ≡ suc (members_len ms)
    → members_len (match_ordering o (member k d (member l e ms)) (member l d ms) (member l e later))
    ≡ suc (members_len (member l e ms))
put_count_at Less k l d e ms later none is = refl
put_count_at Equal k l d e ms later none is = absurd (cc)
put_count_at Greater k l d e ms later none is = ap suc is

put_count : (k : List ℕ) (d : Data) (ms : Members) → get_member k ms ≡ None
    → members_len (put k d ms) ≡ suc (members_len ms)
put_count k d no_members none = refl
put_count k d (member l e ms) none =
    let parts = rest_absent (slice_cmp nat_cmp k l) e (get_member k ms) none in
    put_count_at (slice_cmp nat_cmp k l) k l d e ms (put k d ms) parts.1 (put_count k d ms parts.0)

count_is : (fs : Fields) (vs : List SszValue) → FitFields fs vs
    → IsDistinct bytes_eq (field_names fs)
    → length (field_names fs) ≡ members_len (members_json fs vs)
count_is no_fields [] fit all = refl
count_is no_fields (v ∷ vs) fit all = absurd fit
count_is (field name t fs) [] fit all = absurd fit
count_is (field name t fs) (v ∷ vs) fit all =
    let rest = distinct_fields name t fs all in
    ap suc (count_is fs vs fit.1 rest.1)
    ∙ sym (put_count name (json_of t v) (members_json fs vs) (absent name fs vs rest.0))

container_law : (fs : Fields) → FieldsBack fs → IsDistinct bytes_eq (field_names fs)
    → (v : SszValue) → Fits (container fs) v
    → ReadsBack (field_nesting fs + 1) (json_of (container fs) v)
    × WalksTo (λ n. json_walk (container fs) n (json_of (container fs) v)) v
container_law fs law all (sequence ws) fit =
    let vs = items ws in
    let ms = members_json fs vs in
    let has = has_members fs vs all in
    let whole = and_from (eqb (length (field_names fs)) (members_len ms))
    (list_all (λ name. is_some (get_member name ms)) (field_names fs))
    (eq-eqb (length (field_names fs)) (members_len ms) (count_is fs vs fit all))
    (found_all fs vs ms fit has) in (
      deeper (suc (field_nesting fs)) (field_nesting fs + 1) _ (omega arith)
          (object_back (field_nesting fs) ms (law.back vs fit) (in_order fs vs)),
      λ n. let parts = law.walked vs fit ms has (next n) in (
        parts.0,
        ap (λ b. where_holds b ms (bad_member n) >>= λ some. fields_at fs (next n) some >>= λ p.
            Ok (sequence (values p.0), p.1)) whole
            ∙ ap (λ r. r >>= λ p. Ok (sequence (values p.0), p.1)) parts.1
            ∙ ap (λ us. Ok (sequence us, parts.0)) (values-items ws),
      ),
    )
container_law fs law all _ h = absurd h

pub container_back : (fs : Fields) → FieldsBack fs → IsDistinct bytes_eq (field_names fs)
    → BackLaw (container fs)
container_back fs law all = record {
  back = λ v h. (container_law fs law all v h).0;
  walked = λ v h. (container_law fs law all v h).1;
}

members_deeper : (n m : ℕ) (ms : Members) → n ≤ m → MembersReadBack n ms → MembersReadBack m ms
members_deeper n m no_members more h = tt
members_deeper n m (member k d ms) more h =
    (h.0, deeper n m d more h.1, members_deeper n m ms more h.2)

pub no_fields_back : FieldsBack no_fields
no_fields_back = record {
  back = λ vs fit. none vs fit;
  walked = λ vs fit ms h n. (n, empty vs fit ms n);
}
  where
    none : (vs : List SszValue) → FitFields no_fields vs
        → MembersReadBack (field_nesting no_fields) (members_json no_fields vs)
    none [] fit = tt
    none (v ∷ vs) fit = absurd fit

    empty : (vs : List SszValue) → FitFields no_fields vs → (ms : Members) (n : ℕ)
        → fields_at no_fields n ms ≡ Ok (vs, n)
    empty [] fit ms n = refl
    empty (v ∷ vs) fit ms n = absurd fit

field_back_at : (name : List ℕ) (t : SszType) (fs : Fields) → IsName name → BackLaw t
    → FieldsBack fs → (vs : List SszValue) → FitFields (field name t fs) vs
    → MembersReadBack (field_nesting (field name t fs)) (members_json (field name t fs) vs)
field_back_at name t fs is law rest [] fit = absurd fit
field_back_at name t fs is law rest (v ∷ vs) fit =
    let n = field_nesting (field name t fs) in
    back_put n name (json_of t v) (members_json fs vs) (name_utf8 name is)
    (deeper (nesting t) n (json_of t v) (omega arith) (law.back v fit.0))
    (members_deeper (field_nesting fs) n (members_json fs vs) (omega arith) (rest.back vs fit.1))

field_walk_at : (name : List ℕ) (t : SszType) (fs : Fields) → BackLaw t → FieldsBack fs
    → (vs : List SszValue) → FitFields (field name t fs) vs → (ms : Members)
    → HasMembers (field name t fs) vs ms → WalksTo (λ n. fields_at (field name t fs) n ms) vs
field_walk_at name t fs law rest [] fit ms has n = absurd fit
field_walk_at name t fs law rest (v ∷ vs) fit ms has n =
    let first = law.walked v fit.0 n in
    let others = rest.walked vs fit.1 ms has.1 first.0 in (
      others.0,
      ap (λ r. r >>= λ p. fields_at fs p.1 ms >>= λ q. Ok (p.0 ∷ q.0, q.1))
          (ap (field_walked (json_walk t) n) has.0 ∙ first.1)
          ∙ ap (λ r. r >>= λ q. Ok (v ∷ q.0, q.1)) others.1,
    )

pub field_back : (name : List ℕ) (t : SszType) (fs : Fields) → IsName name → BackLaw t
    → FieldsBack fs → FieldsBack (field name t fs)
field_back name t fs is law rest = record {
  back = field_back_at name t fs is law rest;
  walked = field_walk_at name t fs law rest;
}
