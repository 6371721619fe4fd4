-- Lengths of arrays and objects, added up part by part.
use Rattle.std.proofs.Common.{◌≡◌, ℕ, ◌+◌, ◌^◌, ◌<◌, ◌≤◌, true, false, List, [], ◌∷◌, ◌++◌, length, map, drop, get_or, sum_by, Option, Some, None, refl, sym, ap, ap₂, ◌∙◌, arith, length-append, Ordering, Less, Equal, Greater}
use Rattle.std.specs.Cmp.Lexicographic.{slice_cmp}
use Rattle.std.specs.Ordering.{nat_cmp, match_ordering}
use Rattle.std.proofs.lemmas.List.{drop_all, length-map}
use Rattle.std.proofs.lemmas.Simd.{map-map}
use Rattle.std.proofs.lemmas.List.Sums.{sum_by-cons}
use Rattle.json.specs.Print.{quoted}
use Rattle.serde_json.specs.Data.{Data, array, object, Members, no_members, member, put}
use Rattle.serde_json.specs.Find.{get_member}
use Rattle.serde_json.specs.View.{items_of}
use Rattle.serde_json.specs.Written.{compact_text, items_text, members_text}
use Rattle.std.proofs.Common.{true≢false}
use Rattle.std.specs.List.{AllByRecursion, IsDistinct}
use Rattle.std.specs.Str.{bytes_eq}
use Rattle.std.proofs.lemmas.Slice.Eq.{bytes_eq-Decides}
use Rattle.serde_json.proofs.Views.{get_member-put_other}
use Rattle.ssz_schema.specs.format.Format.{Format}
use Rattle.ssz_schema.specs.Types.{SszType, Fields, container, no_fields, field}
use Rattle.ssz_schema.specs.Legal.{IsLegal, field_names}
use Rattle.ssz_schema.specs.Names.{IsName}
use Rattle.ssz_schema.specs.Sizes.{field_count}
use Rattle.ssz_schema.specs.Unfolding.{type_tree_at, fields_over}
use Rattle.ssz_value.specs.declared.value.Value.{Value}
use Rattle.ssz_value.specs.Values.{SszValue}
use Rattle.ssz_value.specs.Standing.{value_of}
use Rattle.ssz_value.specs.Shapes.{AreFields}
use Rattle.ssz_schema.proofs.WalkFields.{drop_at}
use Rattle.ssz_value.proofs.PartLemmas.{Part}
use Rattle.ssz_json_text.specs.Text.{json, json_of, members_json}
use Rattle.ssz_value.specs.Written.{capped}
use Rattle.ssz_json_text.proofs.Plain.{name_plain, length-quoted_plain}

-- what an element takes: its text, and a comma or bracket
abbrev pub item_size : Data → ℕ
item_size d = length (compact_text d) + 1

tail_length : (ds : List Data) → length (items_text true (items_of ds)) ≡ sum_by item_size ds + 1
tail_length [] = refl
tail_length (d ∷ ds) =
    let rest = tail_length ds in
    let here = length-append (compact_text d) (items_text true (items_of ds)) in
    omega (arith, rest, here, sum_by-cons item_size d ds)

-- an array of some elements
pub array_length : (ds : List Data) → 0 < length ds
    → length (compact_text (array (items_of ds))) ≡ sum_by item_size ds + 1
array_length [] some = absurd (omega arith)
array_length (d ∷ ds) some =
    let rest = tail_length ds in
    let here = length-append (compact_text d) (items_text true (items_of ds)) in
    omega (arith, rest, here, sum_by-cons item_size d ds)

-- what a member takes: its name in quotes, a colon, its text, and a comma or brace
abbrev pub member_size : List ℕ → Data → ℕ
member_size k d = length (quoted k) + length (compact_text d) + 2

abbrev pub members_size : Members → ℕ
members_size no_members = 0
members_size (member k d ms) = member_size k d + members_size ms

later_members : (ms : Members) → length (members_text true ms) ≡ members_size ms + 1
later_members no_members = refl
later_members (member k d ms) =
    let rest = later_members ms in
    let value = length-append (compact_text d) (members_text true ms) in
    let key = length-append (quoted k) (58 ∷ (compact_text d ++ members_text true ms)) in
    omega (arith, rest, value, key)

-- an object of some members
pub object_length : (ms : Members) → 0 < members_size ms
    → length (compact_text (object ms)) ≡ members_size ms + 1
object_length no_members some = absurd (omega arith)
object_length (member k d ms) some =
    let rest = later_members ms in
    let value = length-append (compact_text d) (members_text true ms) in
    let key = length-append (quoted k) (58 ∷ (compact_text d ++ members_text true ms)) in
    omega (arith, rest, value, key)

put_at : (o : Ordering) (k l : List ℕ) (d e : Data) (ms later : Members)
    → match_ordering o None (Some e) None ≡ None
    → members_size later ≡ member_size k d + members_size ms
    → members_size (match_ordering o (member k d (member l e ms)) (member l d ms)
    (member l e later))
    ≡ member_size k d + members_size (member l e ms)
put_at Less k l d e ms later absent is = refl
put_at Equal k l d e ms later absent is = absurd (cc)
put_at Greater k l d e ms later absent is = omega (arith, is)

pub rest_absent : (o : Ordering) (e : Data) (rest : Option Data)
    → match_ordering o rest (Some e) rest ≡ None
    → (rest ≡ None) × (match_ordering o None (Some e) None ≡ None)
rest_absent Less e rest h = (h, refl)
rest_absent Equal e rest h = absurd (cc)
rest_absent Greater e rest h = (h, refl)

-- one member more
pub put_size : (k : List ℕ) (d : Data) (ms : Members) → get_member k ms ≡ None
    → members_size (put k d ms) ≡ member_size k d + members_size ms
put_size k d no_members absent = refl
put_size k d (member l e ms) absent =
    let parts = rest_absent (slice_cmp nat_cmp k l) e (get_member k ms) absent in
    put_at (slice_cmp nat_cmp k l) k l d e ms (put k d ms) parts.1 (put_size k d ms parts.0)

-- sums

sum_over : {X : Type 0} (f : Data → ℕ) (g : X → Data) (xs : List X)
    → sum_by f (map g xs) ≡ sum_by (λ x. f (g x)) xs
sum_over f g [] = refl
sum_over f g (x ∷ xs) =
    sum_by-cons f (g x) (map g xs)
    ∙ ap (λ n. f (g x) + n) (sum_over f g xs) ∙ sym (sum_by-cons (λ x. f (g x)) x xs)

-- what an element of this type takes
abbrev pub value_size : SszType → Value → ℕ
value_size t v = item_size (json_of t (value_of v))

-- an array of elements of this type
pub elements_length : (t : SszType) (vs : List Value) → 0 < length vs
    → length (compact_text (array (items_of (map (json_of t) (map value_of vs)))))
    ≡ sum_by (value_size t) vs + 1
elements_length t vs some =
    array_length (map (json_of t) (map value_of vs)) (omega (
      arith,
      length-map (map value_of vs) (json_of t),
      length-map vs value_of,
    ))
    ∙ ap (λ n. n + 1) (ap (sum_by item_size) (map-map (json_of t) value_of vs)
    ∙ sum_over item_size (λ v. json_of t (value_of v)) vs)

-- the sum so far and that of the elements from i on
pub record SumFrom (t : SszType) (parts : List Value) (i total : ℕ) : Type 0 where
  pub all : capped (total + sum_by (value_size t) (drop i parts))
      ≡ capped (sum_by (value_size t) parts + 1)
  pub small : total < 2 ^ 64

pub SumFrom-more : (t : SszType) (parts : List Value) (i total next : ℕ) (v : Value)
    → SumFrom t parts i total → i < length parts → v ≡ get_or parts i v
    → next ≡ capped (total + capped (capped (length (json t (value_of v))) + 1))
    → SumFrom t parts (i + 1) next
SumFrom-more t parts i total next v h below e is =
    let here : sum_by (value_size t) (drop i parts)
    ≡ value_size t v + sum_by (value_size t) (drop (i + 1) parts) =
    ap (sum_by (value_size t)) (drop_at parts i v below e)
    ∙ sum_by-cons (value_size t) v (drop (i + 1) parts) in
    record { all = omega (arith, h.all, h.small, here, is); small = omega (arith, is) }

pub SumFrom-end : (t : SszType) (parts : List Value) (i total : ℕ) → SumFrom t parts i total
    → length parts ≤ i → total ≡ capped (sum_by (value_size t) parts + 1)
SumFrom-end t parts i total h all =
    omega (arith, h.all, h.small, ap (sum_by (value_size t)) (drop_all i parts all))

-- fields

-- what the members of the fields take
abbrev pub fields_size : Fields → List SszValue → ℕ
fields_size (field name t fs) (v ∷ vs) = member_size name (json_of t v) + fields_size fs vs
fields_size _ _ = 0

-- no field has this name
abbrev pub IsNoField : List ℕ → Fields → Type 0
IsNoField name fs = AllByRecursion (λ other. bytes_eq name other ≡ false) (field_names fs)

pub unlike : (k l : List ℕ) → bytes_eq k l ≡ false → k ≡ l → ⊥
unlike k l e same = true≢false (sym ((bytes_eq-Decides k l).1 same) ∙ e)

-- then no member has it
pub absent : (name : List ℕ) (fs : Fields) (vs : List SszValue) → IsNoField name fs
    → get_member name (members_json fs vs) ≡ None
absent name no_fields [] others = refl
absent name no_fields (v ∷ vs) others = refl
absent name (field other t fs) [] others = refl
absent name (field other t fs) (v ∷ vs) others =
    get_member-put_other name other (json_of t v) (members_json fs vs)
    (unlike name other others.0) ∙ absent name fs vs others.1

pub distinct_fields : (name : List ℕ) (t : SszType) (fs : Fields)
    → IsDistinct bytes_eq (field_names (field name t fs))
    → IsNoField name fs × IsDistinct bytes_eq (field_names fs)
unfolding IsDistinct
distinct_fields name t fs all = (all.0, all.1)

pub members_are : (fs : Fields) (vs : List SszValue) → IsDistinct bytes_eq (field_names fs)
    → members_size (members_json fs vs) ≡ fields_size fs vs
members_are no_fields [] all = refl
members_are no_fields (v ∷ vs) all = refl
members_are (field name t fs) [] all = refl
members_are (field name t fs) (v ∷ vs) all =
    let rest = distinct_fields name t fs all in
    put_size name (json_of t v) (members_json fs vs) (absent name fs vs rest.0)
    ∙ ap (λ n. member_size name (json_of t v) + n) (members_are fs vs rest.1)

some_size : (fs : Fields) (vs : List Value) → 0 < field_count fs → AreFields fs vs
    → 0 < fields_size fs (map value_of vs)
some_size no_fields vs some all = absurd (omega arith)
some_size (field name t fs) [] some all = absurd all
some_size (field name t fs) (v ∷ vs) some all = omega arith

-- an object of the fields
pub fields_length : (format : Format) (fs : Fields) (vs : List Value)
    → IsLegal format (container fs) → AreFields fs vs
    → length (compact_text (object (members_json fs (map value_of vs))))
    ≡ fields_size fs (map value_of vs) + 1
fields_length format fs vs legal all =
    let size = members_are fs (map value_of vs) legal.2 in
    let some = some_size fs vs legal.0 all in
    object_length (members_json fs (map value_of vs)) (omega (arith, size, some))
    ∙ ap (λ n. n + 1) size

-- the sum so far and that of the fields from i on
pub record FieldSumFrom (trees : List SszType) (fields : List Part) (parts : List Value)
    (i total : ℕ) : Type 0 where
  pub all : capped (total + fields_size (fields_over trees (drop i fields))
      (map value_of (drop i parts)))
      ≡ capped (fields_size (fields_over trees fields) (map value_of parts) + 1)
  pub small : total < 2 ^ 64

pub FieldSumFrom-more : (trees : List SszType) (fields : List Part) (parts : List Value)
    (i total next name text : ℕ) (part : Part) (v : Value)
    → FieldSumFrom trees fields parts i total → IsName part.0
    → i < length fields → i < length parts → part ≡ get_or fields i part → v ≡ get_or parts i v
    → name ≡ length part.0 → text ≡ capped (length (json (type_tree_at trees part.1) (value_of v)))
    → next ≡ capped (total + capped (text + capped (name + 4)))
    → FieldSumFrom trees fields parts (i + 1) next
FieldSumFrom-more trees fields parts i total next name text part v h named below within e is n s
    next_is =
    let quotes = length-quoted_plain part.0 (name_plain part.0 named) in
    let here : fields_size (fields_over trees (drop i fields)) (map value_of (drop i parts))
    ≡ member_size part.0 (json_of (type_tree_at trees part.1) (value_of v)) + fields_size
    (fields_over trees (drop (i + 1) fields)) (map value_of (drop (i + 1) parts)) =
    ap₂ (λ fs vs. fields_size (fields_over trees fs) (map value_of vs))
    (drop_at fields i part below e) (drop_at parts i v within is) in
    record {
      all = omega (arith, h.all, h.small, here, quotes, n, s, next_is);
      small = omega (arith, next_is);
    }

pub FieldSumFrom-end : (trees : List SszType) (fields : List Part) (parts : List Value)
    (i total : ℕ) → FieldSumFrom trees fields parts i total → length fields ≤ i
    → total ≡ capped (fields_size (fields_over trees fields) (map value_of parts) + 1)
FieldSumFrom-end trees fields parts i total h all =
    omega (
      arith,
      h.all,
      h.small,
      ap (λ fs. fields_size (fields_over trees fs) (map value_of (drop i parts)))
          (drop_all i fields all),
    )
