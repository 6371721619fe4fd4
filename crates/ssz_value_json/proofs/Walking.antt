-- Walks over parts one after another.
use Rattle.std.proofs.Common.{◌≡◌, ℕ, zero, suc, ◌+◌, ◌<◌, List, [], ◌∷◌, ◌++◌, length, drop, get_or, Option, Some, None, Ok, Err, Result, refl, sym, ap, ap₂, subst, ◌∙◌, append_assoc}
use Rattle.std.specs.Option.{ok_or}
use Rattle.std.proofs.Common.{Bool, true, false, slice_get}
use Rattle.serde_json.specs.Data.{Data, null, boolean, number, string, array, object, Items, item, Members}
use Rattle.serde_json.specs.Events.{items_len}
use Rattle.serde_json.specs.Find.{as_array, as_object}
use Rattle.ssz_value_json.specs.declared.count.Count.{Count}
use Rattle.serde_json.specs.View.{view, items_view}
use Rattle.serde_json.specs.declared.value.Value.{Value as Json}
use Rattle.ssz_value.specs.Values.{SszValue, sequence, chosen, values}
use Rattle.ssz_value.specs.declared.value.Value.{Value}
use Rattle.ssz_value.specs.Standing.{value_of, IsFormed}
use Rattle.ssz_schema.proofs.WalkFields.{drop_at}
use Rattle.ssz_value.proofs.PartLemmas.{Part}
use Rattle.ssz_schema.specs.Types.{SszType, Fields, Options, container}
use Rattle.ssz_schema.specs.Legal.{field_names}
use Rattle.ssz_schema.specs.Unfolding.{type_tree_at, fields_over, options_over}
use Rattle.ssz_value_json.specs.declared.fault.JsonFault.{JsonFault}
use Rattle.ssz_value_json.specs.declared.fault.JsonRead.{JsonRead}
use Rattle.ssz_value_json.specs.declared.fault.JsonRead.TheVariants.{Bad, Memory}
use Rattle.ssz_value_json.specs.Steps.{Found, Walked, ◌>>=◌, leaf, next, where_holds, allows, bad_kind, bad_count, bad_member, json_bad_selector}
use Rattle.ssz_value_json.specs.Walk.{json_walk, sequence_at, elements_at, fields_at, option_at, none_at, are_members, members_in}
use Rattle.ssz_json_text.proofs.FieldNames.{names_over}
use Rattle.ssz_value_json.proofs.Names.{names_of}
use Rattle.ssz_value_json.specs.Answers.{FindsJson, WalksJson}

-- what is found stands behind these
abbrev pub before : List SszValue → Walked (List SszValue) → Walked (List SszValue)
before xs (Ok p) = Ok (xs ++ p.0, p.1)
before xs (Err f) = Err f

pub before_none : (r : Walked (List SszValue)) → r ≡ before [] r
before_none (Ok p) = refl
before_none (Err f) = refl

-- one part, and then the others
abbrev pub one_then : Walked SszValue → (ℕ → Walked (List SszValue)) → Walked (List SszValue)
one_then first rest = first >>= λ p. rest p.1 >>= λ q. Ok (p.0 ∷ q.0, q.1)

one_more : (xs : List SszValue) (w : SszValue) (r : Walked (List SszValue))
    → before xs (r >>= λ q. Ok (w ∷ q.0, q.1)) ≡ before (xs ++ w ∷ []) r
one_more xs w (Ok q) = ap (λ ys. Ok (ys, q.1)) (sym (append_assoc xs (w ∷ []) q.0))
one_more xs w (Err f) = refl

pub then_more : (whole : Walked (List SszValue)) (xs : List SszValue) (first : Walked SszValue)
    (rest : ℕ → Walked (List SszValue)) (w : SszValue) (n : ℕ)
    → whole ≡ before xs (one_then first rest) → first ≡ Ok (w, n)
    → whole ≡ before (xs ++ w ∷ []) (rest n)
then_more whole xs first rest w n h is =
    h ∙ ap (λ f. before xs (one_then f rest)) is ∙ one_more xs w (rest n)

pub then_found : (whole : Walked (List SszValue)) (xs : List SszValue) (first : Walked SszValue)
    (rest : ℕ → Walked (List SszValue)) (f : JsonFault)
    → whole ≡ before xs (one_then first rest) → first ≡ Err f → whole ≡ Err f
then_found whole xs first rest f h is = h ∙ ap (λ r. before xs (one_then r rest)) is

pub leaf_walks : {X : Type 0} (seen : X → SszValue) (P Q : X → Type 0) (n : ℕ)
    (found : Found SszValue) (r : Result X JsonRead) → ((x : X) → P x → Q x)
    → FindsJson seen P found r → WalksJson seen Q (leaf n found) (next n) r
leaf_walks seen P Q n found (Ok x) f h = (ap (leaf n) h.0, f x h.1)
leaf_walks seen P Q n found (Err (Bad g)) f h = ap (leaf n) h
leaf_walks seen P Q n found (Err Memory) f h = tt

-- the same at a type whose values have one form each
pub leaf_of : (t form : SszType) (first here behind : ℕ) (d : Data)
    (found : ℕ → Found SszValue) (r : Result Value JsonRead) → t ≡ form
    → ((n : ℕ) → json_walk form n d ≡ leaf n (found n)) → ((v : Value) → IsFormed form v)
    → here ≡ first → behind ≡ next first → FindsJson value_of (λ _. Unit {0}) (found here) r
    → WalksJson value_of (IsFormed t) (json_walk t first d) behind r
leaf_of t form first here behind d found r same is formed at after finds =
    let walked = subst (λ (w : Walked SszValue).
    WalksJson value_of (IsFormed form) w (next first) r)
    (sym (is first))
    (leaf_walks value_of (λ _. Unit {0}) (IsFormed form) first (found first) r
    (λ v known. formed v)
    (subst (λ (n : ℕ). FindsJson value_of (λ _. Unit {0}) (found n) r) at finds)) in
    subst (λ (ty : SszType). WalksJson value_of (IsFormed ty) (json_walk ty first d) behind r)
    (sym same)
    (subst (λ (n : ℕ). WalksJson value_of (IsFormed form) (json_walk form first d) n r)
    (sym after) walked)

-- the fault of a part is that of the whole
pub passed_on : {X Y A B : Type 0} (seen : X → A) (P : X → Type 0) (r : Walked A) (behind : ℕ)
    (e : JsonRead) (other : Y → B) (Q : Y → Type 0) (whole : Walked B) (end : ℕ)
    → WalksJson seen P r behind (Err e) → ((f : JsonFault) → r ≡ Err f → whole ≡ Err f)
    → WalksJson other Q whole end (Err e)
passed_on seen P r behind (Bad f) other Q whole end h next = next f h
passed_on seen P r behind Memory other Q whole end h next = tt

pub item_here : (items : List Json) (i : ℕ) (j : Json) → i < length items → j ≡ get_or items i j
    → items_view (drop i items) ≡ item (view j) (items_view (drop (i + 1) items))
item_here items i j below here = ap items_view (drop_at items i j below here)

-- an array of elements
pub array_refused : (b : Bool) (part : ℕ → Data → Walked SszValue) (many : Count) (n : ℕ)
    (d : Data) (ds : Items) → b ≡ false → as_array d ≡ Some ds
    → allows many (items_len ds) ≡ false → sequence_at b part many n d ≡ Err (bad_count n)
array_refused true part many n d ds other is few = absurd (cc)
array_refused false part many n d ds other is few =
    ap (λ o. ok_or o (bad_kind n) >>= λ es.
    where_holds (allows many (items_len es)) es (bad_count n) >>= λ some.
    elements_at part (next n) some >>= λ parts.
    Ok (sequence (values parts.0), parts.1)) is
    ∙ ap (λ c. where_holds c ds (bad_count n) >>= λ some.
    elements_at part (next n) some >>= λ parts. Ok (sequence (values parts.0), parts.1)) few

pub array_is : (b : Bool) (part : ℕ → Data → Walked SszValue) (many : Count) (n : ℕ)
    (d : Data) (ds : Items) → b ≡ false → as_array d ≡ Some ds
    → allows many (items_len ds) ≡ true
    → sequence_at b part many n d
    ≡ (elements_at part (next n) ds >>= λ parts. Ok (sequence (values parts.0), parts.1))
array_is true part many n d ds other is few = absurd (cc)
array_is false part many n d ds other is few =
    ap (λ o. ok_or o (bad_kind n) >>= λ es.
    where_holds (allows many (items_len es)) es (bad_count n) >>= λ some.
    elements_at part (next n) some >>= λ parts.
    Ok (sequence (values parts.0), parts.1)) is
    ∙ ap (λ c. where_holds c ds (bad_count n) >>= λ some.
    elements_at part (next n) some >>= λ parts. Ok (sequence (values parts.0), parts.1)) few

-- a container
pub members_refused : (fs : Fields) (n : ℕ) (d : Data) (ms : Members) → as_object d ≡ Some ms
    → are_members (field_names fs) ms ≡ false → json_walk (container fs) n d ≡ Err (bad_member n)
members_refused fs n d ms is few =
    ap (λ o. ok_or o (bad_kind n) >>= λ found.
    where_holds (are_members (field_names fs) found) found (bad_member n) >>= λ all.
    fields_at fs (next n) all >>= λ parts. Ok (sequence (values parts.0), parts.1)) is
    ∙ ap (λ c. where_holds c ms (bad_member n) >>= λ all.
    fields_at fs (next n) all >>= λ parts. Ok (sequence (values parts.0), parts.1)) few

pub members_are_walked : (fs : Fields) (n : ℕ) (d : Data) (ms : Members) → as_object d ≡ Some ms
    → are_members (field_names fs) ms ≡ true
    → json_walk (container fs) n d
    ≡ (fields_at fs (next n) ms >>= λ parts. Ok (sequence (values parts.0), parts.1))
members_are_walked fs n d ms is few =
    ap (λ o. ok_or o (bad_kind n) >>= λ found.
    where_holds (are_members (field_names fs) found) found (bad_member n) >>= λ all.
    fields_at fs (next n) all >>= λ parts. Ok (sequence (values parts.0), parts.1)) is
    ∙ ap (λ c. where_holds c ms (bad_member n) >>= λ all.
    fields_at fs (next n) all >>= λ parts. Ok (sequence (values parts.0), parts.1)) few

pub object_members : (d : Data) (ms : Members) → as_object d ≡ Some ms → members_in d ≡ ms
object_members (object xs) ms e = cc
object_members null ms e = absurd (cc)
object_members (boolean b) ms e = absurd (cc)
object_members (number x) ms e = absurd (cc)
object_members (string s) ms e = absurd (cc)
object_members (array ds) ms e = absurd (cc)

-- a union
abbrev pub union_then : Options → ℕ → Option (ℕ × Data) → Walked SszValue
union_then os n o = ok_or o (bad_kind n) >>= λ pair. option_at os pair.0 pair.0 n pair.1

-- a value under a selector
abbrev pub chosen_of : ℕ → Walked SszValue → Walked SszValue
chosen_of k r = r >>= λ inner. Ok (chosen k inner.0, inner.1)

pub option_past : (trees : List SszType) (ids : List (Option ℕ)) (left k n : ℕ) (d : Data)
    → None ≡ slice_get ids left
    → option_at (options_over trees ids) left k n d ≡ Err (json_bad_selector n)
option_past trees [] left k n d e = refl
option_past trees (None ∷ ids) zero k n d e = absurd (cc)
option_past trees (Some id ∷ ids) zero k n d e = absurd (cc)
option_past trees (None ∷ ids) (suc left) k n d e = option_past trees ids left k n d e
option_past trees (Some id ∷ ids) (suc left) k n d e = option_past trees ids left k n d e

pub option_none : (trees : List SszType) (ids : List (Option ℕ)) (left k n : ℕ) (d : Data)
    → Some None ≡ slice_get ids left
    → option_at (options_over trees ids) left k n d ≡ none_at k (next n) d
option_none trees [] left k n d e = absurd (cc)
option_none trees (None ∷ ids) zero k n d e = refl
option_none trees (Some id ∷ ids) zero k n d e = absurd (let same : Some id ≡ None = cc in cc)
option_none trees (None ∷ ids) (suc left) k n d e = option_none trees ids left k n d e
option_none trees (Some id ∷ ids) (suc left) k n d e = option_none trees ids left k n d e

pub option_some : (trees : List SszType) (ids : List (Option ℕ)) (left k n id : ℕ) (d : Data)
    → Some (Some id) ≡ slice_get ids left
    → option_at (options_over trees ids) left k n d
    ≡ (json_walk (type_tree_at trees id) (next n) d >>= λ inner. Ok (chosen k inner.0, inner.1))
option_some trees [] left k n id d e = absurd (cc)
option_some trees (None ∷ ids) zero k n id d e = absurd (let same : Some id ≡ None = cc in cc)
option_some trees (Some other ∷ ids) zero k n id d e = let same : other ≡ id = cc in
    ap (λ i. json_walk (type_tree_at trees i) (next n) d
    >>= λ inner. Ok (chosen k inner.0, inner.1)) same
option_some trees (None ∷ ids) (suc left) k n id d e = option_some trees ids left k n id d e
option_some trees (Some other ∷ ids) (suc left) k n id d e =
    option_some trees ids left k n id d e

pub items_len_is : (vs : List Json) → items_len (items_view vs) ≡ length vs
items_len_is [] = refl
items_len_is (v ∷ vs) = ap suc (items_len_is vs)

-- ---- what the code found

pub refused_walks : {X A : Type 0} (seen : X → A) (P : X → Type 0) (walked : Walked A)
    (behind : ℕ) (e : JsonRead) (f : JsonFault) → e ≡ Bad f → walked ≡ Err f
    → WalksJson seen P walked behind (Err e)
refused_walks seen P walked behind (Bad g) f e h = let same : g ≡ f = cc in h ∙ ap Err (sym same)
refused_walks seen P walked behind Memory f e h = absurd (cc)

pub walks_as : {X A : Type 0} (seen : X → A) (P Q : X → Type 0) (walked other : Walked A)
    (behind : ℕ) (r : Result X JsonRead) → ((x : X) → P x → Q x) → other ≡ walked
    → WalksJson seen P walked behind r → WalksJson seen Q other behind r
walks_as seen P Q walked other behind (Ok x) f is h = (is ∙ h.0, f x h.1)
walks_as seen P Q walked other behind (Err (Bad g)) f is h = is ∙ h
walks_as seen P Q walked other behind (Err Memory) f is h = tt

-- the parts make a sequence
abbrev pub whole_of : Walked (List SszValue) → Walked SszValue
whole_of r = r >>= λ parts. Ok (sequence (values parts.0), parts.1)

pub array_from : (b : Bool) (part : ℕ → Data → Walked SszValue) (many : Count) (n m len : ℕ)
    (d : Data) (xs js : List Json) → b ≡ false → as_array d ≡ Some (items_view xs)
    → len ≡ length xs → allows many len ≡ true → m ≡ next n → js ≡ xs
    → sequence_at b part many n d ≡ whole_of (elements_at part m (items_view js))
array_from b part many n m len d xs js other is long few behind same =
    array_is b part many n d (items_view xs) other is
    (ap (allows many) (items_len_is xs ∙ sym long) ∙ few)
    ∙ ap₂ (λ k ys. whole_of (elements_at part k (items_view ys))) (sym behind) (sym same)

pub container_from : (trees : List SszType) (fields : List Part) (n m : ℕ) (d : Data)
    (ms : Members) (b : Bool) → Some ms ≡ as_object d
    → b ≡ are_members (names_of fields) (members_in d)
    → b ≡ true → m ≡ next n
    → json_walk (container (fields_over trees fields)) n d
    ≡ whole_of (fields_at (fields_over trees fields) m (members_in d))
container_from trees fields n m d ms b is all holds behind =
    let same = object_members d ms (sym is) in
    members_are_walked (fields_over trees fields) n d ms (sym is)
    (ap₂ are_members (names_over trees fields) (sym same) ∙ sym all ∙ holds)
    ∙ ap₂ (λ k es. whole_of (fields_at (fields_over trees fields) k es)) (sym behind) (sym same)

pub container_refused : (trees : List SszType) (fields : List Part) (n : ℕ) (d : Data)
    (ms : Members) (b : Bool) → Some ms ≡ as_object d
    → b ≡ are_members (names_of fields) (members_in d)
    → b ≡ false → json_walk (container (fields_over trees fields)) n d ≡ Err (bad_member n)
container_refused trees fields n d ms b is all fails =
    let same = object_members d ms (sym is) in
    members_refused (fields_over trees fields) n d ms (sym is)
    (ap₂ are_members (names_over trees fields) (sym same) ∙ sym all ∙ fails)
