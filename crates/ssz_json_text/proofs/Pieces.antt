-- The texts of arrays and objects, piece by piece.
use Rattle.std.proofs.Common.{◌≡◌, ℕ, zero, suc, ◌+◌, ◌<◌, ◌≤◌, Bool, true, List, [], ◌∷◌, ◌++◌, length, map, drop, get_or, nat_lt, refl, sym, ap, ap₂, ◌∙◌, subst, arith, append_assoc}
use Rattle.std.specs.List.{AllByRecursion}
use Rattle.std.proofs.lemmas.Bool.Decides.{nat_tests}
use Rattle.std.proofs.lemmas.List.{drop_all, length-map}
use Rattle.json.specs.Print.{quoted}
use Rattle.serde_json.specs.Data.{Data, Members, member, put}
use Rattle.serde_json.specs.View.{items_of}
use Rattle.serde_json.specs.Written.{compact_text, items_text, members_text, comma_if}
use Rattle.ssz_schema.specs.Types.{SszType}
use Rattle.ssz_schema.specs.Unfolding.{type_tree_at, fields_over}
use Rattle.ssz_value.specs.declared.value.Value.{Value}
use Rattle.ssz_value.specs.Values.{SszValue, number}
use Rattle.ssz_value.specs.Standing.{value_of, IsValue}
use Rattle.ssz_value.specs.Shapes.{AreFields}
use Rattle.ssz_schema.proofs.WalkFields.{drop_at}
use Rattle.ssz_value.proofs.PartLemmas.{Part}
use Rattle.ssz_json_text.specs.Text.{json, json_of, members_json}
use Rattle.ssz_json_text.proofs.Keeping.{moved}
use Rattle.ssz_json_text.proofs.NameOrder.{Entries, members_from, members_over}

-- the elements from i on, with the commas before them and the closing bracket
abbrev pub elements_left : SszType → List Value → ℕ → List ℕ
elements_left t parts i =
    items_text (nat_lt 0 i) (items_of (map (json_of t) (map value_of (drop i parts))))

pub later : (i : ℕ) → nat_lt 0 (i + 1) ≡ true
later i = grind (arith, nat_tests)

pub elements_more : (t : SszType) (parts : List Value) (i : ℕ) (v : Value)
    (out one two whole : List ℕ) → i < length parts → v ≡ get_or parts i v
    → out ++ elements_left t parts i ≡ whole → one ≡ out ++ comma_if (nat_lt 0 i)
    → two ≡ one ++ json t (value_of v) → two ++ elements_left t parts (i + 1) ≡ whole
elements_more t parts i v out one two whole below here h comma text =
    let rest = items_of (map (json_of t) (map value_of (drop (i + 1) parts))) in
    let split : elements_left t parts i
    ≡ comma_if (nat_lt 0 i) ++ (json t (value_of v) ++ elements_left t parts (i + 1)) =
    ap (λ vs. items_text (nat_lt 0 i) (items_of (map (json_of t) (map value_of vs))))
    (drop_at parts i v below here)
    ∙ ap (λ b. comma_if (nat_lt 0 i) ++ (json t (value_of v) ++ items_text b rest))
    (sym (later i)) in
    moved one two (json t (value_of v)) (elements_left t parts (i + 1)) whole text
    (moved out one (comma_if (nat_lt 0 i))
    (json t (value_of v) ++ elements_left t parts (i + 1)) whole comma
    (ap (λ s. out ++ s) (sym split) ∙ h))

pub elements_end : (t : SszType) (parts : List Value) (i : ℕ) (out new whole : List ℕ)
    → length parts ≤ i → out ++ elements_left t parts i ≡ whole → new ≡ out ++ 93 ∷ []
    → new ≡ whole
elements_end t parts i out new whole all h is =
    is ∙ ap (λ s. out ++ s) (sym (ap (λ vs. items_text (nat_lt 0 i)
    (items_of (map (json_of t) (map value_of vs)))) (drop_all i parts all))) ∙ h

-- a member moves
pub members_moved : (k : List ℕ) (d : Data) (b : Bool) (ms : Members)
    (out one two new whole : List ℕ) → out ++ members_text b (member k d ms) ≡ whole
    → one ≡ out ++ comma_if b → two ≡ one ++ (quoted k ++ 58 ∷ []) → new ≡ two ++ compact_text d
    → new ++ members_text true ms ≡ whole
members_moved k d b ms out one two new whole h comma key text =
    let rest = compact_text d ++ members_text true ms in
    moved two new (compact_text d) (members_text true ms) whole text
    (moved one two (quoted k ++ 58 ∷ []) rest whole key
    (moved out one (comma_if b) ((quoted k ++ 58 ∷ []) ++ rest) whole comma
    (ap (λ s. out ++ (comma_if b ++ s)) (append_assoc (quoted k) (58 ∷ []) rest) ∙ h)))

-- fields

-- the JSON of the part of field i
abbrev pub part_json : List SszType → List Part → List Value → ℕ → Data
part_json trees fields parts i =
    json_of (type_tree_at trees (get_or fields i ([], 0)).1)
    (get_or (map value_of parts) i (number 0))

field_or : (fields : List Part) (i : ℕ) (f : Part) → i < length fields → f ≡ get_or fields i f
    → get_or fields i ([], 0) ≡ f
field_or [] i f below here = absurd (omega arith)
field_or (p ∷ fields) zero f below here = sym here
field_or (p ∷ fields) (suc i) f below here = field_or fields i f (omega arith) here

value_or : (parts : List Value) (i : ℕ) (v : Value) → i < length parts → v ≡ get_or parts i v
    → get_or (map value_of parts) i (number 0) ≡ value_of v
value_or [] i v below here = absurd (omega arith)
value_or (p ∷ parts) zero v below here = ap value_of (sym here)
value_or (p ∷ parts) (suc i) v below here = value_or parts i v (omega arith) here

pub part_json_at : (trees : List SszType) (fields : List Part) (parts : List Value) (i : ℕ)
    (f : Part) (v : Value) → i < length fields → i < length parts → f ≡ get_or fields i f
    → v ≡ get_or parts i v
    → part_json trees fields parts i ≡ json_of (type_tree_at trees f.1) (value_of v)
part_json_at trees fields parts i f v below within here is =
    ap₂ (λ (p : Part) w. json_of (type_tree_at trees p.1) w) (field_or fields i f below here)
    (value_or parts i v within is)

from_fields : (trees : List SszType) (fields : List Part) (ws : List SszValue) (part : ℕ → Data)
    (n : ℕ) → length fields ≡ length ws
    → ((k : ℕ) → k < length fields → part (n + k)
    ≡ json_of (type_tree_at trees (get_or fields k ([], 0)).1) (get_or ws k (number 0)))
    → members_from part n fields ≡ members_json (fields_over trees fields) ws
from_fields trees [] ws part n same is = refl
from_fields trees (f ∷ fields) [] part n same is = absurd (omega arith)
from_fields trees (f ∷ fields) (w ∷ ws) part n same is =
    ap₂ (λ d ms. put f.0 d ms)
    (ap part (omega arith) ∙ is 0 (omega arith))
    (from_fields trees fields ws part (n + 1) (omega arith)
    (λ k below. let next : n + 1 + k ≡ n + suc k = omega arith in
    ap part next ∙ is (suc k) (omega arith)))

pub members_of_fields : (trees : List SszType) (fields : List Part) (parts : List Value)
    → length fields ≡ length parts
    → members_from (part_json trees fields parts) 0 fields
    ≡ members_json (fields_over trees fields) (map value_of parts)
members_of_fields trees fields parts same =
    from_fields trees fields (map value_of parts) (part_json trees fields parts) 0
    (omega (arith, length-map parts value_of))
    (λ k below. let first : 0 + k ≡ k = omega arith in
    ap (part_json trees fields parts) first)

pub value_at_field : (trees : List SszType) (fields : List Part) (parts : List Value) (i : ℕ)
    (f : Part) (v : Value) → AreFields (fields_over trees fields) parts → i < length fields
    → i < length parts → f ≡ get_or fields i f → v ≡ get_or parts i v
    → IsValue (type_tree_at trees f.1) v
value_at_field trees [] parts i f v all below within here is = absurd (omega arith)
value_at_field trees (p ∷ fields) [] i f v all below within here is = absurd (omega arith)
value_at_field trees (p ∷ fields) (w ∷ parts) zero f v all below within here is =
    subst (λ (q : Part). IsValue (type_tree_at trees q.1) v) (sym here)
    (subst (IsValue (type_tree_at trees p.1)) (sym is) all.0)
value_at_field trees (p ∷ fields) (w ∷ parts) (suc i) f v all below within here is =
    value_at_field trees fields parts i f v all.1 (omega arith) (omega arith) here is

-- the member of the entry at i moves
pub entries_more : (part : ℕ → Data) (es : Entries) (i : ℕ) (e : List ℕ × ℕ)
    (out one two new whole : List ℕ) → i < length es → e ≡ get_or es i e
    → out ++ members_text (nat_lt 0 i) (members_over part (drop i es)) ≡ whole
    → one ≡ out ++ comma_if (nat_lt 0 i) → two ≡ one ++ (quoted e.0 ++ 58 ∷ [])
    → new ≡ two ++ compact_text (part e.1)
    → new ++ members_text (nat_lt 0 (i + 1)) (members_over part (drop (i + 1) es)) ≡ whole
entries_more part es i e out one two new whole below here h comma key text =
    ap (λ b. new ++ members_text b (members_over part (drop (i + 1) es))) (later i)
    ∙ members_moved e.0 (part e.1) (nat_lt 0 i) (members_over part (drop (i + 1) es))
    out one two new whole
    (ap (λ xs. out ++ members_text (nat_lt 0 i) (members_over part xs))
    (sym (drop_at es i e below here)) ∙ h) comma key text

pub entries_end : (part : ℕ → Data) (es : Entries) (i : ℕ) (out new whole : List ℕ)
    → length es ≤ i → out ++ members_text (nat_lt 0 i) (members_over part (drop i es)) ≡ whole
    → new ≡ out ++ 125 ∷ [] → new ≡ whole
entries_end part es i out new whole all h is =
    is ∙ ap (λ s. out ++ s) (sym (ap (λ xs. members_text (nat_lt 0 i) (members_over part xs))
    (drop_all i es all))) ∙ h

-- what holds of all holds of the one at i
pub element_at : {A : Type 0} (P : A → Type 0) (xs : List A) (i : ℕ) (x : A) → i < length xs
    → x ≡ get_or xs i x → AllByRecursion P xs → P x
element_at P [] i x below here all = absurd (omega arith)
element_at P (y ∷ xs) zero x below here all = subst P (sym here) all.0
element_at P (y ∷ xs) (suc i) x below here all = element_at P xs i x (omega arith) here all.1
