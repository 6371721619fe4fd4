-- Arrays of two values: a name and a form, or a form and a number.
use Rattle.std.proofs.Common.{rules, ◌≡◌, ◌≢◌, ℕ, List, [], ◌∷◌, length, refl, ap, ◌∙◌, sym, Option, Some, None, option_map, Vec, Global, String, string_bytes}
use Rattle.std.specs.Prelude.{option_and_then}
use Rattle.serde_json.specs.Data.{unsigned, negative, float, Data, null, boolean, number, string, array, object, Items, no_items, item}
use Rattle.serde_json.specs.Find.{as_number, as_u64}
use Rattle.serde_json.specs.View.{view, items_view}
use Rattle.serde_json.specs.declared.value.Value.{Value, the_lemmas}
use Rattle.serde_json.specs.declared.value.Value as value
use Rattle.serde_json.proofs.Views.{view-Array}
use Rattle.ssz_schema.specs.Forms.{TypeForm, FieldForms, field_form, no_field_forms}
use Rattle.ssz_schema_json.specs.Document.{written_form, written_fields, written_sized}

view-String : (s : String Global) → view (value.String s) ≡ string (string_bytes s)
view-String s = search (rules, the_lemmas)

-- ---- a name and a form

-- what the array of these items writes as a field
abbrev field_of : Items → Option FieldForms
field_of items = written_fields (item (array items) no_items)

one_field : (d : Data) → field_of (item d no_items) ≡ None
one_field (string s) = refl
one_field _ = refl

many_field : (a b c : Data) (rest : Items) → field_of (item a (item b (item c rest))) ≡ None
many_field (string s) b c rest = refl
many_field _ b c rest = refl

no_pair_field : (vs : List Value) → length vs ≢ 2 → field_of (items_view vs) ≡ None
no_pair_field [] other = refl
no_pair_field (v ∷ []) other = one_field (view v)
no_pair_field (v ∷ w ∷ []) other = absurd (other refl)
no_pair_field (v ∷ w ∷ x ∷ vs) other = many_field (view v) (view w) (view x) (items_view vs)

array_field : (v : Value) (items : Vec Value Global) → v ≡ value.Array items
    → written_fields (item (view v) no_items) ≡ field_of (items_view items.items)
array_field v items is =
    ap (λ (d : Data). written_fields (item d no_items)) (ap view is ∙ view-Array items)

-- an array that is no pair is no field
pub not_two-field : (v : Value) (items : Vec Value Global) → v ≡ value.Array items
    → length items.items ≢ 2 → written_fields (item (view v) no_items) ≡ None
not_two-field v items is other = array_field v items is ∙ no_pair_field items.items other

last_field : (name : List ℕ) (o : Option TypeForm)
    → option_and_then (λ f. option_map (field_form name f) (Some no_field_forms)) o
    ≡ option_map (λ f. field_form name f no_field_forms) o
last_field name None = refl
last_field name (Some f) = refl

-- a pair of a string and a value is a field where the value writes a form
pub pair-field : (v : Value) (items : Vec Value Global) (a b : Value) (s : String Global)
    → v ≡ value.Array items → items.items ≡ a ∷ b ∷ [] → a ≡ value.String s
    → written_fields (item (view v) no_items)
    ≡ option_map (λ f. field_form (string_bytes s) f no_field_forms) (written_form (view b))
pair-field v items a b s is two named =
    array_field v items is ∙ ap (λ vs. field_of (items_view vs)) two
    ∙ ap (λ d. field_of (item d (item (view b) no_items))) (ap view named ∙ view-String s)
    ∙ last_field (string_bytes s) (written_form (view b))

-- ---- a form and a number

many_sized : (a b c : Data) (rest : Items) → written_sized (item a (item b (item c rest))) ≡ None
many_sized a (number (unsigned n)) c rest = refl
many_sized a _ c rest = refl

-- an array that is no pair has no form with a number
pub not_two-sized : (vs : List Value) → length vs ≢ 2 → written_sized (items_view vs) ≡ None
not_two-sized [] other = refl
not_two-sized (v ∷ []) other = refl
not_two-sized (v ∷ w ∷ []) other = absurd (other refl)
not_two-sized (v ∷ w ∷ x ∷ vs) other = many_sized (view v) (view w) (view x) (items_view vs)

pair_sized : (a b : Data) (n : ℕ) → option_and_then as_u64 (as_number b) ≡ Some n
    → written_sized (item a (item b no_items)) ≡ option_map (λ f. (f, n)) (written_form a)
pair_sized a (number (unsigned m)) n is =
    let same : m ≡ n = cc in
    rw same refl
pair_sized a (number (negative z)) n is = cc
pair_sized a (number (float x)) n is = cc
pair_sized a null n is = cc
pair_sized a (boolean x) n is = cc
pair_sized a (string s) n is = cc
pair_sized a (array ds) n is = cc
pair_sized a (object ms) n is = cc

-- a pair of a value and a whole number has a form with it where the value writes one
pub pair-sized : (vs : List Value) (a b : Value) (n : ℕ)
    → vs ≡ a ∷ b ∷ [] → Some n ≡ option_and_then as_u64 (as_number (view b))
    → written_sized (items_view vs) ≡ option_map (λ f. (f, n)) (written_form (view a))
pair-sized vs a b n two counted =
    ap (λ ws. written_sized (items_view ws)) two ∙ pair_sized (view a) (view b) n (sym counted)
