-- The JSON of values by their forms.
use Rattle.std.proofs.Common.{ℕ, zero, suc, ◌≡◌, ◌+◌, Bool, true, false, List, [], ◌∷◌, ◌++◌, length, map, slice_get, Option, Some, None, decimal, Vec, Global, refl, sym, ap, ap₂, subst, ◌∙◌, arith, length-append}
use Rattle.serde_json.specs.Data.{array, object, string}
use Rattle.serde_json.specs.View.{items_of}
use Rattle.serde_json.specs.Written.{compact_text}
use Rattle.ssz_schema.specs.Types.{SszType, Fields, union, container}
use Rattle.ssz_schema.specs.Unfolding.{type_tree_at, options_over}
use Rattle.ssz_value.specs.declared.value.Value.{Value}
use Rattle.ssz_value.specs.declared.value.Value.TheVariants.{Bytes, Seq}
use Rattle.ssz_value.specs.declared.value.Value.TheOpen.{Seq as SeqF}
use Rattle.ssz_value.specs.Values.{SszValue, number, chosen, chosen_none}
use Rattle.ssz_value.specs.Standing.{value_of, is_byte, IsFormed, AreFormed}
use Rattle.ssz_value.specs.Shapes.{IsSequence, parts_of}
use Rattle.ssz_value.proofs.ValueLemmas.{seq_is, bytes_are}
use Rattle.ssz_value.proofs.Sequences.{items-values}
use Rattle.ssz_value.proofs.FormLemmas.{seq_out, bytes_elements}
use Rattle.ssz_json_text.specs.Strings.{hex_text}
use Rattle.ssz_json_text.specs.Text.{json, json_of, members_json, sequence_json, option_json, byte_of}

-- a sequence of other elements than bytes
not_bytes : (b : Bool) (P : Value → Type 0) (parts : Vec Value Global) → AreFormed b P (SeqF parts)
    → b ≡ false
not_bytes true P parts h = absurd h
not_bytes false P parts h = refl

pub seq_json : (elem : SszType) (v : Value) (parts : Vec Value Global) (vs : List Value)
    → v ≡ Seq parts → IsSequence elem v → vs ≡ parts.items
    → sequence_json (is_byte elem) (json_of elem) (parts_of (value_of v))
    ≡ array (items_of (map (json_of elem) (map value_of vs)))
seq_json elem v parts vs is h same =
    let formed = subst (AreFormed (is_byte elem) (IsFormed elem)) (seq_out parts)
    (subst (IsSequence elem) is h).formed in
    ap₂ (λ b w. sequence_json b (json_of elem) (parts_of w))
    (not_bytes (is_byte elem) (IsFormed elem) parts formed) (ap value_of is ∙ seq_is parts)
    ∙ ap (λ ws. array (items_of (map (json_of elem) ws)))
    (items-values (map value_of parts.items) ∙ ap (map value_of) (sym same))

numbers : (run : List ℕ) → map byte_of (map number run) ≡ run
numbers [] = refl
numbers (b ∷ run) = ap (λ bs. b ∷ bs) (numbers run)

pub bytes_json : (elem : SszType) (v : Value) (run : List ℕ) → v ≡ Bytes run → IsSequence elem v
    → sequence_json (is_byte elem) (json_of elem) (parts_of (value_of v)) ≡ string (hex_text run)
bytes_json elem v run is h =
    let byte = bytes_elements elem run (subst (IsSequence elem) is h) in
    ap₂ (λ t w. sequence_json (is_byte t) (json_of t) (parts_of w)) byte
    (ap value_of is ∙ bytes_are run)
    ∙ ap (λ ws. string (hex_text (map byte_of ws))) (items-values (map number run))
    ∙ ap (λ bs. string (hex_text bs)) (numbers run)

-- the JSON of the value of an option
pub option_json_at : (trees : List SszType) (ids : List (Option ℕ)) (k id : ℕ) (w : SszValue)
    → Some (Some id) ≡ slice_get ids k
    → option_json (options_over trees ids) k w ≡ json_of (type_tree_at trees id) w
option_json_at trees [] k id w e = cc
option_json_at trees (None ∷ ids) zero id w e = cc
option_json_at trees (Some other ∷ ids) zero id w e = let same : other ≡ id = cc in
    ap (λ n. json_of (type_tree_at trees n) w) same
option_json_at trees (None ∷ ids) (suc k) id w e = option_json_at trees ids k id w e
option_json_at trees (Some other ∷ ids) (suc k) id w e = option_json_at trees ids k id w e

-- its text
pub chosen_text : (trees : List SszType) (ids : List (Option ℕ)) (v : Value) (k id : ℕ)
    (w : SszValue) → value_of v ≡ chosen k w → Some (Some id) ≡ slice_get ids k
    → json (union (options_over trees ids)) (value_of v)
    ≡ 91 ∷ (decimal k ++ 44 ∷ (json (type_tree_at trees id) w ++ 93 ∷ []))
chosen_text trees ids v k id w is here =
    ap (json (union (options_over trees ids))) is
    ∙ ap (λ d. 91 ∷ (decimal k ++ 44 ∷ (compact_text d ++ 93 ∷ [])))
    (option_json_at trees ids k id w here)

pub none_text : (trees : List SszType) (ids : List (Option ℕ)) (v : Value) (k : ℕ)
    → value_of v ≡ chosen_none k
    → json (union (options_over trees ids)) (value_of v)
    ≡ 91 ∷ (decimal k ++ 44 ∷ 110 ∷ 117 ∷ 108 ∷ 108 ∷ 93 ∷ [])
none_text trees ids v k is = ap (json (union (options_over trees ids))) is

pub chosen_length : (trees : List SszType) (ids : List (Option ℕ)) (v : Value) (k id : ℕ)
    (w : SszValue) → value_of v ≡ chosen k w → Some (Some id) ≡ slice_get ids k
    → length (json (union (options_over trees ids)) (value_of v))
    ≡ length (decimal k) + length (json (type_tree_at trees id) w) + 3
chosen_length trees ids v k id w is here =
    let text = json (type_tree_at trees id) w in
    ap length (chosen_text trees ids v k id w is here)
    ∙ omega (
      arith,
      length-append (decimal k) (44 ∷ (text ++ 93 ∷ [])),
      length-append text (93 ∷ []),
    )

pub none_length : (trees : List SszType) (ids : List (Option ℕ)) (v : Value) (k : ℕ)
    → value_of v ≡ chosen_none k
    → length (json (union (options_over trees ids)) (value_of v)) ≡ length (decimal k) + 7
none_length trees ids v k is =
    ap length (none_text trees ids v k is)
    ∙ omega (arith, length-append (decimal k) (44 ∷ 110 ∷ 117 ∷ 108 ∷ 108 ∷ 93 ∷ []))

-- a container of the fields
pub container_json : (fs : Fields) (v : Value) (parts : Vec Value Global) (vs : List Value)
    → v ≡ Seq parts → vs ≡ parts.items
    → json_of (container fs) (value_of v) ≡ object (members_json fs (map value_of vs))
container_json fs v parts vs is same =
    ap (json_of (container fs)) (ap value_of is ∙ seq_is parts)
    ∙ ap (λ ws. object (members_json fs ws))
    (items-values (map value_of parts.items) ∙ ap (map value_of) (sym same))
