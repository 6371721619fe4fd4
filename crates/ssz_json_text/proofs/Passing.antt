-- Bytes that begin with the text of an array or object, piece by piece.
use Rattle.std.proofs.Common.{◌≡◌, Bor, ℕ, ◌+◌, ◌<◌, ◌≤◌, List, [], ◌∷◌, ◌++◌, length, map, drop, get_or, nat_lt, Result, IfOk, sym, ap, ◌∙◌, append_assoc}
use Rattle.std.proofs.lemmas.List.{drop_all}
use Rattle.std.proofs.lemmas.Result.{IfOk-weaker}
use Rattle.json.specs.Print.{quoted}
use Rattle.serde_json.specs.Data.{Data}
use Rattle.serde_json.specs.View.{items_of}
use Rattle.serde_json.specs.Written.{compact_text, items_text, members_text, comma_if}
use Rattle.ssz_schema.specs.Types.{SszType}
use Rattle.ssz_schema.proofs.WalkFields.{drop_at}
use Rattle.ssz_value.specs.declared.value.Value.{Value}
use Rattle.ssz_value.specs.Standing.{value_of}
use Rattle.ssz_json_text.specs.Text.{json, json_of}
use Rattle.ssz_schema.specs.Names.{IsName}
use Rattle.ssz_json_text.proofs.Plain.{quoted_plain, name_plain}
use Rattle.ssz_json_text.proofs.NameOrder.{Entries, members_over}
use Rattle.ssz_json_text.proofs.Pieces.{elements_left, later}

-- two pieces and what is behind them
two_pieces : (rest mid new a b left z : List ℕ) → rest ≡ a ++ mid → mid ≡ b ++ new
    → new ≡ left ++ z → rest ≡ (a ++ (b ++ left)) ++ z
two_pieces rest mid new a b left z first second behind =
    first ∙ ap (λ s. a ++ s) (second ∙ ap (λ s. b ++ s) behind ∙ sym (append_assoc b left z))
    ∙ sym (append_assoc a (b ++ left) z)

pub element_passed : (t : SszType) (parts : List Value) (i : ℕ) (v : Value)
    (rest mid new z : List ℕ) → i < length parts → v ≡ get_or parts i v
    → rest ≡ comma_if (nat_lt 0 i) ++ mid → mid ≡ json t (value_of v) ++ new
    → new ≡ elements_left t parts (i + 1) ++ z → rest ≡ elements_left t parts i ++ z
element_passed t parts i v rest mid new z below here comma text behind =
    let left = items_of (map (json_of t) (map value_of (drop (i + 1) parts))) in
    let split : elements_left t parts i
    ≡ comma_if (nat_lt 0 i) ++ (json t (value_of v) ++ elements_left t parts (i + 1)) =
    ap (λ vs. items_text (nat_lt 0 i) (items_of (map (json_of t) (map value_of vs))))
    (drop_at parts i v below here)
    ∙ ap (λ b. comma_if (nat_lt 0 i) ++ (json t (value_of v) ++ items_text b left))
    (sym (later i)) in
    two_pieces rest mid new (comma_if (nat_lt 0 i)) (json t (value_of v))
    (elements_left t parts (i + 1)) z comma text behind ∙ ap (λ s. s ++ z) (sym split)

pub elements_passed : (t : SszType) (parts : List Value) (i : ℕ) (rest z : List ℕ)
    → length parts ≤ i → rest ≡ (93 ∷ []) ++ z → rest ≡ elements_left t parts i ++ z
elements_passed t parts i rest z all is =
    is ∙ ap (λ s. s ++ z) (sym (ap (λ vs. items_text (nat_lt 0 i)
    (items_of (map (json_of t) (map value_of vs)))) (drop_all i parts all)))

pub entry_passed : (part : ℕ → Data) (es : Entries) (i : ℕ) (e : List ℕ × ℕ)
    (rest mid new z : List ℕ) → i < length es → e ≡ get_or es i e
    → rest ≡ comma_if (nat_lt 0 i) ++ ((quoted e.0 ++ 58 ∷ []) ++ mid)
    → mid ≡ compact_text (part e.1) ++ new
    → new ≡ members_text (nat_lt 0 (i + 1)) (members_over part (drop (i + 1) es)) ++ z
    → rest ≡ members_text (nat_lt 0 i) (members_over part (drop i es)) ++ z
entry_passed part es i e rest mid new z below here key text behind =
    let comma = comma_if (nat_lt 0 i) in
    let name = quoted e.0 ++ 58 ∷ [] in
    let more = members_text (nat_lt 0 (i + 1)) (members_over part (drop (i + 1) es)) in
    let split : members_text (nat_lt 0 i) (members_over part (drop i es))
    ≡ comma ++ (quoted e.0 ++ 58 ∷ (compact_text (part e.1) ++ more)) =
    ap (λ xs. members_text (nat_lt 0 i) (members_over part xs)) (drop_at es i e below here)
    ∙ ap (λ b. comma ++ (quoted e.0 ++ 58 ∷ (compact_text (part e.1)
    ++ members_text b (members_over part (drop (i + 1) es))))) (sym (later i)) in
    let joined : (comma ++ name) ++ (compact_text (part e.1) ++ more)
    ≡ members_text (nat_lt 0 i) (members_over part (drop i es)) =
    append_assoc comma name (compact_text (part e.1) ++ more)
    ∙ ap (λ s. comma ++ s)
    (append_assoc (quoted e.0) (58 ∷ []) (compact_text (part e.1) ++ more))
    ∙ sym split in
    two_pieces rest mid new (comma ++ name) (compact_text (part e.1)) more z
    (key ∙ sym (append_assoc comma name mid)) text behind ∙ ap (λ s. s ++ z) joined

pub entries_passed : (part : ℕ → Data) (es : Entries) (i : ℕ) (rest z : List ℕ)
    → length es ≤ i → rest ≡ (125 ∷ []) ++ z
    → rest ≡ members_text (nat_lt 0 i) (members_over part (drop i es)) ++ z
entries_passed part es i rest z all is =
    is ∙ ap (λ s. s ++ z) (sym (ap (λ xs. members_text (nat_lt 0 i) (members_over part xs))
    (drop_all i es all)))

-- the bytes that are left behind a piece are those behind the whole
pub passed : {E : Type 0} (r : Result (Bor (List ℕ)) E) (left bytes piece whole : List ℕ)
    → ((z : List ℕ) → left ≡ piece ++ z → bytes ≡ whole ++ z)
    → IfOk r (λ rest. left ≡ piece ++ rest.now) → IfOk r (λ rest. bytes ≡ whole ++ rest.now)
passed r left bytes piece whole f h =
    IfOk-weaker r (λ rest. left ≡ piece ++ rest.now) (λ rest. bytes ≡ whole ++ rest.now)
    (λ rest e. f rest.now e) h

-- the name of a member, quote by quote
pub key_passed : (comma name bytes one two three rest : List ℕ) → IsName name
    → bytes ≡ comma ++ one → one ≡ 34 ∷ two → two ≡ name ++ three → three ≡ 34 ∷ 58 ∷ rest
    → bytes ≡ comma ++ ((quoted name ++ 58 ∷ []) ++ rest)
key_passed comma name bytes one two three rest is first quote named behind =
    first ∙ ap (λ s. comma ++ s) (quote ∙ ap (λ s. 34 ∷ s) (named ∙ ap (λ s. name ++ s) behind)
    ∙ sym (ap (λ s. (s ++ 58 ∷ []) ++ rest) (quoted_plain name (name_plain name is))
    ∙ ap (λ s. 34 ∷ s) (append_assoc (name ++ 34 ∷ []) (58 ∷ []) rest
    ∙ append_assoc name (34 ∷ []) (58 ∷ rest))))
