-- Objects with one member, and with two.
use Rattle.std.proofs.Common.{◌≡◌, ◌≢◌, ℕ, List, [], ◌∷◌, length, refl, None, String, Global, string_bytes}
use Rattle.serde_json.specs.Data.{unsigned, Data, number, array, object, Members, member}
use Rattle.serde_json.specs.View.{view, members_view}
use Rattle.serde_json.specs.declared.value.Value.{Value}
use Rattle.ssz_schema_json.specs.Document.{written_form, ssz_and_types}

many_form : (k : List ℕ) (d : Data) (l : List ℕ) (e : Data) (rest : Members)
    → written_form (object (member k d (member l e rest))) ≡ None
many_form k (number (unsigned n)) l e rest = refl
many_form k (array ds) l e rest = refl
many_form k _ l e rest = refl

-- an object with no member, or with more than one, is no form
pub not_one-form : (ms : List (String Global × Value))
    → length ms ≢ 1 → written_form (object (members_view ms)) ≡ None
not_one-form [] other = refl
not_one-form (m ∷ []) other = absurd (other refl)
not_one-form (m ∷ n ∷ ms) other =
    many_form (string_bytes m.0) (view m.1) (string_bytes n.0) (view n.1) (members_view ms)

-- an object without exactly two members has not the two of a document
pub not_two-members : (ms : List (String Global × Value))
    → length ms ≢ 2 → ssz_and_types (members_view ms) ≡ None
not_two-members [] other = refl
not_two-members (m ∷ []) other = refl
not_two-members (m ∷ n ∷ []) other = absurd (other refl)
not_two-members (m ∷ n ∷ l ∷ ms) other = refl
