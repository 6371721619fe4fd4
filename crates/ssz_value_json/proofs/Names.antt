-- A member is looked up by the name of each field.
use Rattle.std.proofs.Common.{◌≡◌, ℕ, ◌+◌, ◌<◌, ◌&&◌, Bool, true, false, List, [], ◌∷◌, length, map, drop, get_or, refl, sym, ap, ◌∙◌}
use Rattle.std.proofs.Common.{Bor, Option, Some, None, option_map, option_and_then}
use Rattle.std.specs.List.{list_all}
use Rattle.std.specs.Prelude.{is_some}
use Rattle.serde_json.specs.Data.{Data}
use Rattle.serde_json.specs.Find.{as_array}
use Rattle.serde_json.specs.View.{view, items_view}
use Rattle.serde_json.specs.declared.value.Value.{Value as Json}
use Rattle.ssz_schema.proofs.WalkFields.{drop_at}
use Rattle.ssz_value.proofs.PartLemmas.{Part}
use Rattle.ssz_value_json.specs.Walk.{two_items, json_selector, selected}

abbrev pub names_of : List Part → List (List ℕ)
names_of fields = map (λ part. part.0) fields

-- the test of the names from i on
pub here_false : (test : List ℕ → Bool) (fields : List Part) (i : ℕ) (f : Part)
    → i < length fields → f ≡ get_or fields i f
    → list_all test (names_of (drop i fields)) ≡ list_all test (names_of fields)
    → test f.0 ≡ false → false ≡ list_all test (names_of fields)
here_false test fields i f below here h is =
    sym (ap (λ b. b && list_all test (names_of (drop (i + 1) fields))) is)
    ∙ sym (ap (λ ps. list_all test (names_of ps)) (drop_at fields i f below here)) ∙ h

pub here_true : (test : List ℕ → Bool) (fields : List Part) (i : ℕ) (f : Part)
    → i < length fields → f ≡ get_or fields i f
    → list_all test (names_of (drop i fields)) ≡ list_all test (names_of fields)
    → test f.0 ≡ true
    → list_all test (names_of (drop (i + 1) fields)) ≡ list_all test (names_of fields)
here_true test fields i f below here h is =
    sym (ap (λ b. b && list_all test (names_of (drop (i + 1) fields))) is)
    ∙ sym (ap (λ ps. list_all test (names_of ps)) (drop_at fields i f below here)) ∙ h

-- a member is there where it was found
pub found_or_not : (r : Option (Bor Json)) (o : Option Data) (b : Bool)
    → option_map (λ value. view value.now) r ≡ o → is_some r ≡ b → is_some o ≡ b
found_or_not None o b e h = ap is_some (sym e) ∙ h
found_or_not (Some x) o b e h = ap is_some (sym e) ∙ h

not_two : (vs : List Json) → (length vs ≡ 2 → ⊥) → two_items (items_view vs) ≡ None
not_two [] other = refl
not_two (a ∷ []) other = refl
not_two (a ∷ b ∷ []) other = absurd (other refl)
not_two (a ∷ b ∷ c ∷ vs) other = refl

-- an array that is not of two is no union
pub none_selected : (d : Data) (vs : List Json) → Some (items_view vs) ≡ as_array d
    → (length vs ≡ 2 → ⊥) → None ≡ selected d
none_selected d vs is other =
    sym (ap (λ o. option_and_then (λ pair. option_map (λ k. (k, pair.1)) (json_selector pair.0))
    (option_and_then two_items o)) (sym is)
    ∙ ap (option_and_then (λ pair. option_map (λ k. (k, pair.1)) (json_selector pair.0)))
    (not_two vs other))
