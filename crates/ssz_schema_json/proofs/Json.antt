-- The value that `serde_json` reads.
use Rattle.std.proofs.Common.{◌≡◌, ℕ, Bool, true, false, List, refl, Some, None, if◌then◌else◌}
use Rattle.std.specs.Str.{IsUtf8, is_utf8}
use Rattle.std.proofs.lemmas.Str.{is_utf8-from_IsUtf8, IsUtf8-from_is_utf8}
use Rattle.serde_json.specs.Data.{Data}
use Rattle.serde_json.specs.Read.{read}
use Rattle.ssz_schema_json.specs.Schema.{json_read}

-- what is read of a text is the value of its bytes
pub json_of-text : (bytes : List ℕ) (value : Data)
    → IsUtf8 bytes → read bytes ≡ Some value → json_read bytes ≡ Some value
json_of-text bytes value text is = rw (is_utf8-from_IsUtf8 bytes text) is

-- bytes of which nothing is read where they are a text have no value
pub json_of-no_text : (bytes : List ℕ) → (IsUtf8 bytes → read bytes ≡ None) → json_read bytes ≡ None
json_of-no_text bytes none = go (is_utf8 bytes) (λ text. none (IsUtf8-from_is_utf8 bytes text))
  where
    go : (text : Bool) → (text ≡ true → read bytes ≡ None)
        → (if text then read bytes else None) ≡ None
    go true h = h refl
    go false h = refl
