-- A JSON text has no line feed.
use Rattle.std.proofs.Common.{ℕ, ◌≤◌, ◌≡◌, true, List, [], ◌∷◌, refl, arith}
use Rattle.std.specs.List.{AllByRecursion}
use Rattle.std.proofs.lemmas.Bool.Decides.{nat_tests}
use Rattle.ssz_schema.specs.Types.{SszType}
use Rattle.ssz_script.specs.OneLine.{is_no_feed}
use Rattle.ssz_script.proofs.OneLineLemmas.{both, no_feed}
use Rattle.ssz_value.specs.Values.{SszValue}
use Rattle.ssz_json_text.specs.Text.{json}
use Rattle.ssz_json_text.proofs.OneLine.{texts_are_one_line_lem}

byte_no_feed : (b : ℕ) → 32 ≤ b → is_no_feed b ≡ true
byte_no_feed b high = grind (arith, nat_tests)

high_no_feed : (text : List ℕ) → AllByRecursion (λ b. 32 ≤ b) text → no_feed text ≡ true
high_no_feed [] all = refl
high_no_feed (b ∷ text) all =
    both (is_no_feed b) (no_feed text) (byte_no_feed b all.0) (high_no_feed text all.1)

pub json_no_feed : (type : SszType) (value : SszValue) → no_feed (json type value) ≡ true
json_no_feed type value = high_no_feed (json type value) (texts_are_one_line_lem type value)
