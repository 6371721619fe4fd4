-- What holds of every text.
use Rattle.std.specs.Prelude.{◌≤◌}
use Rattle.std.specs.List.{AllByRecursion}
use Rattle.ssz_schema.specs.Types.{SszType}
use Rattle.ssz_value.specs.Values.{SszValue}
use Rattle.ssz_json_text.specs.Text.{json}

-- No text has a byte below 32: each is one line, whatever stands in it.
abbrev pub TextsAreOneLine : Type 0
TextsAreOneLine = (t : SszType) (v : SszValue) → AllByRecursion (λ b. 32 ≤ b) (json t v)
