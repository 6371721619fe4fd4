-- What each part puts into an encoding.
use Rattle.std.specs.Prelude.{ℕ, List, [], Option, Some, None}
use Rattle.ssz_bytes.specs.Bytes.{offset_bytes}

-- what a part puts among the fixed parts: itself, or its offset
abbrev pub head_of : Option ℕ → List ℕ → ℕ → List ℕ
head_of (Some z) bytes offset = bytes
head_of None bytes offset = offset_bytes offset

-- and among the variable parts
abbrev pub body_of : Option ℕ → List ℕ → List ℕ
body_of (Some z) bytes = []
body_of None bytes = bytes
