-- What encodings, faults, trees and defaults have to do with one another.
use Rattle.std.specs.Prelude.{ℕ, ◌^◌, ◌<◌, ◌≡◌, ◌↔◌, List, length, None}
use Rattle.ssz_schema.specs.format.Format.{Format}
use Rattle.ssz_schema.specs.Types.{SszType}
use Rattle.ssz_schema.specs.Sizes.{default_length}
use Rattle.ssz_schema.specs.Legal.{IsLegal}
use Rattle.ssz_bytes.specs.Bytes.{IsBytes}
use Rattle.ssz_value.specs.Values.{SszValue, Fits}
use Rattle.ssz_value.specs.Defaults.{default_of}
use Rattle.ssz_value.specs.Encoding.{serialize}
use Rattle.ssz_value.specs.Sizes.{size}
use Rattle.ssz_value.specs.Faults.{first_fault}
use Rattle.ssz_value.specs.Reading.{value_in}
use Rattle.ssz_value.specs.Trees.{tree}

-- the value is one of the type, and the bytes are its encoding
pub record Encodes (t : SszType) (v : SszValue) (b : List ℕ) : Type 0 where
  pub fits : Fits t v
  pub bytes : serialize t v ≡ b

-- One encoding: bytes have no fault exactly where they are the encoding of a value of the type ..
abbrev pub FaultlessWhereEncoded : Type 0
FaultlessWhereEncoded =
    (format : Format) (t : SszType) (b : List ℕ) → IsLegal format t → IsBytes b → length b < 2 ^ 32
    → (first_fault t 0 b ≡ None) ↔ ((v : SszValue) × Encodes t v b)

-- .. of no two values of the type ..
abbrev pub OneValue : Type 0
OneValue =
    (format : Format) (t : SszType) (b : List ℕ) (v w : SszValue) → IsLegal format t
    → length b < 2 ^ 32
    → Encodes t v b → Encodes t w b → v ≡ w

-- .. and that of the value which they are read as
abbrev pub FaultlessIsRead : Type 0
FaultlessIsRead =
    (format : Format) (t : SszType) (b : List ℕ) → IsLegal format t → IsBytes b → length b < 2 ^ 32
    → first_fault t 0 b ≡ None → Encodes t (value_in t b) b

-- no tree is that of two values of one type
abbrev pub TreesTellValues : Type 0
TreesTellValues =
    (format : Format) (t : SszType) (v w : SszValue) → IsLegal format t → Fits t v → Fits t w
    → tree t v ≡ tree t w → v ≡ w

-- the size is the length of the encoding
abbrev pub SizesAreLengths : Type 0
SizesAreLengths = (t : SszType) (v : SszValue) → Fits t v → length (serialize t v) ≡ size t v

-- the default is a value of the type
abbrev pub DefaultsFit : Type 0
DefaultsFit = (format : Format) (t : SszType) → IsLegal format t → Fits t (default_of t)

-- the length of the default's encoding is read off the type
abbrev pub DefaultsHaveLength : Type 0
DefaultsHaveLength =
    (format : Format) (t : SszType) → IsLegal format t
    → length (serialize t (default_of t)) ≡ default_length t
