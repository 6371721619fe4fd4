-- Encodings that are written part after part, with room for the offsets of those to come.
use Rattle.std.specs.Prelude.{ℕ, ◌-◌, ◌^◌, ◌<◌, ◌≤◌, ◌≡◌, Bool, true, List, [], ◌∷◌, ◌++◌, length, replicate, Option, Some, None, Result, OnOk}
use Rattle.ssz_chunk.specs.Tree.{Tree}
use Rattle.ssz_bytes.specs.Bytes.{le_bytes, offset_bytes, number_of_bits, delimited, bits_size}
use Rattle.ssz_value.specs.Encoding.{heads, bodies}
use Rattle.ssz_value.specs.Written.{capped}
use Rattle.ssz_value.specs.Trees.{mixed_in}
use Rattle.ssz_parts.specs.Encoded.{head_of, body_of}
use Rattle.ssz_nodes.specs.Shown.{AreBits, ExtendsBytes}

-- some bits in a full tree of this depth, with their number mixed in
pub record AreCountedBits (depth : ℕ) (bs : List Bool) (node : Tree) : Type 0 where
  pub content : Tree
  pub tree : node ≡ mixed_in (length bs) content
  pub are : AreBits depth (length bs) bs content
  pub small : length bs < 2 ^ 64

-- the bytes of some bits with a delimiter behind them
abbrev pub delimited_bytes : List Bool → List ℕ
delimited_bytes bs = le_bytes (bits_size true (length bs)) (number_of_bits (delimited true bs))

-- the bytes are appended
abbrev pub AddsBytes : {E : Type 0} → List ℕ → List ℕ → List ℕ → Result Unit E → Type 0
AddsBytes bytes old new result = OnOk result (new ≡ old ++ bytes)

-- what is kept for a part among the fixed parts: itself, or room for its offset
abbrev pub room_of : Option ℕ → List ℕ → List ℕ
room_of (Some z) bytes = bytes
room_of None bytes = offset_bytes 0

-- the fixed parts, with room for the offsets
abbrev pub rooms : List (Option ℕ) → List (List ℕ) → List ℕ
rooms (size ∷ sizes) (p ∷ parts) = room_of size p ++ rooms sizes parts
rooms _ _ = []

-- room for so many offsets
abbrev pub offset_rooms : ℕ → List ℕ
offset_rooms n = rooms (replicate n None) (replicate n [])

-- what began both goes on beginning them, as far as this place
abbrev pub KeepsUpTo : ℕ → List ℕ → List ℕ → Type 0
KeepsUpTo place old new = (front : List ℕ) → length front ≤ place → ExtendsBytes front old
    → ExtendsBytes front new

-- the offset of a part, counted from start, stands in its room, and the variable part at the end
abbrev pub Fills : {E : Type 0} → Option ℕ → List ℕ → ℕ → ℕ → List ℕ → List ℕ → Result Unit E
    → Type 0
Fills size p start room old new result = (front back : List ℕ) → room ≡ capped (length front)
    → old ≡ front ++ room_of size p ++ back
    → OnOk result (new ≡ front ++ head_of size p (length old - start) ++ back ++ body_of size p)

-- the offsets of all parts stand in their rooms, which began at start, and the variable parts at
-- the end
abbrev pub FillsAll : {E : Type 0} → List (Option ℕ) → List (List ℕ) → ℕ → List ℕ → List ℕ
    → Result Unit E → Type 0
FillsAll sizes parts start old new result = (front : List ℕ) → length front ≡ start
    → old ≡ front ++ rooms sizes parts
    → OnOk result (new ≡ front ++ heads sizes parts (length old - start) ++ bodies sizes parts)
