-- The faults of bytes by their codes, and the faults of booleans and bits (simple-serialize.md,
-- Deserialization; the codes, their order and their positions are this project's).
use Rattle.std.specs.Prelude.{ℕ, ◌+◌, ◌-◌, ◌*◌, ◌^◌, ◌==◌, nat_lt, nat_le, if◌then◌else◌, List, [], ◌∷◌, length, slice_index, Option, Some, None}
use Rattle.ssz_bytes.specs.declared.fault.Fault.{Fault}
use Rattle.ssz_bytes.specs.Bytes.{le_number}

abbrev pub fault : ℕ → ℕ → Option Fault
fault code position = Some (record { code = code; position = position })

-- F1 Short: fewer bytes than there have to be
abbrev pub short : ℕ → Option Fault
short position = fault 1 position

-- F2 Extra: bytes behind the last one
abbrev pub extra : ℕ → Option Fault
extra position = fault 2 position

-- F3 BadBool: neither 00 nor 01
abbrev pub bad_bool : ℕ → Option Fault
bad_bool position = fault 3 position

-- F4 FirstOffset: not where the fixed parts end
abbrev pub first_offset : ℕ → Option Fault
first_offset position = fault 4 position

-- F5 OffsetRange: behind the end
abbrev pub offset_range : ℕ → Option Fault
offset_range position = fault 5 position

-- F6 OffsetOrder: below the offset before
abbrev pub offset_order : ℕ → Option Fault
offset_order position = fault 6 position

-- F7 Ragged: no whole number of elements
abbrev pub ragged : ℕ → Option Fault
ragged position = fault 7 position

-- F8 TooMany: more elements or bits than the limit
abbrev pub too_many : ℕ → Option Fault
too_many position = fault 8 position

-- F9 PaddingBits: a bit behind the last one is 1
abbrev pub padding_bits : ℕ → Option Fault
padding_bits position = fault 9 position

-- F10 NoDelimiter: no 1 bit ends the bits of a bitlist
abbrev pub no_delimiter : ℕ → Option Fault
no_delimiter position = fault 10 position

-- F11 BadSelector: no option's number
abbrev pub bad_selector : ℕ → Option Fault
bad_selector position = fault 11 position

-- Below, the bytes b begin at s.

-- a boolean is the byte 01 or 00
abbrev pub bool_fault : ℕ → List ℕ → Option Fault
bool_fault s b = if nat_lt 1 (slice_index b 0) then bad_bool s else None

-- no bit of index n or more is 1 in a bitvector of n bits
abbrev pub bitvector_fault : ℕ → ℕ → List ℕ → Option Fault
bitvector_fault n s b =
    if nat_le (2 ^ n) (le_number b) then padding_bits (s + length b - 1) else None

-- the last byte, or this one where there is none
abbrev pub last_after : ℕ → List ℕ → ℕ
last_after byte [] = byte
last_after byte (b ∷ bytes) = last_after b bytes

abbrev pub last_byte : List ℕ → ℕ
last_byte b = last_after 0 b

-- the place of the highest 1 bit of a byte that is not 0
abbrev pub highest_bit : ℕ → ℕ
highest_bit byte =
    if nat_le 128 byte then 7 else if nat_le 64 byte then 6 else if nat_le 32 byte then 5
    else if nat_le 16 byte then 4 else if nat_le 8 byte then 3 else if nat_le 4 byte then 2
    else if nat_le 2 byte then 1 else 0

-- the bits of a bitlist, which stand below the delimiter
abbrev pub bitlist_length : List ℕ → ℕ
bitlist_length b = 8 * (length b - 1) + highest_bit (last_byte b)

-- the last byte of a bitlist has the delimiter, and there are at most so many bits
abbrev pub bitlist_fault : ℕ → ℕ → List ℕ → Option Fault
bitlist_fault limit s b =
    if length b == 0 then no_delimiter s
    else if last_byte b == 0 then no_delimiter (s + length b - 1)
    else if nat_lt limit (bitlist_length b) then too_many s
    else None
