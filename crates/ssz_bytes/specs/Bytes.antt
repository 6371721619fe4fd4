-- Numbers, bits and offsets as bytes, least significant first (simple-serialize.md, Serialization).
use Rattle.std.specs.Prelude.{ℕ, zero, suc, ◌+◌, ◌*◌, ◌/◌, ◌%◌, ◌<◌, ◌==◌, Bool, true, false, List, [], ◌∷◌, ◌++◌, get_or}

-- each is a byte
abbrev pub IsBytes : List ℕ → Type 0
IsBytes bytes = (i : ℕ) → get_or bytes i 0 < 256

-- the first count bytes of the number: `value.to_bytes(count, "little")`
abbrev pub le_bytes : ℕ → ℕ → List ℕ
le_bytes zero n = []
le_bytes (suc count) n = n % 256 ∷ le_bytes count (n / 256)

-- the number that these bytes are: `int.from_bytes(bytes, "little")`
abbrev pub le_number : List ℕ → ℕ
le_number [] = 0
le_number (b ∷ bytes) = b + 256 * le_number bytes

-- an offset as it stands among the fixed parts, in BYTES_PER_LENGTH_OFFSET bytes
abbrev pub offset_bytes : ℕ → List ℕ
offset_bytes offset = le_bytes 4 offset

abbrev pub bit_value : Bool → ℕ
bit_value false = 0
bit_value true = 1

-- the number whose bits these are, bit 0 first: bit i stands for 2 ^ i
abbrev pub number_of_bits : List Bool → ℕ
number_of_bits [] = 0
number_of_bits (b ∷ bits) = bit_value b + 2 * number_of_bits bits

-- the first count bits of the number
abbrev pub bits_of_number : ℕ → ℕ → List Bool
bits_of_number zero n = []
bits_of_number (suc count) n = (n % 2 == 1) ∷ bits_of_number count (n / 2)

-- the bits as they are written: a bitlist has a 1 bit behind them, which delimits it
abbrev pub delimited : Bool → List Bool → List Bool
delimited false bits = bits
delimited true bits = bits ++ true ∷ []

-- the bytes of n bits that are written so: (n + 7) / 8 of a bitvector, n / 8 + 1 of a bitlist
abbrev pub bits_size : Bool → ℕ → ℕ
bits_size false n = (n + 7) / 8
bits_size true n = n / 8 + 1
