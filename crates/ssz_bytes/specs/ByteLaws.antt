-- That bytes and number, and bits and number, determine each other.
use Rattle.std.specs.Prelude.{ℕ, ◌^◌, ◌<◌, ◌≡◌, Bool, List, length}
use Rattle.ssz_bytes.specs.Bytes.{IsBytes, le_bytes, le_number, number_of_bits, bits_of_number}

-- a number that fits so many bytes is the number of its bytes
abbrev pub NumberIsThatOfItsBytes : Type 0
NumberIsThatOfItsBytes = (count n : ℕ) → n < 256 ^ count → le_number (le_bytes count n) ≡ n

-- bytes are those of their number
abbrev pub BytesAreThoseOfTheirNumber : Type 0
BytesAreThoseOfTheirNumber = (bytes : List ℕ) → IsBytes bytes
    → le_bytes (length bytes) (le_number bytes) ≡ bytes

-- so many bytes there are
abbrev pub NumberHasSoManyBytes : Type 0
NumberHasSoManyBytes = (count n : ℕ) → length (le_bytes count n) ≡ count

-- a number that fits so many bits is the number of its bits
abbrev pub NumberIsThatOfItsBits : Type 0
NumberIsThatOfItsBits = (count n : ℕ) → n < 2 ^ count → number_of_bits (bits_of_number count n) ≡ n

-- bits are those of their number
abbrev pub BitsAreThoseOfTheirNumber : Type 0
BitsAreThoseOfTheirNumber = (bits : List Bool)
    → bits_of_number (length bits) (number_of_bits bits) ≡ bits
