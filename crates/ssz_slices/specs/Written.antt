-- The bytes of an encoding that is lent or made.
use Rattle.std.specs.Prelude.{ℕ, List}
use Rattle.ssz_slices.specs.declared.encoding.Encoding.{Encoding}
use Rattle.ssz_slices.specs.declared.encoding.Encoding.TheVariants.{Lent, Bit, Length}

abbrev pub encoding_written : Encoding → List ℕ
encoding_written (Lent bytes) = bytes.now
encoding_written (Bit bytes) = bytes
encoding_written (Length bytes) = bytes
