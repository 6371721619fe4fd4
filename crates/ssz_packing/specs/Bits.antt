-- The bytes of a bit list without its delimiter.
use Rattle.std.specs.Prelude.{ℕ, ◌-◌, ◌^◌, List, length, slice_set}
use Rattle.ssz_bytes.specs.Faults.{last_byte, highest_bit}

-- the highest 1 bit of the last byte is 0
abbrev pub undelimited : List ℕ → List ℕ
undelimited bytes = slice_set bytes (length bytes - 1)
    (last_byte bytes - 2 ^ highest_bit (last_byte bytes))
