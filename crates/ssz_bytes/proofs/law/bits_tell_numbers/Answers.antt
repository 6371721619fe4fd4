use Rattle.ssz_bytes.proofs.Bits.{number_of_bits-bits_of_number, bits_of_number-number_of_bits}
use Rattle.ssz_bytes.proofs.law.bits_tell_numbers.Goals as goal

pub returns-clause-numbers : goal.returns-clause-numbers
returns-clause-numbers c = number_of_bits-bits_of_number

pub returns-clause-bits : goal.returns-clause-bits
returns-clause-bits c = bits_of_number-number_of_bits
