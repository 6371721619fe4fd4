use Rattle.ssz_bytes.proofs.Numbers.{length-le_bytes, le_number-le_bytes, le_bytes-le_number}
use Rattle.ssz_bytes.proofs.law.bytes_tell_numbers.Goals as goal

pub returns-clause-size : goal.returns-clause-size
returns-clause-size c = length-le_bytes

pub returns-clause-numbers : goal.returns-clause-numbers
returns-clause-numbers c = le_number-le_bytes

pub returns-clause-bytes : goal.returns-clause-bytes
returns-clause-bytes c = le_bytes-le_number
