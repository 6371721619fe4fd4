-- What a call knows of the bytes that it is handed.
use Rattle.std.proofs.Common.{ℕ, ◌^◌, ◌<◌, List, length, get_or, arith, Fits, w8}
use Rattle.ssz_value.proofs.Agree.{IsInput}

pub input_of : (b : List ℕ) → ((i : ℕ) → Fits w8 (get_or b i 0)) → length b < 2 ^ 32 → IsInput b
input_of b fits short = record { bytes = λ i. omega (arith, fits i); short = short }
