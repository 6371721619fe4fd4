-- Where a step leads to a basic part, the part lies within its chunk.
use Rattle.std.proofs.Common.{◌≡◌, ℕ, ◌+◌, ◌*◌, ◌%◌, ◌≤◌, cond, ltb, Some, None, sym, subst, arith}
use Rattle.ssz_schema.specs.declared.path.PathStep.{PathStep}
use Rattle.ssz_schema.specs.declared.path.PathStep.TheVariants.{Index}
use Rattle.ssz_schema.specs.width.Width.TheVariants.{W8, W16, W32, W64, W128, W256}
use Rattle.ssz_schema.specs.Types.{SszType, uint, boolean, container, vector, list, bitvector, bitlist, union}
use Rattle.ssz_schema.specs.Sizes.{basic_size}
use Rattle.ssz_schema.specs.Paths.{step_type}
use Rattle.ssz_schema.proofs.PathLemmas.{if_within}
use Rattle.ssz_schema.specs.Indices.{bit, element_spot, step_spot}
use Rattle.ssz_walk.specs.declared.place.Spot.{Spot as Place}
use Rattle.ssz_walk.specs.declared.place.Spot.TheVariants.{Whole, Byte, Bit}
use Rattle.ssz_walk.specs.Found.{spot_of}
use Rattle.ssz_partial.specs.Spots.{IsWithinChunk, SpotSuits}

same_size : (m z at : ℕ) → Some m ≡ Some z → at + m ≤ 32 → at + z ≤ 32
same_size m z at e h = let same : m ≡ z = cc in omega (arith, same, h)

-- an element of a basic type
element_suits : (elem : SszType) (i : ℕ) → SpotSuits elem (element_spot (basic_size elem) i)
element_suits (uint W8) i = λ z e. same_size 1 z (i * 1 % 32) e (omega arith)
element_suits (uint W16) i = λ z e. same_size 2 z (i * 2 % 32) e (omega arith)
element_suits (uint W32) i = λ z e. same_size 4 z (i * 4 % 32) e (omega arith)
element_suits (uint W64) i = λ z e. same_size 8 z (i * 8 % 32) e (omega arith)
element_suits (uint W128) i = λ z e. same_size 16 z (i * 16 % 32) e (omega arith)
element_suits (uint W256) i = λ z e. same_size 32 z (i * 32 % 32) e (omega arith)
element_suits boolean i = λ z e. same_size 1 z (i * 1 % 32) e (omega arith)
element_suits (container fs) i = tt
element_suits (vector t n) i = tt
element_suits (list t n) i = tt
element_suits (bitvector n) i = tt
element_suits (bitlist n) i = tt
element_suits (union os) i = tt

bit_suits : (i n : ℕ) (u : SszType) → cond (ltb i n) (Some boolean) None ≡ Some u
    → SpotSuits u (bit (i % 256))
bit_suits i n u e = (omega arith, sym (if_within i n boolean u e).1)

pub step_suits : (t u : SszType) (step : PathStep) → step_type t step ≡ Some u
    → SpotSuits u (step_spot t step)
step_suits (vector elem n) u (Index i) e =
    subst (λ v. SpotSuits v (element_spot (basic_size elem) i)) (if_within i n elem u e).1
    (element_suits elem i)
step_suits (list elem n) u (Index i) e =
    subst (λ v. SpotSuits v (element_spot (basic_size elem) i)) (if_within i n elem u e).1
    (element_suits elem i)
step_suits (bitvector n) u (Index i) e = bit_suits i n u e
step_suits (bitlist n) u (Index i) e = bit_suits i n u e
step_suits (uint w) u step e = tt
step_suits boolean u step e = tt
step_suits (container fs) u step e = tt
step_suits (union os) u step e = tt
step_suits (vector elem n) u _ e = tt
step_suits (list elem n) u _ e = tt
step_suits (bitvector n) u _ e = tt
step_suits (bitlist n) u _ e = tt

-- the part lies within the chunk
pub is_within : (u : SszType) (z : ℕ) (spot : Place) → basic_size u ≡ Some z → z ≤ 32
    → SpotSuits u (spot_of spot) → IsWithinChunk z spot
is_within u z Whole e few suits = few
is_within u z (Byte at) e few suits = suits z e
is_within u z (Bit at) e few suits = suits.0
