-- How deep the trees of legal types are, and how many chunks they hold.
use Rattle.ssz_schema.specs.format.Format.{Format}
use Rattle.ssz_schema.specs.format.Format.TheVariants.{One, Two}
use Rattle.std.proofs.Common.{◌≡◌, ℕ, ◌+◌, ◌*◌, ◌/◌, ◌^◌, ◌≤◌, List, [], ◌∷◌, Option, Some, None, refl, arith, subst, zero-add}
use Rattle.std.proofs.lemmas.List.Sums.{sum_by-append}
use Rattle.std.proofs.Math.Nat.{mul-le-mul_left}
use Rattle.std.specs.List.{sum_by}
use Rattle.ssz_schema.specs.width.Width.{Width}
use Rattle.ssz_schema.specs.width.Width.TheVariants.{W8, W16, W32, W64, W128, W256}
use Rattle.ssz_schema.specs.Types.{SszType, uint, boolean, container, vector, list, bitvector, bitlist, union}
use Rattle.ssz_schema.specs.Sizes.{byte_count, fixed_size, basic_size, element_chunks, depth}
use Rattle.ssz_schema.proofs.DepthLemmas.{depth_of-holds}
use Rattle.ssz_schema.proofs.SizeLemmas.{vector_few}
use Rattle.ssz_value.specs.Values.{SszValue}
use Rattle.ssz_schema.specs.Legal.{IsLegal, most_levels, greatest_limit}
use Rattle.ssz_value.specs.Pairs.{pairs}

-- the limits of both formats
pub levels_few : (format : Format) → most_levels format ≤ 126
levels_few One = omega arith
levels_few Two = omega arith

pub limit_few : (format : Format) → greatest_limit format ≤ 2 ^ 62
limit_few One = omega arith
limit_few Two = omega arith

byte_count-few : (w : Width) → byte_count w ≤ 32
byte_count-few W8 = omega arith
byte_count-few W16 = omega arith
byte_count-few W32 = omega arith
byte_count-few W64 = omega arith
byte_count-few W128 = omega arith
byte_count-few W256 = omega arith

-- a basic type
pub record IsBasic (t : SszType) (z : ℕ) : Type 0 where
  pub few : z ≤ 32
  pub fixed : fixed_size t ≡ Some z
  pub no_pairs : (v : SszValue) → pairs t v ≡ 0

same_some : (a b : ℕ) → Some a ≡ Some b → a ≡ b
same_some a b e = cc

pub IsBasic-basic : (t : SszType) (z : ℕ) → basic_size t ≡ Some z → IsBasic t z
IsBasic-basic (uint w) z e = record {
  few = omega
      (arith, byte_count-few w, same_some (byte_count w) z e);
  fixed = e;
  no_pairs = λ v. refl;
}
IsBasic-basic boolean z e = record {
  few = omega (arith, same_some 1 z e);
  fixed = e;
  no_pairs = λ v. refl;
}
IsBasic-basic (container fs) z e = cc
IsBasic-basic (vector t n) z e = cc
IsBasic-basic (list t n) z e = cc
IsBasic-basic (bitvector n) z e = cc
IsBasic-basic (bitlist n) z e = cc
IsBasic-basic (union os) z e = cc

pub no_pairs_in : (t : SszType) (z : ℕ) → IsBasic t z → (vs : List SszValue) → sum_by (pairs t) vs
    ≡ 0
no_pairs_in t z basic [] = refl
no_pairs_in t z basic (v ∷ vs) =
    let step : sum_by (pairs t) (v ∷ vs) ≡ sum_by (pairs t) (v ∷ []) + sum_by (pairs t) vs =
    sum_by-append (pairs t) (v ∷ []) vs in
    let one : sum_by (pairs t) (v ∷ []) ≡ pairs t v = zero-add (pairs t v) in
    omega (arith, step, one, basic.no_pairs v, no_pairs_in t z basic vs)

-- more elements have no fewer chunks, and no more than there are
packed_few : (z n m : ℕ) → z ≤ 32 → n ≤ m → (n * z + 31) / 32 ≤ (m * z + 31) / 32
packed_few z n m small few = let h : z * n ≤ z * m = mul-le-mul_left z few in omega arith

packed_below : (z n : ℕ) → z ≤ 32 → (n * z + 31) / 32 ≤ n
packed_below z n small = let h : n * z ≤ n * 32 = mul-le-mul_left n small in omega arith

chunks_by : (t : SszType) (size : Option ℕ) (n m : ℕ) → basic_size t ≡ size → n ≤ m
    → (element_chunks size n ≤ element_chunks size m) × (element_chunks size n ≤ n)
chunks_by t None n m e few = (few, omega arith)
chunks_by t (Some z) n m e few = let basic = IsBasic-basic t z e in
    (packed_few z n m basic.few few, packed_below z n basic.few)

-- the full tree of a type has room for its chunks
pub record HasRoom (count depth : ℕ) : Type 0 where
  pub few : count ≤ 2 ^ depth
  pub shallow : depth ≤ 126

pub vector_room : (format : Format) (elem : SszType) (n : ℕ) → IsLegal format (vector elem n)
    → HasRoom (element_chunks (basic_size elem) n) (depth (vector elem n))
vector_room format elem n legal =
    let few : n ≤ 2 ^ 24 = vector_few format elem n legal in
    let some = chunks_by elem (basic_size elem) n n refl (omega arith) in
    record {
      few = depth_of-holds (element_chunks (basic_size elem) n);
      shallow = omega (arith, legal.2.levels, levels_few format);
    }

pub list_room : (format : Format) (elem : SszType) (limit count : ℕ)
    → IsLegal format (list elem limit) → count ≤ limit
    → HasRoom (element_chunks (basic_size elem) count) (depth (list elem limit))
list_room format elem limit count legal within =
    let all = chunks_by elem (basic_size elem) limit limit refl (omega arith) in
    let some = chunks_by elem (basic_size elem) count limit refl within in
    let covers : element_chunks (basic_size elem) limit
    ≤ 2 ^ depth (list elem limit) = depth_of-holds (element_chunks (basic_size elem) limit) in
    record {
      few = omega (arith, some.0, covers);
      shallow = omega (arith, legal.2.levels, levels_few format);
    }

pub bitvector_room : (format : Format) (n len : ℕ) → IsLegal format (bitvector n) → len
    ≡ (n + 7) / 8 → HasRoom ((len + 31) / 32) (depth (bitvector n))
bitvector_room format n len legal e =
    let few : (n + 7) / 8 ≤ 2 ^ 24 = legal.1.default_length in
    let same : (len + 31) / 32 ≡ (n + 255) / 256 = omega arith in
    let covers : (n + 255) / 256 ≤ 2 ^ depth (bitvector n) = depth_of-holds ((n + 255) / 256) in
    record {
      few = omega (arith, covers, same);
      shallow =
          omega (arith, legal.1.levels, levels_few format);
    }

-- a chunk holds a whole number of values of a basic type
pub basic_divides : (t : SszType) (z : ℕ) → basic_size t ≡ Some z → z * (32 / z) ≡ 32
basic_divides (uint w) z e = subst (λ n. n * (32 / n) ≡ 32) (same_some (byte_count w) z e)
    (width_divides w)
  where
    width_divides : (w : Width) → byte_count w * (32 / byte_count w) ≡ 32
    width_divides W8 = refl
    width_divides W16 = refl
    width_divides W32 = refl
    width_divides W64 = refl
    width_divides W128 = refl
    width_divides W256 = refl
basic_divides boolean z e = subst (λ n. n * (32 / n) ≡ 32) (same_some 1 z e) refl
basic_divides (container fs) z e = cc
basic_divides (vector t n) z e = cc
basic_divides (list t n) z e = cc
basic_divides (bitvector n) z e = cc
basic_divides (bitlist n) z e = cc
basic_divides (union os) z e = cc
