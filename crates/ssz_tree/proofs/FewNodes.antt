-- The nodes that are made for a value are few beside its pairs.
use Rattle.std.proofs.Common.{◌≡◌, ℕ, zero, suc, ◌+◌, ◌-◌, ◌*◌, ◌/◌, ◌^◌, ◌≤◌, min, List, [], ◌∷◌, length, Option, Some, None, refl, ap, subst, sym, arith}
use Rattle.std.specs.List.{AllByRecursion, sum_by}
use Rattle.std.proofs.Math.Nat.{mul-le-mul_right}
use Rattle.std.proofs.lemmas.List.Sums.{sum_by-cons}
use Rattle.ssz_chunk.specs.Tree.{merkle_pairs}
use Rattle.ssz_chunk.proofs.Growing.{grow-suc}
use Rattle.ssz_schema.specs.Types.{SszType, Fields, Options, uint, boolean, container, vector, list, bitvector, bitlist, union, no_fields, field, no_options, none_option, option}
use Rattle.ssz_schema.specs.Sizes.{depth, basic_size, element_chunks, field_count}
use Rattle.ssz_schema.proofs.DepthLemmas.{depth_of-holds}
use Rattle.ssz_value.specs.Values.{SszValue, sequence, bits, chosen, chosen_none, items, Fits, FitFields, FitsOption}
use Rattle.ssz_value.specs.Pairs.{pairs, field_pairs, option_pairs}
use Rattle.ssz_making.specs.Nodes.{new_nodes, field_nodes, option_nodes, element_nodes}

-- n places have at least n - 1 pairs above them
few_places : (d n : ℕ) → n ≤ 2 ^ d → n ≤ merkle_pairs d n + 1
few_places zero n few = omega arith
few_places (suc d) zero few = omega arith
few_places (suc d) (suc n) few =
    let power : 2 ^ suc d ≡ 2 * 2 ^ d = omega arith in
    let left : min (2 ^ d) (suc n) ≤ merkle_pairs d (min (2 ^ d) (suc n)) + 1 =
    few_places d (min (2 ^ d) (suc n)) (omega arith) in
    let right : suc n - 2 ^ d ≤ merkle_pairs d (suc n - 2 ^ d) + 1 =
    few_places d (suc n - 2 ^ d) (omega arith) in
    omega (arith, grow-suc d (suc n) (omega arith) few, left, right)

-- fewer elements have no more chunks
chunks_fewer : (size : Option ℕ) (n m : ℕ) → n ≤ m → element_chunks size n ≤ element_chunks size m
chunks_fewer (Some z) n m few = let all : n * z ≤ m * z = mul-le-mul_right z few in omega arith
chunks_fewer None n m few = few

-- the law for one type
abbrev IsFew : SszType → Type 0
IsFew t = (v : SszValue) → Fits t v → new_nodes t v ≤ 2 * pairs t v + 1

-- values of one type
values_few : (t : SszType) → IsFew t → (vs : List SszValue) → AllByRecursion (Fits t) vs
    → sum_by (new_nodes t) vs ≤ 2 * sum_by (pairs t) vs + length vs
values_few t few [] all = omega arith
values_few t few (v ∷ vs) all = omega (
  arith,
  sum_by-cons (new_nodes t) v vs,
  sum_by-cons (pairs t) v vs,
  few v all.0,
  values_few t few vs all.1,
)

-- and the pairs above them
elements_few : (size : Option ℕ) (d n nodes pairs : ℕ) → element_chunks size n ≤ 2 ^ d
    → nodes ≤ 2 * pairs + n → merkle_pairs d (element_chunks size n) + element_nodes size n nodes
    ≤ 2 * (merkle_pairs d (element_chunks size n) + pairs) + 1
elements_few (Some z) d n nodes pairs fits few =
    omega (arith, few_places d ((n * z + 31) / 32) fits)
elements_few None d n nodes pairs fits few = omega (arith, few_places d n fits, few)

-- the law for the values of fields
record FieldsFew (fs : Fields) (vs : List SszValue) : Type 0 where
  pub count : length vs ≡ field_count fs
  pub few : field_nodes fs vs ≤ 2 * field_pairs fs vs + length vs

mutual
  -- they are at most twice as many as the pairs and one
  pub few_nodes : (t : SszType) → IsFew t
  few_nodes (uint w) v fit = omega arith
  few_nodes boolean v fit = omega arith
  few_nodes (container fs) (sequence vs) fit =
      let all = fields_few fs (items vs) fit in
      let fits : length (items vs) ≤ 2 ^ depth (container fs) =
      omega (arith, all.count, depth_of-holds (field_count fs)) in
      omega (arith, all.few, few_places (depth (container fs)) (length (items vs)) fits)
  few_nodes (container fs) _ fit = absurd fit
  few_nodes (vector elem n) (sequence vs) fit =
      elements_few (basic_size elem) (depth (vector elem n)) (length (items vs)) _ _
      (subst (λ k. element_chunks (basic_size elem) k ≤ 2 ^ depth (vector elem n)) (sym fit.0)
      (depth_of-holds (element_chunks (basic_size elem) n)))
      (values_few elem (few_nodes elem) (items vs) fit.1)
  few_nodes (vector elem n) _ fit = absurd fit
  few_nodes (list elem limit) (sequence vs) fit =
      let fits : element_chunks (basic_size elem) (length (items vs))
      ≤ 2 ^ depth (list elem limit) =
      omega (
        arith,
        chunks_fewer (basic_size elem) (length (items vs)) limit fit.0,
        depth_of-holds (element_chunks (basic_size elem) limit),
      ) in
      omega (
        arith,
        elements_few (basic_size elem) (depth (list elem limit)) (length (items vs))
            (sum_by (new_nodes elem) (items vs)) (sum_by (pairs elem) (items vs)) fits
            (values_few elem (few_nodes elem) (items vs) fit.1),
      )
  few_nodes (list elem limit) _ fit = absurd fit
  few_nodes (bitvector n) (bits bs) fit =
      let fits : (length bs + 255) / 256 ≤ 2 ^ depth (bitvector n) =
      omega (arith, ap (λ k. (k + 255) / 256) fit, depth_of-holds ((n + 255) / 256)) in
      omega (arith, few_places (depth (bitvector n)) ((length bs + 255) / 256) fits)
  few_nodes (bitvector n) _ fit = absurd fit
  few_nodes (bitlist limit) (bits bs) fit =
      let within : (length bs + 255) / 256 ≤ (limit + 255) / 256 = omega (arith, fit) in
      let fits : (length bs + 255) / 256 ≤ 2 ^ depth (bitlist limit) =
      omega (arith, within, depth_of-holds ((limit + 255) / 256)) in
      omega (arith, few_places (depth (bitlist limit)) ((length bs + 255) / 256) fits)
  few_nodes (bitlist limit) _ fit = absurd fit
  few_nodes (union os) (chosen k v) fit = omega (arith, option_few os k v fit)
  few_nodes (union os) (chosen_none k) fit = omega arith
  few_nodes (union os) _ fit = absurd fit

  fields_few : (fs : Fields) (vs : List SszValue) → FitFields fs vs → FieldsFew fs vs
  fields_few no_fields [] fit = record { count = refl; few = omega arith }
  fields_few no_fields (v ∷ vs) fit = absurd fit
  fields_few (field name t fs) [] fit = absurd fit
  fields_few (field name t fs) (v ∷ vs) fit =
      let rest = fields_few fs vs fit.1 in
      record {
        count = omega (arith, rest.count);
        few = omega (arith, few_nodes t v fit.0, rest.few);
      }

  option_few : (os : Options) (k : ℕ) (v : SszValue) → FitsOption os k v
      → option_nodes os k v ≤ 2 * option_pairs os k v + 1
  option_few no_options k v fit = absurd fit
  option_few (none_option os) zero v fit = absurd fit
  option_few (none_option os) (suc k) v fit = option_few os k v fit
  option_few (option t os) zero v fit = few_nodes t v fit
  option_few (option t os) (suc k) v fit = option_few os k v fit
