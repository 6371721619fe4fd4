-- The nodes that a default shares are few beside its pairs.
use Rattle.std.proofs.Common.{◌≡◌, ℕ, zero, suc, ◌+◌, ◌*◌, ◌^◌, ◌<◌, ◌≤◌, min, List, length, replicate, Option, Some, None, refl, ap, ◌∙◌, arith}
use Rattle.std.specs.List.{sum_by}
use Rattle.std.proofs.Math.Nat.{mul-le-mul_left}
use Rattle.std.proofs.lemmas.List.{length-replicate}
use Rattle.std.proofs.lemmas.List.Folds.{sum_by-replicate}
use Rattle.ssz_chunk.specs.Tree.{merkle_pairs}
use Rattle.ssz_chunk.proofs.Growing.{grow-suc}
use Rattle.ssz_schema.specs.format.Format.{Format}
use Rattle.ssz_schema.specs.Types.{SszType, Fields, Options, uint, boolean, container, vector, list, bitvector, bitlist, union, no_fields, field, no_options, none_option, option}
use Rattle.ssz_schema.specs.Sizes.{depth, basic_size, element_chunks, field_count}
use Rattle.ssz_schema.specs.Legal.{IsLegal, AreLegalFields, AreLegalOptions}
use Rattle.ssz_schema.proofs.DepthLemmas.{depth_of-holds}
use Rattle.ssz_value.specs.Values.{SszValue, items, values}
use Rattle.ssz_value.specs.Defaults.{default_of, default_fields, default_option}
use Rattle.ssz_value.specs.Pairs.{pairs, field_pairs}
use Rattle.ssz_value.proofs.Sequences.{items-values}
use Rattle.ssz_tree.specs.Shared.{shared, shared_fields, shared_option, shared_vector}

-- a tree over some places has a pair on each level
grow-deep : (d n : ℕ) → 0 < n → n ≤ 2 ^ d → d ≤ merkle_pairs d n
grow-deep zero n some few = omega arith
grow-deep (suc d) n some few =
    let below : d ≤ merkle_pairs d (min (2 ^ d) n) =
    grow-deep d (min (2 ^ d) n) (omega arith) (omega arith)
    in omega (arith, grow-suc d n some few, below)

-- equal parts that share one node, and two nodes a level, beside all their pairs
copies_few : (d n nodes cost all : ℕ) → 0 < n → d ≤ merkle_pairs d n → nodes ≤ 2 * cost
    → all ≡ n * cost → nodes + 2 * d ≤ 2 * (merkle_pairs d n + all)
copies_few d n nodes cost all some deep few is =
    let once : cost * 1 ≤ cost * n = mul-le-mul_left cost some in
    let turned : cost * n ≡ n * cost = omega arith in
    omega (arith, deep, few, is, once, turned)

-- the default of a vector, packed or not
vector_few : (elem : SszType) (n : ℕ) → 0 < n → shared elem ≤ 2 * pairs elem (default_of elem)
    → (size : Option ℕ) → basic_size elem ≡ size
    → shared_vector size (shared elem) (depth (vector elem n))
    ≤ 2 * pairs (vector elem n) (default_of (vector elem n))
vector_few elem n some few (Some z) is = omega arith
vector_few elem n some few None is =
    let one = default_of elem in
    let d = depth (vector elem n) in
    let back : items (values (replicate n one)) ≡ replicate n one =
    items-values (replicate n one) in
    let size : element_chunks (basic_size elem) n ≡ n = ap (λ s. element_chunks s n) is in
    let places : n ≤ 2 ^ d =
    omega (arith, size, depth_of-holds (element_chunks (basic_size elem) n)) in
    let many : element_chunks (basic_size elem) (length (items (values (replicate n one)))) ≡ n =
    ap (λ (vs : List SszValue). element_chunks (basic_size elem) (length vs)) back
    ∙ ap (element_chunks (basic_size elem)) (length-replicate n one) ∙ size in
    let all : sum_by (pairs elem) (items (values (replicate n one))) ≡ n * pairs elem one =
    ap (sum_by (pairs elem)) back ∙ sum_by-replicate (pairs elem) n one in
    omega (
      arith,
      copies_few d n (shared elem) (pairs elem one)
          (sum_by (pairs elem) (items (values (replicate n one)))) some (grow-deep d n some places)
          few all,
      ap (merkle_pairs d) many,
    )

module _ (format : Format) where
  mutual
    -- a default has at most twice as many shared nodes as pairs
    pub shared_few : (t : SszType) → IsLegal format t → shared t ≤ 2 * pairs t (default_of t)
    shared_few (uint w) legal = omega arith
    shared_few boolean legal = omega arith
    shared_few (container fs) legal =
        let many : length (items (values (default_fields fs))) ≡ field_count fs =
        ap (length {A = SszValue}) (items-values (default_fields fs)) ∙ count_defaults fs in
        omega (
          arith,
          ap (merkle_pairs (depth (container fs))) many,
          ap (field_pairs fs) (items-values (default_fields fs)),
          shared_fields_few fs legal.1,
        )
    shared_few (vector elem n) legal =
        vector_few elem n legal.1 (shared_few elem legal.0) (basic_size elem) refl
    shared_few (list elem limit) legal = omega arith
    shared_few (bitvector n) legal = omega arith
    shared_few (bitlist limit) legal = omega arith
    shared_few (union os) legal = option_few os legal.3

    count_defaults : (fs : Fields) → length (default_fields fs) ≡ field_count fs
    count_defaults no_fields = refl
    count_defaults (field name t fs) = omega (arith, count_defaults fs)

    shared_fields_few : (fs : Fields) → AreLegalFields format fs
        → shared_fields fs ≤ 2 * field_pairs fs (default_fields fs)
    shared_fields_few no_fields legal = omega arith
    shared_fields_few (field name t fs) legal =
        omega (arith, shared_few t legal.1, shared_fields_few fs legal.2)

    option_few : (os : Options) → AreLegalOptions format os
        → 1 + shared_option os ≤ 2 * pairs (union os) (default_option os)
    option_few no_options legal = omega arith
    option_few (none_option os) legal = omega arith
    option_few (option t os) legal = omega (arith, shared_few t legal.0)
