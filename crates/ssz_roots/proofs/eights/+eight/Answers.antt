use Rattle.std.proofs.Common.{rules, ◌≡◌, ◌∙◌, ℕ, suc, ◌+◌, ◌-◌, ◌*◌, ◌<◌, ◌≤◌, ◌^◌, ◌/◌, List, [], length, map, take, replicate, get_or, Some, None, sym, ap, subst, arith, option_map, length-take}
use Rattle.std.specs.List.{AllByRecursion, sum_by}
use Rattle.std.proofs.lemmas.List.{get_or_default}
use Rattle.ssz_chunk.specs.Chunk.{CountsUp}
use Rattle.ssz_chunk.specs.Rows.{chunk_in_row}
use Rattle.ssz_chunk.specs.Tree.{root, merkle_tree, merkle_pairs}
use Rattle.ssz_chunk.proofs.Counting.{CountsUp-none, CountsUp-add}
use Rattle.ssz_chunk.proofs.Growing.{grow-zero}
use Rattle.ssz_schema.specs.Sizes.{fixed_size}
use Rattle.ssz_schema.specs.Unfolding.{type_of, type_tree_at, fields_over}
use Rattle.ssz_value.specs.Encoding.{heads_length}
use Rattle.ssz_value.proofs.PartLemmas.{Part, sizes_of}
use Rattle.ssz_roots.specs.Eights.{AreFixed, AreFaultless, eight, lane_range, pieces}
use Rattle.ssz_roots.proofs.Pieces.{eight-sum, eight-same, trees_in, pairs_in}
use Rattle.ssz_roots.proofs.Cutting.{cut_fields, fields-halves, fields-pairs, no_items, one_field, behind, known-front, known-behind, length-behind}
use Rattle.ssz_schema.specs.Types.{container}
use Rattle.ssz_schema.specs.Unfolding.{tree_over, AreBelow}
use Rattle.ssz_value.specs.Faults.{first_fault, elements_fault}
use Rattle.ssz_value.proofs.Agree.{IsInput, IsInput-range}
use Rattle.ssz_schema.specs.Sizes.{basic_size, element_chunks, depth}
use Rattle.ssz_packing.proofs.Arms.{container_room, vector_elements, IsPackedBits-bitvector}
use Rattle.ssz_schema.specs.Legal.{IsLegal}
use Rattle.ssz_value.specs.Encoding.{serialize}
use Rattle.ssz_value.specs.Reading.{value_in}
use Rattle.ssz_value.specs.Trees.{tree, chunks, pack, element_leaves}
use Rattle.ssz_value.specs.Pairs.{pairs}
use Rattle.ssz_merkle.specs.Frontier.{leaves}
use Rattle.ssz_parts.specs.PartValues.{element_values}
use Rattle.ssz_parts.proofs.ElementValues.{length-element_values}
use Rattle.ssz_packing.specs.Elements.{element_trees}
use Rattle.ssz_roots.proofs.Rooted.{basic_root, vector_root, vector_pairs}
use Rattle.ssz_roots.proofs.Alike.{trees_of, pairs_of, cut_elements, elements-halves, elements-pairs, none-front, none-back, one_element, one_element_pairs, fixed_elements}
use Rattle.ssz_roots.proofs.Lanes.{fixed_fields, container_lane, elements_within, elements_none, packed_lane, lane_room, eight-times, length-lane}
use Rattle.ssz_roots.proofs.eights.+eight.Goals as goal

abbrev first_part : List Part → Part → Part
first_part parts part = get_or parts 0 part

first_is : (parts : List Part) (part : Part) → 0 < length parts
    → first_part parts part ≡ get_or parts 0 (first_part parts part)
first_is parts part some = get_or_default parts 0 part (first_part parts part) some

moved : (from step heads next : ℕ) → next ≡ from + heads → from + step + heads ≡ next + step
moved from step heads next is = omega (arith, is)

pub fields_of_eight-returns-then-count-eq0-clause-counts :
    goal.fields_of_eight-returns-then-count-eq0-clause-counts
fields_of_eight-returns-then-count-eq0-clause-counts g t c =
    let trees = c.args.lanes.now.schema.now.trees in
    let d : ℕ = c.args.depth in
    let costs : List Part → ℕ → ℕ = λ ps j. merkle_pairs d (length ps) + pairs_in trees ps
    (pieces (sizes_of trees ps) (c.args.from + j * c.args.lanes.now.stride)
    c.args.lanes.now.bytes.now) in
    let none : c.args.fields.now ≡ [] = no_items c.args.fields.now (omega arith) in
    let each : (j : ℕ) → j < 8 → 0 ≡ costs c.args.fields.now j = λ j below.
    sym (ap (λ ps. costs ps j) none ∙ omega (arith, grow-zero d)) in
    subst (λ n. CountsUp n (g.H.PairHash.pairs c.args.hasher.now)
    (g.H.PairHash.pairs c.args.hasher.now)) (eight-same (λ j. 0) (costs c.args.fields.now) each)
    (CountsUp-none _)

pub fields_of_eight-returns-then-depth-eq0-clause-roots :
    goal.fields_of_eight-returns-then-depth-eq0-clause-roots
fields_of_eight-returns-then-depth-eq0-clause-roots g t c j below =
    let few : length c.args.fields.now ≤ 1 = subst (λ d. length c.args.fields.now ≤ 2 ^ d)
    c.if-depth-eq0.true c.requires.few in
    let one : length c.args.fields.now ≡ 1 = omega (arith, few, c.if-count-eq0.false) in
    let only = one_field g.H.PairHash.pair_of c.args.lanes.now.schema.now.trees c.args.fields.now
    (first_part c.args.fields.now c.index-fields-0.result) c.args.depth
    (c.args.from + j * c.args.lanes.now.stride) c.args.lanes.now.bytes.now c.if-depth-eq0.true one
    (first_is c.args.fields.now c.index-fields-0.result (omega (arith, one))) c.requires.fixed in
    c.one_of_eight.ensures.roots j below ∙ only.one_root

pub fields_of_eight-returns-then-depth-eq0-clause-counts :
    goal.fields_of_eight-returns-then-depth-eq0-clause-counts
fields_of_eight-returns-then-depth-eq0-clause-counts g t c =
    let few : length c.args.fields.now ≤ 1 = subst (λ d. length c.args.fields.now ≤ 2 ^ d)
    c.if-depth-eq0.true c.requires.few in
    let one : length c.args.fields.now ≡ 1 = omega (arith, few, c.if-count-eq0.false) in
    let same = eight-same _ _ (λ j below. (one_field g.H.PairHash.pair_of
    c.args.lanes.now.schema.now.trees c.args.fields.now
    (first_part c.args.fields.now c.index-fields-0.result) c.args.depth
    (c.args.from + j * c.args.lanes.now.stride) c.args.lanes.now.bytes.now c.if-depth-eq0.true one
    (first_is c.args.fields.now c.index-fields-0.result (omega (arith, one)))
    c.requires.fixed).one_pairs) in
    subst (λ n. CountsUp n (g.H.PairHash.pairs c.args.hasher.now)
    (g.H.PairHash.pairs c.one_of_eight.new.hasher)) same c.one_of_eight.ensures.counts

pub fields_of_eight-fields_of_eight-next-requires :
    goal.fields_of_eight-fields_of_eight-next-requires
fields_of_eight-fields_of_eight-next-requires g t c κs within =
    let trees = c.args.lanes.now.schema.now.trees in
    let parts : List Part = c.args.fields.now in
    let half : ℕ = c.left_of-half.result in
    let made = λ (a : ℕ). cut_fields trees parts half a c.args.lanes.now.bytes.now
    c.requires.fixed in
    let before : AllByRecursion (λ (part : Part). part.1 < c.args.id) (take half parts) =
    known-front c.args.id parts half c.requires.before in
    let few : length (take half parts) ≤ 2 ^ (c.args.depth - 1) =
    omega (arith, length-take half parts, c.left_of-half.ensures) in
    let fixed : AreFixed (sizes_of trees (take half parts)) = (made 0).front_fixed in
    let room : c.args.from + 7 * c.args.lanes.now.stride
    + heads_length (sizes_of trees (take half parts))
    ≤ length c.args.lanes.now.bytes.now = omega (arith, (made 0).heads, c.requires.room) in
    let good : (j : ℕ) → j < 8 → AreFaultless (fields_over trees (take half parts))
    (pieces (sizes_of trees (take half parts)) (c.args.from + j * c.args.lanes.now.stride)
    c.args.lanes.now.bytes.now) =
    λ j below. ((made (c.args.from + j * c.args.lanes.now.stride)).faultless
    (c.requires.faultless j below)).0 in
    search rules

pub fields_of_eight-fields_of_eight-end-requires :
    goal.fields_of_eight-fields_of_eight-end-requires
fields_of_eight-fields_of_eight-end-requires g t c κs within =
    let trees = c.args.lanes.now.schema.now.trees in
    let parts : List Part = c.args.fields.now in
    let half : ℕ = c.left_of-half.result in
    let next : ℕ = c.fields_of_eight-next.result.1 in
    let deep : c.args.depth ≡ suc (c.args.depth - 1) = omega (arith, c.if-depth-eq0.false) in
    let all : length parts ≤ 2 ^ suc (c.args.depth - 1) =
    subst (λ k. length parts ≤ 2 ^ k) deep c.requires.few in
    let made = λ (a : ℕ). cut_fields trees parts half a c.args.lanes.now.bytes.now
    c.requires.fixed in
    let before : AllByRecursion (λ (part : Part). part.1 < c.args.id) (behind half parts) =
    known-behind c.args.id parts half c.requires.before in
    let few : length (behind half parts) ≤ 2 ^ (c.args.depth - 1) =
    omega (arith, length-behind half parts, c.left_of-half.ensures, all) in
    let fixed : AreFixed (sizes_of trees (behind half parts)) = (made 0).back_fixed in
    let place : next ≡ c.args.from + heads_length (sizes_of trees (take half parts)) =
    c.fields_of_eight-next.ensures.place in
    let room : next + 7 * c.args.lanes.now.stride
    + heads_length (sizes_of trees (behind half parts))
    ≤ length c.args.lanes.now.bytes.now = omega (arith, (made 0).heads, c.requires.room, place) in
    let good : (j : ℕ) → j < 8 → AreFaultless (fields_over trees (behind half parts))
    (pieces (sizes_of trees (behind half parts)) (next + j * c.args.lanes.now.stride)
    c.args.lanes.now.bytes.now) =
    λ j below. subst (λ a. AreFaultless (fields_over trees (behind half parts))
    (pieces (sizes_of trees (behind half parts)) a c.args.lanes.now.bytes.now))
    (moved c.args.from (j * c.args.lanes.now.stride)
    (heads_length (sizes_of trees (take half parts))) next
    place) ((made (c.args.from + j * c.args.lanes.now.stride)).faultless
    (c.requires.faultless j below)).1 in
    search rules

pub fields_of_eight-returns-clause-roots : goal.fields_of_eight-returns-clause-roots
fields_of_eight-returns-clause-roots g t c j below =
    let trees = c.args.lanes.now.schema.now.trees in
    let parts : List Part = c.args.fields.now in
    let half : ℕ = c.left_of-half.result in
    let d : ℕ = c.args.depth - 1 in
    let deep : suc d ≡ c.args.depth = omega (arith, c.if-depth-eq0.false) in
    let a : ℕ = c.args.from + j * c.args.lanes.now.stride in
    let place = moved c.args.from (j * c.args.lanes.now.stride)
    (heads_length (sizes_of trees (take half parts))) c.fields_of_eight-next.result.1
    c.fields_of_eight-next.ensures.place in
    fields-halves g.H.PairHash.pair_of trees parts d half a c.args.lanes.now.bytes.now
    (chunk_in_row c.fields_of_eight-next.result.0 j) (chunk_in_row c.fields_of_eight-end.result.0 j)
    (chunk_in_row c.pair_columns.result j) c.left_of-half.ensures c.requires.fixed
    (c.fields_of_eight-next.ensures.roots j below)
    (c.fields_of_eight-end.ensures.roots j below
    ∙ ap (λ p. root g.H.PairHash.pair_of (merkle_tree d (trees_in trees (behind half parts)
    (pieces (sizes_of trees (behind half parts)) p c.args.lanes.now.bytes.now)))) (sym place))
    (c.pair_columns.ensures.value j below)
    ∙ ap (λ k. root g.H.PairHash.pair_of (merkle_tree k (trees_in trees parts
    (pieces (sizes_of trees parts) a c.args.lanes.now.bytes.now)))) deep

pub fields_of_eight-returns-clause-place : goal.fields_of_eight-returns-clause-place
fields_of_eight-returns-clause-place g t c =
    let made = cut_fields c.args.lanes.now.schema.now.trees c.args.fields.now c.left_of-half.result
    0 c.args.lanes.now.bytes.now c.requires.fixed in
    omega (
      arith,
      made.heads,
      c.fields_of_eight-next.ensures.place,
      c.fields_of_eight-end.ensures.place,
    )

pub fields_of_eight-returns-clause-counts : goal.fields_of_eight-returns-clause-counts
fields_of_eight-returns-clause-counts g t c =
    let trees = c.args.lanes.now.schema.now.trees in
    let parts : List Part = c.args.fields.now in
    let half : ℕ = c.left_of-half.result in
    let next : ℕ = c.fields_of_eight-next.result.1 in
    let d : ℕ = c.args.depth - 1 in
    let deep : suc d ≡ c.args.depth = omega (arith, c.if-depth-eq0.false) in
    let few : length parts ≤ 2 ^ suc d =
    subst (λ k. length parts ≤ 2 ^ k) (sym deep) c.requires.few in
    let costs : ℕ → List Part → ℕ → ℕ = λ k ps a. merkle_pairs k (length ps) + pairs_in trees ps
    (pieces (sizes_of trees ps) a c.args.lanes.now.bytes.now) in
    let each : (j : ℕ) → j < 8 → costs (suc d) parts (c.args.from + j * c.args.lanes.now.stride)
    ≡ costs d (take half parts) (c.args.from + j * c.args.lanes.now.stride)
    + costs d (behind half parts) (next + j * c.args.lanes.now.stride) + 1 =
    λ j below. fields-pairs trees parts d half (c.args.from + j * c.args.lanes.now.stride)
    c.args.lanes.now.bytes.now c.left_of-half.ensures (omega (arith, c.if-count-eq0.false)) few
    c.requires.fixed
    ∙ ap (λ p. costs d (take half parts) (c.args.from + j * c.args.lanes.now.stride)
    + costs d (behind half parts) p + 1) (moved c.args.from (j * c.args.lanes.now.stride)
    (heads_length (sizes_of trees (take half parts))) next
    c.fields_of_eight-next.ensures.place) in
    subst (λ k. CountsUp (eight (λ j. costs k parts (c.args.from + j * c.args.lanes.now.stride)))
    (g.H.PairHash.pairs c.args.hasher.now) (g.H.PairHash.pairs c.pair_columns.new.hasher)) deep
    (subst (λ n. CountsUp n (g.H.PairHash.pairs c.args.hasher.now)
    (g.H.PairHash.pairs c.pair_columns.new.hasher))
    (eight-sum (λ j. costs d (take half parts) (c.args.from + j * c.args.lanes.now.stride))
    (λ j. costs d (behind half parts) (next + j * c.args.lanes.now.stride))
    (λ j. costs (suc d) parts (c.args.from + j * c.args.lanes.now.stride)) each)
    (CountsUp-add _ 8 _ _ _ (CountsUp-add _ _ _ _ _ c.fields_of_eight-next.ensures.counts
    c.fields_of_eight-end.ensures.counts) c.pair_columns.ensures.counts))

-- elements

pub elements_of_eight-returns-then-count-eq0-clause-counts :
    goal.elements_of_eight-returns-then-count-eq0-clause-counts
elements_of_eight-returns-then-count-eq0-clause-counts g t c =
    let ty = type_of c.args.lanes.now.schema.now c.args.elem in
    let d : ℕ = c.args.depth in
    let costs : ℕ → ℕ → ℕ = λ n j. merkle_pairs d n + pairs_of ty
    (pieces (replicate n (fixed_size ty)) (c.args.from + j * c.args.lanes.now.stride)
    c.args.lanes.now.bytes.now) in
    let each : (j : ℕ) → j < 8 → 0 ≡ costs c.args.count j = λ j below.
    sym (ap (λ n. costs n j) c.if-count-eq0.true ∙ omega (arith, grow-zero d)) in
    subst (λ n. CountsUp n (g.H.PairHash.pairs c.args.hasher.now)
    (g.H.PairHash.pairs c.args.hasher.now)) (eight-same (λ j. 0) (costs c.args.count) each)
    (CountsUp-none _)

pub elements_of_eight-one_of_eight-requires : goal.elements_of_eight-one_of_eight-requires
elements_of_eight-one_of_eight-requires g t c κs within =
    let ty = type_of c.args.lanes.now.schema.now c.args.elem in
    let few : c.args.count ≤ 1 = subst (λ d. c.args.count ≤ 2 ^ d) c.if-depth-eq0.true
    c.requires.few in
    let one : c.args.count ≡ 1 = omega (arith, few, c.if-count-eq0.false) in
    let fixed : AreFixed (replicate 1 (fixed_size ty)) =
    subst (λ n. AreFixed (replicate n (fixed_size ty))) one c.requires.fixed in
    let room : c.args.from + 7 * c.args.lanes.now.stride
    + heads_length (replicate 1 (fixed_size ty))
    ≤ length c.args.lanes.now.bytes.now = subst (λ n. c.args.from + 7 * c.args.lanes.now.stride
    + heads_length (replicate n (fixed_size ty)) ≤ length c.args.lanes.now.bytes.now) one
    c.requires.room in
    let good : (j : ℕ) → j < 8 → first_fault ty 0 (get_or (pieces (replicate 1 (fixed_size ty))
    (c.args.from + j * c.args.lanes.now.stride) c.args.lanes.now.bytes.now) 0 []) ≡ None =
    λ j below. subst (λ n. first_fault ty 0 (get_or (pieces (replicate n (fixed_size ty))
    (c.args.from + j * c.args.lanes.now.stride) c.args.lanes.now.bytes.now) 0 []) ≡ None) one
    (c.requires.faultless j 0 below (omega (arith, one))) in
    search rules

pub elements_of_eight-returns-then-depth-eq0-clause-roots :
    goal.elements_of_eight-returns-then-depth-eq0-clause-roots
elements_of_eight-returns-then-depth-eq0-clause-roots g t c j below =
    let ty = type_of c.args.lanes.now.schema.now c.args.elem in
    let few : c.args.count ≤ 1 = subst (λ d. c.args.count ≤ 2 ^ d) c.if-depth-eq0.true
    c.requires.few in
    let one : c.args.count ≡ 1 = omega (arith, few, c.if-count-eq0.false) in
    c.one_of_eight.ensures.roots j below
    ∙ one_element g.H.PairHash.pair_of ty (fixed_size ty) c.args.count c.args.depth
    (c.args.from + j * c.args.lanes.now.stride) c.args.lanes.now.bytes.now one c.if-depth-eq0.true
    c.requires.fixed

pub elements_of_eight-returns-then-depth-eq0-clause-counts :
    goal.elements_of_eight-returns-then-depth-eq0-clause-counts
elements_of_eight-returns-then-depth-eq0-clause-counts g t c =
    let ty = type_of c.args.lanes.now.schema.now c.args.elem in
    let few : c.args.count ≤ 1 = subst (λ d. c.args.count ≤ 2 ^ d) c.if-depth-eq0.true
    c.requires.few in
    let one : c.args.count ≡ 1 = omega (arith, few, c.if-count-eq0.false) in
    let same = eight-same _ _ (λ j below. one_element_pairs ty (fixed_size ty) c.args.count
    c.args.depth (c.args.from + j * c.args.lanes.now.stride) c.args.lanes.now.bytes.now one
    c.if-depth-eq0.true c.requires.fixed) in
    subst (λ n. CountsUp n (g.H.PairHash.pairs c.args.hasher.now)
    (g.H.PairHash.pairs c.one_of_eight.new.hasher)) same c.one_of_eight.ensures.counts

pub elements_of_eight-elements_of_eight-next-requires :
    goal.elements_of_eight-elements_of_eight-next-requires
elements_of_eight-elements_of_eight-next-requires g t c κs within =
    let ty = type_of c.args.lanes.now.schema.now c.args.elem in
    let half : ℕ = c.left_of-half.result in
    let less : half ≤ c.args.count = omega (arith, c.left_of-half.ensures) in
    let few : half ≤ 2 ^ (c.args.depth - 1) = omega (arith, c.left_of-half.ensures) in
    let made = cut_elements (fixed_size ty) c.args.count half 0 c.args.lanes.now.bytes.now less
    c.requires.fixed in
    let fixed : AreFixed (replicate half (fixed_size ty)) = made.front_fixed in
    let room : c.args.from + 7 * c.args.lanes.now.stride
    + heads_length (replicate half (fixed_size ty))
    ≤ length c.args.lanes.now.bytes.now = omega (arith, made.heads, c.requires.room) in
    let good : (j i : ℕ) → j < 8 → i < half → first_fault ty 0 (get_or
    (pieces (replicate half (fixed_size ty)) (c.args.from + j * c.args.lanes.now.stride)
    c.args.lanes.now.bytes.now) i []) ≡ None =
    λ j i below inside. none-front ty (fixed_size ty) c.args.count half
    (c.args.from + j * c.args.lanes.now.stride) c.args.lanes.now.bytes.now less c.requires.fixed
    (λ k under. c.requires.faultless j k below under) i inside in
    search rules

pub elements_of_eight-elements_of_eight-end-requires :
    goal.elements_of_eight-elements_of_eight-end-requires
elements_of_eight-elements_of_eight-end-requires g t c κs within =
    let ty = type_of c.args.lanes.now.schema.now c.args.elem in
    let half : ℕ = c.left_of-half.result in
    let rest : ℕ = c.args.count - half in
    let next : ℕ = c.elements_of_eight-next.result.1 in
    let deep : c.args.depth ≡ suc (c.args.depth - 1) = omega (arith, c.if-depth-eq0.false) in
    let all : c.args.count ≤ 2 ^ suc (c.args.depth - 1) =
    subst (λ k. c.args.count ≤ 2 ^ k) deep c.requires.few in
    let less : half ≤ c.args.count = omega (arith, c.left_of-half.ensures) in
    let few : rest ≤ 2 ^ (c.args.depth - 1) = omega (arith, c.left_of-half.ensures, all) in
    let made = cut_elements (fixed_size ty) c.args.count half 0 c.args.lanes.now.bytes.now less
    c.requires.fixed in
    let fixed : AreFixed (replicate rest (fixed_size ty)) = made.back_fixed in
    let place : next ≡ c.args.from + heads_length (replicate half (fixed_size ty)) =
    c.elements_of_eight-next.ensures.place in
    let room : next + 7 * c.args.lanes.now.stride + heads_length (replicate rest (fixed_size ty))
    ≤ length c.args.lanes.now.bytes.now = omega (arith, made.heads, c.requires.room, place) in
    let good : (j i : ℕ) → j < 8 → i < rest → first_fault ty 0 (get_or
    (pieces (replicate rest (fixed_size ty)) (next + j * c.args.lanes.now.stride)
    c.args.lanes.now.bytes.now) i []) ≡ None =
    λ j i below inside. subst
    (λ a. first_fault ty 0 (get_or (pieces (replicate rest (fixed_size ty)) a
    c.args.lanes.now.bytes.now) i []) ≡ None) (moved c.args.from (j * c.args.lanes.now.stride)
    (heads_length (replicate half (fixed_size ty))) next place)
    (none-back ty (fixed_size ty) c.args.count half
    (c.args.from + j * c.args.lanes.now.stride) c.args.lanes.now.bytes.now less c.requires.fixed
    (λ k under. c.requires.faultless j k below under) i inside) in
    search rules

pub elements_of_eight-returns-clause-roots : goal.elements_of_eight-returns-clause-roots
elements_of_eight-returns-clause-roots g t c j below =
    let ty = type_of c.args.lanes.now.schema.now c.args.elem in
    let half : ℕ = c.left_of-half.result in
    let d : ℕ = c.args.depth - 1 in
    let deep : suc d ≡ c.args.depth = omega (arith, c.if-depth-eq0.false) in
    let a : ℕ = c.args.from + j * c.args.lanes.now.stride in
    let place = moved c.args.from (j * c.args.lanes.now.stride)
    (heads_length (replicate half (fixed_size ty))) c.elements_of_eight-next.result.1
    c.elements_of_eight-next.ensures.place in
    elements-halves g.H.PairHash.pair_of ty (fixed_size ty) c.args.count d half a
    c.args.lanes.now.bytes.now (chunk_in_row c.elements_of_eight-next.result.0 j)
    (chunk_in_row c.elements_of_eight-end.result.0 j) (chunk_in_row c.pair_columns.result j)
    c.left_of-half.ensures c.requires.fixed (c.elements_of_eight-next.ensures.roots j below)
    (c.elements_of_eight-end.ensures.roots j below
    ∙ ap (λ p. root g.H.PairHash.pair_of (merkle_tree d (trees_of ty
    (pieces (replicate (c.args.count - half) (fixed_size ty)) p c.args.lanes.now.bytes.now))))
    (sym place)) (c.pair_columns.ensures.value j below)
    ∙ ap (λ k. root g.H.PairHash.pair_of (merkle_tree k (trees_of ty
    (pieces (replicate c.args.count (fixed_size ty)) a c.args.lanes.now.bytes.now)))) deep

pub elements_of_eight-returns-clause-place : goal.elements_of_eight-returns-clause-place
elements_of_eight-returns-clause-place g t c =
    let made = cut_elements (fixed_size (type_of c.args.lanes.now.schema.now c.args.elem))
    c.args.count
    c.left_of-half.result 0 c.args.lanes.now.bytes.now (omega (arith, c.left_of-half.ensures))
    c.requires.fixed in
    omega (
      arith,
      made.heads,
      c.elements_of_eight-next.ensures.place,
      c.elements_of_eight-end.ensures.place,
    )

pub elements_of_eight-returns-clause-counts : goal.elements_of_eight-returns-clause-counts
elements_of_eight-returns-clause-counts g t c =
    let ty = type_of c.args.lanes.now.schema.now c.args.elem in
    let half : ℕ = c.left_of-half.result in
    let next : ℕ = c.elements_of_eight-next.result.1 in
    let d : ℕ = c.args.depth - 1 in
    let deep : suc d ≡ c.args.depth = omega (arith, c.if-depth-eq0.false) in
    let few : c.args.count ≤ 2 ^ suc d =
    subst (λ k. c.args.count ≤ 2 ^ k) (sym deep) c.requires.few in
    let costs : ℕ → ℕ → ℕ → ℕ = λ k n a. merkle_pairs k n + pairs_of ty
    (pieces (replicate n (fixed_size ty)) a c.args.lanes.now.bytes.now) in
    let each : (j : ℕ) → j < 8
    → costs (suc d) c.args.count (c.args.from + j * c.args.lanes.now.stride)
    ≡ costs d half (c.args.from + j * c.args.lanes.now.stride)
    + costs d (c.args.count - half) (next + j * c.args.lanes.now.stride) + 1 =
    λ j below. elements-pairs ty (fixed_size ty) c.args.count d half
    (c.args.from + j * c.args.lanes.now.stride) c.args.lanes.now.bytes.now c.left_of-half.ensures
    (omega (arith, c.if-count-eq0.false)) few c.requires.fixed
    ∙ ap (λ p. costs d half (c.args.from + j * c.args.lanes.now.stride)
    + costs d (c.args.count - half) p + 1) (moved c.args.from (j * c.args.lanes.now.stride)
    (heads_length (replicate half (fixed_size ty))) next
    c.elements_of_eight-next.ensures.place) in
    subst
    (λ k. CountsUp (eight (λ j. costs k c.args.count (c.args.from + j * c.args.lanes.now.stride)))
    (g.H.PairHash.pairs c.args.hasher.now) (g.H.PairHash.pairs c.pair_columns.new.hasher)) deep
    (subst (λ n. CountsUp n (g.H.PairHash.pairs c.args.hasher.now)
    (g.H.PairHash.pairs c.pair_columns.new.hasher))
    (eight-sum (λ j. costs d half (c.args.from + j * c.args.lanes.now.stride))
    (λ j. costs d (c.args.count - half) (next + j * c.args.lanes.now.stride))
    (λ j. costs (suc d) c.args.count (c.args.from + j * c.args.lanes.now.stride)) each)
    (CountsUp-add _ 8 _ _ _ (CountsUp-add _ _ _ _ _ c.elements_of_eight-next.ensures.counts
    c.elements_of_eight-end.ensures.counts) c.pair_columns.ensures.counts))

-- types

pub roots_of_eight-returns-in-Uint-clause-roots : goal.roots_of_eight-returns-in-Uint-clause-roots
roots_of_eight-returns-in-Uint-clause-roots g t c j below =
    let input : IsInput c.args.lanes.now.bytes.now = record
    { bytes = c.args.lanes.now.are_bytes; short = c.args.lanes.now.short } in
    let form = sym c.ty.ensures.form ∙ ap (tree_over c.args.lanes.now.schema.now.trees)
    c.in-Uint.is in
    c.chunk_column.ensures j below
    ∙ basic_root g.H.PairHash.pair_of c.args.lanes.now.schema.now.format
    (type_of c.args.lanes.now.schema.now c.args.id) _
    (lane_range c.args.span.from c.args.lanes.now.stride c.args.span.size c.args.lanes.now.bytes.now
    j)
    (ap basic_size form) c.ty.ensures.legal (record {
      input = IsInput-range c.args.lanes.now.bytes.now _ _ input;
      none = c.requires.faultless j below;
    })

pub roots_of_eight-returns-in-Boolean-clause-roots :
    goal.roots_of_eight-returns-in-Boolean-clause-roots
roots_of_eight-returns-in-Boolean-clause-roots g t c j below =
    let input : IsInput c.args.lanes.now.bytes.now = record
    { bytes = c.args.lanes.now.are_bytes; short = c.args.lanes.now.short } in
    let form = sym c.ty.ensures.form ∙ ap (tree_over c.args.lanes.now.schema.now.trees)
    c.in-Boolean.is in
    c.chunk_column-in-Boolean.ensures j below
    ∙ basic_root g.H.PairHash.pair_of c.args.lanes.now.schema.now.format
    (type_of c.args.lanes.now.schema.now c.args.id) _
    (lane_range c.args.span.from c.args.lanes.now.stride c.args.span.size c.args.lanes.now.bytes.now
    j)
    (ap basic_size form) c.ty.ensures.legal (record {
      input = IsInput-range c.args.lanes.now.bytes.now _ _ input;
      none = c.requires.faultless j below;
    })

pub roots_of_eight-fields_of_eight-made-requires : goal.roots_of_eight-fields_of_eight-made-requires
roots_of_eight-fields_of_eight-made-requires g t c κs within =
    let input : IsInput c.args.lanes.now.bytes.now = record
    { bytes = c.args.lanes.now.are_bytes; short = c.args.lanes.now.short } in
    let format = c.args.lanes.now.schema.now.format in
    let trees = c.args.lanes.now.schema.now.trees in
    let ty = type_of c.args.lanes.now.schema.now c.args.id in
    let parts : List Part = c.as_slice-fields.result.now in
    let fields : c.in-Container.fields.items ≡ c.as_slice-fields.result.now =
    sym c.as_slice-fields.ensures.value in
    let is : ty ≡ container (fields_over trees parts) =
    sym c.ty.ensures.form ∙ ap (tree_over trees) c.in-Container.is
    ∙ ap (λ (ps : List Part). container (fields_over trees ps)) fields in
    let law = fixed_fields ty trees parts c.args.span.size is c.requires.fixed in
    let space = container_room format ty trees parts c.depth-in-Container.result is
    c.ty.ensures.legal c.depth-in-Container.ensures.exact in
    let P : List Part → Type 0 = AllByRecursion (λ (part : Part). part.1 < c.args.id) in
    let all : P c.in-Container.fields.items = subst (AreBelow c.args.id)
    c.in-Container.is c.ty.ensures.before in
    let before : P parts = subst P fields all in
    let few : length parts ≤ 2 ^ c.depth-in-Container.result = space.few in
    let fixed : AreFixed (sizes_of trees parts) = law.fixed in
    let room : c.args.span.from + 7 * c.args.lanes.now.stride + heads_length (sizes_of trees parts)
    ≤ length c.args.lanes.now.bytes.now = omega (arith, law.heads, c.requires.room) in
    let good : (j : ℕ) → j < 8 → AreFaultless (fields_over trees parts)
    (pieces (sizes_of trees parts) (c.args.span.from + j * c.args.lanes.now.stride)
    c.args.lanes.now.bytes.now) =
    λ j below. (container_lane g.H.PairHash.pair_of format ty trees parts
    c.depth-in-Container.result (c.args.span.from + j * c.args.lanes.now.stride) c.args.span.size
    c.args.lanes.now.bytes.now is
    c.ty.ensures.legal c.depth-in-Container.ensures.exact input c.requires.fixed
    (c.requires.faultless j below)).none in
    search rules

pub roots_of_eight-returns-in-Container-clause-roots :
    goal.roots_of_eight-returns-in-Container-clause-roots
roots_of_eight-returns-in-Container-clause-roots g t c j below =
    let input : IsInput c.args.lanes.now.bytes.now = record
    { bytes = c.args.lanes.now.are_bytes; short = c.args.lanes.now.short } in
    let trees = c.args.lanes.now.schema.now.trees in
    let ty = type_of c.args.lanes.now.schema.now c.args.id in
    let parts : List Part = c.as_slice-fields.result.now in
    let fields : c.in-Container.fields.items ≡ c.as_slice-fields.result.now =
    sym c.as_slice-fields.ensures.value in
    let is : ty ≡ container (fields_over trees parts) =
    sym c.ty.ensures.form ∙ ap (tree_over trees) c.in-Container.is
    ∙ ap (λ (ps : List Part). container (fields_over trees ps)) fields in
    c.fields_of_eight-made.ensures.roots j below
    ∙ (container_lane g.H.PairHash.pair_of c.args.lanes.now.schema.now.format ty trees parts
    c.depth-in-Container.result (c.args.span.from + j * c.args.lanes.now.stride) c.args.span.size
    c.args.lanes.now.bytes.now is
    c.ty.ensures.legal c.depth-in-Container.ensures.exact input c.requires.fixed
    (c.requires.faultless j below)).same

pub roots_of_eight-returns-in-Container-clause-counts :
    goal.roots_of_eight-returns-in-Container-clause-counts
roots_of_eight-returns-in-Container-clause-counts g t c =
    let input : IsInput c.args.lanes.now.bytes.now = record
    { bytes = c.args.lanes.now.are_bytes; short = c.args.lanes.now.short } in
    let trees = c.args.lanes.now.schema.now.trees in
    let ty = type_of c.args.lanes.now.schema.now c.args.id in
    let parts : List Part = c.as_slice-fields.result.now in
    let fields : c.in-Container.fields.items ≡ c.as_slice-fields.result.now =
    sym c.as_slice-fields.ensures.value in
    let is : ty ≡ container (fields_over trees parts) =
    sym c.ty.ensures.form ∙ ap (tree_over trees) c.in-Container.is
    ∙ ap (λ (ps : List Part). container (fields_over trees ps)) fields in
    let same = eight-same _ _ (λ j below. (container_lane g.H.PairHash.pair_of
    c.args.lanes.now.schema.now.format ty trees parts
    c.depth-in-Container.result (c.args.span.from + j * c.args.lanes.now.stride) c.args.span.size
    c.args.lanes.now.bytes.now is
    c.ty.ensures.legal c.depth-in-Container.ensures.exact input c.requires.fixed
    (c.requires.faultless j below)).costs) in
    subst (λ n. CountsUp n (g.H.PairHash.pairs c.args.hasher.now)
    (g.H.PairHash.pairs c.fields_of_eight-made.new.hasher)) same
    c.fields_of_eight-made.ensures.counts

pub roots_of_eight-vector_of_eight-requires : goal.roots_of_eight-vector_of_eight-requires
roots_of_eight-vector_of_eight-requires g t c κs within =
    let trees = c.args.lanes.now.schema.now.trees in
    let ty = type_tree_at trees c.in-Vector.elem in
    let bytes = lane_range c.args.span.from c.args.lanes.now.stride c.args.span.size
    c.args.lanes.now.bytes.now in
    let form = sym c.ty.ensures.form ∙ ap (tree_over trees) c.in-Vector.is in
    let h = λ (j : ℕ) (below : j < 8). vector_elements c.args.lanes.now.schema.now.format
    (type_of c.args.lanes.now.schema.now c.args.id) ty c.in-Vector.count c.depth-depth.result
    (bytes j) form c.ty.ensures.legal (c.requires.faultless j below) c.depth-depth.ensures.exact in
    let first = h 0 (omega arith) in
    let below : c.in-Vector.elem < c.args.id = subst (AreBelow c.args.id)
    c.in-Vector.is c.ty.ensures.before in
    let legal : IsLegal c.args.lanes.now.schema.now.format ty = first.legal in
    let few : element_chunks (basic_size ty) c.in-Vector.count ≤ 2 ^ c.depth-depth.result =
    first.few in
    let fixed : option_map (λ z. c.in-Vector.count * z) (fixed_size ty) ≡ Some c.args.span.size =
    sym (ap fixed_size form) ∙ c.requires.fixed in
    let good : (j : ℕ) → j < 8 → elements_fault (first_fault ty) (fixed_size ty) c.in-Vector.count 0
    (bytes j) ≡ None = λ j below. (h j below).faultless in
    search rules

pub roots_of_eight-returns-in-Vector-clause-roots :
    goal.roots_of_eight-returns-in-Vector-clause-roots
roots_of_eight-returns-in-Vector-clause-roots g t c j below =
    let trees = c.args.lanes.now.schema.now.trees in
    let form = sym c.ty.ensures.form ∙ ap (tree_over trees) c.in-Vector.is in
    let ty = type_tree_at trees c.in-Vector.elem in
    let bytes = lane_range c.args.span.from c.args.lanes.now.stride c.args.span.size
    c.args.lanes.now.bytes.now j in
    c.vector_of_eight.ensures.roots j below
    ∙ ap (λ d. root g.H.PairHash.pair_of (merkle_tree d
    (element_trees ty (element_values ty c.in-Vector.count bytes))))
    (c.depth-depth.ensures.exact ∙ ap depth form)
    ∙ vector_root g.H.PairHash.pair_of ty c.in-Vector.count bytes
    ∙ ap (λ ty. root g.H.PairHash.pair_of (tree ty (value_in ty bytes))) (sym form)

pub roots_of_eight-returns-in-Vector-clause-counts :
    goal.roots_of_eight-returns-in-Vector-clause-counts
roots_of_eight-returns-in-Vector-clause-counts g t c =
    let trees = c.args.lanes.now.schema.now.trees in
    let form = sym c.ty.ensures.form ∙ ap (tree_over trees) c.in-Vector.is in
    let ty = type_tree_at trees c.in-Vector.elem in
    let n : ℕ = c.in-Vector.count in
    let bytes = lane_range c.args.span.from c.args.lanes.now.stride c.args.span.size
    c.args.lanes.now.bytes.now in
    let same = eight-same (λ j. merkle_pairs c.depth-depth.result (element_chunks (basic_size ty) n)
    + sum_by (pairs ty) (element_values ty n (bytes j)))
    (λ j. pairs (type_of c.args.lanes.now.schema.now c.args.id)
    (value_in (type_of c.args.lanes.now.schema.now c.args.id) (bytes j)))
    (λ j below. ap (λ d. merkle_pairs d (element_chunks (basic_size ty) n) + sum_by (pairs ty)
    (element_values ty n (bytes j))) (c.depth-depth.ensures.exact ∙ ap depth form)
    ∙ vector_pairs ty n (bytes j) (length-element_values ty n (bytes j))
    ∙ ap (λ ty. pairs ty (value_in ty (bytes j))) (sym form)) in
    subst (λ n. CountsUp n (g.H.PairHash.pairs c.args.hasher.now)
    (g.H.PairHash.pairs c.vector_of_eight.new.hasher)) same c.vector_of_eight.ensures.counts

pub roots_of_eight-chunks_of_eight-requires-clause-few :
    goal.roots_of_eight-chunks_of_eight-requires-clause-few
roots_of_eight-chunks_of_eight-requires-clause-few g t c =
    let input : IsInput c.args.lanes.now.bytes.now = record
    { bytes = c.args.lanes.now.are_bytes; short = c.args.lanes.now.short } in
    let bytes = lane_range c.args.span.from c.args.lanes.now.stride c.args.span.size
    c.args.lanes.now.bytes.now 0 in
    let h = IsPackedBits-bitvector g.H.PairHash.pair_of c.args.lanes.now.schema.now.format
    (type_of c.args.lanes.now.schema.now c.args.id) c.in-Bitvector.field-0 bytes
    (sym c.ty.ensures.form ∙ ap (tree_over c.args.lanes.now.schema.now.trees) c.in-Bitvector.is)
    c.ty.ensures.legal (IsInput-range c.args.lanes.now.bytes.now _ _ input)
    (c.requires.faultless 0 (omega arith)) in
    let long : length bytes ≡ c.args.span.size = length-lane c.args.lanes.now.bytes.now
    (c.args.span.from + 0 * c.args.lanes.now.stride) c.args.span.size
    (omega (arith, c.requires.room)) in
    let few : (c.args.span.size + 31) / 32
    ≤ 2 ^ depth (type_of c.args.lanes.now.schema.now c.args.id) =
    subst (λ n. (n + 31) / 32 ≤ 2 ^ depth (type_of c.args.lanes.now.schema.now c.args.id)) long
    h.few in
    subst (λ d. c.chunk_count-count.result ≤ 2 ^ d) (sym c.depth.ensures.exact)
    (subst (λ n. n ≤ 2 ^ depth (type_of c.args.lanes.now.schema.now c.args.id))
    (sym c.chunk_count-count.ensures) few)

pub roots_of_eight-returns-in-Bitvector-clause-roots :
    goal.roots_of_eight-returns-in-Bitvector-clause-roots
roots_of_eight-returns-in-Bitvector-clause-roots g t c j below =
    let input : IsInput c.args.lanes.now.bytes.now = record
    { bytes = c.args.lanes.now.are_bytes; short = c.args.lanes.now.short } in
    let bytes : List ℕ = lane_range c.args.span.from c.args.lanes.now.stride c.args.span.size
    c.args.lanes.now.bytes.now j in
    let h = IsPackedBits-bitvector g.H.PairHash.pair_of c.args.lanes.now.schema.now.format
    (type_of c.args.lanes.now.schema.now c.args.id) c.in-Bitvector.field-0 bytes
    (sym c.ty.ensures.form ∙ ap (tree_over c.args.lanes.now.schema.now.trees) c.in-Bitvector.is)
    c.ty.ensures.legal (IsInput-range c.args.lanes.now.bytes.now _ _ input)
    (c.requires.faultless j below) in
    let long : length bytes ≡ c.args.span.size = length-lane c.args.lanes.now.bytes.now
    (c.args.span.from + j * c.args.lanes.now.stride) c.args.span.size
    (lane_room c.args.span.from c.args.lanes.now.stride c.args.span.size
    (length c.args.lanes.now.bytes.now) j below c.requires.room) in
    c.chunks_of_eight.ensures.roots j below
    ∙ ap (λ n. root g.H.PairHash.pair_of (merkle_tree c.depth.result
    (leaves (chunks n bytes)))) (c.chunk_count-count.ensures
    ∙ ap (λ n. (n + 31) / 32) (sym long))
    ∙ ap (λ d. root g.H.PairHash.pair_of (merkle_tree d (leaves (pack bytes))))
    c.depth.ensures.exact ∙ h.same

pub roots_of_eight-returns-in-Bitvector-clause-counts :
    goal.roots_of_eight-returns-in-Bitvector-clause-counts
roots_of_eight-returns-in-Bitvector-clause-counts g t c =
    let input : IsInput c.args.lanes.now.bytes.now = record
    { bytes = c.args.lanes.now.are_bytes; short = c.args.lanes.now.short } in
    let ty = type_of c.args.lanes.now.schema.now c.args.id in
    let bytes : ℕ → List ℕ = lane_range c.args.span.from c.args.lanes.now.stride c.args.span.size
    c.args.lanes.now.bytes.now in
    let each : (j : ℕ) → j < 8 → merkle_pairs c.depth.result c.chunk_count-count.result
    ≡ pairs ty (value_in ty (bytes j)) =
    λ j below.
    let h = IsPackedBits-bitvector g.H.PairHash.pair_of c.args.lanes.now.schema.now.format
    ty c.in-Bitvector.field-0 (bytes j)
    (sym c.ty.ensures.form ∙ ap (tree_over c.args.lanes.now.schema.now.trees) c.in-Bitvector.is)
    c.ty.ensures.legal (IsInput-range c.args.lanes.now.bytes.now _ _ input)
    (c.requires.faultless j below) in
    let long : length (bytes j) ≡ c.args.span.size = length-lane c.args.lanes.now.bytes.now
    (c.args.span.from + j * c.args.lanes.now.stride) c.args.span.size
    (lane_room c.args.span.from c.args.lanes.now.stride c.args.span.size
    (length c.args.lanes.now.bytes.now) j below c.requires.room) in
    ap (merkle_pairs c.depth.result) (c.chunk_count-count.ensures
    ∙ ap (λ n. (n + 31) / 32) (sym long))
    ∙ ap (λ d. merkle_pairs d ((length (bytes j) + 31) / 32)) c.depth.ensures.exact
    ∙ h.costs in
    subst (λ n. CountsUp n (g.H.PairHash.pairs c.args.hasher.now)
    (g.H.PairHash.pairs c.chunks_of_eight.new.hasher))
    (eight-times (merkle_pairs c.depth.result c.chunk_count-count.result)
    (λ j. pairs ty (value_in ty (bytes j))) each) c.chunks_of_eight.ensures.counts

-- vectors

pub vector_of_eight-chunks_of_eight-requires-clause-few :
    goal.vector_of_eight-chunks_of_eight-requires-clause-few
vector_of_eight-chunks_of_eight-requires-clause-few g t c =
    let input : IsInput c.args.lanes.now.bytes.now = record
    { bytes = c.args.lanes.now.are_bytes; short = c.args.lanes.now.short } in
    let ty = type_of c.args.lanes.now.schema.now c.args.elem in
    let room = lane_room c.args.span.from c.args.lanes.now.stride c.args.span.size
    (length c.args.lanes.now.bytes.now) 0 (omega arith) c.requires.room in
    let long = length-lane c.args.lanes.now.bytes.now
    (c.args.span.from + 0 * c.args.lanes.now.stride) c.args.span.size room in
    let packed = packed_lane g.H.PairHash.pair_of c.args.depth c.args.lanes.now.schema.now.format ty
    c.in-Some.field-0 c.args.count (c.args.span.from + 0 * c.args.lanes.now.stride) c.args.span.size
    c.args.lanes.now.bytes.now (sym c.in-Some.ensures.exact) c.requires.legal input room
    c.requires.fixed (c.requires.faultless 0 (omega arith)) in
    subst (λ n. n ≤ 2 ^ c.args.depth) (sym (c.chunk_count-chunks.ensures
    ∙ ap (λ n. (n + 31) / 32) (sym long) ∙ packed.chunks)) c.requires.few

pub vector_of_eight-returns-in-Some-clause-roots : goal.vector_of_eight-returns-in-Some-clause-roots
vector_of_eight-returns-in-Some-clause-roots g t c j below =
    let input : IsInput c.args.lanes.now.bytes.now = record
    { bytes = c.args.lanes.now.are_bytes; short = c.args.lanes.now.short } in
    let ty = type_of c.args.lanes.now.schema.now c.args.elem in
    let bytes : List ℕ = lane_range c.args.span.from c.args.lanes.now.stride c.args.span.size
    c.args.lanes.now.bytes.now j in
    let room = lane_room c.args.span.from c.args.lanes.now.stride c.args.span.size
    (length c.args.lanes.now.bytes.now) j below c.requires.room in
    let long = length-lane c.args.lanes.now.bytes.now
    (c.args.span.from + j * c.args.lanes.now.stride) c.args.span.size room in
    let packed = packed_lane g.H.PairHash.pair_of c.args.depth c.args.lanes.now.schema.now.format ty
    c.in-Some.field-0 c.args.count (c.args.span.from + j * c.args.lanes.now.stride) c.args.span.size
    c.args.lanes.now.bytes.now (sym c.in-Some.ensures.exact) c.requires.legal input room
    c.requires.fixed (c.requires.faultless j below) in
    c.chunks_of_eight.ensures.roots j below
    ∙ ap (λ n. root g.H.PairHash.pair_of (merkle_tree c.args.depth (leaves (chunks n bytes))))
    (c.chunk_count-chunks.ensures ∙ ap (λ n. (n + 31) / 32) (sym long))
    ∙ packed.same

pub vector_of_eight-returns-in-Some-clause-counts :
    goal.vector_of_eight-returns-in-Some-clause-counts
vector_of_eight-returns-in-Some-clause-counts g t c =
    let input : IsInput c.args.lanes.now.bytes.now = record
    { bytes = c.args.lanes.now.are_bytes; short = c.args.lanes.now.short } in
    let ty = type_of c.args.lanes.now.schema.now c.args.elem in
    let d : ℕ = c.args.depth in
    let bytes : ℕ → List ℕ = lane_range c.args.span.from c.args.lanes.now.stride c.args.span.size
    c.args.lanes.now.bytes.now in
    let each : (j : ℕ) → j < 8 → merkle_pairs d c.chunk_count-chunks.result
    ≡ merkle_pairs d (element_chunks (basic_size ty) c.args.count)
    + sum_by (pairs ty) (element_values ty c.args.count (bytes j)) =
    λ j below.
    let room = lane_room c.args.span.from c.args.lanes.now.stride c.args.span.size
    (length c.args.lanes.now.bytes.now) j below c.requires.room in
    let long = length-lane c.args.lanes.now.bytes.now
    (c.args.span.from + j * c.args.lanes.now.stride) c.args.span.size room in
    let packed = packed_lane g.H.PairHash.pair_of d c.args.lanes.now.schema.now.format ty
    c.in-Some.field-0 c.args.count (c.args.span.from + j * c.args.lanes.now.stride) c.args.span.size
    c.args.lanes.now.bytes.now (sym c.in-Some.ensures.exact) c.requires.legal input room
    c.requires.fixed (c.requires.faultless j below) in
    ap (merkle_pairs d) (c.chunk_count-chunks.ensures ∙ ap (λ n. (n + 31) / 32) (sym long)
    ∙ packed.chunks) ∙ omega (arith, packed.no_pairs) in
    subst (λ n. CountsUp n (g.H.PairHash.pairs c.args.hasher.now)
    (g.H.PairHash.pairs c.chunks_of_eight.new.hasher))
    (eight-times (merkle_pairs d c.chunk_count-chunks.result) (λ j.
    merkle_pairs d (element_chunks (basic_size ty) c.args.count)
    + sum_by (pairs ty) (element_values ty c.args.count (bytes j))) each)
    c.chunks_of_eight.ensures.counts

pub vector_of_eight-elements_of_eight-made-requires :
    goal.vector_of_eight-elements_of_eight-made-requires
vector_of_eight-elements_of_eight-made-requires g t c κs within =
    let input : IsInput c.args.lanes.now.bytes.now = record
    { bytes = c.args.lanes.now.are_bytes; short = c.args.lanes.now.short } in
    let ty = type_of c.args.lanes.now.schema.now c.args.elem in
    let law = fixed_elements c.args.count c.args.span.size (fixed_size ty) c.requires.fixed in
    let few : c.args.count ≤ 2 ^ c.args.depth =
    subst (λ size. element_chunks size c.args.count ≤ 2 ^ c.args.depth)
    (sym c.in-None.ensures.exact) c.requires.few in
    let fixed : AreFixed (replicate c.args.count (fixed_size ty)) = law.0 in
    let room : c.args.span.from + 7 * c.args.lanes.now.stride
    + heads_length (replicate c.args.count (fixed_size ty)) ≤ length c.args.lanes.now.bytes.now =
    omega (arith, law.1, c.requires.room) in
    let good : (j i : ℕ) → j < 8 → i < c.args.count → first_fault ty 0 (get_or
    (pieces (replicate c.args.count (fixed_size ty))
    (c.args.span.from + j * c.args.lanes.now.stride) c.args.lanes.now.bytes.now) i []) ≡ None =
    λ j i below inside. elements_none c.args.lanes.now.schema.now.format ty c.args.count
    (c.args.span.from + j * c.args.lanes.now.stride) c.args.span.size c.args.lanes.now.bytes.now
    c.requires.legal input law.0 law.1 (c.requires.faultless j below) i inside in
    search rules

pub vector_of_eight-returns-in-None-clause-roots : goal.vector_of_eight-returns-in-None-clause-roots
vector_of_eight-returns-in-None-clause-roots g t c j below =
    let ty = type_of c.args.lanes.now.schema.now c.args.elem in
    let law = fixed_elements c.args.count c.args.span.size (fixed_size ty) c.requires.fixed in
    let vs = element_values ty c.args.count
    (lane_range c.args.span.from c.args.lanes.now.stride c.args.span.size c.args.lanes.now.bytes.now
    j) in
    c.elements_of_eight-made.ensures.roots j below
    ∙ ap (λ xs. root g.H.PairHash.pair_of (merkle_tree c.args.depth (trees_of ty xs)))
    (sym (elements_within (fixed_size ty) c.args.count
    (c.args.span.from + j * c.args.lanes.now.stride) c.args.span.size c.args.lanes.now.bytes.now
    law.0 law.1))
    ∙ ap (λ size. root g.H.PairHash.pair_of (merkle_tree c.args.depth (element_leaves size
    (map (serialize ty) vs) (map (tree ty) vs)))) c.in-None.ensures.exact

pub vector_of_eight-returns-in-None-clause-counts :
    goal.vector_of_eight-returns-in-None-clause-counts
vector_of_eight-returns-in-None-clause-counts g t c =
    let ty = type_of c.args.lanes.now.schema.now c.args.elem in
    let d : ℕ = c.args.depth in
    let n : ℕ = c.args.count in
    let law = fixed_elements n c.args.span.size (fixed_size ty) c.requires.fixed in
    let bytes : ℕ → List ℕ = lane_range c.args.span.from c.args.lanes.now.stride c.args.span.size
    c.args.lanes.now.bytes.now in
    let same = eight-same (λ j. merkle_pairs d n + pairs_of ty
    (pieces (replicate n (fixed_size ty)) (c.args.span.from + j * c.args.lanes.now.stride)
    c.args.lanes.now.bytes.now)) (λ j. merkle_pairs d (element_chunks (basic_size ty) n)
    + sum_by (pairs ty) (element_values ty n (bytes j)))
    (λ j below. ap (λ xs. merkle_pairs d n + pairs_of ty xs)
    (sym (elements_within (fixed_size ty) n (c.args.span.from + j * c.args.lanes.now.stride)
    c.args.span.size c.args.lanes.now.bytes.now law.0 law.1))
    ∙ ap (λ size. merkle_pairs d (element_chunks size n)
    + sum_by (pairs ty) (element_values ty n (bytes j))) c.in-None.ensures.exact) in
    subst (λ n. CountsUp n (g.H.PairHash.pairs c.args.hasher.now)
    (g.H.PairHash.pairs c.elements_of_eight-made.new.hasher)) same
    c.elements_of_eight-made.ensures.counts
