-- The parts of the values of each form of a type, made of the parts below them.
use Rattle.std.proofs.Common.{◌≡◌, ℕ, ◌+◌, ◌/◌, List, [], ◌∷◌, length, map, Some, None, refl, sym, ap, ap₂, ◌∙◌, arith}
use Rattle.std.specs.List.{concat, sum_by}
use Rattle.std.proofs.lemmas.List.{length-map}
use Rattle.std.proofs.lemmas.List.Sums.{sum_by-cons}
use Rattle.std.proofs.lemmas.Simd.{map-map}
use Rattle.ssz_chunk.specs.Tree.{Tree, leaf, merkle_tree, merkle_pairs}
use Rattle.ssz_schema.specs.Types.{SszType, Fields, no_fields, field, container, vector, list}
use Rattle.ssz_schema.specs.Sizes.{basic_size, element_chunks, depth}
use Rattle.ssz_value.specs.Values.{SszValue, sequence, values}
use Rattle.ssz_value.specs.Encoding.{serialize}
use Rattle.ssz_value.specs.Trees.{tree, pack, element_leaves, field_trees, number_chunk}
use Rattle.ssz_value.specs.Pairs.{pairs, field_pairs}
use Rattle.ssz_value.proofs.Sequences.{items-values}
use Rattle.ssz_packing.proofs.Bounds.{IsBasic-basic, no_pairs_in}
use Rattle.ssz_packing.proofs.Chunks.{length-chunks}
use Rattle.ssz_packing.proofs.BasicTrees.{composite_trees}
use Rattle.ssz_making.specs.Parts.{MadePart, part_trees, part_nodes, costs, whole_of, joined_leaf, part_of_value, chunk_part, elements_part, field_parts}
use Rattle.ssz_making.specs.Nodes.{new_nodes, field_nodes, element_nodes}

-- a part by its fields
abbrev pub part : Tree → ℕ → ℕ → MadePart
part tree cost nodes = record { tree = tree; cost = cost; nodes = nodes }

pub parts_equal : (t u : Tree) (c d n m : ℕ) → t ≡ u → c ≡ d → n ≡ m → part t c n ≡ part u d m
parts_equal t u c d n m trees costs nodes =
    ap₂ (λ tree cost. part tree cost n) trees costs ∙ ap (part u d) nodes

-- chunks cost nothing, and each is a node
pub costs-chunks : (cs : List (List ℕ)) → costs (map chunk_part cs) ≡ 0
costs-chunks [] = refl
costs-chunks (c ∷ cs) = omega (
  arith,
  sum_by-cons (λ (p : MadePart). p.cost) (chunk_part c) (map chunk_part cs),
  costs-chunks cs,
)

pub nodes-chunks : (cs : List (List ℕ)) → part_nodes (map chunk_part cs) ≡ length cs
nodes-chunks [] = refl
nodes-chunks (c ∷ cs) = omega (
  arith,
  sum_by-cons (λ (p : MadePart). p.nodes) (chunk_part c) (map chunk_part cs),
  nodes-chunks cs,
)

pub whole-chunks : (d : ℕ) (cs : List (List ℕ)) → whole_of d (map chunk_part cs)
    ≡ part (merkle_tree d (map leaf cs)) (merkle_pairs d (length cs))
    (merkle_pairs d (length cs) + length cs)
whole-chunks d cs = let above = ap (merkle_pairs d) (length-map cs chunk_part) in
    parts_equal _ _ _ _ _ _ (ap (merkle_tree d) (map-map (λ (p : MadePart). p.tree) chunk_part cs))
    (omega (arith, costs-chunks cs, above)) (omega (arith, nodes-chunks cs, above))

-- values of one type cost their pairs
pub costs-values : (t : SszType) (vs : List SszValue)
    → costs (map (part_of_value t) vs) ≡ sum_by (pairs t) vs
costs-values t [] = refl
costs-values t (v ∷ vs) = omega (
  arith,
  sum_by-cons (λ (p : MadePart). p.cost) (part_of_value t v) (map (part_of_value t) vs),
  sum_by-cons (pairs t) v vs,
  costs-values t vs,
)

pub nodes-values : (t : SszType) (vs : List SszValue)
    → part_nodes (map (part_of_value t) vs) ≡ sum_by (new_nodes t) vs
nodes-values t [] = refl
nodes-values t (v ∷ vs) = omega (
  arith,
  sum_by-cons (λ (p : MadePart). p.nodes) (part_of_value t v) (map (part_of_value t) vs),
  sum_by-cons (new_nodes t) v vs,
  nodes-values t vs,
)

pub whole-values : (d : ℕ) (t : SszType) (vs : List SszValue)
    → whole_of d (map (part_of_value t) vs)
    ≡ part (merkle_tree d (map (tree t) vs)) (merkle_pairs d (length vs) + sum_by (pairs t) vs)
    (merkle_pairs d (length vs) + sum_by (new_nodes t) vs)
whole-values d t vs = let above = ap (merkle_pairs d) (length-map vs (part_of_value t)) in
    parts_equal _ _ _ _ _ _
    (ap (merkle_tree d) (map-map (λ (p : MadePart). p.tree) (part_of_value t) vs))
    (omega (arith, costs-values t vs, above)) (omega (arith, nodes-values t vs, above))

-- elements of a basic type are packed
pub elements-packed : (t : SszType) (z d : ℕ) (vs : List SszValue) (b : List ℕ)
    → basic_size t ≡ Some z → concat (map (serialize t) vs) ≡ b
    → (length b + 31) / 32 ≡ element_chunks (basic_size t) (length vs)
    → whole_of d (map chunk_part (pack b)) ≡ elements_part t d vs
elements-packed t z d vs b e bytes count =
    let basic = IsBasic-basic t z e in
    let chunks : length (pack b) ≡ element_chunks (basic_size t) (length vs) =
    length-chunks ((length b + 31) / 32) b ∙ count in
    let leaves : element_nodes (basic_size t) (length vs) (sum_by (new_nodes t) vs)
    ≡ element_chunks (basic_size t) (length vs) =
    ap (λ size. element_nodes size (length vs) (sum_by (new_nodes t) vs)) e
    ∙ ap (λ size. element_chunks size (length vs)) (sym e) in
    whole-chunks d (pack b) ∙ parts_equal _ _ _ _ _ _
    (ap (λ (bs : List ℕ). merkle_tree d (map leaf (pack bs))) (sym bytes)
    ∙ ap (λ size. merkle_tree d (element_leaves size (map (serialize t) vs) (map (tree t) vs)))
    (sym e))
    (omega (arith, ap (merkle_pairs d) chunks, no_pairs_in t z basic vs))
    (omega (arith, ap (merkle_pairs d) chunks, chunks, leaves))

-- elements of a composite type stand as they are
pub elements-composite : (t : SszType) (d : ℕ) (vs : List SszValue) → basic_size t ≡ None
    → whole_of d (map (part_of_value t) vs) ≡ elements_part t d vs
elements-composite t d vs e =
    whole-values d t vs ∙ parts_equal _ _ _ _ _ _ (ap (merkle_tree d) (composite_trees t vs e))
    (ap (λ size. merkle_pairs d (element_chunks size (length vs)) + sum_by (pairs t) vs) (sym e))
    (ap (λ size. merkle_pairs d (element_chunks size (length vs))
    + element_nodes size (length vs) (sum_by (new_nodes t) vs)) (sym e))

-- vectors and lists
pub vector-part : (t : SszType) (n : ℕ) (vs : List SszValue)
    → elements_part t (depth (vector t n)) vs ≡ part_of_value (vector t n) (sequence (values vs))
vector-part t n vs = ap (elements_part t (depth (vector t n))) (sym (items-values vs))

pub list-part : (t : SszType) (limit : ℕ) (vs : List SszValue)
    → joined_leaf (elements_part t (depth (list t limit)) vs) (number_chunk (length vs))
    ≡ part_of_value (list t limit) (sequence (values vs))
list-part t limit vs = ap (λ ws. joined_leaf (elements_part t (depth (list t limit)) ws)
    (number_chunk (length ws))) (sym (items-values vs))

-- containers
pub trees-fields : (fs : Fields) (vs : List SszValue) → part_trees (field_parts fs vs)
    ≡ field_trees fs vs
trees-fields no_fields vs = refl
trees-fields (field name t fs) [] = refl
trees-fields (field name t fs) (v ∷ vs) = ap (λ ts. tree t v ∷ ts) (trees-fields fs vs)

pub costs-fields : (fs : Fields) (vs : List SszValue)
    → costs (field_parts fs vs) ≡ field_pairs fs vs
costs-fields no_fields vs = refl
costs-fields (field name t fs) [] = refl
costs-fields (field name t fs) (v ∷ vs) = omega (
  arith,
  sum_by-cons (λ (p : MadePart). p.cost) (part_of_value t v) (field_parts fs vs),
  costs-fields fs vs,
)

pub nodes-fields : (fs : Fields) (vs : List SszValue)
    → part_nodes (field_parts fs vs) ≡ field_nodes fs vs
nodes-fields no_fields vs = refl
nodes-fields (field name t fs) [] = refl
nodes-fields (field name t fs) (v ∷ vs) = omega (
  arith,
  sum_by-cons (λ (p : MadePart). p.nodes) (part_of_value t v) (field_parts fs vs),
  nodes-fields fs vs,
)

pub container-part : (fs : Fields) (vs : List SszValue) → length (field_parts fs vs) ≡ length vs
    → whole_of (depth (container fs)) (field_parts fs vs)
    ≡ part_of_value (container fs) (sequence (values vs))
container-part fs vs count =
    let above = ap (merkle_pairs (depth (container fs))) count in
    parts_equal _ _ _ _ _ _
    (ap (merkle_tree (depth (container fs))) (trees-fields fs vs))
    (omega (arith, costs-fields fs vs, above)) (omega (arith, nodes-fields fs vs, above))
    ∙ ap (λ ws. part (merkle_tree (depth (container fs)) (field_trees fs ws))
    (merkle_pairs (depth (container fs)) (length ws) + field_pairs fs ws)
    (merkle_pairs (depth (container fs)) (length ws) + field_nodes fs ws)) (sym (items-values vs))
