-- The parts of the defaults of types.
use Rattle.std.proofs.Common.{◌≡◌, ℕ, ◌+◌, ◌-◌, ◌*◌, ◌/◌, ◌<◌, ◌≤◌, min, List, [], ◌∷◌, length, map, replicate, slice_get, Option, Some, None, refl, sym, ap, ap₂, subst, ◌∙◌, arith}
use Rattle.std.specs.List.{concat}
use Rattle.std.proofs.Math.Nat.{mul-le-mul_left}
use Rattle.std.proofs.lemmas.List.{length-replicate}
use Rattle.std.proofs.lemmas.List.Folds.{sum_by-replicate}
use Rattle.ssz_chunk.specs.Chunk.{zero_chunk}
use Rattle.ssz_chunk.specs.Tree.{leaf, pair, merkle_tree, merkle_pairs, zero_tree}
use Rattle.ssz_schema.specs.Types.{SszType, Fields, no_fields, field, container, vector, list, bitvector, bitlist, union}
use Rattle.ssz_schema.specs.Sizes.{basic_size, element_chunks, field_count, depth}
use Rattle.ssz_schema.specs.Unfolding.{type_tree_at, fields_over, options_over}
use Rattle.ssz_arena.specs.declared.node.NodeId.{NodeId}
use Rattle.ssz_arena.specs.Content.{ArenaContent, tree_of, todo, IsNodeOf}
use Rattle.ssz_merkle.specs.Frontier.{whole_pairs}
use Rattle.ssz_merkle.proofs.WholePairs.{whole_pairs-le-grow}
use Rattle.ssz_value.specs.Values.{chosen_none}
use Rattle.ssz_value.specs.Defaults.{default_of, default_fields}
use Rattle.ssz_value.specs.Encoding.{serialize}
use Rattle.ssz_value.specs.Trees.{tree, pack, padded, element_leaves, number_chunk}
use Rattle.ssz_value.proofs.DefaultLemmas.{union_default}
use Rattle.ssz_value.proofs.PartLemmas.{Part as FieldPart}
use Rattle.ssz_packing.proofs.BasicTrees.{basic_tree}
use Rattle.ssz_tree.specs.Added.{AddsNodes, IsPartNode}
use Rattle.ssz_making.specs.Parts.{MadePart, whole_of, joined_leaf, costs, part_of_value, elements_part, field_parts}
use Rattle.ssz_making.specs.Nodes.{element_nodes}
use Rattle.ssz_tree.specs.Shared.{shared, shared_fields, shared_vector, default_part, empty_part, MakesWith}
use Rattle.ssz_tree.proofs.Adding.{Adds-none, Adds-then, Adds-within, MakesPair}
use Rattle.ssz_tree.proofs.Copies.{grow-few}
use Rattle.ssz_making.proofs.Forms.{part, parts_equal, elements-composite, vector-part, container-part}
use Rattle.ssz_making.proofs.ValueForms.{chosen_value, none_value}
use Rattle.ssz_tree.proofs.Zeros.{padded-zeros, pack-zeros, pack_bits-zeros, enc-zeros, concat-zeros, map-replicate}

-- a zero tree of the arena, for which nothing is made
pub MakesWith-zero : (arena : ArenaContent) (d : ℕ) (part : MadePart) (id : NodeId)
    → IsNodeOf arena id
    → tree_of arena id ≡ zero_tree d → todo arena id ≡ 0 → part.tree ≡ zero_tree d
    → MakesWith 0 arena arena part id
MakesWith-zero arena d part id inside tree due is = record {
  is = record { node = inside; tree = tree ∙ sym is; todo = omega (arith, due) };
  adds = Adds-within 0 0 0 (min 0 part.cost) arena arena (Adds-none arena) (omega arith)
      (omega arith);
}

pub MakesWith-same : (n m : ℕ) (old new : ArenaContent) (a b : MadePart) (id : NodeId) → n ≡ m
    → a ≡ b
    → MakesWith n old new a id → MakesWith m old new b id
MakesWith-same n m old new a b id counts parts made =
    subst (λ k. MakesWith k old new b id) counts (subst (λ p. MakesWith n old new p id) parts made)

-- a part and the number 0
pub MakesWith-joined : (n : ℕ) (old first new : ArenaContent) (part : MadePart)
    (node number top : NodeId)
    → MakesWith n old first part node → IsNodeOf first number
    → tree_of first number ≡ zero_tree 0 → todo first number ≡ 0
    → zero_tree 0 ≡ leaf zero_chunk → MakesPair first new node number top
    → MakesWith (n + 1) old new (joined_leaf part zero_chunk) top
MakesWith-joined n old first new part node number top made inside tree due flat b = record {
  is = record {
    node = b.node;
    tree = b.tree ∙ ap₂ pair made.is.tree (tree ∙ flat);
    todo = omega (arith, b.todo, made.is.todo, due);
  };
  adds = Adds-within _ _ _ _ old new
      (Adds-then n (min n part.cost) 1 1 old first new made.adds b.adds) (omega arith)
      (omega arith);
}

-- a basic type
pub basic-default : (t : SszType) (z : ℕ) → basic_size t ≡ Some z
    → (default_part t).tree ≡ zero_tree 0
unfolding merkle_tree
basic-default t z e = basic_tree t z (default_of t) e ∙ ap leaf (ap padded (enc-zeros t z e)
    ∙ padded-zeros z)

-- a bitvector
pub bitvector-default : (form : SszType) (n d : ℕ) → form ≡ bitvector n → d ≡ depth form
    → (default_part form).tree ≡ zero_tree d
bitvector-default form n d e deep = ap (λ t. (default_part t).tree) e
    ∙ pack_bits-zeros (depth (bitvector n)) n ∙ ap zero_tree (sym (deep ∙ ap depth e))

-- no elements
pub list-default : (form t : SszType) (limit d : ℕ) → form ≡ list t limit → d ≡ depth form
    → empty_part d ≡ default_part form
list-default form t limit d e deep = ap empty_part (deep ∙ ap depth e)
    ∙ none (basic_size t) refl ∙ ap default_part (sym e)
  where
    none : (size : Option ℕ) → basic_size t ≡ size
        → empty_part (depth (list t limit)) ≡ default_part (list t limit)
    none (Some z) same =
        let empty : 0 ≡ (0 * z + 31) / 32 = omega arith in
        parts_equal _ _ _ _ _ _
        (ap (λ s. pair (merkle_tree (depth (list t limit)) (element_leaves s [] []))
        (leaf (number_chunk 0))) (sym same))
        (ap (λ n. merkle_pairs (depth (list t limit)) n + 0 + 1) empty
        ∙ ap (λ s. merkle_pairs (depth (list t limit)) (element_chunks s 0) + 0 + 1) (sym same))
        (ap (λ n. merkle_pairs (depth (list t limit)) n + n + 2) empty
        ∙ ap (λ s. merkle_pairs (depth (list t limit)) (element_chunks s 0) + element_nodes s 0 0
        + 2)
        (sym same))
    none None same = parts_equal _ _ _ _ _ _
        (ap (λ s. pair (merkle_tree (depth (list t limit)) (element_leaves s [] []))
        (leaf (number_chunk 0))) (sym same))
        (ap (λ s. merkle_pairs (depth (list t limit)) (element_chunks s 0) + 0 + 1) (sym same))
        (ap (λ s. merkle_pairs (depth (list t limit)) (element_chunks s 0) + element_nodes s 0 0
        + 2)
        (sym same))

pub bitlist-default : (form : SszType) (limit d : ℕ) → form ≡ bitlist limit → d ≡ depth form
    → empty_part d ≡ default_part form
bitlist-default form limit d e deep = ap empty_part (deep ∙ ap depth e)
    ∙ parts_equal _ _ _ _ _ _ refl (omega arith) (omega arith) ∙ ap default_part (sym e)

-- elements of a basic type
pub elements-zeros : (t : SszType) (z d n : ℕ) → basic_size t ≡ Some z
    → (elements_part t d (replicate n (default_of t))).tree ≡ zero_tree d
elements-zeros t z d n e =
    ap (λ s. merkle_tree d (element_leaves s (map (serialize t) (replicate n (default_of t)))
    (map (tree t) (replicate n (default_of t))))) e
    ∙ ap (λ es. merkle_tree d (map leaf (pack (concat es))))
    (map-replicate (serialize t) n (default_of t) ∙ ap (replicate n) (enc-zeros t z e))
    ∙ ap (λ bs. merkle_tree d (map leaf (pack bs))) (concat-zeros z n) ∙ pack-zeros d (n * z)

-- elements of a composite type
pub elements-copies : (t : SszType) (d n : ℕ) → basic_size t ≡ None
    → whole_of d (replicate n (default_part t)) ≡ elements_part t d (replicate n (default_of t))
elements-copies t d n e =
    ap (whole_of d) (sym (map-replicate (part_of_value t) n (default_of t)))
    ∙ elements-composite t d (replicate n (default_of t)) e

-- the copies, and the pairs above them
pub MakesWith-copies : (n : ℕ) (old first second new : ArenaContent) (d count : ℕ) (part : MadePart)
    (node id : NodeId) → MakesWith n old first part node → 0 < count
    → AddsNodes d (min d (whole_pairs d count)) first second
    → (let made = merkle_pairs d count - whole_pairs d count in AddsNodes made made second new)
    → IsPartNode new (whole_of d (replicate count part)) id
    → MakesWith (n + 2 * d) old new (whole_of d (replicate count part)) id
MakesWith-copies n old first second new d count part node id one some copies ends is =
    let all : costs (replicate count part) ≡ count * part.cost =
    sum_by-replicate (λ (p : MadePart). p.cost) count part in
    let least : part.cost * 1 ≤ part.cost * count = mul-le-mul_left part.cost some in
    let turned : part.cost * count ≡ count * part.cost = omega arith in
    let long : length (replicate count part) ≡ count = length-replicate count part in
    record {
      is = is;
      adds = Adds-within _ _ _ _ old new
          (Adds-then _ _ _ _ old second new
          (Adds-then n (min n part.cost) d (min d (whole_pairs d count)) old first second one.adds
          copies) ends)
          (omega (arith, grow-few d count))
          (omega (
            arith,
            all,
            least,
            turned,
            ap (merkle_pairs d) long,
            whole_pairs-le-grow d count,
            grow-few d count,
          ));
    }

pub vector-default : (form t : SszType) (n d : ℕ) → form ≡ vector t n → d ≡ depth form
    → elements_part t d (replicate n (default_of t)) ≡ default_part form
vector-default form t n d e deep =
    ap (λ k. elements_part t k (replicate n (default_of t))) (deep ∙ ap depth e)
    ∙ vector-part t n (replicate n (default_of t)) ∙ ap default_part (sym e)

-- fields
length-defaults : (fs : Fields) → length (field_parts fs (default_fields fs))
    ≡ length (default_fields fs)
length-defaults no_fields = refl
length-defaults (field name t fs) = omega (arith, length-defaults fs)

pub container-default : (form : SszType) (fs : Fields) (d : ℕ) → form ≡ container fs
    → d ≡ depth form → whole_of d (field_parts fs (default_fields fs)) ≡ default_part form
container-default form fs d e deep =
    ap (λ k. whole_of k (field_parts fs (default_fields fs))) (deep ∙ ap depth e)
    ∙ container-part fs (default_fields fs) (length-defaults fs) ∙ ap default_part (sym e)

pub count-fields : (trees : List SszType) (parts : List FieldPart)
    → field_count (fields_over trees parts) ≡ length parts
count-fields trees [] = refl
count-fields trees (p ∷ parts) = omega (arith, count-fields trees parts)

-- unions
pub union-default : (trees : List SszType) (ids : List (Option ℕ)) (id : ℕ)
    → Some (Some id) ≡ slice_get ids 0
    → joined_leaf (default_part (type_tree_at trees id)) (number_chunk 0)
    ≡ default_part (union (options_over trees ids))
union-default trees ids id here =
    chosen_value trees ids 0 id (default_of (type_tree_at trees id)) _ (sym here)
    (union_default trees ids id here)

pub union-none : (trees : List SszType) (ids : List (Option ℕ))
    → default_of (union (options_over trees ids)) ≡ chosen_none 0
    → empty_part 0 ≡ default_part (union (options_over trees ids))
unfolding merkle_tree merkle_pairs
union-none trees ids is =
    parts_equal _ _ _ _ _ _ refl (omega arith) (omega arith)
    ∙ none_value trees ids 0 (default_of (union (options_over trees ids))) is

-- the nodes of the option that is the default
pub shared-chosen : (trees : List SszType) (ids : List (Option ℕ)) (id : ℕ)
    → Some (Some id) ≡ slice_get ids 0
    → shared (union (options_over trees ids)) ≡ 1 + shared (type_tree_at trees id)
shared-chosen trees [] id e = cc
shared-chosen trees (None ∷ ids) id e = cc
shared-chosen trees (Some other ∷ ids) id e = let same : other ≡ id = cc in
    ap (λ n. 1 + shared (type_tree_at trees n)) same

pub shared-none : (trees : List SszType) (ids : List (Option ℕ)) → Some None ≡ slice_get ids 0
    → shared (union (options_over trees ids)) ≡ 1
shared-none trees [] e = cc
shared-none trees (None ∷ ids) e = refl
shared-none trees (Some id ∷ ids) e = cc

pub shared-empty : (trees : List SszType) (ids : List (Option ℕ)) → None ≡ slice_get ids 0
    → shared (union (options_over trees ids)) ≡ 1
shared-empty trees [] e = refl
shared-empty trees (None ∷ ids) e = cc
shared-empty trees (Some id ∷ ids) e = cc

-- and of a container
pub shared-container : (form : SszType) (trees : List SszType) (parts : List FieldPart) (d : ℕ)
    → form ≡ container (fields_over trees parts) → d ≡ depth form
    → merkle_pairs d (length parts) + shared_fields (fields_over trees parts) ≡ shared form
shared-container form trees parts d e deep =
    ap₂ (λ k n. merkle_pairs k n + shared_fields (fields_over trees parts)) (deep ∙ ap depth e)
    (sym (count-fields trees parts)) ∙ ap shared (sym e)

pub shared-of-vector : (form t : SszType) (n d : ℕ) → form ≡ vector t n → d ≡ depth form
    → shared_vector (basic_size t) (shared t) d ≡ shared form
shared-of-vector form t n d e deep = ap (shared_vector (basic_size t) (shared t))
    (deep ∙ ap depth e) ∙ ap shared (sym e)

-- the zero tree of depth 0 is the zero chunk
pub zero-leaf : zero_tree 0 ≡ leaf zero_chunk
unfolding merkle_tree
zero-leaf = refl

-- after an element's node there is room for the copies, and then for the end
pub copies_room : (start first second : ArenaContent) (n d made : ℕ) → n + 2 * d ≤ start.spare
    → start.spare ≤ first.spare + n → first.spare ≤ second.spare + d → made ≤ d
    → (d ≤ first.spare) × (made ≤ second.spare)
copies_room start first second n d made room one copies few = (omega arith, omega arith)
