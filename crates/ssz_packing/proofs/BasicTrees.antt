-- The trees of basic values and of elements, and parts of one size in their encoding.
use Rattle.std.proofs.Common.{◌≡◌, ℕ, List, [], ◌∷◌, ◌++◌, length, map, replicate, Some, None, refl, sym, ap, ap₂, ◌∙◌}
use Rattle.std.specs.List.{concat}
use Rattle.std.proofs.lemmas.List.{append-nil}
use Rattle.ssz_chunk.specs.Tree.{leaf}
use Rattle.ssz_schema.specs.Types.{SszType, uint, boolean}
use Rattle.ssz_schema.specs.Sizes.{basic_size}
use Rattle.ssz_value.specs.Values.{SszValue}
use Rattle.ssz_value.specs.Encoding.{serialize, heads, bodies, heads_length, joined_alike}
use Rattle.ssz_value.specs.Trees.{tree, padded, element_leaves}
use Rattle.ssz_packing.specs.Elements.{element_trees}

-- the tree of a basic value is one leaf
pub basic_tree : (t : SszType) (z : ℕ) (v : SszValue) → basic_size t ≡ Some z → tree t v
    ≡ leaf (padded (serialize t v))
basic_tree (uint w) z v e = refl
basic_tree boolean z v e = refl
basic_tree _ z v e = cc

-- the trees of composite elements stand as they are
pub composite_trees : (t : SszType) (vs : List SszValue) → basic_size t ≡ None → map (tree t) vs
    ≡ element_trees t vs
composite_trees t vs e =
    ap (λ size. element_leaves size (map (serialize t) vs) (map (tree t) vs)) (sym e)

-- parts of one fixed size stand one behind the other
heads-alike : (z : ℕ) (parts : List (List ℕ)) (offset : ℕ)
    → heads (replicate (length parts) (Some z)) parts offset ≡ concat parts
heads-alike z [] offset = refl
heads-alike z (p ∷ parts) offset = ap (λ rest. p ++ rest) (heads-alike z parts offset)

bodies-alike : (z : ℕ) (parts : List (List ℕ)) → bodies (replicate (length parts) (Some z)) parts
    ≡ []
bodies-alike z [] = refl
bodies-alike z (p ∷ parts) = bodies-alike z parts

pub joined_alike-concat : (z : ℕ) (parts : List (List ℕ)) → joined_alike (Some z) parts
    ≡ concat parts
joined_alike-concat z parts =
    ap₂ (λ front back. front ++ back) (heads-alike z parts
    (heads_length (replicate (length parts) (Some z)))) (bodies-alike z parts)
    ∙ append-nil (concat parts)
