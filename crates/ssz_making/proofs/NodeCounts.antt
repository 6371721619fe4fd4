-- How many nodes are made for basic values, and for the values of options.
use Rattle.std.proofs.Common.{◌≡◌, ℕ, zero, suc, List, [], ◌∷◌, slice_get, Option, Some, None, refl, ap}
use Rattle.ssz_schema.specs.Types.{SszType, uint, boolean, container, vector, list, bitvector, bitlist, union}
use Rattle.ssz_schema.specs.Sizes.{basic_size}
use Rattle.ssz_schema.specs.Unfolding.{type_tree_at, options_over}
use Rattle.ssz_value.specs.Values.{SszValue}
use Rattle.ssz_making.specs.Nodes.{new_nodes, option_nodes}

-- a basic value is a leaf
pub nodes-basic : (t : SszType) (z : ℕ) (v : SszValue) → basic_size t ≡ Some z → new_nodes t v ≡ 1
nodes-basic (uint w) z v e = refl
nodes-basic boolean z v e = refl
nodes-basic (container fs) z v e = cc
nodes-basic (vector t n) z v e = cc
nodes-basic (list t n) z v e = cc
nodes-basic (bitvector n) z v e = cc
nodes-basic (bitlist n) z v e = cc
nodes-basic (union os) z v e = cc

-- a value of an option has the nodes of the type that it stands for
pub nodes-option : (trees : List SszType) (ids : List (Option ℕ)) (left id : ℕ) (v : SszValue)
    → slice_get ids left ≡ Some (Some id)
    → option_nodes (options_over trees ids) left v ≡ new_nodes (type_tree_at trees id) v
nodes-option trees [] left id v e = cc
nodes-option trees (None ∷ ids) zero id v e = cc
nodes-option trees (Some other ∷ ids) zero id v e = let same : other ≡ id = cc in
    ap (λ n. new_nodes (type_tree_at trees n) v) same
nodes-option trees (None ∷ ids) (suc left) id v e = nodes-option trees ids left id v e
nodes-option trees (Some other ∷ ids) (suc left) id v e = nodes-option trees ids left id v e
