-- The nodes that are picked for the fields of an upgraded value.
use Rattle.std.proofs.Common.{◌≡◌, ℕ, suc, ◌+◌, Bool, true, false, cond, List, [], ◌∷◌, map, Option, Some, None, refl, sym, ap, ap₂, ◌∙◌, subst, slice_get, bytes_eq, arith}
use Rattle.std.specs.Prelude.{slice_index_or}
use Rattle.std.specs.List.{AllByRecursion}
use Rattle.std.specs.Option.{option_and_then, option_map_or}
use Rattle.std.proofs.lemmas.List.Sums.{sum_by-cons}
use Rattle.ssz_schema.specs.format.Format.{Format}
use Rattle.ssz_schema.specs.Types.{SszType, Fields, no_fields, field}
use Rattle.ssz_schema.specs.Legal.{AreLegalFields}
use Rattle.ssz_schema.specs.Paths.{field_type, field_number}
use Rattle.ssz_arena.specs.declared.node.NodeId.{NodeId}
use Rattle.ssz_arena.specs.Content.{ArenaContent, tree_of, todo, IsNodeOf}
use Rattle.ssz_value.specs.Values.{SszValue, Fits, FitFields}
use Rattle.ssz_value.specs.Defaults.{default_of}
use Rattle.ssz_value.specs.Trees.{tree, field_trees}
use Rattle.ssz_value.proofs.SizeLaw.{default_fits}
use Rattle.ssz_forms.specs.SameType.{same_type}
use Rattle.ssz_forms.specs.Upgrades.{field_taken, all_taken, field_value, upgraded_fields, default_pairs, default_pairs_of_fields}
use Rattle.ssz_forms.proofs.TypesAlike.{type_alike}
use Rattle.ssz_making.specs.Parts.{MadePart, part_trees, costs}
use Rattle.ssz_tree.specs.Shared.{default_part}
use Rattle.ssz_tree.specs.Given.{given_part, parts_with, left_fields, default_parts, IsGiven}
use Rattle.ssz_upgrade.specs.Fields.{pick}
use Rattle.ssz_upgrade.proofs.Weighing.{weight_at, weights}

-- the node of this number has the tree of the value of this number, which fits
pub record Takes (arena : ArenaContent) (nodes : List NodeId) (vs : List SszValue) (t : SszType)
    (k : ℕ)
    : Type 0 where
  pub id : NodeId
  pub there : slice_get nodes k ≡ Some id
  pub is : tree_of arena id ≡ tree t (slice_index_or vs k (default_of t))
  pub fits : Fits t (slice_index_or vs k (default_of t))

abbrev pub IsPicked : ArenaContent → List NodeId → List SszValue → SszType → Option ℕ → Type 0
IsPicked arena nodes vs t None = Unit {0}
IsPicked arena nodes vs t (Some k) = Takes arena nodes vs t k

Takes-later : (arena : ArenaContent) (id : NodeId) (nodes : List NodeId) (v : SszValue)
    (vs : List SszValue) (t : SszType) (number : Option ℕ) → IsPicked arena nodes vs t number
    → (next : Option ℕ) → next ≡ option_and_then (λ k. Some (suc k)) number
    → IsPicked arena (id ∷ nodes) (v ∷ vs) t next
Takes-later arena id nodes v vs t None picks next is =
    subst (IsPicked arena (id ∷ nodes) (v ∷ vs) t) (sym is) tt
Takes-later arena id nodes v vs t (Some k) picks next is =
    subst (IsPicked arena (id ∷ nodes) (v ∷ vs) t) (sym is)
    (record { id = picks.id; there = picks.there; is = picks.is; fits = picks.fits })

-- a field that is taken is there
pub picked : (arena : ArenaContent) (old : Fields) (vs : List SszValue) (nodes : List NodeId)
    (name : List ℕ) (t : SszType) → FitFields old vs
    → map (tree_of arena) nodes ≡ field_trees old vs
    → IsPicked arena nodes vs t (field_taken old name t)
picked arena no_fields vs nodes name t fit trees = tt
picked arena (field a u fs) [] nodes name t fit trees = absurd fit
picked arena (field a u fs) (v ∷ vs) [] name t fit trees = cc
picked arena (field a u fs) (v ∷ vs) (id ∷ nodes) name t fit trees =
    go (bytes_eq a name) (picked arena fs vs nodes name t fit.1 rest)
  where
    first : tree_of arena id ≡ tree u v
    first = cc

    rest : map (tree_of arena) nodes ≡ field_trees fs vs
    rest = cc

    equal : (b : Bool) → same_type u t ≡ b
        → IsPicked arena (id ∷ nodes) (v ∷ vs) t (cond b (Some 0) None)
    equal true same = record {
      id = id;
      there = refl;
      is = first ∙ ap (λ x. tree x v) ((type_alike u).same t same);
      fits = subst (λ x. Fits x v) ((type_alike u).same t same) fit.0;
    }
    equal false same = tt

    next : (found : Option SszType) (k : ℕ)
        → option_and_then (λ x. cond (same_type x t) (Some (suc k)) None) found
        ≡ option_and_then (λ n. Some (suc n))
        (option_and_then (λ x. cond (same_type x t) (Some k) None) found)
    next None k = refl
    next (Some x) k = shifted (same_type x t)
      where
        shifted : (b : Bool) → cond b (Some (suc k)) None
            ≡ option_and_then (λ n. Some (suc n)) (cond b (Some k) None)
        shifted true = refl
        shifted false = refl

    go : (b : Bool) → IsPicked arena nodes vs t (field_taken fs name t)
        → IsPicked arena (id ∷ nodes) (v ∷ vs) t (option_and_then
        (λ x. cond (same_type x t) (Some (cond b 0 (suc (field_number fs name)))) None)
        (cond b (Some u) (field_type fs name)))
    go true later = equal (same_type u t) refl
    go false later = Takes-later arena id nodes v vs t (field_taken fs name t) later _
        (next (field_type fs name) (field_number fs name))

-- the tree of a field
tree_taken : (arena : ArenaContent) (nodes : List NodeId) (vs : List SszValue) (t : SszType)
    (number : Option ℕ) → IsPicked arena nodes vs t number
    → (given_part arena t (pick nodes number)).tree ≡ tree t (field_value vs t number)
tree_taken arena nodes vs t None is = refl
tree_taken arena nodes vs t (Some k) is =
    ap (λ node. (given_part arena t node).tree) is.there ∙ is.is

pub trees_taken : (arena : ArenaContent) (nodes : List NodeId) (old : Fields) (vs : List SszValue)
    (new : Fields) → FitFields old vs → map (tree_of arena) nodes ≡ field_trees old vs
    → part_trees (parts_with arena new (map (pick nodes) (all_taken old new)))
    ≡ field_trees new (upgraded_fields old vs new)
trees_taken arena nodes old vs no_fields fit trees = refl
trees_taken arena nodes old vs (field name t new) fit trees =
    ap₂ (λ first rest. first ∷ rest)
    (tree_taken arena nodes vs t (field_taken old name t)
    (picked arena old vs nodes name t fit trees))
    (trees_taken arena nodes old vs new fit trees)

-- the upgraded value fits
fits_taken : (format : Format) (arena : ArenaContent) (nodes : List NodeId) (vs : List SszValue)
    (t : SszType) (number : Option ℕ) → Fits t (default_of t)
    → IsPicked arena nodes vs t number → Fits t (field_value vs t number)
fits_taken format arena nodes vs t None default is = default
fits_taken format arena nodes vs t (Some k) default is = is.fits

pub all_fit : (format : Format) (arena : ArenaContent) (nodes : List NodeId) (old : Fields)
    (vs : List SszValue) (new : Fields) → FitFields old vs
    → map (tree_of arena) nodes ≡ field_trees old vs → AreLegalFields format new
    → FitFields new (upgraded_fields old vs new)
all_fit format arena nodes old vs no_fields fit trees legal = tt
all_fit format arena nodes old vs (field name t new) fit trees legal = (
  fits_taken format arena nodes vs t (field_taken old name t) (default_fits format t legal.1)
      (picked arena old vs nodes name t fit trees),
  all_fit format arena nodes old vs new fit trees legal.2,
)

-- what is to be hashed for a field, and what it brings
cost_taken : (arena : ArenaContent) (nodes : List NodeId) (vs : List SszValue) (t : SszType)
    (number : Option ℕ) → IsPicked arena nodes vs t number
    → (given_part arena t (pick nodes number)).cost
    ≡ weight_at (todo arena) nodes number + default_pairs t number
cost_taken arena nodes vs t None is = omega arith
cost_taken arena nodes vs t (Some k) is =
    let cost : (given_part arena t (slice_get nodes k)).cost ≡ todo arena is.id =
    ap (λ node. (given_part arena t node).cost) is.there in
    let weight : option_map_or (todo arena) (slice_get nodes k) 0 ≡ todo arena is.id =
    ap (λ node. option_map_or (todo arena) node 0) is.there in
    omega (arith, cost, weight)

pub costs_taken : (arena : ArenaContent) (nodes : List NodeId) (old : Fields) (vs : List SszValue)
    (new : Fields) → FitFields old vs → map (tree_of arena) nodes ≡ field_trees old vs
    → costs (parts_with arena new (map (pick nodes) (all_taken old new)))
    ≡ weights (todo arena) old nodes new + default_pairs_of_fields old new
costs_taken arena nodes old vs no_fields fit trees = refl
costs_taken arena nodes old vs (field name t new) fit trees = omega (
  arith,
  cost_taken arena nodes vs t (field_taken old name t) (picked arena old vs nodes name t fit trees),
  costs_taken arena nodes old vs new fit trees,
  sum_by-cons (λ (part : MadePart). part.cost)
      (given_part arena t (pick nodes (field_taken old name t)))
      (parts_with arena new (map (pick nodes) (all_taken old new))),
)

-- the defaults that are made are those that are brought in
left_cost : (arena : ArenaContent) (nodes : List NodeId) (vs : List SszValue) (name : List ℕ)
    (t : SszType) (number : Option ℕ) (fs : Fields) (given : List (Option NodeId))
    → IsPicked arena nodes vs t number
    → costs (default_parts (left_fields (field name t fs) (pick nodes number ∷ given)))
    ≡ default_pairs t number + costs (default_parts (left_fields fs given))
left_cost arena nodes vs name t None fs given is =
    sum_by-cons (λ (part : MadePart). part.cost) (default_part t)
    (default_parts (left_fields fs given))
left_cost arena nodes vs name t (Some k) fs given is =
    let none : costs (default_parts (left_fields (field name t fs) (slice_get nodes k ∷ given)))
    ≡ costs (default_parts (left_fields fs given)) =
    ap (λ node. costs (default_parts (left_fields (field name t fs) (node ∷ given)))) is.there in
    omega (arith, none)

pub costs_left : (arena : ArenaContent) (nodes : List NodeId) (old : Fields) (vs : List SszValue)
    (new : Fields) → FitFields old vs → map (tree_of arena) nodes ≡ field_trees old vs
    → costs (default_parts (left_fields new (map (pick nodes) (all_taken old new))))
    ≡ default_pairs_of_fields old new
costs_left arena nodes old vs no_fields fit trees = refl
costs_left arena nodes old vs (field name t new) fit trees =
    left_cost arena nodes vs name t (field_taken old name t) new
    (map (pick nodes) (all_taken old new)) (picked arena old vs nodes name t fit trees)
    ∙ ap (λ n. default_pairs t (field_taken old name t) + n)
    (costs_left arena nodes old vs new fit trees)

-- what is picked is there
pick_there : (arena : ArenaContent) (nodes : List NodeId) (number : Option ℕ)
    → ((i : ℕ) (id : NodeId) → slice_get nodes i ≡ Some id → IsNodeOf arena id)
    → IsGiven arena (pick nodes number)
pick_there arena nodes None all = tt
pick_there arena nodes (Some k) all = go (slice_get nodes k) refl
  where
    go : (found : Option NodeId) → slice_get nodes k ≡ found → IsGiven arena found
    go None e = tt
    go (Some id) e = all k id e

pub picks_there : (arena : ArenaContent) (nodes : List NodeId) (numbers : List (Option ℕ))
    → ((i : ℕ) (id : NodeId) → slice_get nodes i ≡ Some id → IsNodeOf arena id)
    → AllByRecursion (IsGiven arena) (map (pick nodes) numbers)
picks_there arena nodes [] all = tt
picks_there arena nodes (number ∷ numbers) all =
    (pick_there arena nodes number all, picks_there arena nodes numbers all)
