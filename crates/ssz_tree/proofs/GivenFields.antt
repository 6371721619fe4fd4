-- A container some of whose fields are given, in an arena that got room.
use Rattle.std.proofs.Common.{◌≡◌, ℕ, ◌+◌, ◌<◌, min, List, [], ◌∷◌, length, Option, Some, None, refl, sym, ap, ap₂, ◌∙◌, subst}
use Rattle.std.specs.List.{AllByRecursion}
use Rattle.ssz_chunk.specs.Tree.{merkle_pairs}
use Rattle.ssz_schema.specs.Types.{SszType, Fields, container, no_fields, field}
use Rattle.ssz_schema.specs.Sizes.{depth, field_count}
use Rattle.ssz_schema.specs.Unfolding.{fields_over}
use Rattle.ssz_arena.specs.Named.{ArenaNode as Node}
use Rattle.ssz_arena.specs.declared.node.NodeId.{NodeId}
use Rattle.ssz_arena.specs.Content.{ArenaContent}
use Rattle.ssz_value.proofs.PartLemmas.{Part as FieldPart}
use Rattle.ssz_making.specs.Parts.{MadePart, costs, whole_of}
use Rattle.ssz_tree.specs.Added.{AddsNodes, IsPartNode}
use Rattle.ssz_tree.specs.Shared.{shared_fields, default_part}
use Rattle.ssz_tree.specs.Given.{IsGiven, MakesFields, default_parts, given_part, parts_with, given_part_with, pairs_with, shared_with, left_fields}
use Rattle.ssz_tree.proofs.DefaultForms.{count-fields}

-- what is given is there while the nodes stay
pub given-room : (old new : ArenaContent) (given : List (Option NodeId)) → new.nodes ≡ old.nodes
    → AllByRecursion (IsGiven old) given → AllByRecursion (IsGiven new) given
given-room old new [] same all = tt
given-room old new (None ∷ given) same all = (tt, given-room old new given same all.1)
given-room old new (Some id ∷ given) same all = (
  subst (λ (nodes : List Node). id.0 < length nodes) (sym same) all.0,
  given-room old new given same all.1,
)

part-room : (old new : ArenaContent) (t : SszType) (node : Option NodeId) → new.nodes ≡ old.nodes
    → given_part new t node ≡ given_part old t node
part-room old new t None same = refl
part-room old new t (Some id) same = ap (λ (nodes : List Node). the_part nodes) same
  where
    the_part : List Node → MadePart
    the_part nodes = given_part (record { nodes = nodes; spare = 0 }) t (Some id)

-- and its parts are the same
parts-room : (old new : ArenaContent) (fs : Fields) (given : List (Option NodeId))
    → new.nodes ≡ old.nodes → parts_with new fs given ≡ parts_with old fs given
parts-room old new no_fields given same = refl
parts-room old new (field name t fs) [] same =
    ap (λ ps. default_part t ∷ ps) (parts-room old new fs [] same)
parts-room old new (field name t fs) (first ∷ given) same =
    ap₂ (λ p ps. p ∷ ps) (part-room old new t first same) (parts-room old new fs given same)

-- the node made is that of the container
pub part-made : (old new end : ArenaContent) (t : SszType) (fs : Fields) (d : ℕ)
    (given : List (Option NodeId)) (id : NodeId) → new.nodes ≡ old.nodes → t ≡ container fs
    → d ≡ depth t → MakesFields new end d fs given id
    → IsPartNode end (given_part_with old t given) id
part-made old new end t fs d given id same form deep made =
    subst (λ u. IsPartNode end (given_part_with old u given) id) (sym form)
    (subst (λ k. IsPartNode end (whole_of k (parts_with old fs given)) id) (deep ∙ ap depth form)
    (subst (λ ps. IsPartNode end (whole_of d ps) id) (parts-room old new fs given same) made.is))

pub nodes-made : (new end : ArenaContent) (t : SszType) (fs : Fields) (d : ℕ)
    (given : List (Option NodeId)) (id : NodeId) → t ≡ container fs → d ≡ depth t
    → MakesFields new end d fs given id
    → AddsNodes (shared_with t given) (min (shared_with t given) (pairs_with t given)) new end
nodes-made new end t fs d given id form deep made =
    subst (λ u. AddsNodes (shared_with u given) (min (shared_with u given) (pairs_with u given))
    new end) (sym form)
    (subst (λ k. (let above = merkle_pairs k (field_count fs) in
    let nodes = above + shared_fields (left_fields fs given) in
    AddsNodes nodes (min nodes (above + costs (default_parts (left_fields fs given)))) new end))
    (deep ∙ ap depth form) made.adds)

-- the nodes that are made for it
pub shared-fields : (t : SszType) (trees : List SszType) (fields : List FieldPart) (d : ℕ)
    (given : List (Option NodeId)) → t ≡ container (fields_over trees fields) → d ≡ depth t
    → merkle_pairs d (length fields) + shared_fields (left_fields (fields_over trees fields) given)
    ≡ shared_with t given
shared-fields t trees fields d given form deep =
    ap₂ (λ k n. merkle_pairs k n + shared_fields (left_fields (fields_over trees fields) given))
    (deep ∙ ap depth form) (sym (count-fields trees fields))
    ∙ ap (λ u. shared_with u given) (sym form)
