-- The place of a field, by its name.
use Rattle.std.proofs.Common.{ℕ, ◌+◌, ◌*◌, ◌%◌, ◌^◌, ◌≤◌, ◌≡◌, true, List, [], ◌∷◌, Some, None, refl, sym, ap, ◌∙◌, arith}
use Rattle.std.specs.Prelude.{option_and_then, IsSome, is_some}
use Rattle.std.proofs.Math.Nat.{pow-le-pow_right}
use Rattle.std.proofs.lemmas.Option.{none-some}
use Rattle.ssz_chunk.specs.Index.{at, way}
use Rattle.ssz_schema.specs.format.Format.{Format}
use Rattle.ssz_schema.specs.declared.lead.Lead.{Lead}
use Rattle.ssz_schema.specs.declared.path.PathStep.TheVariants.{Field}
use Rattle.ssz_schema.specs.Types.{SszType, uint, boolean, container, vector, list, bitvector, bitlist, union}
use Rattle.ssz_schema.specs.Sizes.{depth}
use Rattle.ssz_schema.specs.Legal.{IsLegal}
use Rattle.ssz_schema.specs.Unfolding.{Types, type_of}
use Rattle.ssz_schema.specs.Paths.{path_type, step_type}
use Rattle.ssz_schema.specs.Indices.{whole, step_spot, generalized_index, generalized_index_from, step_index}
use Rattle.ssz_schema.specs.Steps.{IsLead, lead_number}
use Rattle.ssz_value.specs.Values.{SszValue}
use Rattle.ssz_value.specs.Parts.{step_part}
use Rattle.ssz_arena.specs.declared.node.NodeId.{NodeId}
use Rattle.ssz_arena.specs.Content.{ArenaContent, tree_of, node_at, IsNodeOf}
use Rattle.ssz_places.specs.PlaceLaws.{IsTreeOf}
use Rattle.ssz_walk.specs.declared.place.Spot.TheVariants.{Whole}
use Rattle.ssz_walk.specs.Found.{IsFound, IsAbsent}
use Rattle.ssz_walk.proofs.Presence.{field_present}
use Rattle.ssz_walk.proofs.Stepping.{absent_nowhere, nowhere_below, led_step, found_step}

-- no field has the name
pub no_field : (t : SszType) (name : List ℕ) → step_type t (Field name) ≡ None
    → path_type t (Field name ∷ []) ≡ None
no_field t name unfit = ap (option_and_then (λ (part : SszType). path_type part [])) unfit

-- the index of a field is made of the depth and its number
field_index : (t u : SszType) (name : List ℕ) → step_type t (Field name) ≡ Some u
    → step_index 1 t (Field name) ≡ 1 * 2 ^ depth t + lead_number (Field name) t
field_index (container fs) u name fits = refl
field_index (uint w) u name fits = absurd (none-some u fits)
field_index boolean u name fits = absurd (none-some u fits)
field_index (vector elem n) u name fits = absurd (none-some u fits)
field_index (list elem limit) u name fits = absurd (none-some u fits)
field_index (bitvector n) u name fits = absurd (none-some u fits)
field_index (bitlist limit) u name fits = absurd (none-some u fits)
field_index (union os) u name fits = absurd (none-some u fits)

-- a field is a whole node
field_spot : (t : SszType) (name : List ℕ) → whole ≡ step_spot t (Field name)
field_spot (container fs) name = refl
field_spot (uint w) name = refl
field_spot boolean name = refl
field_spot (vector elem n) name = refl
field_spot (list elem limit) name = refl
field_spot (bitvector n) name = refl
field_spot (bitlist limit) name = refl
field_spot (union os) name = refl

module _ (types : Types) (arena : ArenaContent) (id : ℕ) (node : NodeId) (name : List ℕ)
    (lead : Lead) (leads : IsLead types id (Field name) lead)
    (format : Format) (legal : IsLegal format (type_of types id)) (d : ℕ)
    (deep : d ≡ depth (type_of types id)) (shallow : d ≤ 62) (index : ℕ)
    (index_is : index ≡ 1 * 2 ^ d % 2 ^ 128 + lead.number) where
  -- the power that the program makes
  power : 1 * 2 ^ d % 2 ^ 128 ≡ 1 * 2 ^ d
  power = let small : 2 ^ d ≤ 2 ^ 62 = pow-le-pow_right (omega arith) shallow in omega arith

  indexed : generalized_index (type_of types id) (Field name ∷ []) ≡ Some index
  indexed =
      let place : step_index 1 (type_of types id) (Field name) ≡ index =
      field_index (type_of types id) (type_of types lead.part) name leads.typed
      ∙ ap (λ n. 1 * 2 ^ n + lead_number (Field name) (type_of types id)) (sym deep)
      ∙ ap (λ n. 1 * 2 ^ d + n) (sym leads.number)
      ∙ ap (λ n. n + lead.number) (sym power) ∙ sym index_is in
      ap (option_and_then (λ (u : SszType).
      generalized_index_from (step_index 1 (type_of types id) (Field name)) u [])) leads.typed
      ∙ ap Some place

  present : (v : SszValue) → IsTreeOf (type_of types id) v (tree_of arena node)
      → IsSome (step_type (type_of types id) (Field name))
      → true ≡ is_some (step_part (type_of types id) v (Field name))
  present v of fits = field_present (type_of types id) v name of.fits fits

  -- no tree of a value ends above the field
  pub no_field_node : at (tree_of arena node) index ≡ None
      → IsSome (path_type (type_of types id) (Field name ∷ []))
      × IsAbsent types arena id node (Field name ∷ [])
  no_field_node none = (
    ap (λ o. is_some (option_and_then (λ (u : SszType). path_type u []) o)) leads.typed,
    absent_nowhere types arena id node (Field name) format legal
        (nowhere_below types arena id node (Field name) index indexed none),
  )

  pub field_place : (down : NodeId) → IsNodeOf arena down
      → at (tree_of arena node) index ≡ Some (tree_of arena down)
      → node_at arena.nodes node (way index) ≡ Some down
      → IsFound types arena id node (Field name ∷ [])
      (record { id = lead.part; node = down; index = index; spot = Whole })
  field_place down inside tree_is node_is =
      found_step types arena id node (Field name) true refl present
      (record { id = lead.part; node = down; index = index; spot = Whole })
      (led_step types arena id node (Field name) lead.part leads.typed index indexed down Whole
      leads.known inside tree_is node_is (field_spot (type_of types id) name))
