-- The fields of a type of a schema, by their numbers.
use Rattle.std.proofs.Common.{ℕ, ◌<◌, ◌≡◌, cond, List, length, Some, None, Vec, Global, is_some, sym, ap, ◌∙◌, subst}
use Rattle.std.specs.List.{AllByRecursion}
use Rattle.ssz_schema.specs.declared.lead.Lead.{Lead}
use Rattle.ssz_schema.specs.declared.path.PathStep.TheVariants.{Field}
use Rattle.ssz_schema.specs.ty.Ty.{Ty}
use Rattle.ssz_schema.specs.ty.Ty.TheVariants.{Container}
use Rattle.ssz_schema.specs.Types.{SszType, uint, boolean, container, vector, list, bitvector, bitlist, union}
use Rattle.ssz_schema.specs.Sizes.{part_sizes}
use Rattle.ssz_schema.specs.Unfolding.{Types, type_of, tree_over, fields_over, AreBelow}
use Rattle.ssz_schema.specs.Paths.{step_type, field_number}
use Rattle.ssz_schema.specs.Steps.{lead_number, IsLead}
use Rattle.ssz_value.specs.Faults.{first_fault, head_fault, fields_fault, scopes}
use Rattle.ssz_value.proofs.Agree.{no_faults}
use Rattle.ssz_value.proofs.PartLemmas.{Part, length-sizes_of, known_weaker}
use Rattle.ssz_slices.specs.Held.{held_at_step, stretch, field_sizes, field_range}
use Rattle.ssz_slices.proofs.FieldParts.{field_below}

-- these are the fields of the type
pub record AreFieldsOf (types : Types) (id : ℕ) (parts : List Part) : Type 0 where
  pub type : container (fields_over types.trees parts) ≡ type_of types id
  pub known : AllByRecursion (λ (p : Part). p.1 < length types.trees) parts

pub fields_of : (types : Types) (id : ℕ) (ty : Ty) (vec : Vec Part Global) (parts : List Part)
    → id < length types.trees → tree_over types.trees ty ≡ type_of types id → AreBelow id ty
    → ty ≡ Container vec → parts ≡ vec.items → AreFieldsOf types id parts
fields_of types id ty vec parts known form below is items = record {
  type = ap (λ ps. container (fields_over types.trees ps)) items
      ∙ sym (ap (tree_over types.trees) is) ∙ form;
  known = subst (AllByRecursion (λ (p : Part). p.1 < length types.trees)) (sym items)
      (known_weaker id (length types.trees) vec.items known (subst (AreBelow id) is below));
}

pub head_of : (types : Types) (id : ℕ) (parts : List Part) (b : List ℕ)
    → AreFieldsOf types id parts → first_fault (type_of types id) 0 b ≡ None
    → head_fault (part_sizes (fields_over types.trees parts)) 0 b ≡ None
head_of types id parts b are h =
    let fs = fields_over types.trees parts in
    (no_faults (head_fault (part_sizes fs) 0 b) (fields_fault fs 0 (scopes (part_sizes fs) 0 b))
    (ap (λ t. first_fault t 0 b) are.type ∙ h)).0

pub sizes_are : (types : Types) (id : ℕ) (parts : List Part) → AreFieldsOf types id parts
    → part_sizes (fields_over types.trees parts) ≡ field_sizes (type_of types id)
sizes_are types id parts are = ap field_sizes are.type

pub number_below : (types : Types) (id : ℕ) (parts : List Part) (k : ℕ)
    → AreFieldsOf types id parts → k < length (field_sizes (type_of types id)) → k < length parts
number_below types id parts k are below =
    subst (λ n. k < n) (sym (ap length (sizes_are types id parts are))
    ∙ length-sizes_of types.trees parts) below

-- a step to a field leads to one of them
named_below : (t u : SszType) (name : List ℕ) → step_type t (Field name) ≡ Some u
    → lead_number (Field name) t < length (field_sizes t)
named_below (container fs) u name e = field_below fs name u e
named_below (uint w) u name e = cc
named_below boolean u name e = cc
named_below (vector elem n) u name e = cc
named_below (list elem limit) u name e = cc
named_below (bitvector n) u name e = cc
named_below (bitlist limit) u name e = cc
named_below (union os) u name e = cc

named_held : (t u : SszType) (name b : List ℕ) → step_type t (Field name) ≡ Some u
    → Some (stretch (field_range (field_sizes t) (lead_number (Field name) t) b))
    ≡ held_at_step t b (Field name)
named_held (container fs) u name b e =
    ap (λ o. cond (is_some o)
    (Some (stretch (field_range (part_sizes fs) (field_number fs name) b))) None) (sym e)
named_held (uint w) u name b e = cc
named_held boolean u name b e = cc
named_held (vector elem n) u name b e = cc
named_held (list elem limit) u name b e = cc
named_held (bitvector n) u name b e = cc
named_held (bitlist limit) u name b e = cc
named_held (union os) u name b e = cc

pub led_below : (types : Types) (id : ℕ) (name : List ℕ) (lead : Lead)
    → IsLead types id (Field name) lead → lead.number < length (field_sizes (type_of types id))
led_below types id name lead led =
    subst (λ k. k < length (field_sizes (type_of types id))) (sym led.number)
    (named_below (type_of types id) (type_of types lead.part) name led.typed)

pub led_held : (types : Types) (id : ℕ) (name b : List ℕ) (lead : Lead)
    → IsLead types id (Field name) lead
    → Some (stretch (field_range (field_sizes (type_of types id)) lead.number b))
    ≡ held_at_step (type_of types id) b (Field name)
led_held types id name b lead led =
    ap (λ k. Some (stretch (field_range (field_sizes (type_of types id)) k b))) led.number
    ∙ named_held (type_of types id) (type_of types lead.part) name b led.typed
