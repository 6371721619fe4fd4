-- The part that a field's name leads to from a part.
use Rattle.std.proofs.Common.{◌≡◌, ℕ, List, [], ◌∷◌, slice_range, Some, Ok, option_map, sym, ap, ◌∙◌, subst, is_some}
use Rattle.ssz_schema.specs.declared.path.PathStep.TheVariants.{Field}
use Rattle.ssz_schema.specs.Unfolding.{Types, type_of}
use Rattle.ssz_schema.specs.Legal.{IsLegal}
use Rattle.ssz_schema.specs.Paths.{step_type}
use Rattle.ssz_value.proofs.Agree.{IsInput}
use Rattle.ssz_slices.specs.declared.held.Held.{Held}
use Rattle.ssz_slices.specs.declared.held.Held.TheVariants.{Bytes}
use Rattle.ssz_slices.specs.Part.{Part, part_reached}
use Rattle.ssz_slices.specs.Held.{HeldHasType, HasRoom, IsStretch, held_value, held_span, held_at_step, held_moved}
use Rattle.ssz_places.proofs.PathLaws.{step_legal}
use Rattle.ssz_slices.proofs.Along.{IsAlong, along-start, along-step, along-end, GoesOn, Continues, goes_on}
use Rattle.ssz_slices.proofs.Stretches.{step_room}

-- What was found: the field of this name in a part of type id that lies from and to.
pub record IsFound (types : Types) (input : List ℕ) (id from to : ℕ) (name : List ℕ)
    (found : ℕ × Held) : Type 0 where
  pub legal : IsLegal types.format (type_of types id)
  pub input_is : IsInput input
  pub stretch : IsStretch (type_of types id) input from to
  pub form : Some (type_of types found.0) ≡ step_type (type_of types id) (Field name)
  pub held : Some found.1 ≡ held_at_step (type_of types id) (slice_range input from to) (Field name)

pub field_room : (types : Types) (input : List ℕ) (id from to : ℕ) (name : List ℕ)
    (found : ℕ × Held) → IsFound types input id from to name found → HasRoom from found.1
field_room types input id from to name found is =
    step_room types.format (type_of types id) input (Field name) from to found.1 is.legal
    is.input_is is.stretch (ap is_some (sym is.form)) is.held

-- what it is as a part of the input
pub record IsFieldPart (types : Types) (whole : Part) (name : List ℕ) (id : ℕ) (held : Held)
    : Type 0 where
  pub legal : IsLegal types.format (type_of types id)
  pub holds : HeldHasType (type_of types id) whole.input held
  pub answer : Ok (record {
    form = type_of types id;
    value = held_value (type_of types id) whole.input held;
    input = whole.input;
    place = held_span held;
  }) ≡ part_reached whole (Field name ∷ [])

pub field_part : (types : Types) (whole : Part) (id from to : ℕ) (name : List ℕ)
    (found : ℕ × Held) (held : Held) → IsFound types whole.input id from to name found
    → whole.form ≡ type_of types id
    → whole.value ≡ held_value (type_of types id) whole.input (Bytes from to)
    → whole.place ≡ held_span (Bytes from to)
    → held ≡ held_moved from found.1 → IsFieldPart types whole name found.0 held
field_part types whole id from to name found held is form value place there =
    let t = type_of types id in
    let u = type_of types found.0 in
    let fits : step_type t (Field name) ≡ Some u = sym is.form in
    let answer : option_map (held_moved from)
    (held_at_step t (slice_range whole.input from to) (Field name))
    ≡ Some held = ap (option_map (held_moved from)) (sym is.held) ∙ ap Some (sym there) in
    let on : Continues t u whole.input (Field name) (Bytes from to) held =
    subst (GoesOn t u whole.input (Field name) (Bytes from to)) answer
    (goes_on types.format t u whole.input (Field name) (Bytes from to) is.legal is.input_is
    is.stretch fits) in
    let start : IsAlong whole (Field name ∷ []) t (Some (Bytes from to)) (Field name ∷ []) =
    subst (λ x. IsAlong whole (Field name ∷ []) x (Some (Bytes from to)) (Field name ∷ [])) form
    (along-start whole (Field name ∷ []) (Bytes from to)
    (subst (λ x. IsStretch x whole.input from to) (sym form) is.stretch)
    (value ∙ ap (λ x. held_value x whole.input (Bytes from to)) (sym form)) place) in
    let end : IsAlong whole (Field name ∷ []) u (Some held) [] =
    subst (λ h. IsAlong whole (Field name ∷ []) u h []) answer
    (along-step types.format whole (Field name ∷ []) t u (Some (Bytes from to)) (Field name) []
    is.legal is.input_is start fits) in
    let legal = step_legal types.format t (Field name) u is.legal fits in
    record {
      legal = legal;
      holds = on.holds;
      answer = along-end types.format whole (Field name ∷ []) u held legal is.input_is end;
    }
