-- The forms of types, and the walks of those that have parts.
use Rattle.std.proofs.Common.{ℕ, ◌≡◌, ◌<◌, true, false, cond, List, [], ◌∷◌, length, map, Option, Some, None, option_map, Result, Ok, Err, Vec, Box, Global, refl, sym, ap, ap₂, ◌∙◌, subst, arith}
use Rattle.ssz_types.specs.declared.format.Format.{Format}
use Rattle.ssz_types.specs.declared.expr.TypeExpr.{TypeExpr}
use Rattle.ssz_types.specs.declared.expr.TypeExpr.TheVariants.{Container, rolls-Container, Vector, rolls-Vector, List as ListOf, rolls-List, Bitvector, rolls-Bitvector, Bitlist, rolls-Bitlist, Union, rolls-Union}
use Rattle.ssz_types.specs.declared.expr.TypeExpr.TheFolds.{fold-roll-TypeExpr}
use Rattle.ssz_types.specs.declared.expr.TypeExpr.TheShapes.{former-TypeExpr-Union-0-at-1}
use Rattle.ssz_types.specs.declared.schema_fault.SchemaFault.{SchemaFault}
use Rattle.ssz_types.specs.declared.schema_fault.SchemaFault.TheVariants.{UnionSize}
use Rattle.ssz_types.specs.declared.schema_fault.SchemaError.{SchemaError}
use Rattle.ssz_types.specs.Types.{SszType, Fields, Options, container, union}
use Rattle.ssz_schema.specs.Forms.{TypeForm, field_forms, option_forms, field_form_of, form_of, form_step, container_form, vector_form, list_form, bitvector_form, bitlist_form, union_form, option_form_count}
use Rattle.ssz_schema.specs.Walk.{◌>>=◌, within_limits, resolved, resolved_fields, resolved_options}
use Rattle.ssz_types.specs.Legal.{is_wrong_size}
use Rattle.ssz_types.specs.Unfolding.{Types, type_of, fields_over, options_over}
use Rattle.ssz_schema.specs.Adding.{Resolves, IsType, AreFieldTypes, AreOptions}
use Rattle.ssz_schema.proofs.WalkLemmas.{goes_on}

each_option : (o : Option TypeExpr) → former-TypeExpr-Union-0-at-1.map TypeExpr TypeForm form_of o
    ≡ option_map form_of o
each_option None = refl
each_option (Some expr) = refl

all_options : (os : List (Option TypeExpr))
    → map (former-TypeExpr-Union-0-at-1.map TypeExpr TypeForm form_of) os
    ≡ map (option_map form_of) os
all_options [] = refl
all_options (o ∷ os) = ap₂ ◌∷◌ (each_option o) (all_options os)

-- the form of a union
pub union_is : (os : Vec (Option TypeExpr) Global)
    → form_of (Union os) ≡ union_form (option_forms (map (option_map form_of) os.items))
union_is os = ap form_of (sym (rolls-Union os)) ∙ fold-roll-TypeExpr TypeForm form_step _
    ∙ ap (λ fs. union_form (option_forms fs)) (all_options os.items)

-- and the forms of the other types that are walked or added

pub container_is : (fields : Vec (List ℕ × TypeExpr) Global)
    → form_of (Container fields) ≡ container_form (field_forms (map field_form_of fields.items))
container_is fields = ap form_of (sym (rolls-Container fields))
    ∙ fold-roll-TypeExpr TypeForm form_step _

pub vector_is : (elem : Box TypeExpr Global) (n : ℕ)
    → form_of (Vector elem n) ≡ vector_form (form_of elem.value) n
vector_is elem n = ap form_of (sym (rolls-Vector elem n))
    ∙ fold-roll-TypeExpr TypeForm form_step _

pub list_is : (elem : Box TypeExpr Global) (limit : ℕ)
    → form_of (ListOf elem limit) ≡ list_form (form_of elem.value) limit
list_is elem limit = ap form_of (sym (rolls-List elem limit))
    ∙ fold-roll-TypeExpr TypeForm form_step _

pub bitvector_is : (n : ℕ) → form_of (Bitvector n) ≡ bitvector_form n
bitvector_is n = ap form_of (sym (rolls-Bitvector n))
    ∙ fold-roll-TypeExpr TypeForm form_step _

pub bitlist_is : (limit : ℕ) → form_of (Bitlist limit) ≡ bitlist_form limit
bitlist_is limit = ap form_of (sym (rolls-Bitlist limit))
    ∙ fold-roll-TypeExpr TypeForm form_step _

-- an element's walk, and then what is made of the element's type
pub element_then : (make : Format → SszType → Result SszType SchemaFault) (old mid new : Types)
    (walk : Result SszType SchemaFault) (elem : ℕ) (result : Result ℕ SchemaError)
    → Resolves IsType walk old mid (Ok elem)
    → Resolves IsType (make mid.format (type_of mid elem)) mid new result
    → Resolves IsType (walk >>= make old.format) old new result
element_then make old mid new walk elem result first r =
    goes_on IsType walk (make old.format) first.answer.0 old mid new result first.extends
    first.answer.1
    (subst (λ (w : Result SszType SchemaFault). Resolves IsType w mid new result)
    (ap₂ make first.extends.format first.answer.2.is) r)

-- the walk of a container that has fields
pub container_walk : (format : Format) (known : List ℕ → Option SszType)
    (fields : List (List ℕ × TypeExpr)) → 0 < length fields
    → resolved format known (container_form (field_forms (map field_form_of fields)))
    ≡ (resolved_fields format known [] (field_forms (map field_form_of fields)) >>=
    (λ fs. within_limits format (container fs)))
container_walk format known [] some = absurd (omega arith)
container_walk format known (f ∷ fields) some = refl

pub container_then : (old mid new : Types) (walk : Result Fields SchemaFault)
    (parts : Vec (List ℕ × ℕ) Global) (result : Result ℕ SchemaError)
    → Resolves AreFieldTypes walk old mid (Ok parts)
    → Resolves IsType (within_limits mid.format (container (fields_over mid.trees parts.items))) mid
    new result → Resolves IsType (walk >>= (λ fs. within_limits old.format (container fs))) old
    new result
container_then old mid new walk parts result first r =
    goes_on IsType walk (λ fs. within_limits old.format (container fs)) first.answer.0 old mid new
    result first.extends first.answer.1
    (subst (λ (w : Result SszType SchemaFault). Resolves IsType w mid new result)
    (ap₂ (λ format fs. within_limits format (container fs)) first.extends.format first.answer.2.are)
    r)

option_form_count-map : (os : List (Option TypeExpr))
    → option_form_count (option_forms (map (option_map form_of) os)) ≡ length os
option_form_count-map [] = refl
option_form_count-map (None ∷ os) = omega (arith, option_form_count-map os)
option_form_count-map (Some expr ∷ os) = omega (arith, option_form_count-map os)

-- the walk of a union of a right size
pub union_walk : (format : Format) (known : List ℕ → Option SszType) (os : List (Option TypeExpr))
    → is_wrong_size (length os) ≡ false
    → resolved format known (union_form (option_forms (map (option_map form_of) os)))
    ≡ (resolved_options format known true (option_forms (map (option_map form_of) os)) >>=
    (λ options. within_limits format (union options)))
union_walk format known os right =
    ap (λ b. cond b (Err UnionSize)
    (resolved_options format known true (option_forms (map (option_map form_of) os))) >>=
    (λ options. within_limits format (union options)))
    (ap is_wrong_size (option_form_count-map os) ∙ right)

-- and of a wrong one
pub union_refused : (format : Format) (known : List ℕ → Option SszType)
    (os : List (Option TypeExpr)) → is_wrong_size (length os) ≡ true
    → resolved format known (union_form (option_forms (map (option_map form_of) os)))
    ≡ Err UnionSize
union_refused format known os wrong =
    ap (λ b. cond b (Err UnionSize)
    (resolved_options format known true (option_forms (map (option_map form_of) os))) >>=
    (λ options. within_limits format (union options)))
    (ap is_wrong_size (option_form_count-map os) ∙ wrong)

pub union_then : (old mid new : Types) (walk : Result Options SchemaFault)
    (ids : Vec (Option ℕ) Global) (result : Result ℕ SchemaError)
    → Resolves AreOptions walk old mid (Ok ids)
    → Resolves IsType (within_limits mid.format (union (options_over mid.trees ids.items))) mid new
    result → Resolves IsType (walk >>= (λ options. within_limits old.format (union options)))
    old new result
union_then old mid new walk ids result first r =
    goes_on IsType walk (λ options. within_limits old.format (union options)) first.answer.0 old mid
    new result first.extends first.answer.1
    (subst (λ (w : Result SszType SchemaFault). Resolves IsType w mid new result)
    (ap₂ (λ format options. within_limits format (union options)) first.extends.format
    first.answer.2.are) r)
