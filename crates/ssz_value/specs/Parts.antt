-- The part of a value at a path (merkle-proofs.md, SSZ object to index; steps into bits and unions
-- are this project's).
use Rattle.std.specs.Prelude.{◌==◌, if◌then◌else◌, is_some, [], ◌∷◌, length, slice_get, Option, Some, None, option_map, option_and_then, Result, Ok, Err}
use Rattle.ssz_schema.specs.declared.path.PathStep.{PathStep}
use Rattle.ssz_schema.specs.declared.path.PathStep.TheVariants.{Field, Index, Len, Selector, Option as Chosen}
use Rattle.ssz_schema.specs.Types.{SszType, container}
use Rattle.ssz_schema.specs.Paths.{Path, field_number, step_type, path_type}
use Rattle.ssz_value.specs.declared.path_fault.PathFault.{PathFault}
use Rattle.ssz_value.specs.declared.path_fault.PathFault.TheVariants.{BadPath, Absent}
use Rattle.ssz_value.specs.Values.{SszValue, number, truth, sequence, bits, chosen, chosen_none, items}

-- Below, a step fits the type.

-- a field as the number that its value has among the values
abbrev pub numbered : SszType → PathStep → PathStep
numbered (container fs) (Field name) = Index (field_number fs name)
numbered t step = step

-- the part that a step leads to; None where an element or bit is past the length, or an option is
-- not the present one
abbrev pub part_at : PathStep → SszValue → Option SszValue
part_at (Index i) (sequence vs) = slice_get (items vs) i
part_at (Index i) (bits bs) = option_map truth (slice_get bs i)
part_at Len (sequence vs) = Some (number (length (items vs)))
part_at Len (bits bs) = Some (number (length bs))
part_at Selector (chosen k v) = Some (number k)
part_at Selector (chosen_none k) = Some (number k)
part_at (Chosen k) (chosen j v) = if j == k then Some v else None
part_at _ _ = None

abbrev pub step_part : SszType → SszValue → PathStep → Option SszValue
step_part t v step = part_at (numbered t step) v

-- the part at a path that fits the type, if it is present
abbrev pub part : SszType → SszValue → Path → Option SszValue
part t v [] = Some v
part t v (step ∷ path) =
    option_and_then (λ u. option_and_then (λ w. part u w path) (step_part t v step))
    (step_type t step)

-- what there is, or that it is absent
abbrev pub or_absent : Option SszValue → Result SszValue PathFault
or_absent (Some v) = Ok v
or_absent None = Err Absent

-- the part at a path, or why there is none: that the path fits the type is tested before what is
-- present
abbrev pub part_or_fault : SszType → SszValue → Path → Result SszValue PathFault
part_or_fault t v path =
    if is_some (path_type t path) then or_absent (part t v path) else Err BadPath

-- why there is none at a path at which no part is
abbrev pub fault_without : SszType → Path → PathFault
fault_without t path = if is_some (path_type t path) then Absent else BadPath
