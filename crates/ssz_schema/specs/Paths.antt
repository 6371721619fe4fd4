-- Paths: the parts of a type that they name (merkle-proofs.md, SSZ object to index;
-- steps into bits and unions are this project's).
use Rattle.std.specs.Prelude.{ℕ, zero, suc, nat_lt, if◌then◌else◌, List, [], ◌∷◌, Option, Some, None, option_and_then, bytes_eq}
use Rattle.ssz_schema.specs.declared.path.PathStep.{PathStep}
use Rattle.ssz_schema.specs.declared.path.PathStep.TheVariants.{Field, Index, Len, Selector, Option as Chosen}
use Rattle.ssz_types.specs.declared.width.Width.TheVariants.{W8, W64}
use Rattle.ssz_types.specs.Types.{SszType, Fields, Options, uint, boolean, container, vector, list, bitvector, bitlist, union, no_fields, field, no_options, none_option, option}

-- steps from the whole to a part of it
abbrev pub Path : Type 0
Path = List PathStep

-- the type of the field of this name
abbrev pub field_type : Fields → List ℕ → Option SszType
field_type no_fields name = None
field_type (field other t fs) name = if bytes_eq other name then Some t else field_type fs name

-- how many fields stand before the one of this name
abbrev pub field_number : Fields → List ℕ → ℕ
field_number no_fields name = 0
field_number (field other t fs) name = if bytes_eq other name then 0 else suc (field_number fs name)

-- the type of the option of this number, if it is not None
abbrev pub option_type : Options → ℕ → Option SszType
option_type no_options k = None
option_type (none_option os) zero = None
option_type (option t os) zero = Some t
option_type (none_option os) (suc k) = option_type os k
option_type (option t os) (suc k) = option_type os k

-- the type of the part that a step leads to, if the step fits the type: get_elem_type
abbrev pub step_type : SszType → PathStep → Option SszType
step_type (container fs) (Field name) = field_type fs name
step_type (vector elem n) (Index i) = if nat_lt i n then Some elem else None
step_type (list elem limit) (Index i) = if nat_lt i limit then Some elem else None
step_type (list elem limit) Len = Some (uint W64)
step_type (bitvector n) (Index i) = if nat_lt i n then Some boolean else None
step_type (bitlist limit) (Index i) = if nat_lt i limit then Some boolean else None
step_type (bitlist limit) Len = Some (uint W64)
step_type (union os) Selector = Some (uint W8)
step_type (union os) (Chosen k) = option_type os k
-- no other step fits
step_type _ _ = None

-- the type of the part at a path, if each step fits
abbrev pub path_type : SszType → Path → Option SszType
path_type t [] = Some t
path_type t (step ∷ path) = option_and_then (λ part. path_type part path) (step_type t step)
