-- What a lent part stands for.
use Rattle.std.specs.Prelude.{Result, Ok, Err}
use Rattle.ssz_schema.specs.Types.{SszType}
use Rattle.ssz_value.specs.declared.path_fault.PathFault.{PathFault}
use Rattle.ssz_value.specs.Values.{SszValue, number, truth, Fits}
use Rattle.ssz_value.specs.Standing.{value_of, IsValue}
use Rattle.ssz_plain.specs.declared.lending.PartRef.{PartRef}
use Rattle.ssz_plain.specs.declared.lending.PartRef.TheVariants.{Held, Number, Bit}

-- the value that the part is
abbrev pub part_value : PartRef → SszValue
part_value (Held v) = value_of v.now
part_value (Number n) = number n
part_value (Bit b) = truth b

-- the part, or why there is none
abbrev pub lent : Result PartRef PathFault → Result SszValue PathFault
lent (Ok found) = Ok (part_value found)
lent (Err fault) = Err fault

-- the part is one of the type
abbrev pub IsPartOf : SszType → PartRef → Type 0
IsPartOf t (Held v) = IsValue t v.now
IsPartOf t found = Fits t (part_value found)

-- the part is told, and not held
abbrev pub IsTold : PartRef → Type 0
IsTold (Held v) = ⊥
IsTold found = Unit {0}
