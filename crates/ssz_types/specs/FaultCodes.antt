-- The numbers of the codes S3 to S14.
use Rattle.std.specs.Prelude.{ℕ}
use Rattle.ssz_types.specs.declared.schema_fault.SchemaFault.{SchemaFault}
use Rattle.ssz_types.specs.declared.schema_fault.SchemaFault.TheVariants.{BadName, NameTaken, UnknownName, ZeroLength, EmptyContainer, NonePlace, UnionSize, FieldTaken, LimitTooBig, Nest, Levels, Size}

abbrev pub schema_code : SchemaFault → ℕ
schema_code BadName = 3
schema_code NameTaken = 4
schema_code UnknownName = 5
schema_code ZeroLength = 6
schema_code EmptyContainer = 7
schema_code NonePlace = 8
schema_code UnionSize = 9
schema_code FieldTaken = 10
schema_code LimitTooBig = 11
schema_code Nest = 12
schema_code Levels = 13
schema_code Size = 14
