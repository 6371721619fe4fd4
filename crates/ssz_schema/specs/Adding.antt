-- What adding a definition does to a schema, and what it answers.
use Rattle.std.specs.Prelude.{ℕ, ◌≡◌, ◌<◌, if◌then◌else◌, List, ◌++◌, length, Some, Option, option_map, Result, Ok, Err, Vec, bytes_eq}
use Rattle.std.specs.List.{AllByRecursion}
use Rattle.std.specs.declared.alloc.Global.{Global}
use Rattle.ssz_types.specs.declared.format.Format.{Format}
use Rattle.ssz_types.specs.declared.schema_fault.SchemaFault.{SchemaFault}
use Rattle.ssz_types.specs.declared.schema_fault.SchemaError.{SchemaError}
use Rattle.ssz_types.specs.declared.schema_fault.SchemaError.TheVariants.{Fault, Memory}
use Rattle.ssz_types.specs.Types.{SszType, Fields, Options}
use Rattle.ssz_types.specs.Lookup.{lookup_name}
use Rattle.ssz_types.specs.Unfolding.{Types, type_of, type_number, known_in, built_ins, fields_over, options_over, IsBelow}

-- a schema of no definition: its names are the built-in ones
pub record IsFreshSchema (asked : Format) (types : Types) : Type 0 where
  pub format : types.format ≡ asked
  pub names : (name : List ℕ) → known_in types name ≡ lookup_name built_ins name

-- the schema has this name for a type, and is otherwise the same
pub record NamesType (name : List ℕ) (old new : Types) (id : ℕ) : Type 0 where
  pub format : new.format ≡ old.format
  pub trees : new.trees ≡ old.trees
  pub names : (other : List ℕ) → type_number new other
      ≡ (if bytes_eq other name then Some id else type_number old other)

-- the name is known for this type, and every other as before
pub record Knows (name : List ℕ) (t : SszType) (old new : Types) : Type 0 where
  pub format : new.format ≡ old.format
  pub known : (other : List ℕ) → known_in new other
      ≡ (if bytes_eq other name then Some t else known_in old other)

-- the schema has more types, and this name for one of them; earlier numbers and names stay
pub record Defines (name : List ℕ) (old new : Types) (id : ℕ) : Type 0 where
  pub more : List SszType
  pub format : new.format ≡ old.format
  pub trees : new.trees ≡ old.trees ++ more
  pub names : (other : List ℕ) → type_number new other
      ≡ (if bytes_eq other name then Some id else type_number old other)
  pub known : id < length new.trees

-- the answer is the type that the walk gives, or its first fault, unless memory runs out
abbrev pub AnswersWalk : Result SszType SchemaFault → Types → Result ℕ SchemaError → Type 0
AnswersWalk walk new (Ok id) = walk ≡ Ok (type_of new id)
AnswersWalk walk new (Err (Fault fault)) = walk ≡ Err fault
AnswersWalk walk new (Err Memory) = Unit {0}

-- Inside a walk, types come in before the definition is accepted.

-- the schema has more types, and is otherwise the same
pub record ExtendsSchema (old new : Types) : Type 0 where
  pub more : List SszType
  pub format : new.format ≡ old.format
  pub trees : new.trees ≡ old.trees ++ more
  pub names : new.names ≡ old.names

-- the number is that of this type
pub record IsType (types : Types) (id : ℕ) (t : SszType) : Type 0 where
  pub known : id < length types.trees
  pub is : type_of types id ≡ t

pub record AreFieldTypes (types : Types) (parts : Vec (List ℕ × ℕ) Global) (fs : Fields)
    : Type 0 where
  pub known : AllByRecursion (λ part. part.1 < length types.trees) parts.items
  pub are : fields_over types.trees parts.items ≡ fs

pub record AreOptions (types : Types) (ids : Vec (Option ℕ) Global) (os : Options) : Type 0 where
  pub known : AllByRecursion (IsBelow (length types.trees)) ids.items
  pub are : options_over types.trees ids.items ≡ os

pub record IsField (types : Types) (part : List ℕ × ℕ) (field : List ℕ × SszType) : Type 0 where
  pub known : part.1 < length types.trees
  pub name : part.0 ≡ field.0
  pub is : type_of types part.1 ≡ field.1

pub record IsOption (types : Types) (id : Option ℕ) (t : Option SszType) : Type 0 where
  pub known : IsBelow (length types.trees) id
  pub is : option_map (type_of types) id ≡ t

-- what is answered stands in the new schema for what the walk gives
abbrev pub AnswersBy : {A X : Type 0} → (Types → X → A → Type 0) → Result A SchemaFault → Types
    → Result X SchemaError → Type 0
AnswersBy {A} Stands walk new (Ok x) = (a : A) × (walk ≡ Ok a) × Stands new x a
AnswersBy Stands walk new (Err (Fault fault)) = walk ≡ Err fault
AnswersBy Stands walk new (Err Memory) = Unit {0}

pub record Resolves {A X : Type 0} (Stands : Types → X → A → Type 0) (walk : Result A SchemaFault)
    (old new : Types) (result : Result X SchemaError) : Type 0 where
  pub extends : ExtendsSchema old new
  pub answer : AnswersBy Stands walk new result

-- a walk, and then the name of its type; after an error types may have come in
abbrev pub DefinesOrExtends : List ℕ → Result SszType SchemaFault → Types → Types
    → Result ℕ SchemaError → Type 0
DefinesOrExtends name walk old new (Ok id) = Defines name old new id × (walk ≡ Ok (type_of new id))
DefinesOrExtends name walk old new (Err (Fault fault)) = ExtendsSchema old new × (walk ≡ Err fault)
DefinesOrExtends name walk old new (Err Memory) = ExtendsSchema old new
