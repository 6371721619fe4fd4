-- The numbers of the types that a type is made of.
use Rattle.std.specs.Prelude.{◌≡◌, ℕ, ◌<◌, length, Option, option_map, Ok, Err}
use Rattle.std.specs.Option.{ForSome}
use Rattle.ssz_schema.specs.Types.{SszType}
use Rattle.ssz_schema.specs.Unfolding.{Types, type_of}
use Rattle.ssz_said.specs.Outcome.{CallOutcome}
use Rattle.ssz_typed.specs.declared.library.Library.{Library}
use Rattle.ssz_typed.specs.Forms.{part_type}
use Rattle.ssz_typed.specs.Library.{Numbers}
use Rattle.ssz_typed.specs.Sharing.{schema_in}

-- the type at a place of those that a type is made of, in a schema
pub record IsPartType (types : Types) (id place : ℕ) (part : Option ℕ) : Type 0 where
  pub exact : option_map (type_of types) part ≡ part_type (type_of types id) place
  pub known : ForSome part (λ id. id < length types.trees)

-- What a type comes to that is asked for: it has a number, and no type has two, or memory ran out
-- before it had one; where there is no such type, it is said why, and nothing is done.
abbrev pub PartIsNumbered : CallOutcome SszType → Library → Library → CallOutcome ℕ → Type 0
PartIsNumbered (Err why) old new answer = (new.found.items ≡ old.found.items) × (answer ≡ Err why)
PartIsNumbered (Ok type) old new answer =
    (id : ℕ) × (type_of (schema_in old) id ≡ type) × Numbers id old new answer
