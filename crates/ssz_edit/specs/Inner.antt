-- What a `choose` gives for its option.
use Rattle.std.specs.Prelude.{ℕ, ◌≡◌, List, Option, Some, None}
use Rattle.ssz_schema.specs.Unfolding.{Types, type_of}
use Rattle.ssz_value.specs.declared.value.Value.{Value as Program}
use Rattle.ssz_value.specs.Defaults.{default_of}
use Rattle.ssz_value.specs.Standing.{value_of, IsValue}
use Rattle.ssz_edit.specs.declared.given.Given.{Given}
use Rattle.ssz_edit.specs.declared.given.Given.TheVariants.{Value, Bytes}

-- the literal, but nothing for None
abbrev pub IsLiteral : Option ℕ → List ℕ → Option Given → Type 0
IsLiteral (Some id) literal (Some (Bytes b)) = b.now ≡ literal
IsLiteral (Some id) literal (Some (Value v)) = ⊥
IsLiteral (Some id) literal None = ⊥
IsLiteral None literal (Some given) = ⊥
IsLiteral None literal None = Unit {0}

-- the default of the option, but nothing for None
abbrev pub IsDefault : Types → Option ℕ → Option Program → Type 0
IsDefault types (Some id) (Some v) =
    IsValue (type_of types id) v × (value_of v ≡ default_of (type_of types id))
IsDefault types (Some id) None = ⊥
IsDefault types None (Some v) = ⊥
IsDefault types None None = Unit {0}
