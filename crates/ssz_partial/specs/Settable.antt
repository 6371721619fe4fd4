-- Where a value can be set, and of which type.
use Rattle.std.specs.Prelude.{ℕ, ◌≡◌, ◌<◌, not, false, length, IsSome, IsOk, Some, Result, Err}
use Rattle.ssz_schema.specs.Types.{SszType}
use Rattle.ssz_schema.specs.Sizes.{basic_size}
use Rattle.ssz_schema.specs.Unfolding.{Types, type_of}
use Rattle.ssz_schema.specs.Paths.{Path, path_type}
use Rattle.ssz_proof.specs.Calculation.{Known}
use Rattle.ssz_partial.specs.declared.fault.PartialFault.{PartialFault}
use Rattle.ssz_partial.specs.Partial.{FoundPart, found_by, settable, ends_mixed_in}

-- the path leads to the part's type, which is basic, and is not that of a length or a selector
pub record IsSettableType (types : Types) (t : SszType) (path : Path) (part : ℕ) : Type 0 where
  pub known : part < length types.trees
  pub leads : path_type t path ≡ Some (type_of types part)
  pub basic : IsSome (basic_size (type_of types part))
  pub alone : ends_mixed_in path ≡ false

-- whatever is known, this is refused
abbrev pub IsNeverSettable : SszType → Path → PartialFault → Type 0
IsNeverSettable t path fault =
    (answer : Result FoundPart PartialFault)
    → found_by (path_type t path) (not (ends_mixed_in path)) answer ≡ Err fault

-- a value of the part's type, which is the basic one at the path, is set there
pub record IsSettable (types : Types) (chunks : Known) (t : SszType) (path : Path) (part : ℕ)
    : Type 0 where
  pub known : part < length types.trees
  pub leads : path_type t path ≡ Some (type_of types part)
  pub basic : IsSome (basic_size (type_of types part))
  pub found : IsOk (settable chunks t path)
