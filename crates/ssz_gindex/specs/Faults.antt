-- Why indices have no helper indices, and when a list is theirs.
use Rattle.std.specs.Prelude.{ℕ, ◌≡◌, List}
use Rattle.ssz_gindex.specs.declared.fault.HelperFault.{HelperFault}
use Rattle.ssz_gindex.specs.declared.fault.HelperFault.TheVariants.{Nested, Memory}
use Rattle.ssz_gindex.specs.Helpers.{helpers, AreFlat, AreGreatestNested}

-- two nested indices, of which it is settled; want of memory says nothing
abbrev pub IsHelperFault : List ℕ → HelperFault → Type 0
IsHelperFault indices (Nested a b) = AreGreatestNested indices a b
IsHelperFault indices Memory = Unit {0}

-- no index is an ancestor of another, and these nodes are the helper indices
pub record AreHelpers (indices nodes : List ℕ) : Type 0 where
  pub flat : AreFlat indices
  pub are : nodes ≡ helpers indices
