-- What is a multiproof (merkle-proofs.md, Merkle multiproofs).
use Rattle.std.specs.Prelude.{◌≡◌, ◌≢◌, ℕ, ◌<◌, ◌^◌, nat_eq, List, [], ◌∷◌, ◌++◌}
use Rattle.std.specs.List.{IsDistinct, AllByRecursion}
use Rattle.std.specs.List.Sorted.{IsPermutation}
use Rattle.ssz_gindex.specs.Faults.{AreHelpers}
use Rattle.ssz_gindex.specs.Helpers.{helpers, AreFlat}
use Rattle.ssz_proof.specs.Calculation.{Known, indices_of}

-- the chunks that are proved, and those at their helper indices
pub record Multiproof : Type 0 where
  pub leaves : Known
  pub nodes : Known

abbrev pub known_of : Multiproof → Known
known_of proof = proof.leaves ++ proof.nodes

-- leaves of which there is one, none is at 0, no two are at one index or above one another, and
-- nodes at their helper indices in descending order
pub record IsMultiproof (proof : Multiproof) : Type 0 where
  pub some : proof.leaves ≢ []
  pub positive : AllByRecursion (λ index. 0 < index) (indices_of proof.leaves)
  pub distinct : IsDistinct nat_eq (indices_of proof.leaves)
  pub flat : AreFlat (indices_of proof.leaves)
  pub complete : indices_of proof.nodes ≡ helpers (indices_of proof.leaves)

-- each number is above the one before it, and the first above low
abbrev pub AscendFrom : ℕ → List ℕ → Type 0
AscendFrom low [] = Unit {0}
AscendFrom low (index ∷ indices) = (low < index) × AscendFrom index indices

-- leaves in ascending order and nodes that are a multiproof
pub record AreComplete (leaves nodes : Known) : Type 0 where
  pub some : leaves ≢ []
  pub ascends : AscendFrom 0 (indices_of leaves)
  pub helpers : AreHelpers (indices_of leaves) (indices_of nodes)

-- one whose leaves ascend
pub record IsOrdered (proof : Multiproof) : Type 0 where
  pub is : IsMultiproof proof
  pub ascends : AscendFrom 0 (indices_of proof.leaves)
  pub fits : AllByRecursion (λ index. index < 2 ^ 128) (indices_of proof.leaves)

-- the multiproof of these two lists, with the leaves in ascending order
pub record IsProofOf (lists proof : Multiproof) : Type 0 where
  pub given : IsMultiproof lists
  pub ordered : IsOrdered proof
  pub leaves : IsPermutation lists.leaves proof.leaves
  pub nodes : proof.nodes ≡ lists.nodes
