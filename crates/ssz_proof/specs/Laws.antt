-- What may be relied on of calculated roots, and of the texts of proofs.
use Rattle.std.specs.Prelude.{◌≡◌, ◌≢◌, ◌^◌, ◌<◌, [], ◌++◌, Some}
use Rattle.std.specs.List.{AllByRecursion}
use Rattle.ssz_chunk.specs.Chunk.{IsChunk}
use Rattle.ssz_chunk.specs.Tree.{Tree, root}
use Rattle.ssz_chunk.specs.Index.{at}
use Rattle.ssz_gindex.specs.Helpers.{helpers}
use Rattle.ssz_proof.specs.declared.entry.Entry.{Entry}
use Rattle.ssz_proof.specs.Calculation.{Known, PairOf, indices_of, calculate_root}
use Rattle.ssz_proof.specs.Multiproof.{Multiproof, known_of, IsOrdered}
use Rattle.ssz_proof.specs.Text.{read_text, multiproof_text, IsReadAs}

-- the chunk is the root of what a tree has at the index
pub record HasChunk (pair_of : PairOf) (tree : Tree) (entry : Entry) : Type 0 where
  pub node : Tree
  pub found : at tree entry.index ≡ Some node
  pub root : root pair_of node ≡ entry.chunk.0

-- from chunks of a tree at leaves and at their helper indices its root is calculated
abbrev pub LawOfProofs : Type 0
LawOfProofs =
    (pair_of : PairOf) (tree : Tree) (leaves nodes : Known) → leaves ≢ []
    → indices_of nodes ≡ helpers (indices_of leaves)
    → AllByRecursion (HasChunk pair_of tree) (leaves ++ nodes)
    → calculate_root pair_of (leaves ++ nodes) 1 ≡ root pair_of tree

-- an index of the type, and a chunk of 32 bytes
pub record IsProofEntry (entry : Entry) : Type 0 where
  pub positive : 0 < entry.index
  pub fits : entry.index < 2 ^ 128
  pub chunk : IsChunk entry.chunk.0

-- the text of a proof is read as that proof and as no other
pub record IsReadBack (proof : Multiproof) : Type 0 where
  pub says : read_text (multiproof_text proof) ≡ Some proof
  pub is : IsReadAs (multiproof_text proof) proof
  pub only : (other : Multiproof) → IsReadAs (multiproof_text proof) other → other ≡ proof

abbrev pub LawOfTexts : Type 0
LawOfTexts = (proof : Multiproof) → IsOrdered proof → AllByRecursion IsProofEntry (known_of proof)
    → IsReadBack proof
