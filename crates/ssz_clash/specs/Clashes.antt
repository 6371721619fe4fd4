-- Where two multiproofs of the same places lead to one root from unlike chunks (merkle-proofs.md,
-- Merkle multiproofs).
use Rattle.std.specs.Prelude.{◌≡◌, ◌≢◌, ℕ, ◌+◌, ◌*◌, ◌<◌, ◌⊎◌, IsTrue, is_some, List, Result, Ok, Err}
use Rattle.ssz_chunk.specs.declared.Chunk.{Chunk}
use Rattle.ssz_gindex.specs.Helpers.{is_within}
use Rattle.ssz_proof.specs.Calculation.{Known, PairOf, chunk_at, calculate_root}
use Rattle.ssz_proof.specs.Multiproof.{Multiproof, known_of}
use Rattle.ssz_clash.specs.declared.finding.Clash.{Clash}
use Rattle.ssz_clash.specs.declared.finding.Clash.TheVariants.{Same, Unlike}
use Rattle.ssz_clash.specs.declared.fault.ClashFault.{ClashFault}
use Rattle.ssz_clash.specs.declared.fault.ClashFault.TheVariants.{OtherIndices, OtherRoot}

-- both have a leaf at the same indices
abbrev pub SamePlaces : Known → Known → Type 0
SamePlaces first second = (g : ℕ) → is_some (chunk_at first g) ≡ is_some (chunk_at second g)

-- and the same one
abbrev pub SameLeaves : Known → Known → Type 0
SameLeaves first second = (g : ℕ) → chunk_at first g ≡ chunk_at second g

-- an index that is a proper ancestor of a leaf's; the ancestors of the nodes are these as well
pub record IsAbove (leaves : Known) (g : ℕ) : Type 0 where
  pub positive : 0 < g
  pub leaf : ℕ
  pub there : IsTrue (is_some (chunk_at leaves leaf))
  pub within : IsTrue (is_within g leaf)
  pub apart : g ≢ leaf

-- the root that a proof leads to
abbrev pub root_of : PairOf → Multiproof → List ℕ
root_of pair_of proof = calculate_root pair_of (known_of proof) 1

-- the chunks of both children of an index, calculated
abbrev pub pair_at : PairOf → Multiproof → ℕ → List ℕ × List ℕ
pair_at pair_of proof g = (
  calculate_root pair_of (known_of proof) (2 * g),
  calculate_root pair_of (known_of proof) (2 * g + 1),
)

-- an index above a leaf at which the chunks are the same, and the pairs below are not
pub record IsClash (pair_of : PairOf) (one other : Multiproof) (g : ℕ) : Type 0 where
  pub above : IsAbove one.leaves g
  pub same : calculate_root pair_of (known_of one) g ≡ calculate_root pair_of (known_of other) g
  pub unlike : pair_at pair_of one g ≢ pair_at pair_of other g

-- an index at or below the left child of a node, and one at or below the right child
abbrev pub IsLeftOf : ℕ → ℕ → Type 0
IsLeftOf g h = (k : ℕ) × IsTrue (is_within (2 * k) g) × IsTrue (is_within (2 * k + 1) h)

-- in preorder an index stands before those below it, and before those to its right
abbrev pub IsNotBehind : ℕ → ℕ → Type 0
IsNotBehind g h = IsTrue (is_within g h) ⊎ IsLeftOf g h

-- the first clash in preorder
pub record IsFirstClash (pair_of : PairOf) (one other : Multiproof) (g : ℕ) : Type 0 where
  pub clash : IsClash pair_of one other g
  pub least : (h : ℕ) → IsClash pair_of one other h → IsNotBehind g h

abbrev pub pair_bytes : Chunk × Chunk → List ℕ × List ℕ
pair_bytes pair = (pair.0.0, pair.1.0)

-- the first clash, with the pairs below it, which are unlike and give the same
pub record IsClashShown (pair_of : PairOf) (one other : Multiproof) (g : ℕ) (a b : Chunk × Chunk)
    : Type 0 where
  pub place : IsFirstClash pair_of one other g
  pub pair_of_one : pair_bytes a ≡ pair_at pair_of one g
  pub pair_of_other : pair_bytes b ≡ pair_at pair_of other g
  pub unlike : a ≢ b
  pub same : pair_of a.0.0 a.1.0 ≡ pair_of b.0.0 b.1.0

-- the roots are not the same
pub record AreOtherRoots (pair_of : PairOf) (one other : Multiproof) (a b : Chunk) : Type 0 where
  pub places : SamePlaces one.leaves other.leaves
  pub root_of_one : a.0 ≡ root_of pair_of one
  pub root_of_other : b.0 ≡ root_of pair_of other
  pub unlike : a ≢ b

-- the roots are the same, and so are the leaves
pub record ProofsAgree (pair_of : PairOf) (one other : Multiproof) : Type 0 where
  pub root : root_of pair_of one ≡ root_of pair_of other
  pub leaves : SameLeaves one.leaves other.leaves

-- the places and the roots are the same, and the leaves are not
pub record AreUnlike (pair_of : PairOf) (one other : Multiproof) (g : ℕ) (a b : Chunk × Chunk)
    : Type 0 where
  pub places : SamePlaces one.leaves other.leaves
  pub root : root_of pair_of one ≡ root_of pair_of other
  pub leaves : SameLeaves one.leaves other.leaves → ⊥
  pub shown : IsClashShown pair_of one other g a b

-- What two proofs come to. No two of these cases are ever so together, so that each is answered
-- exactly where it is so.
abbrev pub ProofsComeTo : PairOf → Multiproof → Multiproof → Result Clash ClashFault → Type 0
ProofsComeTo pair_of one other (Err OtherIndices) = SamePlaces one.leaves other.leaves → ⊥
ProofsComeTo pair_of one other (Err (OtherRoot a b)) = AreOtherRoots pair_of one other a b
ProofsComeTo pair_of one other (Ok Same) = ProofsAgree pair_of one other
ProofsComeTo pair_of one other (Ok (Unlike g a b)) = AreUnlike pair_of one other g a b
