-- What the calls of a partial tree have to do with the value whose tree it is a part of.
use Rattle.std.specs.Prelude.{ℕ, ◌≡◌, List, length, Some, None, Result, Ok, Err, ⊤}
use Rattle.std.specs.List.{AllByRecursion}
use Rattle.ssz_schema.specs.format.Format.{Format}
use Rattle.ssz_schema.specs.Types.{SszType}
use Rattle.ssz_schema.specs.Legal.{IsLegal}
use Rattle.ssz_schema.specs.Paths.{Path, path_type}
use Rattle.ssz_value.specs.Values.{SszValue, Fits}
use Rattle.ssz_value.specs.Encoding.{serialize}
use Rattle.ssz_value.specs.Trees.{tree, padded, hash_tree_root}
use Rattle.ssz_value.specs.Parts.{part}
use Rattle.ssz_value.specs.Edits.{set_at}
use Rattle.ssz_proof.specs.Calculation.{PairOf, calculate_root}
use Rattle.ssz_proof.specs.Multiproof.{Multiproof, IsOrdered, known_of}
use Rattle.ssz_proof.specs.Laws.{HasChunk}
use Rattle.ssz_partial.specs.declared.fault.PartialFault.{PartialFault}
use Rattle.ssz_partial.specs.declared.fault.PartialFault.TheVariants.{Absent}
use Rattle.ssz_partial.specs.declared.piece.Piece.{Piece}
use Rattle.ssz_partial.specs.Partial.{got, set_to, FitsAt}

-- a value of a legal type, whose tree has the chunks of a proof
pub record HasKnown (pair_of : PairOf) (format : Format) (t : SszType) (v : SszValue)
    (proof : Multiproof) : Type 0 where
  pub legal : IsLegal format t
  pub fits : Fits t v
  pub ordered : IsOrdered proof
  pub known : AllByRecursion (HasChunk pair_of (tree t v)) (known_of proof)

-- these bytes, with zeros behind them
pub record IsPieceOf (bytes : List ℕ) (piece : Piece) : Type 0 where
  pub bytes_are : piece.bytes.0 ≡ padded bytes
  pub len : piece.len ≡ length bytes

-- what is read is the encoding of the value's part; what is refused as absent is absent in it
abbrev pub IsGot : SszType → SszValue → Path → Result Piece PartialFault → Type 0
IsGot t v path (Ok piece) =
    (u : SszType) × (w : SszValue) × (path_type t path ≡ Some u) × (part t v path ≡ Some w)
    × IsPieceOf (serialize u w) piece
IsGot t v path (Err Absent) = part t v path ≡ None
IsGot t v path (Err _) = ⊤

abbrev pub LawOfGets : Type 0
LawOfGets =
    (pair_of : PairOf) (format : Format) (t : SszType) (v : SszValue) (proof : Multiproof)
    (path : Path) → HasKnown pair_of format t v proof
    → IsGot t v path (got (known_of proof) t path)

-- the root that is calculated is the value's
abbrev pub LawOfRoots : Type 0
LawOfRoots =
    (pair_of : PairOf) (format : Format) (t : SszType) (v : SszValue) (proof : Multiproof)
    → HasKnown pair_of format t v proof
    → calculate_root pair_of (known_of proof) 1 ≡ hash_tree_root pair_of t v

-- what is set is set in the value, and its tree has the chunks that are then known
abbrev pub LawOfSets : Type 0
LawOfSets =
    (pair_of : PairOf) (format : Format) (t : SszType) (v : SszValue) (proof : Multiproof)
    (path : Path) (x : SszValue) (new : Multiproof) → HasKnown pair_of format t v proof
    → FitsAt t path x → set_to proof t path x ≡ Ok new
    → (result : SszValue) × (set_at t v path x ≡ Ok result)
    × HasKnown pair_of format t result new
