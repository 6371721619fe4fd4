-- A tree of which a proof knows some nodes: what of a value can be read and changed in it.
use Rattle.std.specs.Prelude.{ℕ, ◌≡◌, ◌+◌, ◌*◌, ◌/◌, ◌%◌, ◌^◌, ◌==◌, ◌&&◌, not, nat_lt, if◌then◌else◌, Bool, true, false, is_some, IsSome, List, [], ◌∷◌, slice_index, slice_range, Option, Some, None, unwrap_or, Result, Ok, Err}
use Rattle.ssz_schema.specs.declared.path.PathStep.{PathStep}
use Rattle.ssz_schema.specs.declared.path.PathStep.TheVariants.{Index, Option as Chosen}
use Rattle.ssz_schema.specs.Types.{SszType, list, bitlist, union}
use Rattle.ssz_schema.specs.Sizes.{basic_size}
use Rattle.ssz_bytes.specs.Bytes.{le_number}
use Rattle.ssz_schema.specs.Paths.{Path, path_type, step_type}
use Rattle.ssz_schema.specs.Indices.{Spot, whole, byte, bit, step_index, step_spot}
use Rattle.ssz_value.specs.Values.{SszValue, Fits}
use Rattle.ssz_value.specs.Encoding.{serialize}
use Rattle.ssz_value.specs.Trees.{padded}
use Rattle.ssz_places.specs.Spots.{spot_written, bit_written}
use Rattle.ssz_places.specs.EditLaws.{is_mixed_in}
use Rattle.ssz_proof.specs.Calculation.{Known, chunk_at}
use Rattle.ssz_proof.specs.Multiproof.{Multiproof, known_of}
use Rattle.ssz_proof.specs.Changes.{proof_with}
use Rattle.ssz_partial.specs.declared.fault.PartialFault.{PartialFault}
use Rattle.ssz_partial.specs.declared.fault.PartialFault.TheVariants.{BadPath, NotThat, Blind, Absent}
use Rattle.ssz_partial.specs.declared.piece.Piece.{Piece}

-- The nodes that a step needs to be known beside those that it leads through: at k the value has
-- its type t.

-- the length that stands at g is above i
abbrev pub known_length_fault : Option (List ℕ) → ℕ → ℕ → Option PartialFault
known_length_fault None g i = Some (Blind g)
known_length_fault (Some chunk) g i = if nat_lt i (le_number chunk) then None else Some Absent

-- the selector that stands at g is this one
abbrev pub selector_fault : Option (List ℕ) → ℕ → ℕ → Option PartialFault
selector_fault None g selector = Some (Blind g)
selector_fault (Some chunk) g selector = if le_number chunk == selector then None else Some Absent

-- the first refusal of a step
abbrev pub step_fault : Known → ℕ → SszType → PathStep → Option PartialFault
step_fault known k (list elem limit) (Index i) =
    known_length_fault (chunk_at known (2 * k + 1)) (2 * k + 1) i
step_fault known k (bitlist limit) (Index i) =
    known_length_fault (chunk_at known (2 * k + 1)) (2 * k + 1) i
step_fault known k (union os) (Chosen selector) =
    selector_fault (chunk_at known (2 * k + 1)) (2 * k + 1) selector
step_fault known k t step = None

-- Where a part lies: the index of its node, its spot there, and the chunk of that node.
pub record FoundPart : Type 0 where
  pub index : ℕ
  pub spot : Spot
  pub chunk : List ℕ

-- the part whose node has this index, which has to be known
abbrev pub found_at : ℕ → Spot → Option (List ℕ) → Result FoundPart PartialFault
found_at k spot None = Err (Blind k)
found_at k spot (Some chunk) = Ok (record { index = k; spot = spot; chunk = chunk })

-- the fault, if there is one, and else the answer
abbrev pub unless_partial : Option PartialFault → Result FoundPart PartialFault
    → Result FoundPart PartialFault
unless_partial (Some fault) answer = Err fault
unless_partial None answer = answer

-- the part at a path that fits the type; its first needed node that is not known, or that tells
-- that the part is absent
abbrev pub found_from : Known → ℕ → Spot → SszType → Path → Result FoundPart PartialFault
found_from known k spot t [] = found_at k spot (chunk_at known k)
found_from known k spot t (step ∷ path) =
    unless_partial (step_fault known k t step)
    (found_from known (step_index k t step) (step_spot t step)
    (unwrap_or (step_type t step) t) path)

-- A length or a selector is not set alone.

-- whether the last step of a path leads to one, where it is told of the step before the path
abbrev pub ends_from : Bool → Path → Bool
ends_from mixed [] = mixed
ends_from mixed (step ∷ path) = ends_from (is_mixed_in step) path

abbrev pub ends_mixed_in : Path → Bool
ends_mixed_in path = ends_from false path

-- the basic part or bit at a path, by the type of the path
abbrev pub found_by : Option SszType → Bool → Result FoundPart PartialFault
    → Result FoundPart PartialFault
found_by None allowed answer = Err BadPath
found_by (Some u) allowed answer =
    if is_some (basic_size u) && allowed then answer else Err NotThat

-- what is read at a path
abbrev pub found : Known → SszType → Path → Result FoundPart PartialFault
found known t path = found_by (path_type t path) true (found_from known 1 whole t path)

-- what is set at a path
abbrev pub settable : Known → SszType → Path → Result FoundPart PartialFault
settable known t path =
    found_by (path_type t path) (not (ends_mixed_in path)) (found_from known 1 whole t path)

-- the bytes of a part of this size at a spot of a chunk; a bit is a byte
abbrev pub bytes_in : ℕ → Spot → List ℕ → List ℕ
bytes_in size whole chunk = slice_range chunk 0 size
bytes_in size (byte at) chunk = slice_range chunk at (at + size)
bytes_in size (bit at) chunk = slice_index chunk (at / 8) / 2 ^ (at % 8) % 2 ∷ []

-- the part of this size
abbrev pub piece_of : ℕ → FoundPart → Piece
piece_of size part = record {
  bytes = record { 0 = padded (bytes_in size part.spot part.chunk) };
  len = size;
}

abbrev pub piece_in : ℕ → Result FoundPart PartialFault → Result Piece PartialFault
piece_in size (Ok part) = Ok (piece_of size part)
piece_in size (Err fault) = Err fault

-- the type of the part at a path that fits, and its size
abbrev pub type_at : SszType → Path → SszType
type_at t path = unwrap_or (path_type t path) t

abbrev pub size_at : SszType → Path → ℕ
size_at t path = unwrap_or (basic_size (type_at t path)) 0

-- what a get answers: the encoding of the part
abbrev pub got : Known → SszType → Path → Result Piece PartialFault
got known t path = piece_in (size_at t path) (found known t path)

-- a chunk with these bytes at a spot; of a bit they are 01 or 00
abbrev pub chunk_changed : Spot → List ℕ → List ℕ → List ℕ
chunk_changed whole bytes chunk = spot_written chunk 0 bytes
chunk_changed (byte at) bytes chunk = spot_written chunk at bytes
chunk_changed (bit at) bytes chunk = bit_written chunk at (slice_index bytes 0 == 1)

abbrev pub changed_in : Multiproof → List ℕ → Result FoundPart PartialFault
    → Result Multiproof PartialFault
changed_in proof bytes (Ok part) =
    Ok (proof_with proof part.index (record { 0 = chunk_changed part.spot bytes part.chunk }))
changed_in proof bytes (Err fault) = Err fault

-- what a set makes: the proof with the encoding of the value in the place of the part's
abbrev pub set_to : Multiproof → SszType → Path → SszValue → Result Multiproof PartialFault
set_to proof t path v =
    changed_in proof (serialize (type_at t path) v) (settable (known_of proof) t path)

-- What a partial tree is seen as: the type of the value, by its number, and what is known.
pub record Knowledge : Type 0 where
  pub id : ℕ
  pub proof : Multiproof

-- the new one has the proof that was made; a refusal changes nothing
abbrev pub SetsTo : Result Multiproof PartialFault → Knowledge → Knowledge
    → Result Unit PartialFault → Type 0
SetsTo made old new (Ok _) = (new.id ≡ old.id) × (made ≡ Ok new.proof)
SetsTo made old new (Err fault) = (new ≡ old) × (made ≡ Err fault)

-- where the part at the path is basic, the value is one of its type
abbrev pub FitsAt : SszType → Path → SszValue → Type 0
FitsAt t path v = (u : SszType) → path_type t path ≡ Some u → IsSome (basic_size u) → Fits u v
