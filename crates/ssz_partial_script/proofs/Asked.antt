-- What the answers of a partial tree tell of the path and of the part.
use Rattle.std.proofs.Common.{ℕ, ◌≤◌, ◌≡◌, cond, Bool, true, false, List, length, take, Option, Some, None, is_some, refl, sym, ap, ◌∙◌, subst, arith}
use Rattle.std.specs.Prelude.{IsSome, Result, Ok, Err, ◌&&◌, not, unwrap_or}
use Rattle.std.proofs.lemmas.Bool.{false≢true}
use Rattle.ssz_bytes.specs.Bytes.{IsBytes}
use Rattle.ssz_schema.specs.Types.{SszType, uint, boolean, container, vector, list, bitvector, bitlist, union}
use Rattle.ssz_schema.specs.Sizes.{basic_size, byte_count}
use Rattle.ssz_schema.specs.Paths.{Path, path_type}
use Rattle.ssz_schema.specs.Indices.{whole}
use Rattle.ssz_schema.proofs.CountLemmas.{basic_size-small}
use Rattle.ssz_schema.proofs.WidthLemmas.{byte_count-small}
use Rattle.ssz_value.specs.Faults.{first_fault}
use Rattle.ssz_value.specs.Reading.{value_in}
use Rattle.ssz_value.specs.Laws.{Encodes}
use Rattle.ssz_value.proofs.Agree.{Agrees, length_from_fault, no_faults}
use Rattle.ssz_value.proofs.Basic.{Agrees-boolean, Agrees-uint}
use Rattle.ssz_places.proofs.Packing.{take-padded}
use Rattle.ssz_proof.specs.Calculation.{Known}
use Rattle.ssz_partial.specs.Partial.{FoundPart, ends_mixed_in, found_by, found_from, got, piece_in, piece_of, settable, size_at}
use Rattle.ssz_partial.specs.Laws.{IsPieceOf}
use Rattle.ssz_partial.specs.declared.fault.PartialFault.{PartialFault}
use Rattle.ssz_partial.specs.declared.fault.PartialFault.TheVariants.{Absent, NotThat}
use Rattle.ssz_partial.specs.declared.piece.Piece.{Piece}

-- a part that is read has at most 32 bytes
few_by : (t : SszType) (type : Option SszType) (answer : Result FoundPart PartialFault)
    (piece : Piece)
    → piece_in (unwrap_or (basic_size (unwrap_or type t)) 0) (found_by type true answer) ≡ Ok piece
    → piece.len ≤ 32
few_by t None answer piece e = absurd (cc)
few_by t (Some u) answer piece e = go (basic_size u) refl answer e
  where
    go : (size : Option ℕ) → basic_size u ≡ size → (answer : Result FoundPart PartialFault)
        → piece_in (unwrap_or size 0) (cond (is_some size && true) answer (Err NotThat)) ≡ Ok piece
        → piece.len ≤ 32
    go None is answer same = absurd (cc)
    go (Some z) is (Err fault) same = absurd (cc)
    go (Some z) is (Ok part) same =
        let made : piece_of z part ≡ piece = cc in
        subst (λ (p : Piece). p.len ≤ 32) made (basic_size-small u z is)

pub got_few : (known : Known) (t : SszType) (path : Path) (piece : Piece)
    → got known t path ≡ Ok piece → piece.len ≤ 32
got_few known t path piece e =
    few_by t (path_type t path) (found_from known 1 whole t path) piece e

-- its bytes are the first of its chunk
pub piece_bytes : (bytes : List ℕ) (piece : Piece) → IsPieceOf bytes piece → piece.len ≤ 32
    → take piece.len piece.bytes.0 ≡ bytes
piece_bytes bytes piece is few =
    ap (take piece.len) is.bytes_are ∙ take-padded bytes piece.len (sym is.len) few

-- what is absent to a set is absent to a get
absent_by : (type : Option SszType) (allowed : Bool) (answer : Result FoundPart PartialFault)
    → found_by type allowed answer ≡ Err Absent → found_by type true answer ≡ Err Absent
absent_by None allowed answer e = e
absent_by (Some u) allowed answer e = go (is_some (basic_size u)) allowed e
  where
    go : (basic allowed : Bool) → cond (basic && allowed) answer (Err NotThat) ≡ Err Absent
        → cond (basic && true) answer (Err NotThat) ≡ Err Absent
    go true true same = same
    go true false same = absurd (cc)
    go false allowed same = absurd (cc)

pub absent_to_get : (known : Known) (t : SszType) (path : Path)
    → settable known t path ≡ Err Absent → got known t path ≡ Err Absent
absent_to_get known t path e =
    ap (piece_in (size_at t path))
    (absent_by (path_type t path) (not (ends_mixed_in path)) (found_from known 1 whole t path) e)

-- the basic type at a path
pub record BasicAt (t : SszType) (path : Path) : Type 0 where
  pub type : SszType
  pub leads : path_type t path ≡ Some type
  pub basic : IsSome (basic_size type)

-- where a value is set there is one
basic_by : (t : SszType) (path : Path) (type : Option SszType) (allowed : Bool)
    (answer : Result FoundPart PartialFault) (place : FoundPart) → path_type t path ≡ type
    → found_by type allowed answer ≡ Ok place → BasicAt t path
basic_by t path None allowed answer place is e = absurd (cc)
basic_by t path (Some u) allowed answer place is e = go (is_some (basic_size u)) refl allowed e
  where
    go : (basic : Bool) → is_some (basic_size u) ≡ basic → (allowed : Bool)
        → cond (basic && allowed) answer (Err NotThat) ≡ Ok place → BasicAt t path
    go true some allowed same = record { type = u; leads = is; basic = some }
    go false none allowed same = absurd (cc)

pub set_basic : (known : Known) (t : SszType) (path : Path) (place : FoundPart)
    → settable known t path ≡ Ok place → BasicAt t path
set_basic known t path place e =
    basic_by t path (path_type t path) (not (ends_mixed_in path)) (found_from known 1 whole t path)
    place refl e

-- bytes of a basic type without a fault are the encoding of the value that they are read as
written : (u : SszType) (b : List ℕ) → Agrees u → length b ≤ 32 → IsBytes b
    → first_fault u 0 b ≡ None
    → Encodes u (value_in u b) b
written u b agrees few bytes e =
    let back = agrees.only 0 b (record { bytes = bytes; short = omega (arith, few) }) e in
    record { fits = back.fits; bytes = back.bytes }

pub basic_encodes : (u : SszType) (b : List ℕ) → IsSome (basic_size u) → IsBytes b
    → first_fault u 0 b ≡ None → Encodes u (value_in u b) b
basic_encodes (uint w) b some bytes e =
    let count = length_from_fault (byte_count w) 0 b e in
    written (uint w) b (Agrees-uint w) (omega (arith, count, byte_count-small w)) bytes e
basic_encodes boolean b some bytes e =
    let count = length_from_fault 1 0 b (no_faults _ _ e).0 in
    written boolean b Agrees-boolean (omega (arith, count)) bytes e
basic_encodes (container fs) b some bytes e = absurd (false≢true some)
basic_encodes (vector elem n) b some bytes e = absurd (false≢true some)
basic_encodes (list elem limit) b some bytes e = absurd (false≢true some)
basic_encodes (bitvector n) b some bytes e = absurd (false≢true some)
basic_encodes (bitlist limit) b some bytes e = absurd (false≢true some)
basic_encodes (union os) b some bytes e = absurd (false≢true some)
