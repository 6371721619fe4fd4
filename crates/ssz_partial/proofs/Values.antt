-- What is read of a partial tree, by the value whose tree it is a part of.
use Rattle.std.proofs.Common.{◌≡◌, ℕ, ◌+◌, ◌-◌, ◌/◌, ◌%◌, ◌^◌, Bool, true, false, cond, ◌&&◌, List, [], ◌∷◌, length, take, drop, slice_range, get_or, Option, Some, None, is_some, Result, Ok, Err, refl, sym, ap, ◌∙◌, subst, arith, length-drop, length-take-le}
use Rattle.std.specs.Prelude.{unwrap_or}
use Rattle.std.proofs.lemmas.Bool.{false≢true}
use Rattle.std.proofs.lemmas.Option.{same_Some}
use Rattle.ssz_chunk.specs.Tree.{Tree, leaf, pair, root}
use Rattle.ssz_chunk.specs.Index.{at}
use Rattle.ssz_chunk.proofs.Digits.{way-one}
use Rattle.ssz_chunk.specs.Index.{at_way}
use Rattle.ssz_schema.specs.format.Format.{Format}
use Rattle.ssz_schema.specs.Types.{SszType, boolean}
use Rattle.ssz_schema.specs.Sizes.{basic_size}
use Rattle.ssz_schema.specs.Paths.{Path, path_type, step_type}
use Rattle.ssz_schema.proofs.PathLemmas.{and_then_parts}
use Rattle.ssz_schema.specs.Indices.{Spot, whole, byte, bit, spot_from, step_spot}
use Rattle.ssz_value.specs.Values.{SszValue, truth}
use Rattle.ssz_value.specs.Parts.{part}
use Rattle.ssz_value.specs.Encoding.{serialize}
use Rattle.ssz_value.specs.Trees.{tree, padded}
use Rattle.ssz_places.specs.Spots.{HasPart, is_bit, offset_of}
use Rattle.ssz_places.specs.PlaceLaws.{IsLegalValue, IsPart, HasBasicPart}
use Rattle.ssz_places.proofs.Theorems.{law_of_places}
use Rattle.ssz_places.proofs.BasicParts.{law_of_basic_parts}
use Rattle.ssz_proof.specs.Calculation.{Known, PairOf}
use Rattle.ssz_proof.specs.Multiproof.{Multiproof, known_of}
use Rattle.ssz_proof.proofs.Calculating.{law_of_proofs}
use Rattle.ssz_partial.specs.declared.fault.PartialFault.{PartialFault}
use Rattle.ssz_partial.specs.declared.fault.PartialFault.TheVariants.{BadPath, NotThat, Blind, Absent}
use Rattle.ssz_partial.specs.declared.piece.Piece.{Piece}
use Rattle.ssz_partial.specs.Partial.{got, FoundPart, found, found_by, found_from, piece_in, piece_of, bytes_in, size_at}
use Rattle.ssz_partial.specs.Spots.{SpotSuits}
use Rattle.ssz_partial.proofs.Suiting.{step_suits}
use Rattle.ssz_partial.specs.Laws.{HasKnown, IsGot, LawOfGets, LawOfRoots}
use Rattle.ssz_partial.proofs.Reading.{AtNode, IsRead, IsNodeRoot, known_node, reads}

-- the whole value is at the root
pub start : (pair_of : PairOf) (format : Format) (t : SszType) (v : SszValue) (proof : Multiproof)
    → HasKnown pair_of format t v proof → AtNode format (tree t v) 1 whole t v
start pair_of format t v proof has = record {
  positive = omega arith;
  node = tree t v;
  found = ap (at_way (tree t v)) way-one;
  has = refl;
  parted = λ step x fits. refl;
  legal = has.legal;
  fits = has.fits;
}

-- what an answer that is some comes from
pub record Asked (known : Known) (t : SszType) (path : Path) (f : FoundPart) : Type 0 where
  pub type : SszType
  pub size : ℕ
  pub type_is : path_type t path ≡ Some type
  pub size_is : basic_size type ≡ Some size
  pub found_is : found_from known 1 whole t path ≡ Ok f

asked_by : (known : Known) (t : SszType) (path : Path) (f : FoundPart) (type : Option SszType)
    → path_type t path ≡ type → found_by type true (found_from known 1 whole t path) ≡ Ok f
    → Asked known t path f
asked_by known t path f None is e = cc
asked_by known t path f (Some u) is e = go (basic_size u) refl e
  where
    go : (size : Option ℕ) → basic_size u ≡ size
        → cond (is_some size && true) (found_from known 1 whole t path) (Err NotThat) ≡ Ok f
        → Asked known t path f
    go None none e = cc
    go (Some z) some e =
        record { type = u; size = z; type_is = is; size_is = some; found_is = e }

absent_by : (known : Known) (t : SszType) (path : Path) (type : Option SszType)
    → path_type t path ≡ type → found_by type true (found_from known 1 whole t path) ≡ Err Absent
    → (u : SszType) × (path_type t path ≡ Some u) × (found_from known 1 whole t path ≡ Err Absent)
absent_by known t path None is e = cc
absent_by known t path (Some u) is e = go (is_some (basic_size u)) e
  where
    go : (basic : Bool)
        → cond (basic && true) (found_from known 1 whole t path) (Err NotThat) ≡ Err Absent
        → (u : SszType) × (path_type t path ≡ Some u)
        × (found_from known 1 whole t path ≡ Err Absent)
    go true e = (u, is, e)
    go false e = cc

-- the bytes at a spot of the chunk are the part's encoding
same_whole : (chunk : List ℕ) (size : ℕ)
    → slice_range chunk 0 size ≡ slice_range chunk 0 (0 + size)
same_whole chunk size = let sum : size ≡ 0 + size = omega arith in ap (slice_range chunk 0) sum

basic_bytes : (s : Spot) (u : SszType) (w : SszValue) (node : Tree) (size : ℕ)
    → is_bit s ≡ false → (basic : HasBasicPart s u w node size)
    → bytes_in size s basic.chunk ≡ serialize u w
basic_bytes whole u w node size plain basic = same_whole basic.chunk size ∙ basic.bytes
basic_bytes (byte at) u w node size plain basic = basic.bytes
basic_bytes (bit at) u w node size plain basic = absurd (false≢true (sym plain))

length-basic : (s : Spot) (u : SszType) (w : SszValue) (node : Tree) (size : ℕ)
    → (basic : HasBasicPart s u w node size) → size ≡ length (serialize u w)
length-basic s u w node size basic =
    let width : offset_of s + size - offset_of s ≡ size = omega arith in
    sym (sym (ap length basic.bytes)
    ∙ ap (λ n. length (take n (drop (offset_of s) basic.chunk))) width
    ∙ length-take-le size (drop (offset_of s) basic.chunk)
    (omega (arith, basic.within, length-drop (offset_of s) basic.chunk)))

-- a bit of a leaf
bit_bytes : (place : ℕ) (w : SszValue) (node : Tree) (chunk : List ℕ) (pair_of : PairOf)
    → HasPart (bit place) boolean w node → root pair_of node ≡ chunk
    → get_or chunk (place / 8) 0 / 2 ^ (place % 8) % 2 ∷ [] ≡ serialize boolean w
bit_bytes place (truth b) (leaf c) chunk pair_of has is =
    ap (λ bytes. get_or bytes (place / 8) 0 / 2 ^ (place % 8) % 2 ∷ []) (sym is)
    ∙ ap (λ n. n ∷ []) has
bit_bytes place (truth b) (pair l r) chunk pair_of has is = absurd has
bit_bytes place _ _ chunk pair_of has is = absurd has

-- the spot of a path suits its type
pub suits_along : (path : Path) (s r : Spot) (u x : SszType) → SpotSuits u s
    → path_type u path ≡ Some x
    → spot_from s u path ≡ Some r → SpotSuits x r
suits_along [] s r u x suits type where_is =
    subst (SpotSuits x) (same_Some s r where_is)
    (subst (λ v. SpotSuits v s) (same_Some u x type) suits)
suits_along (step ∷ path) s r u x suits type where_is =
    let first = and_then_parts (λ p. path_type p path) (step_type u step) x type in
    let spots = and_then_parts (λ p. spot_from (step_spot u step) p path) (step_type u step) r
    where_is in
    let same : spots.0 ≡ first.0 = same_Some spots.0 first.0 (sym spots.1 ∙ first.1) in
    suits_along path (step_spot u step) r first.0 x (step_suits u first.0 step first.1) first.2
    (ap (λ p. spot_from (step_spot u step) p path) (sym same) ∙ spots.2)

-- what is at a spot of the chunk, and its length
record IsThere (u : SszType) (w : SszValue) (size : ℕ) (bytes : List ℕ) : Type 0 where
  pub bytes_are : bytes ≡ serialize u w
  pub size_is : size ≡ length (serialize u w)

there_whole : (u : SszType) (w : SszValue) (size : ℕ) (s : Spot) (node : Tree) (chunk : List ℕ)
    (pair_of : PairOf) → is_bit s ≡ false → HasBasicPart s u w node size
    → root pair_of node ≡ chunk → IsThere u w size (bytes_in size s chunk)
there_whole u w size s node chunk pair_of plain basic is =
    let same : basic.chunk ≡ chunk = ap (root pair_of) (sym basic.is) ∙ is in
    record {
      bytes_are = ap (bytes_in size s) (sym same) ∙ basic_bytes s u w node size plain basic;
      size_is = length-basic s u w node size basic;
    }

one_size : (u : SszType) (size : ℕ) → u ≡ boolean → basic_size u ≡ Some size → size ≡ 1
one_size u size is e = same_Some size 1 (sym e ∙ ap basic_size is)

there_bit : (place : ℕ) (u : SszType) (w : SszValue) (size : ℕ) (node : Tree) (chunk : List ℕ)
    (pair_of : PairOf) → u ≡ boolean → basic_size u ≡ Some size → HasPart (bit place) u w node
    → root pair_of node ≡ chunk → IsThere u w size (bytes_in size (bit place) chunk)
there_bit place u w size node chunk pair_of flag basic has is =
    let bytes = bit_bytes place w node chunk pair_of
    (subst (λ t. HasPart (bit place) t w node) flag has) is in
    record {
      bytes_are = bytes ∙ ap (λ t. serialize t w) (sym flag);
      size_is = one_size u size flag basic
          ∙ ap (λ bs. length bs) (bytes ∙ ap (λ t. serialize t w) (sym flag));
    }

there : (pair_of : PairOf) (format : Format) (t : SszType) (v : SszValue) (path : Path)
    (u : SszType) (w : SszValue) (g : ℕ) (s : Spot) (chunk : List ℕ) (size : ℕ)
    → IsLegalValue format t v → IsPart t v path u w g s
    → IsNodeRoot pair_of (tree t v) g chunk → basic_size u ≡ Some size
    → IsThere u w size (bytes_in size s chunk)
there pair_of format t v path u w g (bit place) chunk size value is at basic =
    let found = law_of_places format t v path u w g (bit place) value is in
    let same : found.0 ≡ at.node = same_Some found.0 at.node (sym found.1.found ∙ at.found) in
    let suits = suits_along path whole (bit place) t u tt is.type_at is.spot in
    there_bit place u w size at.node chunk pair_of suits.1 basic
    (subst (HasPart (bit place) u w) same found.1.has) at.root
there pair_of format t v path u w g whole chunk size value is at basic =
    there_whole u w size whole at.node chunk pair_of refl
    (law_of_basic_parts format t v path u w g whole at.node size value is at.found basic refl)
    at.root
there pair_of format t v path u w g (byte place) chunk size value is at basic =
    there_whole u w size (byte place) at.node chunk pair_of refl
    (law_of_basic_parts format t v path u w g (byte place) at.node size value is at.found basic
    refl)
    at.root

-- what was found of a value
pub record IsFoundOf (pair_of : PairOf) (format : Format) (t : SszType) (v : SszValue)
    (path : Path) (u : SszType) (f : FoundPart) : Type 0 where
  pub value : SszValue
  pub is : IsPart t v path u value f.index f.spot
  pub at : IsNodeRoot pair_of (tree t v) f.index f.chunk

pub found_of : (pair_of : PairOf) (format : Format) (t : SszType) (v : SszValue)
    (proof : Multiproof) (path : Path) (u : SszType) (f : FoundPart)
    → HasKnown pair_of format t v proof → path_type t path ≡ Some u
    → found_from (known_of proof) 1 whole t path ≡ Ok f
    → IsFoundOf pair_of format t v path u f
found_of pair_of format t v proof path u f has type is =
    let read : IsRead format (tree t v) (known_of proof) 1 whole t v path u (Ok f) =
    subst (IsRead format (tree t v) (known_of proof) 1 whole t v path u) is
    (reads pair_of format (tree t v) (known_of proof) path 1 whole t v u has.known
    (start pair_of format t v proof has) type) in
    record {
      value = read.0;
      is = record { type_at = type; value = read.1; index = read.2; spot = read.3 };
      at = known_node pair_of (tree t v) (known_of proof) f.index f.chunk has.known read.4;
    }

ok_piece : (size : ℕ) (r : Result FoundPart PartialFault) (piece : Piece)
    → piece_in size r ≡ Ok piece
    → (f : FoundPart) × (r ≡ Ok f) × (piece_of size f ≡ piece)
ok_piece size (Ok f) piece e =
    let same : piece_of size f ≡ piece = cc in (f, refl, same)
ok_piece size (Err fault) piece e = cc

err_piece : (size : ℕ) (r : Result FoundPart PartialFault) → piece_in size r ≡ Err Absent
    → r ≡ Err Absent
err_piece size (Ok f) e = cc
err_piece size (Err Absent) e = refl
err_piece size (Err BadPath) e = cc
err_piece size (Err NotThat) e = cc
err_piece size (Err (Blind g)) e = cc

piece_of_part : (pair_of : PairOf) (format : Format) (t : SszType) (v : SszValue)
    (proof : Multiproof) (path : Path) (piece : Piece) → HasKnown pair_of format t v proof
    → got (known_of proof) t path ≡ Ok piece → IsGot t v path (Ok piece)
piece_of_part pair_of format t v proof path piece has e =
    let known = known_of proof in
    let made = ok_piece (size_at t path) (found known t path) piece e in
    let asked = asked_by known t path made.0 (path_type t path) refl made.1 in
    let of = found_of pair_of format t v proof path asked.type made.0 has asked.type_is
    asked.found_is in
    let size : size_at t path ≡ asked.size =
    ap (λ o. unwrap_or (basic_size (unwrap_or o t)) 0) asked.type_is
    ∙ ap (λ o. unwrap_or o 0) asked.size_is in
    let is = there pair_of format t v path asked.type of.value made.0.index made.0.spot
    made.0.chunk asked.size (record { legal = has.legal; fits = has.fits }) of.is of.at
    asked.size_is in
    let whole_piece : piece_of asked.size made.0 ≡ piece =
    ap (λ n. piece_of n made.0) (sym size) ∙ made.2 in (
      asked.type,
      of.value,
      asked.type_is,
      of.is.value,
      record {
        bytes_are = ap (λ (p : Piece). p.bytes.0) (sym whole_piece) ∙ ap padded is.bytes_are;
        len = ap (λ (p : Piece). p.len) (sym whole_piece) ∙ is.size_is;
      },
    )

absent_part : (pair_of : PairOf) (format : Format) (t : SszType) (v : SszValue)
    (proof : Multiproof) (path : Path) → HasKnown pair_of format t v proof
    → got (known_of proof) t path ≡ Err Absent → part t v path ≡ None
absent_part pair_of format t v proof path has e =
    let known = known_of proof in
    let none = absent_by known t path (path_type t path) refl
    (err_piece (size_at t path) (found known t path) e) in
    subst (IsRead format (tree t v) known 1 whole t v path none.0) none.2
    (reads pair_of format (tree t v) known path 1 whole t v none.0 has.known
    (start pair_of format t v proof has) none.1)

got_of : (pair_of : PairOf) (format : Format) (t : SszType) (v : SszValue) (proof : Multiproof)
    (path : Path) (made : Result Piece PartialFault) → HasKnown pair_of format t v proof
    → got (known_of proof) t path ≡ made → IsGot t v path made
got_of pair_of format t v proof path (Ok piece) has e =
    piece_of_part pair_of format t v proof path piece has e
got_of pair_of format t v proof path (Err Absent) has e =
    absent_part pair_of format t v proof path has e
got_of pair_of format t v proof path (Err _) has e = tt

pub gets_are_parts : LawOfGets
gets_are_parts pair_of format t v proof path has =
    got_of pair_of format t v proof path (got (known_of proof) t path) has refl

pub roots_are_roots : LawOfRoots
roots_are_roots pair_of format t v proof has =
    law_of_proofs pair_of (tree t v) proof.leaves proof.nodes has.ordered.is.some
    has.ordered.is.complete has.known
