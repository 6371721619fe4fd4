-- What two multiproofs of the same places come to, as a search down from the root. What is so of
-- each answer stands in `Clashes`.
use Rattle.std.specs.Prelude.{ℕ, zero, suc, ◌+◌, ◌*◌, ◌&&◌, ◌||◌, not, nat_eq, bytes_eq, if◌then◌else◌, Bool, List, sum_by, Option, Some, None, Result, Ok, Err}
use Rattle.std.specs.List.{list_any}
use Rattle.std.specs.Option.{option_or}
use Rattle.ssz_chunk.specs.Index.{levels}
use Rattle.ssz_chunk.specs.declared.Chunk.{Chunk}
use Rattle.ssz_gindex.specs.Helpers.{is_within}
use Rattle.ssz_gindex.specs.Laws.{contains}
use Rattle.ssz_proof.specs.Calculation.{PairOf, calculate_root, indices_of}
use Rattle.ssz_proof.specs.Multiproof.{Multiproof, known_of}
use Rattle.ssz_clash.specs.Clashes.{root_of, pair_at}
use Rattle.ssz_clash.specs.declared.finding.Clash.{Clash}
use Rattle.ssz_clash.specs.declared.finding.Clash.TheVariants.{Same, Unlike}
use Rattle.ssz_clash.specs.declared.fault.ClashFault.{ClashFault}
use Rattle.ssz_clash.specs.declared.fault.ClashFault.TheVariants.{OtherIndices, OtherRoot}

-- some index is none of the others
abbrev pub lacks_one : List ℕ → List ℕ → Bool
lacks_one others indices = list_any (λ g. not (contains others g)) indices

-- an index has a leaf of the one and none of the other
abbrev pub places_differ : Multiproof → Multiproof → Bool
places_differ one other =
    lacks_one (indices_of other.leaves) (indices_of one.leaves)
    || lacks_one (indices_of one.leaves) (indices_of other.leaves)

-- the chunks of an index, calculated, are not the same
abbrev pub differ_at : PairOf → Multiproof → Multiproof → ℕ → Bool
differ_at pair_of one other g =
    not (bytes_eq (calculate_root pair_of (known_of one) g)
    (calculate_root pair_of (known_of other) g))

-- so it is at a leaf
abbrev pub leaves_differ : PairOf → Multiproof → Multiproof → Bool
leaves_differ pair_of one other = list_any (differ_at pair_of one other) (indices_of one.leaves)

-- the index is a proper ancestor of one of these
abbrev pub is_above : List ℕ → ℕ → Bool
is_above indices g = list_any (λ leaf. is_within g leaf && not (nat_eq g leaf)) indices

-- the index is above a leaf, the chunks there are the same, and those of a child are not
abbrev pub clashes_at : PairOf → Multiproof → Multiproof → ℕ → Bool
clashes_at pair_of one other g =
    is_above (indices_of one.leaves) g && not (differ_at pair_of one other g)
    && (differ_at pair_of one other (2 * g) || differ_at pair_of one other (2 * g + 1))

-- the first clash in preorder at an index or below it, where that is searched so many levels down
unfoldable pub first_clash : PairOf → Multiproof → Multiproof → ℕ → ℕ → Option ℕ
first_clash pair_of one other zero g = None
first_clash pair_of one other (suc down) g =
    if clashes_at pair_of one other g then Some g
    else option_or (first_clash pair_of one other down (2 * g))
    (first_clash pair_of one other down (2 * g + 1))

-- no leaf is deeper than all leaves have levels together
abbrev pub clash_below_root : PairOf → Multiproof → Multiproof → Option ℕ
clash_below_root pair_of one other =
    first_clash pair_of one other (sum_by levels (indices_of one.leaves)) 1

abbrev pub chunk_of_bytes : List ℕ → Chunk
chunk_of_bytes bytes = record { 0 = bytes }

abbrev pub chunks_from : List ℕ × List ℕ → Chunk × Chunk
chunks_from pair = (chunk_of_bytes pair.0, chunk_of_bytes pair.1)

-- a clash with the pairs below it; unlike leaves of multiproofs always have one
abbrev pub clash_shown : PairOf → Multiproof → Multiproof → Option ℕ → Clash
clash_shown pair_of one other None = Same
clash_shown pair_of one other (Some g) =
    Unlike g (chunks_from (pair_at pair_of one g)) (chunks_from (pair_at pair_of other g))

-- what two multiproofs come to: the places are compared first, then the roots, then the leaves
abbrev pub compared : PairOf → Multiproof → Multiproof → Result Clash ClashFault
compared pair_of one other =
    if places_differ one other then Err OtherIndices
    else if differ_at pair_of one other 1
    then Err (OtherRoot (chunk_of_bytes (root_of pair_of one))
    (chunk_of_bytes (root_of pair_of other)))
    else if leaves_differ pair_of one other
    then Ok (clash_shown pair_of one other (clash_below_root pair_of one other))
    else Ok Same
