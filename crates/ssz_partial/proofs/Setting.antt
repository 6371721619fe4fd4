-- What is set in a partial tree is set in the value whose tree it is a part of.
use Rattle.std.proofs.Common.{◌≡◌, ℕ, Bool, true, false, not, cond, eqb, ◌&&◌, ◌||◌, List, [], ◌∷◌, Option, Some, None, is_some, Result, Ok, Err, refl, sym, ap, ap₂, ◌∙◌, subst}
use Rattle.std.specs.Prelude.{unwrap_or}
use Rattle.std.specs.List.{AllByRecursion}
use Rattle.std.proofs.lemmas.Bool.{false≢true}
use Rattle.std.proofs.lemmas.List.{map-append}
use Rattle.std.proofs.lemmas.Option.{none-some, same_Some}
use Rattle.ssz_chunk.specs.declared.Chunk.{Chunk}
use Rattle.ssz_chunk.specs.Tree.{Tree, leaf, pair, root}
use Rattle.ssz_chunk.specs.Index.{at, put}
use Rattle.ssz_schema.specs.format.Format.{Format}
use Rattle.ssz_schema.specs.declared.path.PathStep.{PathStep}
use Rattle.ssz_schema.specs.declared.path.PathStep.TheVariants.{Field, Index, Len, Selector, Option as Chosen}
use Rattle.ssz_schema.specs.Types.{SszType, boolean, list, bitlist, union}
use Rattle.ssz_schema.specs.Sizes.{basic_size}
use Rattle.ssz_bytes.specs.Bytes.{bit_value}
use Rattle.ssz_schema.specs.Paths.{Path, path_type, step_type}
use Rattle.ssz_schema.specs.Indices.{Spot, whole, byte, bit}
use Rattle.ssz_schema.proofs.PathLemmas.{and_then_parts}
use Rattle.ssz_value.specs.Values.{SszValue, Fits, truth}
use Rattle.ssz_value.specs.Encoding.{serialize}
use Rattle.ssz_value.specs.Trees.{tree}
use Rattle.ssz_places.specs.Spots.{HasPart, with_part, bit_written, is_bit}
use Rattle.ssz_places.specs.PlaceLaws.{IsLegalValue, IsPart, HasBasicPart}
use Rattle.ssz_places.specs.EditLaws.{is_mixed_in, is_changeable}
use Rattle.ssz_places.proofs.Theorems.{law_of_places, law_of_edits}
use Rattle.ssz_places.proofs.BasicParts.{law_of_basic_parts}
use Rattle.ssz_gindex.specs.Laws.{contains}
use Rattle.ssz_proof.specs.declared.entry.Entry.{Entry}
use Rattle.ssz_proof.specs.Calculation.{Known, PairOf, chunk_at, indices_of}
use Rattle.ssz_proof.specs.Multiproof.{Multiproof, known_of}
use Rattle.ssz_proof.specs.Laws.{HasChunk}
use Rattle.ssz_proof.specs.Changes.{proof_with}
use Rattle.ssz_proof.proofs.Changed.{ordered-with, with_chunk-append}
use Rattle.ssz_partial.specs.declared.fault.PartialFault.{PartialFault}
use Rattle.ssz_partial.specs.declared.fault.PartialFault.TheVariants.{NotThat}
use Rattle.ssz_partial.specs.Partial.{FoundPart, found_by, found_from, settable, ends_from, ends_mixed_in, chunk_changed, changed_in, type_at}
use Rattle.ssz_partial.specs.Laws.{HasKnown, LawOfSets}
use Rattle.ssz_partial.proofs.Reading.{IsRead, IsNodeRoot, reads}
use Rattle.ssz_partial.proofs.Values.{start, found_of, suits_along}
use Rattle.ssz_partial.proofs.Beside.{AllBeside, edit_known, index_positive}
use Rattle.ssz_partial.proofs.Flat.{all_beside}

-- a path that does not end with a length or a selector has none

-- no step goes on from a length or a selector
ends_there : (t u : SszType) (step : PathStep) → is_mixed_in step ≡ true → step_type t step ≡ Some u
    → (next : PathStep) (x : SszType) → step_type u next ≡ Some x → ⊥
ends_there (list elem n) u Len mixed fits next x further =
    none-some x (ap (λ v. step_type v next) (same_Some _ u fits) ∙ further)
ends_there (bitlist n) u Len mixed fits next x further =
    none-some x (ap (λ v. step_type v next) (same_Some _ u fits) ∙ further)
ends_there (union os) u Selector mixed fits next x further =
    none-some x (ap (λ v. step_type v next) (same_Some _ u fits) ∙ further)
ends_there t u (Field name) mixed fits next x further = false≢true mixed
ends_there t u (Index i) mixed fits next x further = false≢true mixed
ends_there t u (Chosen k) mixed fits next x further = false≢true mixed
ends_there _ u _ mixed fits next x further = none-some u fits

not_mixed : (t u v : SszType) (step : PathStep) (path : Path) → step_type t step ≡ Some u
    → path_type u path ≡ Some v → ends_from (is_mixed_in step) path ≡ false
    → is_mixed_in step ≡ false
not_mixed t u v step [] fits type ends = ends
not_mixed t u v step (next ∷ path) fits type ends =
    let first = and_then_parts (λ p. path_type p path) (step_type u next) v type in
    go (is_mixed_in step) refl first.0 first.1
  where
    go : (mixed : Bool) → is_mixed_in step ≡ mixed → (x : SszType) → step_type u next ≡ Some x
        → mixed ≡ false
    go true is x further = absurd (ends_there t u step is fits next x further)
    go false is x further = refl

changeable : (path : Path) (t v : SszType) (mixed : Bool) → path_type t path ≡ Some v
    → ends_from mixed path ≡ false → is_changeable path ≡ true
changeable [] t v mixed type ends = refl
changeable (step ∷ path) t v mixed type ends =
    let first = and_then_parts (λ p. path_type p path) (step_type t step) v type in
    let free = not_mixed t first.0 v step path first.1 first.2 ends in
    ap (λ b. not b && is_changeable path) free
    ∙ changeable path first.0 v (is_mixed_in step) first.2 ends

-- what a set that was made comes from
record Asked (known : Known) (t : SszType) (path : Path) (f : FoundPart) : Type 0 where
  pub type : SszType
  pub size : ℕ
  pub type_is : path_type t path ≡ Some type
  pub size_is : basic_size type ≡ Some size
  pub ends : ends_mixed_in path ≡ false
  pub found_is : found_from known 1 whole t path ≡ Ok f

asked_by : (known : Known) (t : SszType) (path : Path) (f : FoundPart) (type : Option SszType)
    → path_type t path ≡ type
    → found_by type (not (ends_mixed_in path)) (found_from known 1 whole t path) ≡ Ok f
    → Asked known t path f
asked_by known t path f None is e = cc
asked_by known t path f (Some u) is e = go (basic_size u) refl (ends_mixed_in path) refl e
  where
    go : (size : Option ℕ) → basic_size u ≡ size → (mixed : Bool) → ends_mixed_in path ≡ mixed
        → cond (is_some size && not mixed) (found_from known 1 whole t path) (Err NotThat) ≡ Ok f
        → Asked known t path f
    go None none mixed ends e = cc
    go (Some z) some true ends e = cc
    go (Some z) some false ends e = record {
      type = u;
      size = z;
      type_is = is;
      size_is = some;
      ends = ends;
      found_is = e;
    }

ok_changed : (proof new : Multiproof) (bytes : List ℕ) (r : Result FoundPart PartialFault)
    → changed_in proof bytes r ≡ Ok new
    → (f : FoundPart) × (r ≡ Ok f)
    × (proof_with proof f.index (record { 0 = chunk_changed f.spot bytes f.chunk }) ≡ new)
ok_changed proof new bytes (Ok f) e =
    let same : proof_with proof f.index (record { 0 = chunk_changed f.spot bytes f.chunk }) ≡ new =
    cc in (f, refl, same)
ok_changed proof new bytes (Err fault) e = cc

-- the node with the new part is the leaf with its bytes

same_flag : (b : Bool) → eqb (bit_value b) 1 ≡ b
same_flag true = refl
same_flag false = refl

bit_leaf : (place : ℕ) (w x : SszValue) (node : Tree) → HasPart (bit place) boolean w node
    → Fits boolean x → (pair_of : PairOf) (chunk : List ℕ) → root pair_of node ≡ chunk
    → with_part (bit place) boolean x node
    ≡ leaf (chunk_changed (bit place) (serialize boolean x) chunk)
bit_leaf place (truth a) (truth b) (leaf c) has fits pair_of chunk is =
    ap₂ (λ bytes flag. leaf (bit_written bytes place flag)) is (sym (same_flag b))
bit_leaf place (truth a) (truth b) (pair l r) has fits pair_of chunk is = absurd has
bit_leaf place (truth a) _ node has fits pair_of chunk is = absurd fits
bit_leaf place _ x node has fits pair_of chunk is = absurd has

basic_leaf : (s : Spot) (u : SszType) (w x : SszValue) (node : Tree) (size : ℕ)
    → is_bit s ≡ false → (basic : HasBasicPart s u w node size) → Fits u x
    → with_part s u x node ≡ leaf (chunk_changed s (serialize u x) basic.chunk)
basic_leaf whole u w x node size plain basic fits = basic.changed x fits
basic_leaf (byte place) u w x node size plain basic fits = basic.changed x fits
basic_leaf (bit place) u w x node size plain basic fits = absurd (false≢true (sym plain))

same_leaf : (s : Spot) (u : SszType) (w x : SszValue) (node : Tree) (size : ℕ) (pair_of : PairOf)
    (chunk : List ℕ) → is_bit s ≡ false → HasBasicPart s u w node size → Fits u x
    → root pair_of node ≡ chunk
    → with_part s u x node ≡ leaf (chunk_changed s (serialize u x) chunk)
same_leaf s u w x node size pair_of chunk plain basic fits is =
    basic_leaf s u w x node size plain basic fits
    ∙ ap (λ bytes. leaf (chunk_changed s (serialize u x) bytes))
    (ap (root pair_of) (sym basic.is) ∙ is)

new_leaf : (pair_of : PairOf) (format : Format) (t : SszType) (v : SszValue) (path : Path)
    (u : SszType) (w x : SszValue) (g : ℕ) (s : Spot) (chunk : List ℕ) (size : ℕ)
    → IsLegalValue format t v → IsPart t v path u w g s
    → (at : IsNodeRoot pair_of (tree t v) g chunk) → basic_size u ≡ Some size → Fits u x
    → with_part s u x at.node ≡ leaf (chunk_changed s (serialize u x) chunk)
new_leaf pair_of format t v path u w x g (bit place) chunk size value is at basic fits =
    let found = law_of_places format t v path u w g (bit place) value is in
    let same : found.0 ≡ at.node = same_Some found.0 at.node (sym found.1.found ∙ at.found) in
    let suits = suits_along path whole (bit place) t u tt is.type_at is.spot in
    ap (λ z. with_part (bit place) z x at.node) suits.1
    ∙ bit_leaf place w x at.node
    (subst (λ z. HasPart (bit place) z w at.node) suits.1
    (subst (HasPart (bit place) u w) same found.1.has)) (subst (λ z. Fits z x) suits.1 fits)
    pair_of chunk at.root
    ∙ ap (λ z. leaf (chunk_changed (bit place) (serialize z x) chunk)) (sym suits.1)
new_leaf pair_of format t v path u w x g whole chunk size value is at basic fits =
    same_leaf whole u w x at.node size pair_of chunk refl
    (law_of_basic_parts format t v path u w g whole at.node size value is at.found basic refl) fits
    at.root
new_leaf pair_of format t v path u w x g (byte place) chunk size value is at basic fits =
    same_leaf (byte place) u w x at.node size pair_of chunk refl
    (law_of_basic_parts format t v path u w g (byte place) at.node size value is at.found basic
    refl) fits at.root

-- a chunk that is known stands at one of the indices
is_listed : (known : Known) (g : ℕ) (chunk : List ℕ) → chunk_at known g ≡ Some chunk
    → contains (indices_of known) g ≡ true
is_listed [] g chunk e = absurd (none-some chunk e)
is_listed (entry ∷ known) g chunk e = go (eqb entry.index g) (is_listed known g chunk) e
  where
    go : (here : Bool) → (chunk_at known g ≡ Some chunk → contains (indices_of known) g ≡ true)
        → cond here (Some entry.chunk.0) (chunk_at known g) ≡ Some chunk
        → (here || contains (indices_of known) g) ≡ true
    go true rest e = refl
    go false rest e = rest e

known_there : (pair_of : PairOf) (format : Format) (t : SszType) (v : SszValue)
    (proof : Multiproof) (path : Path) (u : SszType) (f : FoundPart)
    → HasKnown pair_of format t v proof → path_type t path ≡ Some u
    → found_from (known_of proof) 1 whole t path ≡ Ok f
    → chunk_at (known_of proof) f.index ≡ Some f.chunk
known_there pair_of format t v proof path u f has type is =
    let read : IsRead format (tree t v) (known_of proof) 1 whole t v path u (Ok f) =
    subst (IsRead format (tree t v) (known_of proof) 1 whole t v path u) is
    (reads pair_of format (tree t v) (known_of proof) path 1 whole t v u has.known
    (start pair_of format t v proof has) type) in
    read.4

pub sets_are_edits : LawOfSets
sets_are_edits pair_of format t v proof path x new has fits e =
    let known = known_of proof in
    let made = ok_changed proof new (serialize (type_at t path) x) (settable known t path) e in
    let f : FoundPart = made.0 in
    let asked = asked_by known t path f (path_type t path) refl made.1 in
    let u : SszType = asked.type in
    let of = found_of pair_of format t v proof path u f has asked.type_is asked.found_is in
    let fit : Fits u x = fits u asked.type_is (ap is_some asked.size_is) in
    let value : IsLegalValue format t v = record { legal = has.legal; fits = has.fits } in
    let edited = law_of_edits format t v path u of.value x f.index f.spot of.at.node (λ _ _. Ok x)
    value of.is of.at.found (changeable path t u false asked.type_is asked.ends) refl fit in
    let type : type_at t path ≡ u = ap (λ o. unwrap_or o t) asked.type_is in
    let bytes : List ℕ = chunk_changed f.spot (serialize (type_at t path) x) f.chunk in
    let chunk : Chunk = record { 0 = bytes } in
    let node : with_part f.spot u x of.at.node ≡ leaf bytes =
    new_leaf pair_of format t v path u of.value x f.index f.spot f.chunk asked.size value of.is
    of.at asked.size_is fit
    ∙ ap (λ z. leaf (chunk_changed f.spot (serialize z x) f.chunk)) (sym type) in
    let put_is : put (tree t v) f.index (leaf bytes) ≡ Some (tree t edited.0) =
    ap (put (tree t v) f.index) (sym node) ∙ edited.1.tree in
    let flat = subst (λ ns. AllBeside ns)
    (sym (map-append (λ (entry : Entry). entry.index) proof.leaves proof.nodes))
    (all_beside (indices_of proof.leaves) (indices_of proof.nodes) has.ordered.is.positive
    has.ordered.is.flat has.ordered.is.complete) in
    let listed = is_listed known f.index f.chunk
    (known_there pair_of format t v proof path u f has asked.type_is asked.found_is) in
    let held = edit_known pair_of (tree t v) (tree t edited.0) known f.index chunk flat listed
    (index_positive (tree t v) of.at.node f.index of.at.found) has.known put_is in (
      edited.0,
      edited.1.value,
      subst (HasKnown pair_of format t edited.0) made.2 (record {
        legal = has.legal;
        fits = edited.1.fits;
        ordered = ordered-with proof f.index chunk has.ordered;
        known = subst (AllByRecursion (HasChunk pair_of (tree t edited.0)))
            (with_chunk-append proof.leaves proof.nodes f.index chunk) held;
      }),
    )
