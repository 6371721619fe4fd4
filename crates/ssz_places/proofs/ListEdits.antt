-- What an append and a pop make of a list's content.
use Rattle.std.proofs.Common.{ltb, ◌≡◌, ℕ, zero, suc, ◌+◌, ◌-◌, ◌*◌, ◌/◌, ◌%◌, ◌^◌, ◌<◌, ◌≤◌, Bool, true, false, cond, eqb, List, [], ◌∷◌, ◌++◌, length, get_or, take, drop, map, Option, refl, sym, ap, ◌∙◌, subst, Some, None, Ok, Err, arith, length-append, cond}
use Rattle.ssz_gindex.proofs.Seams.{slice_get-push}
use Rattle.std.specs.List.{AllByRecursion, concat}
use Rattle.ssz_value.specs.Encoding.{serialize}
use Rattle.std.proofs.lemmas.Bool.{ltb-true, lt-ltb, eqb-false}
use Rattle.std.proofs.lemmas.List.{length-take, get_or_past}
use Rattle.std.proofs.lemmas.Option.{slice_get_past, unwrap_or-slice_get}
use Rattle.std.specs.Prelude.{unwrap_or}
use Rattle.ssz_value.specs.declared.edit_fault.EditFault.{EditFault}
use Rattle.ssz_schema.specs.Types.{SszType, boolean, list, bitlist}
use Rattle.ssz_schema.specs.Sizes.{depth, basic_size}
use Rattle.ssz_value.specs.Values.{SszValue, truth, sequence, bits, items, values, Fits}
use Rattle.ssz_chunk.specs.Tree.{Tree, leaf, merkle_tree, place}
use Rattle.ssz_value.specs.Trees.{pack_bits, padded}
use Rattle.ssz_chunk.specs.Index.{at, put}
use Rattle.ssz_schema.specs.Indices.{element_position, element_spot, byte, bit}
use Rattle.ssz_places.specs.Spots.{CanHold, with_part, without_part, bit_written}
use Rattle.ssz_places.specs.EditLaws.{content, count_of, HasContent, LawOfAppend, LawOfPop, LawOfContents}
use Rattle.ssz_chunk.proofs.FullTrees.{at-full, put-full}
use Rattle.ssz_places.proofs.Packing.{SameBut, place-pack}
use Rattle.ssz_places.proofs.BitPacking.{bit_bytes, other-bits, bits-written}
use Rattle.ssz_places.proofs.Elements.{SameItems, leaves_of, AgreeBut-elements, place-changed, place-emptied}
use Rattle.ssz_places.proofs.Rooms.{list-below, bitlist-below}
use Rattle.ssz_value.proofs.Sequences.{items-values}

-- one more element, and one less

SameItems-push : {X : Type 0} (xs : List X) (x : X) → SameItems (length xs) xs (xs ++ x ∷ [])
SameItems-push [] x zero other = absurd (other refl)
SameItems-push [] x (suc k) other = refl
SameItems-push (y ∷ xs) x zero other = refl
SameItems-push (y ∷ xs) x (suc k) other = SameItems-push xs x k (λ e. other (ap suc e))

All-push : {X : Type 0} (P : X → Type 0) (xs : List X) (x : X) → AllByRecursion P xs → P x
    → AllByRecursion P (xs ++ x ∷ [])
All-push P [] x all h = (h, tt)
All-push P (y ∷ xs) x all h = (all.0, All-push P xs x all.1 h)

SameItems-take : {X : Type 0} (m : ℕ) (xs : List X) → length xs ≡ suc m → SameItems m xs (take m xs)
SameItems-take m [] e k other = absurd (omega arith)
SameItems-take zero (x ∷ []) e zero other = absurd (other refl)
SameItems-take zero (x ∷ []) e (suc k) other = refl
SameItems-take zero (x ∷ y ∷ xs) e k other = absurd (omega arith)
SameItems-take (suc m) (x ∷ xs) e zero other = refl
SameItems-take (suc m) (x ∷ xs) e (suc k) other =
    SameItems-take m xs (omega arith) k (λ f. other (ap suc f))

All-take : {X : Type 0} (P : X → Type 0) (m : ℕ) (xs : List X) → AllByRecursion P xs
    → AllByRecursion P (take m xs)
All-take P zero xs all = tt
All-take P (suc m) [] all = tt
All-take P (suc m) (x ∷ xs) all = (all.0, All-take P m xs all.1)

SameBut-items : {X : Type 0} (i : ℕ) (d : X) (xs ys : List X) → SameItems i xs ys
    → SameBut i d xs ys
SameBut-items i d xs ys same k other =
    sym (unwrap_or-slice_get ys k d) ∙ ap (λ o. unwrap_or o d) (same k other)
    ∙ unwrap_or-slice_get xs k d

-- elements of which that of number i changes

module _ (t : SszType) (n i : ℕ) (vs ws : List SszValue) (fit : AllByRecursion (Fits t) vs)
    (fits_too : AllByRecursion (Fits t) ws) (same : SameItems i vs ws) (within : i < n)
    (few : length ws ≤ n) where
  abbrev d : ℕ
  d = depth (list t n)

  abbrev spot : ℕ
  spot = element_position (basic_size t) i

  below : spot < 2 ^ d
  below = list-below t t n i (ap (λ b. cond b (Some t) None) (lt-ltb i n within))

  abbrev node : Tree
  node = place (leaves_of (basic_size t) t vs) spot

  -- a packed element lies in a leaf
  list-holds : (size : Option ℕ) → basic_size t ≡ size
      → CanHold (element_spot size i) (place (leaves_of size t vs) (element_position size i))
  list-holds None is = tt
  list-holds (Some z) is =
      subst (CanHold (byte (i * z % 32)))
      (sym (place-pack (i * z / 32) (concat (map (serialize t) vs)))) tt

  list-content : (change : Tree → Tree) → place (leaves_of (basic_size t) t ws) spot ≡ change node
      → (v : SszValue) → content (list t n) v ≡ merkle_tree d (leaves_of (basic_size t) t vs)
      → HasContent (list t n) v i change (sequence (values ws))
  list-content change new v is =
      let same_items : items (values ws) ≡ ws = items-values ws in
      record {
        node = node;
        found =
            ap (λ c. at c (2 ^ d + spot)) is ∙ at-full d spot (leaves_of (basic_size t) t vs) below;
        holds = list-holds (basic_size t) refl;
        put = ap (λ c. put c (2 ^ d + spot) (change node)) is
            ∙ ap (put (merkle_tree d (leaves_of (basic_size t) t vs)) (2 ^ d + spot)) (sym new)
            ∙ put-full d spot (leaves_of (basic_size t) t vs) (leaves_of (basic_size t) t ws) below
            (AgreeBut-elements t i vs ws fit fits_too same (basic_size t) refl (2 ^ d))
            ∙ ap (λ ys. Some (merkle_tree d (leaves_of (basic_size t) t ys))) (sym same_items);
        whole = refl;
        fits =
            subst (λ ys. (length ys ≤ n) × AllByRecursion (Fits t) ys) (sym same_items)
            (few, fits_too);
      }

-- bits of which that of number i changes

module _ (n i : ℕ) (bs cs : List Bool) (same : SameItems i bs cs) (within : i < n)
    (few : length cs ≤ n) where
  abbrev bit_d : ℕ
  bit_d = depth (bitlist n)

  bit_below : i / 256 < 2 ^ bit_d
  bit_below = bitlist-below boolean n i (ap (λ b. cond b (Some boolean) None) (lt-ltb i n within))

  abbrev chunk_at : List Bool → ℕ → List ℕ
  chunk_at xs j = padded (drop (32 * j) (bit_bytes xs))

  abbrev bit_node : Tree
  bit_node = leaf (chunk_at bs (i / 256))

  bit-content : (change : Tree → Tree)
      → (leaf (bit_written (chunk_at bs (i / 256)) (i % 256)
      (get_or cs i false))) ≡ change bit_node → HasContent (bitlist n) (bits bs) i change (bits cs)
  bit-content change new =
      let differ : SameBut i false bs cs = SameBut-items i false bs cs same in
      record {
        node = bit_node;
        found =
            at-full bit_d (i / 256) (map leaf (pack_bits bs)) bit_below
            ∙ ap Some (place-pack (i / 256) (bit_bytes bs));
        holds = tt;
        put = ap (put (merkle_tree bit_d (map leaf (pack_bits bs))) (2 ^ bit_d + i / 256))
            (sym new ∙ ap leaf (sym (bits-written i bs cs differ))
            ∙ sym (place-pack (i / 256) (bit_bytes cs)))
            ∙ put-full bit_d (i / 256) (map leaf (pack_bits bs)) (map leaf (pack_bits cs)) bit_below
            (λ k small other. place-pack k (bit_bytes cs)
            ∙ ap leaf (other-bits i bs cs differ k other) ∙ sym (place-pack k (bit_bytes bs)));
        whole = refl;
        fits = few;
      }

-- an edit that asks a test first
if_passes : {X : Type 0} (b : Bool) (x y : X) (fault : EditFault)
    → cond b (Ok x) (Err fault) ≡ Ok y → (b ≡ true) × (x ≡ y)
if_passes true x y fault e = (refl, cc)
if_passes false x y fault e = absurd (cc)

if_fails : {X : Type 0} (b : Bool) (x y : X) (fault : EditFault) → cond b (Err fault) (Ok x) ≡ Ok y
    → (b ≡ false) × (x ≡ y)
if_fails true x y fault e = absurd (cc)
if_fails false x y fault e = (refl, cc)

not_none : (n : ℕ) → (n ≡ 0 → ⊥) → n ≡ suc (n - 1)
not_none n h = omega arith

pub law_of_append : LawOfAppend
law_of_append format (list t n) (sequence vs) new result value fit made =
    let both =
    if_passes (ltb (length (items vs)) n)
    (sequence (values (items vs ++ new ∷ []))) result _ made in
    let i : ℕ = length (items vs) in
    let within : i < n = ltb-true i n both.0 in
    let ws : List SszValue = items vs ++ new ∷ [] in
    let longer : length ws ≡ i + 1 = length-append (items vs) (new ∷ []) in
    let same : SameItems i (items vs) ws = SameItems-push (items vs) new in
    let fits_too : AllByRecursion (Fits t) ws = All-push (Fits t) (items vs) new value.fits.1 fit in
    subst (λ r. HasContent (list t n) (sequence vs) i
    (with_part (element_spot (basic_size t) i) t new) r × (count_of r ≡ i + 1)) both.1 (
      list-content t n i (items vs) ws value.fits.1 fits_too same within (omega (arith, longer))
          (with_part (element_spot (basic_size t) i) t new)
          (place-changed t i (items vs) ws value.fits.1 fits_too same (basic_size t) refl new fit
          (slice_get-push (items vs) new)) (sequence vs) refl,
      ap (λ ys. length ys) (items-values ws) ∙ longer,
    )
law_of_append format (bitlist n) (bits bs) (truth b) result value fit made =
    let both = if_passes (ltb (length bs) n) (bits (bs ++ b ∷ [])) result _ made in
    let i : ℕ = length bs in
    let within : i < n = ltb-true i n both.0 in
    let cs : List Bool = bs ++ b ∷ [] in
    let longer : length cs ≡ i + 1 = length-append bs (b ∷ []) in
    let new : get_or cs i false ≡ b =
    sym (unwrap_or-slice_get cs i false) ∙ ap (λ o. unwrap_or o false) (slice_get-push bs b) in
    subst (λ r. HasContent (bitlist n) (bits bs) i (with_part (bit (i % 256)) boolean (truth b)) r
    × (count_of r ≡ i + 1)) both.1 (
      bit-content n i bs cs (SameItems-push bs b) within (omega (arith, longer))
          (with_part (bit (i % 256)) boolean (truth b))
          (ap (λ c. leaf
          (bit_written (padded (drop (32 * (i / 256)) (bit_bytes bs))) (i % 256) c)) new),
      longer,
    )
law_of_append format (bitlist n) (bits bs) _ result value fit made = absurd fit
law_of_append format (bitlist n) _ new result value fit made = absurd value.fits
law_of_append format _ _ _ result value fit made = absurd (cc)

pub law_of_pop : LawOfPop
law_of_pop format (list t n) (sequence vs) result value made =
    let i : ℕ = length (items vs) - 1 in
    let both =
    if_fails (eqb (length (items vs)) 0)
    (sequence (values (take i (items vs)))) result _ made in
    let some : length (items vs) ≡ suc i =
    (let ne = eqb-false (length (items vs)) 0 both.0 in not_none (length (items vs)) ne) in
    let ws : List SszValue = take i (items vs) in
    let shorter : length ws ≡ i = omega (arith, length-take i (items vs)) in
    let same : SameItems i (items vs) ws = SameItems-take i (items vs) some in
    let fits_too : AllByRecursion (Fits t) ws = All-take (Fits t) i (items vs) value.fits.1 in
    subst (λ r. HasContent (list t n) (sequence vs) i
    (without_part (element_spot (basic_size t) i) t) r
    × (count_of r + 1 ≡ length (items vs))) both.1 (
      list-content t n i (items vs) ws value.fits.1 fits_too same (omega (arith, value.fits.0))
          (omega (arith, value.fits.0)) (without_part (element_spot (basic_size t) i) t)
          (place-emptied t i (items vs) ws value.fits.1 fits_too same (basic_size t) refl
          (slice_get_past ws i (omega arith))) (sequence vs) refl,
      ap (λ ys. length ys + 1) (items-values ws) ∙ omega arith,
    )
law_of_pop format (bitlist n) (bits bs) result value made =
    let i : ℕ = length bs - 1 in
    let both = if_fails (eqb (length bs) 0) (bits (take i bs)) result _ made in
    let some : length bs ≡ suc i =
    (let ne = eqb-false (length bs) 0 both.0 in not_none (length bs) ne) in
    let cs : List Bool = take i bs in
    let shorter : length cs ≡ i = omega (arith, length-take i bs) in
    subst (λ r. HasContent (bitlist n) (bits bs) i (without_part (bit (i % 256)) boolean) r
    × (count_of r + 1 ≡ length bs)) both.1 (
      bit-content n i bs cs (SameItems-take i bs some) (omega (arith, value.fits))
          (omega (arith, value.fits)) (without_part (bit (i % 256)) boolean)
          (ap (λ c. leaf (bit_written (padded (drop (32 * (i / 256)) (bit_bytes bs))) (i % 256) c))
          (get_or_past cs i false (omega arith))),
      omega arith,
    )
law_of_pop format _ _ result value made = absurd (cc)

pub law_of_contents : LawOfContents
law_of_contents (list t n) (sequence vs) counted fit = refl
law_of_contents (bitlist n) (bits bs) counted fit = refl
law_of_contents (list t n) _ counted fit = absurd fit
law_of_contents (bitlist n) _ counted fit = absurd fit
law_of_contents _ v counted fit = absurd counted
