-- What one step holds: the node that it leads to has the part, and a changed part changes that node
-- alone.
use Rattle.std.proofs.Common.{◌≡◌, ◌≢◌, ℕ, zero, suc, ◌+◌, ◌*◌, ◌/◌, ◌%◌, ◌^◌, ◌<◌, ◌≤◌, Bool, true, false, eqb, List, [], ◌∷◌, length, get_or, drop, map, set, refl, sym, ap, ap₂, ◌∙◌, subst, Option, Some, None, option_map, Ok, arith, slice_get, length-set, get_or-set_other, get_or-set_same}
use Rattle.std.specs.List.{AllByRecursion}
use Rattle.std.proofs.lemmas.Bool.{eqb-true, false≢true}
use Rattle.std.proofs.Math.Nat.{pow-suc}
use Rattle.std.proofs.lemmas.Option.{none-some, same_Some, cond_some, slice_get_within, get_or_from_slice_get}
use Rattle.ssz_schema.specs.format.Format.{Format}
use Rattle.ssz_schema.specs.format.Format.TheVariants.{One, Two}
use Rattle.ssz_value.proofs.Sequences.{items-values}
use Rattle.ssz_schema.specs.declared.path.PathStep.{PathStep}
use Rattle.ssz_schema.specs.declared.path.PathStep.TheVariants.{Field, Index, Len, Selector, Option as Chosen}
use Rattle.ssz_schema.specs.width.Width.TheVariants.{W8, W64}
use Rattle.ssz_schema.specs.Types.{SszType, Fields, Options, uint, boolean, container, vector, list, bitvector, bitlist, union}
use Rattle.ssz_schema.specs.Sizes.{depth, basic_size}
use Rattle.ssz_schema.specs.Legal.{IsLegal, greatest_limit}
use Rattle.ssz_bytes.specs.Bytes.{le_bytes, bit_value}
use Rattle.ssz_value.specs.Values.{SszValue, number, truth, sequence, bits, chosen, chosen_none, items, values, Fits, FitFields}
use Rattle.ssz_chunk.specs.Tree.{Tree, leaf, pair, merkle_tree, place}
use Rattle.ssz_chunk.specs.Chunk.{zero_chunk}
use Rattle.ssz_value.specs.Trees.{tree, field_trees, option_tree, pack_bits, padded, number_chunk}
use Rattle.ssz_chunk.specs.Index.{digits, at_way, put_way}
use Rattle.ssz_schema.specs.Paths.{step_type, field_type, field_number, option_type}
use Rattle.ssz_schema.specs.Indices.{step_levels, step_position, step_spot, element_position, element_spot, whole, bit}
use Rattle.ssz_value.specs.Parts.{step_part, numbered}
use Rattle.ssz_places.specs.Spots.{HasPart, with_part, bit_written}
use Rattle.ssz_value.specs.Edits.{replaced_at}
use Rattle.ssz_places.specs.EditLaws.{is_mixed_in}
use Rattle.ssz_chunk.proofs.FullTrees.{at_way-full, put_way-full}
use Rattle.ssz_chunk.proofs.Digits.{digits-left}
use Rattle.ssz_places.proofs.Packing.{SameBut, place-pack, same_padded}
use Rattle.ssz_places.proofs.BitPacking.{bit_bytes, other-bits, bits-written, bits-part}
use Rattle.ssz_bytes.proofs.Numbers.{length-le_bytes}
use Rattle.ssz_places.proofs.Elements.{SameItems, leaves_of, HasPart-elements, AgreeBut-elements, place-changed}
use Rattle.ssz_places.proofs.Parts.{is_field, is_option, place-field_trees, FitsOption-below, IsNoneOption-below}
use Rattle.ssz_schema.proofs.PathLemmas.{step-below, if_within}
use Rattle.ssz_places.proofs.Rooms.{list-below, bitlist-below}

-- the way of a step
abbrev pub step_way : SszType → PathStep → List Bool
step_way t step = digits (step_levels t step) (step_position t step)

-- the value with another part, and its tree
pub record Replaces (t : SszType) (v : SszValue) (step : PathStep) (u : SszType) (node : Tree)
    (x : SszValue) : Type 0 where
  pub value : SszValue
  pub is : replaced_at (numbered t step) v x ≡ Ok value
  pub fits : Fits t value
  pub put : put_way (tree t v) (step_way t step) (with_part (step_spot t step) u x node) ≡ Some
      (tree t value)

pub record StepHolds (t : SszType) (v : SszValue) (step : PathStep) (u : SszType)
    (w : SszValue) : Type 0 where
  pub node : Tree
  pub found : at_way (tree t v) (step_way t step) ≡ Some node
  pub has : HasPart (step_spot t step) u w node
  pub fits : Fits u w
  pub changes : is_mixed_in step ≡ false → (x : SszValue) → Fits u x → Replaces t v step u node x

-- a value that has to be one of the forms below

pub slice_get-set_same : {X : Type 0} (xs : List X) (i : ℕ) (x : X) → i < length xs
    → slice_get (set xs i x) i ≡ Some x
slice_get-set_same [] i x h = absurd (omega arith)
slice_get-set_same (y ∷ xs) zero x h = refl
slice_get-set_same (y ∷ xs) (suc i) x h = slice_get-set_same xs i x (omega arith)

pub slice_get-set_other : {X : Type 0} (xs : List X) (i j : ℕ) (x : X) → j ≢ i
    → slice_get (set xs i x) j ≡ slice_get xs j
slice_get-set_other [] i j x h = refl
slice_get-set_other (y ∷ xs) zero zero x h = absurd (h refl)
slice_get-set_other (y ∷ xs) zero (suc j) x h = refl
slice_get-set_other (y ∷ xs) (suc i) zero x h = refl
slice_get-set_other (y ∷ xs) (suc i) (suc j) x h = slice_get-set_other xs i j x (λ e. h (ap suc e))

All-set : {X : Type 0} (P : X → Type 0) (xs : List X) (i : ℕ) (x : X) → AllByRecursion P xs → P x
    → AllByRecursion P (set xs i x)
All-set P [] i x all h = tt
All-set P (y ∷ xs) zero x all h = (h, all.1)
All-set P (y ∷ xs) (suc i) x all h = (all.0, All-set P xs i x all.1 h)

pub All-at : {X : Type 0} (P : X → Type 0) (xs : List X) (i : ℕ) (x : X) → AllByRecursion P xs
    → slice_get xs i ≡ Some x → P x
All-at P [] i x all e = absurd (none-some x e)
All-at P (y ∷ xs) zero x all e = subst P (same_Some y x e) all.0
All-at P (y ∷ xs) (suc i) x all e = All-at P xs i x all.1 e

-- fields

module _ (fs : Fields) (name : List ℕ) (u : SszType) (typed : field_type fs name ≡ Some u) where
  abbrev at : ℕ
  at = field_number fs name

  below : at < 2 ^ depth (container fs)
  below = step-below (container fs) (Field name) u typed

  pub StepHolds-field : (v w : SszValue) → Fits (container fs) v
      → step_part (container fs) v (Field name) ≡ Some w
      → StepHolds (container fs) v (Field name) u w
  StepHolds-field (sequence vs) w fit found = let here = is_field fs name u typed in record {
    node = place (field_trees fs (items vs)) at;
    found = at_way-full (depth (container fs)) at (field_trees fs (items vs)) below;
    has = here.tree (items vs) w found;
    fits = here.fits (items vs) w fit found;
    changes = λ _ x f.
        let ws : List SszValue = set (items vs) at x in
        let same : items (values ws) ≡ ws = items-values ws in
        let new : place (field_trees fs ws) at ≡ tree u x =
        here.tree ws x (slice_get-set_same (items vs) at x
        (slice_get_within (items vs) at w found)) in
        record {
          value = sequence (values ws);
          is = refl;
          fits = subst (FitFields fs) (sym same) (here.set (items vs) x fit f);
          put = ap (put_way (merkle_tree (depth (container fs)) (field_trees fs (items vs)))
              (digits (depth (container fs)) at)) (sym new)
              ∙ put_way-full (depth (container fs)) at (field_trees fs (items vs))
              (field_trees fs ws) below (λ k small other. place-field_trees fs
              (items vs) at k x other)
              ∙ ap (λ ys. Some (merkle_tree (depth (container fs)) (field_trees fs ys))) (sym same);
        };
  }
  StepHolds-field _ w fit found = absurd fit

-- elements

module _ (t : SszType) (d i : ℕ) (vs : List SszValue) (w : SszValue)
    (fit : AllByRecursion (Fits t) vs) (found : slice_get vs i ≡ Some w)
    (below : element_position (basic_size t) i < 2 ^ d) where
  abbrev content : List SszValue → Tree
  content ws = merkle_tree d (leaves_of (basic_size t) t ws)

  abbrev spot : ℕ
  spot = element_position (basic_size t) i

  pub element-found : at_way (content vs) (digits d spot) ≡ Some
      (place (leaves_of (basic_size t) t vs) spot)
  element-found = at_way-full d spot (leaves_of (basic_size t) t vs) below

  pub element-has : HasPart (element_spot (basic_size t) i) t w
      (place (leaves_of (basic_size t) t vs) spot)
  element-has =
      HasPart-elements t (basic_size t) refl vs i w fit (All-at (Fits t) vs i w fit found) found

  pub element-put : (x : SszValue) → Fits t x
      → put_way (content vs) (digits d spot)
      (with_part (element_spot (basic_size t) i) t x
      (place (leaves_of (basic_size t) t vs) spot)) ≡ Some (content (set vs i x))
  element-put x f =
      let same : SameItems i vs (set vs i x) = λ k other. slice_get-set_other vs i k x other in
      let fit_too : AllByRecursion (Fits t) (set vs i x) = All-set (Fits t) vs i x fit f in
      ap (put_way (content vs) (digits d spot))
      (sym (place-changed t i vs (set vs i x) fit fit_too same (basic_size t) refl x f
      (slice_get-set_same vs i x (slice_get_within vs i w found))))
      ∙ put_way-full d spot (leaves_of (basic_size t) t vs)
      (leaves_of (basic_size t) t (set vs i x)) below
      (AgreeBut-elements t i vs (set vs i x) fit fit_too same (basic_size t) refl (2 ^ d))

pub StepHolds-vector : (t u : SszType) (n i : ℕ) (v w : SszValue) → Fits (vector t n) v
    → step_type (vector t n) (Index i) ≡ Some u → step_part (vector t n) v (Index i) ≡ Some w
    → StepHolds (vector t n) v (Index i) u w
StepHolds-vector t u n i (sequence vs) w fit typed found =
    let d : ℕ = depth (vector t n) in
    let below : element_position (basic_size t) i < 2 ^ d =
    step-below (vector t n) (Index i) u typed in
    subst (λ s. StepHolds (vector t n) (sequence vs) (Index i) s w) (if_within i n t u typed).1
    (record {
      node = place (leaves_of (basic_size t) t (items vs)) (element_position (basic_size t) i);
      found = element-found t d i (items vs) w fit.1 found below;
      has = element-has t d i (items vs) w fit.1 found below;
      fits = All-at (Fits t) (items vs) i w fit.1 found;
      changes = λ _ x f.
          let ws : List SszValue = set (items vs) i x in
          let same : items (values ws) ≡ ws = items-values ws in
          record {
            value = sequence (values ws);
            is = refl;
            fits =
                subst (λ ys. (length ys ≡ n) × AllByRecursion (Fits t) ys) (sym same)
                (length-set (items vs) i x ∙ fit.0, All-set (Fits t) (items vs) i x fit.1 f);
            put = element-put t d i (items vs) w fit.1 found below x f
                ∙ ap (λ ys. Some (merkle_tree d (leaves_of (basic_size t) t ys))) (sym same);
          };
    })
StepHolds-vector t u n i _ w fit typed found = absurd fit

-- the way of a step below a length goes left first
list_way : (d i : ℕ) → i < 2 ^ d → digits (d + 1) i ≡ false ∷ digits d i
list_way d i below =
    ap (λ n. digits n i) (let e : d + 1 ≡ suc d = omega arith in e) ∙ digits-left d i below

pub StepHolds-list : (t u : SszType) (n i : ℕ) (v w : SszValue) → Fits (list t n) v
    → step_type (list t n) (Index i) ≡ Some u → step_part (list t n) v (Index i) ≡ Some w
    → StepHolds (list t n) v (Index i) u w
StepHolds-list t u n i (sequence vs) w fit typed found =
    let d : ℕ = depth (list t n) in
    let below : element_position (basic_size t) i < 2 ^ d = list-below t u n i typed in
    let way = list_way d (element_position (basic_size t) i) below in
    subst (λ s. StepHolds (list t n) (sequence vs) (Index i) s w) (if_within i n t u typed).1
    (record {
      node = place (leaves_of (basic_size t) t (items vs)) (element_position (basic_size t) i);
      found =
          ap (at_way (tree (list t n) (sequence vs))) way
          ∙ element-found t d i (items vs) w fit.1 found below;
      has = element-has t d i (items vs) w fit.1 found below;
      fits = All-at (Fits t) (items vs) i w fit.1 found;
      changes = λ _ x f.
          let ws : List SszValue = set (items vs) i x in
          let same : items (values ws) ≡ ws = items-values ws in
          let long : length ws ≡ length (items vs) = length-set (items vs) i x in
          let node : Tree =
          place (leaves_of (basic_size t) t (items vs)) (element_position (basic_size t) i) in
          record {
            value = sequence (values ws);
            is = refl;
            fits =
                subst (λ ys. (length ys ≤ n) × AllByRecursion (Fits t) ys) (sym same)
                (omega (arith, long, fit.0), All-set (Fits t) (items vs) i x fit.1 f);
            put = ap (λ ds. put_way (tree (list t n) (sequence vs)) ds
                (with_part (element_spot (basic_size t) i) t x node)) way
                ∙ ap (option_map (λ new. pair new (leaf (number_chunk (length (items vs))))))
                (element-put t d i (items vs) w fit.1 found below x f)
                ∙ ap (λ k. Some (pair (merkle_tree d (leaves_of (basic_size t) t ws))
                (leaf (number_chunk k)))) (sym long)
                ∙ ap (λ ys. Some (pair (merkle_tree d (leaves_of (basic_size t) t ys))
                (leaf (number_chunk (length ys))))) (sym same);
          };
    })
StepHolds-list t u n i _ w fit typed found = absurd fit

-- bits

pub some_truth : (o : Option Bool) (w : SszValue) → option_map truth o ≡ Some w
    → (b : Bool) × (o ≡ Some b) × (truth b ≡ w)
some_truth None w e = absurd (none-some w e)
some_truth (Some b) w e = (b, refl, same_Some (truth b) w e)

module _ (d i : ℕ) (bs : List Bool) (b : Bool) (found : slice_get bs i ≡ Some b)
    (below : i / 256 < 2 ^ d) where
  abbrev bit_content : List Bool → Tree
  bit_content cs = merkle_tree d (map leaf (pack_bits cs))

  abbrev chunk_at : List Bool → ℕ → List ℕ
  chunk_at cs j = padded (drop (32 * j) (bit_bytes cs))

  pub bit-found : at_way (bit_content bs) (digits d (i / 256)) ≡ Some (leaf (chunk_at bs (i / 256)))
  bit-found =
      at_way-full d (i / 256) (map leaf (pack_bits bs)) below
      ∙ ap Some (place-pack (i / 256) (bit_bytes bs))

  pub bit-has : HasPart (bit (i % 256)) boolean (truth b) (leaf (chunk_at bs (i / 256)))
  bit-has = bits-part i bs ∙ ap bit_value (get_or_from_slice_get bs i b false found)

  pub bit-put : (c : Bool) → put_way (bit_content bs) (digits d (i / 256)) (leaf
      (bit_written (chunk_at bs (i / 256)) (i % 256) c)) ≡ Some (bit_content (set bs i c))
  bit-put c =
      let same : SameBut i false bs (set bs i c) =
      λ k other. get_or-set_other bs i k c false other in
      let new : get_or (set bs i c) i false ≡ c =
      get_or-set_same bs i c false (slice_get_within bs i b found) in
      ap (λ x. put_way (bit_content bs) (digits d (i / 256)) (leaf x))
      (ap (bit_written (chunk_at bs (i / 256)) (i % 256)) (sym new)
      ∙ sym (bits-written i bs (set bs i c) same))
      ∙ ap (put_way (bit_content bs) (digits d (i / 256)))
      (sym (place-pack (i / 256) (bit_bytes (set bs i c))))
      ∙ put_way-full d (i / 256) (map leaf (pack_bits bs)) (map leaf (pack_bits (set bs i c))) below
      (λ k small other. place-pack k (bit_bytes (set bs i c))
      ∙ ap leaf (other-bits i bs (set bs i c) same k other) ∙ sym (place-pack k (bit_bytes bs)))

Replaces-bit : (t : SszType) (v : SszValue) (step : PathStep) (node : Tree)
    → ((c : Bool) → Replaces t v step boolean node (truth c)) → (x : SszValue) → Fits boolean x
    → Replaces t v step boolean node x
Replaces-bit t v step node h (truth c) f = h c
Replaces-bit t v step node h _ f = absurd f

pub StepHolds-bitvector : (u : SszType) (n i : ℕ) (v w : SszValue) → Fits (bitvector n) v
    → step_type (bitvector n) (Index i) ≡ Some u → step_part (bitvector n) v (Index i) ≡ Some w
    → StepHolds (bitvector n) v (Index i) u w
StepHolds-bitvector u n i (bits bs) w fit typed found =
    let d : ℕ = depth (bitvector n) in
    let below : i / 256 < 2 ^ d = step-below (bitvector n) (Index i) u typed in
    let is = some_truth (slice_get bs i) w found in
    let node : Tree = leaf (padded (drop (32 * (i / 256)) (bit_bytes bs))) in
    subst (λ x. StepHolds (bitvector n) (bits bs) (Index i) u x) is.2
    (subst (λ s. StepHolds (bitvector n) (bits bs) (Index i) s (truth is.0))
    (if_within i n boolean u typed).1 (record {
      node = node;
      found = bit-found d i bs is.0 is.1 below;
      has = bit-has d i bs is.0 is.1 below;
      fits = tt;
      changes = λ _. Replaces-bit (bitvector n) (bits bs) (Index i) node (λ c. record {
        value = bits (set bs i c);
        is = refl;
        fits = length-set bs i c ∙ fit;
        put = bit-put d i bs is.0 is.1 below c;
      });
    }))
StepHolds-bitvector u n i _ w fit typed found = absurd fit

pub StepHolds-bitlist : (u : SszType) (n i : ℕ) (v w : SszValue) → Fits (bitlist n) v
    → step_type (bitlist n) (Index i) ≡ Some u → step_part (bitlist n) v (Index i) ≡ Some w
    → StepHolds (bitlist n) v (Index i) u w
StepHolds-bitlist u n i (bits bs) w fit typed found =
    let d : ℕ = depth (bitlist n) in
    let below : i / 256 < 2 ^ d = bitlist-below u n i typed in
    let way = list_way d (i / 256) below in
    let is = some_truth (slice_get bs i) w found in
    let node : Tree = leaf (padded (drop (32 * (i / 256)) (bit_bytes bs))) in
    subst (λ x. StepHolds (bitlist n) (bits bs) (Index i) u x) is.2
    (subst (λ s. StepHolds (bitlist n) (bits bs) (Index i) s (truth is.0))
    (if_within i n boolean u typed).1 (record {
      node = node;
      found = ap (at_way (tree (bitlist n) (bits bs))) way ∙ bit-found d i bs is.0 is.1 below;
      has = bit-has d i bs is.0 is.1 below;
      fits = tt;
      changes = λ _. Replaces-bit (bitlist n) (bits bs) (Index i) node (λ c. record {
        value = bits (set bs i c);
        is = refl;
        fits = omega (arith, length-set bs i c, fit);
        put = ap (λ ds. put_way (tree (bitlist n) (bits bs)) ds
            (leaf (bit_written (padded (drop (32 * (i / 256)) (bit_bytes bs))) (i % 256) c))) way
            ∙ ap (option_map (λ new. pair new (leaf (number_chunk (length bs)))))
            (bit-put d i bs is.0 is.1 below c)
            ∙ ap (λ k. Some (pair (merkle_tree d (map leaf (pack_bits (set bs i c))))
            (leaf (number_chunk k)))) (sym (length-set bs i c));
      });
    }))
StepHolds-bitlist u n i _ w fit typed found = absurd fit

-- lengths and selectors

pub limits_small : (format : Format) → greatest_limit format < 256 ^ 8
limits_small One = omega arith
limits_small Two = omega arith

no_bytes : (count k : ℕ) → get_or (le_bytes count 0) k 0 ≡ 0
no_bytes zero k = refl
no_bytes (suc count) zero = refl
no_bytes (suc count) (suc k) = no_bytes count k

more_bytes : (count long n k : ℕ) → count ≤ long → n < 256 ^ count
    → get_or (le_bytes count n) k 0 ≡ get_or (le_bytes long n) k 0
more_bytes zero long n k le h =
    sym (ap (λ m. get_or (le_bytes long m) k 0) (let e : n ≡ 0 = omega arith in e)
    ∙ no_bytes long k)
more_bytes (suc count) zero n k le h = absurd (omega arith)
more_bytes (suc count) (suc long) n zero le h = refl
more_bytes (suc count) (suc long) n (suc k) le h =
    more_bytes count long (n / 256) k (omega arith) (omega (arith, pow-suc 256 count))

-- a number's chunk is its encoding, padded
padded-le_bytes : (count n : ℕ) → count ≤ 32 → n < 256 ^ count
    → padded (le_bytes count n) ≡ number_chunk n
padded-le_bytes count n le h =
    same_padded (le_bytes count n) (number_chunk n) (length-le_bytes 32 n)
    (λ k below. more_bytes count 32 n k le h)

right_is : digits 1 1 ≡ true ∷ []
unfolding digits
right_is = refl

left_is : digits 1 0 ≡ false ∷ []
unfolding digits
left_is = refl

-- the node of a length or a selector, of which no other is made
right_leaf : (t : SszType) (v : SszValue) (step : PathStep) (u : SszType) (count n : ℕ)
    (left : Tree) → is_mixed_in step ≡ true → step_way t step ≡ digits 1 1
    → step_spot t step ≡ whole → tree t v ≡ pair left (leaf (number_chunk n))
    → leaf (padded (le_bytes count n)) ≡ tree u (number n) → count ≤ 32 → n < 256 ^ count
    → Fits u (number n) → StepHolds t v step u (number n)
right_leaf t v step u count n left counted way where_is is made le small fit = record {
  node = leaf (number_chunk n);
  found = ap₂ at_way is (way ∙ right_is);
  has = subst (λ s. HasPart s u (number n) (leaf (number_chunk n))) (sym where_is)
      (ap leaf (sym (padded-le_bytes count n le small)) ∙ made);
  fits = fit;
  changes = λ e. absurd (false≢true (sym e ∙ counted));
}

pub StepHolds-list_len : (format : Format) (t u : SszType) (n : ℕ) (v w : SszValue)
    → IsLegal format (list t n) → Fits (list t n) v → step_type (list t n) Len ≡ Some u
    → step_part (list t n) v Len ≡ Some w → StepHolds (list t n) v Len u w
StepHolds-list_len format t u n (sequence vs) w legal fit typed found =
    let small : length (items vs) < 256 ^ 8 = omega (arith, fit.0, legal.1, limits_small format) in
    subst (λ x. StepHolds (list t n) (sequence vs) Len u x)
    (same_Some (number (length (items vs))) w found)
    (subst (λ s. StepHolds (list t n) (sequence vs) Len s (number (length (items vs))))
    (same_Some (uint W64) u typed)
    (right_leaf (list t n) (sequence vs) Len (uint W64) 8 (length (items vs))
    (merkle_tree (depth (list t n)) (leaves_of (basic_size t) t (items vs))) refl refl refl refl
    refl
    (omega arith) small small))
StepHolds-list_len format t u n _ w legal fit typed found = absurd fit

pub StepHolds-bitlist_len : (format : Format) (u : SszType) (n : ℕ) (v w : SszValue)
    → IsLegal format (bitlist n) → Fits (bitlist n) v → step_type (bitlist n) Len ≡ Some u
    → step_part (bitlist n) v Len ≡ Some w → StepHolds (bitlist n) v Len u w
StepHolds-bitlist_len format u n (bits bs) w legal fit typed found =
    let small : length bs < 256 ^ 8 = omega (arith, fit, legal.0, limits_small format) in
    subst (λ x. StepHolds (bitlist n) (bits bs) Len u x) (same_Some (number (length bs)) w found)
    (subst (λ s. StepHolds (bitlist n) (bits bs) Len s (number (length bs)))
    (same_Some (uint W64) u typed)
    (right_leaf (bitlist n) (bits bs) Len (uint W64) 8 (length bs)
    (merkle_tree (depth (bitlist n)) (map leaf (pack_bits bs))) refl refl refl refl refl
    (omega arith) small small))
StepHolds-bitlist_len format u n _ w legal fit typed found = absurd fit

pub StepHolds-selector : (format : Format) (os : Options) (u : SszType) (v w : SszValue)
    → IsLegal format (union os) → Fits (union os) v → step_type (union os) Selector ≡ Some u
    → step_part (union os) v Selector ≡ Some w → StepHolds (union os) v Selector u w
StepHolds-selector format os u (chosen k v) w legal fit typed found =
    let small : k < 256 = omega (arith, FitsOption-below os k v fit, legal.1) in
    subst (λ x. StepHolds (union os) (chosen k v) Selector u x) (same_Some (number k) w found)
    (subst (λ s. StepHolds (union os) (chosen k v) Selector s (number k))
    (same_Some (uint W8) u typed)
    (right_leaf (union os) (chosen k v) Selector (uint W8) 1 k
    (option_tree os k v) refl refl refl refl refl (omega arith) small small))
StepHolds-selector format os u (chosen_none k) w legal fit typed found =
    let small : k < 256 = omega (arith, IsNoneOption-below os k fit, legal.1) in
    subst (λ x. StepHolds (union os) (chosen_none k) Selector u x) (same_Some (number k) w found)
    (subst (λ s. StepHolds (union os) (chosen_none k) Selector s (number k))
    (same_Some (uint W8) u typed)
    (right_leaf (union os) (chosen_none k) Selector (uint W8) 1 k
    (leaf zero_chunk) refl refl refl refl refl (omega arith) small small))
StepHolds-selector format os u _ w legal fit typed found = absurd fit

-- the chosen value

pub StepHolds-option : (os : Options) (k : ℕ) (u : SszType) (v w : SszValue) → Fits (union os) v
    → step_type (union os) (Chosen k) ≡ Some u → step_part (union os) v (Chosen k) ≡ Some w
    → StepHolds (union os) v (Chosen k) u w
StepHolds-option os k u (chosen j v) w fit typed found =
    let both = cond_some (eqb j k) v w found in
    let same : k ≡ j = sym (eqb-true j k both.0) in
    let here = is_option os j u (ap (option_type os) (sym same) ∙ typed) in
    subst (λ x. StepHolds (union os) (chosen j v) (Chosen k) u x) both.1 (record {
      node = tree u v;
      found = ap (at_way (tree (union os) (chosen j v))) left_is ∙ ap Some (here.tree v);
      has = refl;
      fits = here.fits v fit;
      changes = λ _ x f. record {
        value = chosen j x;
        is = refl;
        fits = here.back x f;
        put = ap (λ ds. put_way (tree (union os) (chosen j v)) ds (tree u x)) left_is
            ∙ ap (λ y. Some (pair y (leaf (number_chunk j)))) (sym (here.tree x));
      };
    })
StepHolds-option os k u (chosen_none j) w fit typed found = absurd (none-some w found)
StepHolds-option os k u _ w fit typed found = absurd fit

-- each step that fits the type, to a part that is present
pub step_holds : (format : Format) (t : SszType) (v : SszValue) (step : PathStep) (u : SszType)
    (w : SszValue) → IsLegal format t → Fits t v → step_type t step ≡ Some u
    → step_part t v step ≡ Some w → StepHolds t v step u w
step_holds format (container fs) v (Field name) u w legal fit typed found =
    StepHolds-field fs name u typed v w fit found
step_holds format (vector t n) v (Index i) u w legal fit typed found =
    StepHolds-vector t u n i v w fit typed found
step_holds format (list t n) v (Index i) u w legal fit typed found =
    StepHolds-list t u n i v w fit typed found
step_holds format (list t n) v Len u w legal fit typed found =
    StepHolds-list_len format t u n v w legal fit typed found
step_holds format (bitvector n) v (Index i) u w legal fit typed found =
    StepHolds-bitvector u n i v w fit typed found
step_holds format (bitlist n) v (Index i) u w legal fit typed found =
    StepHolds-bitlist u n i v w fit typed found
step_holds format (bitlist n) v Len u w legal fit typed found =
    StepHolds-bitlist_len format u n v w legal fit typed found
step_holds format (union os) v Selector u w legal fit typed found =
    StepHolds-selector format os u v w legal fit typed found
step_holds format (union os) v (Chosen k) u w legal fit typed found =
    StepHolds-option os k u v w fit typed found
step_holds format _ v _ u w legal fit typed found = absurd (none-some u typed)
