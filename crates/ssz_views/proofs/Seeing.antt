-- What is read of the part that a view stands for.
use Rattle.std.proofs.Common.{ℕ, ◌+◌, ◌*◌, ◌/◌, ◌%◌, ◌^◌, ◌<◌, ◌≤◌, ◌≡◌, ◌≢◌, Bool, true, false, eqb, List, length, take, get_or, slice_range, Option, Some, None, refl, sym, ap, ◌∙◌, subst, inl, inr, arith}
use Rattle.std.specs.Prelude.{option_map}
use Rattle.std.proofs.lemmas.List.{take_all}
use Rattle.ssz_chunk.specs.Tree.{Tree, leaf, pair}
use Rattle.ssz_schema.specs.format.Format.{Format}
use Rattle.ssz_schema.specs.width.Width.{Width}
use Rattle.ssz_schema.specs.width.Width.TheVariants.{W8, W16, W32, W64, W128, W256}
use Rattle.ssz_schema.specs.Types.{SszType, uint, boolean, container, vector, list, bitvector, bitlist, union, Options}
use Rattle.ssz_schema.specs.Sizes.{basic_size, byte_count}
use Rattle.ssz_schema.specs.Legal.{IsLegal}
use Rattle.ssz_schema.specs.Unfolding.{options_over}
use Rattle.ssz_bytes.specs.Bytes.{le_number, bit_value}
use Rattle.ssz_schema.specs.Indices.{Spot, whole, byte, bit}
use Rattle.ssz_value.specs.Values.{SszValue, number, wide, truth, sequence, bits, chosen, chosen_none, Fits, FitsWidth}
use Rattle.ssz_value.specs.Encoding.{serialize}
use Rattle.ssz_value.specs.Trees.{mixed_in}
use Rattle.ssz_places.proofs.Elements.{is_basic}
use Rattle.ssz_arena.specs.Content.{tree_of}
use Rattle.ssz_places.specs.Spots.{HasPart, offset_of, is_bit}
use Rattle.ssz_places.specs.PlaceLaws.{IsTreeOf, HasBasicPart}
use Rattle.ssz_places.proofs.BasicParts.{basic_part}
use Rattle.ssz_nodes.proofs.Formed.{IsVector, vector_elements, IsList, list_elements, IsBitvector, bitvector_bits, IsBitlist, bitlist_bits, IsUnion, union_option}
use Rattle.ssz_nodes.proofs.LeafParts.{number_there, flag_byte}
use Rattle.ssz_views.specs.Looking.{Looking, IsView, ViewStandsFor, ForPart, type_seen, bit_offset, length_in, selector_in, number_of_value, wide_in, truth_in}

-- a composite part is a whole node
pub whole_value : (view : Looking) (t : SszType) (v : SszValue) → IsView view
    → t ≡ type_seen view → basic_size t ≡ None → ViewStandsFor view v
    → IsTreeOf t v (tree_of view.arena view.node)
whole_value view t v is form composite stands =
    let here : view.lies ≡ whole = is.lies.composite (ap basic_size (sym form) ∙ composite) in
    let has : HasPart whole t v (tree_of view.arena view.node) =
    subst (λ s. HasPart s t v (tree_of view.arena view.node)) here
    (subst (λ u. HasPart view.lies u v (tree_of view.arena view.node)) (sym form) stands.has) in
    record { fits = subst (λ u. Fits u v) (sym form) stands.fits; is = has }

-- it is the number that is mixed in to the node
abbrev pub Tells : Looking → Option ℕ → Type 0
Tells view told = (n : ℕ) (content : Tree) → tree_of view.arena view.node ≡ mixed_in n content
    → n < 2 ^ 64 → told ≡ Some n

module _ (view : Looking) (is : IsView view) where
  pub vector_length : (elem : SszType) (n : ℕ) → vector elem n ≡ type_seen view
      → ForPart view (λ v. Some n ≡ length_in (type_seen view) v)
  vector_length elem n form = λ v stands.
      let of : IsVector elem n v (tree_of view.arena view.node) =
      vector_elements elem n v _ (whole_value view (vector elem n) v is form refl stands) in
      ap Some (sym of.are.many) ∙ ap (length_in (vector elem n)) (sym of.is)
      ∙ ap (λ t. length_in t v) form

  pub bitvector_length : (n : ℕ) → bitvector n ≡ type_seen view
      → ForPart view (λ v. Some n ≡ length_in (type_seen view) v)
  bitvector_length n form = λ v stands.
      let of : IsBitvector n v (tree_of view.arena view.node) =
      bitvector_bits n v _ (whole_value view (bitvector n) v is form refl stands) in
      ap Some (sym of.are.many) ∙ ap (length_in (bitvector n)) (sym of.is)
      ∙ ap (λ t. length_in t v) form

  module _ (format : Format) (legal : IsLegal format (type_seen view)) (told : Option ℕ)
      (tells : Tells view told) where
    pub list_length : (elem : SszType) (limit : ℕ) → list elem limit ≡ type_seen view
        → ForPart view (λ v. told ≡ length_in (type_seen view) v)
    list_length elem limit form = λ v stands.
        let of : IsList elem limit v (tree_of view.arena view.node) =
        list_elements format elem limit v _ (subst (IsLegal format) (sym form) legal)
        (whole_value view (list elem limit) v is form refl stands) in
        tells _ _ of.tree of.small
        ∙ ap (length_in (list elem limit)) (sym of.is) ∙ ap (λ t. length_in t v) form

    pub bitlist_length : (limit : ℕ) → bitlist limit ≡ type_seen view
        → ForPart view (λ v. told ≡ length_in (type_seen view) v)
    bitlist_length limit form = λ v stands.
        let of : IsBitlist limit v (tree_of view.arena view.node) =
        bitlist_bits format limit v _ (subst (IsLegal format) (sym form) legal)
        (whole_value view (bitlist limit) v is form refl stands) in
        tells _ _ of.tree of.small
        ∙ ap (length_in (bitlist limit)) (sym of.is) ∙ ap (λ t. length_in t v) form

    pub union_selector : (trees : List SszType) (ids : List (Option ℕ))
        → union (options_over trees ids) ≡ type_seen view → length ids ≤ 128
        → ForPart view (λ v. option_map (λ n. n % 256) told ≡ selector_in v)
    union_selector trees ids form few = λ v stands.
        let of : IsUnion trees ids v (tree_of view.arena view.node) =
        union_option trees ids v _
        (whole_value view (union (options_over trees ids)) v is form refl stands) in
        let same : of.k % 256 ≡ of.k = omega (arith, of.below) in
        ap (option_map (λ n. n % 256)) (tells _ _ of.tree (omega (arith, of.below)))
        ∙ ap Some same ∙ elim of.option [
          | inl some ↦ ap selector_in (sym some.is)
          | inr none ↦ ap selector_in (sym none.is)
        ]

-- no other type has values of these forms

pub no_length : (t : SszType) (v : SszValue) → Fits t v
    → ((elem : SszType) (n : ℕ) → vector elem n ≡ t → ⊥)
    → ((elem : SszType) (n : ℕ) → list elem n ≡ t → ⊥) → ((n : ℕ) → bitvector n ≡ t → ⊥)
    → ((n : ℕ) → bitlist n ≡ t → ⊥) → None ≡ length_in t v
no_length (uint w) v fit a b c d = refl
no_length boolean v fit a b c d = refl
no_length (container fs) v fit a b c d = refl
no_length (vector t n) v fit a b c d = absurd (a t n refl)
no_length (list t n) v fit a b c d = absurd (b t n refl)
no_length (bitvector n) v fit a b c d = absurd (c n refl)
no_length (bitlist n) v fit a b c d = absurd (d n refl)
no_length (union os) v fit a b c d = refl

-- the forms that the types but one have not

fits_number : (w : Width) (v : SszValue) → Fits (uint w) v → None ≡ selector_in v
fits_number W8 (number n) fit = refl
fits_number W16 (number n) fit = refl
fits_number W32 (number n) fit = refl
fits_number W64 (number n) fit = refl
fits_number W128 (number n) fit = refl
fits_number W256 (wide bytes) fit = refl
fits_number _ _ fit = absurd fit

pub no_selector : (t : SszType) (v : SszValue) → Fits t v
    → ((os : Options) → union os ≡ t → ⊥) → None ≡ selector_in v
no_selector (uint w) v fit other = fits_number w v fit
no_selector boolean (truth b) fit other = refl
no_selector (container fs) (sequence vs) fit other = refl
no_selector (vector t n) (sequence vs) fit other = refl
no_selector (list t n) (sequence vs) fit other = refl
no_selector (bitvector n) (bits bs) fit other = refl
no_selector (bitlist n) (bits bs) fit other = refl
no_selector (union os) v fit other = absurd (other os refl)
no_selector _ _ fit other = absurd fit

pub no_number : (t : SszType) (v : SszValue) → Fits t v
    → ((w : Width) → uint w ≡ t → ⊥) → (None ≡ number_of_value v) × (None ≡ wide_in v)
no_number (uint w) v fit other = absurd (other w refl)
no_number boolean (truth b) fit other = (refl, refl)
no_number (container fs) (sequence vs) fit other = (refl, refl)
no_number (vector t n) (sequence vs) fit other = (refl, refl)
no_number (list t n) (sequence vs) fit other = (refl, refl)
no_number (bitvector n) (bits bs) fit other = (refl, refl)
no_number (bitlist n) (bits bs) fit other = (refl, refl)
no_number (union os) (chosen k v) fit other = (refl, refl)
no_number (union os) (chosen_none k) fit other = (refl, refl)
no_number _ _ fit other = absurd fit

pub wide_no_number : (v : SszValue) → Fits (uint W256) v → None ≡ number_of_value v
wide_no_number (wide bytes) fit = refl
wide_no_number _ fit = absurd fit

pub narrow_no_wide : (w : Width) (v : SszValue) → w ≢ W256 → Fits (uint w) v → None ≡ wide_in v
narrow_no_wide W8 (number n) narrow fit = refl
narrow_no_wide W16 (number n) narrow fit = refl
narrow_no_wide W32 (number n) narrow fit = refl
narrow_no_wide W64 (number n) narrow fit = refl
narrow_no_wide W128 (number n) narrow fit = refl
narrow_no_wide W256 v narrow fit = absurd (narrow refl)
narrow_no_wide W8 _ narrow fit = absurd fit
narrow_no_wide W16 _ narrow fit = absurd fit
narrow_no_wide W32 _ narrow fit = absurd fit
narrow_no_wide W64 _ narrow fit = absurd fit
narrow_no_wide W128 _ narrow fit = absurd fit

number_no_truth : (w : Width) (v : SszValue) → Fits (uint w) v → None ≡ truth_in v
number_no_truth W8 (number n) fit = refl
number_no_truth W16 (number n) fit = refl
number_no_truth W32 (number n) fit = refl
number_no_truth W64 (number n) fit = refl
number_no_truth W128 (number n) fit = refl
number_no_truth W256 (wide bytes) fit = refl
number_no_truth _ _ fit = absurd fit

pub no_truth : (t : SszType) (v : SszValue) → Fits t v → (boolean ≡ t → ⊥) → None ≡ truth_in v
no_truth (uint w) v fit other = number_no_truth w v fit
no_truth boolean v fit other = absurd (other refl)
no_truth (container fs) (sequence vs) fit other = refl
no_truth (vector t n) (sequence vs) fit other = refl
no_truth (list t n) (sequence vs) fit other = refl
no_truth (bitvector n) (bits bs) fit other = refl
no_truth (bitlist n) (bits bs) fit other = refl
no_truth (union os) (chosen k v) fit other = refl
no_truth (union os) (chosen_none k) fit other = refl
no_truth _ _ fit other = absurd fit

-- a number lies in bytes of its own
number_bytes : (w : Width) (v : SszValue) (s : Spot) (node : Tree) → Fits (uint w) v
    → HasPart s (uint w) v node → is_bit s ≡ false
number_bytes w v whole node fit has = refl
number_bytes w v (byte at) node fit has = refl
number_bytes w (truth b) (bit at) node fit has = absurd (no_flag w fit)
  where
    no_flag : (w : Width) → FitsWidth w (truth b) → ⊥
    no_flag W8 fit = fit
    no_flag W16 fit = fit
    no_flag W32 fit = fit
    no_flag W64 fit = fit
    no_flag W128 fit = fit
    no_flag W256 fit = fit
number_bytes w (number n) (bit at) node fit has = absurd has
number_bytes w (wide bytes) (bit at) node fit has = absurd has
number_bytes w (sequence vs) (bit at) node fit has = absurd has
number_bytes w (bits bs) (bit at) node fit has = absurd has
number_bytes w (chosen k v) (bit at) node fit has = absurd has
number_bytes w (chosen_none k) (bit at) node fit has = absurd has

-- the leaf of a number
pub number_leaf : (view : Looking) (w : Width) (v : SszValue) → uint w ≡ type_seen view
    → ViewStandsFor view v
    → HasBasicPart view.lies (uint w) v (tree_of view.arena view.node) (byte_count w)
number_leaf view w v form stands =
    let fit : Fits (uint w) v = subst (λ t. Fits t v) (sym form) stands.fits in
    let has : HasPart view.lies (uint w) v (tree_of view.arena view.node) =
    subst (λ t. HasPart view.lies t v (tree_of view.arena view.node)) (sym form) stands.has in
    basic_part view.lies (uint w) v (tree_of view.arena view.node) (byte_count w) refl
    (number_bytes w v view.lies (tree_of view.arena view.node) fit has) fit has

pub number_seen : (view : Looking) (w : Width) (chunk : List ℕ) (n from : ℕ)
    → uint w ≡ type_seen view → w ≢ W256
    → ((c : List ℕ) → tree_of view.arena view.node ≡ leaf c → chunk ≡ c)
    → from ≡ offset_of view.lies → n ≡ le_number (slice_range chunk from (from + byte_count w))
    → ForPart view (λ v. Some n ≡ number_of_value v)
number_seen view w chunk n from form narrow shows begins is = λ v stands.
    let at = number_leaf view w v form stands in
    let fit : Fits (uint w) v = subst (λ t. Fits t v) (sym form) stands.fits in
    let bytes : slice_range chunk from (from + byte_count w)
    ≡ slice_range at.chunk (offset_of view.lies) (offset_of view.lies + byte_count w) =
    ap (λ k. slice_range chunk k (k + byte_count w)) begins
    ∙ ap (λ c. slice_range c (offset_of view.lies) (offset_of view.lies + byte_count w))
    (shows at.chunk at.is) in
    let long : length (serialize (uint w) v) ≡ byte_count w =
    (is_basic (uint w) (byte_count w) refl).sized v fit in
    let there : slice_range at.chunk (offset_of view.lies)
    (offset_of view.lies + length (serialize (uint w) v)) ≡ serialize (uint w) v =
    ap (λ k. slice_range at.chunk (offset_of view.lies) (offset_of view.lies + k)) long
    ∙ at.bytes in
    ap Some (is ∙ ap le_number bytes)
    ∙ ap number_of_value (sym (number_there w v at.chunk (offset_of view.lies) narrow fit there))

-- the bytes of a uint256 are the whole leaf
pub wide_seen : (view : Looking) (chunk : List ℕ) → IsView view → uint W256 ≡ type_seen view
    → length chunk ≡ 32
    → ((c : List ℕ) → tree_of view.arena view.node ≡ leaf c → chunk ≡ c)
    → ForPart view (λ v. Some chunk ≡ wide_in v)
wide_seen view chunk is form long shows = λ v stands.
    let at = number_leaf view W256 v form stands in
    let fit : Fits (uint W256) v = subst (λ t. Fits t v) (sym form) stands.fits in
    let start : offset_of view.lies ≡ 0 =
    omega (arith, is.lies.basic 32 (ap basic_size (sym form))) in
    let bytes : take 32 chunk ≡ serialize (uint W256) v =
    ap (take 32) (shows at.chunk at.is)
    ∙ ap (λ k. slice_range at.chunk k (k + 32)) (sym start) ∙ at.bytes in
    ap Some (sym (take_all 32 chunk (omega (arith, long))) ∙ bytes) ∙ own v fit
  where
    own : (v : SszValue) → Fits (uint W256) v → Some (serialize (uint W256) v) ≡ wide_in v
    own (wide bytes) fit = refl
    own _ fit = absurd fit

-- the leaf of a boolean, and its bit there
pub record HasFlag (s : Spot) (v : SszValue) (node : Tree) : Type 0 where
  pub chunk : List ℕ
  pub flag : Bool
  pub is : node ≡ leaf chunk
  pub value : v ≡ truth flag
  pub bit : get_or chunk (bit_offset s / 8) 0 / 2 ^ (bit_offset s % 8) % 2 ≡ bit_value flag

whole_bit : (b : Bool) (n k : ℕ) → n ≡ bit_value b → k ≡ 0 → n / 2 ^ k % 2 ≡ bit_value b
whole_bit true n k is none = ap (λ j. n / 2 ^ j % 2) none ∙ omega (arith, is)
whole_bit false n k is none = ap (λ j. n / 2 ^ j % 2) none ∙ omega (arith, is)

in_byte : (s : Spot) (b : Bool) (node : Tree) → bit_offset s ≡ 8 * offset_of s
    → HasBasicPart s boolean (truth b) node 1 → HasFlag s (truth b) node
in_byte s b node begins at =
    let place : bit_offset s / 8 ≡ offset_of s = omega arith in
    record {
      chunk = at.chunk;
      flag = b;
      is = at.is;
      value = refl;
      bit = whole_bit b (get_or at.chunk (bit_offset s / 8) 0) (bit_offset s % 8)
          (ap (λ k. get_or at.chunk k 0) place
          ∙ flag_byte b at.chunk (offset_of s) at.bytes) (omega arith);
    }

has_flag : (s : Spot) (v : SszValue) (node : Tree) → Fits boolean v → HasPart s boolean v node
    → HasFlag s v node
has_flag whole (truth b) node fit has =
    in_byte whole b node refl (basic_part whole boolean (truth b) node 1 refl refl fit has)
has_flag (byte at) (truth b) node fit has =
    in_byte (byte at) b node refl (basic_part (byte at) boolean (truth b) node 1 refl refl fit has)
has_flag (bit at) (truth b) (leaf chunk) fit has =
    record { chunk = chunk; flag = b; is = refl; value = refl; bit = has }
has_flag (bit at) (truth b) (pair left right) fit has = absurd has
has_flag _ _ node fit has = absurd fit

pub flag_leaf : (view : Looking) (v : SszValue) → boolean ≡ type_seen view → ViewStandsFor view v
    → HasFlag view.lies v (tree_of view.arena view.node)
flag_leaf view v form stands =
    has_flag view.lies v (tree_of view.arena view.node)
    (subst (λ t. Fits t v) (sym form) stands.fits)
    (subst (λ t. HasPart view.lies t v (tree_of view.arena view.node)) (sym form) stands.has)

flag_is_one : (b : Bool) → eqb (bit_value b) 1 ≡ b
flag_is_one true = refl
flag_is_one false = refl

pub flag_seen : (view : Looking) (chunk : List ℕ) (b : Bool) (i : ℕ) → boolean ≡ type_seen view
    → ((c : List ℕ) → tree_of view.arena view.node ≡ leaf c → chunk ≡ c)
    → i ≡ bit_offset view.lies → b ≡ eqb (get_or chunk (i / 8) 0 / 2 ^ (i % 8) % 2) 1
    → ForPart view (λ v. Some b ≡ truth_in v)
flag_seen view chunk b i form shows begins is = λ v stands.
    let at = flag_leaf view v form stands in
    ap Some (is ∙ ap (λ k. eqb (get_or chunk (k / 8) 0 / 2 ^ (k % 8) % 2) 1) begins
    ∙ ap (λ c. eqb (get_or c (bit_offset view.lies / 8) 0 / 2 ^ (bit_offset view.lies % 8) % 2) 1)
    (shows at.chunk at.is)
    ∙ ap (λ n. eqb n 1) at.bit ∙ flag_is_one at.flag)
    ∙ ap truth_in (sym at.value)
