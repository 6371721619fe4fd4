-- Two values of one type with one tree are one value.
use Rattle.std.proofs.Common.{ℕ, ◌+◌, ◌*◌, ◌/◌, ◌^◌, ◌<◌, ◌≤◌, ◌≡◌, Bool, List, [], ◌∷◌, ◌++◌, length, take, drop, map, Option, Some, None, refl, sym, ap, ap₂, ◌∙◌, subst, arith, length-append, take_at, drop_at, zero-mul, mul-le-mul_right, le_trans}
use Rattle.ssz_value.specs.Reading.{value_in}
use Rattle.std.specs.List.{AllByRecursion, concat}
use Rattle.std.proofs.lemmas.List.{length-map}
use Rattle.ssz_schema.specs.width.Width.{Width}
use Rattle.ssz_schema.specs.width.Width.TheVariants.{W8, W16, W32, W64, W128, W256}
use Rattle.ssz_schema.specs.format.Format.{Format}
use Rattle.ssz_schema.specs.format.Format.TheVariants.{One, Two}
use Rattle.ssz_schema.specs.Types.{SszType, Fields, Options, uint, boolean, container, vector, list, bitvector, bitlist, union, no_fields, field, no_options, none_option, option}
use Rattle.ssz_schema.specs.Legal.{greatest_limit, IsLegal, AreLegalFields, AreLegalOptions}
use Rattle.ssz_schema.specs.Sizes.{byte_count, basic_size, fixed_size, element_chunks, depth}
use Rattle.ssz_schema.proofs.DepthLemmas.{depth_of-holds}
use Rattle.ssz_bytes.specs.Bytes.{le_bytes, number_of_bits, le_number, bits_of_number}
use Rattle.ssz_value.specs.Values.{SszValue, sequence, bits, items, Fits}
use Rattle.ssz_value.specs.Encoding.{serialize}
use Rattle.ssz_chunk.specs.Tree.{Tree, leaf, merkle_tree}
use Rattle.ssz_value.specs.Trees.{padded, pack, pack_bits, element_leaves, tree}
use Rattle.ssz_bytes.proofs.Numbers.{length-le_bytes, le_number-le_bytes}
use Rattle.ssz_bytes.proofs.Bits.{number_of_bits_lt, bits_of_number-number_of_bits, power_up, power_of_bytes}
use Rattle.ssz_value.proofs.Agree.{Agrees, same_some}
use Rattle.ssz_value.proofs.ExactLaw.{agrees}
use Rattle.ssz_value.proofs.ChunkLaw.{same_leaf, same_left, same_right, same_full, same_padded, same_pack, same_leaves, length-chunks}
use Rattle.ssz_value.proofs.PartLaw.{TellsApart, sequence_is, same_number, no_fields_tell, field_tells, container_tells, no_options_tell, option_tells, none_option_tells, union_tells, FieldsTell, OptionsTell}

-- values of one type with one encoding
enc_tells : (t : SszType) → Agrees t → (v w : SszValue) → Fits t v → Fits t w
    → length (serialize t v) < 2 ^ 32 → serialize t v ≡ serialize t w → v ≡ w
enc_tells t law v w fit fits small e =
    sym (law.known 0 v fit small).value ∙ ap (value_in t) e
    ∙ (law.known 0 w fits (subst (λ (b : List ℕ). length b < 2 ^ 32) e small)).value

basic_tells : (t : SszType) (z : ℕ) → Agrees t → fixed_size t ≡ Some z → z ≤ 32 → (v w : SszValue)
    → Fits t v → Fits t w → leaf (padded (serialize t v)) ≡ leaf (padded (serialize t w)) → v ≡ w
basic_tells t z law size few v w fit fits h =
    let long : length (serialize t v) ≡ z = law.sized z v size fit in
    let other : length (serialize t w) ≡ z = law.sized z w size fits in
    enc_tells t law v w fit fits (omega (arith, long))
    (same_padded (serialize t v) (serialize t w) (long ∙ sym other) (omega (arith, long))
    (same_leaf _ _ h))

-- elements

all_long : (t : SszType) (z : ℕ) → Agrees t → fixed_size t ≡ Some z → (vs : List SszValue)
    → AllByRecursion (Fits t) vs → length (concat (map (serialize t) vs)) ≡ length vs * z
all_long t z law size [] fit = sym (zero-mul z)
all_long t z law size (v ∷ vs) fit =
    length-append (serialize t v) (concat (map (serialize t) vs))
    ∙ ap₂ ◌+◌ (law.sized z v size fit.0) (all_long t z law size vs fit.1) ∙ omega arith

same_joined : (a b x y : List ℕ) → length a ≡ length b → a ++ x ≡ b ++ y → (a ≡ b) × (x ≡ y)
same_joined a b x y e h = (
  sym (take_at a x (length a) refl) ∙ ap₂ take e h ∙ take_at b y (length b) refl,
  sym (drop_at a x (length a) refl) ∙ ap₂ drop e h ∙ drop_at b y (length b) refl,
)

packed_tells : (t : SszType) (z : ℕ) → Agrees t → fixed_size t ≡ Some z → z ≤ 32
    → (vs ws : List SszValue) → AllByRecursion (Fits t) vs → AllByRecursion (Fits t) ws
    → length vs ≡ length ws → concat (map (serialize t) vs) ≡ concat (map (serialize t) ws)
    → vs ≡ ws
packed_tells t z law size few [] [] fit fits e h = refl
packed_tells t z law size few [] (w ∷ ws) fit fits e h = cc
packed_tells t z law size few (v ∷ vs) [] fit fits e h = cc
packed_tells t z law size few (v ∷ vs) (w ∷ ws) fit fits e h =
    let long : length (serialize t v) ≡ z = law.sized z v size fit.0 in
    let other : length (serialize t w) ≡ z = law.sized z w size fits.0 in
    let both = same_joined (serialize t v) (serialize t w) (concat (map (serialize t) vs))
    (concat (map (serialize t) ws))
    (long ∙ sym other) h in
    ap₂ ◌∷◌ (enc_tells t law v w fit.0 fits.0 (omega (arith, long)) both.0)
    (packed_tells t z law size few vs ws fit.1 fits.1 (omega arith) both.1)

trees_tell : (t : SszType) → TellsApart t → (vs ws : List SszValue) → AllByRecursion (Fits t) vs
    → AllByRecursion (Fits t) ws → map (tree t) vs ≡ map (tree t) ws → vs ≡ ws
trees_tell t law [] [] fit fits h = refl
trees_tell t law [] (w ∷ ws) fit fits h = cc
trees_tell t law (v ∷ vs) [] fit fits h = cc
trees_tell t law (v ∷ vs) (w ∷ ws) fit fits h =
    let first : tree t v ≡ tree t w = cc in
    let others : map (tree t) vs ≡ map (tree t) ws = cc in
    ap₂ ◌∷◌ (law.apart v w fit.0 fits.0 first) (trees_tell t law vs ws fit.1 fits.1 others)

basic_is : (t : SszType) (z : ℕ) → basic_size t ≡ Some z → (fixed_size t ≡ Some z) × (z ≤ 32)
basic_is (uint W8) z e = (e, omega (arith, same_some 1 z e))
basic_is (uint W16) z e = (e, omega (arith, same_some 2 z e))
basic_is (uint W32) z e = (e, omega (arith, same_some 4 z e))
basic_is (uint W64) z e = (e, omega (arith, same_some 8 z e))
basic_is (uint W128) z e = (e, omega (arith, same_some 16 z e))
basic_is (uint W256) z e = (e, omega (arith, same_some 32 z e))
basic_is boolean z e = (e, omega (arith, same_some 1 z e))
basic_is (container fs) z e = cc
basic_is (vector elem n) z e = cc
basic_is (list elem limit) z e = cc
basic_is (bitvector n) z e = cc
basic_is (bitlist limit) z e = cc
basic_is (union os) z e = cc

length-pack : (a : List ℕ) → length (map leaf (pack a)) ≡ (length a + 31) / 32
length-pack a = length-map (pack a) leaf ∙ length-chunks ((length a + 31) / 32) a

-- the leaves below elements, by whether they are basic
leaves_of : Option ℕ → SszType → List SszValue → List Tree
leaves_of size t vs = element_leaves size (map (serialize t) vs) (map (tree t) vs)

elements_tell : (t : SszType) (size : Option ℕ) → basic_size t ≡ size → Agrees t → TellsApart t
    → (d : ℕ) (vs ws : List SszValue) → AllByRecursion (Fits t) vs → AllByRecursion (Fits t) ws
    → length vs ≡ length ws → element_chunks size (length vs) ≤ 2 ^ d
    → merkle_tree d (leaves_of size t vs) ≡ merkle_tree d (leaves_of size t ws) → vs ≡ ws
unfolding leaves_of
elements_tell t (Some z) e law laws d vs ws fit fits same few h =
    let basic = basic_is t z e in
    let long = all_long t z law basic.0 vs fit in
    let other = all_long t z law basic.0 ws fits in
    let equal : length (concat (map (serialize t) vs)) ≡ length (concat (map (serialize t) ws)) =
    long ∙ ap (λ n. n * z) same ∙ sym other in
    let leaves = same_full d (map leaf (pack (concat (map (serialize t) vs))))
    (map leaf (pack (concat (map (serialize t) ws))))
    (length-pack (concat (map (serialize t) vs)) ∙ ap (λ n. (n + 31) / 32) equal
    ∙ sym (length-pack (concat (map (serialize t) ws))))
    (subst (λ (n : ℕ). n ≤ 2 ^ d)
    (sym (length-pack (concat (map (serialize t) vs)) ∙ ap (λ n. (n + 31) / 32) long)) few) h in
    packed_tells t z law basic.0 basic.1 vs ws fit fits same
    (same_pack (concat (map (serialize t) vs)) (concat (map (serialize t) ws)) equal
    (same_leaves _ _ leaves))
elements_tell t None e law laws d vs ws fit fits same few h =
    trees_tell t laws vs ws fit fits
    (same_full d (map (tree t) vs) (map (tree t) ws) (length-map vs (tree t) ∙ same
    ∙ sym (length-map ws (tree t))) (omega (arith, length-map vs (tree t), few)) h)

chunks_le : (t : SszType) (size : Option ℕ) (m n : ℕ) → m ≤ n
    → element_chunks size m ≤ element_chunks size n
chunks_le t (Some z) m n le = div_up (m * z) (n * z) (mul-le-mul_right z le)
  where
    div_up : (a b : ℕ) → a ≤ b → (a + 31) / 32 ≤ (b + 31) / 32
    div_up a b h = omega arith
chunks_le t None m n le = le

vector_tells : (t : SszType) (n : ℕ) → Agrees t → TellsApart t → (v w : SszValue)
    → Fits (vector t n) v → Fits (vector t n) w → tree (vector t n) v ≡ tree (vector t n) w → v ≡ w
unfolding leaves_of
vector_tells t n law laws (sequence vs) (sequence ws) fit fits h =
    sequence_is vs ws (elements_tell t (basic_size t) refl law laws (depth (vector t n)) (items vs)
    (items ws) fit.1 fits.1 (fit.0 ∙ sym fits.0)
    (subst (λ (m : ℕ). element_chunks (basic_size t) m ≤ 2 ^ depth (vector t n)) (sym fit.0)
    (depth_of-holds (element_chunks (basic_size t) n))) h)
vector_tells t n law laws (sequence vs) _ fit fits h = absurd fits
vector_tells t n law laws _ _ fit fits h = absurd fit

list_tells : (t : SszType) (limit : ℕ) → limit ≤ 2 ^ 62 → Agrees t → TellsApart t → (v w : SszValue)
    → Fits (list t limit) v → Fits (list t limit) w → tree (list t limit) v ≡ tree (list t limit) w
    → v ≡ w
unfolding leaves_of
list_tells t limit few law laws (sequence vs) (sequence ws) fit fits h =
    let same = same_number (length (items vs)) (length (items ws)) (omega (arith, fit.0))
    (omega (arith, fits.0)) (same_leaf _ _ (same_right _ _ _ _ h)) in
    let room = chunks_le t (basic_size t) (length (items vs)) limit fit.0 in
    sequence_is vs ws (elements_tell t (basic_size t) refl law laws (depth (list t limit))
    (items vs) (items ws) fit.1 fits.1 same
    (le_trans room (depth_of-holds (element_chunks (basic_size t) limit))) (same_left _ _ _ _ h))
list_tells t limit few law laws (sequence vs) _ fit fits h = absurd fits
list_tells t limit few law laws _ _ fit fits h = absurd fit

-- bits

bits_fit : (n : ℕ) → 2 ^ n ≤ 256 ^ ((n + 7) / 8)
bits_fit n = subst (λ (m : ℕ). 2 ^ n ≤ m) (sym (power_of_bytes ((n + 7) / 8)))
    (power_up n (8 * ((n + 7) / 8)) (omega arith))

same_bits : (xs bs : List Bool) → length xs ≡ length bs
    → le_bytes ((length xs + 7) / 8) (number_of_bits xs)
    ≡ le_bytes ((length bs + 7) / 8) (number_of_bits bs) → xs ≡ bs
same_bits xs bs e h =
    let number_is : (xs : List Bool)
    → le_number (le_bytes ((length xs + 7) / 8) (number_of_bits xs)) ≡ number_of_bits xs =
    λ ys. le_number-le_bytes ((length ys + 7) / 8) (number_of_bits ys)
    (omega (arith, number_of_bits_lt ys, bits_fit (length ys))) in
    let same : number_of_bits xs ≡ number_of_bits bs =
    sym (number_is xs) ∙ ap le_number h ∙ number_is bs in
    sym (bits_of_number-number_of_bits xs) ∙ ap₂ bits_of_number e same
    ∙ bits_of_number-number_of_bits bs

packed_bits_tell : (d : ℕ) (xs bs : List Bool) → length xs ≡ length bs
    → (length xs + 255) / 256 ≤ 2 ^ d
    → merkle_tree d (map leaf (pack_bits xs)) ≡ merkle_tree d (map leaf (pack_bits bs)) → xs ≡ bs
packed_bits_tell d xs bs e few h =
    let long : (xs : List Bool)
    → length (map leaf (pack_bits xs)) ≡ ((length xs + 7) / 8 + 31) / 32 =
    λ xs. length-pack (le_bytes ((length xs + 7) / 8) (number_of_bits xs))
    ∙ ap (λ n. (n + 31) / 32) (length-le_bytes ((length xs + 7) / 8) (number_of_bits xs)) in
    let leaves = same_full d (map leaf (pack_bits xs)) (map leaf (pack_bits bs)) (long xs
    ∙ ap (λ n. ((n + 7) / 8 + 31) / 32) e ∙ sym (long bs)) (omega (arith, long xs)) h in
    same_bits xs bs e
    (same_pack (le_bytes ((length xs + 7) / 8) (number_of_bits xs))
    (le_bytes ((length bs + 7) / 8) (number_of_bits bs))
    (length-le_bytes ((length xs + 7) / 8) (number_of_bits xs) ∙ ap (λ n. (n + 7) / 8) e
    ∙ sym (length-le_bytes ((length bs + 7) / 8) (number_of_bits bs)))
    (same_leaves _ _ leaves))

bitvector_tells : (n : ℕ) (v w : SszValue) → Fits (bitvector n) v → Fits (bitvector n) w
    → tree (bitvector n) v ≡ tree (bitvector n) w → v ≡ w
bitvector_tells n (bits xs) (bits bs) fit fits h =
    ap bits (packed_bits_tell (depth (bitvector n)) xs bs (fit
    ∙ sym fits) (subst (λ (m : ℕ). (m + 255) / 256 ≤ 2 ^ depth (bitvector n)) (sym fit)
    (depth_of-holds ((n + 255) / 256))) h)
bitvector_tells n (bits xs) _ fit fits h = absurd fits
bitvector_tells n _ _ fit fits h = absurd fit

bitlist_tells : (limit : ℕ) → limit ≤ 2 ^ 62 → (v w : SszValue) → Fits (bitlist limit) v
    → Fits (bitlist limit) w → tree (bitlist limit) v ≡ tree (bitlist limit) w → v ≡ w
bitlist_tells limit few (bits xs) (bits bs) fit fits h =
    let same = same_number (length xs) (length bs) (omega (arith, fit)) (omega (arith, fits))
    (same_leaf _ _ (same_right _ _ _ _ h)) in
    ap bits (packed_bits_tell (depth (bitlist limit)) xs bs same
    (omega (arith, depth_of-holds ((limit + 255) / 256), fit)) (same_left _ _ _ _ h))
bitlist_tells limit few (bits xs) _ fit fits h = absurd fits
bitlist_tells limit few _ _ fit fits h = absurd fit

width_few : (w : Width) → byte_count w ≤ 32
width_few W8 = omega arith
width_few W16 = omega arith
width_few W32 = omega arith
width_few W64 = omega arith
width_few W128 = omega arith
width_few W256 = omega arith

limit_few : (format : Format) (limit : ℕ) → limit ≤ greatest_limit format → limit ≤ 2 ^ 62
limit_few One limit legal = omega (arith, legal)
limit_few Two limit legal = legal

-- the law

mutual
  pub tells_apart : (format : Format) (t : SszType) → IsLegal format t → TellsApart t
  tells_apart format (uint w) legal =
      record {
        apart = λ v w' fit fits h.
            basic_tells (uint w) (byte_count w) (agrees format (uint w) legal) refl
            (width_few w) v w' fit fits h;
      }
  tells_apart format boolean legal =
      record {
        apart = λ v w fit fits h.
            basic_tells boolean 1 (agrees format boolean legal) refl (omega arith) v w fit fits h;
      }
  tells_apart format (container fs) legal =
      record { apart = container_tells fs (fields_tell format fs legal.1) }
  tells_apart format (vector elem n) legal =
      record {
        apart = vector_tells elem n (agrees format elem legal.0)
            (tells_apart format elem legal.0);
      }
  tells_apart format (list elem limit) legal =
      record {
        apart = list_tells elem limit (limit_few format limit legal.1)
            (agrees format elem legal.0) (tells_apart format elem legal.0);
      }
  tells_apart format (bitvector n) legal = record { apart = bitvector_tells n }
  tells_apart format (bitlist limit) legal =
      record { apart = bitlist_tells limit (limit_few format limit legal.0) }
  tells_apart format (union os) legal =
      record { apart = union_tells os legal.1 (options_tell format os legal.3) }

  pub fields_tell : (format : Format) (fs : Fields) → AreLegalFields format fs → FieldsTell fs
  fields_tell format no_fields legal =
      record { apart = λ vs ws fit fits h. no_fields_tell vs ws fit fits }
  fields_tell format (field name t fs) legal =
      record {
        apart = field_tells name t fs (tells_apart format t legal.1)
            (fields_tell format fs legal.2);
      }

  pub options_tell : (format : Format) (os : Options) → AreLegalOptions format os → OptionsTell os
  options_tell format no_options legal = no_options_tell
  options_tell format (none_option os) legal = none_option_tells os (options_tell format os legal)
  options_tell format (option t os) legal =
      option_tells t os (tells_apart format t legal.0) (options_tell format os legal.1)
