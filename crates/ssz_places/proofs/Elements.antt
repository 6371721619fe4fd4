-- Laws of the elements of a sequence, as they stand below its tree.
use Rattle.std.proofs.Common.{◌≡◌, ◌≢◌, ℕ, zero, suc, ◌+◌, ◌*◌, ◌/◌, ◌%◌, ◌<◌, ◌≤◌, List, [], ◌∷◌, length, get_or, drop, map, replicate, refl, sym, ap, ◌∙◌, subst, Option, Some, None, arith, slice_get}
use Rattle.std.proofs.lemmas.List.{length-replicate, get_or-replicate}
use Rattle.std.specs.List.{concat, AllByRecursion}
use Rattle.std.specs.Option.{option_map_or}
use Rattle.std.proofs.lemmas.Option.{same_Some, none-some}
use Rattle.ssz_schema.specs.width.Width.{Width}
use Rattle.ssz_schema.specs.width.Width.TheVariants.{W8, W16, W32, W64, W128, W256}
use Rattle.ssz_schema.specs.Types.{SszType, uint, boolean, container, vector, list, bitvector, bitlist, union}
use Rattle.ssz_schema.specs.Sizes.{basic_size, byte_count}
use Rattle.ssz_value.specs.Values.{SszValue, Fits}
use Rattle.ssz_value.specs.Encoding.{serialize}
use Rattle.ssz_chunk.specs.Tree.{Tree, leaf, place}
use Rattle.ssz_chunk.specs.Chunk.{zero_chunk}
use Rattle.ssz_value.specs.Trees.{tree, padded, element_leaves}
use Rattle.ssz_value.proofs.Basic.{number_sized, truth_sized}
use Rattle.ssz_schema.specs.Indices.{element_position, element_spot, byte}
use Rattle.ssz_places.specs.Spots.{HasPart, with_part, without_part, spot_written}
use Rattle.ssz_chunk.proofs.FullTrees.{AgreeBut}
use Rattle.ssz_places.proofs.Packing.{AreSized, SameBut, place-pack, other-chunk, chunk-written, chunk-part}

-- a basic type of z bytes
pub record IsBasic (t : SszType) (z : ℕ) : Type 0 where
  pub pos : 0 < z
  pub inside : (i : ℕ) → i * z % 32 + z ≤ 32
  pub sized : (v : SszValue) → Fits t v → length (serialize t v) ≡ z

width_pos : (w : Width) → 0 < byte_count w
width_pos W8 = omega arith
width_pos W16 = omega arith
width_pos W32 = omega arith
width_pos W64 = omega arith
width_pos W128 = omega arith
width_pos W256 = omega arith

width_inside : (w : Width) (i : ℕ) → i * byte_count w % 32 + byte_count w ≤ 32
width_inside W8 i = omega arith
width_inside W16 i = omega arith
width_inside W32 i = omega arith
width_inside W64 i = omega arith
width_inside W128 i = omega arith
width_inside W256 i = omega arith

pub is_basic : (t : SszType) (z : ℕ) → basic_size t ≡ Some z → IsBasic t z
is_basic (uint w) z e =
    subst (IsBasic (uint w)) (same_Some (byte_count w) z e)
    (record { pos = width_pos w; inside = width_inside w; sized = number_sized w })
is_basic boolean z e =
    subst (IsBasic boolean) (same_Some 1 z e)
    (record { pos = omega arith; inside = λ i. omega arith; sized = truth_sized })
is_basic (container fs) z e = absurd (none-some z e)
is_basic (vector t n) z e = absurd (none-some z e)
is_basic (list t n) z e = absurd (none-some z e)
is_basic (bitvector n) z e = absurd (none-some z e)
is_basic (bitlist n) z e = absurd (none-some z e)
is_basic (union os) z e = absurd (none-some z e)

pub AreSized-enc : (t : SszType) (z : ℕ) → IsBasic t z → (vs : List SszValue)
    → AllByRecursion (Fits t) vs → AreSized z (map (serialize t) vs)
AreSized-enc t z basic [] fit = tt
AreSized-enc t z basic (v ∷ vs) fit = (basic.sized v fit.0, AreSized-enc t z basic vs fit.1)

-- Two lists with the same elements but at one place.
abbrev pub SameItems : {X : Type 0} → ℕ → List X → List X → Type 0
SameItems i xs ys = (k : ℕ) → k ≢ i → slice_get ys k ≡ slice_get xs k

pub get_or-map : {X Y : Type 0} (f : X → Y) (xs : List X) (k : ℕ) (d : Y)
    → get_or (map f xs) k d ≡ option_map_or f (slice_get xs k) d
get_or-map f [] k d = refl
get_or-map f (x ∷ xs) zero d = refl
get_or-map f (x ∷ xs) (suc k) d = get_or-map f xs k d

pub SameBut-map : {X Y : Type 0} (f : X → Y) (d : Y) (i : ℕ) (xs ys : List X) → SameItems i xs ys
    → SameBut i d (map f xs) (map f ys)
SameBut-map f d i xs ys same k other =
    get_or-map f ys k d ∙ ap (λ o. option_map_or f o d) (same k other) ∙ sym (get_or-map f xs k d)

pub map-at : {X Y : Type 0} (f : X → Y) (d : Y) (i : ℕ) (xs : List X) (x : X)
    → slice_get xs i ≡ Some x → get_or (map f xs) i d ≡ f x
map-at f d i xs x e = get_or-map f xs i d ∙ ap (λ o. option_map_or f o d) e

pub map-past : {X Y : Type 0} (f : X → Y) (d : Y) (i : ℕ) (xs : List X) → slice_get xs i ≡ None
    → get_or (map f xs) i d ≡ d
map-past f d i xs e = get_or-map f xs i d ∙ ap (λ o. option_map_or f o d) e

-- the trees below that of elements
abbrev pub leaves_of : Option ℕ → SszType → List SszValue → List Tree
leaves_of size t vs = element_leaves size (map (serialize t) vs) (map (tree t) vs)

-- the node of the element of this number has it
pub HasPart-elements : (t : SszType) (size : Option ℕ) → basic_size t ≡ size
    → (vs : List SszValue) (i : ℕ) (v : SszValue) → AllByRecursion (Fits t) vs → Fits t v
    → slice_get vs i ≡ Some v
    → HasPart (element_spot size i) t v (place (leaves_of size t vs) (element_position size i))
HasPart-elements t None e vs i v fit fits found = map-at (tree t) (leaf zero_chunk) i vs v found
HasPart-elements t (Some z) e vs i v fit fits found =
    let basic = is_basic t z e in
    subst (HasPart (byte (i * z % 32)) t v)
    (sym (place-pack (i * z / 32) (concat (map (serialize t) vs))))
    (chunk-part z i (map (serialize t) vs) (serialize t v) (basic.inside i)
    (AreSized-enc t z basic vs fit)
    (basic.sized v fits) (map-at (serialize t) [] i vs v found))

-- Elements of which that of number i changes.
module _ (t : SszType) (i : ℕ) (vs ws : List SszValue) (fit : AllByRecursion (Fits t) vs)
    (fit_too : AllByRecursion (Fits t) ws) (same : SameItems i vs ws) where
  -- the other nodes stay
  pub AgreeBut-elements : (size : Option ℕ) → basic_size t ≡ size → (n : ℕ)
      → AgreeBut n (element_position size i) (leaves_of size t vs) (leaves_of size t ws)
  AgreeBut-elements None e n k below other =
      SameBut-map (tree t) (leaf zero_chunk) i vs ws same k other
  AgreeBut-elements (Some z) e n k below other =
      let basic = is_basic t z e in
      place-pack k (concat (map (serialize t) ws))
      ∙ ap leaf (other-chunk z i (map (serialize t) vs) (map (serialize t) ws) basic.pos
      (basic.inside i)
      (AreSized-enc t z basic vs fit) (AreSized-enc t z basic ws fit_too)
      (SameBut-map (serialize t) [] i vs ws same) k other)
      ∙ sym (place-pack k (concat (map (serialize t) vs)))

  -- the element's node, written over
  pub place-changed : (size : Option ℕ) → basic_size t ≡ size → (w : SszValue) → Fits t w
      → slice_get ws i ≡ Some w
      → place (leaves_of size t ws) (element_position size i) ≡ with_part (element_spot size i) t w
      (place (leaves_of size t vs) (element_position size i))
  place-changed None e w fits found = map-at (tree t) (leaf zero_chunk) i ws w found
  place-changed (Some z) e w fits found =
      let basic = is_basic t z e in
      place-pack (i * z / 32) (concat (map (serialize t) ws))
      ∙ ap leaf (chunk-written z i (map (serialize t) vs) (map (serialize t) ws) basic.pos
      (basic.inside i)
      (AreSized-enc t z basic vs fit) (AreSized-enc t z basic ws fit_too)
      (SameBut-map (serialize t) [] i vs ws same)
      (serialize t w) (basic.sized w fits)
      (λ k below. ap (λ x. get_or x k 0) (map-at (serialize t) [] i ws w found)))
      ∙ ap (with_part (byte (i * z % 32)) t w)
      (sym (place-pack (i * z / 32) (concat (map (serialize t) vs))))

  -- the element's node, with nothing there
  pub place-emptied : (size : Option ℕ) → basic_size t ≡ size → slice_get ws i ≡ None
      → place (leaves_of size t ws) (element_position size i) ≡ without_part
      (element_spot size i) t (place (leaves_of size t vs) (element_position size i))
  place-emptied None e gone = map-past (tree t) (leaf zero_chunk) i ws gone
  place-emptied (Some z) e gone =
      let basic = is_basic t z e in
      place-pack (i * z / 32) (concat (map (serialize t) ws))
      ∙ ap leaf (chunk-written z i (map (serialize t) vs) (map (serialize t) ws) basic.pos
      (basic.inside i)
      (AreSized-enc t z basic vs fit) (AreSized-enc t z basic ws fit_too)
      (SameBut-map (serialize t) [] i vs ws same)
      (replicate z 0) (length-replicate z 0)
      (λ k below. ap (λ x. get_or x k 0) (map-past (serialize t) [] i ws gone)
      ∙ sym (get_or-replicate z k 0 0 below)))
      ∙ ap (λ y. leaf (spot_written
      (padded (drop (32 * (i * z / 32)) (concat (map (serialize t) vs))))
      (i * z % 32) (replicate y 0))) (sym (ap (λ o. option_map_or (λ x. x) o 0) e))
      ∙ ap (without_part (byte (i * z % 32)) t)
      (sym (place-pack (i * z / 32) (concat (map (serialize t) vs))))
