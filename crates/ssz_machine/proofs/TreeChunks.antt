-- Each root in the tree of a value that fits is a chunk.
use Rattle.std.proofs.Common.{ℕ, zero, suc, ◌+◌, ◌/◌, ◌^◌, ◌≡◌, Bool, true, false, List, [], ◌∷◌, ◌++◌, length, map, take, drop, replicate, Some, refl, subst, arith, length-take, length-append}
use Rattle.std.specs.List.{AllByRecursion, concat}
use Rattle.ssz_chunk.specs.Chunk.{IsChunk, zero_chunk}
use Rattle.ssz_chunk.specs.Tree.{Tree, leaf, pair, root, merkle_tree}
use Rattle.ssz_chunk.specs.Index.{at_way, at, way}
use Rattle.ssz_proof.specs.Calculation.{PairOf}
use Rattle.ssz_schema.specs.width.Width.{Width}
use Rattle.ssz_schema.specs.width.Width.TheVariants.{W8, W16, W32, W64, W128, W256}
use Rattle.ssz_schema.specs.Types.{SszType, Fields, Options, uint, boolean, container, vector, list, bitvector, bitlist, union, no_fields, field, no_options, none_option, option}
use Rattle.ssz_schema.specs.Sizes.{byte_count, basic_size, depth}
use Rattle.ssz_bytes.specs.Bytes.{IsBytes, le_bytes, bit_value, number_of_bits}
use Rattle.ssz_bytes.proofs.Numbers.{IsBytes-take, IsBytes-drop, IsBytes-le_bytes}
use Rattle.ssz_value.specs.Values.{SszValue, number, wide, truth, sequence, bits, chosen, chosen_none, items, Fits, FitFields, FitsOption}
use Rattle.ssz_value.specs.Encoding.{serialize}
use Rattle.ssz_value.specs.Trees.{padded, chunks, pack, pack_bits, number_chunk, element_leaves, tree, field_trees, option_tree}
use Rattle.ssz_machine.specs.Proofs.{MakesChunks}

-- each leaf holds a chunk
abbrev pub HoldsChunks : Tree → Type 0
HoldsChunks (leaf chunk) = IsChunk chunk
HoldsChunks (pair left right) = HoldsChunks left × HoldsChunks right

-- the root of such a tree is a chunk
pub root_chunk : (pair_of : PairOf) → MakesChunks pair_of → (t : Tree) → HoldsChunks t
    → IsChunk (root pair_of t)
root_chunk pair_of makes (leaf chunk) holds = holds
root_chunk pair_of makes (pair left right) holds =
    makes (root pair_of left) (root pair_of right) (root_chunk pair_of makes left holds.0)
    (root_chunk pair_of makes right holds.1)

same-some : {A : Type 0} (x y : A) → Some x ≡ Some y → x ≡ y
same-some x y same = cc

-- and so is what it has at any index
way_holds : (t node : Tree) (steps : List Bool) → at_way t steps ≡ Some node → HoldsChunks t
    → HoldsChunks node
way_holds t node [] found holds = subst HoldsChunks (same-some t node found) holds
way_holds (leaf chunk) node (step ∷ steps) found holds = cc
way_holds (pair left right) node (false ∷ steps) found holds =
    way_holds left node steps found holds.0
way_holds (pair left right) node (true ∷ steps) found holds =
    way_holds right node steps found holds.1

pub at_holds : (t node : Tree) (index : ℕ) → at t index ≡ Some node → HoldsChunks t
    → HoldsChunks node
at_holds t node zero found holds = cc
at_holds t node (suc n) found holds = way_holds t node (way (suc n)) found holds

-- bytes

IsBytes-append : (a b : List ℕ) → IsBytes a → IsBytes b → IsBytes (a ++ b)
IsBytes-append [] b first second = second
IsBytes-append (x ∷ a) b first second =
    elim [ zero ↦ first zero | suc i ↦ IsBytes-append a b (λ j. first (suc j)) second i ]

IsBytes-zeros : (n : ℕ) → IsBytes (replicate n 0)
IsBytes-zeros zero = λ i. omega arith
IsBytes-zeros (suc n) = elim [ zero ↦ omega arith | suc i ↦ IsBytes-zeros n i ]

IsBytes-concat : (bs : List (List ℕ)) → AllByRecursion IsBytes bs → IsBytes (concat bs)
IsBytes-concat [] all = λ i. omega arith
IsBytes-concat (b ∷ bs) all = IsBytes-append b (concat bs) all.0 (IsBytes-concat bs all.1)

zero_is_chunk : IsChunk zero_chunk
zero_is_chunk = record { count = refl; bytes = IsBytes-zeros 32 }

padded_is_chunk : (bytes : List ℕ) → IsBytes bytes → IsChunk (padded bytes)
padded_is_chunk bytes are = record {
  count = omega (arith, length-take 32 (bytes ++ zero_chunk), length-append bytes zero_chunk);
  bytes = IsBytes-take 32 (bytes ++ zero_chunk)
      (IsBytes-append bytes zero_chunk are (IsBytes-zeros 32));
}

chunks_are : (count : ℕ) (bytes : List ℕ) → IsBytes bytes
    → AllByRecursion IsChunk (chunks count bytes)
chunks_are zero bytes are = tt
chunks_are (suc count) bytes are =
    (padded_is_chunk bytes are, chunks_are count (drop 32 bytes) (IsBytes-drop 32 bytes are))

leaves_hold : (cs : List (List ℕ)) → AllByRecursion IsChunk cs
    → AllByRecursion HoldsChunks (map leaf cs)
leaves_hold [] all = tt
leaves_hold (c ∷ cs) all = (all.0, leaves_hold cs all.1)

pack_holds : (bytes : List ℕ) → IsBytes bytes → AllByRecursion HoldsChunks (map leaf (pack bytes))
pack_holds bytes are = leaves_hold (pack bytes) (chunks_are ((length bytes + 31) / 32) bytes are)

length-number : (n : ℕ) → length (number_chunk n) ≡ 32
length-number n = refl

number_is_chunk : (n : ℕ) → IsChunk (number_chunk n)
number_is_chunk n = record { count = length-number n; bytes = IsBytes-le_bytes 32 n }

-- full trees

all-take : {A : Type 0} (P : A → Type 0) (n : ℕ) (xs : List A) → AllByRecursion P xs
    → AllByRecursion P (take n xs)
all-take P zero xs all = tt
all-take P (suc n) [] all = tt
all-take P (suc n) (x ∷ xs) all = (all.0, all-take P n xs all.1)

all-drop : {A : Type 0} (P : A → Type 0) (n : ℕ) (xs : List A) → AllByRecursion P xs
    → AllByRecursion P (drop n xs)
all-drop P zero xs all = all
all-drop P (suc n) [] all = tt
all-drop P (suc n) (x ∷ xs) all = all-drop P n xs all.1

full_holds : (d : ℕ) (trees : List Tree) → AllByRecursion HoldsChunks trees
    → HoldsChunks (merkle_tree d trees)
unfolding merkle_tree
full_holds zero [] all = zero_is_chunk
full_holds zero (t ∷ trees) all = all.0
full_holds (suc d) trees all = (
  full_holds d (take (2 ^ d) trees) (all-take HoldsChunks (2 ^ d) trees all),
  full_holds d (drop (2 ^ d) trees) (all-drop HoldsChunks (2 ^ d) trees all),
)

-- basic values

bit_is_byte : (b : Bool) → IsBytes (bit_value b ∷ [])
bit_is_byte true = elim [ zero ↦ omega arith | suc i ↦ omega arith ]
bit_is_byte false = elim [ zero ↦ omega arith | suc i ↦ omega arith ]

nothing_is_bytes : IsBytes []
nothing_is_bytes = λ i. omega arith

uint_bytes : (w : Width) (v : SszValue) → Fits (uint w) v → IsBytes (serialize (uint w) v)
uint_bytes w (number n) fits = IsBytes-le_bytes (byte_count w) n
uint_bytes W256 (wide bytes) fits = fits.1
uint_bytes W8 (wide bytes) fits = absurd fits
uint_bytes W16 (wide bytes) fits = absurd fits
uint_bytes W32 (wide bytes) fits = absurd fits
uint_bytes W64 (wide bytes) fits = absurd fits
uint_bytes W128 (wide bytes) fits = absurd fits
uint_bytes w v fits = nothing_is_bytes

boolean_bytes : (v : SszValue) → IsBytes (serialize boolean v)
boolean_bytes (truth b) = bit_is_byte b
boolean_bytes v = nothing_is_bytes

-- what is so of each is so of what is made of each
all-map : {A B : Type 0} (P : A → Type 0) (Q : B → Type 0) (f : A → B)
    → ((x : A) → P x → Q (f x)) → (xs : List A) → AllByRecursion P xs
    → AllByRecursion Q (map f xs)
all-map P Q f so [] all = tt
all-map P Q f so (x ∷ xs) all = (so x all.0, all-map P Q f so xs all.1)

-- the trees of a type's values hold chunks
pub record TreesHold (t : SszType) : Type 0 where
  pub all : (v : SszValue) → Fits t v → HoldsChunks (tree t v)

pub record FieldsHold (fs : Fields) : Type 0 where
  pub all : (vs : List SszValue) → FitFields fs vs
      → AllByRecursion HoldsChunks (field_trees fs vs)

pub record OptionsHold (os : Options) : Type 0 where
  pub all : (k : ℕ) (v : SszValue) → FitsOption os k v → HoldsChunks (option_tree os k v)

basic_leaves : (elem : SszType) → ((v : SszValue) → Fits elem v → IsBytes (serialize elem v))
    → (vs : List SszValue) → AllByRecursion (Fits elem) vs
    → AllByRecursion HoldsChunks (map leaf (pack (concat (map (serialize elem) vs))))
basic_leaves elem bytes vs fits =
    pack_holds (concat (map (serialize elem) vs))
    (IsBytes-concat (map (serialize elem) vs)
    (all-map (Fits elem) IsBytes (serialize elem) bytes vs fits))

-- the leaves of elements
elements_hold : (elem : SszType) (vs : List SszValue) → AllByRecursion (Fits elem) vs
    → AllByRecursion HoldsChunks (map (tree elem) vs)
    → AllByRecursion HoldsChunks
    (element_leaves (basic_size elem) (map (serialize elem) vs) (map (tree elem) vs))
elements_hold (uint w) vs fits trees = basic_leaves (uint w) (uint_bytes w) vs fits
elements_hold boolean vs fits trees = basic_leaves boolean (λ v _. boolean_bytes v) vs fits
elements_hold (container fs) vs fits trees = trees
elements_hold (vector elem n) vs fits trees = trees
elements_hold (list elem limit) vs fits trees = trees
elements_hold (bitvector n) vs fits trees = trees
elements_hold (bitlist limit) vs fits trees = trees
elements_hold (union os) vs fits trees = trees

sequence_holds : (elem : SszType) → TreesHold elem → (d : ℕ) (vs : List SszValue)
    → AllByRecursion (Fits elem) vs
    → HoldsChunks (merkle_tree d
    (element_leaves (basic_size elem) (map (serialize elem) vs) (map (tree elem) vs)))
sequence_holds elem trees d vs fits =
    full_holds d _ (elements_hold elem vs fits
    (all-map (Fits elem) HoldsChunks (tree elem) trees.all vs fits))

bits_hold : (d : ℕ) (bs : List Bool) → HoldsChunks (merkle_tree d (map leaf (pack_bits bs)))
bits_hold d bs =
    full_holds d _ (pack_holds (le_bytes ((length bs + 7) / 8) (number_of_bits bs))
    (IsBytes-le_bytes ((length bs + 7) / 8) (number_of_bits bs)))

container_holds : (fs : Fields) → FieldsHold fs → (v : SszValue) → Fits (container fs) v
    → HoldsChunks (tree (container fs) v)
container_holds fs fields (sequence vs) fits =
    full_holds (depth (container fs)) (field_trees fs (items vs)) (fields.all (items vs) fits)
container_holds fs fields v fits = zero_is_chunk

vector_holds : (elem : SszType) (n : ℕ) → TreesHold elem → (v : SszValue)
    → Fits (vector elem n) v → HoldsChunks (tree (vector elem n) v)
vector_holds elem n trees (sequence vs) fits =
    sequence_holds elem trees (depth (vector elem n)) (items vs) fits.1
vector_holds elem n trees v fits = zero_is_chunk

list_holds : (elem : SszType) (limit : ℕ) → TreesHold elem → (v : SszValue)
    → Fits (list elem limit) v → HoldsChunks (tree (list elem limit) v)
list_holds elem limit trees (sequence vs) fits = (
  sequence_holds elem trees (depth (list elem limit)) (items vs) fits.1,
  number_is_chunk (length (items vs)),
)
list_holds elem limit trees v fits = zero_is_chunk

bitvector_holds : (n : ℕ) (v : SszValue) → HoldsChunks (tree (bitvector n) v)
bitvector_holds n (bits bs) = bits_hold (depth (bitvector n)) bs
bitvector_holds n v = zero_is_chunk

bitlist_holds : (limit : ℕ) (v : SszValue) → HoldsChunks (tree (bitlist limit) v)
bitlist_holds limit (bits bs) =
    (bits_hold (depth (bitlist limit)) bs, number_is_chunk (length bs))
bitlist_holds limit v = zero_is_chunk

union_holds : (os : Options) → OptionsHold os → (v : SszValue) → Fits (union os) v
    → HoldsChunks (tree (union os) v)
union_holds os options (chosen k v) fits = (options.all k v fits, number_is_chunk k)
union_holds os options (chosen_none k) fits = (zero_is_chunk, number_is_chunk k)
union_holds os options v fits = zero_is_chunk

no_fields_hold : (vs : List SszValue) → AllByRecursion HoldsChunks (field_trees no_fields vs)
no_fields_hold vs = tt

field_holds : (name : List ℕ) (t : SszType) (fs : Fields) → TreesHold t → FieldsHold fs
    → (vs : List SszValue) → FitFields (field name t fs) vs
    → AllByRecursion HoldsChunks (field_trees (field name t fs) vs)
field_holds name t fs first rest [] fits = tt
field_holds name t fs first rest (v ∷ vs) fits = (first.all v fits.0, rest.all vs fits.1)

no_options_hold : (k : ℕ) (v : SszValue) → HoldsChunks (option_tree no_options k v)
no_options_hold k v = zero_is_chunk

none_option_holds : (os : Options) → OptionsHold os → (k : ℕ) (v : SszValue)
    → FitsOption (none_option os) k v → HoldsChunks (option_tree (none_option os) k v)
none_option_holds os rest zero v fits = zero_is_chunk
none_option_holds os rest (suc k) v fits = rest.all k v fits

option_holds : (t : SszType) (os : Options) → TreesHold t → OptionsHold os → (k : ℕ)
    (v : SszValue) → FitsOption (option t os) k v → HoldsChunks (option_tree (option t os) k v)
option_holds t os first rest zero v fits = first.all v fits
option_holds t os first rest (suc k) v fits = rest.all k v fits

mutual
  pub trees_hold : (t : SszType) → TreesHold t
  trees_hold (uint w) =
      record { all = λ v fits. padded_is_chunk (serialize (uint w) v) (uint_bytes w v fits) }
  trees_hold boolean =
      record { all = λ v fits. padded_is_chunk (serialize boolean v) (boolean_bytes v) }
  trees_hold (container fs) = record { all = container_holds fs (fields_hold fs) }
  trees_hold (vector elem n) = record { all = vector_holds elem n (trees_hold elem) }
  trees_hold (list elem limit) = record { all = list_holds elem limit (trees_hold elem) }
  trees_hold (bitvector n) = record { all = λ v fits. bitvector_holds n v }
  trees_hold (bitlist limit) = record { all = λ v fits. bitlist_holds limit v }
  trees_hold (union os) = record { all = union_holds os (options_hold os) }

  pub fields_hold : (fs : Fields) → FieldsHold fs
  fields_hold no_fields = record { all = λ vs fits. no_fields_hold vs }
  fields_hold (field name t fs) =
      record { all = field_holds name t fs (trees_hold t) (fields_hold fs) }

  pub options_hold : (os : Options) → OptionsHold os
  options_hold no_options = record { all = λ k v fits. no_options_hold k v }
  options_hold (none_option os) = record { all = none_option_holds os (options_hold os) }
  options_hold (option t os) =
      record { all = option_holds t os (trees_hold t) (options_hold os) }

-- the tree of a value that fits holds chunks
pub tree_holds : (t : SszType) (v : SszValue) → Fits t v → HoldsChunks (tree t v)
tree_holds t v fits = (trees_hold t).all v fits
