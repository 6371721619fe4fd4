-- The encodings of single values, as they are written.
use Rattle.std.proofs.Common.{ℕ, zero, suc, ◌≡◌, ◌<◌, ◌≤◌, ◌+◌, ◌/◌, ◌%◌, true, false, List, [], ◌∷◌, ◌++◌, length, map, take, set, slice_get, replicate, Bool, Option, Some, None, refl, sym, ap, ap₂, subst, ◌∙◌, arith}
use Rattle.std.specs.List.{AllByRecursion}
use Rattle.std.proofs.Math.Seq.{take-length}
use Rattle.std.proofs.lemmas.List.{append-nil, length-set, take-append-le}
use Rattle.ssz_schema.specs.width.Width.TheVariants.{W8}
use Rattle.ssz_schema.specs.Types.{SszType, Options, uint, boolean, vector, list, bitvector, bitlist, union}
use Rattle.ssz_schema.specs.Sizes.{fixed_size}
use Rattle.ssz_schema.specs.Unfolding.{type_tree_at, options_over}
use Rattle.ssz_value.specs.declared.value.Value.{Value}
use Rattle.ssz_value.specs.declared.value.Value.TheVariants.{Bits}
use Rattle.ssz_value.proofs.ValueLemmas.{bits_are}
use Rattle.ssz_value.specs.Standing.{value_of, IsValue}
use Rattle.ssz_bytes.specs.Bytes.{le_bytes, bit_value, number_of_bits, delimited, bits_size}
use Rattle.ssz_value.specs.Encoding.{serialize, heads, bodies, heads_length, joined_alike, option_encoding}
use Rattle.ssz_value.specs.Values.{SszValue, number, wide, truth, chosen, chosen_none, bits, sequence, values, items, Fits}
use Rattle.ssz_value.proofs.Sequences.{items-values}
use Rattle.ssz_value.specs.Shapes.{ElementsFit, parts_of}
use Rattle.ssz_codec.proofs.RoomLemmas.{written_at, Writes-fits}
use Rattle.ssz_codec.specs.Writing.{WritesEncoding}

-- the bytes of elements of type uint8
pub bytes_joined : (run : List ℕ)
    → joined_alike (Some 1) (map (serialize (uint W8)) (map number run)) ≡ map (λ b. b % 256) run
bytes_joined run = go run
    (heads_length (replicate (length (map (serialize (uint W8)) (map number run))) (Some 1)))
  where
    none : (run : List ℕ) → bodies
        (replicate (length (map (serialize (uint W8)) (map number run))) (Some 1))
        (map (serialize (uint W8)) (map number run)) ≡ []
    none [] = refl
    none (b ∷ run) = none run

    ones : (run : List ℕ) (o : ℕ)
        → heads (replicate (length (map (serialize (uint W8)) (map number run))) (Some 1))
        (map (serialize (uint W8)) (map number run)) o ≡ map (λ b. b % 256) run
    ones [] o = refl
    ones (b ∷ run) o = ap (λ bs. b % 256 ∷ bs) (ones run o)

    go : (run : List ℕ) (o : ℕ)
        → heads (replicate (length (map (serialize (uint W8)) (map number run))) (Some 1))
        (map (serialize (uint W8)) (map number run)) o ++ bodies
        (replicate (length (map (serialize (uint W8)) (map number run))) (Some 1))
        (map (serialize (uint W8)) (map number run)) ≡ map (λ b. b % 256) run
    go run o = ap₂ (λ xs ys. xs ++ ys) (ones run o) (none run) ∙ append-nil (map (λ b. b % 256) run)

pub small_bytes : (run : List ℕ) → AllByRecursion (Fits (uint W8)) (map number run)
    → map (λ b. b % 256) run ≡ run
small_bytes [] h = refl
small_bytes (b ∷ run) h = let low : b % 256 ≡ b =
    omega (arith, h.0) in ap₂ (λ x xs. x ∷ xs) low (small_bytes run h.1)

-- single bytes

set_first : (room : List ℕ) (x : ℕ) → 0 < length room → take 1 (set room 0 x) ≡ x ∷ []
set_first [] x h = absurd (omega arith)
set_first (y ∷ room) x h = refl

pub flag_writes : (w : SszValue) (b : Bool) (x : ℕ) (room : List ℕ) → w ≡ truth b
    → length (serialize boolean w) ≤ length room → x ≡ bit_value b
    → WritesEncoding (serialize boolean w) 1 (set room 0 x)
flag_writes w b x room e h is =
    let bytes : serialize boolean w ≡ bit_value b ∷ [] = ap (serialize boolean) e in
    record {
      count = sym (ap length bytes);
      bytes =
          set_first room x (omega (arith, h, ap length bytes)) ∙ ap (λ y. y ∷ []) is ∙ sym bytes;
    }

-- the encoding of a value of a union
option_encoding_at : (trees : List SszType) (ids : List (Option ℕ)) (k id : ℕ) (w : SszValue)
    → Some (Some id) ≡ slice_get ids k
    → option_encoding (options_over trees ids) k w ≡ serialize (type_tree_at trees id) w
option_encoding_at trees [] k id w e = cc
option_encoding_at trees (None ∷ ids) zero id w e = cc
option_encoding_at trees (Some other ∷ ids) zero id w e = let same : other ≡ id =
    cc in ap (λ n. serialize (type_tree_at trees n) w) same
option_encoding_at trees (None ∷ ids) (suc k) id w e = option_encoding_at trees ids k id w e
option_encoding_at trees (Some other ∷ ids) (suc k) id w e = option_encoding_at trees ids k id w e

pub chosen_bytes : (trees : List SszType) (ids : List (Option ℕ)) (k id : ℕ)
    (whole inner : SszValue) → whole ≡ chosen k inner → Some (Some id) ≡ slice_get ids k
    → serialize (union (options_over trees ids)) whole ≡ k ∷ serialize (type_tree_at trees id) inner
chosen_bytes trees ids k id whole inner is e =
    ap (serialize (union (options_over trees ids))) is
    ∙ ap (λ bytes. k ∷ bytes) (option_encoding_at trees ids k id inner e)

pub chosen_writes : (bytes inner room sub post : List ℕ) (k n : ℕ) → bytes ≡ k ∷ inner
    → 0 < length room → WritesEncoding inner n sub
    → WritesEncoding bytes (1 + n) (take 1 (set room 0 k) ++ (sub ++ post))
chosen_writes bytes inner room sub post k n e some h =
    let one : 1 ≤ length (set room 0 k) = omega (arith, length-set room 0 k) in
    record {
      count = omega (arith, h.count, ap length e);
      bytes = written_at (set room 0 k) sub post 1 n one (Writes-fits inner sub n h)
          ∙ ap₂ (λ xs ys. xs ++ ys) (set_first room k some) h.bytes ∙ sym e;
    }

pub none_writes : (os : Options) (w : SszValue) (k : ℕ) (room : List ℕ) → w ≡ chosen_none k
    → length (serialize (union os) w) ≤ length room
    → WritesEncoding (serialize (union os) w) 1 (set room 0 k)
none_writes os w k room e h =
    let bytes : serialize (union os) w ≡ k ∷ [] = ap (serialize (union os)) e in
    record {
      count = sym (ap length bytes);
      bytes =
          set_first room k (omega (arith, h, ap length bytes)) ∙ sym bytes;
    }

-- a vector or list is its parts
pub vector_enc : (t : SszType) (n : ℕ) (w : SszValue)
    → serialize (vector t n) w ≡ joined_alike (fixed_size t) (map (serialize t) (parts_of w))
vector_enc t n (sequence vs) = refl
vector_enc t n (number k) = refl
vector_enc t n (wide bytes) = refl
vector_enc t n (truth b) = refl
vector_enc t n (bits bs) = refl
vector_enc t n (chosen k w) = refl
vector_enc t n (chosen_none k) = refl

pub list_enc : (t : SszType) (n : ℕ) (w : SszValue)
    → serialize (list t n) w ≡ joined_alike (fixed_size t) (map (serialize t) (parts_of w))
list_enc t n (sequence vs) = refl
list_enc t n (number k) = refl
list_enc t n (wide bytes) = refl
list_enc t n (truth b) = refl
list_enc t n (bits bs) = refl
list_enc t n (chosen k w) = refl
list_enc t n (chosen_none k) = refl

-- the encoding of bits, as they are written
bitvector_enc : (n : ℕ) (bs : List Bool) → Fits (bitvector n) (bits bs)
    → serialize (bitvector n) (bits bs)
    ≡ le_bytes (bits_size false (length bs)) (number_of_bits (delimited false bs))
bitvector_enc n bs h = ap (λ m. le_bytes ((m + 7) / 8) (number_of_bits bs)) (sym h)

pub bitvector_run : (n : ℕ) (v : Value) (run : List Bool) → v ≡ Bits run → IsValue (bitvector n) v
    → serialize (bitvector n) (value_of v)
    ≡ le_bytes (bits_size false (length run)) (number_of_bits (delimited false run))
bitvector_run n v run is h =
    let whole : value_of v ≡ bits run = ap value_of is ∙ bits_are run in
    ap (serialize (bitvector n)) whole
    ∙ bitvector_enc n run (subst (Fits (bitvector n)) whole h.fits)

pub bitlist_run : (limit : ℕ) (v : Value) (run : List Bool) → v ≡ Bits run
    → IsValue (bitlist limit) v
    → serialize (bitlist limit) (value_of v)
    ≡ le_bytes (bits_size true (length run)) (number_of_bits (delimited true run))
bitlist_run limit v run is h = ap (serialize (bitlist limit)) (ap value_of is ∙ bits_are run)

-- bytes that stand as they are
pub run_writes : (bytes room run post : List ℕ) (n : ℕ) → bytes ≡ run → n ≡ length run → room ≡ run
    → WritesEncoding bytes n (room ++ post)
run_writes bytes room run post n e is same = record {
  count = is ∙ sym (ap length e);
  bytes = ap₂ (λ m r. take m (r ++ post)) is same
      ∙ take-append-le (length run) run post (omega arith) ∙ take-length run ∙ sym e;
}

-- a sequence of bytes, whose elements are uint8
pub run_bytes : (t : SszType) (w : SszValue) (run : List ℕ) → t ≡ uint W8
    → parts_of w ≡ map number run → ElementsFit t w → w ≡ sequence (values (map number run))
    → joined_alike (fixed_size t) (map (serialize t) (parts_of w)) ≡ run
run_bytes t w run byte parts fit is =
    let all : AllByRecursion (Fits (uint W8)) (items (values (map number run))) =
    subst (ElementsFit (uint W8)) is (subst (λ (ty : SszType). ElementsFit ty w) byte fit) in
    ap₂ (λ ty vs. joined_alike (fixed_size ty) (map (serialize ty) vs)) byte parts
    ∙ bytes_joined run
    ∙ small_bytes run (subst (AllByRecursion (Fits (uint W8))) (items-values (map number run)) all)
