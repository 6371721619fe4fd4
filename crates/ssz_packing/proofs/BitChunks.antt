-- The chunks of a bit list without its delimiter.
use Rattle.ssz_schema.specs.format.Format.{Format}
use Rattle.std.proofs.Common.{◌≡◌, ◌≢◌, ℕ, zero, suc, ◌+◌, ◌-◌, ◌*◌, ◌/◌, ◌%◌, ◌^◌, ◌<◌, ◌≤◌, Bool, true, false, List, [], ◌∷◌, ◌++◌, length, take, drop, get_or, slice_set, replicate, None, refl, sym, ap, ap₂, subst, ◌∙◌, ⊎_elim, arith, ltb, ltb-false, eqb, length-drop, length-set, length-append}
use Rattle.std.proofs.Math.Seq.{take-set-lt}
use Rattle.std.proofs.lemmas.Bool.{cases_lt, cases_eq}
use Rattle.std.proofs.lemmas.Nat.{pow-add}
use Rattle.std.proofs.lemmas.List.{drop-set-add, drop-set-lt, take-set-le, drop_all}
use Rattle.ssz_chunk.specs.Chunk.{zero_chunk}
use Rattle.ssz_chunk.specs.Tree.{root, merkle_tree, merkle_pairs}
use Rattle.ssz_schema.specs.Types.{SszType, bitlist}
use Rattle.ssz_schema.specs.Sizes.{depth}
use Rattle.ssz_bytes.specs.Bytes.{IsBytes, le_bytes, le_number, number_of_bits, bits_of_number}
use Rattle.ssz_value.specs.Faults.{first_fault}
use Rattle.ssz_value.specs.Reading.{value_in}
use Rattle.ssz_value.specs.Trees.{tree, padded, chunks, pack, pack_bits, number_chunk}
use Rattle.ssz_value.proofs.Agree.{IsInput}
use Rattle.ssz_value.proofs.Cut.{passes}
use Rattle.ssz_bytes.proofs.Numbers.{length-le_bytes, le_bytes_of}
use Rattle.ssz_basic.proofs.LastByte.{last_byte_is}
use Rattle.ssz_merkle.specs.Frontier.{leaves}
use Rattle.ssz_merkle.specs.Packing.{packed_chunk}
use Rattle.ssz_packing.specs.Bits.{undelimited}
use Rattle.ssz_schema.proofs.DepthLemmas.{depth_of-holds}
use Rattle.ssz_packing.proofs.Bounds.{levels_few, limit_few}
use Rattle.ssz_schema.specs.Legal.{IsLegal}
use Rattle.ssz_bytes.specs.Faults.{bitlist_length, last_after, last_byte, highest_bit}
use Rattle.ssz_value.specs.Pairs.{pairs}
use Rattle.ssz_bytes.proofs.Bits.{length-bits_of_number, number_of_bits_lt, number_of_bits-delimited, HasTop, power_of_bytes}
use Rattle.ssz_bytes.proofs.Delimiters.{HasTop-bitlist, highest_bit-is_highest, last_after_lt}

set-append : {X : Type 0} (xs ys : List X) (j : ℕ) (x : X) → j < length xs
    → slice_set (xs ++ ys) j x ≡ slice_set xs j x ++ ys
set-append [] ys j x h = absurd (omega arith)
set-append (y ∷ xs) ys zero x h = refl
set-append (y ∷ xs) ys (suc j) x h = ap (λ zs. y ∷ zs) (set-append xs ys j x (omega arith))

-- the chunk in which the byte lies that is written
pub same_chunk : (b : List ℕ) (last i x : ℕ) → last < length b → last / 32 ≡ i
    → slice_set (packed_chunk b i) (last % 32) x ≡ packed_chunk (slice_set b last x) i
same_chunk b last i x within e =
    let place : last ≡ 32 * i + last % 32 = omega arith in
    let moved : drop (32 * i) (slice_set b last x)
    ≡ slice_set (drop (32 * i) b) (last % 32) x =
    ap (λ n. drop (32 * i) (slice_set b n x)) place ∙ drop-set-add (32 * i) b (last % 32) x in
    sym (ap (λ rest. take 32 (rest ++ zero_chunk)) moved
    ∙ ap (take 32) (sym (set-append (drop (32 * i) b) zero_chunk (last % 32) x
    (omega (arith, length-drop (32 * i) b))))
    ∙ take-set-lt 32 (drop (32 * i) b ++ zero_chunk) (last % 32) x (omega arith))

-- and the others
pub other_chunk : (b : List ℕ) (last i x : ℕ) → last < length b → (last / 32 ≡ i → ⊥)
    → packed_chunk b i
    ≡ packed_chunk (slice_set b last x) i
other_chunk b last i x within other = ⊎_elim
    (λ (below : i < last / 32).
    let j : ℕ = last - 32 * i in
    let far : 32 ≤ last - 32 * i = omega arith in
    let place : last ≡ 32 * i + (last - 32 * i) = omega arith in
    let moved : drop (32 * i) (slice_set b last x)
    ≡ slice_set (drop (32 * i) b) (last - 32 * i) x =
    ap (λ n. drop (32 * i) (slice_set b n x)) place
    ∙ drop-set-add (32 * i) b (last - 32 * i) x in
    sym (ap (λ rest. take 32 (rest ++ zero_chunk)) moved
    ∙ ap (take 32) (sym (set-append (drop (32 * i) b) zero_chunk (last - 32 * i) x
    (omega (arith, length-drop (32 * i) b))))
    ∙ take-set-le 32 (drop (32 * i) b ++ zero_chunk) (last - 32 * i) x far))
    (λ (above : last / 32 ≤ i).
    let past : last < 32 * i = ⊎_elim (λ (same : last / 32 ≡ i). absurd (other same))
    (λ (ne : last / 32 ≢ i). omega arith) (cases_eq (last / 32) i) in
    ap (λ rest. take 32 (rest ++ zero_chunk)) (sym (drop-set-lt (32 * i) b last x past)))
    (cases_lt i (last / 32))

-- a zero byte at the end changes no chunk
padded-zero : (bytes : List ℕ) → padded (bytes ++ 0 ∷ []) ≡ padded bytes
padded-zero bytes = front 32 bytes (omega arith)
  where
    zeros : (n m : ℕ) → n ≤ m → take {A = ℕ} n (0 ∷ replicate m 0) ≡ take {A = ℕ} n (replicate m 0)
    zeros zero m h = refl
    zeros (suc zero) zero h = absurd (omega arith)
    zeros (suc (suc n)) zero h = absurd (omega arith)
    zeros (suc n) (suc m) h = ap (λ xs. 0 ∷ xs) (zeros n m (omega arith))

    front : (n : ℕ) (bytes : List ℕ) → n ≤ 32 → take n ((bytes ++ 0 ∷ []) ++ zero_chunk)
        ≡ take n (bytes ++ zero_chunk)
    front n [] h = zeros n 32 h
    front zero (b ∷ bytes) h = refl
    front (suc n) (b ∷ bytes) h = ap (λ xs. b ∷ xs) (front n bytes (omega arith))

chunks-zero : (count : ℕ) (bytes : List ℕ) → chunks count (bytes ++ 0 ∷ []) ≡ chunks count bytes
chunks-zero zero bytes = refl
chunks-zero (suc count) bytes = ap₂ (λ c cs. c ∷ cs) (padded-zero bytes) (⊎_elim
    (λ (short : length bytes < 32). ap (chunks count)
    (drop_all 32 (bytes ++ 0 ∷ []) (omega (arith, length-append bytes (0 ∷ [])))
    ∙ sym (drop_all 32 bytes (omega arith))))
    (λ (long : 32 ≤ length bytes). ap (chunks count) (drop-append 32 bytes (0 ∷ []) long)
    ∙ chunks-zero count (drop 32 bytes))
    (cases_lt (length bytes) 32))
  where
    drop-append : (n : ℕ) (xs ys : List ℕ) → n ≤ length xs → drop n (xs ++ ys) ≡ drop n xs ++ ys
    drop-append zero xs ys h = refl
    drop-append (suc n) [] ys h = absurd (omega arith)
    drop-append (suc n) (x ∷ xs) ys h = drop-append n xs ys (omega arith)

-- the number without its highest 1 bit

le_number-set : (byte : ℕ) (bytes : List ℕ) (x : ℕ)
    → le_number (slice_set (byte ∷ bytes) (length bytes) x)
    + 256 ^ length bytes * last_after byte bytes ≡ le_number (byte ∷ bytes) + 256 ^ length bytes * x
le_number-set byte [] x = omega arith
le_number-set byte (c ∷ bytes) x = scale (le_number (slice_set (c ∷ bytes) (length bytes) x))
    (le_number (c ∷ bytes)) (256 ^ length bytes) (256 ^ suc (length bytes)) (last_after c bytes)
    x byte (omega arith) (le_number-set c bytes x)
  where
    scale : (a b m n l x byte : ℕ) → n ≡ 256 * m → a + m * l ≡ b + m * x → byte + 256 * a + n * l
        ≡ byte + 256 * b + n * x
    scale a b m n l x byte e h = ap (λ k. byte + 256 * a + k * l) e ∙ omega arith
        ∙ ap (λ k. byte + 256 * b + k * x) (sym e)

pub number_of_bits-end : (bs : List Bool) → number_of_bits (bs ++ true ∷ [])
    ≡ number_of_bits bs + 2 ^ length bs
number_of_bits-end [] = refl
number_of_bits-end (b ∷ bs) = let twice : 2 ^ suc (length bs) ≡ 2 * 2 ^ length bs = omega arith in
    omega (arith, number_of_bits-end bs, twice)

IsBytes-set : (b : List ℕ) (i x : ℕ) → IsBytes b → x < 256 → IsBytes (slice_set b i x)
IsBytes-set [] i x h small j = h j
IsBytes-set (c ∷ b) zero x h small zero = small
IsBytes-set (c ∷ b) zero x h small (suc j) = h (suc j)
IsBytes-set (c ∷ b) (suc i) x h small zero = h 0
IsBytes-set (c ∷ b) (suc i) x h small (suc j) = IsBytes-set b i x (λ k. h (suc k)) small j

le_bytes-more : (count n : ℕ) → n < 256 ^ count → le_bytes (suc count) n ≡ le_bytes count n ++ 0
    ∷ []
le_bytes-more zero n h = let none : n % 256 ≡ 0 = omega arith in ap (λ k. k ∷ []) none
le_bytes-more (suc count) n h = ap (λ rest. n % 256 ∷ rest)
    (le_bytes-more count (n / 256) (omega arith))

-- the bytes are those of the number of the bits
record AreBits (b : List ℕ) (n len : ℕ) : Type 0 where
  pub bytes : undelimited b ≡ le_bytes (length b) n
  pub small : n < 2 ^ len
  pub whole : length b ≡ len / 8 + 1

undelimited_bits : (byte : ℕ) (bytes : List ℕ) → IsBytes (byte ∷ bytes) → 0 < last_after byte bytes
    → AreBits (byte ∷ bytes) (number_of_bits (bits_of_number (bitlist_length (byte ∷ bytes))
    (le_number (byte ∷ bytes)))) (bitlist_length (byte ∷ bytes))
undelimited_bits byte bytes fit positive =
    let b : List ℕ = byte ∷ bytes in
    let last : ℕ = last_after byte bytes in
    let place : ℕ = highest_bit (last_after byte bytes) in
    let len : ℕ = bitlist_length (byte ∷ bytes) in
    let bs : List Bool = bits_of_number (bitlist_length (byte ∷ bytes))
    (le_number (byte ∷ bytes)) in
    let unit : ℕ = 256 ^ length bytes in
    let x : ℕ = last_after byte bytes - 2 ^ highest_bit (last_after byte bytes) in
    let below : last_after byte bytes < 256 = last_after_lt byte bytes (fit 0) (λ i. fit (suc i)) in
    let highest = highest_bit-is_highest (last_after byte bytes) below positive in
    let at : 8 * length bytes + highest_bit (last_after byte bytes)
    ≡ bitlist_length (byte ∷ bytes) = ap (λ k. 8 * k + highest_bit (last_after byte bytes))
    (let e : length bytes ≡ length (byte ∷ bytes) - 1 = omega arith in e) in
    let top : HasTop (bitlist_length (byte ∷ bytes)) (le_number (byte ∷ bytes)) =
    subst (λ k. HasTop k (le_number (byte ∷ bytes))) at
    (HasTop-bitlist byte bytes (fit 0) (λ i. fit (suc i)) positive) in
    let count : length bs ≡ len = length-bits_of_number (bitlist_length (byte ∷ bytes))
    (le_number (byte ∷ bytes)) in
    let with_top : number_of_bits bs + 2 ^ len ≡ le_number (byte ∷ bytes) =
    ap (λ k. number_of_bits bs + 2 ^ k) (sym count) ∙ sym (number_of_bits-end bs)
    ∙ number_of_bits-delimited len (le_number (byte ∷ bytes)) top.low top.high in
    let power : unit * 2 ^ place ≡ 2 ^ len = ap (λ n. n * 2 ^ place) (power_of_bytes (length bytes))
    ∙ sym (pow-add 2 (8 * length bytes) place) ∙ ap (λ k. 2 ^ k) at in
    let without : le_number (slice_set (byte ∷ bytes) (length bytes) x) + unit * 2 ^ place
    ≡ le_number (byte ∷ bytes) =
    less (le_number (slice_set (byte ∷ bytes) (length bytes) x)) (le_number (byte ∷ bytes))
    unit last x (2 ^ place) (omega (arith, highest.low)) (le_number-set byte bytes x) in
    let end : length bytes ≡ length (byte ∷ bytes) - 1 = omega arith in
    let number : le_number (undelimited (byte ∷ bytes))
    ≡ number_of_bits bs = ap (λ k. le_number (slice_set (byte ∷ bytes) k x)) (sym end)
    ∙ omega (arith, without, with_top, power) in
    let all : IsBytes (undelimited (byte ∷ bytes)) =
    IsBytes-set (byte ∷ bytes) (length (byte ∷ bytes) - 1) x fit (omega (arith, below)) in
    record {
      bytes = sym (ap (le_bytes (length (byte ∷ bytes))) (sym number)
          ∙ le_bytes_of (length (byte ∷ bytes)) (undelimited (byte ∷ bytes)) all
          (length-set (byte ∷ bytes) (length (byte ∷ bytes) - 1) x));
      small = subst (λ k. number_of_bits bs < 2 ^ k) count (number_of_bits_lt bs);
      whole = omega (arith, at, highest.within);
    }
  where
    less : (a n m l x p : ℕ) → x + p ≡ l → a + m * l ≡ n + m * x → a + m * p ≡ n
    less a n m l x p e h = omega (arith, ap (λ k. m * k) e, h)

-- the bytes of the bits, and those of the list without its delimiter, in chunks
same_chunks : (b : List ℕ) (n len : ℕ) → AreBits b n len
    → chunks ((len + 255) / 256) (le_bytes ((len + 7) / 8) n)
    ≡ chunks ((len + 255) / 256) (undelimited b)
same_chunks b n len h = ⊎_elim
    (λ (whole : len % 8 < 1).
    let k : ℕ = len / 8 in
    let count : (len + 7) / 8 ≡ len / 8 = omega arith in
    let longer : length b ≡ suc (len / 8) = omega (arith, h.whole) in
    let bound : n < 256 ^ (len / 8) = subst (λ p. n < p)
    (ap (λ k. 2 ^ k) (let e : len ≡ 8 * (len / 8) = omega arith in e)
    ∙ sym (power_of_bytes (len / 8))) h.small in
    ap (λ m. chunks ((len + 255) / 256) (le_bytes m n)) count
    ∙ sym (chunks-zero ((len + 255) / 256) (le_bytes (len / 8) n))
    ∙ ap (chunks ((len + 255) / 256)) (sym (le_bytes-more (len / 8) n bound)
    ∙ ap (λ m. le_bytes m n) (sym longer) ∙ sym h.bytes))
    (λ (more : 1 ≤ len % 8).
    let count : (len + 7) / 8 ≡ length b = omega (arith, h.whole) in
    ap (λ m. chunks ((len + 255) / 256) (le_bytes m n)) count
    ∙ ap (chunks ((len + 255) / 256)) (sym h.bytes))
    (cases_lt (len % 8) 1)

pub pack_bits-undelimited : (b : List ℕ) → IsBytes b → 0 < length b → 0 < last_byte b
    → pack_bits (bits_of_number (bitlist_length b) (le_number b))
    ≡ chunks ((bitlist_length b + 255) / 256) (undelimited b)
pack_bits-undelimited [] fit some positive = absurd (omega arith)
pack_bits-undelimited (byte ∷ bytes) fit some positive =
    let len : ℕ = bitlist_length (byte ∷ bytes) in
    let bs : List Bool = bits_of_number (bitlist_length (byte ∷ bytes))
    (le_number (byte ∷ bytes)) in
    let count : length bs ≡ len = length-bits_of_number (bitlist_length (byte ∷ bytes))
    (le_number (byte ∷ bytes)) in
    let long : (length (le_bytes ((len + 7) / 8) (number_of_bits bs)) + 31) / 32
    ≡ (len + 255) / 256 = omega (arith, length-le_bytes ((len + 7) / 8) (number_of_bits bs)) in
    ap (λ m. pack (le_bytes ((m + 7) / 8) (number_of_bits bs))) count
    ∙ ap (λ m. chunks m (le_bytes ((len + 7) / 8) (number_of_bits bs))) long
    ∙ same_chunks (byte ∷ bytes) (number_of_bits bs) len (undelimited_bits byte bytes fit positive)

-- a bit list in a full tree
pub record HasBits (pair_of : List ℕ → List ℕ → List ℕ) (form : SszType) (d : ℕ)
    (b : List ℕ) : Type 0 where
  pub some : 0 < length b
  pub delimited : 0 < last_byte b
  pub few : (bitlist_length b + 255) / 256 ≤ 2 ^ d
  pub shallow : d ≤ 126
  pub below : bitlist_length b < 2 ^ 63
  pub same : pair_of (root pair_of (merkle_tree d (leaves
      (chunks ((bitlist_length b + 255) / 256) (undelimited b))))) (number_chunk (bitlist_length b))
      ≡ root pair_of (tree form (value_in form b))
  pub costs : merkle_pairs d ((bitlist_length b + 255) / 256) + 1 ≡ pairs form (value_in form b)

not_zero : (n : ℕ) → eqb n 0 ≡ false → 0 < n
not_zero zero e = cc
not_zero (suc n) e = omega arith

bitlist_has : (pair_of : List ℕ → List ℕ → List ℕ) (format : Format) (limit : ℕ) (b : List ℕ)
    → IsLegal format (bitlist limit) → IsInput b → first_fault (bitlist limit) 0 b ≡ None
    → HasBits pair_of (bitlist limit) (depth (bitlist limit)) b
bitlist_has pair_of format limit b legal input h =
    let one = passes (eqb (length b) 0) _ _ h in
    let two = passes (eqb (last_byte b) 0) _ _ one.1 in
    let three = passes (ltb limit (bitlist_length b)) _ _ two.1 in
    let within : bitlist_length b ≤ limit = ltb-false limit (bitlist_length b) three.0 in
    let some : 0 < length b = not_zero (length b) one.0 in
    let positive : 0 < last_byte b = not_zero (last_byte b) two.0 in
    let bits : List Bool = bits_of_number (bitlist_length b) (le_number b) in
    let count : length (bits_of_number (bitlist_length b) (le_number b))
    ≡ bitlist_length b = length-bits_of_number (bitlist_length b) (le_number b) in
    let covers : (limit + 255) / 256 ≤ 2 ^ depth (bitlist limit) =
    depth_of-holds ((limit + 255) / 256) in
    let d : ℕ = depth (bitlist limit) in
    record {
      some = some;
      delimited = positive;
      few = omega (arith, within, covers);
      shallow = omega (arith, legal.1.levels, levels_few format);
      below = omega (arith, within, legal.0, limit_few format);
      same = ap (λ cs. pair_of (root pair_of (merkle_tree (depth (bitlist limit)) (leaves cs)))
          (number_chunk (bitlist_length b))) (sym (pack_bits-undelimited b input.bytes some
          positive))
          ∙ ap (λ n. pair_of (root pair_of (merkle_tree (depth (bitlist limit))
          (leaves (pack_bits (bits_of_number (bitlist_length b) (le_number b)))))) (number_chunk n))
          (sym count);
      costs = ap (λ n. merkle_pairs (depth (bitlist limit)) ((n + 255) / 256) + 1) (sym count);
    }

pub HasBits-bitlist : (pair_of : List ℕ → List ℕ → List ℕ) (format : Format) (form : SszType)
    (limit d : ℕ) (b : List ℕ) → form ≡ bitlist limit → IsLegal format form → IsInput b
    → first_fault form 0 b ≡ None → d ≡ depth form → HasBits pair_of form d b
HasBits-bitlist pair_of format form limit d b e legal input h deep =
    subst (λ k. HasBits pair_of form k b) (sym deep)
    (subst (λ ty. HasBits pair_of ty (depth ty) b) (sym e)
    (bitlist_has pair_of format limit b (subst (IsLegal format) e legal) input
    (subst (λ ty. first_fault ty 0 b ≡ None) e h)))

-- the delimiter as the program writes it
pub shifted : (b : List ℕ) (h : ℕ) → IsBytes b → 0 < length b → 0 < last_byte b → h
    ≡ highest_bit (get_or b (length b - 1) 0)
    → (2 ^ h ≤ get_or b (length b - 1) 0) × (1 * 2 ^ h % 256 ≡ 2 ^ h)
    × (get_or b (length b - 1) 0 - 1 * 2 ^ h % 256 ≡ last_byte b - 2 ^ highest_bit (last_byte b))
shifted b h fit some positive e =
    let same : get_or b (length b - 1) 0 ≡ last_byte b = last_byte_is b in
    let below : last_byte b < 256 = subst (λ n. n < 256) same (fit (length b - 1)) in
    let highest = highest_bit-is_highest (last_byte b) below positive in
    let is : h ≡ highest_bit (last_byte b) = e ∙ ap highest_bit same in
    let power : 2 ^ h ≡ 2 ^ highest_bit (last_byte b) = ap (λ k. 2 ^ k) is in
    let small : 1 * 2 ^ h % 256 ≡ 2 ^ h = omega (arith, power, highest.low, below) in
    (omega (arith, power, highest.low, same), small, omega (arith, small, power, same))
