-- Laws of packed chunks: what stands at each byte of them.
use Rattle.std.proofs.Common.{◌≡◌, ◌≢◌, ℕ, zero, suc, ◌+◌, ◌-◌, ◌*◌, ◌/◌, ◌%◌, ◌<◌, ◌≤◌, List, [], ◌∷◌, ◌++◌, length, get_or, take, drop, map, refl, sym, ap, ap₂, ◌∙◌, subst, arith, length-append, inl, inr}
use Rattle.std.specs.List.{concat, AllByRecursion}
use Rattle.std.proofs.lemmas.Bool.{cases_lt}
use Rattle.std.proofs.lemmas.List.{get_or-take, get_or-drop, get_or-append-add, get_or_append_left, get_or-append_right, get_or_past, get_or-replicate, length-take, length-drop, drop_all, drop-drop, length-replicate}
use Rattle.std.specs.Prelude.{slice_range}
use Rattle.ssz_chunk.specs.Tree.{leaf, place}
use Rattle.ssz_chunk.specs.Chunk.{zero_chunk}
use Rattle.ssz_value.specs.Trees.{padded, chunks, pack}
use Rattle.ssz_places.specs.Spots.{spot_written}

pub length-padded : (bytes : List ℕ) → length (padded bytes) ≡ 32
length-padded bytes =
    omega (
      arith,
      length-take 32 (bytes ++ zero_chunk),
      length-append bytes zero_chunk,
      length-replicate {A = ℕ} 32 0,
    )

zero_at : (k : ℕ) → get_or zero_chunk k 0 ≡ 0
zero_at k =
    elim (cases_lt k 32) [
      | inl lt ↦ get_or-replicate 32 k 0 0 lt
      | inr ge ↦ get_or_past zero_chunk k 0 ge
    ]

-- zeros behind bytes change no byte
pub get_or-zeros : (bytes : List ℕ) (k : ℕ) → get_or (bytes ++ zero_chunk) k 0 ≡ get_or bytes k 0
get_or-zeros bytes k = elim (cases_lt k (length bytes)) [
  | inl lt ↦ get_or_append_left bytes zero_chunk 0 k lt
  | inr ge ↦ get_or-append_right bytes zero_chunk (length bytes) k 0 refl ge
      ∙ zero_at (k - length bytes) ∙ sym (get_or_past bytes k 0 ge)
]

pub get_or-padded : (bytes : List ℕ) (k : ℕ) → k < 32 → get_or (padded bytes) k 0 ≡ get_or bytes k 0
get_or-padded bytes k h = get_or-take 32 (bytes ++ zero_chunk) k 0 h ∙ get_or-zeros bytes k

-- lists of numbers with the same numbers at all places
pub same_bytes : (xs ys : List ℕ) → length xs ≡ length ys
    → ((k : ℕ) → k < length xs → get_or xs k 0 ≡ get_or ys k 0) → xs ≡ ys
same_bytes [] [] e h = refl
same_bytes [] (y ∷ ys) e h = absurd (omega arith)
same_bytes (x ∷ xs) [] e h = absurd (omega arith)
same_bytes (x ∷ xs) (y ∷ ys) e h =
    ap₂ (λ z zs. z ∷ zs) (h 0 (omega arith))
    (same_bytes xs ys (omega arith) (λ k below. h (suc k) (omega arith)))

-- a chunk is known by its 32 bytes
pub same_padded : (xs chunk : List ℕ) → length chunk ≡ 32
    → ((k : ℕ) → k < 32 → get_or xs k 0 ≡ get_or chunk k 0) → padded xs ≡ chunk
same_padded xs chunk e h =
    same_bytes (padded xs) chunk (length-padded xs ∙ sym e)
    (λ k below. let small : k < 32 = omega (arith, length-padded xs) in
    get_or-padded xs k small ∙ h k small)

-- bytes behind which zeros stand
pub take-padded : (bytes : List ℕ) (z : ℕ) → length bytes ≡ z → z ≤ 32
    → take z (padded bytes) ≡ bytes
take-padded bytes z e small =
    same_bytes (take z (padded bytes)) bytes
    (omega (arith, length-take z (padded bytes), length-padded bytes))
    (λ k below. let low : k < z = omega (arith, length-take z (padded bytes)) in
    get_or-take z (padded bytes) k 0 low ∙ get_or-padded bytes k (omega arith))

place-chunks : (count j : ℕ) (bytes : List ℕ) → length bytes ≤ 32 * count
    → place (map leaf (chunks count bytes)) j ≡ leaf (padded (drop (32 * j) bytes))
place-chunks zero j bytes h =
    ap (λ bs. leaf (padded bs)) (sym (drop_all (32 * j) bytes (omega arith)))
place-chunks (suc count) zero bytes h = refl
place-chunks (suc count) (suc j) bytes h =
    place-chunks count j (drop 32 bytes) (omega (arith, length-drop 32 bytes))
    ∙ ap (λ bs. leaf (padded bs))
    (drop-drop (32 * j) 32 bytes ∙ ap (λ n. drop n bytes) (let e : 32 + 32 * j ≡ 32 * suc j =
    omega arith in e))

-- what stands at a place of packed bytes: so many chunks on
pub place-pack : (j : ℕ) (bytes : List ℕ)
    → place (map leaf (pack bytes)) j ≡ leaf (padded (drop (32 * j) bytes))
place-pack j bytes = place-chunks ((length bytes + 31) / 32) j bytes (omega arith)

-- Below, a chunk from at on, and what is written into it.

pub length-written : (bytes part : List ℕ) (at : ℕ) → at + length part ≤ length bytes
    → length (spot_written bytes at part) ≡ length bytes
length-written bytes part at h =
    omega (
      arith,
      length-append (take at bytes ++ part) (drop (at + length part) bytes),
      length-append (take at bytes) part,
      length-take at bytes,
      length-drop (at + length part) bytes,
    )

length-front : (bytes part : List ℕ) (at : ℕ) → at + length part ≤ length bytes
    → length (take at bytes) ≡ at
length-front bytes part at h = omega (arith, length-take at bytes)

-- a byte before the part, in it, and behind it
pub written-before : (bytes part : List ℕ) (at k : ℕ) → at + length part ≤ length bytes → k < at
    → get_or (spot_written bytes at part) k 0 ≡ get_or bytes k 0
written-before bytes part at k h below =
    let front = length-front bytes part at h in
    get_or_append_left (take at bytes ++ part) (drop (at + length part) bytes) 0 k
    (omega (arith, length-append (take at bytes) part, front))
    ∙ get_or_append_left (take at bytes) part 0 k (omega (arith, front))
    ∙ get_or-take at bytes k 0 below

pub written-inside : (bytes part : List ℕ) (at k : ℕ) → at + length part ≤ length bytes
    → k < length part → get_or (spot_written bytes at part) (at + k) 0 ≡ get_or part k 0
written-inside bytes part at k h below =
    let front = length-front bytes part at h in
    get_or_append_left (take at bytes ++ part) (drop (at + length part) bytes) 0 (at + k)
    (omega (arith, length-append (take at bytes) part, front))
    ∙ get_or-append_right (take at bytes) part at (at + k) 0 front (omega arith)
    ∙ ap (λ n. get_or part n 0) (let e : at + k - at ≡ k = omega arith in e)

pub written-behind : (bytes part : List ℕ) (at k : ℕ) → at + length part ≤ length bytes
    → at + length part ≤ k → get_or (spot_written bytes at part) k 0 ≡ get_or bytes k 0
written-behind bytes part at k h above =
    let front = length-front bytes part at h in
    let both : length (take at bytes ++ part) ≡ at + length part =
    omega (arith, length-append (take at bytes) part, front) in
    get_or-append_right (take at bytes ++ part) (drop (at + length part) bytes)
    (at + length part) k 0 both above
    ∙ get_or-drop (at + length part) bytes (k - (at + length part)) 0
    ∙ ap (λ n. get_or bytes n 0) (let e : at + length part + (k - (at + length part)) ≡ k =
    omega arith in e)

-- each of the byte lists has this length
abbrev pub AreSized : ℕ → List (List ℕ) → Type 0
AreSized z xs = AllByRecursion (λ x. length x ≡ z) xs

-- a byte of byte lists of one length, joined
pub get_or-concat : (z : ℕ) (xs : List (List ℕ)) (i k : ℕ) → AreSized z xs → k < z
    → get_or (concat xs) (i * z + k) 0 ≡ get_or (get_or xs i []) k 0
get_or-concat z [] i k sized h = refl
get_or-concat z (x ∷ xs) zero k sized h =
    ap (λ n. get_or (x ++ concat xs) n 0) (let e : 0 * z + k ≡ k = omega arith in e)
    ∙ get_or_append_left x (concat xs) 0 k (omega (arith, sized.0))
get_or-concat z (x ∷ xs) (suc i) k sized h =
    ap (λ n. get_or (x ++ concat xs) n 0)
    (let e : suc i * z + k ≡ length x + (i * z + k) = omega (arith, sized.0) in e)
    ∙ get_or-append-add x (concat xs) (i * z + k) 0 ∙ get_or-concat z xs i k sized.1 h

-- Two lists of byte lists that are the same but at one place.
abbrev pub SameBut : {X : Type 0} → ℕ → X → List X → List X → Type 0
SameBut i d xs ys = (k : ℕ) → k ≢ i → get_or ys k d ≡ get_or xs k d

-- a byte that lies in no changed part
concat-elsewhere : (z : ℕ) (xs ys : List (List ℕ)) (i m : ℕ) → 0 < z → AreSized z xs
    → AreSized z ys → SameBut i [] xs ys → m / z ≢ i
    → get_or (concat ys) m 0 ≡ get_or (concat xs) m 0
concat-elsewhere z xs ys i m pos sized sized_too same other =
    let split : m / z * z + m % z ≡ m = omega arith in
    let low : m % z < z = omega arith in
    ap (λ n. get_or (concat ys) n 0) (sym split) ∙ get_or-concat z ys (m / z) (m % z) sized_too low
    ∙ ap (λ x. get_or x (m % z) 0) (same (m / z) other)
    ∙ sym (get_or-concat z xs (m / z) (m % z) sized low) ∙ ap (λ n. get_or (concat xs) n 0) split

-- the bytes of part i begin at i * z
between_parts : (z i m : ℕ) → 0 < z → m / z ≡ i → (i * z ≤ m) × (m < i * z + z)
between_parts z i m pos e =
    subst (λ (n : ℕ). (n * z ≤ m) × (m < n * z + z)) e (omega arith, omega arith)

-- Parts of z bytes, none of which lies in two chunks, where that of number i changes.
module _ (z i : ℕ) (xs ys : List (List ℕ)) (pos : 0 < z) (inside : i * z % 32 + z ≤ 32)
    (sized : AreSized z xs) (sized_too : AreSized z ys) (same : SameBut i [] xs ys) where
  -- the other chunks stay
  pub other-chunk : (j : ℕ) → j ≢ i * z / 32
      → padded (drop (32 * j) (concat ys)) ≡ padded (drop (32 * j) (concat xs))
  other-chunk j other =
      same_padded (drop (32 * j) (concat ys)) (padded (drop (32 * j) (concat xs)))
      (length-padded (drop (32 * j) (concat xs)))
      (λ k below. get_or-drop (32 * j) (concat ys) k 0
      ∙ concat-elsewhere z xs ys i (32 * j + k) pos sized sized_too same
      (λ e. let within = between_parts z i (32 * j + k) pos e in
      other (let f : j ≡ i * z / 32 = omega (arith, within.0, within.1) in f))
      ∙ sym (get_or-drop (32 * j) (concat xs) k 0)
      ∙ sym (get_or-padded (drop (32 * j) (concat xs)) k below))

  abbrev old_chunk : List ℕ
  old_chunk = padded (drop (32 * (i * z / 32)) (concat xs))

  at_byte : (k : ℕ) → k < 32 → get_or old_chunk k 0 ≡ get_or (concat xs) (32 * (i * z / 32) + k) 0
  at_byte k below =
      get_or-padded (drop (32 * (i * z / 32)) (concat xs)) k below
      ∙ get_or-drop (32 * (i * z / 32)) (concat xs) k 0

  module _ (part : List ℕ) (size : length part ≡ z)
      (new : (k : ℕ) → k < z → get_or (get_or ys i []) k 0 ≡ get_or part k 0) where
    room : i * z % 32 + length part ≤ length old_chunk
    room = omega (arith, length-padded (drop (32 * (i * z / 32)) (concat xs)))

    elsewhere : (k : ℕ) → k < 32 → (32 * (i * z / 32) + k) / z ≢ i
        → get_or (concat ys) (32 * (i * z / 32) + k) 0 ≡ get_or old_chunk k 0
    elsewhere k below other =
        concat-elsewhere z xs ys i (32 * (i * z / 32) + k) pos sized sized_too same other
        ∙ sym (at_byte k below)

    byte_is : (k : ℕ) → k < 32 → get_or (concat ys) (32 * (i * z / 32) + k) 0 ≡ get_or
        (spot_written old_chunk (i * z % 32) part) k 0
    byte_is k below = elim (cases_lt k (i * z % 32)) [
      | inl lt ↦ elsewhere k below (λ e. let within = between_parts z i
          (32 * (i * z / 32) + k) pos e in omega (arith, within.0))
          ∙ sym (written-before old_chunk part (i * z % 32) k room lt)
      | inr ge ↦ elim (cases_lt k (i * z % 32 + z)) [
        | inl lt ↦ (let low : k - i * z % 32 < z = omega arith in
            ap (λ n. get_or (concat ys) n 0)
            (let e : 32 * (i * z / 32) + k ≡ i * z + (k - i * z % 32) = omega arith in e)
            ∙ get_or-concat z ys i (k - i * z % 32) sized_too low ∙ new (k - i * z % 32) low
            ∙ sym (written-inside old_chunk part (i * z % 32) (k - i * z % 32) room (omega arith))
            ∙ ap (λ n. get_or (spot_written old_chunk (i * z % 32) part) n 0)
            (let e : i * z % 32 + (k - i * z % 32) ≡ k = omega arith in e))
        | inr above ↦ elsewhere k below
            (λ e. let within = between_parts z i (32 * (i * z / 32) + k) pos e in
            omega (arith, within.1))
            ∙ sym (written-behind old_chunk part (i * z % 32) k room (omega arith))
      ]
    ]

    -- the chunk in which the part lies has it written over
    pub chunk-written : padded (drop (32 * (i * z / 32)) (concat ys)) ≡ spot_written old_chunk
        (i * z % 32) part
    chunk-written =
        same_padded (drop (32 * (i * z / 32)) (concat ys))
        (spot_written old_chunk (i * z % 32) part)
        (length-written old_chunk part (i * z % 32) room
        ∙ length-padded (drop (32 * (i * z / 32)) (concat xs)))
        (λ k below. get_or-drop (32 * (i * z / 32)) (concat ys) k 0 ∙ byte_is k below)

-- the part as it stands in its chunk
pub chunk-part : (z i : ℕ) (xs : List (List ℕ)) (part : List ℕ) → i * z % 32 + z ≤ 32
    → AreSized z xs → length part ≡ z → get_or xs i [] ≡ part
    → slice_range (padded (drop (32 * (i * z / 32)) (concat xs))) (i * z % 32)
    (i * z % 32 + length part) ≡ part
chunk-part z i xs part inside sized size is =
    let chunk : List ℕ = padded (drop (32 * (i * z / 32)) (concat xs)) in
    let long : length chunk ≡ 32 = length-padded (drop (32 * (i * z / 32)) (concat xs)) in
    let room : length (take (i * z % 32 + length part - i * z % 32)
    (drop (i * z % 32) chunk)) ≡ length part =
    omega (
      arith,
      length-take (i * z % 32 + length part - i * z % 32) (drop (i * z % 32) chunk),
      length-drop (i * z % 32) chunk,
    ) in
    same_bytes (slice_range chunk (i * z % 32) (i * z % 32 + length part)) part room
    (λ k below. let low : k < length part = omega (arith, room) in
    get_or-take (i * z % 32 + length part - i * z % 32) (drop (i * z % 32) chunk) k 0 (omega arith)
    ∙ get_or-drop (i * z % 32) chunk k 0
    ∙ get_or-padded (drop (32 * (i * z / 32)) (concat xs)) (i * z % 32 + k) (omega arith)
    ∙ get_or-drop (32 * (i * z / 32)) (concat xs) (i * z % 32 + k) 0
    ∙ ap (λ n. get_or (concat xs) n 0)
    (let e : 32 * (i * z / 32) + (i * z % 32 + k) ≡ i * z + k = omega arith in e)
    ∙ get_or-concat z xs i k sized (omega arith) ∙ ap (λ x. get_or x k 0) is)
