-- Elements whose booleans are 00 or 01, and whose other parts are plain, have no fault.
use Rattle.std.proofs.Common.{ℕ, zero, suc, ◌+◌, ◌-◌, ◌*◌, ◌<◌, ◌≤◌, ◌≡◌, ◌&&◌, inl, inr, Bool, true, false, List, ◌∷◌, length, drop, get_or, slice_range, IsSomeAnd, Option, Some, None, option_map, refl, sym, ap, subst, ◌∙◌, arith, le-ltb, ltb, ltb-true, lt-ltb, mul-le-mul_right}
use Rattle.std.proofs.lemmas.Bool.{cond-false, cases_lt, and_from, and_parts}
use Rattle.std.proofs.lemmas.List.{drop_all, get_or-drop, get_or-take}
use Rattle.ssz_schema.specs.Types.{SszType, Fields, uint, boolean, container, vector, list, bitvector, bitlist, union, no_fields, field}
use Rattle.ssz_schema.specs.Sizes.{head_size, fixed_size, part_sizes, total_size}
use Rattle.ssz_schema.specs.Unfolding.{type_tree_at, fields_over}
use Rattle.ssz_schema.proofs.WalkFields.{drop_at}
use Rattle.ssz_bytes.specs.Bytes.{IsBytes}
use Rattle.ssz_value.specs.Encoding.{heads_length}
use Rattle.ssz_value.specs.Faults.{first_fault, first_offset_fault, fields_fault, scopes}
use Rattle.ssz_value.proofs.Agree.{right_length, no_fault, same_some}
use Rattle.ssz_value.proofs.PartLemmas.{Part, sizes_of, size_at, sizes_from}
use Rattle.ssz_checking.specs.Sound.{all_below, sound_in, is_sound, are_sound}
use Rattle.ssz_checking.specs.Clean.{AreCleanBefore}
use Rattle.ssz_checking.proofs.PlainLemmas.{IsClean, clean_of, range_bytes, range_length}
use Rattle.ssz_parts.proofs.ElementLemmas.{part_fixed_first}

-- the first count of all elements are sound, as far as the fields before field i tell; that field
-- stands at place
pub record SoundFrom (trees : List SszType) (parts : List Part) (step all : ℕ) (b : List ℕ)
    (start i place count : ℕ) : Type 0 where
  pub most : count ≤ all
  pub sound : (k : ℕ) → k < all
      → (ltb k count
      && are_sound (sound_in step (k + 1) b) (fields_over trees (drop i parts)) place)
      ≡ are_sound (sound_in step (k + 1) b) (fields_over trees parts) start
  pub room : IsSomeAnd (total_size (sizes_of trees (drop i parts))) (λ z. place + z ≤ step)

pub SoundFrom-start : (trees : List SszType) (parts : List Part) (step all : ℕ) (b : List ℕ)
    (start : ℕ) → IsSomeAnd (total_size (sizes_of trees parts)) (λ z. start + z ≤ step)
    → SoundFrom trees parts step all b start 0 start all
SoundFrom-start trees parts step all b start room = record {
  most = omega arith;
  sound = λ k below. ap (λ s. s && are_sound (sound_in step (k + 1) b) (fields_over trees parts)
      start) (lt-ltb k all below);
  room = room;
}

room_of_two : (size : Option ℕ) (sizes : List (Option ℕ)) (place step : ℕ)
    → IsSomeAnd (total_size (size ∷ sizes)) (λ z. place + z ≤ step)
    → IsSomeAnd size (λ z. place + z ≤ step)
    × IsSomeAnd (total_size sizes) (λ z. place + head_size size + z ≤ step)
room_of_two None sizes place step h = absurd h
room_of_two (Some y) sizes place step h = go (total_size sizes) h
  where
    go : (rest : Option ℕ) → IsSomeAnd (option_map (λ n. y + n) rest) (λ z. place + z ≤ step)
        → IsSomeAnd (Some y) (λ z. place + z ≤ step)
        × IsSomeAnd rest (λ z. place + y + z ≤ step)
    go None h = absurd h
    go (Some x) h = (omega (arith, h), omega (arith, h))

pub SoundFrom-room : (trees : List SszType) (parts : List Part) (step all : ℕ) (b : List ℕ)
    (start i place count : ℕ) (part : Part)
    → SoundFrom trees parts step all b start i place count → i < length parts
    → part ≡ get_or parts i part
    → IsSomeAnd (size_at trees part) (λ z. place + z ≤ step)
    × IsSomeAnd (total_size (sizes_of trees (drop (i + 1) parts)))
    (λ z. place + head_size (size_at trees part) + z ≤ step)
SoundFrom-room trees parts step all b start i place count part h here e =
    room_of_two (size_at trees part) (sizes_of trees (drop (i + 1) parts)) place step
    (subst (λ (sizes : List (Option ℕ)). IsSomeAnd (total_size sizes) (λ z. place + z ≤ step))
    (sizes_from trees parts i part here e) h.room)

pub SoundFrom-more : (trees : List SszType) (parts : List Part) (step all : ℕ) (b : List ℕ)
    (start i place count next : ℕ) (part : Part)
    → SoundFrom trees parts step all b start i place count → i < length parts
    → part ≡ get_or parts i part → next ≤ count
    → ((k : ℕ) → k < count
    → is_sound (sound_in step (k + 1) b) (type_tree_at trees part.1) place ≡ ltb k next)
    → SoundFrom trees parts step all b start (i + 1) (place + head_size (size_at trees part)) next
SoundFrom-more trees parts step all b start i place count next part h here e fewer exact =
    let rest : ℕ → Bool = λ k. are_sound (sound_in step (k + 1) b)
    (fields_over trees (drop (i + 1) parts)) (place + head_size (size_at trees part)) in
    let these : ℕ → Bool = λ k. are_sound (sound_in step (k + 1) b)
    (fields_over trees (drop i parts)) place in
    let first : (k : ℕ) → these k
    ≡ (is_sound (sound_in step (k + 1) b) (type_tree_at trees part.1) place && rest k) =
    λ k. ap (λ ps. are_sound (sound_in step (k + 1) b) (fields_over trees ps) place)
    (drop_at parts i part here e) in
    record {
      most = omega (arith, fewer, h.most);
      sound = λ k below. elim (cases_lt k count) [
        | inl less ↦ ap (λ s. s && rest k) (sym (exact k less)) ∙ sym (first k)
            ∙ sym (ap (λ s. s && these k) (lt-ltb k count less)) ∙ h.sound k below
        | inr not ↦ ap (λ s. s && rest k) (le-ltb k next (omega (arith, fewer, not)))
            ∙ sym (ap (λ s. s && these k) (le-ltb k count not)) ∙ h.sound k below
      ];
      room = (SoundFrom-room trees parts step all b start i place count part h here e).1;
    }

and_true : (x : Bool) → (x && true) ≡ x
and_true true = refl
and_true false = refl

pub SoundFrom-end : (trees : List SszType) (parts : List Part) (step all : ℕ) (b : List ℕ)
    (start i place count : ℕ) → SoundFrom trees parts step all b start i place count
    → length parts ≤ i → (k : ℕ) → k < all
    → are_sound (sound_in step (k + 1) b) (fields_over trees parts) start ≡ ltb k count
SoundFrom-end trees parts step all b start i place count h done k below =
    sym (h.sound k below)
    ∙ ap (λ ps. ltb k count && are_sound (sound_in step (k + 1) b) (fields_over trees ps) place)
    (drop_all i parts done)
    ∙ and_true (ltb k count)

-- the bytes, which begin at this place, are below the bounds that are told
abbrev pub Tells : (ℕ → ℕ → Bool) → ℕ → List ℕ → Type 0
Tells below place b = (bound at : ℕ) → at < length b → below bound (place + at) ≡ true
    → get_or b at 0 < bound

-- no bytes of its size have a fault, which are as told
record IsSoundAt (below : ℕ → ℕ → Bool) (t : SszType) (place : ℕ) : Type 0 where
  pub size : ℕ
  pub fixed : fixed_size t ≡ Some size
  pub clean : (s : ℕ) (b : List ℕ) → IsBytes b → length b ≡ size → Tells below place b
      → first_fault t s b ≡ None

record AreSoundAt (below : ℕ → ℕ → Bool) (fs : Fields) (place : ℕ) : Type 0 where
  pub size : ℕ
  pub fixed : total_size (part_sizes fs) ≡ Some size
  pub heads : heads_length (part_sizes fs) ≡ size
  pub first : (at end s : ℕ) (b : List ℕ) → length b ≤ end
      → first_offset_fault (part_sizes fs) at end s b ≡ None
  pub clean : (start at s : ℕ) (b : List ℕ) → place ≡ start + at → IsBytes b
      → at + size ≤ length b → Tells below start b
      → fields_fault fs s (scopes (part_sizes fs) at b) ≡ None

sound_plain : (below : ℕ → ℕ → Bool) (t : SszType) (place : ℕ) → IsClean t
    → IsSoundAt below t place
sound_plain below t place h = record {
  size = h.size;
  fixed = h.fixed;
  clean = λ s b bytes long told. h.clean s b bytes long;
}

sound_boolean : (below : ℕ → ℕ → Bool) (place : ℕ) → below 2 place ≡ true
    → IsSoundAt below boolean place
sound_boolean below place e = record {
  size = 1;
  fixed = refl;
  clean = λ s b bytes long told. (
      let here : below 2 (place + 0) ≡ true =
      subst (λ (at : ℕ). below 2 at ≡ true) (omega arith) e in
      let low : get_or b 0 0 < 2 = told 2 0 (omega (arith, long)) here in
      no_fault _ _ (right_length 1 s b long)
      (cond-false _ _ _ (le-ltb 1 (get_or b 0 0) (omega (arith, low)))));
}

-- a byte of a part is one of the whole
byte_of_range : (b : List ℕ) (from size at : ℕ) → at < size
    → get_or (slice_range b from (from + size)) at 0 ≡ get_or b (from + at) 0
byte_of_range b from size at below =
    get_or-take (from + size - from) (drop from b) at 0 (omega (arith, below))
    ∙ get_or-drop from b at 0

tells_part : (below : ℕ → ℕ → Bool) (start at size : ℕ) (b : List ℕ) → at + size ≤ length b
    → Tells below start b → Tells below (start + at) (slice_range b at (at + size))
tells_part below start at size b room told bound j inside e =
    let j_below : j < size = omega (arith, inside, range_length b at size room) in
    let there : below bound (start + (at + j)) ≡ true =
    subst (λ (place : ℕ). below bound place ≡ true) (omega arith) e in
    let low : get_or b (at + j) 0 < bound = told bound (at + j) (omega (arith, j_below, room)) there
    in
    omega (arith, byte_of_range b at size j j_below, low)

sound_none : (below : ℕ → ℕ → Bool) (place : ℕ) → AreSoundAt below no_fields place
sound_none below place = record {
  size = 0;
  fixed = refl;
  heads = refl;
  first = λ at end s b within. cond-false _ _ _ (le-ltb end (length b) within);
  clean = λ start at s b here bytes room told. refl;
}

sound_field : (below : ℕ → ℕ → Bool) (name : List ℕ) (t : SszType) (fs : Fields) (place : ℕ)
    → (h : IsSoundAt below t place) → AreSoundAt below fs (place + h.size)
    → AreSoundAt below (field name t fs) place
sound_field below name t fs place h rest = record {
  size = h.size + rest.size;
  fixed = ap (λ size. total_size (size ∷ part_sizes fs)) h.fixed
      ∙ ap (option_map (λ n. h.size + n)) rest.fixed;
  heads = ap (λ size. heads_length (size ∷ part_sizes fs)) h.fixed
      ∙ ap (λ n. h.size + n) rest.heads;
  first = λ at end s b within.
      (ap (λ size. first_offset_fault (size ∷ part_sizes fs) at end s b) h.fixed
      ∙ rest.first (at + h.size) end s b within);
  clean = λ start at s b here bytes room told. (
      let mine : Tells below place (slice_range b at (at + h.size)) =
      subst (λ (p : ℕ). Tells below p (slice_range b at (at + h.size))) (sym here)
      (tells_part below start at h.size b (omega (arith, room)) told) in
      ap (λ size. fields_fault (field name t fs) s (scopes (size ∷ part_sizes fs) at b)) h.fixed
      ∙ no_fault _ _ (h.clean (s + at) (slice_range b at (at + h.size))
      (range_bytes b at (at + h.size) bytes)
      (range_length b at h.size (omega (arith, room))) mine)
      (rest.clean start (at + h.size) s b (omega (arith, here)) bytes (omega (arith, room)) told));
}

sound_container : (below : ℕ → ℕ → Bool) (fs : Fields) (place : ℕ) → AreSoundAt below fs place
    → IsSoundAt below (container fs) place
sound_container below fs place h = record {
  size = h.size;
  fixed = h.fixed;
  clean = λ s b bytes long told. (
      no_fault _ _
      (cond-false _ _ _ (le-ltb (length b) (heads_length (part_sizes fs))
      (omega (arith, h.heads, long)))
      ∙ h.first 0 (heads_length (part_sizes fs)) s b (omega (arith, h.heads, long)))
      (h.clean place 0 s b (omega arith) bytes (omega (arith, long)) told));
}

mutual
  sound_of : (below : ℕ → ℕ → Bool) (t : SszType) (place : ℕ) → is_sound below t place ≡ true
      → IsSoundAt below t place
  sound_of below (uint w) place e = sound_plain below (uint w) place (clean_of (uint w) refl)
  sound_of below boolean place e = sound_boolean below place e
  sound_of below (container fs) place e =
      sound_container below fs place (sounds_of below fs place e)
  sound_of below (vector elem n) place e =
      sound_plain below (vector elem n) place (clean_of (vector elem n) e)
  sound_of below (list elem limit) place e = cc
  sound_of below (bitvector n) place e =
      sound_plain below (bitvector n) place (clean_of (bitvector n) e)
  sound_of below (bitlist limit) place e = cc
  sound_of below (union os) place e = cc

  sounds_of : (below : ℕ → ℕ → Bool) (fs : Fields) (place : ℕ) → are_sound below fs place ≡ true
      → AreSoundAt below fs place
  sounds_of below no_fields place e = sound_none below place
  sounds_of below (field name t fs) place e =
      let parts = and_parts _ _ e in
      let first = sound_of below t place parts.0 in
      sound_field below name t fs place first
      (sounds_of below fs (place + first.size)
      (subst (λ (size : Option ℕ). are_sound below fs (place + head_size size) ≡ true)
      first.fixed parts.1))

-- the byte of each element is below the bound
told_at : (bound step place n : ℕ) (b : List ℕ) (i : ℕ) → all_below bound step place n b ≡ true
    → i < n → get_or b (place + i * step) 0 < bound
told_at bound step place zero b i e below = absurd (omega arith)
told_at bound step place (suc n) b zero e below =
    let here : get_or b place 0 < bound = ltb-true _ _ (and_parts _ _ e).0 in
    let same : place + 0 * step ≡ place = omega arith in
    subst (λ (p : ℕ). get_or b p 0 < bound) (sym same) here
told_at bound step place (suc n) b (suc i) e below =
    let there : place + step + i * step ≡ place + suc i * step = omega arith in
    subst (λ (p : ℕ). get_or b p 0 < bound) there
    (told_at bound step (place + step) n b i (and_parts _ _ e).1 (omega arith))

-- element i lies within the bytes
element_room : (i count size : ℕ) → i < count → i * size + size ≤ count * size
element_room i count size below =
    let next : i + 1 ≤ count = omega (arith, below) in
    let le : (i + 1) * size ≤ count * size = mul-le-mul_right size next in omega (arith, le)

-- a place within an element is within the bytes
pub place_inside : (len step count i place : ℕ) → count * step ≤ len → i < count → place < step
    → place + i * step < len
place_inside len step count i place whole below inside =
    omega (arith, element_room i count step below, whole, inside)

-- the bytes of the elements before element i are below the bound
abbrev pub BelowBefore : ℕ → ℕ → ℕ → List ℕ → ℕ → Type 0
BelowBefore bound step place b i = (j : ℕ) → j < i → get_or b (place + j * step) 0 < bound

pub BelowBefore-more : (bound step place : ℕ) (b : List ℕ) (i : ℕ)
    → BelowBefore bound step place b i → get_or b (place + i * step) 0 < bound
    → BelowBefore bound step place b (i + 1)
BelowBefore-more bound step place b i h low j below = elim (cases_lt j i) [
  | inl before ↦ h j before
  | inr not ↦ subst (λ (k : ℕ). get_or b (place + k * step) 0 < bound)
      (omega (arith, below, not)) low
]

below_all : (bound step place n : ℕ) (b : List ℕ) → BelowBefore bound step place b n
    → all_below bound step place n b ≡ true
below_all bound step place zero b h = refl
below_all bound step place (suc n) b h =
    let same : place + 0 * step ≡ place = omega arith in
    let first : get_or b place 0 < bound =
    subst (λ (p : ℕ). get_or b p 0 < bound) same (h 0 (omega arith)) in
    and_from _ _ (lt-ltb (get_or b place 0) bound first)
    (below_all bound step (place + step) n b (λ j below. (
    let there : place + suc j * step ≡ place + step + j * step = omega arith in
    subst (λ (p : ℕ). get_or b p 0 < bound) there (h (suc j) (omega (arith, below))))))

-- so they are as many as were looked at before one that is not
pub BelowBefore-found : (bound step place : ℕ) (b : List ℕ) (i : ℕ)
    → BelowBefore bound step place b i → bound ≤ get_or b (place + i * step) 0 → (k : ℕ)
    → all_below bound step place (k + 1) b ≡ ltb k i
BelowBefore-found bound step place b i h high k = elim (cases_lt k i) [
  | inl less ↦ below_all bound step place (k + 1) b (λ j below. h j (omega (arith, below, less)))
      ∙ sym (lt-ltb k i less)
  | inr not ↦ refuted _ (λ (e : all_below bound step place (k + 1) b ≡ true).
      (let low : get_or b (place + i * step) 0 < bound =
      told_at bound step place (k + 1) b i e (omega (arith, not)) in
      absurd (omega (arith, low, high))))
      ∙ sym (le-ltb k i not)
]
  where
    refuted : (x : Bool) → (x ≡ true → x ≡ false) → x ≡ false
    refuted true h = h refl
    refuted false h = refl

pub BelowBefore-end : (bound step place : ℕ) (b : List ℕ) (i : ℕ)
    → BelowBefore bound step place b i → (k : ℕ) → k < i
    → all_below bound step place (k + 1) b ≡ ltb k i
BelowBefore-end bound step place b i h k less =
    below_all bound step place (k + 1) b (λ j below. h j (omega (arith, below, less)))
    ∙ sym (lt-ltb k i less)

-- what is told of n elements is told of each
tells_element : (size n : ℕ) (b : List ℕ) (i : ℕ) → i < n → i * size + size ≤ length b
    → Tells (sound_in size n b) 0 (slice_range b (i * size) (i * size + size))
tells_element size n b i below room bound j inside e =
    let j_below : j < size = omega (arith, inside, range_length b (i * size) size room) in
    let low = told_at bound size (0 + j) n b i e below in
    let there : 0 + j + i * size ≡ i * size + j = omega arith in
    subst (λ (x : ℕ). x < bound) (sym (byte_of_range b (i * size) size j j_below))
    (subst (λ (p : ℕ). get_or b p 0 < bound) there low)

-- elements of which the first n are sound come after n that have no fault
pub sound_before : (t : SszType) (size count n : ℕ) (b : List ℕ) → fixed_size t ≡ Some size
    → IsBytes b → length b ≡ count * size → n ≤ count
    → ((i : ℕ) → i < count → is_sound (sound_in size (i + 1) b) t 0 ≡ ltb i n)
    → AreCleanBefore t (Some size) count n b
sound_before t size count n b fixed bytes long few exact = (
  few,
  λ j below s. (
      let last : n - 1 + 1 ≡ n = omega (arith, below) in
      let told : is_sound (sound_in size n b) t 0 ≡ true =
      subst (λ (m : ℕ). is_sound (sound_in size m b) t 0 ≡ true) last
      (exact (n - 1) (omega (arith, below, few)) ∙ lt-ltb (n - 1) n (omega (arith, below))) in
      let h = sound_of (sound_in size n b) t 0 told in
      let same : size ≡ h.size = same_some size h.size (sym fixed ∙ h.fixed) in
      let within : j < count = omega (arith, below, few) in
      let room : j * size + size ≤ length b =
      omega (arith, long, element_room j count size within) in
      ap (first_fault t s) (part_fixed_first count size b j within)
      ∙ h.clean s (slice_range b (j * size) (j * size + size))
      (range_bytes b (j * size) (j * size + size) bytes)
      (range_length b (j * size) size room ∙ same)
      (tells_element size n b j below room)),
)
