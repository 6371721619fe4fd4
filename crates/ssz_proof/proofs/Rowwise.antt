-- Indices that are gone down from side by side: those that are not known, and their children.
use Rattle.std.proofs.Common.{◌≡◌, ℕ, zero, suc, ◌+◌, ◌-◌, ◌*◌, ◌^◌, ◌<◌, ◌≤◌, Bool, true, false, not, cond, List, [], ◌∷◌, ◌++◌, length, take, drop, get_or, set, refl, sym, ap, ap₂, ◌∙◌, subst, Option, Some, None, is_some, ◌⊎◌, inl, inr, append_assoc, arith, length-take, length-drop, length-set}
use Rattle.std.specs.Prelude.{option_map}
use Rattle.std.specs.List.{All, filter}
use Rattle.std.proofs.lemmas.Bool.{cases_eq, cases_lt}
use Rattle.std.proofs.lemmas.Grind.{get_or-set_at, take_at_read, take-set_at}
use Rattle.std.proofs.lemmas.List.{append-nil, get_or-take, get_or-drop, get_or_append_left, get_or-append_right, get_or-set_other}
use Rattle.std.proofs.lemmas.List.Elements.{All-filter, All-take, All-drop, filter_more, filter_passes, All-from_get_or}
use Rattle.std.proofs.lemmas.List.Filters.{sum_by-filter_both}
use Rattle.std.proofs.lemmas.List.Sums.{sum_by-cons}
use Rattle.ssz_chunk.specs.Rows.{chunk_in_row as row_at, pair_in_row}
use Rattle.ssz_chunk.specs.declared.Chunk.{Chunk}
use Rattle.ssz_proof.specs.Calculation.{Known, PairOf, indices_of, chunk_at, deepest, calculate_root}
use Rattle.ssz_proof.proofs.Calculating.{within-known}
use Rattle.ssz_proof.specs.Multiproof.{IsOrdered}
use Rattle.ssz_proof.specs.Descent.{IsReached, levels_below}
use Rattle.ssz_proof.specs.Rows.{AreCalculated, ArePlaced, AreReached, AreUnknown, IsPlaced, children, is_unknown, levels_below_all, levels_left}
use Rattle.ssz_proof.proofs.Descending.{GoesDown, goes_down}

-- ---- children

pub length-children : (indices : List ℕ) → length (children indices) ≡ 2 * length indices
length-children [] = refl
length-children (index ∷ indices) = omega (arith, length-children indices)

pub child-left : (indices : List ℕ) (j : ℕ) → j < length indices
    → get_or (children indices) (2 * j) 0 ≡ 2 * get_or indices j 0
child-left [] j within = absurd (omega arith)
child-left (index ∷ indices) zero within = refl
child-left (index ∷ indices) (suc j) within =
    let two : 2 * suc j ≡ suc (suc (2 * j)) = omega arith in
    rw two (child-left indices j (omega arith))

pub child-right : (indices : List ℕ) (j : ℕ) → j < length indices
    → get_or (children indices) (2 * j + 1) 0 ≡ 2 * get_or indices j 0 + 1
child-right [] j within = absurd (omega arith)
child-right (index ∷ indices) zero within = refl
child-right (index ∷ indices) (suc j) within =
    let two : 2 * suc j + 1 ≡ suc (suc (2 * j + 1)) = omega arith in
    rw two (child-right indices j (omega arith))

children-push : (indices : List ℕ) (index : ℕ) → children (indices ++ index ∷ [])
    ≡ children indices ++ (2 * index) ∷ (2 * index + 1) ∷ []
children-push [] index = refl
children-push (first ∷ indices) index =
    ap (λ (rest : List ℕ). (2 * first) ∷ (2 * first + 1) ∷ rest) (children-push indices index)

-- those of one more index
pub children-more : (indices found : List ℕ) (i : ℕ) → i < length indices
    → 2 * i + 1 < length found → take (2 * i) found ≡ children (take i indices)
    → take (2 * (i + 1)) (set (set found (2 * i) (2 * get_or indices i 0)) (2 * i + 1)
    (2 * get_or indices i 0 + 1)) ≡ children (take (i + 1) indices)
children-more indices found i more room before =
    let left : ℕ = 2 * get_or indices i 0 in
    let right : ℕ = 2 * get_or indices i 0 + 1 in
    let first : take (2 * i + 1) (set found (2 * i) left) ≡ take (2 * i) found ++ left ∷ [] =
    take-set_at found (2 * i) (2 * i + 1) left refl (omega arith) in
    let long : length (set found (2 * i) left) ≡ length found = length-set found (2 * i) left in
    let second : take (2 * (i + 1)) (set (set found (2 * i) left) (2 * i + 1) right)
    ≡ take (2 * i + 1) (set found (2 * i) left) ++ right ∷ [] =
    take-set_at (set found (2 * i) left) (2 * i + 1) (2 * (i + 1)) right (omega arith)
    (omega (arith, long)) in
    let one_more : take (i + 1) indices ≡ take i indices ++ get_or indices i 0 ∷ [] =
    (take_at_read indices i 0 more).1 in
    second ∙ ap (λ (l : List ℕ). l ++ right ∷ []) (first
    ∙ ap (λ (l : List ℕ). l ++ left ∷ []) before)
    ∙ append_assoc (children (take i indices)) (left ∷ []) (right ∷ [])
    ∙ sym (ap children one_more ∙ children-push (take i indices) (get_or indices i 0))

-- what holds of both children of each holds of each child
each_child : (P : ℕ → Type 0) (indices : List ℕ)
    → ((j : ℕ) → j < length indices
    → P (2 * get_or indices j 0) × P (2 * get_or indices j 0 + 1))
    → (k : ℕ) → k < length (children indices) → P (get_or (children indices) k 0)
each_child P [] both k within = absurd (omega arith)
each_child P (index ∷ indices) both zero within = (both 0 (omega arith)).0
each_child P (index ∷ indices) both (suc zero) within = (both 0 (omega arith)).1
each_child P (index ∷ indices) both (suc (suc k)) within =
    each_child P indices (λ j inside. both (suc j) (omega arith)) k (omega arith)

-- ---- those that are not known

pub unknown_sum : (leaves known : Known) (indices : List ℕ)
    → levels_below_all leaves (filter (is_unknown known) indices)
    ≤ levels_below_all leaves indices
unknown_sum leaves known indices =
    let both : _ = sum_by-filter_both (is_unknown known) (λ index. not (is_unknown known index))
    (λ index. refl) (λ index. levels_below index (indices_of leaves)) indices in
    omega (arith, both)

none_of : (o : Option (List ℕ)) → not (is_some o) ≡ true → None ≡ o
none_of None is = refl
none_of (Some chunk) is = cc

pub are_unknown : (known : Known) (indices : List ℕ)
    → AreUnknown known (filter (is_unknown known) indices)
are_unknown known indices k d within =
    none_of (chunk_at known (get_or (filter (is_unknown known) indices) k d))
    (filter_passes (is_unknown known) indices k d within)

pub are_reached : (leaves nodes : Known) (p : ℕ → Bool) (indices : List ℕ)
    → AreReached leaves nodes indices → AreReached leaves nodes (filter p indices)
are_reached leaves nodes p indices reached =
    All-filter p (λ index. (0 < index) × IsReached leaves nodes index) indices reached

-- ---- the levels that are left

pub left_take : (leaves : Known) (n : ℕ) (indices : List ℕ)
    → levels_left leaves (take n indices) ≤ levels_left leaves indices
left_take leaves zero indices = omega arith
left_take leaves (suc n) [] = omega arith
left_take leaves (suc n) (index ∷ indices) = omega (arith, left_take leaves n indices)

pub left_drop : (leaves : Known) (n : ℕ) (indices : List ℕ)
    → levels_left leaves (drop n indices) ≤ levels_left leaves indices
left_drop leaves zero indices = omega arith
left_drop leaves (suc n) [] = omega arith
left_drop leaves (suc n) (index ∷ indices) = omega (arith, left_drop leaves n indices)

pub left_filter : (leaves : Known) (p : ℕ → Bool) (indices : List ℕ)
    → levels_left leaves (filter p indices) ≤ levels_left leaves indices
left_filter leaves p [] = omega arith
left_filter leaves p (index ∷ indices) = by_case (p index) (left_filter leaves p indices)
  where
    rest : List ℕ
    rest = filter p indices

    by_case : (b : Bool) → levels_left leaves rest ≤ levels_left leaves indices
        → levels_left leaves (cond b (index ∷ rest) rest) ≤ levels_left leaves (index ∷ indices)
    by_case true less = omega (arith, less)
    by_case false less = omega (arith, less)

-- ---- one step down from some

module _ (pair_of : PairOf) (leaves nodes : Known)
    (ordered : IsOrdered (record { leaves = leaves; nodes = nodes })) where
  step : (index : ℕ) → (0 < index) × IsReached leaves nodes index
      → None ≡ chunk_at (leaves ++ nodes) index → GoesDown pair_of leaves nodes index
  step index reached unknown =
      goes_down leaves nodes ordered pair_of index reached.0 reached.1 unknown

  -- the levels left to the children are fewer
  pub left_children : (indices : List ℕ) → AreReached leaves nodes indices
      → AreUnknown (leaves ++ nodes) indices → 0 < length indices
      → levels_left leaves (children indices) < levels_left leaves indices
  left_children [] reached unknown some = absurd (omega arith)
  left_children (index ∷ []) reached unknown some =
      let down : _ = step index (reached 0 0 (omega arith)) (unknown 0 0 (omega arith)) in
      omega (arith, down.above, down.left_levels, down.right_levels)
  left_children (index ∷ second ∷ indices) reached unknown some =
      let down : _ = step index (reached 0 0 (omega arith)) (unknown 0 0 (omega arith)) in
      let rest : _ = left_children (second ∷ indices)
      (λ k d within. reached (suc k) d (omega arith))
      (λ k d within. unknown (suc k) d (omega arith)) (omega arith) in
      omega (arith, down.above, down.left_levels, down.right_levels, rest)

  -- there is one level less to each leaf below
  pub children_sum : (indices : List ℕ) → AreReached leaves nodes indices
      → AreUnknown (leaves ++ nodes) indices
      → levels_below_all leaves (children indices) + length indices
      ≤ levels_below_all leaves indices
  children_sum [] reached unknown = omega arith
  children_sum (index ∷ indices) reached unknown =
      let below : ℕ → ℕ = λ i. levels_below i (indices_of leaves) in
      let down : _ = step index (reached 0 0 (omega arith)) (unknown 0 0 (omega arith)) in
      let rest : _ = children_sum indices (λ k d within. reached (suc k) d (omega arith))
      (λ k d within. unknown (suc k) d (omega arith)) in
      omega (
        arith,
        down.pairs,
        rest,
        sum_by-cons below index indices,
        sum_by-cons below (2 * index) ((2 * index + 1) ∷ children indices),
        sum_by-cons below (2 * index + 1) (children indices),
      )

  module _ (indices : List ℕ) (reached : AreReached leaves nodes indices)
      (unknown : AreUnknown (leaves ++ nodes) indices) where
    at : (j : ℕ) → j < length indices → GoesDown pair_of leaves nodes (get_or indices j 0)
    at j within = step (get_or indices j 0) (reached j 0 within) (unknown j 0 within)

    pub children_fit : (j : ℕ) → j < length indices → 2 * get_or indices j 0 + 1 < 2 ^ 128
    children_fit j within = (at j within).fits

    pub children_reached : AreReached leaves nodes (children indices)
    children_reached =
        All-from_get_or (λ index. (0 < index) × IsReached leaves nodes index) (children indices) 0
        (each_child (λ index. (0 < index) × IsReached leaves nodes index) indices (λ j within.
        let positive = (reached j 0 within).0 in
        ((omega arith, (at j within).left), (omega arith, (at j within).right))))

    -- the pairs of the children's chunks are the chunks
    pub pairs_calculated : (row made : List Chunk)
        → AreCalculated pair_of (leaves ++ nodes) (children indices) row
        → ((j : ℕ) → j < length indices → row_at made j ≡ pair_in_row pair_of row j)
        → AreCalculated pair_of (leaves ++ nodes) indices made
    pairs_calculated row made below is j within =
        let count : length (children indices) ≡ 2 * length indices = length-children indices in
        is j within
        ∙ ap₂ pair_of
        (below (2 * j) (omega arith)
        ∙ ap (calculate_root pair_of (leaves ++ nodes)) (child-left indices j within))
        (below (2 * j + 1) (omega arith)
        ∙ ap (calculate_root pair_of (leaves ++ nodes)) (child-right indices j within))
        ∙ sym (at j within).chunk

-- ---- as the calls have them

-- one index and two
pub alone : (P : ℕ → Type 0) (index : ℕ) → P index → All P (index ∷ [])
alone P index is = All-from_get_or P (index ∷ []) 0 each
  where
    each : (j : ℕ) → j < 1 → P (get_or (index ∷ []) j 0)
    each zero within = is
    each (suc j) within = absurd (omega arith)

pub both : (P : ℕ → Type 0) (first second : ℕ) → P first → P second
    → All P (first ∷ second ∷ [])
both P first second one two = All-from_get_or P (first ∷ second ∷ []) 0 each
  where
    each : (j : ℕ) → j < 2 → P (get_or (first ∷ second ∷ []) j 0)
    each zero within = one
    each (suc zero) within = two
    each (suc (suc j)) within = absurd (omega arith)

-- what is not found is not known
pub none_found : (found : Option Chunk) (known : Option (List ℕ)) → is_some found ≡ false
    → option_map (λ (chunk : Chunk). chunk.0) found ≡ known → None ≡ known
none_found None known is e = e
none_found (Some chunk) known is e = cc

pub sum_of_two : (leaves : Known) (first second : ℕ)
    → levels_below_all leaves (first ∷ second ∷ [])
    ≡ levels_below first (indices_of leaves) + levels_below second (indices_of leaves)
sum_of_two leaves first second =
    let f : ℕ → ℕ = λ index. levels_below index (indices_of leaves) in
    omega (arith, sum_by-cons f first (second ∷ []), sum_by-cons f second [])

-- those of some that are not known
pub record Filtered (leaves nodes : Known) (indices found : List ℕ) : Type 0 where
  pub reached : AreReached leaves nodes found
  pub unknown : AreUnknown (leaves ++ nodes) found
  pub left : levels_left leaves found ≤ levels_left leaves indices
  pub sum : levels_below_all leaves found ≤ levels_below_all leaves indices

pub filtered : (leaves nodes : Known) (indices found : List ℕ)
    → found ≡ filter (is_unknown (leaves ++ nodes)) indices → AreReached leaves nodes indices
    → Filtered leaves nodes indices found
filtered leaves nodes indices found is reached =
    let p : ℕ → Bool = is_unknown (leaves ++ nodes) in
    subst (Filtered leaves nodes indices) (sym is) (record {
      reached = are_reached leaves nodes p indices reached;
      unknown = are_unknown (leaves ++ nodes) indices;
      left = left_filter leaves p indices;
      sum = unknown_sum leaves (leaves ++ nodes) indices;
    })

-- some of the indices
pub record Part (leaves nodes : Known) (indices part : List ℕ) : Type 0 where
  pub reached : AreReached leaves nodes part
  pub unknown : AreUnknown (leaves ++ nodes) part
  pub left : levels_left leaves part ≤ levels_left leaves indices

module _ (leaves nodes : Known) (indices part : List ℕ) (n : ℕ)
    (reached : AreReached leaves nodes indices) (unknown : AreUnknown (leaves ++ nodes) indices)
  where
    pub front_part : part ≡ take n indices → Part leaves nodes indices part
    front_part is = subst (Part leaves nodes indices) (sym is) (record {
      reached = All-take (λ i. (0 < i) × IsReached leaves nodes i) n indices reached;
      unknown = All-take (λ i. None ≡ chunk_at (leaves ++ nodes) i) n indices unknown;
      left = left_take leaves n indices;
    })

    pub back_part : part ≡ drop n indices → Part leaves nodes indices part
    back_part is = subst (Part leaves nodes indices) (sym is) (record {
      reached = All-drop (λ i. (0 < i) × IsReached leaves nodes i) n indices reached;
      unknown = All-drop (λ i. None ≡ chunk_at (leaves ++ nodes) i) n indices unknown;
      left = left_drop leaves n indices;
    })

-- ---- rows

-- two rows, one behind the other
pub joined_row : (pair_of : PairOf) (known : Known) (indices front back : List ℕ) (n : ℕ)
    (first second : List Chunk) → front ≡ take n indices → back ≡ drop n indices
    → length front ≡ n → length first ≡ n → AreCalculated pair_of known front first
    → AreCalculated pair_of known back second
    → AreCalculated pair_of known indices (first ++ second)
joined_row pair_of known indices front back n first second is_front is_back few long has_first
    has_second j within =
    let d : Chunk = record { 0 = [] } in
    elim (cases_lt j n) [
      | inl below ↦
          ap (λ (c : Chunk). c.0) (get_or_append_left first second d j (omega (arith, long)))
          ∙ has_first j (omega (arith, few))
          ∙ ap (λ (l : List ℕ). calculate_root pair_of known (get_or l j 0)) is_front
          ∙ ap (calculate_root pair_of known) (get_or-take n indices j 0 below)
      | inr above ↦
          (let back_place : n + (j - n) ≡ j = omega arith in
          let rest : length back ≡ length indices - n =
          ap (λ (l : List ℕ). length l) is_back ∙ length-drop n indices in
          ap (λ (c : Chunk). c.0) (get_or-append_right first second n j d long above)
          ∙ has_second (j - n) (omega (arith, rest))
          ∙ ap (λ (l : List ℕ). calculate_root pair_of known (get_or l (j - n) 0)) is_back
          ∙ ap (calculate_root pair_of known) (get_or-drop n indices (j - n) 0
          ∙ ap (λ k. get_or indices k 0) back_place))
    ]

-- a row in which the chunks that were made stand at their places
pub placed_row : (pair_of : PairOf) (known : Known) (indices unknown places : List ℕ) (count : ℕ)
    (row made new : List Chunk) → count ≤ length unknown → length places ≡ length unknown
    → ArePlaced indices unknown places count
    → ((i : ℕ) → i < length indices
    → (row_at row i ≡ calculate_root pair_of known (get_or indices i 0)) ⊎ IsPlaced places count i)
    → AreCalculated pair_of known (take count unknown) made
    → ((f : ℕ → List ℕ)
    → ((j : ℕ) → j < length (take count places) → row_at made j
    ≡ f (get_or (take count places) j 0))
    → (k : ℕ) → (row_at row k ≡ f k) ⊎ IsPlaced (take count places) (length (take count places)) k
    → row_at new k ≡ f k)
    → AreCalculated pair_of known indices new
placed_row pair_of known indices unknown places count row made new few long placed in_row in_made
    puts i within =
    let f : ℕ → List ℕ = λ k. calculate_root pair_of known (get_or indices k 0) in
    let counted : length (take count places) ≡ count = omega (arith, length-take count places) in
    let counted_unknown : length (take count unknown) ≡ count =
    omega (arith, length-take count unknown) in
    puts f
    (λ j under.
    let below : j < count = omega (arith, counted) in
    in_made j (omega (arith, counted_unknown))
    ∙ ap (calculate_root pair_of known)
    (get_or-take count unknown j 0 below ∙ sym (placed j below).1
    ∙ ap (λ k. get_or indices k 0) (sym (get_or-take count places j 0 below))))
    i (elim (in_row i within) [
      | inl is ↦ inl is
      | inr place ↦ inr (
        place.0,
        omega (arith, counted, place.1),
        get_or-take count places place.0 0 place.1 ∙ place.2,
      )
    ])

-- what stands at another place than the next one was placed earlier
pub earlier : {X : Type 0} (places : List ℕ) (n k : ℕ) → (k ≡ get_or places n 0 → ⊥)
    → X ⊎ IsPlaced places (n + 1) k → X ⊎ IsPlaced places n k
earlier places n k other (inl is) = inl is
earlier places n k other (inr place) = elim (cases_eq place.0 n) [
  | inl last ↦ absurd (other (sym (ap (λ j. get_or places j 0) (sym last) ∙ place.2)))
  | inr before ↦ inr (place.0, omega (arith, place.1, before), place.2)
]

-- and what was placed is placed later, too
pub later : {X : Type 0} (places : List ℕ) (n k next : ℕ) → n < length places
    → X ⊎ IsPlaced places n k → X ⊎ IsPlaced (set places n next) (n + 1) k
later places n k next room (inl is) = inl is
later places n k next room (inr place) =
    inr (
      place.0,
      omega (arith, place.1),
      get_or-set_other places n place.0 next 0 (omega (arith, place.1)) ∙ place.2,
    )

-- ---- looking at one more index

module _ (known : Known) (indices : List ℕ) (i : ℕ) (inside : i < length indices) where
  abbrev index : ℕ
  index = get_or indices i 0

  more : (b : Bool) → is_unknown known index ≡ b
      → filter (is_unknown known) (take (i + 1) indices)
      ≡ filter (is_unknown known) (take i indices) ++ cond b (index ∷ []) []
  more b is =
      filter_more (is_unknown known) indices i 0 inside
      ∙ ap (λ c. filter (is_unknown known) (take i indices) ++ cond c (index ∷ []) []) is

  pub known_more : (chunk : List ℕ) → chunk_at known index ≡ Some chunk
      → filter (is_unknown known) (take i indices)
      ≡ filter (is_unknown known) (take (i + 1) indices)
  known_more chunk is =
      sym (more false (ap (λ o. not (is_some o)) is)
      ∙ append-nil (filter (is_unknown known) (take i indices)))

  pub unknown_more : (unknown : List ℕ) (count : ℕ) → count < length unknown
      → chunk_at known index ≡ None
      → take count unknown ≡ filter (is_unknown known) (take i indices)
      → take (count + 1) (set unknown count index)
      ≡ filter (is_unknown known) (take (i + 1) indices)
  unknown_more unknown count room is before =
      take-set_at unknown count (count + 1) index refl room
      ∙ ap (λ (l : List ℕ). l ++ index ∷ []) before
      ∙ sym (more true (ap (λ o. not (is_some o)) is))

  pub places_more : (unknown places : List ℕ) (count : ℕ) → count < length unknown
      → count < length places
      → ((j : ℕ) → j < count → (get_or places j 0 < i)
      × (get_or indices (get_or places j 0) 0 ≡ get_or unknown j 0))
      → (j : ℕ) → j < count + 1 → (get_or (set places count i) j 0 < i + 1)
      × (get_or indices (get_or (set places count i) j 0) 0
      ≡ get_or (set unknown count index) j 0)
  places_more unknown places count room space before j under = elim (cases_eq j count) [
    | inl here ↦
        (let place : get_or (set places count i) j 0 ≡ i =
        get_or-set_at places count j i 0 here space in
        let there : get_or (set unknown count index) j 0 ≡ index =
        get_or-set_at unknown count j index 0 here room in
        (omega (arith, place), ap (λ k. get_or indices k 0) place ∙ sym there))
    | inr other ↦
        (let place : get_or (set places count i) j 0 ≡ get_or places j 0 =
        get_or-set_other places count j i 0 other in
        let there : get_or (set unknown count index) j 0 ≡ get_or unknown j 0 =
        get_or-set_other unknown count j index 0 other in
        let is = before j (omega (arith, under, other)) in
        (omega (arith, place, is.0), ap (λ k. get_or indices k 0) place ∙ is.1 ∙ sym there))
  ]

  module _ (pair_of : PairOf) (row : List Chunk) (places : List ℕ) (count : ℕ)
      (before : (k : ℕ) → k < i
      → (row_at row k ≡ calculate_root pair_of known (get_or indices k 0))
      ⊎ IsPlaced places count k)
    where
      pub row_known : (chunk : Chunk) → i < length row → chunk_at known index ≡ Some chunk.0
          → (k : ℕ) → k < i + 1
          → (row_at (set row i chunk) k ≡ calculate_root pair_of known (get_or indices k 0))
          ⊎ IsPlaced places count k
      row_known chunk room is k under = elim (cases_eq k i) [
        | inl here ↦ inl (ap (λ (c : Chunk). c.0)
            (get_or-set_at row i k chunk (record { 0 = [] }) here room)
            ∙ sym (within-known pair_of (deepest (indices_of known)) known index chunk.0 is)
            ∙ ap (λ n. calculate_root pair_of known (get_or indices n 0)) (sym here))
        | inr other ↦
            (let same : row_at (set row i chunk) k ≡ row_at row k =
            ap (λ (c : Chunk). c.0) (get_or-set_other row i k chunk (record { 0 = [] }) other) in
            elim (before k (omega (arith, under, other))) [
              | inl there ↦ inl (same ∙ there)
              | inr place ↦ inr place
            ])
      ]

      pub row_unknown : count < length places → (k : ℕ) → k < i + 1
          → (row_at row k ≡ calculate_root pair_of known (get_or indices k 0))
          ⊎ IsPlaced (set places count i) (count + 1) k
      row_unknown space k under = elim (cases_eq k i) [
        | inl here ↦ inr (
          count,
          omega arith,
          get_or-set_at places count count i 0 refl space ∙ sym here,
        )
        | inr other ↦ later places count k i space (before k (omega (arith, under, other)))
      ]

-- the front of a row that was calculated
pub front_row : (pair_of : PairOf) (known : Known) (indices : List ℕ) (count : ℕ)
    (row rest : List Chunk) → length row ≡ count → length indices ≤ count
    → AreCalculated pair_of known indices row
    → AreCalculated pair_of known indices (take count (row ++ rest))
front_row pair_of known indices count row rest long few has j within =
    let d : Chunk = record { 0 = [] } in
    ap (λ (c : Chunk). c.0) (get_or-take count (row ++ rest) j d (omega arith)
    ∙ get_or_append_left row rest d j (omega (arith, long)))
    ∙ has j within
