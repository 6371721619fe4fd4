-- The way to the left alone.
use Rattle.std.proofs.Common.{◌≡◌, ℕ, zero, suc, ◌+◌, ◌-◌, ◌*◌, ◌/◌, ◌%◌, ◌^◌, ◌<◌, ◌≤◌, false, true, not, eqb, inl, inr, List, [], ◌∷◌, ◌++◌, length, get_or, map, take, drop, replicate, refl, sym, ap, ◌∙◌, Some, arith}
use Rattle.std.proofs.Math.Nat.{div-eq_of_lt, mod-lt, mul_assoc, pow-le-pow_right}
use Rattle.std.proofs.lemmas.Bool.{both_ways, cases_eq, eqb-true, not-true}
use Rattle.std.proofs.lemmas.List.{get_or-drop, get_or-map, length-drop, length-map, take_all}
use Rattle.std.proofs.lemmas.List.Sums.{prefix_len_passes}
use Rattle.std.proofs.lemmas.Nat.{leading_length, pow-add, pow_pos}
use Rattle.std.proofs.lemmas.Simd.{get_or-chunk, leading_from_mask_l, length-chunk, mask_l-mod, zip2_splat}
use lib.Count.{count_leading_zeros}
use lib.Lanes.{chunk, mask_l, top, zip2}
use Rattle.ssz_chunk.specs.Index.{digits}
use Rattle.ssz_chunk.specs.declared.Chunk.{Chunk}
use Rattle.ssz_chunk.proofs.Digits.{digits-low, digits-join}
use Rattle.ssz_arena.specs.declared.node.NodeId.{NodeId}
use Rattle.ssz_arena.specs.declared.node.Node.{Node}
use Rattle.ssz_arena.specs.Batches.{node_of}
use Rattle.ssz_arena.specs.Content.{child, node_at}
use Rattle.ssz_arena.specs.Shown.{steps_left}
use Rattle.ssz_arena.specs.Stored.{AreBehindLefts, nodes_in, shape_of}
use Rattle.ssz_arena.proofs.Following.{node_at-append, node_at-child}
use Rattle.ssz_arena.proofs.Storing.{read_behind}

-- no step at all
pub no_steps : (nodes : List Node) (id : NodeId) (n : ℕ) → n ≡ 0
    → node_at nodes id (steps_left n) ≡ Some id
no_steps nodes id n none = ap (λ k. node_at nodes id (steps_left k)) none

-- so many steps, and then more
steps-add : (a b : ℕ) → steps_left (a + b) ≡ steps_left a ++ steps_left b
steps-add zero b =
    let same : 0 + b ≡ b = omega arith in ap steps_left same
steps-add (suc a) b =
    let next : suc a + b ≡ suc (a + b) = omega arith in
    ap steps_left next ∙ ap (λ w. false ∷ w) (steps-add a b)

pub more_steps : (nodes : List Node) (id place next : NodeId) (gone more all : ℕ)
    → all ≡ gone + more → node_at nodes id (steps_left gone) ≡ Some place
    → node_at nodes place (steps_left more) ≡ Some next
    → node_at nodes id (steps_left all) ≡ Some next
more_steps nodes id place next gone more all count here there =
    ap (λ n. node_at nodes id (steps_left n)) count
    ∙ ap (node_at nodes id) (steps-add gone more)
    ∙ node_at-append nodes id place (steps_left gone) (steps_left more) here
    ∙ there

-- one step
pub one_step : (nodes : List Node) (place next : NodeId) → place.0 < length nodes
    → Some next ≡ child false (node_of nodes place)
    → node_at nodes place (steps_left 1) ≡ Some next
one_step nodes place next within is = node_at-child nodes place within false (Some next) is []

-- down so many nodes that stand just behind their left children
module _ (nodes : List Node) (cs : List Chunk) (ks fs ls : List ℕ)
    (is : nodes_in cs ks fs ls ≡ nodes) where
  pub behind_steps : (n i : ℕ) → i < length nodes → i ≤ 2 ^ 31 → AreBehindLefts ks i n
      → node_at nodes (record { 0 = i }) (steps_left n) ≡ Some (record { 0 = i - n })
  behind_steps zero i within few behind =
      let same : i ≡ i - 0 = omega arith in ap (λ j. Some (record { 0 = j })) same
  behind_steps (suc n) i within few behind =
      let here : i - 0 ≡ i = omega arith in
      let first : shape_of ks i ≡ 3 =
      ap (shape_of ks) (sym here) ∙ behind.1 0 (omega arith) in
      let end : i - 1 - n ≡ i - suc n = omega arith in
      node_at-child nodes (record { 0 = i }) within false (Some (record { 0 = i - 1 }))
      (read_behind nodes cs ks fs ls i is within first few) (steps_left n)
      ∙ behind_steps n (i - 1) (omega (arith, within)) (omega (arith, few)) (
        omega (arith, behind.0),
        λ k less.
            let next : i - 1 - k ≡ i - suc k = omega arith in
            ap (shape_of ks) next ∙ behind.1 (suc k) (omega (arith, less)),
      )
      ∙ ap (λ j. Some (record { 0 = j })) end

-- ---- eight of them in lanes, of which none has another shape

pub lanes_behind : (ks : List ℕ) (at : ℕ) (low other : ℕ → ℕ → ℕ) → at + 8 ≤ length ks
    → eqb (mask_l (map (top 7) (zip2 other
    (zip2 low (chunk 0 8 (take (length ks - at) (drop at ks))) (replicate 8 3))
    (replicate 8 3))) % 2 ^ 64) 0 ≡ true
    → ((x : ℕ) → low x 3 ≡ x % 4) → ((x : ℕ) → (x ≡ 3 → ⊥) → other x 3 ≡ 255)
    → (j : ℕ) → j < 8 → get_or ks (at + j) 0 % 4 ≡ 3
lanes_behind ks at low other room none lows others j less =
    let rest = drop at ks in
    let all : take (length ks - at) rest ≡ rest =
    take_all (length ks - at) rest (omega (arith, length-drop at ks)) in
    let row = chunk 0 8 (take (length ks - at) rest) in
    let long : length row ≡ 8 = length-chunk 0 8 (take (length ks - at) rest)
    (omega (arith, room, length-drop at ks, ap (λ (l : List ℕ). length l) all)) in
    let shapes = map (λ x. low x 3) row in
    let count : length shapes ≡ 8 = length-map row (λ x. low x 3) ∙ long in
    let marks = map (λ x. other x 3) shapes in
    let lanes : zip2 other (zip2 low row (replicate 8 3)) (replicate 8 3) ≡ marks =
    ap (λ l. zip2 other l (replicate 8 3)) (zip2_splat low row 8 3 long)
    ∙ zip2_splat other shapes 8 3 count in
    let full : length marks ≡ 8 = length-map shapes (λ x. other x 3) ∙ count in
    let mask = ap (λ l. mask_l (map (top 7) l) % 2 ^ 64) lanes
    ∙ mask_l-mod (map (top 7) marks) 64 (omega (arith, full, length-map marks (top 7))) in
    let whole = leading_from_mask_l (top 7) marks (sym mask ∙ eqb-true _ 0 none) in
    let clear = not-true _ (prefix_len_passes (λ x. not (top 7 x)) marks j 0
    (omega (arith, whole, full, less))) in
    let same : 0 + j ≡ j = omega arith in
    let shape : get_or shapes j 0 ≡ get_or ks (at + j) 0 % 4 =
    get_or-map (λ x. low x 3) row j 0 0 (omega (arith, long, less))
    ∙ lows (get_or row j 0)
    ∙ ap (λ x. x % 4) (get_or-chunk 0 8 (take (length ks - at) rest) j 0 less
    ∙ ap (λ k. get_or (take (length ks - at) rest) k 0) same
    ∙ ap (λ l. get_or l j 0) all ∙ get_or-drop at ks j 0) in
    elim (cases_eq (get_or ks (at + j) 0 % 4) 3) [
      | inl three ↦ three
      | inr not_three ↦ absurd (both_ways _ clear (ap (top 7)
          (get_or-map (λ x. other x 3) shapes j 0 0 (omega (arith, count, less))
          ∙ others _ (λ three. not_three (sym shape ∙ three)))))
    ]

-- ---- the digits that are 0

zeros_are : (n : ℕ) → digits n 0 ≡ steps_left n
unfolding digits
zeros_are zero = refl
zeros_are (suc n) =
    let none : 0 / 2 ^ n ≡ 0 = div-eq_of_lt (pow_pos n) in
    ap (λ q. eqb (q % 2) 1 ∷ digits n 0) none ∙ ap (λ w. false ∷ w) (zeros_are n)

-- the first of the last digits of a number, of which so many are 0
left_digits : (n number gone : ℕ) → gone ≤ n → number % 2 ^ n < 2 ^ (n - gone)
    → digits n number ≡ steps_left gone ++ digits (n - gone) number
left_digits n number gone less small =
    let d : ℕ = n - gone in
    let high : ℕ = number / 2 ^ n * 2 ^ gone in
    let low : ℕ = number % 2 ^ n in
    let count : n ≡ gone + d = omega (arith, less) in
    let parts : 2 ^ n ≡ 2 ^ gone * 2 ^ d = ap (λ k. 2 ^ k) count ∙ pow-add 2 gone d in
    let whole : number ≡ high * 2 ^ d + low =
    omega (
      arith,
      ap (λ k. number / 2 ^ n * k) parts,
      mul_assoc (number / 2 ^ n) (2 ^ gone) (2 ^ d),
    ) in
    let none : high ≡ number / 2 ^ n * 2 ^ gone + 0 = omega arith in
    ap (λ k. digits k number) count
    ∙ ap (digits (gone + d)) whole
    ∙ digits-join gone d high low small
    ∙ ap (λ w. w ++ digits d low)
    (ap (digits gone) none ∙ digits-low gone (number / 2 ^ n) 0 ∙ zeros_are gone)
    ∙ ap (λ w. steps_left gone ++ w)
    (sym (digits-low d high low) ∙ ap (digits d) (sym whole))

-- they are as many as leading zeros are counted less those above the digits
zeros_small : (n low count gone : ℕ) → n < 64 → low < 2 ^ n
    → count ≡ count_leading_zeros 64 low - (64 - n) → gone ≤ count
    → (gone ≤ n) × (low < 2 ^ (n - gone))
zeros_small n low count gone few small is less =
    let under : n ≤ 64 = omega (arith, few) in
    let all : 2 ^ n ≤ 2 ^ 64 = pow-le-pow_right {n = 2} (omega arith) under in
    let counted = leading_length 64 low (omega (arith, small, all)) in
    elim (cases_eq gone 0) [
      | inl none ↦
          let whole : n ≡ n - gone = omega (arith, none) in (
            omega (arith, none),
            omega (arith, small, ap (λ k. 2 ^ k) whole),
          )
      | inr some ↦
          let fewer : counted.0 ≤ n - gone = omega (arith, some, is, less, counted.1, few) in
          let wide : 2 ^ counted.0 ≤ 2 ^ (n - gone) =
          pow-le-pow_right {n = 2} (omega arith) fewer in (
            omega (arith, some, is, less, counted.1),
            omega (arith, counted.2, wide),
          )
    ]

-- so the digits behind so many steps
pub lefts_digits : (n number low count gone : ℕ) → n < 64 → low ≡ number % 2 ^ n
    → count ≡ count_leading_zeros 64 low - (64 - n) → gone ≤ count
    → (gone ≤ n) × (digits n number ≡ steps_left gone ++ digits (n - gone) number)
lefts_digits n number low count gone few same is less =
    let small : low < 2 ^ n = omega (arith, same, mod-lt number (pow_pos n)) in
    let parts = zeros_small n low count gone few small is less in
    (parts.0, left_digits n number gone parts.0 (omega (arith, same, parts.1)))
