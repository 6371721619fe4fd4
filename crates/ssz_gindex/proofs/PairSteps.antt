-- One step of the walk: from the greatest node that waits, its pair of siblings to their parent.
use Rattle.std.proofs.Common.{◌≡◌, ◌≢◌, ℕ, ◌+◌, ◌-◌, ◌*◌, ◌/◌, ◌%◌, ◌<◌, ◌≤◌, true, false, List, [], ◌∷◌, ◌++◌, sym, ap, ◌∙◌, subst, arith, ◌⊎◌, inl, inr}
use Rattle.std.proofs.lemmas.Bool.{cases_Bool, cases_lt, cases_eq, false≢true}
use Rattle.ssz_gindex.specs.Helpers.{sibling, is_on_paths, is_helper, AreNested}
use Rattle.ssz_gindex.specs.Laws.{IsDescending, contains}
use Rattle.ssz_gindex.specs.Walk.{IsMetParent, Met}
use Rattle.ssz_gindex.proofs.Within.{within_self, on_paths_from, on_paths_parent, sibling-even, sibling-odd}
use Rattle.ssz_gindex.proofs.Walking.{IsHelper, helper_is, helper_from, sibling_near, index_or_child, on_below, upper_lower, contains-append, append-front, append-last, descending-append}

-- what is left of an end where g is the greatest node that waits: all but the pair
pub record Pair (old new : List ℕ) (g : ℕ) : Type 0 where
  pub most : (k : ℕ) → contains old k ≡ true → k ≤ g
  pub falls : IsDescending new
  pub kept : (k : ℕ) → contains new k ≡ true
      → (contains old k ≡ true) × (k ≢ g) × (k ≢ sibling g)
  pub stays : (k : ℕ) → contains old k ≡ true → k ≢ g → k ≢ sibling g → contains new k ≡ true

-- a step from the node g: what is left at both ends, neither node of the pair stood at both
pub record Steps (waiting rest parents uppers : List ℕ) (g : ℕ) : Type 0 where
  pub large : 2 ≤ g
  pub waited : (contains waiting g ≡ true) ⊎ (contains parents g ≡ true)
  pub own : Pair waiting rest g
  pub upper : Pair parents uppers g
  pub single : contains waiting g ≡ true → contains parents g ≡ true → ⊥
  pub single_sibling : contains waiting (sibling g) ≡ true
      → contains parents (sibling g) ≡ true → ⊥

module _ (indices waiting rest parents uppers found : List ℕ) (bound g : ℕ)
    (met : Met indices waiting parents found bound)
    (steps : Steps waiting rest parents uppers g) where
  -- where it waits, a node is on the paths
  waits_on : (k : ℕ) → (contains waiting k ≡ true) ⊎ (contains parents k ≡ true)
      → (k < bound) × (is_on_paths indices k ≡ true)
  waits_on k (inl own) =
      let is = met.index k own in (is.0, on_paths_from indices k k is.1 (within_self k))
  waits_on k (inr upper) =
      let is = met.parent k upper in (
        is.below,
        subst (λ (j : ℕ). is_on_paths indices j ≡ true) is.half
            (on_paths_parent indices is.child is.large is.on),
      )

  pair_below : 2 * (g / 2) + 1 < bound
  pair_below =
      let low : g < bound = (waits_on g steps.waited).0 in
      let even : bound % 2 ≡ 0 = met.even in omega arith

  half_positive : 0 < g / 2
  half_positive = let large : 2 ≤ g = steps.large in omega arith

  below_pair : (k : ℕ) → k ≤ g → k ≢ g → k ≢ sibling g → k < 2 * (g / 2)
  below_pair k most not_g not_sibling = elim (cases_eq (g % 2) 0) [
    | inl even ↦ omega arith
    | inr odd ↦ (let is = sibling-odd g (omega arith) in
        let not_left : k ≢ g - 1 = (λ e. not_sibling (e ∙ sym is)) in omega arith)
  ]

  below : (k : ℕ) → is_on_paths indices k ≡ true → 0 < k → k < bound → k ≤ g
  below = on_below indices waiting parents found bound met g steps.own.most steps.upper.most

  -- a node on the paths that is beyond the pair was met
  on_far : (k : ℕ) → is_on_paths indices k ≡ true → 2 * (g / 2) + 2 ≤ k → bound ≤ k
  on_far k on far = elim (cases_lt k bound) [
    | inl low ↦ absurd (let small = below k on (omega arith) low in omega arith)
    | inr met_it ↦ met_it
  ]

  -- What waits then.
  new_index : (k : ℕ) → contains rest k ≡ true
      → (k < 2 * (g / 2)) × (contains indices k ≡ true)
  new_index k waits =
      let kept = steps.own.kept k waits in
      (below_pair k (steps.own.most k kept.0) kept.1 kept.2, (met.index k kept.0).1)

  new_index_waits : (k : ℕ) → contains indices k ≡ true → k < 2 * (g / 2)
      → contains rest k ≡ true
  new_index_waits k index low =
      let near = sibling_near g steps.large in
      steps.own.stays k (met.index_waits k index (omega (arith, low, pair_below)))
      (λ e. omega (arith, low, e)) (λ e. omega (arith, low, e, near.0))

  new_parent : (k : ℕ) → contains (uppers ++ g / 2 ∷ []) k ≡ true
      → IsMetParent indices (2 * (g / 2)) k
  new_parent k waits = elim (contains-append uppers (g / 2) k waits) [
    | inl front ↦
        (let kept = steps.upper.kept k front in
        let was = met.parent k kept.0 in
        record {
          below = below_pair k (steps.upper.most k kept.0) kept.1 kept.2;
          child = was.child;
          large = was.large;
          on = was.on;
          met = omega (arith, was.met, pair_below);
          half = was.half;
        })
    | inr last ↦ record {
      below = omega (arith, half_positive, last);
      child = g;
      large = steps.large;
      on = (waits_on g steps.waited).1;
      met = omega arith;
      half = last;
    }
  ]

  new_parent_waits : (k : ℕ) → is_on_paths indices k ≡ true → 2 * (g / 2) ≤ k → 2 ≤ k
      → k / 2 < 2 * (g / 2) → contains (uppers ++ g / 2 ∷ []) (k / 2) ≡ true
  new_parent_waits k on far large low = elim (cases_lt k bound) [
    | inl near ↦
        (let small = below k on (omega (arith, large)) near in
        let same : g / 2 ≡ k / 2 = omega (arith, far, small) in
        subst (λ (j : ℕ). contains (uppers ++ g / 2 ∷ []) j ≡ true) same
        (append-last uppers (g / 2)))
    | inr met_it ↦
        (let near = sibling_near g steps.large in
        append-front uppers (g / 2) (k / 2)
        (steps.upper.stays (k / 2)
        (met.parent_waits k on met_it large (omega (arith, low, pair_below)))
        (λ e. omega (arith, low, e)) (λ e. omega (arith, low, e, near.0))))
  ]

  -- the parent is below those of all that was met before
  new_parents_fall : IsDescending (uppers ++ g / 2 ∷ [])
  new_parents_fall =
      descending-append uppers (g / 2) steps.upper.falls
      (λ k e. (let was = met.parent k (steps.upper.kept k e).0 in
      let half : was.child / 2 ≡ k = was.half in
      omega (arith, half, was.met, pair_below)))

  new_flat : (a b : ℕ) → AreNested indices a b → a < 2 * (g / 2)
  new_flat =
      upper_lower indices waiting parents found bound met g steps.own.most steps.upper.most
      steps.single steps.large steps.single_sibling

  -- no helper is beyond the pair that was not met
  helper_far : (k : ℕ) → IsHelper indices k → 2 * (g / 2) + 2 ≤ k → bound ≤ k
  helper_far k helper far =
      let near = sibling_near k helper.large in
      let even : bound % 2 ≡ 0 = met.even in
      let beyond = on_far (sibling k) helper.beside (omega (arith, near.0)) in
      omega (arith, near.1)

  -- the helper of the pair, if there is one, is the sibling
  helper_pair : (k : ℕ) → IsHelper indices k → 2 * (g / 2) ≤ k → k < bound
      → (k ≡ sibling g) × (is_on_paths indices (sibling g) ≡ false)
  helper_pair k helper far below = elim (cases_lt k (2 * (g / 2) + 2)) [
    | inr beyond ↦ absurd (omega (arith, helper_far k helper beyond))
    | inl within ↦ (elim (cases_eq k g) [
      | inl same ↦ absurd (false≢true
          (sym helper.off ∙ ap (is_on_paths indices) same ∙ (waits_on g steps.waited).1))
      | inr other ↦
          (let near = sibling_near g steps.large in
          let is : k ≡ sibling g = omega (arith, near.0, near.1, near.2) in
          (is, ap (is_on_paths indices) (sym is) ∙ helper.off))
    ])
  ]

  -- The pair is whole: it has no helper.
  pub pair-whole : (contains waiting (sibling g) ≡ true) ⊎ (contains parents (sibling g) ≡ true)
      → Met indices rest (uppers ++ g / 2 ∷ []) found (2 * (g / 2))
  pair-whole both = record {
    even = omega arith;
    positive = met.positive;
    falls = steps.own.falls;
    index = new_index;
    index_waits = new_index_waits;
    parents_fall = new_parents_fall;
    parent = new_parent;
    parent_waits = new_parent_waits;
    flat = new_flat;
    down = met.down;
    helper = λ k e. (let is = met.helper k e in (omega (arith, pair_below, is.0), is.1));
    all = λ k e far. elim (cases_lt k bound) [
      | inl low ↦ absurd (false≢true
          (sym (helper_pair k (helper_is indices k e) far low).1
          ∙ (waits_on (sibling g) both).1))
      | inr met_it ↦ met.all k e met_it
    ];
  }

  -- The sibling is a helper.
  sibling_off : contains waiting (sibling g) ≡ false → contains parents (sibling g) ≡ false
      → is_on_paths indices (sibling g) ≡ false
  sibling_off no_index no_parent = elim (cases_Bool (is_on_paths indices (sibling g))) [
    | inl on ↦
        (let near = sibling_near g steps.large in
        elim (index_or_child indices (sibling g) (omega (arith, near.0, half_positive)) on) [
          | inl index ↦ absurd (false≢true (sym no_index
              ∙ met.index_waits (sibling g) index (omega (arith, near.1, pair_below))))
          | inr lower ↦
              (let half : lower.child / 2 ≡ sibling g = lower.half in
              absurd (false≢true (sym no_parent
              ∙ subst (λ (k : ℕ). contains parents k ≡ true) half
              (met.parent_waits lower.child lower.on
              (on_far lower.child lower.on (omega (arith, half, near.0, half_positive)))
              (omega (arith, half, near.0, half_positive))
              (omega (arith, half, near.1, pair_below))))))
        ])
    | inr off ↦ off
  ]

  sibling_helper : contains waiting (sibling g) ≡ false → contains parents (sibling g) ≡ false
      → is_helper indices (sibling g) ≡ true
  sibling_helper no_index no_parent =
      let near = sibling_near g steps.large in
      let large : 2 ≤ g = steps.large in
      helper_from indices (sibling g) (record {
        large = omega (arith, near.0);
        off = sibling_off no_index no_parent;
        beside = ap (is_on_paths indices) twice ∙ (waits_on g steps.waited).1;
      })
    where
      twice : sibling (sibling g) ≡ g
      twice = elim (cases_eq (g % 2) 0) [
        | inl even ↦ (let is = sibling-even g even in
            let back = sibling-odd (sibling g) (omega arith) in omega arith)
        | inr odd ↦ (let large : 2 ≤ g = steps.large in let is = sibling-odd g (omega arith) in
            let back = sibling-even (sibling g) (omega arith) in omega arith)
      ]

  pub pair-single : contains waiting (sibling g) ≡ false → contains parents (sibling g) ≡ false
      → Met indices rest (uppers ++ g / 2 ∷ []) (found ++ sibling g ∷ []) (2 * (g / 2))
  pair-single no_index no_parent =
      let near = sibling_near g steps.large in record {
        even = omega arith;
        positive = met.positive;
        falls = steps.own.falls;
        index = new_index;
        index_waits = new_index_waits;
        parents_fall = new_parents_fall;
        parent = new_parent;
        parent_waits = new_parent_waits;
        flat = new_flat;
        down = descending-append found (sibling g) met.down
            (λ k e. omega (arith, (met.helper k e).0, near.1, pair_below));
        helper = λ k e. elim (contains-append found (sibling g) k e) [
          | inl before ↦ (let is = met.helper k before in (omega (arith, pair_below, is.0), is.1))
          | inr last ↦ (
            omega (arith, near.0, last),
            subst (λ (j : ℕ). is_helper indices j ≡ true)
                last (sibling_helper no_index no_parent),
          )
        ];
        all = λ k e far. elim (cases_lt k bound) [
          | inl low ↦ subst (λ (j : ℕ). contains (found ++ sibling g ∷ []) j ≡ true)
              (sym (helper_pair k (helper_is indices k e) far low).0)
              (append-last found (sibling g))
          | inr met_it ↦ append-front found (sibling g) k (met.all k e met_it)
        ];
      }
