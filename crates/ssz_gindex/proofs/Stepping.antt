-- What is taken at the two ends by a step from the greatest node that waits.
use Rattle.std.proofs.Common.{◌≡◌, ◌≢◌, ℕ, ◌+◌, ◌*◌, ◌/◌, ◌<◌, ◌≤◌, max, Bool, true, false, ◌&&◌, ◌||◌, eqb, List, [], ◌∷◌, ◌++◌, refl, sym, ap, ◌∙◌, subst, arith, ◌⊎◌, inl, inr}
use Rattle.std.proofs.lemmas.Bool.{cases_eq, and_from, and_parts, or_cases, eq-eqb, false≢true}
use Rattle.ssz_gindex.specs.Helpers.{sibling, helpers, AreFlat}
use Rattle.ssz_gindex.specs.Laws.{IsDescending, contains}
use Rattle.ssz_gindex.specs.Walk.{first, total, height, IsUpper, WalksHelpers}
use Rattle.ssz_gindex.proofs.Ends.{Takes, leaves_from, first-most, total-taken, total-some, total-push}
use Rattle.ssz_gindex.proofs.Walking.{same_tests, sibling_near, meets-upper, sibling-upper, ends-helpers, ends-flat}
use Rattle.ssz_gindex.proofs.PairSteps.{Pair, Steps, pair-whole, pair-single}

-- an end after a node and its sibling were taken there, and whether they waited
pub record Pairs (old new : List ℕ) (g : ℕ) (node beside : Bool) : Type 0 where
  pub pair : Pair old new g
  pub node_waited : node ≡ contains old g
  pub beside_waited : beside ≡ contains old (sibling g)

pub pairs_from : (g s : ℕ) (old mid new : List ℕ) (node beside : Bool) → 2 ≤ g → s ≡ sibling g
    → IsDescending old → first old ≤ g → Takes g old mid node → Takes s mid new beside
    → Pairs old new g node beside
pairs_from g s old mid new node beside large is_sibling falls top takes takes_sibling =
    let near = sibling_near g large in
    let most : (k : ℕ) → contains old k ≡ true → k ≤ g =
    (λ k e. omega (arith, first-most old k falls e, top)) in
    let one = leaves_from g old mid node (omega (arith, large)) falls most takes in
    let two = leaves_from s mid new beside (omega (arith, large, is_sibling, near.0)) one.falls
    (λ k e. (let kept = one.kept k e in
    omega (arith, most k kept.0, kept.1, is_sibling, near.0, near.1, near.2))) takes_sibling in
    record {
      pair = record {
        most = most;
        falls = two.falls;
        kept = λ k e. (let again = two.kept k e in
            let kept = one.kept k again.0 in
            (kept.0, kept.1, λ same. again.1 (same ∙ sym is_sibling)));
        stays = λ k e not_g not_s.
            two.stays k (one.stays k e not_g) (λ same. not_s (same ∙ is_sibling));
      };
      node_waited = one.waited;
      beside_waited = two.waited
          ∙ same_tests (contains mid s) (contains old s) (λ e. (one.kept s e).0)
          (λ e. one.stays s e (λ same. near.2 (sym is_sibling ∙ same)))
          ∙ ap (contains old) is_sibling;
    }

-- a node that was not taken at both ends does not stand at both
pub single_from : (waiting parents : List ℕ) (g : ℕ) (index parent : Bool)
    → index ≡ contains waiting g → parent ≡ contains parents g → (index && parent) ≡ false
    → contains waiting g ≡ true → contains parents g ≡ true → ⊥
single_from waiting parents g index parent is is_parent not_both own upper =
    false≢true (sym not_both ∙ and_from index parent (is ∙ own) (is_parent ∙ upper))

neither : (a b : Bool) → (a || b) ≡ false → (a ≡ false) × (b ≡ false)
neither true b e = absurd (false≢true (sym e))
neither false b e = (refl, e)

-- the greatest node stands at one of the fronts
front : (waiting parents : List ℕ) (g : ℕ) (index parent : Bool)
    → g ≡ max (first waiting) (first parents) → index ≡ eqb (first waiting) g
    → parent ≡ eqb (first parents) g → (index ≡ true) ⊎ (parent ≡ true)
front waiting parents g index parent greatest is is_parent =
    elim (cases_eq (first waiting) g) [
      | inl same ↦ inl (is ∙ eq-eqb (first waiting) g same)
      | inr other ↦ inr (is_parent ∙ eq-eqb (first parents) g (omega (arith, greatest, other)))
    ]

-- what four calls take
pub record Calls (waiting mid rest parents above uppers : List ℕ) (g s : ℕ)
    (index parent beside_index beside_parent : Bool) : Type 0 where
  pub large : 2 ≤ g
  pub is_sibling : s ≡ sibling g
  pub greatest : g ≡ max (first waiting) (first parents)
  pub index_takes : Takes g waiting mid index
  pub parent_takes : Takes g parents above parent
  pub beside_takes : Takes s mid rest beside_index
  pub upper_takes : Takes s above uppers beside_parent

module _ (waiting mid rest parents above uppers : List ℕ) (g s : ℕ)
    (index parent beside_index beside_parent : Bool)
    (calls : Calls waiting mid rest parents above uppers g s index parent beside_index
    beside_parent) where
  pub own_pairs : IsDescending waiting → Pairs waiting rest g index beside_index
  own_pairs falls =
      pairs_from g s waiting mid rest index beside_index calls.large calls.is_sibling falls
      (omega (arith, calls.greatest)) calls.index_takes calls.beside_takes

  pub upper_pairs : IsDescending parents → Pairs parents uppers g parent beside_parent
  upper_pairs falls =
      pairs_from g s parents above uppers parent beside_parent calls.large calls.is_sibling falls
      (omega (arith, calls.greatest)) calls.parent_takes calls.upper_takes

  pub steps_from : IsDescending waiting → IsDescending parents → (index && parent) ≡ false
      → (beside_index && beside_parent) ≡ false → Steps waiting rest parents uppers g
  steps_from falls parents_fall not_both not_both_beside =
      let indices_end = own_pairs falls in
      let parents_end = upper_pairs parents_fall in record {
        large = calls.large;
        waited = elim (front waiting parents g index parent calls.greatest
            calls.index_takes.is calls.parent_takes.is) [
              | inl there ↦ inl (sym indices_end.node_waited ∙ there)
              | inr there ↦ inr (sym parents_end.node_waited ∙ there)
            ];
        own = indices_end.pair;
        upper = parents_end.pair;
        single = single_from waiting parents g index parent indices_end.node_waited
            parents_end.node_waited not_both;
        single_sibling = single_from waiting parents (sibling g) beside_index beside_parent
            indices_end.beside_waited parents_end.beside_waited not_both_beside;
      }

  -- less is left, with the parent
  pub height-falls : (h : ℕ) (now : List ℕ) → h ≡ g / 2 → now ≡ uppers ++ h ∷ []
      → height rest now < height waiting parents
  height-falls h now is_half is =
      let large : 2 ≤ g = calls.large in
      let beside : 0 < s =
      omega (arith, large, calls.is_sibling, (sibling_near g large).0) in
      let positive : 0 < g = omega arith in
      let own = total-some s mid rest beside_index beside calls.beside_takes in
      let upper = total-some s above uppers beside_parent beside calls.upper_takes in
      let pushed : total now ≡ total uppers + h = ap total is ∙ total-push uppers h in
      elim (front waiting parents g index parent calls.greatest
      calls.index_takes.is calls.parent_takes.is) [
        | inl there ↦ omega (
          arith,
          own,
          upper,
          pushed,
          is_half,
          total-taken g waiting mid index positive calls.index_takes there,
          total-some g parents above parent positive calls.parent_takes,
          large,
        )
        | inr there ↦ omega (
          arith,
          own,
          upper,
          pushed,
          is_half,
          total-some g waiting mid index positive calls.index_takes,
          total-taken g parents above parent positive calls.parent_takes there,
          large,
        )
      ]

  -- What a step comes to.
  module _ (indices found : List ℕ) (walks : WalksHelpers indices waiting parents found)
      (not_both : (index && parent) ≡ false) where
    -- both ends had the sibling at the front
    pub sibling-met : (beside_index && beside_parent) ≡ true → IsUpper indices s
    sibling-met both =
        let met = walks.1 in
        let own = own_pairs met.falls in
        let upper = upper_pairs met.parents_fall in
        let parts = and_parts beside_index beside_parent both in
        subst (IsUpper indices) (sym calls.is_sibling)
        (sibling-upper indices waiting parents found walks.0 met g own.pair.most upper.pair.most
        (single_from waiting parents g index parent own.node_waited upper.node_waited not_both)
        calls.large (sym own.beside_waited ∙ parts.0) (sym upper.beside_waited ∙ parts.1))

    module _ (not_both_beside : (beside_index && beside_parent) ≡ false) (h : ℕ)
        (now : List ℕ) (is_half : h ≡ g / 2) (is : now ≡ uppers ++ h ∷ []) where
      pushed : now ≡ uppers ++ g / 2 ∷ []
      pushed = is ∙ ap (λ (k : ℕ). uppers ++ k ∷ []) is_half

      pub single-met : (beside_index || beside_parent) ≡ false
          → WalksHelpers indices rest now (found ++ s ∷ [])
      single-met none =
          let met = walks.1 in
          let own = own_pairs met.falls in
          let upper = upper_pairs met.parents_fall in
          let parts = neither beside_index beside_parent none in
          subst (λ (xs : List ℕ). WalksHelpers indices rest xs (found ++ s ∷ [])) (sym pushed)
          (subst (λ (k : ℕ). WalksHelpers indices rest (uppers ++ g / 2 ∷ []) (found ++ k ∷ []))
          (sym calls.is_sibling) (
            2 * (g / 2),
            pair-single indices waiting rest parents uppers found walks.0 g met
                (steps_from met.falls met.parents_fall not_both not_both_beside)
                (sym own.beside_waited ∙ parts.0) (sym upper.beside_waited ∙ parts.1),
          ))

      pub whole-met : (beside_index || beside_parent) ≡ true
          → WalksHelpers indices rest now found
      whole-met some =
          let met = walks.1 in
          let own = own_pairs met.falls in
          let upper = upper_pairs met.parents_fall in
          subst (λ (xs : List ℕ). WalksHelpers indices rest xs found) (sym pushed) (
            2 * (g / 2),
            pair-whole indices waiting rest parents uppers found walks.0 g met
                (steps_from met.falls met.parents_fall not_both not_both_beside)
                (elim (or_cases beside_index beside_parent some) [
                  | inl there ↦ inl (sym own.beside_waited ∙ there)
                  | inr there ↦ inr (sym upper.beside_waited ∙ there)
                ]),
          )

-- The greatest node alone.
module _ (indices waiting parents found : List ℕ)
    (walks : WalksHelpers indices waiting parents found) where
  -- no more waits
  pub none-met : max (first waiting) (first parents) ≡ 0
      → (found ≡ helpers indices) × AreFlat indices
  none-met none =
      let met = walks.1 in
      let most : (k : ℕ) → contains waiting k ≡ true → k ≤ 0 =
      (λ k e. omega (arith, first-most waiting k met.falls e, none)) in
      let parents_most : (k : ℕ) → contains parents k ≡ true → k ≤ 0 =
      (λ k e. omega (arith, first-most parents k met.parents_fall e, none)) in
      let single : contains waiting 0 ≡ true → contains parents 0 ≡ true → ⊥ =
      (λ own upper. omega (arith, met.positive 0 (met.index 0 own).1)) in (
        ends-helpers indices waiting parents found walks.0 met 0 most parents_most single
            (omega arith),
        ends-flat indices waiting parents found walks.0 met 0 most parents_most single
            (omega arith),
      )

  module _ (mid above : List ℕ) (g : ℕ) (index parent : Bool) (positive : 0 < g)
      (greatest : g ≡ max (first waiting) (first parents))
      (takes : Takes g waiting mid index) (parent_takes : Takes g parents above parent) where
    most : (k : ℕ) → contains waiting k ≡ true → k ≤ g
    most k e = omega (arith, first-most waiting k walks.1.falls e, greatest)

    parents_most : (k : ℕ) → contains parents k ≡ true → k ≤ g
    parents_most k e = omega (arith, first-most parents k walks.1.parents_fall e, greatest)

    own : index ≡ contains waiting g
    own = (leaves_from g waiting mid index positive walks.1.falls most takes).waited

    upper : parent ≡ contains parents g
    upper = (leaves_from g parents above parent positive walks.1.parents_fall parents_most
        parent_takes).waited

    -- it stood at both fronts
    pub upper-met : (index && parent) ≡ true → IsUpper indices g
    upper-met both =
        let parts = and_parts index parent both in
        meets-upper indices waiting parents found walks.0 walks.1 g most parents_most
        (sym own ∙ parts.0) (sym upper ∙ parts.1)

    -- it is the root
    pub root-met : (index && parent) ≡ false → g ≤ 1
        → (found ≡ helpers indices) × AreFlat indices
    root-met not_both last =
        let single = single_from waiting parents g index parent own upper not_both in (
          ends-helpers indices waiting parents found walks.0 walks.1 g most parents_most single
              last,
          ends-flat indices waiting parents found walks.0 walks.1 g most parents_most single
              last,
        )
