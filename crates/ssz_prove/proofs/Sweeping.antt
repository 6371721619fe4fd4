-- A walk down a tree, place by place in ascending order, that comes by some indices and by their
-- helpers.
use Rattle.std.proofs.Common.{◌≡◌, ◌≢◌, ℕ, ◌+◌, ◌*◌, ◌<◌, ◌≤◌, true, eqb, List, [], ◌∷◌, ◌++◌, refl, sym, ap, ◌∙◌, subst, arith, inl, inr}
use Rattle.std.specs.List.{AllByRecursion}
use Rattle.std.proofs.lemmas.Bool.{or_cases, eqb-true, false≢true}
use Rattle.ssz_gindex.specs.Helpers.{AreFlat, is_helper, is_within}
use Rattle.ssz_gindex.specs.Laws.{contains}
use Rattle.ssz_gindex.specs.Walk.{first}
use Rattle.ssz_gindex.proofs.HelperLists.{has_first}
use Rattle.ssz_gindex.proofs.Walking.{append-front, append-last}
use Rattle.ssz_gindex.proofs.Within.{within_least}
use Rattle.ssz_proof.specs.Multiproof.{AscendFrom}
use Rattle.ssz_prove.proofs.Taking.{all_pushed}
use Rattle.ssz_prove.proofs.Rising.{above_low, all_map, ascend-append, has_later}
use Rattle.ssz_prove.proofs.Targets.{HasBelow, HasTarget, IsTarget, child_within, children_cover, index_or_helper, none_below, target_below, within_root}

-- one of some places is at the index, or above it
pub record IsUnder (places : List ℕ) (k : ℕ) : Type 0 where
  pub place : ℕ
  pub among : contains places place ≡ true
  pub within : is_within place k ≡ true

-- All places up to `low` were met. These places wait, and of the indices and of the helpers those
-- above `low`; each of them is at a place that waits, or below one, and no place waits in vain.
pub record Sweep (asked places leaves nodes : List ℕ) (low : ℕ) : Type 0 where
  pub rise : AscendFrom low places
  pub near : AllByRecursion (λ q. q ≤ 2 * low + 1) places
  pub covers : AllByRecursion (HasTarget asked) places
  pub leaves_rise : (t : ℕ) × AscendFrom t leaves
  pub nodes_rise : (t : ℕ) × AscendFrom t nodes
  pub leaf : (k : ℕ) → contains leaves k ≡ true → contains asked k ≡ true
  pub node : (k : ℕ) → contains nodes k ≡ true → is_helper asked k ≡ true
  pub leaf_waits : (k : ℕ) → contains asked k ≡ true → low < k → contains leaves k ≡ true
  pub node_waits : (k : ℕ) → is_helper asked k ≡ true → low < k → contains nodes k ≡ true
  pub leaf_under : (k : ℕ) → contains leaves k ≡ true → IsUnder places k
  pub node_under : (k : ℕ) → contains nodes k ≡ true → IsUnder places k

under_later : (q : ℕ) (places : List ℕ) (k : ℕ) → (is_within q k ≡ true → ⊥)
    → IsUnder (q ∷ places) k → IsUnder places k
under_later q places k never under =
    elim (or_cases (eqb q under.place) (contains places under.place) under.among) [
      | inl here ↦ absurd (never (subst (λ (n : ℕ). is_within n k ≡ true)
          (sym (eqb-true q under.place here)) under.within))
      | inr later ↦ record { place = under.place; among = later; within = under.within }
    ]

-- all wait
pub sweep_start : (asked nodes : List ℕ) → asked ≢ [] → AscendFrom 0 asked → AscendFrom 0 nodes
    → ((k : ℕ) → contains nodes k ≡ is_helper asked k) → Sweep asked (1 ∷ []) asked nodes 0
sweep_start [] nodes some rise nodes_rise same = absurd (some refl)
sweep_start (x ∷ asked) nodes some rise nodes_rise same =
    record {
      rise = (omega arith, tt);
      near = (omega arith, tt);
      covers = (
        record {
          target = x;
          is = inl (has_first x asked);
          within = within_root x rise.0;
        },
        tt,
      );
      leaves_rise = (0, rise);
      nodes_rise = (0, nodes_rise);
      leaf = λ k e. e;
      node = λ k e. sym (same k) ∙ e;
      leaf_waits = λ k e above. e;
      node_waits = λ k e above. same k ∙ e;
      leaf_under = λ k e. record {
        place = 1;
        among = has_first 1 [];
        within = within_root k (above_low 0 (x ∷ asked) k rise e);
      };
      node_under = λ k e. record {
        place = 1;
        among = has_first 1 [];
        within = within_root k (above_low 0 nodes k nodes_rise e);
      };
    }

-- nothing waits where no place waits
pub none_wait : (places xs : List ℕ) → places ≡ []
    → ((k : ℕ) → contains xs k ≡ true → IsUnder places k) → xs ≡ []
none_wait places [] none under = refl
none_wait places (x ∷ xs) none under =
    let is = under x (has_first x xs) in
    absurd (false≢true (ap (λ ys. contains ys is.place) (sym none) ∙ is.among))

module _ (asked places leaves nodes : List ℕ) (q low : ℕ) (flat : AreFlat asked) where
  near_later : low < q → AllByRecursion (λ p. p ≤ 2 * low + 1) places
      → AllByRecursion (λ p. p ≤ 2 * q + 1) places
  near_later less =
      all_map (λ p. p ≤ 2 * low + 1) (λ p. p ≤ 2 * q + 1) (λ p h. omega (arith, h, less)) places

  -- the next of the indices is at the next place
  pub sweep_leaf : Sweep asked (q ∷ places) (q ∷ leaves) nodes low
      → Sweep asked places leaves nodes q
  sweep_leaf sweep =
      let less : low < q = sweep.rise.0 in
      let among : contains asked q ≡ true = sweep.leaf q (has_first q leaves) in
      let rise = sweep.leaves_rise.1.1 in
      let free : (k : ℕ) → IsTarget asked k → q ≢ k → is_within q k ≡ true → ⊥ =
      (λ k is apart within. none_below asked q flat (inl among)
      (target_below asked q k (omega arith) is within apart)) in
      record {
        rise = sweep.rise.1;
        near = near_later less sweep.near.1;
        covers = sweep.covers.1;
        leaves_rise = (q, rise);
        nodes_rise = sweep.nodes_rise;
        leaf = λ k e. sweep.leaf k (has_later q k leaves e);
        node = sweep.node;
        leaf_waits = λ k e above.
            elim (or_cases (eqb q k) (contains leaves k)
            (sweep.leaf_waits k e (omega (arith, above, less)))) [
              | inl here ↦ absurd (omega (arith, eqb-true q k here, above))
              | inr later ↦ later
            ];
        node_waits = λ k e above. sweep.node_waits k e (omega (arith, above, less));
        leaf_under = λ k e. under_later q places k
            (free k (inl (sweep.leaf k (has_later q k leaves e)))
            (λ same. omega (arith, above_low q leaves k rise e, same)))
            (sweep.leaf_under k (has_later q k leaves e));
        node_under = λ k e. under_later q places k
            (free k (inr (sweep.node k e)) (λ same. index_or_helper asked k
            (subst (λ (n : ℕ). contains asked n ≡ true) same among) (sweep.node k e)))
            (sweep.node_under k e);
      }

  -- the next of the helpers is at the next place
  pub sweep_node : Sweep asked (q ∷ places) leaves (q ∷ nodes) low
      → Sweep asked places leaves nodes q
  sweep_node sweep =
      let less : low < q = sweep.rise.0 in
      let helper : is_helper asked q ≡ true = sweep.node q (has_first q nodes) in
      let rise = sweep.nodes_rise.1.1 in
      let free : (k : ℕ) → IsTarget asked k → q ≢ k → is_within q k ≡ true → ⊥ =
      (λ k is apart within. none_below asked q flat (inr helper)
      (target_below asked q k (omega arith) is within apart)) in
      record {
        rise = sweep.rise.1;
        near = near_later less sweep.near.1;
        covers = sweep.covers.1;
        leaves_rise = sweep.leaves_rise;
        nodes_rise = (q, rise);
        leaf = sweep.leaf;
        node = λ k e. sweep.node k (has_later q k nodes e);
        leaf_waits = λ k e above. sweep.leaf_waits k e (omega (arith, above, less));
        node_waits = λ k e above.
            elim (or_cases (eqb q k) (contains nodes k)
            (sweep.node_waits k e (omega (arith, above, less)))) [
              | inl here ↦ absurd (omega (arith, eqb-true q k here, above))
              | inr later ↦ later
            ];
        leaf_under = λ k e. under_later q places k
            (free k (inl (sweep.leaf k e)) (λ same. index_or_helper asked k (sweep.leaf k e)
            (subst (λ (n : ℕ). is_helper asked n ≡ true) same helper)))
            (sweep.leaf_under k e);
        node_under = λ k e. under_later q places k
            (free k (inr (sweep.node k (has_later q k nodes e)))
            (λ same. omega (arith, above_low q nodes k rise e, same)))
            (sweep.node_under k (has_later q k nodes e));
      }

-- numbers that ascend from the first, and are not below q, have q only as the first
not_first : (q low : ℕ) (places xs : List ℕ) → AscendFrom low (q ∷ places)
    → (t : ℕ) × AscendFrom t xs → ((k : ℕ) → contains xs k ≡ true → IsUnder (q ∷ places) k)
    → first xs ≢ q → contains xs q ≡ true → ⊥
not_first q low places [] rise xs_rise under other e = absurd (false≢true e)
not_first q low places (x ∷ xs) rise xs_rise under other e =
    elim (or_cases (eqb x q) (contains xs q) e) [
      | inl here ↦ other (eqb-true x q here)
      | inr later ↦
          (let is = under x (has_first x xs) in
          let least : is.place ≤ x = within_least is.place x is.within in
          let above : x < q = above_low x xs q xs_rise.1.1 later in
          elim (or_cases (eqb q is.place) (contains places is.place) is.among) [
            | inl here ↦ omega (arith, eqb-true q is.place here, least, above)
            | inr behind ↦ omega (arith, above_low q places is.place rise.1 behind, least, above)
          ])
    ]

module _ (asked places leaves nodes : List ℕ) (q low : ℕ)
    (sweep : Sweep asked (q ∷ places) leaves nodes low)
    (no_leaf : first leaves ≢ q) (no_node : first nodes ≢ q) where
  not_target : (t : ℕ) → IsTarget asked t → q ≢ t
  not_target t (inl among) same =
      not_first q low places leaves sweep.rise sweep.leaves_rise sweep.leaf_under no_leaf
      (sweep.leaf_waits q (subst (λ (n : ℕ). contains asked n ≡ true) (sym same) among)
      sweep.rise.0)
  not_target t (inr helper) same =
      not_first q low places nodes sweep.rise sweep.nodes_rise sweep.node_under no_node
      (sweep.node_waits q (subst (λ (n : ℕ). is_helper asked n ≡ true) (sym same) helper)
      sweep.rise.0)

  -- a place with none of both has one of the indices below it
  pub inner_below : HasBelow asked q
  inner_below =
      let has = sweep.covers.0 in
      let less : low < q = sweep.rise.0 in
      target_below asked q has.target (omega arith) has.is has.within (not_target has.target has.is)

  abbrev pub children : List ℕ
  children = (places ++ 2 * q ∷ []) ++ (2 * q + 1) ∷ []

  under_child : (k : ℕ) → IsTarget asked k → IsUnder (q ∷ places) k → IsUnder children k
  under_child k is under =
      elim (or_cases (eqb q under.place) (contains places under.place) under.among) [
        | inl here ↦
            (let less : low < q = sweep.rise.0 in
            elim (child_within q k (omega arith)
            (subst (λ (n : ℕ). is_within n k ≡ true) (sym (eqb-true q under.place here))
            under.within) (not_target k is)) [
              | inl left ↦ record {
                place = 2 * q;
                among = append-front (places ++ 2 * q ∷ []) (2 * q + 1) (2 * q)
                    (append-last places (2 * q));
                within = left;
              }
              | inr right ↦ record {
                place = 2 * q + 1;
                among = append-last (places ++ 2 * q ∷ []) (2 * q + 1);
                within = right;
              }
            ])
        | inr later ↦ record {
          place = under.place;
          among = append-front (places ++ 2 * q ∷ []) (2 * q + 1) under.place
              (append-front places (2 * q) under.place later);
          within = under.within;
        }
      ]

  -- both its children wait in its place
  pub sweep_inner : Sweep asked children leaves nodes q
  sweep_inner =
      let less : low < q = sweep.rise.0 in
      let cover = children_cover asked q (omega arith) inner_below in
      let near : AllByRecursion (λ p. p < 2 * q) places =
      all_map (λ p. p ≤ 2 * low + 1) (λ p. p < 2 * q) (λ p h. omega (arith, h, less)) places
      sweep.near.1 in
      record {
        rise = ascend-append q (places ++ 2 * q ∷ []) (2 * q + 1)
            (ascend-append q places (2 * q) sweep.rise.1 near (omega (arith, less)))
            (all_pushed (λ p. p < 2 * q + 1) places (2 * q)
            (all_map (λ p. p < 2 * q) (λ p. p < 2 * q + 1) (λ p h. omega (arith, h)) places near)
            (omega arith))
            (omega (arith, less));
        near = all_pushed (λ p. p ≤ 2 * q + 1) (places ++ 2 * q ∷ []) (2 * q + 1)
            (all_pushed (λ p. p ≤ 2 * q + 1) places (2 * q)
            (all_map (λ p. p < 2 * q) (λ p. p ≤ 2 * q + 1) (λ p h. omega (arith, h)) places near)
            (omega arith))
            (omega arith);
        covers = all_pushed (HasTarget asked) (places ++ 2 * q ∷ []) (2 * q + 1)
            (all_pushed (HasTarget asked) places (2 * q) sweep.covers.1 cover.0) cover.1;
        leaves_rise = sweep.leaves_rise;
        nodes_rise = sweep.nodes_rise;
        leaf = sweep.leaf;
        node = sweep.node;
        leaf_waits = λ k e above. sweep.leaf_waits k e (omega (arith, above, less));
        node_waits = λ k e above. sweep.node_waits k e (omega (arith, above, less));
        leaf_under = λ k e. under_child k (inl (sweep.leaf k e)) (sweep.leaf_under k e);
        node_under = λ k e. under_child k (inr (sweep.node k e)) (sweep.node_under k e);
      }
