-- The walk down a tree in an arena, spot by spot.
use Rattle.std.proofs.Common.{◌≡◌, ◌≢◌, ℕ, ◌+◌, ◌*◌, ◌^◌, ◌<◌, ◌≤◌, List, [], ◌∷◌, ◌++◌, length, take, drop, get_or, Some, sym, ap, ◌∙◌, subst, arith}
use Rattle.std.specs.Prelude.{slice_get}
use Rattle.std.specs.List.{AllByRecursion}
use Rattle.std.proofs.lemmas.List.{length-append, drop-append-le}
use Rattle.ssz_chunk.specs.Tree.{leaf}
use Rattle.ssz_arena.specs.declared.node.NodeId.{NodeId}
use Rattle.ssz_arena.specs.Content.{ArenaContent, IsNodeOf, tree_of}
use Rattle.ssz_arena.specs.Shown.{HasChildren}
use Rattle.ssz_gindex.specs.Helpers.{AreFlat, is_helper}
use Rattle.ssz_gindex.specs.Laws.{IsIn, contains}
use Rattle.ssz_gindex.specs.Walk.{first}
use Rattle.ssz_proof.specs.Multiproof.{AscendFrom}
use Rattle.ssz_prove.specs.declared.finding.Spot.{Spot}
use Rattle.ssz_prove.specs.declared.finding.Found.{Found}
use Rattle.ssz_prove.specs.Faults.{AreIn}
use Rattle.ssz_prove.specs.Found.{HasFound, IsIndex, IsSpot, places}
use Rattle.ssz_prove.proofs.Taking.{all_pushed}
use Rattle.ssz_prove.proofs.Listed.{all_taken, drop_at, drop_next, length_more, length_places, none_left, not_next, places_more, spot_at, take_next}
use Rattle.ssz_prove.proofs.Rising.{all_contained}
use Rattle.ssz_prove.proofs.Spots.{leaf_below, spot_left, spot_right, spot_root}
use Rattle.ssz_prove.proofs.Sweeping.{Sweep, inner_below, none_wait, sweep_inner, sweep_leaf, sweep_node, sweep_start}
use Rattle.ssz_prove.proofs.Targets.{HasBelow, twice_least}

-- So many spots were met. The others are still to be met, as are the indices and the helpers that
-- are not among those that were found.
pub record Walks (arena : ArenaContent) (top : NodeId) (asked helpers : List ℕ)
    (spots leaves nodes : List Spot) (met : ℕ) : Type 0 where
  pub within : met ≤ length spots
  pub low : ℕ
  pub sweep : Sweep asked (drop met (places spots)) (drop (length leaves) asked)
      (drop (length nodes) helpers) low
  pub all : AllByRecursion (IsSpot arena top) spots
  pub leaf_places : places leaves ≡ take (length leaves) asked
  pub node_places : places nodes ≡ take (length nodes) helpers
  pub leaf_spots : AllByRecursion (IsSpot arena top) leaves
  pub node_spots : AllByRecursion (IsSpot arena top) nodes

module _ (arena : ArenaContent) (top : NodeId) (asked helpers : List ℕ) where
  pub walks_start : (spot : Spot) (spots leaves nodes : List Spot) → IsNodeOf arena top
      → asked ≢ [] → AscendFrom 0 asked → AscendFrom 0 helpers
      → ((k : ℕ) → contains helpers k ≡ is_helper asked k) → spots ≡ spot ∷ []
      → leaves ≡ [] → nodes ≡ [] → spot.index ≡ 1 → spot.node ≡ top
      → Walks arena top asked helpers spots leaves nodes 0
  walks_start spot spots leaves nodes is some rise helpers_rise same one none no_node index node =
      let only : places spots ≡ 1 ∷ [] = ap places one ∙ ap (λ n. n ∷ []) index in
      let zero_leaves : length leaves ≡ 0 = ap length none in
      let zero_nodes : length nodes ≡ 0 = ap length no_node in
      record {
        within = omega arith;
        low = 0;
        sweep = subst (λ ns. Sweep asked ns (drop (length leaves) asked)
            (drop (length nodes) helpers) 0) (sym only)
            (subst (λ n. Sweep asked (1 ∷ []) (drop n asked) (drop (length nodes) helpers) 0)
            (sym zero_leaves)
            (subst (λ n. Sweep asked (1 ∷ []) asked (drop n helpers) 0) (sym zero_nodes)
            (sweep_start asked helpers some rise helpers_rise same)));
        all = subst (AllByRecursion (IsSpot arena top)) (sym one)
            (spot_root arena top is spot index node, tt);
        leaf_places = ap places none ∙ ap (λ n. take n asked) (sym zero_leaves);
        node_places = ap places no_node ∙ ap (λ n. take n helpers) (sym zero_nodes);
        leaf_spots = subst (AllByRecursion (IsSpot arena top)) (sym none) tt;
        node_spots = subst (AllByRecursion (IsSpot arena top)) (sym no_node) tt;
      }

  module _ (spots leaves nodes : List Spot) (met : ℕ)
      (walks : Walks arena top asked helpers spots leaves nodes met) (flat : AreFlat asked) where
    -- after the last spot all are found
    pub walks_end : (found : Found) → found.leaves.items ≡ leaves → found.nodes.items ≡ nodes
        → length spots ≤ met → HasFound arena top asked helpers found
    walks_end found same_leaves same_nodes far =
        let none : drop met (places spots) ≡ [] =
        none_left (places spots) met (omega (arith, length_places spots)) in
        let all : take (length leaves) asked ≡ asked =
        all_taken asked (length leaves) (none_wait (drop met (places spots))
        (drop (length leaves) asked) none walks.sweep.leaf_under) in
        let all_nodes : take (length nodes) helpers ≡ helpers =
        all_taken helpers (length nodes) (none_wait (drop met (places spots))
        (drop (length nodes) helpers) none walks.sweep.node_under) in
        record {
          leaf_places = ap places same_leaves ∙ walks.leaf_places ∙ all;
          node_places = ap places same_nodes ∙ walks.node_places ∙ all_nodes;
          leaf_spots = subst (AllByRecursion (IsSpot arena top)) (sym same_leaves)
              walks.leaf_spots;
          node_spots = subst (AllByRecursion (IsSpot arena top)) (sym same_nodes)
              walks.node_spots;
        }

    module _ (spot : Spot) (below : met < length spots) (here : spot ≡ get_or spots met spot) where
      is_spot : IsSpot arena top spot
      is_spot = spot_at (IsSpot arena top) spots met spot walks.all below here

      first_place : drop met (places spots) ≡ spot.index ∷ drop (met + 1) (places spots)
      first_place = drop_at spots met spot below here

      swept : Sweep asked (spot.index ∷ drop (met + 1) (places spots))
          (drop (length leaves) asked) (drop (length nodes) helpers) walks.low
      swept = subst (λ ns. Sweep asked ns (drop (length leaves) asked)
          (drop (length nodes) helpers) walks.low) first_place walks.sweep

      -- the next of the indices
      pub walks_leaf : (more : List Spot) → more ≡ leaves ++ spot ∷ []
          → slice_get asked (length leaves) ≡ Some spot.index
          → Walks arena top asked helpers spots more nodes (met + 1)
      walks_leaf more is next =
          let longer : length more ≡ length leaves + 1 = ap length is ∙ length_more leaves spot in
          record {
            within = omega (arith, below);
            low = spot.index;
            sweep = subst (λ n. Sweep asked (drop (met + 1) (places spots)) (drop n asked)
                (drop (length nodes) helpers) spot.index) (sym longer)
                (sweep_leaf asked (drop (met + 1) (places spots))
                (drop (length leaves + 1) asked) (drop (length nodes) helpers) spot.index
                walks.low flat
                (subst (λ ns. Sweep asked (spot.index ∷ drop (met + 1) (places spots)) ns
                (drop (length nodes) helpers) walks.low)
                (drop_next asked (length leaves) spot.index next) swept));
            all = walks.all;
            leaf_places = ap places is ∙ places_more leaves spot
                ∙ ap (λ ns. ns ++ spot.index ∷ []) walks.leaf_places
                ∙ sym (take_next asked (length leaves) spot.index next)
                ∙ ap (λ n. take n asked) (sym longer);
            node_places = walks.node_places;
            leaf_spots = subst (AllByRecursion (IsSpot arena top)) (sym is)
                (all_pushed (IsSpot arena top) leaves spot walks.leaf_spots is_spot);
            node_spots = walks.node_spots;
          }

      -- the next of the helpers
      pub walks_node : (more : List Spot) → more ≡ nodes ++ spot ∷ []
          → slice_get helpers (length nodes) ≡ Some spot.index
          → Walks arena top asked helpers spots leaves more (met + 1)
      walks_node more is next =
          let longer : length more ≡ length nodes + 1 = ap length is ∙ length_more nodes spot in
          record {
            within = omega (arith, below);
            low = spot.index;
            sweep = subst (λ n. Sweep asked (drop (met + 1) (places spots))
                (drop (length leaves) asked) (drop n helpers) spot.index) (sym longer)
                (sweep_node asked (drop (met + 1) (places spots)) (drop (length leaves) asked)
                (drop (length nodes + 1) helpers) spot.index walks.low flat
                (subst (λ ns. Sweep asked (spot.index ∷ drop (met + 1) (places spots))
                (drop (length leaves) asked) ns walks.low)
                (drop_next helpers (length nodes) spot.index next) swept));
            all = walks.all;
            leaf_places = walks.leaf_places;
            node_places = ap places is ∙ places_more nodes spot
                ∙ ap (λ ns. ns ++ spot.index ∷ []) walks.node_places
                ∙ sym (take_next helpers (length nodes) spot.index next)
                ∙ ap (λ n. take n helpers) (sym longer);
            leaf_spots = walks.leaf_spots;
            node_spots = subst (AllByRecursion (IsSpot arena top)) (sym is)
                (all_pushed (IsSpot arena top) nodes spot walks.node_spots is_spot);
          }

      -- neither of them
      module _ (no_leaf : slice_get asked (length leaves) ≡ Some spot.index → ⊥)
          (no_node : slice_get helpers (length nodes) ≡ Some spot.index → ⊥) where
        not_leaf : first (drop (length leaves) asked) ≢ spot.index
        not_leaf = not_next asked (length leaves) spot.index is_spot.positive no_leaf

        not_node : first (drop (length nodes) helpers) ≢ spot.index
        not_node = not_next helpers (length nodes) spot.index is_spot.positive no_node

        has_below : HasBelow asked spot.index
        has_below = inner_below asked (drop (met + 1) (places spots))
            (drop (length leaves) asked) (drop (length nodes) helpers) spot.index walks.low swept
            not_leaf not_node

        -- its children have indices of the type
        pub inner_small : AllByRecursion IsIndex asked → spot.index < 2 ^ 127
        inner_small all =
            let low : has_below.index < 2 ^ 128 =
            (all_contained IsIndex asked has_below.index all has_below.among).fits in
            let twice : 2 * spot.index ≤ has_below.index =
            twice_least spot.index has_below.index is_spot.positive has_below.within
            has_below.apart in
            omega (arith, low, twice)

        -- a leaf there is above one of the indices
        pub inner_missing : (chunk : List ℕ) → tree_of arena spot.node ≡ leaf chunk
            → AreIn (tree_of arena top) asked → ⊥
        inner_missing chunk ends inside =
            leaf_below arena top spot is_spot chunk ends has_below.index has_below.within
            has_below.apart
            (all_contained (IsIn (tree_of arena top)) asked has_below.index inside
            has_below.among)

        -- its children come last
        pub walks_inner : (left right : NodeId) → HasChildren arena spot.node left right
            → (more : List Spot)
            → more ≡ (spots ++ record { index = 2 * spot.index; node = left } ∷ [])
            ++ record { index = 2 * spot.index + 1; node = right } ∷ []
            → Walks arena top asked helpers more leaves nodes (met + 1)
        walks_inner left right has more is =
            let one : Spot = record { index = 2 * spot.index; node = left } in
            let two : Spot = record { index = 2 * spot.index + 1; node = right } in
            let ns = places spots in
            let whole : places more ≡ (ns ++ 2 * spot.index ∷ []) ++ (2 * spot.index + 1) ∷ [] =
            ap places is ∙ places_more (spots ++ one ∷ []) two
            ∙ ap (λ xs. xs ++ (2 * spot.index + 1) ∷ []) (places_more spots one) in
            let front : met + 1 ≤ length ns = omega (arith, below, length_places spots) in
            let longer : length (ns ++ 2 * spot.index ∷ []) ≡ length ns + 1 =
            length-append ns (2 * spot.index ∷ []) in
            let rest : drop (met + 1) (places more) ≡ (drop (met + 1) ns ++ 2 * spot.index ∷ [])
            ++ (2 * spot.index + 1) ∷ [] =
            ap (drop (met + 1)) whole
            ∙ drop-append-le (met + 1) (ns ++ 2 * spot.index ∷ []) ((2 * spot.index + 1) ∷ [])
            (omega (arith, front, longer))
            ∙ ap (λ xs. xs ++ (2 * spot.index + 1) ∷ [])
            (drop-append-le (met + 1) ns (2 * spot.index ∷ []) front) in
            let count : length more ≡ length spots + 1 + 1 =
            ap length is ∙ length_more (spots ++ one ∷ []) two
            ∙ ap (λ n. n + 1) (length_more spots one) in
            record {
              within = omega (arith, below, count);
              low = spot.index;
              sweep = subst (λ xs. Sweep asked xs (drop (length leaves) asked)
                  (drop (length nodes) helpers) spot.index) (sym rest)
                  (sweep_inner asked (drop (met + 1) ns) (drop (length leaves) asked)
                  (drop (length nodes) helpers) spot.index walks.low swept not_leaf not_node);
              all = subst (AllByRecursion (IsSpot arena top)) (sym is)
                  (all_pushed (IsSpot arena top) (spots ++ one ∷ []) two
                  (all_pushed (IsSpot arena top) spots one walks.all
                  (spot_left arena top spot is_spot left right has))
                  (spot_right arena top spot is_spot left right has));
              leaf_places = walks.leaf_places;
              node_places = walks.node_places;
              leaf_spots = walks.leaf_spots;
              node_spots = walks.node_spots;
            }
