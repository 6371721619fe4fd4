-- A union at a place with another option, as an edit of the whole value.
use Rattle.std.proofs.Common.{Bor, ltb, ◌≡◌, ℕ, zero, suc, ◌+◌, ◌*◌, ◌<◌, ◌≤◌, List, [], ◌∷◌, ◌++◌, refl, sym, ap, ap₂, ◌∙◌, subst, Option, Some, None, Ok, Err, arith}
use Rattle.std.specs.Prelude.{option_map, IfSome, IsSome, slice_get}
use Rattle.std.specs.List.{AllByRecursion}
use Rattle.std.proofs.lemmas.Bool.{cond-true, cond-false, lt-ltb, le-ltb}
use Rattle.std.proofs.lemmas.Option.{none-some, same_Some}
use Rattle.ssz_chunk.specs.Chunk.{zero_chunk}
use Rattle.ssz_chunk.specs.Tree.{leaf}
use Rattle.ssz_chunk.specs.Index.{at, put, levels}
use Rattle.ssz_schema.specs.format.Format.{Format}
use Rattle.ssz_schema.specs.declared.path.PathStep.TheVariants.{Selector}
use Rattle.ssz_schema.specs.Types.{SszType, Options, union}
use Rattle.ssz_schema.specs.Sizes.{basic_size, option_count}
use Rattle.ssz_schema.specs.Legal.{IsLegal}
use Rattle.ssz_schema.specs.Unfolding.{Types, type_of, type_tree_at, options_over, IsBelow}
use Rattle.ssz_schema.specs.Paths.{Path, path_type, step_type}
use Rattle.ssz_gindex.specs.Paths.{index_levels}
use Rattle.ssz_schema.specs.Indices.{Spot, whole, byte, bit}
use Rattle.ssz_value.specs.declared.value.Value.{Value}
use Rattle.ssz_value.specs.declared.edit_fault.EditFault.TheVariants.{NotThat, BadSelector}
use Rattle.ssz_value.specs.Values.{SszValue, Fits, FitsOption, IsNoneOption}
use Rattle.ssz_value.proofs.FitLemmas.{at_none_option}
use Rattle.ssz_value.specs.Standing.{value_of, IsValue, OptionFormed}
use Rattle.ssz_value.specs.Trees.{tree, option_tree, mixed_in, number_chunk}
use Rattle.ssz_value.specs.Pairs.{pairs, option_pairs}
use Rattle.ssz_value.specs.Parts.{part}
use Rattle.ssz_value.specs.Edits.{edited, with_choice, choice_of}
use Rattle.ssz_value.specs.Suiting.{IsInner, inner_of}
use Rattle.ssz_arena.specs.declared.node.NodeId.{NodeId}
use Rattle.ssz_arena.specs.Content.{ArenaContent, tree_of}
use Rattle.ssz_places.specs.Spots.{LiesWithin, with_part}
use Rattle.ssz_places.specs.PlaceLaws.{IsTreeOf}
use Rattle.ssz_places.specs.EditLaws.{IsChoice, choice_tree}
use Rattle.ssz_places.specs.Charges.{pairs_at, choice_pairs, choose_charge}
use Rattle.ssz_places.proofs.Charging.{law_of_charges}
use Rattle.ssz_gindex.proofs.HelperNodes.{some_from}
use Rattle.ssz_places.proofs.Theorems.{law_of_choice}
use Rattle.ssz_tree.specs.Added.{AddsNodes, MakesNode, TakesRoom}
use Rattle.ssz_making.specs.Parts.{MadePart, chunk_part, joined_leaf, part_of_value, none_part}
use Rattle.ssz_tree.proofs.Adding.{MakesPair, Makes-joined}
use Rattle.ssz_tree.proofs.FewNodes.{few_nodes}
use Rattle.ssz_walk.specs.declared.place.Place.{Place}
use Rattle.ssz_walk.specs.Found.{spot_of, IsFound}
use Rattle.ssz_edit.specs.Edited.{Edits, IsPut}
use Rattle.ssz_edit.specs.Chosen.{HasNoOptions}
use Rattle.ssz_edit.specs.declared.given.Given.{Given}
use Rattle.ssz_edit.specs.declared.choosing.Choice.{Choice}
use Rattle.ssz_edit.specs.Given.{given_value, option_part, option_value, values_given, FitsOf, IsGiven, IsOfOption}
use Rattle.ssz_edit.specs.Targets.{ChoosesAt}
use Rattle.ssz_edit.proofs.Landing.{from_type, lies, lands, levels_there, pairs_there}
use Rattle.ssz_edit.proofs.Counted.{changeable_composite}

-- no other type is edited so
pub not_union : (u : SszType) (k : ℕ) (x : Option SszValue) (w : SszValue) → HasNoOptions u
    → with_choice k x u w ≡ Err NotThat
not_union (union os) k x w none = absurd none
not_union _ k x w none = refl

-- a number past the options
past_options : (trees : List SszType) (ids : List (Option ℕ)) (k : ℕ) → None ≡ slice_get ids k
    → option_count (options_over trees ids) ≤ k
past_options trees [] k none = omega arith
past_options trees (o ∷ ids) zero none = absurd (none-some o none)
past_options trees (None ∷ ids) (suc k) none =
    let rest = past_options trees ids k none in omega (arith, rest)
past_options trees (Some id ∷ ids) (suc k) none =
    let rest = past_options trees ids k none in omega (arith, rest)

pub bad_selector : (trees : List SszType) (ids : List (Option ℕ)) (k : ℕ) (x : Option SszValue)
    (u : SszType) (w : SszValue) → u ≡ union (options_over trees ids) → None ≡ slice_get ids k
    → with_choice k x u w ≡ Err BadSelector
bad_selector trees ids k x u w is none =
    ap (λ s. with_choice k x s w) is
    ∙ cond-false (ltb k (option_count (options_over trees ids))) _ _
    (le-ltb k (option_count (options_over trees ids)) (past_options trees ids k none))

-- a number of an option
within_options : (trees : List SszType) (ids : List (Option ℕ)) (k : ℕ) (o : Option ℕ)
    → Some o ≡ slice_get ids k → k < option_count (options_over trees ids)
within_options trees [] k o there = absurd (none-some o (sym there))
within_options trees (None ∷ ids) zero o there = omega arith
within_options trees (Some id ∷ ids) zero o there = omega arith
within_options trees (None ∷ ids) (suc k) o there =
    let rest = within_options trees ids k o there in omega (arith, rest)
within_options trees (Some id ∷ ids) (suc k) o there =
    let rest = within_options trees ids k o there in omega (arith, rest)

-- an option of a type below
pub below_option : (n : ℕ) (ids : List (Option ℕ)) (k : ℕ) (o : Option ℕ)
    → Some o ≡ slice_get ids k → AllByRecursion (IsBelow n) ids → IsBelow n o
below_option n [] k o there all = absurd (none-some o (sym there))
below_option n (other ∷ ids) zero o there all =
    subst (IsBelow n) (sym (same_Some o other there)) all.0
below_option n (other ∷ ids) (suc k) o there all = below_option n ids k o there all.1

-- a value of the option of this number
fits_there : (trees : List SszType) (ids : List (Option ℕ)) (k id : ℕ) (x : SszValue)
    → Some (Some id) ≡ slice_get ids k → Fits (type_tree_at trees id) x
    → FitsOption (options_over trees ids) k x
fits_there trees [] k id x there fits = absurd (none-some (Some id) (sym there))
fits_there trees (None ∷ ids) zero id x there fits =
    absurd (none-some id (sym (same_Some (Some id) None there)))
fits_there trees (Some other ∷ ids) zero id x there fits =
    let same : id ≡ other = same_Some id other (same_Some (Some id) (Some other) there) in
    subst (λ n. Fits (type_tree_at trees n) x) same fits
fits_there trees (None ∷ ids) (suc k) id x there fits = fits_there trees ids k id x there fits
fits_there trees (Some other ∷ ids) (suc k) id x there fits =
    fits_there trees ids k id x there fits

-- None has no value, and a type is not None
no_value : {X : Type 0} (trees : List SszType) (ids : List (Option ℕ)) (k : ℕ) (x : SszValue)
    → Some None ≡ slice_get ids k → FitsOption (options_over trees ids) k x → X
no_value trees [] k x there fits = absurd fits
no_value trees (None ∷ ids) zero x there fits = absurd fits
no_value trees (Some other ∷ ids) zero x there fits =
    absurd (none-some other (same_Some None (Some other) there))
no_value trees (None ∷ ids) (suc k) x there fits = no_value trees ids k x there fits
no_value trees (Some other ∷ ids) (suc k) x there fits = no_value trees ids k x there fits

no_none : {X : Type 0} (trees : List SszType) (ids : List (Option ℕ)) (k id : ℕ)
    → Some (Some id) ≡ slice_get ids k → IsNoneOption (options_over trees ids) k → X
no_none trees [] k id there none = absurd none
no_none trees (None ∷ ids) zero id there none =
    absurd (none-some id (sym (same_Some (Some id) None there)))
no_none trees (Some other ∷ ids) zero id there none = absurd none
no_none trees (None ∷ ids) (suc k) id there none = no_none trees ids k id there none
no_none trees (Some other ∷ ids) (suc k) id there none = no_none trees ids k id there none

-- the value of an option of a type
value_there : (trees : List SszType) (ids : List (Option ℕ)) (k id : ℕ) (v : Value)
    → Some (Some id) ≡ slice_get ids k → FitsOption (options_over trees ids) k (value_of v)
    → OptionFormed (options_over trees ids) k v → IsValue (type_tree_at trees id) v
value_there trees [] k id v there fit formed = absurd fit
value_there trees (None ∷ ids) zero id v there fit formed = absurd fit
value_there trees (Some other ∷ ids) zero id v there fit formed =
    let same : id ≡ other = same_Some id other (same_Some (Some id) (Some other) there) in
    subst (λ n. IsValue (type_tree_at trees n) v) (sym same)
    (record { fits = fit; formed = formed })
value_there trees (None ∷ ids) (suc k) id v there fit formed =
    value_there trees ids k id v there fit formed
value_there trees (Some other ∷ ids) (suc k) id v there fit formed =
    value_there trees ids k id v there fit formed

-- the tree and the pairs of an option with a value
option_there : (types : Types) (ids : List (Option ℕ)) (k : ℕ) (o : Option ℕ) (x : SszValue)
    → Some o ≡ slice_get ids k
    → (option_tree (options_over types.trees ids) k x ≡ (option_part types o (Some x)).tree)
    × (option_pairs (options_over types.trees ids) k x ≡ (option_part types o (Some x)).cost)
option_there types [] k o x there = absurd (none-some o (sym there))
option_there types (None ∷ ids) zero o x there =
    subst (λ q. (leaf zero_chunk ≡ (option_part types q (Some x)).tree)
    × (0 ≡ (option_part types q (Some x)).cost)) (sym (same_Some o None there)) (refl, refl)
option_there types (Some id ∷ ids) zero o x there =
    subst (λ q. (tree (type_of types id) x ≡ (option_part types q (Some x)).tree)
    × (pairs (type_of types id) x ≡ (option_part types q (Some x)).cost))
    (sym (same_Some o (Some id) there)) (refl, refl)
option_there types (None ∷ ids) (suc k) o x there = option_there types ids k o x there
option_there types (Some id ∷ ids) (suc k) o x there = option_there types ids k o x there

-- it is a whole node
whole_union : (os : Options) (s : Spot) → LiesWithin (union os) s → s ≡ whole
whole_union os whole _ = refl
whole_union os (byte at) lies = absurd (none-some lies.0 lies.1)
whole_union os (bit at) lies = absurd (cc)

module _ (types : Types) (ids : List (Option ℕ)) (k : ℕ) (option : Option ℕ)
    (there : Some option ≡ slice_get ids k) where
  abbrev os : Options
  os = options_over types.trees ids

  -- what is one of the union is one of the option
  pub of_option : (o : Option ℕ) (inner : Option (Bor Value)) → o ≡ option
      → IsInner (union os) k (inner_of inner)
      → IsOfOption types o (values_given inner)
      × (option_value types o (values_given inner) ≡ option_map value_of (inner_of inner))
  of_option (Some id) (Some v) is inner_is =
      let both = inner_is (within_options types.trees ids k option there) in
      (value_there types.trees ids k id v.now (ap Some is ∙ there) both.0 both.1, refl)
  of_option (Some id) None is inner_is =
      no_none types.trees ids k id (ap Some is ∙ there)
      (inner_is (within_options types.trees ids k option there))
  of_option None (Some v) is inner_is =
      let both = inner_is (within_options types.trees ids k option there) in
      no_value types.trees ids k (value_of v.now) (ap Some is ∙ there) both.0
  of_option None None is inner_is = (tt, refl)

  is_choice : (o : Option ℕ) (x : Option SszValue) → o ≡ option → FitsOf types o x
      → IsChoice (union os) k x
  is_choice (Some id) (Some x) is fits = fits_there types.trees ids k id x (ap Some is ∙ there) fits
  is_choice None None is fits = at_none_option types.trees ids k (ap Some is ∙ there)
  is_choice (Some id) None is fits = absurd fits
  is_choice None (Some x) is fits = absurd fits

  choice_is : (x : Option SszValue)
      → (choice_tree (union os) k x ≡ (option_part types option x).tree)
      × (choice_pairs k x (union os) ≡ (option_part types option x).cost)
  choice_is (Some x) = option_there types ids k option x there
  choice_is None = go option
    where
      go : (o : Option ℕ) → (leaf zero_chunk ≡ (option_part types o None).tree)
          × (0 ≡ (option_part types o None).cost)
      go (Some id) = (refl, refl)
      go None = (refl, refl)

  module _ (format : Format) (arena : ArenaContent) (id : ℕ) (node : NodeId) (path : Path)
      (place : Place) (legal : IsLegal format (type_of types id))
      (found : IsFound types arena id node path place)
      (is : type_of types place.id ≡ union os) where
    abbrev t : SszType
    t = type_of types id

    abbrev u : SszType
    u = type_of types place.id

    choice_levels : index_levels t (path ++ Selector ∷ []) ≡ levels place.index + 1
    choice_levels =
        (law_of_charges t path u (levels place.index) (record {
          type_at = found.led.type_at;
          levels = levels_there format types arena id node path place legal found;
        })).selector (subst (λ s. IsSome (step_type s Selector)) (sym is) refl)

    -- the answers of a choose
    pub choose_made : (x : Option SszValue) → FitsOf types option x → (v : SszValue)
        → IsTreeOf t v (tree_of arena node) → (new : ArenaContent) (made : NodeId)
        → IsPut arena new node place.index
        (joined_leaf (option_part types option x) (number_chunk k)) made
        → AddsNodes (2 * (option_part types option x).cost + 3 + levels place.index)
        ((option_part types option x).cost + 1 + levels place.index) arena new
        → TakesRoom (2 * (option_part types option x).cost + 3 + levels place.index) arena new
        → Edits t arena new node (choose_charge t path k x) (edited (with_choice k x) t v path)
        made
    choose_made x fits v of new made put_is adds takes =
        let y = choice_of k x in
        let w = some_from (part t v path) (found.present v of) in
        let within = within_options types.trees ids k option there in
        let made_is : with_choice k x u w.0 ≡ Ok y =
        ap (λ s. with_choice k x s w.0) is
        ∙ cond-true (ltb k (option_count os)) _ _ (lt-ltb k (option_count os) within) in
        let choice : IsChoice u k x =
        subst (λ s. IsChoice s k x) (sym is)
        (is_choice option x refl fits) in
        let law = law_of_choice u w.0 y k x made_is choice in
        let tree_is : tree u y ≡ mixed_in k (option_part types option x).tree =
        law.1 ∙ ap (mixed_in k) (ap (λ s. choice_tree s k x) is ∙ (choice_is x).0) in
        let spot_is : spot_of place.spot ≡ whole =
        whole_union os (spot_of place.spot) (subst (λ s. LiesWithin s (spot_of place.spot)) is
        (lies format types arena id node path place legal found)) in
        let e = lands format types arena id node path place legal found v of (with_choice k x)
        w.0 y w.1
        (changeable_composite t path u found.led.type_at (ap basic_size is))
        made_is law.0 (tree_of new made)
        (ap (put (tree_of arena node) place.index)
        (ap (λ s. with_part s u y (tree_of arena place.node)) spot_is ∙ tree_is)
        ∙ put_is.is) in
        let cost : pairs_at t path (choice_pairs k x) ≡ (option_part types option x).cost =
        pairs_there format types arena id node path place legal found (choice_pairs k x)
        ∙ ap (choice_pairs k x) is ∙ (choice_is x).1 in (
          e.0,
          e.1,
          record {
            known = put_is.known;
            fits = e.2;
            is = e.3;
            due = omega (arith, put_is.due, choice_levels, cost);
            more = omega (arith, adds.unhashed, choice_levels, cost);
            few = omega (arith, adds.count, choice_levels, cost);
            room = omega (arith, takes, choice_levels, cost);
          },
        )

-- the part that is chosen, where the option and what is given are known
pub no_option_part : (types : Types) (option : Option ℕ) (x : Option SszValue) → option ≡ None
    → option_part types option x ≡ none_part
no_option_part types None x none = refl
no_option_part types (Some id) x none = absurd (none-some id (sym none))

pub no_value_part : (types : Types) (option : Option ℕ) (inner : Option Given) → inner ≡ None
    → option_part types option (option_value types option inner) ≡ none_part
no_value_part types None None none = refl
no_value_part types (Some id) None none = refl
no_value_part types option (Some x) none = absurd (none-some x (sym none))

module _ (types : Types) (option : Option ℕ) (inner : Option Given) (id : ℕ) (g : Given)
    (is : option ≡ Some id) (has : inner ≡ Some g) where
  pub given_of_option : IsOfOption types option inner → IsGiven (type_of types id) g
  given_of_option of =
      subst (λ i. IsOfOption types (Some id) i) has (subst (λ o. IsOfOption types o inner) is of)

  pub given_part : option_part types option (option_value types option inner)
      ≡ part_of_value (type_of types id) (given_value (type_of types id) g)
  given_part = ap₂ (λ o i. option_part types o (option_value types o i)) is has

-- its nodes are few beside its pairs
pub few_in_option : (types : Types) (option : Option ℕ) (x : Option SszValue)
    → FitsOf types option x
    → (let part = option_part types option x in part.nodes ≤ 2 * part.cost + 1)
few_in_option types None x fits = omega arith
few_in_option types (Some id) None fits = omega arith
few_in_option types (Some id) (Some x) fits = few_nodes (type_of types id) x fits

-- an option of a type before others
pub below_more : (n m : ℕ) (o : Option ℕ) → n < m → IsBelow n o → IsBelow m o
below_more n m (Some id) more below = omega (arith, more, below)
below_more n m None more below = tt

-- a node with its selector to its right
pub choice_made : (old a1 a2 a3 : ArenaContent) (part : MadePart) (k : ℕ) (chunk : List ℕ)
    (inner number made : NodeId) → chunk ≡ number_chunk k → MakesNode old a1 part inner
    → MakesNode a1 a2 (chunk_part chunk) number → MakesPair a2 a3 inner number made
    → MakesNode old a3 (joined_leaf part (number_chunk k)) made
choice_made old a1 a2 a3 part k chunk inner number made is first second third =
    subst (λ bytes. MakesNode old a3 (joined_leaf part bytes) made) is
    (Makes-joined old a1 a2 a3 part chunk inner number made first second third)

-- what is one of the union at a path is given for its option, and stands for the same value
pub chosen : (types : Types) (arena : ArenaContent) (id : ℕ) (node : NodeId) (path : Path) (k : ℕ)
    (choice : Choice) → ChoosesAt types arena id node path k choice
    → (inner : Option (Bor Value))
    → IfSome (path_type (type_of types id) path) (λ u. IsInner u k (inner_of inner))
    → IsOfOption types choice.option (values_given inner)
    × (option_value types choice.option (values_given inner)
    ≡ option_map value_of (inner_of inner))
chosen types arena id node path k choice at inner is =
    of_option types at.options k choice.option at.option_there choice.option inner refl
    (subst (λ u. IsInner u k (inner_of inner)) at.is
    (from_type types.format types arena id node path choice.place at.legal at.found
    (λ u. IsInner u k (inner_of inner)) is))
