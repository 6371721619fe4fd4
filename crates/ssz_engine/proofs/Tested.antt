-- What the tests of an edit come to, by the place that was found.
use Rattle.std.proofs.Common.{◌≡◌, ◌≤◌, ◌<◌, ℕ, zero, suc, Bool, true, false, not, List, [], ◌∷◌, length, Option, Some, None, Ok, Err, refl, sym, ap, ap₂, ◌∙◌, arith}
use Rattle.std.specs.Prelude.{nat_le, slice_get, option_and_then}
use Rattle.std.proofs.lemmas.Bool.{false≢true, le-leb, lt-leb}
use Rattle.std.proofs.lemmas.Option.{none-some, same_Some, slice_get_within}
use Rattle.ssz_schema.specs.declared.path.PathStep.{PathStep}
use Rattle.ssz_schema.specs.declared.path.PathStep.TheVariants.{Field, Index, Len, Selector, Option as Chosen}
use Rattle.ssz_schema.proofs.PathLemmas.{and_then_parts}
use Rattle.ssz_schema.specs.Types.{SszType, Options, list, bitlist, union}
use Rattle.ssz_schema.specs.Sizes.{option_count}
use Rattle.ssz_schema.proofs.OptionLemmas.{option_count-over}
use Rattle.ssz_schema.specs.Paths.{Path, path_type, step_type}
use Rattle.ssz_schema.specs.Unfolding.{Types, type_of, options_over}
use Rattle.ssz_gindex.proofs.HelperNodes.{some_from}
use Rattle.ssz_value.specs.declared.edit_fault.EditFault.{EditFault}
use Rattle.ssz_value.specs.declared.edit_fault.EditFault.TheVariants as edit_fault
use Rattle.ssz_value.specs.declared.path_fault.PathFault.{PathFault}
use Rattle.ssz_value.specs.declared.path_fault.PathFault.TheVariants.{BadPath, Absent}
use Rattle.ssz_value.specs.Values.{SszValue}
use Rattle.ssz_value.specs.Parts.{part}
use Rattle.ssz_arena.specs.declared.node.NodeId.{NodeId}
use Rattle.ssz_arena.specs.Content.{ArenaContent as Nodes, tree_of}
use Rattle.ssz_places.specs.PlaceLaws.{IsTreeOf}
use Rattle.ssz_places.specs.EditLaws.{content, count_of, element_type, is_changeable}
use Rattle.ssz_places.proofs.PathLaws.{composite}
use Rattle.ssz_walk.specs.declared.place.Place.{Place}
use Rattle.ssz_walk.specs.Found.{IsFound, IsLost}
use Rattle.ssz_script.specs.declared.reply.TheConstants.Reply.{BAD_PATH, ABSENT, NOT_THAT, FULL, BAD_SELECTOR}
use Rattle.ssz_machine.specs.Rules.{Outcome, ◌>>=◌, ◌>>◌, edit_code, coded, need, refuse}
use Rattle.ssz_machine.specs.Editing.{element_of, ends_beside, limit_of, options_of}
use Rattle.ssz_edit.proofs.Counted.{changeable_composite, count_small}
use Rattle.ssz_edit.proofs.ListLanding.{list_value, element_type_is}
use Rattle.ssz_edit.specs.declared.lists.ListEnd.{ListEnd}
use Rattle.ssz_edit.specs.declared.choosing.Choice.{Choice}
use Rattle.ssz_edit.specs.Targets.{AppendsAt, CannotAppend, CannotChoose, CannotSet, ChoosesAt, SetsAt}
use Rattle.ssz_edit.specs.Chosen.{HasNoOptions}
use Rattle.ssz_edit.specs.Slots.{slot_limit as limit_in}
use Rattle.ssz_engine.proofs.EditTests.{at_part, settable, appendable, choosable, ComesTo}
use Rattle.ssz_decisions.specs.Shown.{path_code}

module _ (types : Types) (arena : Nodes) (id : ℕ) (node : NodeId) (path : Path) where
  abbrev t : SszType
  t = type_of types id

  -- a path that leads to no part
  pub lost_tests : {X : Type 0} (fault : PathFault) (rest : SszType → SszValue → Outcome X)
      → IsLost types arena id node path fault
      → ComesTo types arena id node (λ t v. at_part t v path rest) (Err (coded (path_code fault)))
  lost_tests BadPath rest lost v of =
      ap (λ o. need BAD_PATH o >>= (λ u. need ABSENT (part t v path) >>= rest u)) lost
  lost_tests Absent rest lost v of =
      let typed = some_from (path_type t path) lost.0 in
      ap₂ (λ o p. need BAD_PATH o >>= (λ u. need ABSENT p >>= rest u)) typed.1 (lost.1 v of)

  module _ (place : Place) (found : IsFound types arena id node path place) where
    abbrev u : SszType
    u = type_of types place.id

    -- a part that is there
    pub found_tests : {X : Type 0} (rest : SszType → SszValue → Outcome X) (end : Outcome X)
        → ((v w : SszValue) → IsTreeOf t v (tree_of arena node) → part t v path ≡ Some w
        → rest u w ≡ end)
        → ComesTo types arena id node (λ t v. at_part t v path rest) end
    found_tests rest end ends v of =
        let w = some_from (part t v path) (found.present v of) in
        ap₂ (λ o p. need BAD_PATH o >>= (λ u. need ABSENT p >>= rest u)) found.led.type_at w.1
        ∙ ends v w.0 of w.1

-- a test that refuses, and one that does not
pub refused : {X : Type 0} (code : ℕ) (test : Bool) (rest : Outcome X) → test ≡ true
    → (refuse code test >> rest) ≡ Err (coded code)
refused code test rest e = ap (λ b. refuse code b >> rest) e

pub passed : {X : Type 0} (code : ℕ) (test : Bool) (rest : Outcome X) → test ≡ false
    → (refuse code test >> rest) ≡ rest
passed code test rest e = ap (λ b. refuse code b >> rest) e

-- whether a path ends at a length or a selector, where it fits the type

one_beside : (step : PathStep) → ends_beside (step ∷ []) ≡ not (is_changeable (step ∷ []))
one_beside (Field name) = refl
one_beside (Index i) = refl
one_beside Len = refl
one_beside Selector = refl
one_beside (Chosen k) = refl

more_beside : (step next : PathStep) (path : Path)
    → ends_beside (step ∷ next ∷ path) ≡ ends_beside (next ∷ path)
more_beside (Field name) next path = refl
more_beside (Index i) next path = refl
more_beside Len next path = refl
more_beside Selector next path = refl
more_beside (Chosen k) next path = refl

free_step : (step : PathStep) (path : Path) → is_changeable (step ∷ []) ≡ true
    → is_changeable (step ∷ path) ≡ is_changeable path
free_step (Field name) path free = refl
free_step (Index i) path free = refl
free_step Len path free = absurd (false≢true free)
free_step Selector path free = absurd (false≢true free)
free_step (Chosen k) path free = refl

pub beside : (t : SszType) (path : Path) (u : SszType) → path_type t path ≡ Some u
    → ends_beside path ≡ not (is_changeable path)
beside t [] u typed = refl
beside t (step ∷ []) u typed = one_beside step
beside t (step ∷ next ∷ path) u typed =
    let first = and_then_parts (λ s. path_type s (next ∷ path)) (step_type t step) u typed in
    let second = and_then_parts (λ s. path_type s path) (step_type first.0 next) u first.2 in
    let free = changeable_composite t (step ∷ []) first.0
    (ap (option_and_then (λ s. path_type s [])) first.1)
    (composite first.0 next second.0 second.1) in
    more_beside step next path ∙ beside first.0 (next ∷ path) u first.2
    ∙ ap not (sym (free_step step (next ∷ path) free))

-- lists and bitlists

pub no_element : (u : SszType) → limit_in u ≡ None → element_of u ≡ None
no_element (list elem limit) none = absurd (none-some limit (sym none))
no_element (bitlist limit) none = absurd (none-some limit (sym none))
no_element _ none = refl

pub element_there : (u : SszType) (limit : ℕ) → limit_in u ≡ Some limit
    → element_of u ≡ Some (element_type u)
element_there (list elem n) limit is = refl
element_there (bitlist n) limit is = refl
element_there _ limit is = absurd (none-some limit is)

pub same_limit : (u : SszType) (limit : ℕ) → limit_in u ≡ Some limit → limit_of u ≡ limit
same_limit (list elem n) limit is = same_Some n limit is
same_limit (bitlist n) limit is = same_Some n limit is
same_limit _ limit is = absurd (none-some limit is)

abbrev pub append_tests : SszType → SszValue → Outcome SszType
append_tests u w = need NOT_THAT (element_of u)
    >>= (λ element. refuse FULL (nat_le (limit_of u) (count_of w)) >> Ok element)

abbrev with_element : Option SszType → Bool → Outcome SszType
with_element element full = need NOT_THAT element >>= (λ element. refuse FULL full >> Ok element)

pub not_list : (u : SszType) (w : SszValue) → limit_in u ≡ None
    → append_tests u w ≡ Err (coded NOT_THAT)
not_list u w none =
    ap (λ e. with_element e (nat_le (limit_of u) (count_of w))) (no_element u none)

module _ (u : SszType) (w : SszValue) (limit : ℕ) (is : limit_in u ≡ Some limit) where
  pub list_full : limit ≤ count_of w → append_tests u w ≡ Err (coded FULL)
  list_full full =
      ap₂ with_element (element_there u limit is)
      (le-leb (limit_of u) (count_of w) (omega (arith, full, same_limit u limit is)))

  pub list_room : count_of w < limit → append_tests u w ≡ Ok (element_type u)
  list_room room =
      ap₂ with_element (element_there u limit is)
      (lt-leb (limit_of u) (count_of w) (omega (arith, room, same_limit u limit is)))

-- unions

pub not_union : (u : SszType) → HasNoOptions u → options_of u ≡ None
not_union (union os) none = absurd none
not_union _ none = refl

abbrev pub choose_tests : SszType → ℕ → Outcome Options
choose_tests u k = need NOT_THAT (options_of u)
    >>= (λ os. refuse BAD_SELECTOR (nat_le (option_count os) k) >> Ok os)

pub no_options_there : (u : SszType) (k : ℕ) → HasNoOptions u
    → choose_tests u k ≡ Err (coded NOT_THAT)
no_options_there u k none =
    ap (λ os. need NOT_THAT os
    >>= (λ os. refuse BAD_SELECTOR (nat_le (option_count os) k) >> Ok os)) (not_union u none)

module _ (trees : List SszType) (ids : List (Option ℕ)) (u : SszType) (k : ℕ)
    (is : u ≡ union (options_over trees ids)) where
  pub past_options : slice_get ids k ≡ None → choose_tests u k ≡ Err (coded BAD_SELECTOR)
  past_options none =
      ap (λ u. choose_tests u k) is
      ∙ refused BAD_SELECTOR _ _ (le-leb (option_count (options_over trees ids)) k
      (omega (arith, past_end ids k none, option_count-over trees ids)))
    where
      past_end : (ids : List (Option ℕ)) (k : ℕ) → slice_get ids k ≡ None → length ids ≤ k
      past_end [] k none = omega arith
      past_end (id ∷ ids) zero none = absurd (none-some id (sym none))
      past_end (id ∷ ids) (suc k) none = omega (arith, past_end ids k none)

  pub option_there : (option : Option ℕ) → slice_get ids k ≡ Some option
      → choose_tests u k ≡ Ok (options_over trees ids)
  option_there option there =
      ap (λ u. choose_tests u k) is
      ∙ passed BAD_SELECTOR _ _ (lt-leb (option_count (options_over trees ids)) k
      (omega (arith, slice_get_within ids k option there, option_count-over trees ids)))

-- what opens a place, and what refuses it, is what the tests come to
module _ (types : Types) (arena : Nodes) (id : ℕ) (node : NodeId) (path : Path) where
  pub cannot_set : (fault : EditFault) → CannotSet types arena id node path fault
      → ComesTo types arena id node (λ t v. settable t v path) (Err (coded (edit_code fault)))
  cannot_set edit_fault.BadPath lost =
      lost_tests types arena id node path BadPath
      (λ u w. refuse NOT_THAT (ends_beside path) >> Ok u) lost
  cannot_set edit_fault.Absent lost =
      lost_tests types arena id node path Absent
      (λ u w. refuse NOT_THAT (ends_beside path) >> Ok u) lost
  cannot_set edit_fault.NotThat that =
      let u = type_of types that.0.id in
      found_tests types arena id node path that.0 that.1
      (λ u w. refuse NOT_THAT (ends_beside path) >> Ok u) (Err (coded NOT_THAT))
      (λ v w of there. refused NOT_THAT (ends_beside path) (Ok u)
      (beside (type_of types id) path u that.1.led.type_at ∙ ap not (that.2 v w of there)))
  cannot_set _ that = absurd that

  pub can_set : (place : Place) → SetsAt types arena id node path place
      → ComesTo types arena id node (λ t v. settable t v path) (Ok (type_of types place.id))
  can_set place at =
      let u = type_of types place.id in
      found_tests types arena id node path place at.found
      (λ u w. refuse NOT_THAT (ends_beside path) >> Ok u) (Ok u)
      (λ v w of there. passed NOT_THAT (ends_beside path) (Ok u)
      (beside (type_of types id) path u at.found.led.type_at ∙ ap not at.free))

  pub cannot_append : (fault : EditFault) → CannotAppend types arena id node path fault
      → ComesTo types arena id node (λ t v. appendable t v path) (Err (coded (edit_code fault)))
  cannot_append edit_fault.BadPath lost =
      lost_tests types arena id node path BadPath append_tests lost
  cannot_append edit_fault.Absent lost =
      lost_tests types arena id node path Absent append_tests lost
  cannot_append edit_fault.NotThat that =
      found_tests types arena id node path that.0 that.1 append_tests (Err (coded NOT_THAT))
      (λ v w of there. not_list (type_of types that.0.id) w (that.2 v w of there))
  cannot_append edit_fault.Full that =
      found_tests types arena id node path that.0 that.1 append_tests (Err (coded FULL))
      (λ v w of there. let full = that.2 v w of there in
      list_full (type_of types that.0.id) w full.0 full.1 full.2)
  cannot_append _ that = absurd that

  pub can_append : (end : ListEnd) → AppendsAt types arena id node path end
      → ComesTo types arena id node (λ t v. appendable t v path)
      (Ok (type_of types end.slot.element.id))
  can_append end at =
      let u = type_of types end.list.id in
      found_tests types arena id node path end.list at.found append_tests
      (Ok (type_of types end.slot.element.id))
      (λ v w of there.
      let l = list_value types.format types arena id node path end.list at.legal at.found
      at.limit at.limited v of in
      let few = count_small types.format u at.limit l.w at.limited l.legal l.fits in
      let mixed = at.counts (count_of l.w) (content u l.w) l.mixed few.1 in
      let same = same_Some w l.w (sym there ∙ l.value) in
      list_room u w at.limit at.limited (omega (arith, mixed.1, ap count_of same, at.within))
      ∙ ap Ok (sym (element_type_is types.format types arena id node path end.list at.legal
      at.found at.limit at.limited at.content at.content_node end.count at.within end.slot
      at.slot)))

  pub cannot_choose : (k : ℕ) (fault : EditFault)
      → CannotChoose types arena id node path k fault
      → ComesTo types arena id node (λ t v. choosable t v path k) (Err (coded (edit_code fault)))
  cannot_choose k edit_fault.BadPath lost =
      lost_tests types arena id node path BadPath (λ u w. choose_tests u k) lost
  cannot_choose k edit_fault.Absent lost =
      lost_tests types arena id node path Absent (λ u w. choose_tests u k) lost
  cannot_choose k edit_fault.NotThat that =
      found_tests types arena id node path that.0 that.1 (λ u w. choose_tests u k)
      (Err (coded NOT_THAT))
      (λ v w of there. no_options_there (type_of types that.0.id) k (that.2 v w of there))
  cannot_choose k edit_fault.BadSelector that =
      found_tests types arena id node path that.0 that.1 (λ u w. choose_tests u k)
      (Err (coded BAD_SELECTOR))
      (λ v w of there. let ids = that.2 v w of there in
      past_options types.trees ids.0 (type_of types that.0.id) k ids.1 (sym ids.2))
  cannot_choose k _ that = absurd that

  pub can_choose : (k : ℕ) (choice : Choice) → (at : ChoosesAt types arena id node path k choice)
      → ComesTo types arena id node (λ t v. choosable t v path k)
      (Ok (options_over types.trees at.options))
  can_choose k choice at =
      found_tests types arena id node path choice.place at.found (λ u w. choose_tests u k)
      (Ok (options_over types.trees at.options))
      (λ v w of there. option_there types.trees at.options (type_of types choice.place.id) k at.is
      choice.option (sym at.option_there))
