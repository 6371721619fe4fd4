-- An edit that is refused before it is known what is put there: that of the whole value is, too.
use Rattle.std.proofs.Common.{◌≡◌, ℕ, Option, Some, Ok, Err}
use Rattle.std.specs.Prelude.{IfSome}
use Rattle.ssz_schema.specs.Types.{SszType}
use Rattle.ssz_schema.specs.Legal.{IsLegal}
use Rattle.ssz_schema.specs.Paths.{Path, path_type}
use Rattle.ssz_schema.specs.Unfolding.{Types, type_of}
use Rattle.ssz_value.specs.declared.value.Value.{Value}
use Rattle.ssz_value.specs.declared.edit_fault.EditFault.{EditFault}
use Rattle.ssz_value.specs.declared.edit_fault.EditFault.TheVariants.{BadPath, Absent, NotThat, Full, BadSelector}
use Rattle.ssz_value.specs.declared.path_fault.PathFault.{PathFault}
use Rattle.ssz_value.specs.declared.path_fault.PathFault.TheVariants.{BadPath as NoPath, Absent as Missing}
use Rattle.ssz_value.specs.Values.{SszValue}
use Rattle.ssz_value.specs.Parts.{part}
use Rattle.ssz_value.specs.Standing.{value_of}
use Rattle.ssz_value.specs.Suiting.{IsElement}
use Rattle.ssz_value.specs.Edits.{Edited, edited, edit_fault_of, with_more, with_choice}
use Rattle.ssz_arena.specs.declared.node.NodeId.{NodeId}
use Rattle.ssz_arena.specs.Content.{ArenaContent, tree_of}
use Rattle.ssz_gindex.proofs.HelperNodes.{some_from}
use Rattle.ssz_places.specs.PlaceLaws.{IsTreeOf}
use Rattle.ssz_places.proofs.Theorems.{law_of_faults}
use Rattle.ssz_walk.specs.Found.{IsLost}
use Rattle.ssz_edit.specs.Edited.{AnswersEdit}
use Rattle.ssz_edit.specs.Targets.{CannotSet, CannotAppend, CannotChoose}
use Rattle.ssz_edit.proofs.Counted.{counted_where, not_more, element_fits, more_full}
use Rattle.ssz_edit.proofs.ChoiceLanding.{not_union, bad_selector}
use Rattle.ssz_edit.proofs.Landing.{lost_answers, set_counted, from_type}
use Rattle.ssz_edit.proofs.ListLanding.{list_value, own_fault}

-- a path that leads to no part
pub lost_set : (types : Types) (arena : ArenaContent) (id : ℕ) (node : NodeId) (path : Path)
    (fault : PathFault) → IsLost types arena id node path fault
    → CannotSet types arena id node path (edit_fault_of fault)
lost_set types arena id node path NoPath lost = lost
lost_set types arena id node path Missing lost = lost

pub lost_append : (types : Types) (arena : ArenaContent) (id : ℕ) (node : NodeId) (path : Path)
    (fault : PathFault) → IsLost types arena id node path fault
    → CannotAppend types arena id node path (edit_fault_of fault)
lost_append types arena id node path NoPath lost = lost
lost_append types arena id node path Missing lost = lost

pub lost_choose : (types : Types) (arena : ArenaContent) (id : ℕ) (node : NodeId) (path : Path)
    (k : ℕ) (fault : PathFault) → IsLost types arena id node path fault
    → CannotChoose types arena id node path k (edit_fault_of fault)
lost_choose types arena id node path k NoPath lost = lost
lost_choose types arena id node path k Missing lost = lost

module _ (types : Types) (old new : ArenaContent) (id : ℕ) (node : NodeId) (path : Path)
    (legal : IsLegal types.format (type_of types id)) (charge : ℕ) (v : SszValue)
    (of : IsTreeOf (type_of types id) v (tree_of old node)) where
  abbrev t : SszType
  t = type_of types id

  -- the fault of the part's own edit
  own : (edit : SszType → SszValue → Edited) (fault : EditFault) (u : SszType)
      → path_type t path ≡ Some u → (w : SszValue) → part t v path ≡ Some w
      → edit u w ≡ Err fault → edited edit t v path ≡ Err fault
  own edit fault u typed w there fails = (law_of_faults t v path edit).own u w fault typed there
      fails

  pub set_refused : (x : SszValue) (fault : EditFault) → CannotSet types old id node path fault
      → AnswersEdit t old new node charge (edited (λ _ _. Ok x) t v path) (Err fault)
  set_refused x BadPath lost =
      lost_answers types old new id node path NoPath charge (λ _ _. Ok x) v lost of
  set_refused x Absent lost =
      lost_answers types old new id node path Missing charge (λ _ _. Ok x) v lost of
  set_refused x NotThat that =
      let place = that.0 in
      let found = that.1 in
      let counted = that.2 in
      let w = some_from (part t v path) (found.present v of) in
      set_counted types.format types old id node path place legal found new x v charge
      (counted v w.0 of w.1) of
  set_refused x _ that = absurd that

  pub append_refused : (value : Value) → IfSome (path_type t path) (λ u. IsElement u value)
      → (fault : EditFault) → CannotAppend types old id node path fault
      → AnswersEdit t old new node charge (edited (with_more (value_of value)) t v path) (Err fault)
  append_refused value is BadPath lost =
      lost_answers types old new id node path NoPath charge (with_more (value_of value)) v lost of
  append_refused value is Absent lost =
      lost_answers types old new id node path Missing charge (with_more (value_of value)) v lost of
  append_refused value is NotThat that =
      let place = that.0 in
      let found = that.1 in
      let none = that.2 in
      let u = type_of types place.id in
      let x = value_of value in
      let w = some_from (part t v path) (found.present v of) in
      own (with_more x) NotThat u found.led.type_at w.0 w.1
      (not_more u x w.0 (none v w.0 of w.1))
  append_refused value is Full that =
      let place = that.0 in
      let found = that.1 in
      let full = that.2 in
      let u = type_of types place.id in
      let x = value_of value in
      let w = some_from (part t v path) (found.present v of) in
      let first = full v w.0 of w.1 in
      let l = list_value types.format types old id node path place legal found first.0 first.1 v
      of in
      let all = full v l.w of l.value in
      own_fault types.format types old id node path place legal found first.0 first.1 v
      (with_more x) Full l (more_full u all.0 x l.w all.1 l.fits
      (element_fits u value (counted_where u first.0 first.1)
      (from_type types.format types old id node path place legal found (λ s. IsElement s value)
      is)) all.2)
  append_refused value is _ that = absurd that

  pub choose_refused : (k : ℕ) (x : Option SszValue) (fault : EditFault)
      → CannotChoose types old id node path k fault
      → AnswersEdit t old new node charge (edited (with_choice k x) t v path) (Err fault)
  choose_refused k x BadPath lost =
      lost_answers types old new id node path NoPath charge (with_choice k x) v lost of
  choose_refused k x Absent lost =
      lost_answers types old new id node path Missing charge (with_choice k x) v lost of
  choose_refused k x NotThat that =
      let place = that.0 in
      let found = that.1 in
      let none = that.2 in
      let u = type_of types place.id in
      let w = some_from (part t v path) (found.present v of) in
      own (with_choice k x) NotThat u found.led.type_at w.0 w.1
      (not_union u k x w.0 (none v w.0 of w.1))
  choose_refused k x BadSelector that =
      let place = that.0 in
      let found = that.1 in
      let past = that.2 in
      let u = type_of types place.id in
      let w = some_from (part t v path) (found.present v of) in
      let ids = past v w.0 of w.1 in
      own (with_choice k x) BadSelector u found.led.type_at w.0 w.1
      (bad_selector types.trees ids.0 k x u w.0 ids.1 ids.2)
  choose_refused k x _ that = absurd that
