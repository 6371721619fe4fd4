-- An edit of the part at a place is the edit of the whole value.
use Rattle.std.proofs.Common.{◌≡◌, ℕ, suc, ◌+◌, ◌*◌, ◌<◌, ◌≤◌, true, false, not, ◌∷◌, length, get_or, drop, refl, sym, ap, ◌∙◌, subst, Some, Ok, Err, arith}
use Rattle.std.specs.Prelude.{IfSome, IsSome, ◌&&◌}
use Rattle.std.specs.Option.{option_map_or}
use Rattle.std.proofs.Math.Seq.{drop-cons}
use Rattle.std.proofs.lemmas.Bool.{false≢true}
use Rattle.std.proofs.lemmas.List.{drop_all}
use Rattle.std.proofs.lemmas.Option.{same_Some}
use Rattle.ssz_chunk.specs.Tree.{Tree}
use Rattle.ssz_chunk.specs.Index.{at, put, levels}
use Rattle.ssz_schema.specs.format.Format.{Format}
use Rattle.ssz_schema.specs.declared.path.PathStep.{PathStep}
use Rattle.ssz_schema.specs.Types.{SszType, uint, boolean, container, vector, list, bitvector, bitlist, union}
use Rattle.ssz_schema.specs.Sizes.{basic_size}
use Rattle.ssz_schema.specs.Legal.{IsLegal}
use Rattle.ssz_schema.specs.Unfolding.{Types, type_of}
use Rattle.ssz_schema.specs.Paths.{Path, path_type}
use Rattle.ssz_gindex.specs.Paths.{index_levels}
use Rattle.ssz_value.specs.declared.path_fault.PathFault.{PathFault}
use Rattle.ssz_value.specs.declared.path_fault.PathFault.TheVariants.{BadPath, Absent}
use Rattle.ssz_value.specs.declared.edit_fault.EditFault.{EditFault}
use Rattle.ssz_value.specs.declared.edit_fault.EditFault.TheVariants.{NotThat}
use Rattle.ssz_value.specs.Values.{SszValue, Fits}
use Rattle.ssz_value.specs.Trees.{tree}
use Rattle.ssz_value.specs.Pairs.{pairs}
use Rattle.ssz_value.specs.Parts.{part}
use Rattle.ssz_value.specs.Edits.{Edited, edited, edit_fault_of}
use Rattle.ssz_arena.specs.declared.node.NodeId.{NodeId}
use Rattle.ssz_arena.specs.Content.{ArenaContent, tree_of}
use Rattle.ssz_places.specs.Spots.{CanHold, LiesWithin, with_part}
use Rattle.ssz_places.specs.PlaceLaws.{IsTreeOf, IsPart}
use Rattle.ssz_places.specs.EditLaws.{is_changeable, is_mixed_in}
use Rattle.ssz_places.specs.Charges.{pairs_at, set_charge}
use Rattle.ssz_gindex.proofs.HelperNodes.{some_from}
use Rattle.ssz_places.proofs.Lying.{can_hold, law_of_spots}
use Rattle.ssz_places.proofs.Theorems.{law_of_places, law_of_edits, law_of_faults}
use Rattle.ssz_walk.specs.declared.place.Place.{Place}
use Rattle.ssz_walk.specs.Found.{spot_of, IsFound, IsLost}
use Rattle.ssz_tree.specs.Added.{AddsNodes, TakesRoom}
use Rattle.ssz_edit.specs.Edited.{IsPut, AnswersEdit, edited_part}

-- the steps from one on
pub changeable_more : (path : Path) (i : ℕ) (step : PathStep) → i < length path
    → step ≡ get_or path i step → is_mixed_in step ≡ false
    → is_changeable (drop (i + 1) path) ≡ is_changeable (drop i path)
changeable_more path i step within is free =
    let next : suc i ≡ i + 1 = omega arith in
    ap (λ n. is_changeable (drop n path)) (sym next)
    ∙ ap (λ b. not b && is_changeable (drop (suc i) path)) (sym free)
    ∙ ap (λ s. is_changeable (s ∷ drop (suc i) path)) is
    ∙ ap is_changeable (sym (drop-cons path i step within))

pub unchangeable : (path : Path) (i : ℕ) (step : PathStep) → i < length path
    → step ≡ get_or path i step → is_mixed_in step ≡ true
    → false ≡ is_changeable (drop i path)
unchangeable path i step within is counted =
    ap (λ b. not b && is_changeable (drop (suc i) path)) (sym counted)
    ∙ ap (λ s. is_changeable (s ∷ drop (suc i) path)) is
    ∙ ap is_changeable (sym (drop-cons path i step within))

pub changeable_end : (path : Path) (i : ℕ) → length path ≤ i → true ≡ is_changeable (drop i path)
changeable_end path i past = ap is_changeable (sym (drop_all i path past))

-- a path that leads to no part
pub lost_answers : (types : Types) (old new : ArenaContent) (id : ℕ) (node : NodeId) (path : Path)
    (fault : PathFault) (charge : ℕ) (edit : SszType → SszValue → Edited) (v : SszValue)
    → IsLost types old id node path fault → IsTreeOf (type_of types id) v (tree_of old node)
    → AnswersEdit (type_of types id) old new node charge (edited edit (type_of types id) v path)
    (Err (edit_fault_of fault))
lost_answers types old new id node path BadPath charge edit v lost of =
    (law_of_faults (type_of types id) v path edit).bad_path lost
lost_answers types old new id node path Absent charge edit v lost of =
    let typed = some_from (path_type (type_of types id) path) lost.0 in
    (law_of_faults (type_of types id) v path edit).absent typed.0 typed.1 (lost.1 v of)

module _ (format : Format) (types : Types) (arena : ArenaContent) (id : ℕ) (node : NodeId)
    (path : Path)
    (place : Place) (legal : IsLegal format (type_of types id))
    (found : IsFound types arena id node path place) where
  abbrev t : SszType
  t = type_of types id

  abbrev u : SszType
  u = type_of types place.id

  pub lies : LiesWithin u (spot_of place.spot)
  lies = law_of_spots t path u (spot_of place.spot) found.led.type_at found.led.spot_at

  -- the node of the part, for a value
  pub holds : (v : SszValue) → IsTreeOf t v (tree_of arena node)
      → CanHold (spot_of place.spot) (tree_of arena place.node)
  holds v of =
      let w = some_from (part t v path) (found.present v of) in
      let is : IsPart t v path u w.0 place.index (spot_of place.spot) = record {
        type_at = found.led.type_at;
        value = w.1;
        index = found.led.index_at;
        spot = found.led.spot_at;
      } in
      let n = law_of_places format t v path u w.0 place.index (spot_of place.spot)
      (record { legal = legal; fits = of.fits }) is in
      let same : n.0 ≡ tree_of arena place.node =
      same_Some n.0 (tree_of arena place.node)
      (sym n.1.found ∙ ap (λ o. at o place.index) (sym of.is) ∙ found.led.tree_at) in
      subst (CanHold (spot_of place.spot)) same
      (can_hold (spot_of place.spot) u w.0 n.0 n.1.has)

  -- a node with another part there has the tree of the edited value
  pub lands : (v : SszValue) → IsTreeOf t v (tree_of arena node)
      → (edit : SszType → SszValue → Edited) (w y : SszValue) → part t v path ≡ Some w
      → is_changeable path ≡ true → edit u w ≡ Ok y → Fits u y → (made : Tree)
      → put (tree_of arena node) place.index
      (with_part (spot_of place.spot) u y (tree_of arena place.node)) ≡ Some made
      → (result : SszValue) × (edited edit t v path ≡ Ok result) × Fits t result
      × (made ≡ tree t result)
  lands v of edit w y value free changed fit made is =
      let e = law_of_edits format t v path u w y place.index (spot_of place.spot)
      (tree_of arena place.node) edit (record { legal = legal; fits = of.fits })
      (record {
        type_at = found.led.type_at;
        value = value;
        index = found.led.index_at;
        spot = found.led.spot_at;
      })
      (ap (λ o. at o place.index) (sym of.is) ∙ found.led.tree_at) free changed fit in (
        e.0,
        e.1.value,
        e.1.fits,
        same_Some made (tree t e.0) (sym is
            ∙ ap (λ o. put o place.index
            (with_part (spot_of place.spot) u y (tree_of arena place.node))) of.is ∙ e.1.tree),
      )

  -- a fault that the edit of each part has
  pub each_fault : (v : SszValue) → IsTreeOf t v (tree_of arena node)
      → (edit : SszType → SszValue → Edited) (fault : EditFault)
      → ((w : SszValue) → edit u w ≡ Err fault) → edited edit t v path ≡ Err fault
  each_fault v of edit fault fails =
      let w = some_from (part t v path) (found.present v of) in
      (law_of_faults t v path edit).own u w.0 fault found.led.type_at w.1 (fails w.0)

  pub levels_there : index_levels t path ≡ levels place.index
  levels_there = ap (λ o. option_map_or levels o 0) found.led.index_at

  pub pairs_there : (count : SszType → ℕ) → pairs_at t path count ≡ count u
  pairs_there count = ap (λ o. option_map_or count o 0) found.led.type_at

  -- the answers of a set
  pub set_made : (new : ArenaContent) (x v : SszValue) (made : NodeId) → Fits u x
      → is_changeable path ≡ true → IsTreeOf t v (tree_of arena node)
      → IsPut arena new node place.index
      (edited_part (spot_of place.spot) u x (tree_of arena place.node)) made
      → AddsNodes (2 * pairs u x + 1 + levels place.index)
      (pairs u x + levels place.index) arena new
      → TakesRoom (2 * pairs u x + 1 + levels place.index) arena new
      → AnswersEdit t arena new node (set_charge t path x) (edited (λ _ _. Ok x) t v path) (Ok made)
  set_made new x v made fit free of put adds takes =
      let w = some_from (part t v path) (found.present v of) in
      let e = lands v of (λ _ _. Ok x) w.0 x w.1 free refl fit (tree_of new made) put.is in
      let cost = pairs_there (λ s. pairs s x) in (
        e.0,
        e.1,
        record {
          known = put.known;
          fits = e.2;
          is = e.3;
          due = omega (arith, put.due, levels_there, cost);
          more = omega (arith, adds.unhashed, levels_there, cost);
          few = omega (arith, adds.count, levels_there, cost);
          room = omega (arith, takes, levels_there, cost);
        },
      )

  -- a length or a selector is not set
  pub set_counted : (new : ArenaContent) (x v : SszValue) (charge : ℕ) → is_changeable path ≡ false
      → IsTreeOf t v (tree_of arena node)
      → AnswersEdit t arena new node charge (edited (λ _ _. Ok x) t v path) (Err NotThat)
  set_counted new x v charge counted of =
      let w = some_from (part t v path) (found.present v of) in
      (law_of_faults t v path (λ _ _. Ok x)).counted u w.0 x found.led.type_at w.1 counted refl

  -- what is said of each type at the path
  pub from_type : (P : SszType → Type 0) → IfSome (path_type t path) P → P u
  from_type P there = subst (λ o. IfSome o P) found.led.type_at there

-- a basic value has no pairs
pub pairs_basic : (u : SszType) (x : SszValue) → IsSome (basic_size u) → pairs u x ≡ 0
pairs_basic (uint w) x basic = refl
pairs_basic boolean x basic = refl
pairs_basic (container fs) x basic = absurd (false≢true basic)
pairs_basic (vector t n) x basic = absurd (false≢true basic)
pairs_basic (list t n) x basic = absurd (false≢true basic)
pairs_basic (bitvector n) x basic = absurd (false≢true basic)
pairs_basic (bitlist n) x basic = absurd (false≢true basic)
pairs_basic (union os) x basic = absurd (false≢true basic)
