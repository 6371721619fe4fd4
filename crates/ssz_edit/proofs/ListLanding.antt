-- Edits of a list or bitlist at a place, as edits of the whole value.
use Rattle.std.proofs.Common.{◌≡◌, ℕ, ◌+◌, ◌*◌, ◌-◌, ◌<◌, [], ◌∷◌, ◌++◌, sym, ap, ap₂, ◌∙◌, subst, Some, Ok, Err, is_some, arith}
use Rattle.std.specs.Prelude.{option_and_then}
use Rattle.std.specs.Option.{option_map_or}
use Rattle.std.proofs.Math.Nat.{pow-suc}
use Rattle.std.proofs.lemmas.Option.{none-some, same_Some}
use Rattle.ssz_chunk.specs.Tree.{Tree}
use Rattle.ssz_chunk.specs.Index.{at, put, levels}
use Rattle.ssz_chunk.proofs.Digits.{levels_is}
use Rattle.ssz_schema.specs.format.Format.{Format}
use Rattle.ssz_schema.specs.declared.path.PathStep.TheVariants.{Index}
use Rattle.ssz_schema.specs.Types.{SszType}
use Rattle.ssz_schema.specs.Sizes.{depth}
use Rattle.ssz_schema.specs.Legal.{IsLegal}
use Rattle.ssz_schema.specs.Unfolding.{Types, type_of}
use Rattle.ssz_schema.specs.Paths.{Path, path_type}
use Rattle.ssz_schema.specs.Indices.{whole, generalized_index, step_spot}
use Rattle.ssz_gindex.specs.Paths.{index_levels}
use Rattle.ssz_value.specs.declared.edit_fault.EditFault.{EditFault}
use Rattle.ssz_value.specs.Values.{SszValue, Fits}
use Rattle.ssz_value.specs.Trees.{tree, mixed_in}
use Rattle.ssz_value.specs.Pairs.{pairs}
use Rattle.ssz_value.specs.Parts.{part}
use Rattle.ssz_value.specs.Edits.{Edited, edited, with_more, with_less}
use Rattle.ssz_arena.specs.declared.node.NodeId.{NodeId}
use Rattle.ssz_arena.specs.Content.{ArenaContent, tree_of, IsNodeOf}
use Rattle.ssz_places.specs.Spots.{CanHold, HasPart, LiesWithin, with_part, without_part}
use Rattle.ssz_places.specs.PlaceLaws.{IsTreeOf, IsPart}
use Rattle.ssz_places.specs.EditLaws.{IsCounted, content, content_index, count_of, element_type, HasContent}
use Rattle.ssz_places.specs.Charges.{pairs_at, count_at, append_charge, pop_charge}
use Rattle.ssz_places.proofs.Charging.{law_of_charges}
use Rattle.ssz_places.proofs.Joining.{law_of_indices}
use Rattle.ssz_places.proofs.ListEdits.{law_of_append, law_of_pop, law_of_contents}
use Rattle.ssz_gindex.proofs.HelperNodes.{some_from}
use Rattle.ssz_places.proofs.Lying.{law_of_spots}
use Rattle.ssz_places.proofs.Theorems.{law_of_places, law_of_faults}
use Rattle.ssz_making.specs.Parts.{MadePart}
use Rattle.ssz_tree.specs.Added.{AddsNodes, TakesRoom}
use Rattle.ssz_walk.specs.declared.place.Place.{Place}
use Rattle.ssz_walk.specs.Found.{spot_of, IsFound, LeadsNowhere}
use Rattle.ssz_walk.specs.Mixed.{HasContentNode}
use Rattle.ssz_edit.specs.declared.lists.Slot.{Slot}
use Rattle.ssz_edit.specs.Edited.{AnswersEdit, edited_part, part_without}
use Rattle.ssz_edit.specs.Slots.{slot_limit, IsSlot, HasList, IsGrown}
use Rattle.ssz_edit.proofs.Counted.{counted_where, whole_counted, changeable_composite, composite_counted, element_step, more_made, less_made}
use Rattle.ssz_edit.proofs.Landing.{lies, lands, levels_there, pairs_there}
use Rattle.ssz_edit.proofs.Slotting.{has_position, at_left}

-- the part at a place that is a list or bitlist: its value, and that the node is its tree
pub record HasListValue (format : Format) (t u : SszType) (v : SszValue) (path : Path)
    (node_tree : Tree) : Type 0 where
  pub w : SszValue
  pub value : part t v path ≡ Some w
  pub legal : IsLegal format u
  pub fits : Fits u w
  pub is : node_tree ≡ tree u w
  pub mixed : node_tree ≡ mixed_in (count_of w) (content u w)

module _ (format : Format) (types : Types) (arena : ArenaContent) (id : ℕ) (node : NodeId)
    (path : Path)
    (place : Place) (legal : IsLegal format (type_of types id))
    (found : IsFound types arena id node path place) (limit : ℕ)
    (limited : slot_limit (type_of types place.id) ≡ Some limit) where
  abbrev t : SszType
  t = type_of types id

  abbrev u : SszType
  u = type_of types place.id

  counted : IsCounted u
  counted = counted_where u limit limited

  pub spot_whole : spot_of place.spot ≡ whole
  spot_whole = whole_counted u (spot_of place.spot) counted
      (lies format types arena id node path place legal found)

  pub list_value : (v : SszValue) → IsTreeOf t v (tree_of arena node)
      → HasListValue format t u v path (tree_of arena place.node)
  list_value v of =
      let w = some_from (part t v path) (found.present v of) in
      let is : IsPart t v path u w.0 place.index (spot_of place.spot) = record {
        type_at = found.led.type_at;
        value = w.1;
        index = found.led.index_at;
        spot = found.led.spot_at;
      } in
      let n = law_of_places format t v path u w.0 place.index (spot_of place.spot)
      (record { legal = legal; fits = of.fits }) is in
      let same : n.0 ≡ tree_of arena place.node =
      same_Some n.0 (tree_of arena place.node)
      (sym n.1.found ∙ ap (λ o. at o place.index) (sym of.is) ∙ found.led.tree_at) in
      let is_tree : n.0 ≡ tree u w.0 =
      subst (λ s. HasPart s u w.0 n.0) spot_whole n.1.has in
      record {
        w = w.0;
        value = w.1;
        legal = n.1.value.legal;
        fits = n.1.value.fits;
        is = sym same ∙ is_tree;
        mixed = sym same ∙ is_tree ∙ law_of_contents u w.0 counted n.1.value.fits;
      }

  -- a fault of the edit of the list itself
  pub own_fault : (v : SszValue) (edit : SszType → SszValue → Edited) (fault : EditFault)
      → (l : HasListValue format t u v path (tree_of arena place.node)) → edit u l.w ≡ Err fault
      → edited edit t v path ≡ Err fault
  own_fault v edit fault l is =
      (law_of_faults t v path edit).own u l.w fault found.led.type_at l.value is

  -- the charge of an edit of element i
  pub element_levels : (i : ℕ) → i < limit
      → index_levels t (path ++ Index i ∷ []) ≡ levels place.index + 1 + depth u
  element_levels i within =
      (law_of_charges t path u (levels place.index) (record {
        type_at = found.led.type_at;
        levels = levels_there format types arena id node path place legal found;
      })).element i counted (ap is_some (element_step u limit i limited within))

  module _ (content_id : NodeId) (content_node : HasContentNode arena place.node content_id) (i : ℕ)
      (within : i < limit) where
    -- the index of element i
    index_some : (index : ℕ) × (generalized_index u (Index i ∷ []) ≡ Some index)
    index_some = some_from (generalized_index u (Index i ∷ []))
        ((law_of_indices u (Index i ∷ [])).0 ∙ ap is_some
        (ap (option_and_then (λ s. path_type s [])) (element_step u limit i limited within)))

    -- the node of element i is there, whether the element is or not
    pub not_nowhere : (w : SszValue) (y : SszValue) (change : Tree → Tree)
        → tree_of arena content_id ≡ content u w → HasContent u w i change y
        → LeadsNowhere types arena place.id place.node (Index i ∷ []) → {X : Type 0} → X
    not_nowhere w y change is has nowhere =
        let position = has_position u i index_some.0 counted index_some.1 in
        absurd (none-some has.node
        (sym (nowhere index_some.0 index_some.1)
        ∙ ap (λ o. at o index_some.0) content_node.tree
        ∙ at_left u i index_some.0 position (tree_of arena content_id) content_node.beside
        ∙ ap (λ o. at o (content_index u i)) is ∙ has.found))

    module _ (slot : Slot)
        (is_slot : IsSlot types arena place.id place.node content_id i slot) where
      pub element_type_is : type_of types slot.element.id ≡ element_type u
      element_type_is =
          same_Some (type_of types slot.element.id) (element_type u)
          (sym is_slot.led.type_at
          ∙ ap (option_and_then (λ s. path_type s [])) (element_step u limit i limited within))

      element_spot_is : spot_of slot.element.spot ≡ step_spot u (Index i)
      element_spot_is =
          same_Some (spot_of slot.element.spot) (step_spot u (Index i))
          (sym is_slot.led.spot_at
          ∙ ap (option_and_then (λ s. Some (step_spot u (Index i))))
          (element_step u limit i limited within))

      pub element_lies : LiesWithin (type_of types slot.element.id) (spot_of slot.element.spot)
      element_lies =
          law_of_spots u (Index i ∷ []) (type_of types slot.element.id)
          (spot_of slot.element.spot) is_slot.led.type_at is_slot.led.spot_at

      pub slot_levels : levels slot.below ≡ depth u
      slot_levels =
          let position = has_position u i index_some.0 counted index_some.1 in
          levels_is (depth u) slot.below (omega (arith, is_slot.index))
          (omega (arith, is_slot.index, position.small, pow-suc 2 (depth u)))

      pub list_there : IsNodeOf arena node → HasList arena node place slot.below
      list_there known = record {
        known = known;
        inside = found.led.inside;
        at_place = found.led.tree_at;
        node_there = found.led.node_there;
        content = tree_of arena content_id;
        beside = content_node.beside;
        is = content_node.tree;
        found = tree_of arena slot.element.node;
        there = is_slot.there;
      }

      -- a list with another node there is the edited list, and the whole is the edited whole
      pub list_lands : (v : SszValue) → IsTreeOf t v (tree_of arena node)
          → (edit : SszType → SszValue → Edited)
          → (l : HasListValue format t u v path (tree_of arena place.node)) (y : SszValue)
          → edit u l.w ≡ Ok y → (change : Tree → Tree) → HasContent u l.w i change y
          → tree_of arena content_id ≡ content u l.w → (new : ArenaContent) (other : MadePart)
          → other.tree ≡ change (tree_of arena slot.element.node) → (count : ℕ)
          → count ≡ count_of y → (made : NodeId)
          → IsGrown arena new node place slot.below other count made
          → (result : SszValue) × (edited edit t v path ≡ Ok result) × Fits t result
          × (tree_of new made ≡ tree t result)
      list_lands v of edit l y made_is change has content_is new other other_is count counts made
          grown =
          let node_is : has.node ≡ tree_of arena slot.element.node =
          same_Some has.node (tree_of arena slot.element.node)
          (sym has.found ∙ ap₂ at (sym content_is) (sym is_slot.index) ∙ is_slot.there) in
          let put_is : put (content u l.w) slot.below other.tree ≡ Some (content u y) =
          ap₂ (λ k o. put (content u l.w) k o) is_slot.index
          (other_is ∙ ap change (sym node_is)) ∙ has.put in
          let whole_is : mixed_in count (content u y)
          ≡ with_part (spot_of place.spot) u y (tree_of arena place.node) =
          ap (λ n. mixed_in n (content u y)) counts ∙ sym has.whole
          ∙ ap (λ s. with_part s u y (tree_of arena place.node)) (sym spot_whole) in
          lands format types arena id node path place legal found v of edit l.w y l.value
          (changeable_composite t path u found.led.type_at (composite_counted u counted))
          made_is has.fits (tree_of new made)
          (ap (put (tree_of arena node) place.index) (sym whole_is)
          ∙ grown.is (count_of l.w) (content u l.w) (content u y) l.mixed put_is)

      pub can_hold_element : (w y : SszValue) (change : Tree → Tree) → HasContent u w i change y
          → tree_of arena content_id ≡ content u w
          → CanHold (spot_of slot.element.spot) (tree_of arena slot.element.node)
      can_hold_element w y change has content_is =
          let node_is : has.node ≡ tree_of arena slot.element.node =
          same_Some has.node (tree_of arena slot.element.node)
          (sym has.found ∙ ap₂ at (sym content_is) (sym is_slot.index) ∙ is_slot.there) in
          subst (CanHold (spot_of slot.element.spot)) node_is
          (subst (λ s. CanHold s has.node) (sym element_spot_is) has.holds)

      -- with an element in the slot
      pub with_element : (new : SszValue)
          → with_part (spot_of slot.element.spot) (type_of types slot.element.id) new
          (tree_of arena slot.element.node)
          ≡ with_part (step_spot u (Index i)) (element_type u) new
          (tree_of arena slot.element.node)
      with_element new =
          ap₂ (λ s e. with_part s e new (tree_of arena slot.element.node)) element_spot_is
          element_type_is

      pub without_element :
          without_part (spot_of slot.element.spot) (type_of types slot.element.id)
          (tree_of arena slot.element.node)
          ≡ without_part (step_spot u (Index i)) (element_type u)
          (tree_of arena slot.element.node)
      without_element =
          ap₂ (λ s e. without_part s e (tree_of arena slot.element.node)) element_spot_is
          element_type_is

      -- the answer of an append
      pub append_made : (x v : SszValue) → Fits (element_type u) x
          → (of : IsTreeOf t v (tree_of arena node))
          → (l : HasListValue format t u v path (tree_of arena place.node))
          → tree_of arena content_id ≡ content u l.w → i ≡ count_of l.w → (new : ArenaContent)
          → (made : NodeId)
          → (CanHold (spot_of slot.element.spot) (tree_of arena slot.element.node)
          → IsGrown arena new node place slot.below
          (edited_part (spot_of slot.element.spot) (type_of types slot.element.id) x
          (tree_of arena slot.element.node)) (i + 1) made)
          → AddsNodes (2 * pairs (type_of types slot.element.id) x + 3
          + (levels slot.below + levels place.index))
          (pairs (type_of types slot.element.id) x + 1 + (levels slot.below + levels place.index))
          arena new
          → TakesRoom (2 * pairs (type_of types slot.element.id) x + 3
          + (levels slot.below + levels place.index)) arena new
          → AnswersEdit t arena new node (append_charge t v path x)
          (edited (with_more x) t v path) (Ok made)
      append_made x v fits of l content_is counts new made grows adds takes =
          let more_is = more_made u limit x l.w limited l.fits fits (omega (arith, counts, within))
          in
          let law = law_of_append format u l.w x more_is.0
          (record { legal = l.legal; fits = l.fits }) fits more_is.1 in
          let has : HasContent u l.w i (with_part (step_spot u (Index i)) (element_type u) x)
          more_is.0 =
          subst (λ n. HasContent u l.w n (with_part (step_spot u (Index n)) (element_type u) x)
          more_is.0) (sym counts) law.0 in
          let grown = grows (can_hold_element l.w more_is.0 _ has content_is) in
          let e = list_lands v of (with_more x) l more_is.0 more_is.1
          (with_part (step_spot u (Index i)) (element_type u) x) has content_is new
          (edited_part (spot_of slot.element.spot) (type_of types slot.element.id) x
          (tree_of arena slot.element.node)) (with_element x) (i + 1)
          (omega (arith, counts, law.1)) made grown in
          let count_is : count_at t v path ≡ i =
          ap (λ o. option_map_or count_of o 0) l.value ∙ sym counts in
          let levels_are : index_levels t (path ++ Index (count_at t v path) ∷ [])
          ≡ levels place.index + 1 + depth u =
          ap (λ n. index_levels t (path ++ Index n ∷ [])) count_is ∙ element_levels i within in
          let cost : pairs_at t path (λ s. pairs (element_type s) x)
          ≡ pairs (type_of types slot.element.id) x =
          pairs_there format types arena id node path place legal found
          (λ s. pairs (element_type s) x)
          ∙ ap (λ s. pairs s x) (sym element_type_is) in (
            e.0,
            e.1,
            record {
              known = grown.known;
              fits = e.2;
              is = e.3;
              due = omega (arith, grown.due, levels_are, cost, slot_levels);
              more = omega (arith, adds.unhashed, levels_are, cost, slot_levels);
              few = omega (arith, adds.count, levels_are, cost, slot_levels);
              room = omega (arith, takes, levels_are, cost, slot_levels);
            },
          )

      -- the answer of a pop
      pub pop_made : (v : SszValue) → (of : IsTreeOf t v (tree_of arena node))
          → (l : HasListValue format t u v path (tree_of arena place.node))
          → tree_of arena content_id ≡ content u l.w → i + 1 ≡ count_of l.w → (new : ArenaContent)
          → (made : NodeId)
          → (CanHold (spot_of slot.element.spot) (tree_of arena slot.element.node)
          → IsGrown arena new node place slot.below
          (part_without (spot_of slot.element.spot) (type_of types slot.element.id)
          (tree_of arena slot.element.node)) i made)
          → AddsNodes (3 + (levels slot.below + levels place.index))
          (1 + (levels slot.below + levels place.index)) arena new
          → TakesRoom (3 + (levels slot.below + levels place.index)) arena new
          → AnswersEdit t arena new node (pop_charge t v path) (edited with_less t v path) (Ok made)
      pop_made v of l content_is counts new made grows adds takes =
          let less_is = less_made u l.w counted l.fits (omega (arith, counts)) in
          let law = law_of_pop format u l.w less_is.0
          (record { legal = l.legal; fits = l.fits }) less_is.1 in
          let last : count_of l.w - 1 ≡ i = omega (arith, counts) in
          let has : HasContent u l.w i (without_part (step_spot u (Index i)) (element_type u))
          less_is.0 =
          subst (λ n. HasContent u l.w n (without_part (step_spot u (Index n)) (element_type u))
          less_is.0) last law.0 in
          let grown = grows (can_hold_element l.w less_is.0 _ has content_is) in
          let e = list_lands v of with_less l less_is.0 less_is.1
          (without_part (step_spot u (Index i)) (element_type u)) has content_is new
          (part_without (spot_of slot.element.spot) (type_of types slot.element.id)
          (tree_of arena slot.element.node)) without_element i
          (omega (arith, counts, law.1)) made grown in
          let last_is : count_at t v path - 1 ≡ i =
          ap (λ o. option_map_or count_of o 0 - 1) l.value ∙ last in
          let levels_are : index_levels t (path ++ Index (count_at t v path - 1) ∷ [])
          ≡ levels place.index + 1 + depth u =
          ap (λ n. index_levels t (path ++ Index n ∷ [])) last_is ∙ element_levels i within in (
            e.0,
            e.1,
            record {
              known = grown.known;
              fits = e.2;
              is = e.3;
              due = omega (arith, grown.due, levels_are, slot_levels);
              more = omega (arith, adds.unhashed, levels_are, slot_levels);
              few = omega (arith, adds.count, levels_are, slot_levels);
              room = omega (arith, takes, levels_are, slot_levels);
            },
          )
