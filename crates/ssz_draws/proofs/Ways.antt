-- A walk, part after part.
use Rattle.std.proofs.Common.{◌≡◌, ℕ, ◌<◌, [], ◌∷◌, ◌++◌, length, Some, None, refl, sym, ap, ap₂, ◌∙◌, subst, arith}
use Rattle.std.specs.Prelude.{option_and_then, IfSome}
use Rattle.std.proofs.lemmas.Option.{none-some, same_Some}
use Rattle.ssz_chunk.specs.Index.{at}
use Rattle.ssz_schema.specs.format.Format.{Format}
use Rattle.ssz_schema.specs.declared.path.PathStep.{PathStep}
use Rattle.ssz_schema.specs.Types.{SszType, uint, boolean, container, vector, list, bitvector, bitlist, union}
use Rattle.ssz_schema.specs.Legal.{IsLegal}
use Rattle.ssz_schema.specs.Sizes.{basic_size}
use Rattle.ssz_schema.specs.Indices.{Spot, whole, byte, bit}
use Rattle.ssz_schema.specs.Paths.{Path, path_type, step_type}
use Rattle.ssz_schema.specs.Unfolding.{Types, type_of}
use Rattle.ssz_value.specs.Values.{SszValue}
use Rattle.ssz_value.specs.Trees.{tree}
use Rattle.ssz_value.specs.Parts.{part, step_part}
use Rattle.ssz_arena.specs.declared.node.NodeId.{NodeId}
use Rattle.ssz_arena.specs.Content.{ArenaContent, tree_of, IsNodeOf}
use Rattle.ssz_places.specs.PlaceLaws.{IsTreeOf}
use Rattle.ssz_places.specs.Spots.{HasPart, LiesWithin}
use Rattle.ssz_places.proofs.Located.{located}
use Rattle.ssz_places.proofs.Lying.{law_of_spots}
use Rattle.ssz_places.proofs.Theorems.{law_of_places}
use Rattle.ssz_walk.specs.declared.place.Place.{Place}
use Rattle.ssz_walk.specs.Found.{IsLed, LeadsNowhere}
use Rattle.ssz_walk.proofs.Stepping.{absent_nowhere}
use Rattle.ssz_machine.specs.Drawing.{drawn_walk}
use Rattle.ssz_draws.specs.declared.turn.Turn.{Turn}
use Rattle.ssz_draws.specs.declared.turn.Turn.TheVariants.{On, Set, SetBit, Pop, Append, Choose, Stop}
use Rattle.ssz_draws.specs.Turns.{IsDrawnTurn, IsSeen, edit_at}
use Rattle.ssz_draws.specs.Walked.{IsEditStatement}

-- a part that a step leads to
pub part_there : (t u : SszType) (v w : SszValue) (step : PathStep) → step_type t step ≡ Some u
    → step_part t v step ≡ Some w → part t v (step ∷ []) ≡ Some w
part_there t u v w step typed there =
    ap (option_and_then (λ s. option_and_then (λ y. part s y []) (step_part t v step))) typed
    ∙ ap (option_and_then (λ y. Some y)) there

-- what has parts is no basic value
pub composite : (t u : SszType) (step : PathStep) → step_type t step ≡ Some u
    → basic_size t ≡ None
composite (uint w) u step is = absurd (none-some u is)
composite boolean u step is = absurd (none-some u is)
composite (container fs) u step is = refl
composite (vector elem n) u step is = refl
composite (list elem limit) u step is = refl
composite (bitvector n) u step is = refl
composite (bitlist limit) u step is = refl
composite (union os) u step is = refl

-- a composite part is a whole node
whole_spot : (u : SszType) (spot : Spot) → LiesWithin u spot → basic_size u ≡ None → spot ≡ whole
whole_spot u whole lies none = refl
whole_spot u (byte at) lies none = absurd (none-some lies.0 (sym none ∙ lies.1))
whole_spot u (bit at) lies none = absurd (none-some 1 (sym none ∙ ap basic_size lies.0))

-- the node of a part has its tree
pub seen_part : (format : Format) (types : Types) (arena : ArenaContent) (id : ℕ) (node : NodeId)
    (step : PathStep) (place : Place) (v w : SszValue) → IsLegal format (type_of types id)
    → IsTreeOf (type_of types id) v (tree_of arena node)
    → IsLed types arena id node (step ∷ []) place
    → part (type_of types id) v (step ∷ []) ≡ Some w
    → IsSeen (type_of types place.id) (tree_of arena place.node) w
seen_part format types arena id node step place v w legal of led there none =
    let t : SszType = type_of types id in
    let u : SszType = type_of types place.id in
    let p = located t v (step ∷ []) u w led.type_at there in
    let n = law_of_places format t v (step ∷ []) u w p.0 p.1
    (record { legal = legal; fits = of.fits }) p.2 in
    let is_whole : p.1 ≡ whole =
    whole_spot u p.1 (law_of_spots t (step ∷ []) u p.1 led.type_at p.2.spot) none in
    let whole_node : n.0 ≡ tree u w = subst (λ s. HasPart s u w n.0) is_whole n.1.has in
    let same_index : place.index ≡ p.0 = same_Some place.index p.0 (sym led.index_at ∙ p.2.index) in
    let same_node : tree_of arena place.node ≡ n.0 =
    same_Some (tree_of arena place.node) n.0
    (sym led.tree_at ∙ ap₂ at of.is same_index ∙ n.1.found) in
    record { fits = n.1.value.fits; is = same_node ∙ whole_node }

-- a turn names edits of `w` alone
pub edits_are : (turn : Turn) (path : Path) → IfSome (edit_at turn path) IsEditStatement
edits_are (On to step) path = tt
edits_are (Set bytes) path = refl
edits_are (SetBit i bytes) path = refl
edits_are Pop path = refl
edits_are (Append bytes) path = refl
edits_are (Choose k) path = refl
edits_are Stop path = tt

-- from a value, the walk that is left
pub record HasWay (types : Types) (arena : ArenaContent) (t : SszType) (v : SszValue)
    (start part : ℕ)
    (here : NodeId) (path : Path) (x : ℕ) : Type 0 where
  pub value : SszValue
  pub seen : IsSeen (type_of types part) (tree_of arena here) value
  pub left : drawn_walk t v [] start ≡ drawn_walk (type_of types part) value path x

-- from each value with the node's tree a walk has come to this part
pub record IsOn (types : Types) (arena : ArenaContent) (id : ℕ) (node : NodeId) (start part : ℕ)
    (here : NodeId) (path : Path) (x : ℕ) : Type 0 where
  pub known : part < length types.trees
  pub inside : IsNodeOf arena here
  pub ways : (v : SszValue) → IsTreeOf (type_of types id) v (tree_of arena node)
      → HasWay types arena (type_of types id) v start part here path x

pub walk_begins : (types : Types) (arena : ArenaContent) (id : ℕ) (node : NodeId) (start : ℕ)
    → id < length types.trees → IsNodeOf arena node
    → IsOn types arena id node start id node [] start
walk_begins types arena id node start known inside = record {
  known = known;
  inside = inside;
  ways = λ v of. record { value = v; seen = λ none. of; left = refl };
}

module _ (format : Format) (types : Types) (arena : ArenaContent) (id : ℕ) (node : NodeId)
    (start part : ℕ) (here : NodeId) (path : Path) (x next : ℕ)
    (legal : IsLegal format (type_of types part))
    (on : IsOn types arena id node start part here path x) where
  -- the walk goes on at a part
  pub walk_goes_on : (to : ℕ) (step : PathStep) (place : Place)
      → IsDrawnTurn types part (type_of types part)
      (IsSeen (type_of types part) (tree_of arena here))
      x next (On to step)
      → IsLed types arena part here (step ∷ []) place
      → IsOn types arena id node start to place.node (path ++ step ∷ []) next
  walk_goes_on to step place turned led = record {
    known = omega (arith, turned.0, on.known);
    inside = led.inside;
    ways = λ v of.
        let way = on.ways v of in
        let t : SszType = type_of types part in
        let goes = turned.1 way.value way.seen in
        let there = part_there t (type_of types to) way.value goes.value step goes.fits
        goes.there in
        let tree_is = way.seen (composite t (type_of types to) step goes.fits) in
        let one : path_type t (step ∷ []) ≡ Some (type_of types to) =
        ap (option_and_then (λ s. path_type s [])) goes.fits in
        let same : type_of types place.id ≡ type_of types to =
        same_Some (type_of types place.id) (type_of types to) (sym led.type_at ∙ one) in
        record {
          value = goes.value;
          seen = subst (λ u. IsSeen u (tree_of arena place.node) goes.value) same
              (seen_part format types arena part here step place way.value goes.value legal tree_is
              led there);
          left = way.left ∙ goes.on path;
        };
  }

  -- no value leads to a part that is not there
  pub walk_leads : (to : ℕ) (step : PathStep)
      → IsDrawnTurn types part (type_of types part)
      (IsSeen (type_of types part) (tree_of arena here))
      x next (On to step)
      → LeadsNowhere types arena part here (step ∷ [])
      → (v : SszValue) → IsTreeOf (type_of types id) v (tree_of arena node) → ⊥
  walk_leads to step turned nowhere v of =
      let way = on.ways v of in
      let t : SszType = type_of types part in
      let goes = turned.1 way.value way.seen in
      let there = part_there t (type_of types to) way.value goes.value step goes.fits goes.there in
      let tree_is = way.seen (composite t (type_of types to) step goes.fits) in
      none-some goes.value
      (sym (absent_nowhere types arena part here step format legal nowhere way.value tree_is)
      ∙ there)

  -- the walk comes to an edit, or to none
  pub walk_ends : (turn : Turn) → ((to : ℕ) (step : PathStep) → turn ≡ On to step → ⊥)
      → IsDrawnTurn types part (type_of types part)
      (IsSeen (type_of types part) (tree_of arena here))
      x next turn
      → (v : SszValue) → IsTreeOf (type_of types id) v (tree_of arena node)
      → drawn_walk (type_of types id) v [] start ≡ record { edit = edit_at turn path; seed = next }
  walk_ends turn other turned v of =
      let way = on.ways v of in way.left ∙ ended turn other turned way.value way.seen
    where
      ended : (turn : Turn) → ((to : ℕ) (step : PathStep) → turn ≡ On to step → ⊥)
          → IsDrawnTurn types part (type_of types part)
          (IsSeen (type_of types part) (tree_of arena here)) x next turn
          → (w : SszValue) → IsSeen (type_of types part) (tree_of arena here) w
          → drawn_walk (type_of types part) w path x
          ≡ record { edit = edit_at turn path; seed = next }
      ended (On to step) other turned w seen = absurd (other to step refl)
      ended (Set bytes) other turned w seen = turned w seen path
      ended (SetBit i bytes) other turned w seen = turned w seen path
      ended Pop other turned w seen = turned w seen path
      ended (Append bytes) other turned w seen = turned w seen path
      ended (Choose k) other turned w seen = turned w seen path
      ended Stop other turned w seen = turned w seen path
