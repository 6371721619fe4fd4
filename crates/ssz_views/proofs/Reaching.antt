-- What a view reaches by a path.
use Rattle.std.proofs.Common.{ℕ, ◌%◌, ◌<◌, ◌≡◌, Bool, true, eqb, [], ◌∷◌, length, Option, Some, None, refl, sym, ap, ◌∙◌, subst, arith}
use Rattle.std.proofs.lemmas.Bool.{eqb-true}
use Rattle.std.proofs.lemmas.Option.{none-some, same_Some}
use Rattle.ssz_chunk.specs.Index.{at, at_way}
use Rattle.ssz_chunk.proofs.Digits.{way-one}
use Rattle.ssz_schema.specs.format.Format.{Format}
use Rattle.ssz_schema.specs.declared.path.PathStep.{PathStep}
use Rattle.ssz_schema.specs.declared.path.PathStep.TheVariants.{Field, Index, Len, Selector, Option as Chosen}
use Rattle.ssz_schema.specs.Types.{SszType, boolean, container, vector, list, bitvector, bitlist, union}
use Rattle.ssz_schema.specs.Sizes.{basic_size}
use Rattle.ssz_schema.specs.Legal.{IsLegal}
use Rattle.ssz_schema.specs.Unfolding.{type_of}
use Rattle.ssz_schema.specs.Paths.{Path, path_type, step_type}
use Rattle.ssz_schema.specs.Indices.{Spot, whole, bit, element_spot, step_spot, spot_from}
use Rattle.ssz_schema.proofs.PathLemmas.{and_then_parts, if_within}
use Rattle.ssz_value.specs.Values.{SszValue}
use Rattle.ssz_value.specs.Parts.{part}
use Rattle.ssz_arena.specs.Content.{tree_of}
use Rattle.ssz_places.specs.Spots.{HasPart}
use Rattle.ssz_places.specs.PlaceLaws.{IsTreeOf}
use Rattle.ssz_places.proofs.Elements.{is_basic}
use Rattle.ssz_places.proofs.PathLaws.{composite}
use Rattle.ssz_gindex.proofs.HelperNodes.{some_from}
use Rattle.ssz_places.proofs.Theorems.{law_of_places}
use Rattle.ssz_walk.specs.declared.place.Place.{Place}
use Rattle.ssz_value.specs.declared.path_fault.PathFault.{PathFault}
use Rattle.ssz_value.specs.declared.path_fault.PathFault.TheVariants.{BadPath, Absent}
use Rattle.ssz_walk.specs.Found.{spot_of, IsFound, IsLost}
use Rattle.ssz_views.specs.Looking.{Looking, IsView, ViewStandsFor, CanLie, type_seen, ViewReaches, Misses}
use Rattle.ssz_views.proofs.Seeing.{whole_value}

-- where a part can lie

pub whole_lies : (t : SszType) → CanLie t whole
whole_lies t = record {
  composite = λ e. refl;
  basic = λ z e. let inside = (is_basic t z e).inside 0 in omega (arith, inside);
}

element_lies : (t : SszType) (i : ℕ) → CanLie t (element_spot (basic_size t) i)
element_lies t i = go (basic_size t) refl
  where
    go : (o : Option ℕ) → basic_size t ≡ o → CanLie t (element_spot o i)
    go None e = record { composite = λ f. refl; basic = λ z f. absurd (none-some z (sym e ∙ f)) }
    go (Some z) e = record {
      composite = λ f. absurd (none-some z (sym f ∙ e));
      basic = λ y f.
          let same : z ≡ y = same_Some z y (sym e ∙ f) in
          omega (arith, same, (is_basic t z e).inside i);
    }

bit_lies : (i : ℕ) → CanLie boolean (bit (i % 256))
bit_lies i = record {
  composite = λ f. absurd (none-some 1 (sym f));
  basic = λ z f. let same : 1 ≡ z = same_Some 1 z f in omega (arith, same);
}

step_lies : (t : SszType) (step : PathStep) (u : SszType) → step_type t step ≡ Some u
    → CanLie u (step_spot t step)
step_lies (container fs) (Field name) u e = whole_lies u
step_lies (vector t n) (Index i) u e =
    subst (λ (x : SszType). CanLie x (element_spot (basic_size t) i)) (if_within i n t u e).1
    (element_lies t i)
step_lies (list t n) (Index i) u e =
    subst (λ (x : SszType). CanLie x (element_spot (basic_size t) i)) (if_within i n t u e).1
    (element_lies t i)
step_lies (list t n) Len u e = whole_lies u
step_lies (bitvector n) (Index i) u e =
    subst (λ (x : SszType). CanLie x (bit (i % 256))) (if_within i n boolean u e).1 (bit_lies i)
step_lies (bitlist n) (Index i) u e =
    subst (λ (x : SszType). CanLie x (bit (i % 256))) (if_within i n boolean u e).1 (bit_lies i)
step_lies (bitlist n) Len u e = whole_lies u
step_lies (union os) Selector u e = whole_lies u
step_lies (union os) (Chosen k) u e = whole_lies u
step_lies _ _ u e = absurd (none-some u e)

lies_along : (t : SszType) (path : Path) (u : SszType) (from s : Spot) → CanLie t from
    → path_type t path ≡ Some u → spot_from from t path ≡ Some s → CanLie u s
lies_along t [] u from s can typed is =
    subst (λ (x : SszType). CanLie x s) (same_Some t u typed)
    (subst (λ (l : Spot). CanLie t l) (same_Some from s is) can)
lies_along t (step ∷ path) u from s can typed is =
    let types = and_then_parts (λ x. path_type x path) (step_type t step) u typed in
    let spots = and_then_parts (λ x. spot_from (step_spot t step) x path) (step_type t step) s is in
    let same : spots.0 ≡ types.0 = same_Some spots.0 types.0 (sym spots.1 ∙ types.1) in
    lies_along types.0 path u (step_spot t step) s (step_lies t step types.0 types.1) types.2
    (subst (λ (x : SszType). spot_from (step_spot t step) x path ≡ Some s) same spots.2)

-- a type whose values have parts is composite
composite_path : (t : SszType) (path : Path) (u : SszType) → 0 < length path
    → path_type t path ≡ Some u → basic_size t ≡ None
composite_path t [] u some typed = absurd (omega arith)
composite_path t (step ∷ path) u some typed =
    let first = and_then_parts (λ x. path_type x path) (step_type t step) u typed in
    composite t step first.0 first.1

-- the tree of a value with parts is the node's
tree_there : (view : Looking) (path : Path) (u : SszType) (v : SszValue) → IsView view
    → 0 < length path → path_type (type_seen view) path ≡ Some u → ViewStandsFor view v
    → IsTreeOf (type_seen view) v (tree_of view.arena view.node)
tree_there view path u v is some typed stands =
    whole_value view (type_seen view) v is refl
    (composite_path (type_seen view) path u some typed) stands

-- below a value with parts, the spot of the value itself is passed over
spot_onward : (from : Spot) (t : SszType) (path : Path) → 0 < length path
    → spot_from from t path ≡ spot_from whole t path
spot_onward from t [] some = absurd (omega arith)
spot_onward from t (step ∷ path) some = refl

-- the view of a place
abbrev pub view_of : Looking → Place → Looking
view_of view place =
    record view { id = place.id; node = place.node; lies = spot_of place.spot }

-- the view itself, where no step leads on
pub Reaches-none : (view new : Looking) (path : Path) {b : Bool} → b ≡ eqb (length path) 0
    → b ≡ true → new ≡ view → ViewReaches view path new
Reaches-none view new [] is none same = subst (ViewReaches view []) (sym same) (record {
  arena = refl;
  types = refl;
  type_at = refl;
  tree_at = λ g e.
      let here : at (tree_of view.arena view.node) 1 ≡ Some (tree_of view.arena view.node) =
      ap (at_way (tree_of view.arena view.node)) way-one in
      let first : g ≡ 1 = sym (same_Some 1 g e) in
      ap (at (tree_of view.arena view.node)) first ∙ here;
  spot_at = refl;
  part = λ v stands. record { value = v; is = refl; stands = stands };
})
Reaches-none view new (step ∷ path) is none same =
    let short : length (step ∷ path) ≡ 0 =
    eqb-true (length (step ∷ path)) 0 (sym is ∙ none) in
    absurd (omega (arith, short))

module _ (view : Looking) (path : Path) (is : IsView view) (some : 0 < length path) where
  pub CanLie-found : (place : Place)
      → IsFound view.types view.arena view.id view.node path place
      → CanLie (type_of view.types place.id) (spot_of place.spot)
  CanLie-found place found =
      lies_along (type_seen view) path (type_of view.types place.id) whole (spot_of place.spot)
      (whole_lies (type_seen view)) found.led.type_at found.led.spot_at

  pub Reaches-found : (place : Place) (format : Format) → IsLegal format (type_seen view)
      → IsFound view.types view.arena view.id view.node path place
      → ViewReaches view path (view_of view place)
  Reaches-found place format legal found = record {
    arena = refl;
    types = refl;
    type_at = found.led.type_at;
    tree_at = λ g e.
        let same : g ≡ place.index = same_Some g place.index (sym e ∙ found.led.index_at) in
        ap (at (tree_of view.arena view.node)) same ∙ found.led.tree_at;
    spot_at = spot_onward view.lies (type_seen view) path some ∙ found.led.spot_at;
    part = λ v stands.
        let of : IsTreeOf (type_seen view) v (tree_of view.arena view.node) =
        tree_there view path (type_of view.types place.id) v is some found.led.type_at stands in
        let w = some_from (part (type_seen view) v path) (found.present v of) in
        let node = law_of_places format (type_seen view) v path (type_of view.types place.id) w.0
        place.index (spot_of place.spot) (record { legal = legal; fits = of.fits })
        (record {
          type_at = found.led.type_at;
          value = w.1;
          index = found.led.index_at;
          spot = found.led.spot_at;
        }) in
        let same : node.0 ≡ tree_of view.arena place.node =
        same_Some node.0 (tree_of view.arena place.node)
        (sym node.1.found ∙ ap (λ t. at t place.index) (sym of.is) ∙ found.led.tree_at) in
        record {
          value = w.0;
          is = w.1;
          stands = record {
            fits = node.1.value.fits;
            has = subst (HasPart (spot_of place.spot) (type_of view.types place.id) w.0) same
                node.1.has;
          };
        };
  }

  pub Misses-lost : (fault : PathFault)
      → IsLost view.types view.arena view.id view.node path fault → Misses view path fault
  Misses-lost BadPath lost = lost
  Misses-lost Absent lost = (
    lost.0,
    λ v stands.
        let typed = some_from (path_type (type_seen view) path) lost.0 in
        lost.1 v (tree_there view path typed.0 v is some typed.1 stands),
  )
