-- The leaf of a basic part, by its bytes.
use Rattle.std.proofs.Common.{◌≡◌, ℕ, ◌+◌, ◌-◌, ◌≤◌, false, List, length, get_or, take, drop, refl, sym, ap, ◌∙◌, subst, Some, arith, inl, inr}
use Rattle.std.specs.Prelude.{slice_range}
use Rattle.std.proofs.lemmas.Bool.{cases_lt, true≢false}
use Rattle.std.proofs.lemmas.List.{get_or_past, length-take, length-drop}
use Rattle.std.proofs.lemmas.Option.{none-some, same_Some}
use Rattle.ssz_schema.specs.Types.{SszType, uint, boolean}
use Rattle.ssz_schema.specs.Sizes.{basic_size}
use Rattle.ssz_value.specs.Values.{SszValue, Fits}
use Rattle.ssz_value.specs.Encoding.{serialize}
use Rattle.ssz_chunk.specs.Tree.{Tree, leaf, pair}
use Rattle.ssz_value.specs.Trees.{tree, padded}
use Rattle.ssz_chunk.specs.Index.{at}
use Rattle.ssz_schema.specs.Indices.{Spot, whole, byte, bit}
use Rattle.ssz_places.specs.Spots.{HasPart, spot_written, is_bit}
use Rattle.ssz_places.specs.PlaceLaws.{HasBasicPart, LawOfBasicParts}
use Rattle.ssz_places.proofs.Packing.{take-padded, length-padded, get_or-padded, same_padded, length-written, written-inside, written-behind}
use Rattle.ssz_places.proofs.Elements.{is_basic}
use Rattle.ssz_places.proofs.Theorems.{law_of_places}

-- a basic value's tree is the leaf of its bytes
basic_tree : (u : SszType) (z : ℕ) (x : SszValue) → basic_size u ≡ Some z
    → tree u x ≡ leaf (padded (serialize u x))
basic_tree (uint w) z x e = refl
basic_tree boolean z x e = refl
basic_tree _ z x e = absurd (none-some z e)

-- the padded bytes with others of the same number written over them
padded-over : (old new : List ℕ) (z : ℕ) → length old ≡ z → length new ≡ z → z ≤ 32
    → padded new ≡ spot_written (padded old) 0 new
padded-over old new z eo en small =
    let room : 0 + length new ≤ length (padded old) = omega (arith, length-padded old) in
    same_padded new (spot_written (padded old) 0 new)
    (length-written (padded old) new 0 room ∙ length-padded old)
    (λ k below. elim (cases_lt k z) [
      | inl lt ↦ sym (ap (λ n. get_or (spot_written (padded old) 0 new) n 0)
          (let e : k ≡ 0 + k = omega arith in e)
          ∙ written-inside (padded old) new 0 k room (omega arith))
      | inr ge ↦ get_or_past new k 0 (omega arith) ∙ sym (get_or_past old k 0 (omega arith))
          ∙ sym (get_or-padded old k below)
          ∙ sym (written-behind (padded old) new 0 k room (omega arith))
    ])

pub basic_part : (s : Spot) (u : SszType) (w : SszValue) (node : Tree) (z : ℕ)
    → basic_size u ≡ Some z
    → is_bit s ≡ false → Fits u w → HasPart s u w node → HasBasicPart s u w node z
basic_part (bit at) u w node z e bits fit has = absurd (true≢false bits)
basic_part whole u w node z e bits fit has =
    let basic = is_basic u z e in
    let small : z ≤ 32 = (let inside = basic.inside 0 in omega arith) in
    record {
      chunk = padded (serialize u w);
      is = has ∙ basic_tree u z w e;
      within = omega (arith, length-padded (serialize u w));
      bytes =
          ap (λ n. take n (padded (serialize u w))) (let f : 0 + z - 0 ≡ z = omega arith in f)
          ∙ take-padded (serialize u w) z (basic.sized w fit) small;
      changed =
          λ x f. basic_tree u z x e ∙ ap leaf (padded-over (serialize u w) (serialize u x) z
          (basic.sized w fit) (basic.sized x f) small);
    }
basic_part (byte at) u w (leaf chunk) z e bits fit has =
    let long : length (serialize u w) ≡ z = (is_basic u z e).sized w fit in
    let same : slice_range chunk at (at + z) ≡ serialize u w =
    ap (λ n. slice_range chunk at (at + n)) (sym long) ∙ has in
    record {
      chunk = chunk;
      is = refl;
      within =
          omega (
            arith,
            ap (λ (bs : List ℕ). length bs) same,
            long,
            length-take (at + z - at) (drop at chunk),
            length-drop at chunk,
            (is_basic u z e).pos,
          );
      bytes = same;
      changed = λ x f. refl;
    }
basic_part (byte at) u w (pair left right) z e bits fit has = absurd has

pub law_of_basic_parts : LawOfBasicParts
law_of_basic_parts format t v path u w g s node size value is found basic bits =
    let there = law_of_places format t v path u w g s value is in
    let same : there.0 ≡ node = same_Some there.0 node (sym there.1.found ∙ found) in
    basic_part s u w node size basic bits there.1.value.fits
    (subst (HasPart s u w) same there.1.has)
