-- Types whose values are one leaf each.
use Rattle.std.proofs.Common.{◌≡◌, ℕ, ◌+◌, ◌-◌, ◌*◌, ◌<◌, ◌≤◌, List, length, map, take, set, get_or, Some, option_map, refl, sym, ap, ◌∙◌, subst, inl, inr, arith, get_or-set_same, get_or-set_other}
use Rattle.std.proofs.lemmas.Bool.{cases_lt}
use Rattle.std.proofs.lemmas.List.{get_or_default}
use Rattle.std.specs.List.{concat}
use Rattle.std.proofs.lemmas.Option.{none-some}
use Rattle.ssz_schema.specs.Types.{SszType, uint, boolean, vector}
use Rattle.ssz_schema.specs.Sizes.{basic_size, fixed_size, depth}
use Rattle.ssz_schema.specs.Indices.{whole}
use Rattle.ssz_value.specs.Values.{items}
use Rattle.ssz_value.specs.Encoding.{serialize, joined_alike}
use Rattle.ssz_value.proofs.PartLemmas.{Part}
use Rattle.ssz_schema.specs.Unfolding.{type_tree_at}
use Rattle.ssz_packing.proofs.BasicTrees.{joined_alike-concat}
use Rattle.ssz_places.specs.PlaceLaws.{HasBasicPart}
use Rattle.ssz_places.proofs.BasicParts.{basic_part}
use Rattle.ssz_places.proofs.Elements.{is_basic}
use Rattle.ssz_nodes.specs.Shown.{ArePacked}
use Rattle.ssz_writing.specs.Leaves.{IsLeafLen}
use Rattle.ssz_nodes.proofs.Chunked.{LastChunk, only_chunk}
use Rattle.ssz_nodes.proofs.Formed.{IsVector, vector_elements}
use Rattle.ssz_writing.proofs.Written.{packed_elements}

-- where no number is told
pub no_leaf : (t : SszType) → IsLeafLen t 0
no_leaf t = record {
  few = omega arith;
  size = λ some. absurd (omega (arith, some));
  leaf = λ some. absurd (omega (arith, some));
}

pub basic_fixed_size : (t : SszType) (z : ℕ) → basic_size t ≡ Some z → fixed_size t ≡ Some z
basic_fixed_size (uint w) z e = e
basic_fixed_size boolean z e = e
basic_fixed_size _ z e = absurd (none-some z e)

-- a basic value is the first bytes of its leaf
pub basic_leaf : (t : SszType) (z : ℕ) → basic_size t ≡ Some z → IsLeafLen t z
basic_leaf t z e =
    let inside = (is_basic t z e).inside 0 in
    record {
      few = omega (arith, inside);
      size = λ some. basic_fixed_size t z e;
      leaf = λ some node v h.
          let at : HasBasicPart whole t v node z = basic_part whole t v node z e refl h.fits h.is in
          let all : z ≡ 0 + z - 0 = omega arith in
          record {
            chunk = at.chunk;
            is = at.is;
            same = ap (λ n. take n at.chunk) all ∙ at.bytes;
          };
    }

-- a vector of basic elements that fit in one chunk
pub vector_leaf : (elem : SszType) (z n d len : ℕ) → basic_size elem ≡ Some z
    → d ≡ depth (vector elem n) → d ≤ 0 → len ≤ 32 → (0 < len → len ≡ n * z)
    → IsLeafLen (vector elem n) len
vector_leaf elem z n d len e deep flat few is = record {
  few = few;
  size = λ some. ap (option_map (λ y. n * y)) (basic_fixed_size elem z e) ∙ ap Some (sym (is some));
  leaf = λ some node v h.
      let of : IsVector elem n v node = vector_elements elem n v node h in
      let zero_depth : depth (vector elem n) ≡ 0 = omega (arith, deep, flat) in
      let packed : ArePacked 0 (n * z) (concat (map (serialize elem) (items of.parts))) node =
      subst (λ k. ArePacked k (n * z) (concat (map (serialize elem) (items of.parts))) node)
      zero_depth
      (packed_elements elem z (depth (vector elem n)) n (items of.parts) node e of.are) in
      let last : LastChunk node (concat (map (serialize elem) (items of.parts))) (n * z) =
      only_chunk (concat (map (serialize elem) (items of.parts))) (n * z) node packed
      (omega (arith, few, is some)) in
      let bytes : serialize (vector elem n) v ≡ concat (map (serialize elem) (items of.parts)) =
      ap (serialize (vector elem n)) of.is
      ∙ ap (λ s. joined_alike s (map (serialize elem) (items of.parts))) (basic_fixed_size elem z e)
      ∙ joined_alike-concat z (map (serialize elem) (items of.parts)) in
      record {
        chunk = last.chunk;
        is = last.is;
        same = ap (λ k. take k last.chunk) (is some) ∙ last.same ∙ sym bytes;
      };
}

-- a field of one place
same_part : (fields : List Part) (i k : ℕ) (part field : Part) → i ≡ k
    → field ≡ get_or fields k field → part ≡ get_or fields i part → k < length fields
    → field ≡ part
same_part fields i k part field same here at inside =
    let first : get_or fields i part ≡ get_or fields k field =
    ap (λ n. get_or fields n part) same ∙ get_or_default fields k part field inside in
    here ∙ sym first ∙ sym at

-- the numbers so far, with one more
pub more_numbers : (P : SszType → ℕ → Type 0) (trees : List SszType) (fields : List Part)
    (numbers : List ℕ) (k number : ℕ) (field : Part) → k < length numbers
    → ((i : ℕ) (part : Part) → i < k → part ≡ get_or fields i part
    → P (type_tree_at trees part.1) (get_or numbers i 0))
    → field ≡ get_or fields k field → k < length fields → P (type_tree_at trees field.1) number
    → (i : ℕ) (part : Part) → i < k + 1 → part ≡ get_or fields i part
    → P (type_tree_at trees part.1) (get_or (set numbers k number) i 0)
more_numbers P trees fields numbers k number field room all here inside one i part below at =
    elim (cases_lt i k) [
      | inl before ↦ subst (P (type_tree_at trees part.1))
          (sym (get_or-set_other numbers k i number 0 (λ e. omega arith))) (all i part before at)
      | inr from ↦
          (let same : i ≡ k = omega arith in
          subst (λ n. P (type_tree_at trees part.1) (get_or (set numbers k number) n 0)) (sym same)
          (subst (P (type_tree_at trees part.1)) (sym (get_or-set_same numbers k number 0 room))
          (subst (λ (p : Part). P (type_tree_at trees p.1) number)
          (same_part fields i k part field same here at inside) one)))
    ]
