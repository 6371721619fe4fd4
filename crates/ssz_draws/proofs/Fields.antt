-- The field of a number, by its name and in the walk.
use Rattle.std.proofs.Common.{◌≡◌, ℕ, zero, suc, ◌<◌, true, false, cond, List, [], ◌∷◌, ◌++◌, length, get_or, slice_get, Some, refl, sym, ap, ◌∙◌, subst, bytes_eq, arith}
use Rattle.std.specs.List.{AllByRecursion, IsDistinct}
use Rattle.std.proofs.lemmas.Map.Keys.{IsDistinct-head, IsDistinct-tail}
use Rattle.std.proofs.lemmas.Slice.Eq.{bytes_eq-Decides}
use Rattle.ssz_schema.specs.declared.path.PathStep.TheVariants.{Field}
use Rattle.ssz_schema.specs.Types.{SszType, Fields, field}
use Rattle.ssz_schema.specs.Legal.{field_names}
use Rattle.ssz_schema.specs.Paths.{Path, field_type, field_number}
use Rattle.ssz_schema.specs.Unfolding.{type_tree_at, fields_over}
use Rattle.ssz_schema.proofs.SumLemmas.{Part}
use Rattle.ssz_value.specs.Values.{SszValue, FitFields}
use Rattle.ssz_machine.specs.Drawing.{drawn_walk, walk_field}

-- the field of number i is found by its name
pub record IsNamed (fs : Fields) (i : ℕ) (name : List ℕ) (t : SszType) : Type 0 where
  pub type_at : field_type fs name ≡ Some t
  pub number : field_number fs name ≡ i

named_here : (other name : List ℕ) (t : SszType) (fs : Fields) → bytes_eq other name ≡ true
    → IsNamed (field other t fs) 0 name t
named_here other name t fs same = record {
  type_at = ap (λ b. cond b (Some t) (field_type fs name)) same;
  number = ap (λ b. cond b 0 (suc (field_number fs name))) same;
}

named_later : (other name : List ℕ) (t u : SszType) (fs : Fields) (i : ℕ)
    → bytes_eq other name ≡ false → IsNamed fs i name t → IsNamed (field other u fs) (suc i) name t
named_later other name t u fs i apart later = record {
  type_at = ap (λ b. cond b (Some u) (field_type fs name)) apart ∙ later.type_at;
  number = ap (λ b. cond b 0 (suc (field_number fs name))) apart ∙ ap suc later.number;
}

-- a name that none of the names is
apart_at : (trees : List SszType) (parts : List Part) (other : List ℕ) (i : ℕ) (part : Part)
    → AllByRecursion (λ y. bytes_eq other y ≡ false) (field_names (fields_over trees parts))
    → i < length parts → part ≡ get_or parts i part → bytes_eq other part.0 ≡ false
apart_at trees [] other i part apart below is = absurd (omega arith)
apart_at trees (p ∷ parts) other zero part apart below is =
    subst (λ (q : Part). bytes_eq other q.0 ≡ false) (sym is) apart.0
apart_at trees (p ∷ parts) other (suc i) part apart below is =
    apart_at trees parts other i part apart.1 (omega arith) is

pub named : (trees : List SszType) (parts : List Part) (i : ℕ) (part : Part) → i < length parts
    → part ≡ get_or parts i part → IsDistinct bytes_eq (field_names (fields_over trees parts))
    → IsNamed (fields_over trees parts) i part.0 (type_tree_at trees part.1)
named trees [] i part below is distinct = absurd (omega arith)
named trees (p ∷ parts) zero part below is distinct =
    subst (λ (q : Part). IsNamed (fields_over trees (p ∷ parts)) 0 q.0 (type_tree_at trees q.1))
    (sym is)
    (named_here p.0 p.0 (type_tree_at trees p.1) (fields_over trees parts)
    ((bytes_eq-Decides p.0 p.0).1 refl))
named trees (p ∷ parts) (suc i) part below is distinct =
    let names = field_names (fields_over trees parts) in
    named_later p.0 part.0 (type_tree_at trees part.1) (type_tree_at trees p.1)
    (fields_over trees parts) i
    (apart_at trees parts p.0 i part (IsDistinct-head bytes_eq p.0 names distinct) (omega arith) is)
    (named trees parts i part (omega arith) is (IsDistinct-tail bytes_eq p.0 names distinct))

-- the value of the field of number i, and the walk from it
pub record IsFieldWalk (trees : List SszType) (parts : List Part) (vs : List SszValue) (i : ℕ)
    (part : Part) : Type 0 where
  pub value : SszValue
  pub there : slice_get vs i ≡ Some value
  pub walks : (path : Path) (x : ℕ) → walk_field (fields_over trees parts) vs i path x
      ≡ drawn_walk (type_tree_at trees part.1) value (path ++ Field part.0 ∷ []) x

pub field_walk : (trees : List SszType) (parts : List Part) (vs : List SszValue) (i : ℕ)
    (part : Part) → FitFields (fields_over trees parts) vs → i < length parts
    → part ≡ get_or parts i part → IsFieldWalk trees parts vs i part
field_walk trees [] vs i part fit below is = absurd (omega arith)
field_walk trees (p ∷ parts) [] i part fit below is = absurd fit
field_walk trees (p ∷ parts) (v ∷ vs) zero part fit below is =
    record {
      value = v;
      there = refl;
      walks = λ path x.
          ap (λ (q : Part). drawn_walk (type_tree_at trees q.1) v (path ++ Field q.0 ∷ []) x)
          (sym is);
    }
field_walk trees (p ∷ parts) (v ∷ vs) (suc i) part fit below is =
    let later = field_walk trees parts vs i part fit.1 (omega arith) is in
    record { value = later.value; there = later.there; walks = later.walks }
