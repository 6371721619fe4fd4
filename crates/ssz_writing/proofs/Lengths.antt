-- The length of an encoding, by the form of the type.
use Rattle.std.proofs.Common.{ℕ, zero, suc, ◌+◌, ◌-◌, ◌*◌, ◌/◌, ◌%◌, ◌^◌, ◌≤◌, ◌≡◌, min, List, [], ◌∷◌, length, slice_get, sum_by, Option, Some, None, inl, inr, sym, ap, ◌∙◌, subst, arith, zero-mul}
use Rattle.std.specs.List.{AllByRecursion}
use Rattle.std.proofs.lemmas.List.Sums.{sum_by-cons}
use Rattle.ssz_chunk.specs.Tree.{Tree}
use Rattle.ssz_schema.specs.format.Format.{Format}
use Rattle.ssz_schema.specs.Types.{SszType, Fields, container, vector, list, bitlist, union}
use Rattle.ssz_schema.specs.Sizes.{fixed_size, depth}
use Rattle.ssz_schema.specs.Legal.{IsLegal}
use Rattle.ssz_schema.specs.Unfolding.{type_tree_at, options_over}
use Rattle.ssz_value.specs.Values.{SszValue, items, Fits}
use Rattle.ssz_value.specs.Sizes.{size, fields_size, option_size}
use Rattle.ssz_places.specs.PlaceLaws.{IsTreeOf}
use Rattle.ssz_value.specs.Written.{capped}
use Rattle.ssz_parts.proofs.PartSizes.{fixed_part}
use Rattle.ssz_nodes.specs.Shown.{ForValue, AreElements, ForElements, AreFieldsIn, ForFields}
use Rattle.ssz_nodes.proofs.Walked.{added}
use Rattle.ssz_nodes.proofs.Formed.{IsVector, vector_elements, IsList, list_elements, IsContainer, container_fields, IsBitlist, bitlist_bits, IsUnion, union_option, Unmixes}

-- so many of one fixed size
pub fixed_sum : (format : Format) (t : SszType) (z : ℕ) (vs : List SszValue) → IsLegal format t
    → fixed_size t ≡ Some z → AllByRecursion (Fits t) vs
    → sum_by (added t) vs ≡ length vs * z
fixed_sum format t z [] legal fixed all = sym (zero-mul z)
fixed_sum format t z (v ∷ vs) legal fixed all =
    sum_by-cons (added t) v vs
    ∙ omega (
      arith,
      fixed_part format t z v legal fixed all.0,
      fixed_sum format t z vs legal fixed all.1,
    )

pub vector_len : (elem : SszType) (n d len : ℕ) (node : Tree) → d ≡ depth (vector elem n)
    → ForElements elem d n node (λ vs. len ≡ capped (sum_by (added elem) vs))
    → ForValue (vector elem n) node (λ v. len ≡ capped (size (vector elem n) v))
vector_len elem n d len node deep is = λ v h.
    let of : IsVector elem n v node = vector_elements elem n v node h in
    is (items of.parts) (subst (λ k. AreElements elem k n (items of.parts) node) (sym deep) of.are)
    ∙ ap (λ w. capped (size (vector elem n) w)) (sym of.is)

pub list_len : (format : Format) (elem : SszType) (limit d count len : ℕ) (node content : Tree)
    → IsLegal format (list elem limit) → d ≡ depth (list elem limit) → Unmixes node content count
    → ForElements elem d count content (λ vs. len ≡ capped (sum_by (added elem) vs))
    → ForValue (list elem limit) node (λ v. len ≡ capped (size (list elem limit) v))
list_len format elem limit d count len node content legal deep mixed is = λ v h.
    let of : IsList elem limit v node = list_elements format elem limit v node legal h in
    let many : count ≡ length (items of.parts) = mixed.number _ _ of.tree of.small in
    let under : content ≡ of.content = mixed.tree _ _ of.tree in
    is (items of.parts) (subst (λ k. AreElements elem k count (items of.parts) content) (sym deep)
    (subst (λ k. AreElements elem (depth (list elem limit)) k (items of.parts) content) (sym many)
    (subst (λ c. AreElements elem (depth (list elem limit)) (length (items of.parts))
    (items of.parts) c) (sym under) of.are)))
    ∙ ap (λ w. capped (size (list elem limit) w)) (sym of.is)

pub container_len : (fs : Fields) (d len : ℕ) (node : Tree) → d ≡ depth (container fs)
    → ForFields fs d node (λ vs. len ≡ capped (fields_size fs vs))
    → ForValue (container fs) node (λ v. len ≡ capped (size (container fs) v))
container_len fs d len node deep is = λ v h.
    let of : IsContainer fs v node = container_fields fs v node h in
    is (items of.parts) (subst (λ k. AreFieldsIn fs k (items of.parts) node) (sym deep) of.are)
    ∙ ap (λ w. capped (size (container fs) w)) (sym of.is)

pub bitlist_len : (format : Format) (limit count len : ℕ) (node content : Tree)
    → IsLegal format (bitlist limit) → Unmixes node content count → len ≡ count / 8 + 1
    → ForValue (bitlist limit) node (λ v. len ≡ capped (size (bitlist limit) v))
bitlist_len format limit count len node content legal mixed is = λ v h.
    let of : IsBitlist limit v node = bitlist_bits format limit v node legal h in
    let many : count ≡ length of.run = mixed.number _ _ of.tree of.small in
    let sum : size (bitlist limit) v ≡ length of.run / 8 + 1 = ap (size (bitlist limit)) of.is in
    omega (arith, is, many, sum, of.small)

option_size_at : (trees : List SszType) (ids : List (Option ℕ)) (k id : ℕ) (w : SszValue)
    → slice_get ids k ≡ Some (Some id)
    → option_size (options_over trees ids) k w ≡ size (type_tree_at trees id) w
option_size_at trees [] k id w e = cc
option_size_at trees (None ∷ ids) zero id w e = cc
option_size_at trees (Some other ∷ ids) zero id w e = let same : other ≡ id =
    cc in ap (λ n. size (type_tree_at trees n) w) same
option_size_at trees (None ∷ ids) (suc k) id w e = option_size_at trees ids k id w e
option_size_at trees (Some other ∷ ids) (suc k) id w e = option_size_at trees ids k id w e

-- where the option that the selector names has a type
pub option_len : (trees : List SszType) (ids : List (Option ℕ)) (selector id inner len : ℕ)
    (node content : Tree) → length ids ≤ 128 → Unmixes node content selector
    → slice_get ids (selector % 256) ≡ Some (Some id)
    → ForValue (type_tree_at trees id) content
    (λ w. inner ≡ capped (size (type_tree_at trees id) w))
    → len ≡ min (inner + 1) (2 ^ 64 - 1)
    → ForValue (union (options_over trees ids)) node
    (λ v. len ≡ capped (size (union (options_over trees ids)) v))
option_len trees ids selector id inner len node content few mixed here is next = λ v h.
    go v (union_option trees ids v node h)
  where
    go : (v : SszValue) → IsUnion trees ids v node
        → len ≡ capped (size (union (options_over trees ids)) v)
    go v of =
        let same : selector % 256 ≡ of.k =
        omega (arith, mixed.number _ _ of.tree (omega (arith, of.below)), of.below) in
        let at : slice_get ids of.k ≡ Some (Some id) =
        subst (λ k. slice_get ids k ≡ Some (Some id)) same here in
        elim of.option [
          | inl some ↦
              (let same_id : some.id ≡ id = cc in
              let sum : size (union (options_over trees ids)) v
              ≡ 1 + size (type_tree_at trees id) some.value =
              ap (size (union (options_over trees ids))) some.is
              ∙ ap (λ n. 1 + n) (option_size_at trees ids of.k id some.value at) in
              omega (
                arith,
                next,
                sum,
                is some.value
                    (subst (λ c. IsTreeOf (type_tree_at trees id) some.value c)
                    (sym (mixed.tree _ _ of.tree))
                    (subst (λ n. IsTreeOf (type_tree_at trees n) some.value of.content) same_id
                    some.tree)),
              ))
          | inr none ↦ absurd (let differ : Some None ≡ Some (Some id) =
              sym none.here ∙ at in cc)
        ]

-- and where it is None, or there is none
pub none_len : (trees : List SszType) (ids : List (Option ℕ)) (selector : ℕ)
    (node content : Tree) → length ids ≤ 128 → Unmixes node content selector
    → ((id : ℕ) → slice_get ids (selector % 256) ≡ Some (Some id) → ⊥)
    → ForValue (union (options_over trees ids)) node
    (λ v. 1 ≡ capped (size (union (options_over trees ids)) v))
none_len trees ids selector node content few mixed none = λ v h.
    go v (union_option trees ids v node h)
  where
    go : (v : SszValue) → IsUnion trees ids v node
        → 1 ≡ capped (size (union (options_over trees ids)) v)
    go v of =
        let same : selector % 256 ≡ of.k =
        omega (arith, mixed.number _ _ of.tree (omega (arith, of.below)), of.below) in
        elim of.option [
          | inl some ↦ absurd (none some.id
              (subst (λ k. slice_get ids k ≡ Some (Some some.id)) (sym same) some.here))
          | inr is ↦
              (let one : size (union (options_over trees ids)) v ≡ 1 =
              ap (size (union (options_over trees ids))) is.is in
              omega (arith, one))
        ]
