-- Values that are read one after another.
use Rattle.std.proofs.Common.{ℕ, ◌+◌, ◌%◌, ◌^◌, ◌<◌, ◌≤◌, ◌≡◌, List, [], ◌∷◌, ◌++◌, length, map, get_or, slice_get, Option, Some, None, Vec, Global, Bool, false, Result, Ok, Err, slice_range, inl, inr, refl, sym, ap, ap₂, ◌∙◌, subst, arith, append_assoc}
use Rattle.std.specs.List.{AllByRecursion}
use Rattle.std.specs.Prelude.{IfOk, OnOk}
use Rattle.std.specs.declared.boxed.Box.{Box}
use Rattle.std.specs.declared.alloc.AllocError.{AllocError}
use Rattle.ssz_schema.specs.Indices.{whole}
use Rattle.ssz_value.specs.Encoding.{serialize}
use Rattle.ssz_places.specs.PlaceLaws.{HasBasicPart}
use Rattle.ssz_places.proofs.BasicParts.{basic_part}
use Rattle.ssz_places.proofs.Elements.{is_basic}
use Rattle.std.proofs.lemmas.List.{append-nil, map-append, length-append, drop_all}
use Rattle.ssz_chunk.specs.Tree.{Tree, leaf, merkle_tree}
use Rattle.ssz_schema.specs.Types.{SszType, Fields, container, vector, list, bitvector, bitlist, union}
use Rattle.ssz_schema.specs.Sizes.{basic_size, depth}
use Rattle.ssz_schema.specs.Legal.{IsLegal}
use Rattle.ssz_schema.specs.Unfolding.{type_tree_at, fields_over, options_over}
use Rattle.ssz_schema.specs.format.Format.{Format}
use Rattle.ssz_value.specs.declared.value.Value.{Value}
use Rattle.ssz_value.specs.declared.value.Value.TheVariants.{Seq, Bits, Union}
use Rattle.ssz_value.specs.Values.{SszValue, sequence, chosen, chosen_none, values, items, bits, Fits, FitFields}
use Rattle.ssz_value.specs.Standing.{value_of, is_byte, IsFormed, FieldsFormed, Stands}
use Rattle.ssz_value.specs.Shapes.{StandAlike, StandsBehind}
use Rattle.ssz_value.specs.Trees.{tree}
use Rattle.ssz_value.proofs.PartLemmas.{Part}
use Rattle.ssz_value.proofs.FormLemmas.{formed_push, fields_push, seq_formed_alike, no_fields_formed, chosen_formed, none_formed, seq_formed_fields}
use Rattle.ssz_value.proofs.ValueLemmas.{seq_is, bits_are, chosen_is, chosen_none_is}
use Rattle.ssz_value.proofs.Sequences.{values-items}
use Rattle.ssz_arena.specs.declared.node.NodeId.{NodeId}
use Rattle.ssz_arena.specs.Content.{ArenaContent, tree_of}
use Rattle.ssz_nodes.specs.Ahead.{Ahead, AheadHolds}
use Rattle.ssz_places.specs.PlaceLaws.{IsTreeOf}
use Rattle.ssz_nodes.specs.Shown.{ForValue, ForPlace, AreElements, AreFieldsIn, AreBits, ForElements, ForFields, basic_type}
use Rattle.ssz_nodes.specs.declared.basics.Basic.{Basic}
use Rattle.ssz_nodes.specs.declared.basics.Basic.TheVariants.{Number, Flag}
use Rattle.ssz_nodes.proofs.Walked.{Takes, Left, Left-first, AreElements-trees, FieldsLeft, FieldsLeft-start, FieldsLeft-first}
use Rattle.ssz_nodes.proofs.Formed.{IsVector, vector_elements, IsList, list_elements, IsContainer, container_fields, IsBitvector, bitvector_bits, IsBitlist, bitlist_bits, IsUnion, union_option, Unmixes}

-- elements of one type, so far
pub record ElementsRead (arena : ArenaContent) (t : SszType) (vs : List SszValue) (i : ℕ)
    (parts : List Value) (places : Ahead) : Type 0 where
  pub rest : List SszValue
  pub left : Left arena t rest places
  pub count : i + length rest ≡ length vs
  pub all : map value_of parts ++ rest ≡ vs
  pub formed : AllByRecursion (IsFormed t) parts

pub ElementsRead-start : (arena : ArenaContent) (t : SszType) (depth count : ℕ) (vs : List SszValue)
    (node : NodeId) (places : Ahead) → basic_size t ≡ None
    → AreElements t depth count vs (tree_of arena node)
    → ((trees : List Tree) → length trees ≤ 2 ^ depth → tree_of arena node ≡ merkle_tree depth trees
    → AheadHolds arena trees places)
    → ElementsRead arena t vs 0 [] places
ElementsRead-start arena t depth count vs node places none are holds =
    let trees = AreElements-trees t depth count vs (tree_of arena node) none are in
    record {
      rest = vs;
      left = record { fit = are.fit; holds = holds (map (tree t) vs) trees.0 trees.1 };
      count = omega arith;
      all = refl;
      formed = tt;
    }

pub ElementsRead-more : (arena : ArenaContent) (t : SszType) (vs : List SszValue) (i : ℕ)
    (parts next : List Value) (old new : Ahead) (node : NodeId)
    → ElementsRead arena t vs i parts old → i < length vs → Takes arena old new node
    → ForValue t (tree_of arena node) (λ w. StandsBehind t w parts next)
    → ElementsRead arena t vs (i + 1) next new
ElementsRead-more arena t vs i parts next old new node h below takes read =
    let first = Left-first arena t h.rest old new node h.left (omega (arith, h.count)) takes in
    let put : StandsBehind t first.value parts next = read first.value first.is in
    let v = put.value in
    let is = put.items in
    let stands : Stands t first.value v = put.stands in
    record {
      rest = first.others;
      left = first.left;
      count = omega (arith, h.count, ap (λ (ws : List SszValue). length ws) first.are);
      all = ap (λ xs. xs ++ first.others)
          (ap (map value_of) is ∙ map-append value_of parts (v ∷ [])
          ∙ ap (λ w. map value_of parts ++ w ∷ []) stands.value)
          ∙ append_assoc (map value_of parts) (first.value ∷ []) first.others
          ∙ ap (λ ws. map value_of parts ++ ws) (sym first.are) ∙ h.all;
      formed = subst (AllByRecursion (IsFormed t)) (sym is)
          (formed_push t parts v h.formed stands.formed);
    }

pub ElementsRead-end : (arena : ArenaContent) (t : SszType) (vs : List SszValue) (i : ℕ)
    (parts : List Value) (places : Ahead) → ElementsRead arena t vs i parts places
    → length vs ≤ i → StandAlike t vs parts
ElementsRead-end arena t vs i parts places h all =
    record { value = whole h.rest h.count h.all; formed = h.formed }
  where
    whole : (rest : List SszValue) → i + length rest ≡ length vs
        → map value_of parts ++ rest ≡ vs → map value_of parts ≡ vs
    whole [] count same = sym (append-nil (map value_of parts)) ∙ same
    whole (v ∷ rest) count same = absurd (omega (arith, count))

-- the values of fields, so far
pub record FieldsRead (trees : List SszType) (fields : List Part) (vs : List SszValue)
    (i depth : ℕ) (parts : List Value) (node : Tree) : Type 0 where
  pub rest : List SszValue
  pub left : FieldsLeft trees fields i depth rest node
  pub count : length parts ≡ i
  pub all : map value_of parts ++ rest ≡ vs
  pub formed : FieldsFormed (fields_over trees fields) parts

pub FieldsRead-start : (trees : List SszType) (fields : List Part) (depth : ℕ)
    (vs : List SszValue) (node : Tree) → AreFieldsIn (fields_over trees fields) depth vs node
    → FieldsRead trees fields vs 0 depth [] node
FieldsRead-start trees fields depth vs node are = record {
  rest = vs;
  left = FieldsLeft-start trees fields depth vs node are;
  count = refl;
  all = refl;
  formed = no_fields_formed (fields_over trees fields);
}

pub FieldsRead-more : (trees : List SszType) (fields : List Part) (vs : List SszValue)
    (i depth : ℕ) (part : Part) (parts next : List Value) (node : Tree)
    → FieldsRead trees fields vs i depth parts node → i < length fields
    → part ≡ get_or fields i part
    → ForPlace (type_tree_at trees part.1) depth i node
    (λ w. StandsBehind (type_tree_at trees part.1) w parts next)
    → FieldsRead trees fields vs (i + 1) depth next node
FieldsRead-more trees fields vs i depth part parts next node h below e read =
    let t = type_tree_at trees part.1 in
    let first = FieldsLeft-first trees fields i depth part h.rest node h.left below e in
    let put : StandsBehind t first.value parts next = read first.value first.is in
    let v = put.value in
    let is = put.items in
    let stands : Stands t first.value v = put.stands in
    record {
      rest = first.others;
      left = first.left;
      count = ap (λ (ps : List Value). length ps) is ∙ length-append parts (v ∷ [])
          ∙ ap (λ n. n + 1) h.count;
      all = ap (λ xs. xs ++ first.others)
          (ap (map value_of) is ∙ map-append value_of parts (v ∷ [])
          ∙ ap (λ w. map value_of parts ++ w ∷ []) stands.value)
          ∙ append_assoc (map value_of parts) (first.value ∷ []) first.others
          ∙ ap (λ ws. map value_of parts ++ ws) (sym first.are) ∙ h.all;
      formed = subst (FieldsFormed (fields_over trees fields)) (sym is)
          (fields_push trees fields parts i part v h.formed h.count below e stands.formed);
    }

pub FieldsRead-end : (trees : List SszType) (fields : List Part) (vs : List SszValue)
    (i depth : ℕ) (parts : Vec Value Global) (node : Tree)
    → FieldsRead trees fields vs i depth parts.items node → length fields ≤ i
    → Stands (container (fields_over trees fields)) (sequence (values vs)) (Seq parts)
FieldsRead-end trees fields vs i depth parts node h all = record {
  value = seq_is parts ∙ ap (λ ws. sequence (values ws))
      (whole h.rest
      (subst (λ (fs : List Part). FitFields (fields_over trees fs) h.rest)
      (drop_all i fields all) h.left.fit) h.all);
  formed = seq_formed_fields (fields_over trees fields) parts h.formed;
}
  where
    whole : (rest : List SszValue) → FitFields (fields_over trees []) rest
        → map value_of parts.items ++ rest ≡ vs → map value_of parts.items ≡ vs
    whole [] fit same = sym (append-nil (map value_of parts.items)) ∙ same
    whole (v ∷ rest) fit same = absurd fit

-- what a call answers, by the form of the type

abbrev pub Reads : SszType → SszValue → Result Value AllocError → Type 0
Reads t v result = IfOk result (Stands t v)

-- the elements of a list are formed as those of a vector
as_list : (elem : SszType) (limit n : ℕ) (w : SszValue) (result : Result Value AllocError)
    → Reads (vector elem n) w result → Reads (list elem limit) w result
as_list elem limit n w (Ok v) h = record { value = h.value; formed = h.formed }
as_list elem limit n w (Err e) h = h

-- what is said of all elements is said of the vector
pub vector_each : (elem : SszType) (n d : ℕ) (node : Tree) (P : SszValue → Type 0)
    → d ≡ depth (vector elem n) → ForElements elem d n node (λ vs. P (sequence (values vs)))
    → ForValue (vector elem n) node P
vector_each elem n d node P deep read = λ v h.
    let of : IsVector elem n v node = vector_elements elem n v node h in
    let same : sequence (values (items of.parts)) ≡ v =
    ap sequence (values-items of.parts) ∙ sym of.is in
    subst P same (read (items of.parts)
    (subst (λ k. AreElements elem k n (items of.parts) node) (sym deep) of.are))

pub vector_read : (elem : SszType) (n d : ℕ) (node : Tree) (result : Result Value AllocError)
    → d ≡ depth (vector elem n)
    → ForElements elem d n node (λ vs. Reads (vector elem n) (sequence (values vs)) result)
    → ForValue (vector elem n) node (λ v. Reads (vector elem n) v result)
vector_read elem n d node result deep read =
    vector_each elem n d node (λ v. Reads (vector elem n) v result) deep read

-- and of the list
pub list_each : (format : Format) (elem : SszType) (limit d count : ℕ) (node content : Tree)
    (P : SszValue → Type 0) → IsLegal format (list elem limit) → d ≡ depth (list elem limit)
    → Unmixes node content count
    → ForElements elem d count content (λ vs. P (sequence (values vs)))
    → ForValue (list elem limit) node P
list_each format elem limit d count node content P legal deep mixed read = λ v h.
    let of : IsList elem limit v node = list_elements format elem limit v node legal h in
    let same : sequence (values (items of.parts)) ≡ v =
    ap sequence (values-items of.parts) ∙ sym of.is in
    let many : count ≡ length (items of.parts) = mixed.number _ _ of.tree of.small in
    let under : content ≡ of.content = mixed.tree _ _ of.tree in
    let are : AreElements elem d count (items of.parts) content =
    subst (λ k. AreElements elem k count (items of.parts) content) (sym deep)
    (subst (λ k. AreElements elem (depth (list elem limit)) k (items of.parts) content) (sym many)
    (subst (λ c. AreElements elem (depth (list elem limit)) (length (items of.parts))
    (items of.parts) c) (sym under) of.are)) in
    subst P same (read (items of.parts) are)

pub list_read : (format : Format) (elem : SszType) (limit d count : ℕ) (node content : Tree)
    (result : Result Value AllocError) → IsLegal format (list elem limit)
    → d ≡ depth (list elem limit) → Unmixes node content count
    → ForElements elem d count content
    (λ vs. Reads (vector elem count) (sequence (values vs)) result)
    → ForValue (list elem limit) node (λ v. Reads (list elem limit) v result)
list_read format elem limit d count node content result legal deep mixed read =
    list_each format elem limit d count node content (λ v. Reads (list elem limit) v result) legal
    deep mixed (λ vs are. as_list elem limit count (sequence (values vs)) result (read vs are))

-- what stands for the elements of a vector stands for those of a list
pub list_behind : {E : Type 0} (elem : SszType) (limit count : ℕ) (w : SszValue)
    (old new : List Value) (r : Result Unit E) → OnOk r (StandsBehind (vector elem count) w old new)
    → OnOk r (StandsBehind (list elem limit) w old new)
list_behind elem limit count w old new (Ok done) h = record {
  value = h.value;
  items = h.items;
  stands = record { value = h.stands.value; formed = h.stands.formed };
}
list_behind elem limit count w old new (Err e) h = tt

pub container_read : (fs : Fields) (d : ℕ) (node : Tree) (result : Result Value AllocError)
    → d ≡ depth (container fs)
    → ForFields fs d node (λ vs. Reads (container fs) (sequence (values vs)) result)
    → ForValue (container fs) node (λ v. Reads (container fs) v result)
container_read fs d node result deep read = λ v h.
    let of : IsContainer fs v node = container_fields fs v node h in
    let same : sequence (values (items of.parts)) ≡ v =
    ap sequence (values-items of.parts) ∙ sym of.is in
    subst (λ (w : SszValue). Reads (container fs) w result) same
    (read (items of.parts) (subst (λ k. AreFieldsIn fs k (items of.parts) node) (sym deep) of.are))

-- the bits
pub bitvector_read : (n d : ℕ) (node : Tree) (run : List Bool) → d ≡ depth (bitvector n)
    → ((bs : List Bool) → AreBits d n bs node → run ≡ bs)
    → ForValue (bitvector n) node (λ v. Stands (bitvector n) v (Bits run))
bitvector_read n d node run deep read = λ v h.
    let of : IsBitvector n v node = bitvector_bits n v node h in
    record {
      value = bits_are run ∙ ap bits (read of.run
          (subst (λ k. AreBits k n of.run node) (sym deep) of.are)) ∙ sym of.is;
      formed = tt;
    }

pub bitlist_read : (format : Format) (limit d count : ℕ) (node content : Tree) (run : List Bool)
    → IsLegal format (bitlist limit) → d ≡ depth (bitlist limit) → Unmixes node content count
    → ((bs : List Bool) → AreBits d count bs content → run ≡ bs)
    → ForValue (bitlist limit) node (λ v. Stands (bitlist limit) v (Bits run))
bitlist_read format limit d count node content run legal deep mixed read = λ v h.
    let of : IsBitlist limit v node = bitlist_bits format limit v node legal h in
    let many : count ≡ length of.run = mixed.number _ _ of.tree of.small in
    let under : content ≡ of.content = mixed.tree _ _ of.tree in
    record {
      value = bits_are run ∙ ap bits (read of.run
          (subst (λ k. AreBits k count of.run content) (sym deep)
          (subst (λ k. AreBits (depth (bitlist limit)) k of.run content) (sym many)
          (subst (λ c. AreBits (depth (bitlist limit)) (length of.run) of.run c) (sym under)
          of.are)))) ∙ sym of.is;
      formed = tt;
    }

-- a number or a boolean, by its leaf
pub basic_read : (t : SszType) (z : ℕ) (node : Tree) (chunk : List ℕ) (value : Value)
    → basic_size t ≡ Some z → ((v : Value) → IsFormed t v)
    → ((c : List ℕ) → node ≡ leaf c → chunk ≡ c)
    → ((v : SszValue) → Fits t v
    → slice_range chunk 0 (0 + length (serialize t v)) ≡ serialize t v → value_of value ≡ v)
    → ForValue t node (λ v. Stands t v value)
basic_read t z node chunk value size formed shows read = λ v h.
    let at : HasBasicPart whole t v node z = basic_part whole t v node z size refl h.fits h.is in
    let long : length (serialize t v) ≡ z = (is_basic t z size).sized v h.fits in
    record {
      value = read v h.fits
          (ap (λ c. slice_range c 0 (0 + length (serialize t v))) (shows at.chunk at.is)
          ∙ ap (λ n. slice_range at.chunk 0 (0 + n)) long ∙ at.bytes);
      formed = formed value;
    }

-- basic elements that are no bytes
pub packed_read : (basic t : SszType) (depth count : ℕ) (node : Tree) (parts : Vec Value Global)
    → basic ≡ t → is_byte t ≡ false → ((v : Value) → IsFormed basic v)
    → ForElements basic depth count node (λ vs. map value_of parts.items ≡ vs)
    → ForElements t depth count node
    (λ vs. Stands (vector t count) (sequence (values vs)) (Seq parts))
packed_read basic t depth count node parts same no_byte formed read = λ vs are. record {
  value = seq_is parts ∙ ap (λ ws. sequence (values ws))
      (read vs (subst (λ b. AreElements b depth count vs node) (sym same) are));
  formed = seq_formed_alike t count parts no_byte
      (all (subst (λ b. (v : Value) → IsFormed b v) same formed) parts.items);
}
  where
    all : ((v : Value) → IsFormed t v) → (vs : List Value) → AllByRecursion (IsFormed t) vs
    all each [] = tt
    all each (v ∷ vs) = (each v, all each vs)

pub basic_formed : (basic : Basic) (v : Value) → IsFormed (basic_type basic) v
basic_formed (Number width) v = tt
basic_formed Flag v = tt

-- where the option that the selector names has a type
pub option_read : (trees : List SszType) (ids : List (Option ℕ)) (number id : ℕ)
    (node content : Tree) (v : Value) (box : Box Value Global) → length ids ≤ 128
    → Unmixes node content number → slice_get ids (number % 256) ≡ Some (Some id)
    → ForValue (type_tree_at trees id) content (λ w. Stands (type_tree_at trees id) w v)
    → box.value ≡ v
    → ForValue (union (options_over trees ids)) node
    (λ w. Stands (union (options_over trees ids)) w (Union (number % 256) (Some box)))
option_read trees ids number id node content v box few mixed here read boxed = λ w h.
    go w (union_option trees ids w node h)
  where
    go : (w : SszValue) → IsUnion trees ids w node
        → Stands (union (options_over trees ids)) w (Union (number % 256) (Some box))
    go w of =
        let same : number % 256 ≡ of.k =
        omega (arith, mixed.number _ _ of.tree (omega (arith, of.below)), of.below) in
        let at : slice_get ids of.k ≡ Some (Some id) =
        subst (λ k. slice_get ids k ≡ Some (Some id)) same here in
        elim of.option [
          | inl some ↦
              (let same_id : some.id ≡ id = cc in
              let stands : Stands (type_tree_at trees id) some.value v = read some.value
              (subst (λ c. IsTreeOf (type_tree_at trees id) some.value c)
              (sym (mixed.tree _ _ of.tree))
              (subst (λ n. IsTreeOf (type_tree_at trees n) some.value of.content) same_id
              some.tree)) in
              record {
                value = chosen_is (number % 256) box
                    ∙ ap₂ chosen same (ap value_of boxed ∙ stands.value) ∙ sym some.is;
                formed = chosen_formed trees ids (number % 256) id box (sym here)
                    (subst (IsFormed (type_tree_at trees id)) (sym boxed) stands.formed);
              })
          | inr none ↦ absurd (let differ : Some None ≡ Some (Some id) =
              sym none.here ∙ at in cc)
        ]

-- where it is None, or there is none
pub none_read : (trees : List SszType) (ids : List (Option ℕ)) (number : ℕ) (node content : Tree)
    → length ids ≤ 128 → Unmixes node content number
    → ((id : ℕ) → slice_get ids (number % 256) ≡ Some (Some id) → ⊥)
    → ForValue (union (options_over trees ids)) node
    (λ w. Stands (union (options_over trees ids)) w (Union (number % 256) None))
none_read trees ids number node content few mixed none = λ w h.
    go w (union_option trees ids w node h)
  where
    go : (w : SszValue) → IsUnion trees ids w node
        → Stands (union (options_over trees ids)) w (Union (number % 256) None)
    go w of =
        let same : number % 256 ≡ of.k =
        omega (arith, mixed.number _ _ of.tree (omega (arith, of.below)), of.below) in
        elim of.option [
          | inl some ↦ absurd (none some.id
              (subst (λ k. slice_get ids k ≡ Some (Some some.id)) (sym same) some.here))
          | inr is ↦ record {
            value = chosen_none_is (number % 256) ∙ ap chosen_none same ∙ sym is.is;
            formed = none_formed (options_over trees ids) (number % 256);
          }
        ]
