-- The parts of values of a type.
use Rattle.std.proofs.Common.{ℕ, zero, suc, ◌≡◌, ◌<◌, Bool, true, false, List, [], ◌∷◌, ◌++◌, length, map, get_or, slice_get, Vec, Global, Option, Some, None, refl, sym, ap, subst, ◌∙◌, arith}
use Rattle.std.specs.List.{AllByRecursion}
use Rattle.std.specs.declared.boxed.Box.{Box}
use Rattle.ssz_schema.specs.width.Width.TheVariants.{W8, W16, W32, W64, W128, W256}
use Rattle.ssz_schema.specs.Types.{SszType, Fields, Options, uint, boolean, container, vector, list, bitvector, bitlist, union, no_fields, field}
use Rattle.ssz_schema.specs.Unfolding.{type_tree_at, options_over, fields_over}
use Rattle.ssz_value.specs.declared.value.Value.{Value, out-Value}
use Rattle.ssz_value.specs.declared.value.Value.TheViews.{out-roll-Value}
use Rattle.ssz_value.specs.declared.value.Value.TheVariants.{Bytes, Seq, Union, rolls-Seq, rolls-Bytes, rolls-Union}
use Rattle.ssz_value.specs.declared.value.Value.TheOpen.{Bytes as BytesF, Seq as SeqF, Union as UnionF}
use Rattle.ssz_value.specs.Values.{SszValue, sequence, values, items, Fits, FitFields, FitsOption, chosen}
use Rattle.ssz_value.specs.Standing.{value_of, is_byte, AreFormed, IsFormed, OfParts, OfChosen, FieldsFormed, OptionFormed, IsValue}
use Rattle.ssz_value.proofs.ValueLemmas.{seq_is, chosen_is}
use Rattle.ssz_value.proofs.Sequences.{items-values}
use Rattle.ssz_value.proofs.PartLemmas.{Part}
use Rattle.ssz_value.specs.Shapes.{AreFields, ElementsFit, IsSequence}

pub seq_out : (parts : Vec Value Global) → out-Value (Seq parts) ≡ SeqF parts
seq_out parts = ap out-Value (sym (rolls-Seq parts)) ∙ out-roll-Value _

pub bytes_out : (run : List ℕ) → out-Value (Bytes run) ≡ BytesF run
bytes_out run = ap out-Value (sym (rolls-Bytes run)) ∙ out-roll-Value _

pub chosen_out : (k : ℕ) (inner : Box Value Global)
    → out-Value (Union k (Some inner)) ≡ UnionF k (Some inner)
chosen_out k inner = ap out-Value (sym (rolls-Union k (Some inner))) ∙ out-roll-Value _

-- a vector or list is a sequence of its elements
vector_fit : (elem : SszType) (n : ℕ) (w : SszValue) → Fits (vector elem n) w → ElementsFit elem w
vector_fit elem n (sequence vs) h = h.1
vector_fit elem n _ h = absurd h

list_fit : (elem : SszType) (n : ℕ) (w : SszValue) → Fits (list elem n) w → ElementsFit elem w
list_fit elem n (sequence vs) h = h.1
list_fit elem n _ h = absurd h

pub vector_sequence : (elem : SszType) (n : ℕ) (v : Value) → IsValue (vector elem n) v
    → IsSequence elem v
vector_sequence elem n v h =
    record { fit = vector_fit elem n (value_of v) h.fits; formed = h.formed }

pub list_sequence : (elem : SszType) (n : ℕ) (v : Value) → IsValue (list elem n) v
    → IsSequence elem v
list_sequence elem n v h = record { fit = list_fit elem n (value_of v) h.fits; formed = h.formed }

both_all : (elem : SszType) (vs : List Value) → AllByRecursion (Fits elem) (map value_of vs)
    → AllByRecursion (IsFormed elem) vs → AllByRecursion (IsValue elem) vs
both_all elem [] fit formed = tt
both_all elem (v ∷ vs) fit formed =
    (record { fits = fit.0; formed = formed.0 }, both_all elem vs fit.1 formed.1)

seq_formed : (byte : Bool) (P : Value → Type 0) (parts : Vec Value Global)
    → AreFormed byte P (SeqF parts) → AllByRecursion P parts.items
seq_formed true P parts h = absurd h
seq_formed false P parts h = h

-- the parts of a sequence are elements
pub seq_elements : (elem : SszType) (parts : Vec Value Global) → IsSequence elem (Seq parts)
    → AllByRecursion (IsValue elem) parts.items
seq_elements elem parts h =
    let fit : AllByRecursion (Fits elem) (items (values (map value_of parts.items))) =
    subst (ElementsFit elem) (seq_is parts) h.fit in
    both_all elem parts.items
    (subst (AllByRecursion (Fits elem)) (items-values (map value_of parts.items)) fit)
    (seq_formed (is_byte elem) (IsFormed elem) parts
    (subst (AreFormed (is_byte elem) (IsFormed elem)) (seq_out parts) h.formed))

pub byte_type : (elem : SszType) → is_byte elem ≡ true → elem ≡ uint W8
byte_type (uint W8) e = refl
byte_type (uint W16) e = cc
byte_type (uint W32) e = cc
byte_type (uint W64) e = cc
byte_type (uint W128) e = cc
byte_type (uint W256) e = cc
byte_type boolean e = cc
byte_type (container fs) e = cc
byte_type (vector t n) e = cc
byte_type (list t n) e = cc
byte_type (bitvector n) e = cc
byte_type (bitlist n) e = cc
byte_type (union os) e = cc

bytes_formed : (byte : Bool) (P : Value → Type 0) (run : List ℕ) → AreFormed byte P (BytesF run)
    → byte ≡ true
bytes_formed true P run h = refl
bytes_formed false P run h = absurd h

-- bytes are elements of type uint8
pub bytes_elements : (elem : SszType) (run : List ℕ) → IsSequence elem (Bytes run) → elem ≡ uint W8
bytes_elements elem run h =
    byte_type elem (bytes_formed (is_byte elem) (IsFormed elem) run
    (subst (AreFormed (is_byte elem) (IsFormed elem)) (bytes_out run) h.formed))

both_fields : (fs : Fields) (vs : List Value) → FitFields fs (map value_of vs) → FieldsFormed fs vs
    → AreFields fs vs
both_fields no_fields [] fit formed = tt
both_fields no_fields (v ∷ vs) fit formed = absurd fit
both_fields (field name t fs) [] fit formed = absurd fit
both_fields (field name t fs) (v ∷ vs) fit formed =
    (record { fits = fit.0; formed = formed.0 }, both_fields fs vs fit.1 formed.1)

-- the parts of a container are its fields
pub seq_fields : (fs : Fields) (parts : Vec Value Global) → IsValue (container fs) (Seq parts)
    → AreFields fs parts.items
seq_fields fs parts h =
    let fit : FitFields fs (items (values (map value_of parts.items))) =
    subst (Fits (container fs)) (seq_is parts) h.fits in
    both_fields fs parts.items (subst (FitFields fs) (items-values (map value_of parts.items)) fit)
    (subst (OfParts (FieldsFormed fs)) (seq_out parts) h.formed)

-- bytes are no container
pub bytes_no_container : (fs : Fields) (run : List ℕ) → IsValue (container fs) (Bytes run) → ⊥
bytes_no_container fs run h = subst (OfParts (FieldsFormed fs)) (bytes_out run) h.formed

-- element i
pub element_at : (elem : SszType) (vs : List Value) (i : ℕ) (v : Value)
    → AllByRecursion (IsValue elem) vs → i < length vs → v ≡ get_or vs i v → IsValue elem v
element_at elem [] i v all h e = absurd (omega arith)
element_at elem (w ∷ vs) zero v all h e = subst (IsValue elem) (sym e) all.0
element_at elem (w ∷ vs) (suc i) v all h e = element_at elem vs i v all.1 (omega arith) e

-- the option that a value of a union has, where its number is that of a type
pub chosen_fits : (trees : List SszType) (ids : List (Option ℕ)) (k id : ℕ)
    (inner : Box Value Global) → IsValue (union (options_over trees ids)) (Union k (Some inner))
    → Some (Some id) ≡ slice_get ids k → IsValue (type_tree_at trees id) inner.value
chosen_fits trees ids k id inner h e =
    let fit : FitsOption (options_over trees ids) k (value_of inner.value) =
    subst (Fits (union (options_over trees ids))) (chosen_is k inner) h.fits in
    let formed : OptionFormed (options_over trees ids) k inner.value =
    subst (OfChosen (OptionFormed (options_over trees ids))) (chosen_out k inner) h.formed in
    go ids k fit formed e
  where
    go : (ids : List (Option ℕ)) (k : ℕ)
        → FitsOption (options_over trees ids) k (value_of inner.value)
        → OptionFormed (options_over trees ids) k inner.value → Some (Some id) ≡ slice_get ids k
        → IsValue (type_tree_at trees id) inner.value
    go [] k fit formed e = cc
    go (None ∷ ids) zero fit formed e = cc
    go (Some other ∷ ids) zero fit formed e = let same : other ≡ id =
        cc in subst (λ (n : ℕ). IsValue (type_tree_at trees n) inner.value) same
        (record { fits = fit; formed = formed })
    go (None ∷ ids) (suc k) fit formed e = go ids k fit formed e
    go (Some other ∷ ids) (suc k) fit formed e = go ids k fit formed e

-- the value of a union that has a value
pub union_inner : (trees : List SszType) (ids : List (Option ℕ)) (v : Value) (k : ℕ)
    (o : Option (Box Value Global)) (inner : Box Value Global) → v ≡ Union k o → o ≡ Some inner
    → IsValue (union (options_over trees ids)) v
    → IsValue (union (options_over trees ids)) (Union k (Some inner))
union_inner trees ids v k o inner is some h =
    subst (IsValue (union (options_over trees ids))) (is ∙ ap (Union k) some) h

fit_option : (trees : List SszType) (ids : List (Option ℕ)) (k : ℕ) (w : SszValue)
    → FitsOption (options_over trees ids) k w → (id : ℕ) × (Some (Some id) ≡ slice_get ids k)
fit_option trees [] k w h = absurd h
fit_option trees (None ∷ ids) zero w h = absurd h
fit_option trees (Some id ∷ ids) zero w h = (id, refl)
fit_option trees (None ∷ ids) (suc k) w h = fit_option trees ids k w h
fit_option trees (Some id ∷ ids) (suc k) w h = fit_option trees ids k w h

-- its number is that of an option with a type
pub chosen_option : (trees : List SszType) (ids : List (Option ℕ)) (k : ℕ)
    (inner : Box Value Global) → IsValue (union (options_over trees ids)) (Union k (Some inner))
    → (id : ℕ) × (Some (Some id) ≡ slice_get ids k)
chosen_option trees ids k inner h =
    fit_option trees ids k (value_of inner.value)
    (subst (Fits (union (options_over trees ids))) (chosen_is k inner) h.fits)

pub value_of_chosen : (v : Value) (k : ℕ) (o : Option (Box Value Global)) (inner : Box Value Global)
    → v ≡ Union k o → o ≡ Some inner → value_of v ≡ chosen k (value_of inner.value)
value_of_chosen v k o inner is some = ap value_of (is ∙ ap (Union k) some) ∙ chosen_is k inner

-- values that are formed

-- the values that values stand for fit
pub all_fit : (t : SszType) (vs : List Value) → AllByRecursion (IsValue t) vs
    → AllByRecursion (Fits t) (map value_of vs)
all_fit t [] all = tt
all_fit t (v ∷ vs) all = (all.0.fits, all_fit t vs all.1)

pub formed_push : (t : SszType) (vs : List Value) (v : Value) → AllByRecursion (IsFormed t) vs
    → IsFormed t v → AllByRecursion (IsFormed t) (vs ++ v ∷ [])
formed_push t [] v all h = (h, tt)
formed_push t (w ∷ vs) v all h = (all.0, formed_push t vs v all.1 h)

pub no_fields_formed : (fs : Fields) → FieldsFormed fs []
no_fields_formed no_fields = tt
no_fields_formed (field name t fs) = tt

pub fields_push : (trees : List SszType) (fields : List Part) (vs : List Value) (i : ℕ)
    (part : Part) (v : Value) → FieldsFormed (fields_over trees fields) vs → length vs ≡ i
    → i < length fields → part ≡ get_or fields i part → IsFormed (type_tree_at trees part.1) v
    → FieldsFormed (fields_over trees fields) (vs ++ v ∷ [])
fields_push trees [] vs i part v all count below e h = absurd (omega arith)
fields_push trees (f ∷ fields) [] zero part v all count below e h = (
  subst (λ (p : Part). IsFormed (type_tree_at trees p.1) v) e h,
  no_fields_formed
      (fields_over trees fields),
)
fields_push trees (f ∷ fields) [] (suc i) part v all count below e h = absurd (omega arith)
fields_push trees (f ∷ fields) (w ∷ vs) zero part v all count below e h = absurd (omega arith)
fields_push trees (f ∷ fields) (w ∷ vs) (suc i) part v all count below e h =
    (all.0, fields_push trees fields vs i part v all.1 (omega arith) (omega arith) e h)

pub seq_formed_alike : (t : SszType) (n : ℕ) (parts : Vec Value Global) → is_byte t ≡ false
    → AllByRecursion (IsFormed t) parts.items → IsFormed (vector t n) (Seq parts)
seq_formed_alike t n parts e all =
    subst (λ (b : Bool). AreFormed b (IsFormed t) (out-Value (Seq parts))) (sym e)
    (subst (AreFormed false (IsFormed t)) (sym (seq_out parts)) all)

pub bytes_are_formed : (n : ℕ) (run : List ℕ) → IsFormed (vector (uint W8) n) (Bytes run)
bytes_are_formed n run = subst (AreFormed true (IsFormed (uint W8))) (sym (bytes_out run)) tt

pub seq_formed_fields : (fs : Fields) (parts : Vec Value Global) → FieldsFormed fs parts.items
    → IsFormed (container fs) (Seq parts)
seq_formed_fields fs parts h = subst (OfParts (FieldsFormed fs)) (sym (seq_out parts)) h

pub chosen_formed : (trees : List SszType) (ids : List (Option ℕ)) (k id : ℕ)
    (inner : Box Value Global) → Some (Some id) ≡ slice_get ids k
    → IsFormed (type_tree_at trees id) inner.value
    → IsFormed (union (options_over trees ids)) (Union k (Some inner))
chosen_formed trees ids k id inner e h =
    subst (OfChosen (OptionFormed (options_over trees ids))) (sym (chosen_out k inner)) (go ids k e)
  where
    go : (ids : List (Option ℕ)) (k : ℕ) → Some (Some id) ≡ slice_get ids k
        → OptionFormed (options_over trees ids) k inner.value
    go [] k e = cc
    go (None ∷ ids) zero e = cc
    go (Some other ∷ ids) zero e = let same : id ≡ other =
        cc in subst (λ (n : ℕ). IsFormed (type_tree_at trees n) inner.value) same h
    go (None ∷ ids) (suc k) e = go ids k e
    go (Some other ∷ ids) (suc k) e = go ids k e

pub none_formed : (os : Options) (k : ℕ) → IsFormed (union os) (Union k None)
none_formed os k = subst (OfChosen (OptionFormed os))
    (sym (ap out-Value (sym (rolls-Union k None)) ∙ out-roll-Value _)) tt
