-- Where steps lead, and which values the parts there are.
use Rattle.std.proofs.Common.{ℕ, zero, suc, ◌≡◌, Bool, true, false, cond, List, [], ◌∷◌, length, map, set, slice_get, Vec, Global, Some, IsSome, bytes_eq, refl, sym, ap, subst, ◌∙◌, arith}
use Rattle.std.specs.List.{AllByRecursion}
use Rattle.std.specs.declared.boxed.Box.{Box}
use Rattle.std.proofs.lemmas.Option.{none-some, same_Some, slice_get_within, get_or_from_slice_get}
use Rattle.std.proofs.lemmas.List.{length-set}
use Rattle.ssz_schema.specs.declared.path.PathStep.{PathStep}
use Rattle.ssz_schema.specs.declared.path.PathStep.TheVariants.{Field, Index, Len, Selector, Option as Chosen}
use Rattle.ssz_schema.specs.width.Width.{Width}
use Rattle.ssz_schema.specs.width.Width.TheVariants.{W8, W64}
use Rattle.ssz_schema.specs.Types.{SszType, Fields, Options, uint, boolean, container, vector, list, bitvector, bitlist, union, no_fields, field, no_options, none_option, option}
use Rattle.ssz_schema.specs.Paths.{step_type, field_type, field_number, option_type}
use Rattle.ssz_schema.specs.Steps.{lead_number}
use Rattle.ssz_schema.proofs.PathLemmas.{if_within}
use Rattle.ssz_value.specs.declared.value.Value.{Value}
use Rattle.ssz_value.specs.declared.value.Value.TheVariants.{Bytes, Seq, Bits, Union}
use Rattle.ssz_value.specs.Values.{SszValue, number, sequence, bits, items, values, chosen, chosen_none, Fits, FitsOption}
use Rattle.ssz_value.specs.Parts.{numbered, part_at}
use Rattle.ssz_value.specs.Shapes.{AreFields}
use Rattle.ssz_value.specs.Standing.{value_of, OfChosen, OptionFormed, IsFormed, IsValue}
use Rattle.ssz_value.proofs.ValueLemmas.{seq_is, bytes_are, bits_are, chosen_is}
use Rattle.ssz_value.proofs.FormLemmas.{element_at, list_sequence, vector_sequence, seq_elements, seq_fields, bytes_elements, bytes_no_container, chosen_out}
use Rattle.ssz_value.proofs.FitLemmas.{vector_value, vector_parts, seq_container}
use Rattle.ssz_plain.proofs.Alike.{set_all}
use Rattle.ssz_plain.proofs.Forms.{AllBytes, seq_count, bytes_count, seq_again, bytes_again, bytes_within, list_seq, list_bytes, list_bits, list_seq_parts, list_bytes_parts, bitlist_few}

-- Only a field has another number than its step.

pub field_placed : (t : SszType) (name : List ℕ) (n : ℕ) → n ≡ lead_number (Field name) t
    → IsSome (step_type t (Field name)) → numbered t (Field name) ≡ Index n
field_placed (container fs) name n is fits = ap Index (sym is)
field_placed _ name n is fits = absurd (cc)

pub index_placed : (t : SszType) (i : ℕ) → numbered t (Index i) ≡ Index i
index_placed (container fs) i = refl
index_placed _ i = refl

pub len_placed : (t : SszType) → numbered t Len ≡ Len
len_placed (container fs) = refl
len_placed _ = refl

pub selector_placed : (t : SszType) → numbered t Selector ≡ Selector
selector_placed (container fs) = refl
selector_placed _ = refl

pub option_placed : (t : SszType) (k : ℕ) → numbered t (Chosen k) ≡ Chosen k
option_placed (container fs) k = refl
option_placed _ k = refl

pub ruleset steps_placed =
    (field_placed, index_placed, len_placed, selector_placed, option_placed)

-- Which values parts are, and which may stand in their places.

-- an element that is found is a value of the elements' type
element_found : (elem : SszType) (vs : List Value) (i : ℕ) (v : Value)
    → AllByRecursion (IsValue elem) vs → slice_get vs i ≡ Some v → IsValue elem v
element_found elem vs i v all e =
    element_at elem vs i v all (slice_get_within vs i v e) (sym (get_or_from_slice_get vs i v v e))

-- what a field's number says: it has the type, and another value of the type may stand there
record IsFieldOf (fs : Fields) (k : ℕ) (u : SszType) : Type 0 where
  pub there : (vs : List Value) (v : Value) → AreFields fs vs → slice_get vs k ≡ Some v
      → IsValue u v
  pub put : (vs : List Value) (x : Value) → AreFields fs vs → IsValue u x
      → AreFields fs (set vs k x)

first_of : (fs : Fields) (name : List ℕ) (u : SszType) → IsFieldOf (field name u fs) 0 u
first_of fs name u = record { there = found; put = placed }
  where
    found : (vs : List Value) (v : Value) → AreFields (field name u fs) vs
        → slice_get vs 0 ≡ Some v → IsValue u v
    found [] v h e = absurd h
    found (w ∷ vs) v h e = subst (IsValue u) (same_Some w v e) h.0

    placed : (vs : List Value) (x : Value) → AreFields (field name u fs) vs → IsValue u x
        → AreFields (field name u fs) (set vs 0 x)
    placed [] x h f = absurd h
    placed (w ∷ vs) x h f = (f, h.1)

later_of : (fs : Fields) (name : List ℕ) (t : SszType) (k : ℕ) (u : SszType) → IsFieldOf fs k u
    → IsFieldOf (field name t fs) (suc k) u
later_of fs name t k u is = record { there = found; put = placed }
  where
    found : (vs : List Value) (v : Value) → AreFields (field name t fs) vs
        → slice_get vs (suc k) ≡ Some v → IsValue u v
    found [] v h e = absurd h
    found (w ∷ vs) v h e = is.there vs v h.1 e

    placed : (vs : List Value) (x : Value) → AreFields (field name t fs) vs → IsValue u x
        → AreFields (field name t fs) (set vs (suc k) x)
    placed [] x h f = absurd h
    placed (w ∷ vs) x h f = (h.0, is.put vs x h.1 f)

field_of : (fs : Fields) (name : List ℕ) (u : SszType) → field_type fs name ≡ Some u
    → IsFieldOf fs (field_number fs name) u
field_of no_fields name u e = absurd (none-some u e)
field_of (field other t fs) name u e = go (bytes_eq other name) (field_of fs name u) e
  where
    go : (b : Bool) → (field_type fs name ≡ Some u → IsFieldOf fs (field_number fs name) u)
        → cond b (Some t) (field_type fs name) ≡ Some u
        → IsFieldOf (field other t fs) (cond b 0 (suc (field_number fs name))) u
    go true rest e = subst (IsFieldOf (field other t fs) 0) (same_Some t u e) (first_of fs other t)
    go false rest e = later_of fs other t (field_number fs name) u (rest e)

-- elements that stand one by one

-- each part has the type that a step to it leads to, and another one of the type may stand there
pub record IsPartOfSeq (t u : SszType) (i : ℕ) (parts : Vec Value Global) : Type 0 where
  pub there : (v : Value) → slice_get parts.items i ≡ Some v → IsValue u v
  pub put : (x : Value) (new : Vec Value Global) → IsValue u x → new.items ≡ set parts.items i x
      → IsValue t (Seq new)

no_seq : (t : SszType) (parts : Vec Value Global)
    → (Fits t (sequence (values (map value_of parts.items))) → ⊥) → IsValue t (Seq parts) → ⊥
no_seq t parts never h = never (subst (Fits t) (seq_is parts) h.fits)

pub part_of_seq : (t u : SszType) (step : PathStep) (i : ℕ) (parts : Vec Value Global)
    → step_type t step ≡ Some u → numbered t step ≡ Index i → IsValue t (Seq parts)
    → IsPartOfSeq t u i parts
part_of_seq (container fs) u (Field name) i parts typed at h =
    let number : field_number fs name ≡ i = cc in
    let of = subst (λ k. IsFieldOf fs k u) number (field_of fs name u typed) in
    let all = seq_fields fs parts h in
    record {
      there = λ v e. of.there parts.items v all e;
      put = λ x new f is. seq_container fs new
          (subst (AreFields fs) (sym is) (of.put parts.items x all f));
    }
part_of_seq (vector elem n) u (Index j) i parts typed at h =
    let number : j ≡ i = cc in
    let same : elem ≡ u = (if_within j n elem u typed).1 in
    let held = vector_sequence elem n (Seq parts) h in
    let all = seq_elements elem parts held in
    record {
      there = λ v e. subst (λ s. IsValue s v) same (element_found elem parts.items i v all e);
      put = λ x new f is. vector_value elem n (Seq new)
          (omega (
            arith,
            seq_count new,
            seq_count parts,
            ap length is,
            length-set parts.items i x,
            vector_parts elem n (Seq parts) h,
          ))
          (seq_again elem parts new held (subst (AllByRecursion (IsValue elem)) (sym is)
          (set_all (IsValue elem) i parts.items x all (subst (λ s. IsValue s x) (sym same) f))));
    }
part_of_seq (list elem n) u (Index j) i parts typed at h =
    let number : j ≡ i = cc in
    let same : elem ≡ u = (if_within j n elem u typed).1 in
    let both = list_seq_parts elem n parts h in
    record {
      there = λ v e. subst (λ s. IsValue s v) same (element_found elem parts.items i v both.0 e);
      put = λ x new f is. list_seq elem n parts new h
          (subst (AllByRecursion (IsValue elem)) (sym is)
          (set_all (IsValue elem) i parts.items x both.0 (subst (λ s. IsValue s x) (sym same) f)))
          (omega (arith, ap length is, length-set parts.items i x, both.1));
    }
part_of_seq (list elem n) u Len i parts typed at h = absurd cc
part_of_seq (bitvector n) u (Index j) i parts typed at h =
    absurd (no_seq (bitvector n) parts (λ h. h) h)
part_of_seq (bitlist n) u step i parts typed at h =
    absurd (no_seq (bitlist n) parts (λ h. h) h)
part_of_seq (union os) u step i parts typed at h =
    absurd (no_seq (union os) parts (λ h. h) h)
part_of_seq _ u _ i parts typed at h = absurd (none-some u typed)

-- bytes

-- the part is a byte, and other bytes, as many, may stand in the place of these
pub record IsPartOfBytes (t u : SszType) (run : List ℕ) : Type 0 where
  pub byte : u ≡ uint W8
  pub bytes : AllBytes run
  pub put : (new : List ℕ) → AllBytes new → length new ≡ length run → IsValue t (Bytes new)

no_bytes : (t : SszType) (run : List ℕ)
    → (Fits t (sequence (values (map number run))) → ⊥) → IsValue t (Bytes run) → ⊥
no_bytes t run never h = never (subst (Fits t) (bytes_are run) h.fits)

pub part_of_bytes : (t u : SszType) (step : PathStep) (i : ℕ) (run : List ℕ)
    → step_type t step ≡ Some u → numbered t step ≡ Index i → IsValue t (Bytes run)
    → IsPartOfBytes t u run
part_of_bytes (container fs) u step i run typed at h = absurd (bytes_no_container fs run h)
part_of_bytes (vector elem n) u (Index j) i run typed at h =
    let held = vector_sequence elem n (Bytes run) h in
    record {
      byte = sym (if_within j n elem u typed).1 ∙ bytes_elements elem run held;
      bytes = bytes_within elem run held;
      put = λ new all many. vector_value elem n (Bytes new)
          (omega (arith, bytes_count new, bytes_count run, many, vector_parts elem n (Bytes run) h))
          (bytes_again elem run new held all);
    }
part_of_bytes (list elem n) u (Index j) i run typed at h =
    let both = list_bytes_parts elem n run h in
    record {
      byte = sym (if_within j n elem u typed).1
          ∙ bytes_elements elem run (list_sequence elem n (Bytes run) h);
      bytes = both.0;
      put = λ new all many. list_bytes elem n run new h all (omega (arith, many, both.1));
    }
part_of_bytes (list elem n) u Len i run typed at h = absurd cc
part_of_bytes (bitvector n) u (Index j) i run typed at h =
    absurd (no_bytes (bitvector n) run (λ h. h) h)
part_of_bytes (bitlist n) u step i run typed at h =
    absurd (no_bytes (bitlist n) run (λ h. h) h)
part_of_bytes (union os) u step i run typed at h =
    absurd (no_bytes (union os) run (λ h. h) h)
part_of_bytes _ u _ i run typed at h = absurd (none-some u typed)

-- bits

-- the part is a bit, and other bits, as many, may stand in the place of these
pub record IsPartOfBits (t u : SszType) (run : List Bool) : Type 0 where
  pub bit : u ≡ boolean
  pub put : (new : List Bool) → length new ≡ length run → IsValue t (Bits new)

no_bits : (t : SszType) (run : List Bool) → (Fits t (bits run) → ⊥) → IsValue t (Bits run) → ⊥
no_bits t run never h = never (subst (Fits t) (bits_are run) h.fits)

pub part_of_bits : (t u : SszType) (step : PathStep) (i : ℕ) (run : List Bool)
    → step_type t step ≡ Some u → numbered t step ≡ Index i → IsValue t (Bits run)
    → IsPartOfBits t u run
part_of_bits (bitvector n) u (Index j) i run typed at h = record {
  bit = sym (if_within j n boolean u typed).1;
  put = λ new many. record {
    fits = subst (Fits (bitvector n)) (sym (bits_are new))
        (many ∙ subst (Fits (bitvector n)) (bits_are run) h.fits);
    formed = tt;
  };
}
part_of_bits (bitlist n) u (Index j) i run typed at h = record {
  bit = sym (if_within j n boolean u typed).1;
  put = λ new many. list_bits n new (omega (arith, many, bitlist_few n run h));
}
part_of_bits (bitlist n) u Len i run typed at h = absurd cc
part_of_bits (container fs) u step i run typed at h =
    absurd (no_bits (container fs) run (λ h. h) h)
part_of_bits (vector elem n) u step i run typed at h =
    absurd (no_bits (vector elem n) run (λ h. h) h)
part_of_bits (list elem n) u step i run typed at h =
    absurd (no_bits (list elem n) run (λ h. h) h)
part_of_bits (union os) u step i run typed at h =
    absurd (no_bits (union os) run (λ h. h) h)
part_of_bits _ u _ i run typed at h = absurd (none-some u typed)

-- unions

-- what an option's number says: the option has the type
pub record IsOptionOf (os : Options) (k : ℕ) (u : SszType) : Type 0 where
  pub fits : (w : SszValue) → FitsOption os k w → Fits u w
  pub formed : (v : Value) → OptionFormed os k v → IsFormed u v
  pub fits_back : (w : SszValue) → Fits u w → FitsOption os k w
  pub formed_back : (v : Value) → IsFormed u v → OptionFormed os k v

pub option_of : (os : Options) (k : ℕ) (u : SszType) → option_type os k ≡ Some u → IsOptionOf os k u
option_of no_options k u e = absurd (none-some u e)
option_of (none_option os) zero u e = absurd (none-some u e)
option_of (option t os) zero u e = subst (IsOptionOf (option t os) 0) (same_Some t u e) (record {
  fits = λ w h. h;
  formed = λ v h. h;
  fits_back = λ w h. h;
  formed_back = λ v h. h;
})
option_of (none_option os) (suc k) u e =
    let of = option_of os k u e in
    record {
      fits = of.fits;
      formed = of.formed;
      fits_back = of.fits_back;
      formed_back = of.formed_back;
    }
option_of (option t os) (suc k) u e =
    let of = option_of os k u e in
    record {
      fits = of.fits;
      formed = of.formed;
      fits_back = of.fits_back;
      formed_back = of.formed_back;
    }

-- the inner value has the type, and another one of it may stand there
pub record IsPartOfUnion (t u : SszType) (k : ℕ) (part : Box Value Global) : Type 0 where
  pub there : IsValue u part.value
  pub put : (new : Box Value Global) → IsValue u new.value → IsValue t (Union k (Some new))

no_union : (t : SszType) (k : ℕ) (part : Box Value Global)
    → (Fits t (chosen k (value_of part.value)) → ⊥) → IsValue t (Union k (Some part)) → ⊥
no_union t k part never h = never (subst (Fits t) (chosen_is k part) h.fits)

pub part_of_union : (t u : SszType) (step : PathStep) (k : ℕ) (part : Box Value Global)
    → step_type t step ≡ Some u → numbered t step ≡ Chosen k → IsValue t (Union k (Some part))
    → IsPartOfUnion t u k part
part_of_union (union os) u (Chosen j) k part typed at h =
    let number : j ≡ k = cc in
    let of = subst (λ n. IsOptionOf os n u) number (option_of os j u typed) in
    record {
      there = record {
        fits = of.fits (value_of part.value) (subst (Fits (union os)) (chosen_is k part) h.fits);
        formed = of.formed part.value
            (subst (OfChosen (OptionFormed os)) (chosen_out k part) h.formed);
      };
      put = λ new f. record {
        fits = subst (Fits (union os)) (sym (chosen_is k new))
            (of.fits_back (value_of new.value) f.fits);
        formed = subst (OfChosen (OptionFormed os)) (sym (chosen_out k new))
            (of.formed_back new.value f.formed);
      };
    }
part_of_union (union os) u Selector k part typed at h = absurd cc
part_of_union (container fs) u step k part typed at h =
    absurd (no_union (container fs) k part (λ h. h) h)
part_of_union (vector elem n) u step k part typed at h =
    absurd (no_union (vector elem n) k part (λ h. h) h)
part_of_union (list elem n) u step k part typed at h =
    absurd (no_union (list elem n) k part (λ h. h) h)
part_of_union (bitvector n) u step k part typed at h =
    absurd (no_union (bitvector n) k part (λ h. h) h)
part_of_union (bitlist n) u step k part typed at h =
    absurd (no_union (bitlist n) k part (λ h. h) h)
part_of_union _ u _ k part typed at h = absurd (none-some u typed)

-- lengths and selectors

-- the part is there, a number of this type
pub record IsCount (at : PathStep) (u : SszType) (v : SszValue) : Type 0 where
  pub width : Width
  pub type : u ≡ uint width
  pub count : ℕ
  pub there : part_at at v ≡ Some (number count)

pub length_there : (t u : SszType) (step : PathStep) (v : SszValue) → step_type t step ≡ Some u
    → numbered t step ≡ Len → Fits t v → IsCount Len u v
length_there (list elem n) u Len (sequence vs) typed at h =
    record {
      width = W64;
      type = sym (same_Some _ u typed);
      count = length (items vs);
      there = refl;
    }
length_there (bitlist n) u Len (bits bs) typed at h =
    record { width = W64; type = sym (same_Some _ u typed); count = length bs; there = refl }
length_there (list elem n) u Len _ typed at h = absurd h
length_there (bitlist n) u Len _ typed at h = absurd h
length_there (list elem n) u (Index i) v typed at h = absurd cc
length_there (bitlist n) u (Index i) v typed at h = absurd cc
length_there (container fs) u (Field name) v typed at h = absurd cc
length_there (vector elem n) u (Index i) v typed at h = absurd cc
length_there (bitvector n) u (Index i) v typed at h = absurd cc
length_there (union os) u Selector v typed at h = absurd cc
length_there (union os) u (Chosen k) v typed at h = absurd cc
length_there _ u _ v typed at h = absurd (none-some u typed)

pub selector_there : (t u : SszType) (step : PathStep) (v : SszValue) → step_type t step ≡ Some u
    → numbered t step ≡ Selector → Fits t v → IsCount Selector u v
selector_there (union os) u Selector (chosen k v) typed at h =
    record { width = W8; type = sym (same_Some _ u typed); count = k; there = refl }
selector_there (union os) u Selector (chosen_none k) typed at h =
    record { width = W8; type = sym (same_Some _ u typed); count = k; there = refl }
selector_there (union os) u Selector _ typed at h = absurd h
selector_there (union os) u (Chosen k) v typed at h = absurd cc
selector_there (list elem n) u Len v typed at h = absurd cc
selector_there (bitlist n) u Len v typed at h = absurd cc
selector_there (list elem n) u (Index i) v typed at h = absurd cc
selector_there (bitlist n) u (Index i) v typed at h = absurd cc
selector_there (container fs) u (Field name) v typed at h = absurd cc
selector_there (vector elem n) u (Index i) v typed at h = absurd cc
selector_there (bitvector n) u (Index i) v typed at h = absurd cc
selector_there _ u _ v typed at h = absurd (none-some u typed)
