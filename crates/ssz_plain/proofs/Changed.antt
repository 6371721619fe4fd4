-- An edit along a path, at its first step.
use Rattle.std.proofs.Common.{ℕ, ◌≡◌, ◌<◌, ◌≤◌, Bool, true, false, List, [], ◌∷◌, length, set, get_or, slice_get, Vec, Global, Option, Some, None, option_map, Result, Ok, Err, refl, sym, ap, ap₂, subst, ◌∙◌, cond, eq-eqb}
use Rattle.std.specs.Prelude.{OnErr, IfSome, is_some, option_and_then}
use Rattle.std.specs.declared.boxed.Box.{Box}
use Rattle.std.proofs.lemmas.Option.{slice_get-get_or, slice_get_past}
use Rattle.std.proofs.Math.Seq.{map-set_same}
use Rattle.ssz_schema.specs.declared.path.PathStep.{PathStep}
use Rattle.ssz_schema.specs.declared.path.PathStep.TheVariants.{Index, Option as Chosen}
use Rattle.ssz_schema.specs.width.Width.{Width}
use Rattle.ssz_schema.specs.width.Width.TheVariants.{W8}
use Rattle.ssz_schema.specs.Types.{SszType, uint, boolean}
use Rattle.ssz_schema.specs.Unfolding.{Types}
use Rattle.ssz_schema.specs.Paths.{Path, path_type, step_type}
use Rattle.ssz_value.specs.declared.value.Value.{Value, out-Value}
use Rattle.ssz_value.specs.declared.value.Value.TheViews.{roll-Value, roll-out-Value}
use Rattle.ssz_value.specs.declared.value.Value.TheOpen.{Value-F, Uint as UintF, Wide as WideF, Bool as FlagF, Bytes as BytesF, Seq as SeqF, Bits as BitsF, Union as UnionF}
use Rattle.ssz_value.specs.declared.value.Value.TheVariants.{Bytes, Seq, Bits, Union, rolls-Uint, rolls-Wide, rolls-Bool, rolls-Bytes, rolls-Seq, rolls-Bits, rolls-Union}
use Rattle.ssz_value.specs.declared.edit_fault.EditFault.{EditFault}
use Rattle.ssz_value.specs.declared.edit_fault.EditFault.TheVariants.{BadPath, Absent, NotThat, Full, Empty, BadSelector, Memory}
use Rattle.ssz_value.specs.Values.{SszValue, number, truth, sequence, bits, values, chosen, Fits}
use Rattle.ssz_value.specs.Parts.{numbered, part_at}
use Rattle.ssz_value.specs.Edits.{Edited, given, replaced_at, replaced_in, changed, edited}
use Rattle.ssz_value.specs.Standing.{value_of, IsValue}
use Rattle.ssz_value.proofs.ValueLemmas.{uint_is, wide_is, flag_is, seq_is, bytes_are, bits_are, chosen_is}
use Rattle.ssz_plain.specs.declared.leading.Place.{Place}
use Rattle.ssz_plain.specs.declared.leading.Lead.{Lead}
use Rattle.ssz_plain.specs.Leading.{IsLead, LeadsBy, step_to}
use Rattle.ssz_plain.specs.declared.edit.Edit.{Edit}
use Rattle.ssz_plain.specs.declared.edit.Edit.TheVariants.{Set, Append, Pop, Choose}
use Rattle.ssz_plain.specs.Making.{edit_of, SuitsEdit, SuitsPath, refusal, ChangeTells, ChangeLeaves, EditsValue, put_at, new_byte, new_bit, value_number, truth_of}
use Rattle.ssz_plain.proofs.Alike.{turned, alike, tells_alike, may_want, item_alike, replaced_alike, put_alike}
use Rattle.ssz_plain.proofs.Endings.{number_misfits, truth_misfits}
use Rattle.ssz_plain.proofs.Forms.{each_bit, left_put}
use Rattle.ssz_plain.proofs.Made.{made_of}
use Rattle.ssz_plain.proofs.Steps.{part_of_seq, IsPartOfBytes, part_of_bytes, IsPartOfBits, part_of_bits, part_of_union, IsCount}

-- a refusal told
told_fault : {X : Type 0} (may : Bool) (fault : EditFault) (now : X) (changed : Result X EditFault)
    → changed ≡ Err fault → ChangeTells may (Err fault) now changed
told_fault false fault now changed e = e
told_fault true Memory now changed e = tt
told_fault true BadPath now changed e = e
told_fault true Absent now changed e = e
told_fault true NotThat now changed e = e
told_fault true Full now changed e = e
told_fault true Empty now changed e = e
told_fault true BadSelector now changed e = e

-- what is no union has no option
pub no_inner : (v : Value) (k : ℕ)
    → ((n : ℕ) (o : Option (Box Value Global)) → v ≡ Union n o → ⊥)
    → part_at (Chosen k) (value_of v) ≡ None
no_inner v k no_union = go (out-Value v) (roll-out-Value v)
  where
    go : (shape : Value-F Value) → roll-Value shape ≡ v → part_at (Chosen k) (value_of v) ≡ None
    go (UintF n) e = ap (λ w. part_at (Chosen k) (value_of w)) (sym e ∙ rolls-Uint n)
        ∙ ap (part_at (Chosen k)) (uint_is n)
    go (WideF chunk) e = ap (λ w. part_at (Chosen k) (value_of w)) (sym e ∙ rolls-Wide chunk)
        ∙ ap (part_at (Chosen k)) (wide_is chunk)
    go (FlagF b) e = ap (λ w. part_at (Chosen k) (value_of w)) (sym e ∙ rolls-Bool b)
        ∙ ap (part_at (Chosen k)) (flag_is b)
    go (BytesF run) e = ap (λ w. part_at (Chosen k) (value_of w)) (sym e ∙ rolls-Bytes run)
        ∙ ap (part_at (Chosen k)) (bytes_are run)
    go (SeqF parts) e = ap (λ w. part_at (Chosen k) (value_of w)) (sym e ∙ rolls-Seq parts)
        ∙ ap (part_at (Chosen k)) (seq_is parts)
    go (BitsF run) e = ap (λ w. part_at (Chosen k) (value_of w)) (sym e ∙ rolls-Bits run)
        ∙ ap (part_at (Chosen k)) (bits_are run)
    go (UnionF n o) e = absurd (no_union n o (sym e ∙ rolls-Union n o))

-- edits of a byte and of a bit

byte_edit : (edit : Edit) → SuitsEdit (uint W8) edit → (n : ℕ)
    → turned number (new_byte edit) ≡ edit_of edit (uint W8) (number n)
byte_edit (Set new) h n = ap (λ v. Ok v) (go (value_of new) h.fits)
  where
    go : (v : SszValue) → Fits (uint W8) v → number (value_number v) ≡ v
    go (number n) h = refl
    go _ h = absurd h
byte_edit (Append new) h n = refl
byte_edit Pop h n = refl
byte_edit (Choose k inner) h n = refl

byte_small : (edit : Edit) → SuitsEdit (uint W8) edit → (b : ℕ) → new_byte edit ≡ Ok b → b < 256
byte_small (Set new) h b e = go (value_of new) h.fits cc
  where
    go : (v : SszValue) → Fits (uint W8) v → value_number v ≡ b → b < 256
    go (number n) h same = subst (λ m. m < 256) same h
    go _ h same = absurd h
byte_small (Append new) h b e = absurd cc
byte_small Pop h b e = absurd cc
byte_small (Choose k inner) h b e = absurd cc

bit_edit : (edit : Edit) → SuitsEdit boolean edit → (b : Bool)
    → turned truth (new_bit edit) ≡ edit_of edit boolean (truth b)
bit_edit (Set new) h b = ap (λ v. Ok v) (go (value_of new) h.fits)
  where
    go : (v : SszValue) → Fits boolean v → truth (truth_of v) ≡ v
    go (truth b) h = refl
    go _ h = absurd h
bit_edit (Append new) h b = refl
bit_edit Pop h b = refl
bit_edit (Choose k inner) h b = refl

-- a number that cannot be changed alone is refused
number_refused : (edit : Edit) (w : Width) (n : ℕ) (at : PathStep) (v : SszValue)
    → ((x : SszValue) → replaced_at at v x ≡ Err NotThat)
    → replaced_in at v (edit_of edit (uint w) (number n)) ≡ Err NotThat
number_refused (Set new) w n at v refused = refused (value_of new)
number_refused (Append new) w n at v refused = refl
number_refused Pop w n at v refused = refl
number_refused (Choose k inner) w n at v refused = refl

-- a path that does not fit is refused first, whether the part is there or not
misfit_first : (at : PathStep) (whole : SszValue) (change : SszValue → Edited)
    (found : Option SszType) (there : Option SszValue)
    → cond (is_some found) (given there Absent (λ y. replaced_in at whole (change y)))
    (Err BadPath)
    ≡ given there (cond (is_some found) Absent BadPath)
    (λ y. replaced_in at whole (cond (is_some found) (change y) (Err BadPath)))
misfit_first at whole change (Some x) there = refl
misfit_first at whole change None (Some y) = refl
misfit_first at whole change None None = refl

count_refused : (edit : Edit) (w : Width) (n : ℕ) (at : PathStep) (v : SszValue)
    → ((x : SszValue) → replaced_at at v x ≡ Err NotThat) → (rest : Path)
    → replaced_in at v (edited (edit_of edit) (uint w) (number n) rest)
    ≡ Err (refusal (uint w) rest NotThat)
count_refused edit w n at v never [] = number_refused edit w n at v never
count_refused edit w n at v never (step ∷ rest) = refl

-- a path that does not fit
misfit : (may : Bool) (t : SszType) (edit : Edit) (v : Value) (path : Path)
    → path_type t path ≡ None → IsValue t v
    → EditsValue may t (edited (edit_of edit) t (value_of v) path) v v (Err BadPath)
misfit may t edit v path none value = record {
  fits = value;
  leaves = record {
    tells = told_fault may BadPath (value_of v) _
        (ap (λ o. cond (is_some o) (changed (edit_of edit) t (value_of v) path) (Err BadPath))
        none);
    kept = refl;
  };
}

module _ (t u : SszType) (edit : Edit) (v : Value) (step : PathStep) (rest path : Path)
    (at : PathStep) (path_is : path ≡ step ∷ rest) (typed : step_type t step ≡ Some u)
    (at_is : numbered t step ≡ at) (value : IsValue t v) (suits : SuitsPath t path edit) where
  -- what the edit of the part comes to for the whole
  abbrev onward : SszType → Path → SszValue → Edited
  onward s more whole = given (part_at at whole) (refusal s more Absent)
      (λ y. replaced_in at whole (edited (edit_of edit) s y more))

  fitting : path_type t path ≡ path_type u rest
  fitting = ap (path_type t) path_is ∙ ap (option_and_then (λ x. path_type x rest)) typed

  led : edited (edit_of edit) t (value_of v) path ≡ onward u rest (value_of v)
  led = ap (edited (edit_of edit) t (value_of v)) path_is
      ∙ ap (λ o. cond (is_some (option_and_then (λ x. path_type x rest) o))
      (given o BadPath (λ x. given (part_at (numbered t step) (value_of v)) Absent
      (λ y. replaced_in (numbered t step) (value_of v) (changed (edit_of edit) x y rest))))
      (Err BadPath)) typed
      ∙ ap (λ s. cond (is_some (path_type u rest)) (given (part_at s (value_of v)) Absent
      (λ y. replaced_in s (value_of v) (changed (edit_of edit) u y rest))) (Err BadPath)) at_is
      ∙ misfit_first at (value_of v) (λ y. changed (edit_of edit) u y rest) (path_type u rest)
      (part_at at (value_of v))

  -- the rest of the path leads on from the part
  pub onward_suits : SuitsPath u rest edit
  onward_suits = subst (λ o. IfSome o (λ x. SuitsEdit x edit)) fitting suits

  refused : (may : Bool) (fault : EditFault) → onward u rest (value_of v) ≡ Err fault
      → EditsValue may t (edited (edit_of edit) t (value_of v) path) v v (Err fault)
  refused may fault e = record {
    fits = value;
    leaves = record { tells = told_fault may fault (value_of v) _ (led ∙ e); kept = refl };
  }

  -- no part is there
  pub absent : (may : Bool) → part_at at (value_of v) ≡ None → (fault : EditFault)
      → fault ≡ refusal u rest Absent
      → EditsValue may t (edited (edit_of edit) t (value_of v) path) v v (Err fault)
  absent may none fault told = refused may fault (ap (λ o. given o (refusal u rest Absent)
      (λ y. replaced_in at (value_of v) (edited (edit_of edit) u y rest))) none
      ∙ ap (λ f. Err f) (sym told))

  -- a length or a selector
  pub counted : (may : Bool) → IsCount at u (value_of v)
      → ((x : SszValue) → replaced_at at (value_of v) x ≡ Err NotThat) → (fault : EditFault)
      → fault ≡ refusal u rest NotThat
      → EditsValue may t (edited (edit_of edit) t (value_of v) path) v v (Err fault)
  counted may is never fault told =
      refused may fault
      (ap (λ s. onward s rest (value_of v)) is.type
      ∙ ap (λ o. given o (refusal (uint is.width) rest Absent)
      (λ y. replaced_in at (value_of v) (edited (edit_of edit) (uint is.width) y rest))) is.there
      ∙ count_refused edit is.width is.count at (value_of v) never rest
      ∙ ap (λ s. Err (refusal s rest NotThat)) (sym is.type) ∙ ap (λ f. Err f) (sym told))

  -- the part is edited, and put in its place
  pub inner : (may : Bool) (w part left : Value) (answer : Result Unit EditFault)
      → part_at at (value_of v) ≡ Some (value_of part)
      → replaced_at at (value_of v) (value_of left) ≡ Ok (value_of w)
      → (value_of left ≡ value_of part → value_of w ≡ value_of v)
      → (IsValue u left → IsValue t w)
      → EditsValue may u (edited (edit_of edit) u (value_of part) rest) part left answer
      → EditsValue may t (edited (edit_of edit) t (value_of v) path) v w answer
  inner may w part left answer there placed same fits made = record {
    fits = fits made.fits;
    leaves = record {
      tells = subst (ChangeTells may answer (value_of w))
          (sym (led ∙ ap (λ o. given o (refusal u rest Absent)
          (λ y. replaced_in at (value_of v) (edited (edit_of edit) u y rest))) there))
          (tells_alike may answer (value_of left) (value_of w)
          (edited (edit_of edit) u (value_of part) rest) _
          (λ e. ap (replaced_in at (value_of v)) e ∙ placed)
          (λ fault e. ap (replaced_in at (value_of v)) e) made.leaves.tells);
      kept = kept answer made.leaves.kept;
    };
  }
    where
      kept : (answer : Result Unit EditFault) → OnErr answer (value_of left ≡ value_of part)
          → OnErr answer (value_of w ≡ value_of v)
      kept (Ok done) h = tt
      kept (Err fault) h = same h

  -- the part is an element of a run of which the value is made, edited where it stands
  in_run : {X : Type 0} (f : List X → SszValue) (to : X → SszValue) (may : Bool) (w : Value)
      (i : ℕ) (run left : List X) (new : Result X EditFault) (answer : Result Unit EditFault)
      (s : SszType) → at ≡ Index i → u ≡ s → rest ≡ []
      → part_at (Index i) (f run) ≡ option_map to (slice_get run i)
      → ((x : X) → replaced_at (Index i) (f run) (to x) ≡ Ok (f (set run i x)))
      → ((x : X) → turned to new ≡ edit_of edit s (to x))
      → value_of v ≡ f run → value_of w ≡ f left → IsValue t w
      → ChangeLeaves false (put_at i new run) run left answer
      → EditsValue may t (edited (edit_of edit) t (value_of v) path) v w answer
  in_run f to may w i run left new answer s index type end item replaced same is now fits leaves =
      subst (λ (e : Edited). EditsValue may t e v w answer)
      (sym (led ∙ ap₂ (λ x more. onward x more (value_of v)) type end))
      (made_of f may t v w run left (put_at i new run) (onward s []) answer is now
      (subst (λ (a : PathStep). turned f (put_at i new run) ≡ given (part_at a (f run)) Absent
      (λ y. replaced_in a (f run) (edit_of edit s y))) (sym index)
      (put_alike f to run i new (edit_of edit s) item replaced same)) fits
      (may_want may (put_at i new run) run left answer leaves))

module _ (t u : SszType) (edit : Edit) (v : Value) (step : PathStep) (rest path : Path)
    (i : ℕ) (path_is : path ≡ step ∷ rest) (typed : step_type t step ≡ Some u)
    (at_is : numbered t step ≡ Index i) (value : IsValue t v) (suits : SuitsPath t path edit) where
  -- a field or an element
  pub item_changed : (may : Bool) (w : Value) (parts new : Vec Value Global) (part left : Value)
      (answer : Result Unit EditFault) → v ≡ Seq parts → w ≡ Seq new → i < length parts.items
      → part ≡ get_or parts.items i part → new.items ≡ set parts.items i left
      → EditsValue may u (edited (edit_of edit) u (value_of part) rest) part left answer
      → EditsValue may t (edited (edit_of edit) t (value_of v) path) v w answer
  item_changed may w parts new part left answer is now inside there placed made =
      let was : value_of v ≡ alike value_of parts.items = ap value_of is ∙ seq_is parts in
      let after : value_of w ≡ alike value_of (set parts.items i left) =
      ap value_of now ∙ seq_is new ∙ ap (alike value_of) placed in
      let found : slice_get parts.items i ≡ Some part =
      slice_get-get_or parts.items i part inside ∙ ap (λ x. Some x) (sym there) in
      let of = part_of_seq t u step i parts typed at_is (subst (IsValue t) is value) in
      inner t u edit v step rest path (Index i) path_is typed at_is value suits may w part left
      answer
      (ap (part_at (Index i)) was ∙ item_alike value_of parts.items i
      ∙ ap (option_map value_of) found)
      (ap (λ y. replaced_at (Index i) y (value_of left)) was
      ∙ replaced_alike value_of parts.items i left ∙ ap (λ y. Ok y) (sym after))
      (λ same. after ∙ ap (λ vs. sequence (values vs))
      (map-set_same value_of parts.items i left part (same ∙ ap value_of there)) ∙ sym was)
      (λ f. subst (IsValue t) (sym now) (of.put left new f placed)) made

  -- no element is there
  pub item_absent : (may : Bool) (w : Value) (parts : Vec Value Global) → v ≡ Seq parts
      → w ≡ Seq parts → length parts.items ≤ i → (fault : EditFault) → fault ≡ refusal u rest Absent
      → EditsValue may t (edited (edit_of edit) t (value_of v) path) v w (Err fault)
  item_absent may w parts is now past fault told =
      subst (λ x. EditsValue may t (edited (edit_of edit) t (value_of v) path) v x (Err fault))
      (is ∙ sym now) (absent t u edit v step rest path (Index i) path_is typed at_is value suits may
      (ap (part_at (Index i)) (ap value_of is ∙ seq_is parts)
      ∙ item_alike value_of parts.items i
      ∙ ap (option_map value_of) (slice_get_past parts.items i past)) fault told)

  -- the part there is one of its type
  pub item_value : (parts : Vec Value Global) (part : Value) → v ≡ Seq parts
      → i < length parts.items → part ≡ get_or parts.items i part → IsValue u part
  item_value parts part is inside there =
      (part_of_seq t u step i parts typed at_is (subst (IsValue t) is value)).there part
      (slice_get-get_or parts.items i part inside ∙ ap (λ x. Some x) (sym there))

  module _ (run : List ℕ) (is : v ≡ Bytes run) where
    bytes_held : IsPartOfBytes t u run
    bytes_held = part_of_bytes t u step i run typed at_is (subst (IsValue t) is value)

    -- the path goes on below it
    pub byte_misfits : (may : Bool) (w : Value) → w ≡ Bytes run → 1 < length path
        → EditsValue may t (edited (edit_of edit) t (value_of v) path) v w (Err BadPath)
    byte_misfits may w now longer =
        subst (λ x. EditsValue may t (edited (edit_of edit) t (value_of v) path) v x (Err BadPath))
        (is ∙ sym now) (misfit may t edit v path
        (ap (path_type t) path_is ∙ ap (option_and_then (λ x. path_type x rest)) typed
        ∙ ap (λ s. path_type s rest) bytes_held.byte
        ∙ number_misfits W8 step rest (subst (λ p. 1 < length p) path_is longer)) value)

    pub byte_suits : rest ≡ [] → SuitsEdit (uint W8) edit
    byte_suits end = subst (λ o. IfSome o (λ x. SuitsEdit x edit))
        (ap₂ path_type bytes_held.byte end)
        (onward_suits t u edit v step rest path (Index i) path_is typed at_is value suits)

    pub byte_changed : rest ≡ [] → (may : Bool) (w : Value) (left : List ℕ)
        (answer : Result Unit EditFault)
        → w ≡ Bytes left → ChangeLeaves false (put_at i (new_byte edit) run) run left answer
        → EditsValue may t (edited (edit_of edit) t (value_of v) path) v w answer
    byte_changed end may w left answer now leaves =
        let kept = left_put (λ b. b < 256) i (new_byte edit) run left answer bytes_held.bytes
        (byte_small edit (byte_suits end)) leaves in
        in_run t u edit v step rest path (Index i) path_is typed at_is value suits (alike number)
        number may w i run left (new_byte edit) answer (uint W8) refl bytes_held.byte end
        (item_alike number run i) (replaced_alike number run i) (byte_edit edit (byte_suits end))
        (ap value_of is ∙ bytes_are run) (ap value_of now ∙ bytes_are left)
        (subst (IsValue t) (sym now) (bytes_held.put left kept.0 kept.1)) leaves

  module _ (run : List Bool) (is : v ≡ Bits run) where
    bits_held : IsPartOfBits t u run
    bits_held = part_of_bits t u step i run typed at_is (subst (IsValue t) is value)

    -- the path goes on below it
    pub bit_misfits : (may : Bool) (w : Value) → w ≡ Bits run → 1 < length path
        → EditsValue may t (edited (edit_of edit) t (value_of v) path) v w (Err BadPath)
    bit_misfits may w now longer =
        subst (λ x. EditsValue may t (edited (edit_of edit) t (value_of v) path) v x (Err BadPath))
        (is ∙ sym now) (misfit may t edit v path
        (ap (path_type t) path_is ∙ ap (option_and_then (λ x. path_type x rest)) typed
        ∙ ap (λ s. path_type s rest) bits_held.bit
        ∙ truth_misfits step rest (subst (λ p. 1 < length p) path_is longer)) value)

    pub bit_suits : rest ≡ [] → SuitsEdit boolean edit
    bit_suits end = subst (λ o. IfSome o (λ x. SuitsEdit x edit)) (ap₂ path_type bits_held.bit end)
        (onward_suits t u edit v step rest path (Index i) path_is typed at_is value suits)

    pub bit_changed : rest ≡ [] → (may : Bool) (w : Value) (left : List Bool)
        (answer : Result Unit EditFault)
        → w ≡ Bits left → ChangeLeaves false (put_at i (new_bit edit) run) run left answer
        → EditsValue may t (edited (edit_of edit) t (value_of v) path) v w answer
    bit_changed end may w left answer now leaves =
        let kept = left_put (λ _. Unit {0}) i (new_bit edit) run left answer (each_bit run)
        (λ b e. tt) leaves in
        in_run t u edit v step rest path (Index i) path_is typed at_is value suits bits truth may w
        i run left (new_bit edit) answer boolean refl bits_held.bit end refl (λ b. refl)
        (bit_edit edit (bit_suits end)) (ap value_of is ∙ bits_are run)
        (ap value_of now ∙ bits_are left)
        (subst (IsValue t) (sym now) (bits_held.put left kept.1)) leaves

-- the value of a union
module _ (t u : SszType) (edit : Edit) (v : Value) (step : PathStep) (rest path : Path)
    (k : ℕ) (path_is : path ≡ step ∷ rest) (typed : step_type t step ≡ Some u)
    (at_is : numbered t step ≡ Chosen k) (value : IsValue t v) (suits : SuitsPath t path edit) where
  pub inner_value : (part : Box Value Global) → v ≡ Union k (Some part) → IsValue u part.value
  inner_value part is =
      (part_of_union t u step k part typed at_is (subst (IsValue t) is value)).there

  pub inner_changed : (may : Bool) (w : Value) (part new : Box Value Global)
      (answer : Result Unit EditFault) → v ≡ Union k (Some part) → w ≡ Union k (Some new)
      → EditsValue may u (edited (edit_of edit) u (value_of part.value) rest) part.value new.value
      answer
      → EditsValue may t (edited (edit_of edit) t (value_of v) path) v w answer
  inner_changed may w part new answer is now made =
      let was : value_of v ≡ chosen k (value_of part.value) = ap value_of is ∙ chosen_is k part in
      let after : value_of w ≡ chosen k (value_of new.value) = ap value_of now ∙ chosen_is k new in
      let of = part_of_union t u step k part typed at_is (subst (IsValue t) is value) in
      inner t u edit v step rest path (Chosen k) path_is typed at_is value suits may w part.value
      new.value answer
      (ap (part_at (Chosen k)) was
      ∙ ap (λ b. cond b (Some (value_of part.value)) None) (eq-eqb k k refl))
      (ap (λ y. replaced_at (Chosen k) y (value_of new.value)) was ∙ ap (λ y. Ok y) (sym after))
      (λ same. after ∙ ap (chosen k) same ∙ sym was)
      (λ f. subst (IsValue t) (sym now) (of.put new f)) made

-- the step at the head of the path leads on
pub leads_by : (types : Types) (id : ℕ) (path : Path) (step : PathStep) (rest : Path)
    (lead : Lead) (place : Place) → path ≡ step ∷ rest → IsLead types id step lead
    → lead.place ≡ place → LeadsBy types id path lead.id place
leads_by types id path step rest lead place is led at = record {
  step = step;
  rest = rest;
  path_is = is;
  known = led.known;
  typed = led.typed;
  numbered = led.numbered ∙ ap step_to at;
}
