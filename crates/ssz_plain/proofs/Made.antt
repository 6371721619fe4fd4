-- Edits of a part that has no further steps before it.
use Rattle.std.proofs.Common.{ℕ, ◌≡◌, ◌<◌, ◌≤◌, Bool, true, false, cond, List, Vec, Global, Option, Some, None, option_map, Result, Ok, Err, refl, sym, ap, subst, ◌∙◌, le-ltb}
use Rattle.std.specs.declared.boxed.Box.{Box}
use Rattle.std.proofs.lemmas.Bool.{lt-ltb}
use Rattle.ssz_schema.specs.Types.{SszType, Options, list, bitlist, union}
use Rattle.ssz_schema.specs.Sizes.{option_count}
use Rattle.ssz_value.specs.declared.value.Value.{Value}
use Rattle.ssz_value.specs.declared.value.Value.TheVariants.{Bytes, Seq, Bits, Union}
use Rattle.ssz_value.specs.declared.edit_fault.EditFault.{EditFault}
use Rattle.ssz_value.specs.declared.edit_fault.EditFault.TheVariants.{BadSelector}
use Rattle.ssz_value.specs.Values.{SszValue, number, truth, bits, Fits}
use Rattle.ssz_value.specs.Standing.{value_of, OfChosen, OptionFormed, IsValue}
use Rattle.ssz_value.specs.Suiting.{IsInner}
use Rattle.ssz_value.specs.Edits.{Edited, with_more, with_less, with_choice, choice_of}
use Rattle.ssz_value.proofs.ValueLemmas.{seq_is, bytes_are, bits_are, chosen_is, chosen_none_is}
use Rattle.ssz_value.proofs.FormLemmas.{chosen_out, none_formed}
use Rattle.ssz_plain.specs.Making.{ChangeLeaves, EditsValue, one_more, one_less, unboxed}
use Rattle.ssz_plain.proofs.Alike.{turned, alike, leaves_turned, more_alike, more_bits, less_alike}
use Rattle.ssz_plain.proofs.Forms.{list_seq, list_bytes, list_bits, list_seq_parts, list_bytes_parts, bitlist_few, each_bit, left_more, left_less}

-- a change of a run is the edit of a value that is made of it
pub made_of : {X : Type 0} (f : List X → SszValue) (may : Bool) (t : SszType) (old new : Value)
    (run left : List X) (changed : Result (List X) EditFault) (edited : SszValue → Edited)
    (answer : Result Unit EditFault) → value_of old ≡ f run → value_of new ≡ f left
    → turned f changed ≡ edited (f run) → IsValue t new → ChangeLeaves may changed run left answer
    → EditsValue may t (edited (value_of old)) old new answer
made_of f may t old new run left changed edited answer is now same fits leaves = record {
  fits = fits;
  leaves = subst (λ (e : Edited). ChangeLeaves may e (value_of old) (value_of new) answer)
      (same ∙ ap edited (sym is))
      (subst (λ (v : SszValue). ChangeLeaves may (turned f changed) v (value_of new) answer)
      (sym is)
      (subst (λ (v : SszValue). ChangeLeaves may (turned f changed) (f run) v answer) (sym now)
      (leaves_turned f may changed run left answer leaves)));
}

module _ (t elem : SszType) (limit : ℕ) (form : list elem limit ≡ t) (v w : Value)
    (answer : Result Unit EditFault) (value : IsValue t v) where
  module _ (old new : Vec Value Global) (is : v ≡ Seq old) (now : w ≡ Seq new) where
    held : IsValue (list elem limit) (Seq old)
    held = subst (IsValue (list elem limit)) is (subst (λ s. IsValue s v) (sym form) value)

    -- a part less
    pub less_parts : ChangeLeaves false (one_less old.items) old.items new.items answer
        → EditsValue false t (with_less t (value_of v)) v w answer
    less_parts leaves =
        let left = left_less (IsValue elem) limit old.items new.items answer
        (list_seq_parts elem limit old held) leaves in
        made_of (alike value_of) false t v w old.items new.items (one_less old.items)
        (with_less t) answer (ap value_of is ∙ seq_is old) (ap value_of now ∙ seq_is new)
        (less_alike value_of elem limit old.items
        ∙ ap (λ s. with_less s (alike value_of old.items)) form)
        (subst (λ s. IsValue s w) form (subst (IsValue (list elem limit)) (sym now)
        (list_seq elem limit old new held left.0 left.1))) leaves

    -- a part more
    pub more_parts : (x : Value) → IsValue elem x
        → ChangeLeaves true (one_more limit x old.items) old.items new.items answer
        → EditsValue true t (with_more (value_of x) t (value_of v)) v w answer
    more_parts x fits leaves =
        let left = left_more (IsValue elem) limit x old.items new.items answer
        (list_seq_parts elem limit old held) fits leaves in
        made_of (alike value_of) true t v w old.items new.items (one_more limit x old.items)
        (with_more (value_of x) t) answer (ap value_of is ∙ seq_is old)
        (ap value_of now ∙ seq_is new)
        (more_alike value_of elem limit x old.items
        ∙ ap (λ s. with_more (value_of x) s (alike value_of old.items)) form)
        (subst (λ s. IsValue s w) form (subst (IsValue (list elem limit)) (sym now)
        (list_seq elem limit old new held left.0 left.1))) leaves

  module _ (old new : List ℕ) (is : v ≡ Bytes old) (now : w ≡ Bytes new) where
    run_held : IsValue (list elem limit) (Bytes old)
    run_held = subst (IsValue (list elem limit)) is (subst (λ s. IsValue s v) (sym form) value)

    -- a byte less
    pub less_bytes : ChangeLeaves false (one_less old) old new answer
        → EditsValue false t (with_less t (value_of v)) v w answer
    less_bytes leaves =
        let left = left_less (λ b. b < 256) limit old new answer
        (list_bytes_parts elem limit old run_held) leaves in
        made_of (alike number) false t v w old new (one_less old)
        (with_less t) answer (ap value_of is ∙ bytes_are old) (ap value_of now ∙ bytes_are new)
        (less_alike number elem limit old ∙ ap (λ s. with_less s (alike number old)) form)
        (subst (λ s. IsValue s w) form (subst (IsValue (list elem limit)) (sym now)
        (list_bytes elem limit old new run_held left.0 left.1))) leaves

    -- a byte more
    pub more_bytes : (x : Value) (b : ℕ) → value_of x ≡ number b → b < 256
        → ChangeLeaves true (one_more limit b old) old new answer
        → EditsValue true t (with_more (value_of x) t (value_of v)) v w answer
    more_bytes x b byte small leaves =
        let left = left_more (λ b. b < 256) limit b old new answer
        (list_bytes_parts elem limit old run_held) small leaves in
        made_of (alike number) true t v w old new (one_more limit b old)
        (with_more (value_of x) t) answer (ap value_of is ∙ bytes_are old)
        (ap value_of now ∙ bytes_are new)
        (more_alike number elem limit b old
        ∙ ap (λ s. with_more (number b) s (alike number old)) form
        ∙ ap (λ y. with_more y t (alike number old)) (sym byte))
        (subst (λ s. IsValue s w) form (subst (IsValue (list elem limit)) (sym now)
        (list_bytes elem limit old new run_held left.0 left.1))) leaves

-- a bit more
pub more_bit : (t : SszType) (limit : ℕ) → bitlist limit ≡ t → (v w : Value)
    (answer : Result Unit EditFault) → IsValue t v → (old new : List Bool) → v ≡ Bits old
    → w ≡ Bits new → (x : Value) (b : Bool) → value_of x ≡ truth b
    → ChangeLeaves true (one_more limit b old) old new answer
    → EditsValue true t (with_more (value_of x) t (value_of v)) v w answer
more_bit t limit form v w answer value old new is now x b bit leaves =
    let held : IsValue (bitlist limit) (Bits old) =
    subst (IsValue (bitlist limit)) is (subst (λ s. IsValue s v) (sym form) value) in
    let left = left_more (λ _. Unit {0}) limit b old new answer
    (each_bit old, bitlist_few limit old held) tt leaves in
    made_of bits true t v w old new (one_more limit b old) (with_more (value_of x) t) answer
    (ap value_of is ∙ bits_are old) (ap value_of now ∙ bits_are new)
    (more_bits limit b old ∙ ap (λ s. with_more (truth b) s (bits old)) form
    ∙ ap (λ y. with_more y t (bits old)) (sym bit))
    (subst (λ s. IsValue s w) form (subst (IsValue (bitlist limit)) (sym now)
    (list_bits limit new left.1))) leaves

-- a union has the option that is chosen
pub chosen_made : (t : SszType) (os : Options) → union os ≡ t → (k : ℕ)
    (inner : Option (Box Value Global)) (v : Value) → k < option_count os
    → IsInner t k (unboxed inner)
    → EditsValue false t (with_choice k (option_map value_of (unboxed inner)) t (value_of v)) v
    (Union k inner) (Ok tt)
chosen_made t os form k inner v room suits =
    subst (λ s. EditsValue false s
    (with_choice k (option_map value_of (unboxed inner)) s (value_of v)) v (Union k inner) (Ok tt))
    form (go inner (subst (λ s. IsInner s k (unboxed inner)) (sym form) suits))
  where
    made : (inner : Option (Box Value Global))
        → choice_of k (option_map value_of (unboxed inner)) ≡ value_of (Union k inner)
        → ChangeLeaves false (with_choice k (option_map value_of (unboxed inner)) (union os)
        (value_of v))
        (value_of v) (value_of (Union k inner)) (Ok tt)
    made inner e = record {
      tells = ap (λ b. cond b (Ok (choice_of k (option_map value_of (unboxed inner))))
          (Err BadSelector)) (lt-ltb k (option_count os) room) ∙ ap (λ w. Ok w) e;
      kept = tt;
    }

    go : (inner : Option (Box Value Global)) → IsInner (union os) k (unboxed inner)
        → EditsValue false (union os)
        (with_choice k (option_map value_of (unboxed inner)) (union os) (value_of v)) v
        (Union k inner) (Ok tt)
    go (Some part) h = record {
      fits = record {
        fits = subst (Fits (union os)) (sym (chosen_is k part)) (h room).0;
        formed = subst (OfChosen (OptionFormed os)) (sym (chosen_out k part)) (h room).1;
      };
      leaves = made (Some part) (sym (chosen_is k part));
    }
    go None h = record {
      fits = record {
        fits = subst (Fits (union os)) (sym (chosen_none_is k)) (h room);
        formed = none_formed os k;
      };
      leaves = made None (sym (chosen_none_is k));
    }

pub not_chosen : (t : SszType) (os : Options) → union os ≡ t → (k : ℕ)
    (inner : Option SszValue) (v : Value) → option_count os ≤ k → IsValue t v
    → EditsValue false t (with_choice k inner t (value_of v)) v v (Err BadSelector)
not_chosen t os form k inner v past value = record {
  fits = value;
  leaves = record {
    tells = ap (λ s. with_choice k inner s (value_of v)) (sym form)
        ∙ ap (λ b. cond b (Ok (choice_of k inner)) (Err BadSelector))
        (le-ltb k (option_count os) past);
    kept = refl;
  };
}
