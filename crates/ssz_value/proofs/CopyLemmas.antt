-- Copies, part by part.
use Rattle.std.proofs.Common.{ℕ, zero, suc, ◌≡◌, Bool, true, false, List, [], ◌∷◌, ◌++◌, map, Vec, Global, Some, refl, sym, ap, ap₂, subst, ◌∙◌}
use Rattle.std.specs.List.{AllByRecursion}
use Rattle.std.specs.declared.boxed.Box.{Box}
use Rattle.ssz_schema.specs.Types.{SszType, Fields, Options, uint, boolean, container, vector, list, bitvector, bitlist, union, no_fields, field, none_option, option}
use Rattle.ssz_value.specs.declared.value.Value.{Value, out-Value}
use Rattle.ssz_value.specs.declared.value.Value.TheVariants.{Seq, Union}
use Rattle.ssz_value.specs.Values.{chosen, sequence, values}
use Rattle.ssz_value.specs.Standing.{value_of, is_byte, AreFormed, IsFormed, OfParts, OfChosen, FieldsFormed, OptionFormed, IsCopy}
use Rattle.ssz_value.proofs.ValueLemmas.{seq_is, chosen_is}
use Rattle.ssz_value.proofs.FormLemmas.{seq_out, chosen_out}

-- copies, one for each value
abbrev pub AreCopies : List Value → List Value → Type 0
AreCopies [] [] = Unit {0}
AreCopies (v ∷ vs) (w ∷ ws) = IsCopy v w × AreCopies vs ws
AreCopies _ _ = ⊥

pub AreCopies-push : (vs ws : List Value) (v w : Value) → AreCopies vs ws → IsCopy v w
    → AreCopies (vs ++ v ∷ []) (ws ++ w ∷ [])
AreCopies-push [] [] v w all h = (h, tt)
AreCopies-push [] (y ∷ ws) v w all h = absurd all
AreCopies-push (x ∷ vs) [] v w all h = absurd all
AreCopies-push (x ∷ vs) (y ∷ ws) v w all h = (all.0, AreCopies-push vs ws v w all.1 h)

copies_value : (vs ws : List Value) → AreCopies vs ws → map value_of ws ≡ map value_of vs
copies_value [] [] h = refl
copies_value [] (w ∷ ws) h = absurd h
copies_value (v ∷ vs) [] h = absurd h
copies_value (v ∷ vs) (w ∷ ws) h = ap₂ (λ x xs. x ∷ xs) h.0.value (copies_value vs ws h.1)

copies_all : (t : SszType) (vs ws : List Value) → AreCopies vs ws → AllByRecursion (IsFormed t) vs
    → AllByRecursion (IsFormed t) ws
copies_all t [] [] h all = tt
copies_all t [] (w ∷ ws) h all = absurd h
copies_all t (v ∷ vs) [] h all = absurd h
copies_all t (v ∷ vs) (w ∷ ws) h all = (h.0.formed t all.0, copies_all t vs ws h.1 all.1)

copies_fields : (fs : Fields) (vs ws : List Value) → AreCopies vs ws → FieldsFormed fs vs
    → FieldsFormed fs ws
copies_fields no_fields [] [] h all = tt
copies_fields no_fields [] (w ∷ ws) h all = absurd h
copies_fields no_fields (v ∷ vs) [] h all = absurd h
copies_fields no_fields (v ∷ vs) (w ∷ ws) h all = tt
copies_fields (field name t fs) [] [] h all = tt
copies_fields (field name t fs) [] (w ∷ ws) h all = absurd h
copies_fields (field name t fs) (v ∷ vs) [] h all = absurd h
copies_fields (field name t fs) (v ∷ vs) (w ∷ ws) h all =
    (h.0.formed t all.0, copies_fields fs vs ws h.1 all.1)

alike_copies : (byte : Bool) (t : SszType) (vs ws : Vec Value Global) → AreCopies vs.items ws.items
    → AreFormed byte (IsFormed t) (out-Value (Seq vs))
    → AreFormed byte (IsFormed t) (out-Value (Seq ws))
alike_copies true t vs ws h all = absurd (subst (AreFormed true (IsFormed t)) (seq_out vs) all)
alike_copies false t vs ws h all =
    subst (AreFormed false (IsFormed t)) (sym (seq_out ws))
    (copies_all t vs.items ws.items h (subst (AreFormed false (IsFormed t)) (seq_out vs) all))

seq_copy_formed : (t : SszType) (vs ws : Vec Value Global) → AreCopies vs.items ws.items
    → IsFormed t (Seq vs) → IsFormed t (Seq ws)
seq_copy_formed (uint w) vs ws h all = tt
seq_copy_formed boolean vs ws h all = tt
seq_copy_formed (container fs) vs ws h all =
    subst (OfParts (FieldsFormed fs)) (sym (seq_out ws))
    (copies_fields fs vs.items ws.items h (subst (OfParts (FieldsFormed fs)) (seq_out vs) all))
seq_copy_formed (vector t n) vs ws h all = alike_copies (is_byte t) t vs ws h all
seq_copy_formed (list t n) vs ws h all = alike_copies (is_byte t) t vs ws h all
seq_copy_formed (bitvector n) vs ws h all = tt
seq_copy_formed (bitlist n) vs ws h all = tt
seq_copy_formed (union os) vs ws h all = subst (OfChosen (OptionFormed os)) (sym (seq_out ws)) tt

pub seq_copy : (vs ws : Vec Value Global) → AreCopies vs.items ws.items → IsCopy (Seq vs) (Seq ws)
seq_copy vs ws h = record {
  value = seq_is ws ∙ ap (λ xs. sequence (values xs)) (copies_value vs.items ws.items h)
      ∙ sym (seq_is vs);
  formed = λ t all. seq_copy_formed t vs ws h all;
}

pub option_copy : (os : Options) (k : ℕ) (v w : Value) → IsCopy v w → OptionFormed os k v
    → OptionFormed os k w
option_copy (option t os) zero v w h all = h.formed t all
option_copy (option t os) (suc k) v w h all = option_copy os k v w h all
option_copy (none_option os) (suc k) v w h all = option_copy os k v w h all
option_copy (none_option os) zero v w h all = tt
option_copy _ k v w h all = tt

chosen_copy_formed : (t : SszType) (k : ℕ) (v w : Box Value Global) → IsCopy v.value w.value
    → IsFormed t (Union k (Some v)) → IsFormed t (Union k (Some w))
chosen_copy_formed (uint width) k v w h all = tt
chosen_copy_formed boolean k v w h all = tt
chosen_copy_formed (container fs) k v w h all =
    absurd (subst (OfParts (FieldsFormed fs)) (chosen_out k v) all)
chosen_copy_formed (vector t n) k v w h all = no (is_byte t) t k v all
  where
    no : {W : Type 0} (byte : Bool) (t : SszType) (k : ℕ) (v : Box Value Global)
        → AreFormed byte (IsFormed t) (out-Value (Union k (Some v))) → W
    no true t k v all = absurd (subst (AreFormed true (IsFormed t)) (chosen_out k v) all)
    no false t k v all = absurd (subst (AreFormed false (IsFormed t)) (chosen_out k v) all)
chosen_copy_formed (list t n) k v w h all = no (is_byte t) t k v all
  where
    no : {W : Type 0} (byte : Bool) (t : SszType) (k : ℕ) (v : Box Value Global)
        → AreFormed byte (IsFormed t) (out-Value (Union k (Some v))) → W
    no true t k v all = absurd (subst (AreFormed true (IsFormed t)) (chosen_out k v) all)
    no false t k v all = absurd (subst (AreFormed false (IsFormed t)) (chosen_out k v) all)
chosen_copy_formed (bitvector n) k v w h all = tt
chosen_copy_formed (bitlist n) k v w h all = tt
chosen_copy_formed (union os) k v w h all =
    subst (OfChosen (OptionFormed os)) (sym (chosen_out k w))
    (option_copy os k v.value w.value h
    (subst (OfChosen (OptionFormed os)) (chosen_out k v) all))

pub chosen_copy : (k : ℕ) (v w : Box Value Global) → IsCopy v.value w.value
    → IsCopy (Union k (Some v)) (Union k (Some w))
chosen_copy k v w h = record {
  value = chosen_is k w ∙ ap (chosen k) h.value ∙ sym (chosen_is k v);
  formed = λ t all. chosen_copy_formed t k v w h all;
}

pub same_copy : (v w : Value) → v ≡ w → IsCopy v w
same_copy v w e = record { value = sym (ap value_of e); formed = λ t h. subst (IsFormed t) e h }
