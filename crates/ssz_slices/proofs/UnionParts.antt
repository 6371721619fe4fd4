-- Steps into unions.
use Rattle.std.proofs.Common.{ℕ, zero, suc, ◌+◌, ◌*◌, ◌-◌, ◌≡◌, Bool, true, false, cond, eqb, eqb-true, ltb, List, [], ◌∷◌, length, slice_range, get_or, Some, None, refl, sym, ap, ◌∙◌, subst, arith}
use Rattle.std.proofs.lemmas.List.{take_rest}
use Rattle.ssz_schema.specs.format.Format.{Format}
use Rattle.ssz_schema.specs.declared.path.PathStep.TheVariants.{Selector, Option as Chosen}
use Rattle.ssz_schema.specs.width.Width.TheVariants.{W8}
use Rattle.ssz_schema.specs.Types.{SszType, Options, uint, union, no_options, none_option, option}
use Rattle.ssz_schema.specs.Legal.{IsLegal, AreLegalOptions}
use Rattle.ssz_schema.specs.Paths.{option_type}
use Rattle.ssz_schema.specs.Sizes.{option_count}
use Rattle.ssz_value.specs.Values.{SszValue, number, wide, truth, sequence, bits, chosen, chosen_none}
use Rattle.ssz_value.specs.Sizes.{size, option_size}
use Rattle.ssz_value.specs.Faults.{first_fault, option_fault}
use Rattle.ssz_value.specs.Reading.{value_in, option_in}
use Rattle.ssz_value.specs.Parts.{part_at}
use Rattle.ssz_value.proofs.Agree.{IsInput, right_length}
use Rattle.ssz_value.proofs.Cut.{chosen_none_of}
use Rattle.ssz_parts.proofs.Faultless.{anywhere}
use Rattle.ssz_slices.specs.declared.held.Held.TheVariants.{Bytes}
use Rattle.ssz_slices.specs.Place.{step_span}
use Rattle.ssz_slices.proofs.Leading.{IsPart, IsAnswer, size_is}

selector_span : (os : Options) (v : SszValue) → step_span (union os) v Selector ≡ Some (0, 1)
selector_span os (number n) = refl
selector_span os (wide b) = refl
selector_span os (truth b) = refl
selector_span os (sequence vs) = refl
selector_span os (bits bs) = refl
selector_span os (chosen k v) = refl
selector_span os (chosen_none k) = refl

-- what is read has the selector under which it is read
selector_read : (os : Options) (left k : ℕ) (b : List ℕ)
    → part_at Selector (option_in os left k b) ≡ Some (number k)
selector_read no_options left k b = refl
selector_read (none_option os) zero k b = refl
selector_read (option t os) zero k b = refl
selector_read (none_option os) (suc left) k b = selector_read os left k b
selector_read (option t os) (suc left) k b = selector_read os left k b

pub selector_leads : (os : Options) (b : List ℕ) → first_fault (union os) 0 b ≡ None
    → IsPart (union os) (uint W8) b Selector (Bytes 0 1)
selector_leads os [] h = cc
selector_leads os (k ∷ b) h =
    let one : number k ≡ number (k + 256 * 0) = ap number (omega arith) in
    record {
      part = selector_read os k k b ∙ ap Some one;
      span = selector_span os (option_in os k k b);
      holds = record {
        up = omega arith;
        inside = omega arith;
        faultless = right_length 1 0 (k ∷ []) refl;
      };
    }

-- another option than the one that is read
other_absent : (os : Options) (left k j : ℕ) (b : List ℕ) → eqb k j ≡ false
    → part_at (Chosen j) (option_in os left k b) ≡ None
other_absent no_options left k j b e = refl
other_absent (none_option os) zero k j b e = refl
other_absent (option t os) zero k j b e = ap (λ same. cond same (Some (value_in t b)) None) e
other_absent (none_option os) (suc left) k j b e = other_absent os left k j b e
other_absent (option t os) (suc left) k j b e = other_absent os left k j b e

-- an option of a type
record IsOptionOf (format : Format) (os : Options) (left k s : ℕ) (u : SszType) (b : List ℕ)
    : Type 0 where
  pub value : option_in os left k b ≡ chosen k (value_in u b)
  pub length : (v : SszValue) → option_size os left v ≡ size u v
  pub legal : IsLegal format u
  pub fault : option_fault os left s b ≡ first_fault u s b

option_of : (format : Format) (os : Options) (left k s : ℕ) (u : SszType) (b : List ℕ)
    → AreLegalOptions format os → option_type os left ≡ Some u
    → IsOptionOf format os left k s u b
option_of format no_options left k s u b legal e = cc
option_of format (none_option os) zero k s u b legal e = cc
option_of format (option t os) zero k s u b legal e =
    let type : t ≡ u = cc in
    record {
      value = ap (λ v. chosen k (value_in v b)) type;
      length = λ v. ap (λ w. size w v) type;
      legal = subst (IsLegal format) type legal.0;
      fault = ap (λ v. first_fault v s b) type;
    }
option_of format (none_option os) (suc left) k s u b legal e =
    let more = option_of format os left k s u b legal e in
    record { value = more.value; length = more.length; legal = more.legal; fault = more.fault }
option_of format (option t os) (suc left) k s u b legal e =
    let more = option_of format os left k s u b legal.1 e in
    record { value = more.value; length = more.length; legal = more.legal; fault = more.fault }

rest_is_input : (k : ℕ) (b : List ℕ) → IsInput (k ∷ b) → IsInput b
rest_is_input k b h = record { bytes = λ i. h.bytes (suc i); short = omega (arith, h.short) }

option_at : (format : Format) (os : Options) (k j : ℕ) (u : SszType) (b : List ℕ)
    → AreLegalOptions format os → IsInput (k ∷ b) → first_fault (union os) 0 (k ∷ b) ≡ None
    → option_type os j ≡ Some u → eqb k j ≡ true
    → IsPart (union os) u (k ∷ b) (Chosen j) (Bytes 1 (length (k ∷ b)))
option_at format os k j u b legal input h e same =
    let is : j ≡ k = sym (eqb-true k j same) in
    let found = option_of format os k k 1 u b legal (ap (option_type os) (sym is) ∙ e) in
    let rest : slice_range (k ∷ b) 1 (length (k ∷ b)) ≡ b = take_rest (k ∷ b) 1 in
    let within = chosen_none_of (ltb k (option_count os)) (option_fault os k 1 b) _ h in
    let inside = rest_is_input k b input in
    let none = anywhere format u found.legal 1 0 b inside (sym found.fault ∙ within.1) in
    let minus : length b ≡ length (k ∷ b) - 1 = omega arith in
    record {
      part = ap (part_at (Chosen j)) found.value
          ∙ ap (λ t. cond t (Some (value_in u b)) None) same
          ∙ ap (λ bytes. Some (value_in u bytes)) (sym rest);
      span = ap (λ v. step_span (union os) v (Chosen j)) found.value
          ∙ ap (λ n. Some (1, n)) (found.length (value_in u b)
          ∙ size_is format u found.legal 0 b inside none ∙ minus);
      holds = record {
        up = omega arith;
        inside = omega arith;
        faultless = ap (first_fault u 0) rest ∙ none;
      };
    }

pub option_leads : (format : Format) (os : Options) (j : ℕ) (u : SszType) (b : List ℕ)
    → AreLegalOptions format os → IsInput b → first_fault (union os) 0 b ≡ None
    → option_type os j ≡ Some u
    → IsAnswer (union os) u b (Chosen j)
    (cond (eqb (get_or b 0 0) j) (Some (Bytes 1 (length b))) None)
option_leads format os j u [] legal input h e = cc
option_leads format os j u (k ∷ b) legal input h e = go (eqb k j) refl
  where
    go : (same : Bool) → eqb k j ≡ same
        → IsAnswer (union os) u (k ∷ b) (Chosen j)
        (cond same (Some (Bytes 1 (length (k ∷ b)))) None)
    go true is = option_at format os k j u b legal input h e is
    go false is = other_absent os k k j b is
