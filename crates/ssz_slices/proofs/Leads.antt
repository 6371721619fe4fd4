-- The part to which a step leads from bytes without a fault, for each type and step.
use Rattle.std.proofs.Common.{ℕ, ◌≡◌, cond, List, length, map, slice_get, is_some, Option, Some, None, refl, sym, ap, ◌∙◌, subst}
use Rattle.std.proofs.lemmas.List.{length-map}
use Rattle.ssz_schema.specs.format.Format.{Format}
use Rattle.ssz_schema.specs.declared.path.PathStep.{PathStep}
use Rattle.ssz_schema.specs.declared.path.PathStep.TheVariants.{Field, Index, Len, Selector, Option as Chosen}
use Rattle.ssz_schema.specs.width.Width.TheVariants.{W8, W64}
use Rattle.ssz_schema.specs.Types.{SszType, Fields, uint, boolean, container, vector, list, bitvector, bitlist, union}
use Rattle.ssz_schema.specs.Sizes.{fixed_size}
use Rattle.ssz_bytes.specs.Bytes.{le_number}
use Rattle.ssz_bytes.specs.Faults.{bitlist_length}
use Rattle.ssz_schema.specs.Legal.{IsLegal}
use Rattle.ssz_schema.specs.Paths.{step_type, field_type}
use Rattle.ssz_schema.proofs.PathLemmas.{if_within}
use Rattle.ssz_bytes.proofs.Bits.{length-bits_of_number}
use Rattle.ssz_value.specs.Values.{number, items, values}
use Rattle.ssz_value.specs.Faults.{first_fault, elements_fault, element_count, count_fault}
use Rattle.ssz_value.specs.Reading.{value_in, elements_in}
use Rattle.ssz_value.proofs.Agree.{IsInput, no_faults}
use Rattle.ssz_value.proofs.Sequences.{items-values}
use Rattle.ssz_parts.proofs.ElementLemmas.{length-elements_in}
use Rattle.ssz_slices.specs.declared.held.Held.{Held}
use Rattle.ssz_slices.specs.declared.held.Held.TheVariants.{Bytes, Bit, Count}
use Rattle.ssz_slices.specs.Place.{element_spans}
use Rattle.ssz_slices.specs.Held.{held_at_step}
use Rattle.ssz_slices.proofs.Leading.{IsPart, IsAnswer}
use Rattle.ssz_slices.proofs.Elements.{IsElement, element_leads}
use Rattle.ssz_slices.proofs.FieldParts.{field_leads}
use Rattle.ssz_slices.proofs.UnionParts.{selector_leads, option_leads}
use Rattle.ssz_slices.proofs.BitParts.{IsBit, bit_leads}

vector_step : (elem : SszType) (n i : ℕ) (b : List ℕ) (answer : Option Held)
    → IsElement elem n b i answer → IsAnswer (vector elem n) elem b (Index i) answer
vector_step elem n i b None is =
    ap (λ vs. slice_get vs i)
    (items-values (map (value_in elem) (elements_in (fixed_size elem) n b))) ∙ is
vector_step elem n i b (Some held) is =
    let same = items-values (map (value_in elem) (elements_in (fixed_size elem) n b)) in
    record {
      part = ap (λ vs. slice_get vs i) same ∙ is.part;
      span = ap (λ vs. slice_get (element_spans elem vs) i) same ∙ is.span;
      holds = is.holds;
    }

list_step : (elem : SszType) (limit i : ℕ) (b : List ℕ) (answer : Option Held)
    → IsElement elem (element_count (fixed_size elem) b) b i answer
    → IsAnswer (list elem limit) elem b (Index i) answer
list_step elem limit i b None is =
    ap (λ vs. slice_get vs i) (items-values (map (value_in elem)
    (elements_in (fixed_size elem) (element_count (fixed_size elem) b) b))) ∙ is
list_step elem limit i b (Some held) is =
    let same = items-values (map (value_in elem)
    (elements_in (fixed_size elem) (element_count (fixed_size elem) b) b)) in
    record {
      part = ap (λ vs. slice_get vs i) same ∙ is.part;
      span = ap (λ vs. slice_get (element_spans elem vs) i) same ∙ is.span;
      holds = is.holds;
    }

bitvector_step : (n i : ℕ) (b : List ℕ) (answer : Option Held) → IsBit n b i answer
    → IsAnswer (bitvector n) boolean b (Index i) answer
bitvector_step n i b None is = is
bitvector_step n i b (Some (Bit bit)) is = record { part = is; span = refl; holds = refl }
bitvector_step n i b (Some (Bytes from to)) is = absurd is
bitvector_step n i b (Some (Count m)) is = absurd is

bitlist_step : (limit i : ℕ) (b : List ℕ) (answer : Option Held)
    → IsBit (bitlist_length b) b i answer → IsAnswer (bitlist limit) boolean b (Index i) answer
bitlist_step limit i b None is = is
bitlist_step limit i b (Some (Bit bit)) is = record { part = is; span = refl; holds = refl }
bitlist_step limit i b (Some (Bytes from to)) is = absurd is
bitlist_step limit i b (Some (Count m)) is = absurd is

pub list_length : (elem : SszType) (b : List ℕ)
    → length (items (values (map (value_in elem)
    (elements_in (fixed_size elem) (element_count (fixed_size elem) b) b))))
    ≡ element_count (fixed_size elem) b
list_length elem b =
    let count = element_count (fixed_size elem) b in
    let bs = elements_in (fixed_size elem) count b in
    ap length (items-values (map (value_in elem) bs)) ∙ length-map bs (value_in elem)
    ∙ length-elements_in (fixed_size elem) count b

field_step : (fs : Fields) (name : List ℕ) (u : SszType) (b : List ℕ) (held : Held)
    → field_type fs name ≡ Some u → IsPart (container fs) u b (Field name) held
    → IsAnswer (container fs) u b (Field name)
    (cond (is_some (field_type fs name)) (Some held) None)
field_step fs name u b held e is =
    subst (λ o. IsAnswer (container fs) u b (Field name) (cond (is_some o) (Some held) None))
    (sym e) is

-- the answer of a step that fits is the part to which it leads
pub leads : (format : Format) (t u : SszType) (b : List ℕ) (step : PathStep) → IsLegal format t
    → IsInput b → first_fault t 0 b ≡ None → step_type t step ≡ Some u
    → IsAnswer t u b step (held_at_step t b step)
leads format (container fs) u b (Field name) legal input h e =
    field_step fs name u b _ e (field_leads format fs name u b legal.1 input h e)
leads format (vector elem n) u b (Index i) legal input h e =
    subst (λ v. IsAnswer (vector elem n) v b (Index i) (held_at_step (vector elem n) b (Index i)))
    (if_within i n elem u e).1
    (vector_step elem n i b _ (element_leads format elem legal.0 n i b input h))
leads format (list elem limit) u b (Index i) legal input h e =
    let both = no_faults (count_fault (fixed_size elem) limit 0 b)
    (elements_fault (first_fault elem) (fixed_size elem) (element_count (fixed_size elem) b) 0 b)
    h in
    subst (λ v. IsAnswer (list elem limit) v b (Index i)
    (held_at_step (list elem limit) b (Index i)))
    (if_within i limit elem u e).1
    (list_step elem limit i b _
    (element_leads format elem legal.0 (element_count (fixed_size elem) b) i b input both.1))
leads format (list elem limit) u b Len legal input h e =
    let type : u ≡ uint W64 = cc in
    record { part = ap (λ n. Some (number n)) (list_length elem b); span = refl; holds = type }
leads format (bitvector n) u b (Index i) legal input h e =
    subst (λ v. IsAnswer (bitvector n) v b (Index i) (held_at_step (bitvector n) b (Index i)))
    (if_within i n boolean u e).1 (bitvector_step n i b _ (bit_leads n i b))
leads format (bitlist limit) u b (Index i) legal input h e =
    subst (λ v. IsAnswer (bitlist limit) v b (Index i) (held_at_step (bitlist limit) b (Index i)))
    (if_within i limit boolean u e).1
    (bitlist_step limit i b _ (bit_leads (bitlist_length b) i b))
leads format (bitlist limit) u b Len legal input h e =
    let type : u ≡ uint W64 = cc in
    record {
      part = ap (λ n. Some (number n)) (length-bits_of_number (bitlist_length b) (le_number b));
      span = refl;
      holds = type;
    }
leads format (union os) u b Selector legal input h e =
    let type : uint W8 ≡ u = cc in
    subst (λ v. IsPart (union os) v b Selector (Bytes 0 1)) type (selector_leads os b h)
leads format (union os) u b (Chosen k) legal input h e =
    option_leads format os k u b legal.3 input h e
leads format (uint w) u b step legal input h e = cc
leads format boolean u b step legal input h e = cc
leads format (container fs) u b _ legal input h e = cc
leads format (vector elem n) u b _ legal input h e = cc
leads format (list elem limit) u b _ legal input h e = cc
leads format (bitvector n) u b _ legal input h e = cc
leads format (bitlist limit) u b _ legal input h e = cc
leads format (union os) u b _ legal input h e = cc
