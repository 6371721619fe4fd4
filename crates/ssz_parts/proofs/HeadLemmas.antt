-- The head of fields: how long it is, and its first fault.
use Rattle.std.proofs.Common.{ℕ, ◌+◌, ◌^◌, ◌<◌, ◌≤◌, ◌≡◌, List, [], ◌∷◌, length, get_or, drop, Option, Some, None, refl, sym, ap, ◌∙◌, arith, le-ltb, lt-ltb, eq-eqb, eqb-true, eqb, ltb, cond}
use Rattle.std.proofs.lemmas.Bool.{cond-true, cond-false}
use Rattle.std.proofs.lemmas.List.{drop_all}
use Rattle.ssz_schema.specs.format.Format.{Format}
use Rattle.ssz_schema.specs.Types.{SszType, Fields, container, no_fields, field}
use Rattle.ssz_schema.specs.Sizes.{head_size, total_size, fixed_size, part_sizes, part_length, default_length, default_fields_length}
use Rattle.ssz_schema.specs.Legal.{IsLegal}
use Rattle.ssz_schema.specs.Unfolding.{fields_over}
use Rattle.ssz_schema.proofs.SizeLemmas.{default_length-fixed}
use Rattle.ssz_schema.proofs.WalkFields.{drop_at}
use Rattle.ssz_bytes.specs.declared.fault.Fault.{Fault}
use Rattle.ssz_value.specs.Encoding.{heads_length}
use Rattle.ssz_value.specs.Faults.{offset_at, head_fault, first_offset_fault, later_fault}
use Rattle.ssz_value.proofs.PartLemmas.{Part, sizes_of, size_at, sizes_from}
use Rattle.ssz_parts.specs.Heads.{offset_fault}
use Rattle.ssz_parts.proofs.OffsetLemmas.{first_found, found_in, none_in}
use Rattle.ssz_value.proofs.Cut.{chosen_none_of}
use Rattle.ssz_value.proofs.Agree.{no_some}
use Rattle.ssz_value.proofs.Sequences.{fixed_rest, total_size-heads}
use Rattle.ssz_value.specs.Faults.{length_fault}

first_fault-fixed : (sizes : List (Option ℕ)) (z : ℕ) → total_size sizes ≡ Some z
    → (place end s : ℕ) (b : List ℕ)
    → first_offset_fault sizes place end s b ≡ first_offset_fault [] place end s b
first_fault-fixed [] z e place end s b = refl
first_fault-fixed (None ∷ sizes) z e place end s b = absurd (no_some z e)
first_fault-fixed (Some y ∷ sizes) z e place end s b = let rest =
    fixed_rest y z (total_size sizes) e in
    first_fault-fixed sizes rest.0 rest.1 (place + y) end s b

-- where all parts are fixed-size, the head is their length
pub head_fault-fixed : (sizes : List (Option ℕ)) (z s : ℕ) (b : List ℕ) → total_size sizes ≡ Some z
    → head_fault sizes s b ≡ length_fault z s b
head_fault-fixed sizes z s b e =
    ap (λ rest. cond (ltb (length b) (heads_length sizes))
    (Some (record { code = 1; position = s })) rest)
    (first_fault-fixed sizes z e 0 (heads_length sizes) s b)
    ∙ ap (λ n. length_fault n s b) (total_size-heads sizes z e)

-- The head of fields, with the offset before, if there was one.
abbrev pub rest_fault : Option ℕ → List (Option ℕ) → ℕ → ℕ → ℕ → List ℕ → Option Fault
rest_fault None sizes place end s b = first_offset_fault sizes place end s b
rest_fault (Some before) sizes place end s b = later_fault sizes place before s b

-- fixed parts are no longer than the encoding of the default

head_default : (size : Option ℕ) (n : ℕ) → ((z : ℕ) → size ≡ Some z → n ≡ z)
    → head_size size ≤ part_length size n
head_default None n h = omega arith
head_default (Some z) n h = let is : n ≡ z = h z refl in omega arith

heads_default : (fs : Fields) → heads_length (part_sizes fs) ≤ default_fields_length fs
heads_default no_fields = omega arith
heads_default (field name t fs) =
    let first = head_default (fixed_size t) (default_length t) (default_length-fixed t) in
    let rest = heads_default fs in
    omega arith

-- those of a legal container are few
pub heads_few : (format : Format) (fs : Fields) → IsLegal format (container fs)
    → heads_length (part_sizes fs) < 2 ^ 32
heads_few format fs legal = omega (arith, heads_default fs, legal.3.default_length)

-- the fixed parts' lengths so far, and those of the fields from i on
pub record HeadSum (trees : List SszType) (fields : List Part) (i sum : ℕ) : Type 0 where
  pub all : sum + heads_length (part_sizes (fields_over trees (drop i fields)))
      ≡ heads_length (part_sizes (fields_over trees fields))

pub HeadSum-more : (trees : List SszType) (fields : List Part) (i sum : ℕ) (part : Part)
    → HeadSum trees fields i sum → i < length fields → part ≡ get_or fields i part
    → (sum + head_size (size_at trees part) ≤ heads_length
    (part_sizes (fields_over trees fields))) × HeadSum trees fields (i + 1)
    (sum + head_size (size_at trees part))
HeadSum-more trees fields i sum part h below e =
    let here : heads_length (part_sizes (fields_over trees (drop i fields)))
    ≡ head_size (size_at trees part) + heads_length
    (part_sizes (fields_over trees (drop (i + 1) fields))) =
    ap (λ fs. heads_length (part_sizes (fields_over trees fs))) (drop_at fields i part below e) in
    (omega (arith, h.all, here), record { all = omega (arith, h.all, here) })

pub HeadSum-end : (trees : List SszType) (fields : List Part) (i sum : ℕ)
    → HeadSum trees fields i sum → length fields ≤ i
    → sum ≡ heads_length (part_sizes (fields_over trees fields))
HeadSum-end trees fields i sum h all =
    omega (
      arith,
      h.all,
      ap (λ fs. heads_length (part_sizes (fields_over trees fs)))
          (drop_all i fields all),
    )

-- fixed parts that are longer than the bytes
pub head_short : (trees : List SszType) (parts : List Part) (s : ℕ) (b : List ℕ)
    → length b < heads_length (sizes_of trees parts)
    → head_fault (sizes_of trees parts) s b ≡ Some (record { code = 1; position = s })
head_short trees parts s b past =
    cond-true _ _ _ (lt-ltb (length b) (heads_length (sizes_of trees parts)) past)

-- from the part at i on the head has the fault of all
pub record HeadFrom (trees : List SszType) (parts : List Part) (s : ℕ) (b : List ℕ)
    (end i place : ℕ) (before : Option ℕ) : Type 0 where
  pub rest : rest_fault before (sizes_of trees (drop i parts)) place end s b
      ≡ head_fault (sizes_of trees parts) s b
  pub heads : place + heads_length (sizes_of trees (drop i parts)) ≤ end
  pub room : end ≤ length b

pub HeadFrom-start : (trees : List SszType) (parts : List Part) (s : ℕ) (b : List ℕ) (end : ℕ)
    → end ≡ heads_length (sizes_of trees parts) → end ≤ length b
    → HeadFrom trees parts s b end 0 0 None
HeadFrom-start trees parts s b end whole room = record {
  rest = ap (λ end. first_offset_fault (sizes_of trees parts) 0 end s b) whole
      ∙ sym (cond-false _ _ _ (le-ltb (length b) (heads_length (sizes_of trees parts))
      (omega (arith, room, whole))));
  heads = omega (arith, whole);
  room = room;
}

pub HeadFrom-fixed : (trees : List SszType) (parts : List Part) (s : ℕ) (b : List ℕ)
    (end i place : ℕ) (before : Option ℕ) (part : Part) (z : ℕ)
    → HeadFrom trees parts s b end i place before → i < length parts → part ≡ get_or parts i part
    → size_at trees part ≡ Some z
    → HeadFrom trees parts s b end (i + 1) (place + z) before
HeadFrom-fixed trees parts s b end i place before part z h below e size =
    let here : sizes_of trees (drop i parts) ≡ Some z ∷ sizes_of trees (drop (i + 1) parts) =
    sizes_from trees parts i part below e
    ∙ ap (λ s. s ∷ sizes_of trees (drop (i + 1) parts)) size in
    record {
      rest = same before (sizes_of trees (drop (i + 1) parts)) z
          ∙ sym (ap (λ sizes. rest_fault before sizes place end s b) here) ∙ h.rest;
      heads = omega (arith, h.heads, ap heads_length here);
      room = h.room;
    }
  where
    same : (before : Option ℕ) (sizes : List (Option ℕ)) (z : ℕ)
        → rest_fault before sizes (place + z) end s b
        ≡ rest_fault before (Some z ∷ sizes) place end s b
    same None sizes z = refl
    same (Some o) sizes z = refl

at_variable : (trees : List SszType) (parts : List Part) (i : ℕ) (part : Part) → i < length parts
    → part ≡ get_or parts i part → size_at trees part ≡ None
    → sizes_of trees (drop i parts) ≡ None ∷ sizes_of trees (drop (i + 1) parts)
at_variable trees parts i part below e size =
    sizes_from trees parts i part below e ∙ ap (λ s. s ∷ sizes_of trees (drop (i + 1) parts)) size

pub HeadFrom-room : (trees : List SszType) (parts : List Part) (s : ℕ) (b : List ℕ)
    (end i place : ℕ) (before : Option ℕ) (part : Part)
    → HeadFrom trees parts s b end i place before → i < length parts → part ≡ get_or parts i part
    → size_at trees part ≡ None → place + 4 ≤ length b
HeadFrom-room trees parts s b end i place before part h below e size =
    omega (arith, h.heads, h.room, ap heads_length (at_variable trees parts i part below e size))

-- the head from an offset on, by the fault of that offset
variable_fault : (before : Option ℕ) (sizes : List (Option ℕ)) (place end s found : ℕ) (b : List ℕ)
    (f : Fault) → found ≡ offset_at b place
    → offset_fault before end (length b) found (s + place) ≡ Some f
    → rest_fault before (None ∷ sizes) place end s b ≡ Some f
variable_fault None sizes place end s found b f is e =
    first_found (eqb (offset_at b place) end) _ _ f
    (sym (ap (λ o. offset_fault None end (length b) o (s + place)) is) ∙ e)
variable_fault (Some before) sizes place end s found b f is e =
    found_in (ltb (length b) (offset_at b place)) (ltb (offset_at b place) before) _ _ _ f
    (sym (ap (λ o. offset_fault (Some before) end (length b) o (s + place)) is) ∙ e)

variable_next : (before : Option ℕ) (sizes : List (Option ℕ)) (place end s found : ℕ) (b : List ℕ)
    → found ≡ offset_at b place
    → offset_fault before end (length b) found (s + place) ≡ None
    → rest_fault before (None ∷ sizes) place end s b ≡ later_fault sizes (place + 4) found s b
variable_next None sizes place end s found b is e =
    let none = sym (ap (λ o. offset_fault None end (length b) o (s + place)) is) ∙ e in
    let first : offset_at b place ≡ end =
    eqb-true _ _ (chosen_none_of (eqb (offset_at b place) end) _ _ none).0 in
    cond-true _ _ _ (eq-eqb (offset_at b place) end first)
    ∙ ap (λ o. later_fault sizes (place + 4) o s b) (sym (is ∙ first))
variable_next (Some before) sizes place end s found b is e =
    let none = sym (ap (λ o. offset_fault (Some before) end (length b) o (s + place)) is) ∙ e in
    none_in (ltb (length b) (offset_at b place)) (ltb (offset_at b place) before) _ _ _ none
    ∙ ap (λ o. later_fault sizes (place + 4) o s b) (sym is)

pub HeadFrom-found : (trees : List SszType) (parts : List Part) (s : ℕ) (b : List ℕ)
    (end i place found : ℕ) (before : Option ℕ) (part : Part) (f : Fault)
    → HeadFrom trees parts s b end i place before → i < length parts → part ≡ get_or parts i part
    → size_at trees part ≡ None
    → found ≡ offset_at b place → offset_fault before end (length b) found (s + place) ≡ Some f
    → head_fault (sizes_of trees parts) s b ≡ Some f
HeadFrom-found trees parts s b end i place found before part f h below e size is fault =
    sym h.rest ∙ ap (λ sizes. rest_fault before sizes place end s b)
    (at_variable trees parts i part below e size)
    ∙ variable_fault before (sizes_of trees (drop (i + 1) parts)) place end s found b f is fault

pub HeadFrom-next : (trees : List SszType) (parts : List Part) (s : ℕ) (b : List ℕ)
    (end i place found : ℕ) (before : Option ℕ) (part : Part)
    → HeadFrom trees parts s b end i place before → i < length parts → part ≡ get_or parts i part
    → size_at trees part ≡ None
    → found ≡ offset_at b place → offset_fault before end (length b) found (s + place) ≡ None
    → HeadFrom trees parts s b end (i + 1) (place + 4) (Some found)
HeadFrom-next trees parts s b end i place found before part h below e size is none =
    let here = at_variable trees parts i part below e size in
    record {
      rest = sym (variable_next before
          (sizes_of trees (drop (i + 1) parts)) place end s found b is none)
          ∙ sym (ap (λ sizes. rest_fault before sizes place end s b) here) ∙ h.rest;
      heads = omega (arith, h.heads, ap heads_length here);
      room = h.room;
    }

pub HeadFrom-end : (trees : List SszType) (parts : List Part) (s : ℕ) (b : List ℕ) (end i place : ℕ)
    (before : Option ℕ)
    → HeadFrom trees parts s b end i place before → length parts ≤ i
    → rest_fault before [] place end s b ≡ head_fault (sizes_of trees parts) s b
HeadFrom-end trees parts s b end i place before h all =
    sym (ap (λ ps. rest_fault before (sizes_of trees ps) place end s b) (drop_all i parts all))
    ∙ h.rest
