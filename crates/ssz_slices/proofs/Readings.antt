-- What bytes without a fault tell of the value that they encode.
use Rattle.std.proofs.Common.{ℕ, zero, suc, ◌≡◌, List, [], ◌∷◌, length, map, get_or, Some, None, ap, ◌∙◌, refl}
use Rattle.std.proofs.lemmas.List.{length-map}
use Rattle.ssz_bytes.specs.Bytes.{le_number}
use Rattle.ssz_bytes.specs.Faults.{bitlist_length}
use Rattle.ssz_schema.specs.Types.{SszType, Options, vector, list, bitvector, bitlist, union, no_options, none_option, option}
use Rattle.ssz_schema.specs.Sizes.{fixed_size}
use Rattle.ssz_bytes.proofs.Bits.{length-bits_of_number}
use Rattle.ssz_value.specs.Faults.{first_fault, element_count}
use Rattle.ssz_value.specs.Reading.{value_in, elements_in, option_in}
use Rattle.ssz_value.proofs.Sequences.{items-values}
use Rattle.ssz_parts.proofs.ElementLemmas.{length-elements_in}
use Rattle.ssz_slices.specs.Part.{part_len, selector_of}
use Rattle.ssz_slices.proofs.Leads.{list_length}

pub vector_len : (elem : SszType) (n : ℕ) (b : List ℕ)
    → part_len (vector elem n) (value_in (vector elem n) b) ≡ Some n
vector_len elem n b =
    let bs = elements_in (fixed_size elem) n b in
    ap Some (ap length (items-values (map (value_in elem) bs)) ∙ length-map bs (value_in elem)
    ∙ length-elements_in (fixed_size elem) n b)

pub list_len : (elem : SszType) (limit : ℕ) (b : List ℕ)
    → part_len (list elem limit) (value_in (list elem limit) b)
    ≡ Some (element_count (fixed_size elem) b)
list_len elem limit b = ap Some (list_length elem b)

pub bitvector_len : (n : ℕ) (b : List ℕ)
    → part_len (bitvector n) (value_in (bitvector n) b) ≡ Some n
bitvector_len n b = ap Some (length-bits_of_number n (le_number b))

pub bitlist_len : (limit : ℕ) (b : List ℕ)
    → part_len (bitlist limit) (value_in (bitlist limit) b) ≡ Some (bitlist_length b)
bitlist_len limit b = ap Some (length-bits_of_number (bitlist_length b) (le_number b))

selector_in : (all os : Options) (left k : ℕ) (b : List ℕ)
    → selector_of (union all) (option_in os left k b) ≡ Some k
selector_in all no_options left k b = refl
selector_in all (none_option os) zero k b = refl
selector_in all (option t os) zero k b = refl
selector_in all (none_option os) (suc left) k b = selector_in all os left k b
selector_in all (option t os) (suc left) k b = selector_in all os left k b

pub union_selector : (os : Options) (b : List ℕ) → first_fault (union os) 0 b ≡ None
    → selector_of (union os) (value_in (union os) b) ≡ Some (get_or b 0 0)
union_selector os [] h = cc
union_selector os (k ∷ b) h = selector_in os os k k b
