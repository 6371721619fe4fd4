-- Fields and elements that are numbers.
use Rattle.std.proofs.Common.{ℕ, ◌*◌, ◌/◌, ◌%◌, ◌≡◌, List, length, Option, Some, None, sym, ap, ◌∙◌, arith, eqb, eqb-true, refl, not, true, le-ltb, eq-eqb, ◌≤◌, ◌+◌, ◌<◌, get_or, drop, slice_range, subst}
use Rattle.std.proofs.lemmas.Bool.{not-false}
use Rattle.std.proofs.lemmas.Nat.{div-add-mod'}
use Rattle.ssz_schema.specs.Unfolding.{type_tree_at}
use Rattle.ssz_value.proofs.PartLemmas.{Part, sizes_of, size_at}
use Rattle.ssz_parts.specs.Ranges.{part_range}
use Rattle.ssz_parts.proofs.FieldLemmas.{FieldsFrom, FieldsFrom-more}
use Rattle.ssz_checking.proofs.RangeLemmas.{field_range}
use Rattle.ssz_bytes.specs.Bytes.{IsBytes}
use Rattle.ssz_schema.specs.width.Width.{Width}
use Rattle.ssz_schema.specs.Types.{SszType, uint, list}
use Rattle.ssz_schema.specs.Sizes.{byte_count, fixed_size, head_size}
use Rattle.ssz_value.specs.Faults.{first_fault, count_fault}
use Rattle.ssz_value.proofs.Agree.{no_fault, right_length, same_some}
use Rattle.ssz_value.proofs.Cut.{passes, passed}
use Rattle.ssz_value.proofs.FormLemmas.{byte_type}
use Rattle.ssz_value.specs.Standing.{is_byte}
use Rattle.ssz_schema.specs.width.Width.TheVariants.{W8}
use Rattle.ssz_checking.specs.Clean.{HasNoFault}
use Rattle.ssz_checking.proofs.PlainLemmas.{clean_of, elements_clean, range_length}

-- where its part lies
pub number_range : (trees : List SszType) (parts : List Part) (b : List ℕ) (i place : ℕ)
    (part : Part) (w : Width) → type_tree_at trees part.1 ≡ uint w
    → (place, place + byte_count w)
    ≡ part_range (size_at trees part) (sizes_of trees (drop (i + 1) parts)) place b
number_range trees parts b i place part w is =
    sym (ap (λ (t : SszType). part_range (fixed_size t)
    (sizes_of trees (drop (i + 1) parts)) place b) is)

-- it has no fault
pub FieldsFrom-number : (trees : List SszType) (parts : List Part) (s : ℕ) (b : List ℕ)
    (i place : ℕ) (part : Part) (w : Width) → FieldsFrom trees parts s b i place
    → i < length parts → part ≡ get_or parts i part → type_tree_at trees part.1 ≡ uint w
    → FieldsFrom trees parts s b (i + 1) (place + byte_count w)
FieldsFrom-number trees parts s b i place part w h below e is =
    let range = number_range trees parts b i place part w is in
    let room = (field_range trees parts s b i place place (place + byte_count w) part h below e
    range).1 in
    let whole = range_length b place (byte_count w) room in
    let clean : first_fault (type_tree_at trees part.1) (s + place)
    (slice_range b place (place + byte_count w)) ≡ None =
    ap (λ (t : SszType). first_fault t (s + place) (slice_range b place (place + byte_count w))) is
    ∙ right_length (byte_count w) (s + place) (slice_range b place (place + byte_count w)) whole in
    subst (λ (n : ℕ). FieldsFrom trees parts s b (i + 1) (place + n))
    (ap (λ (t : SszType). head_size (fixed_size t)) is)
    (FieldsFrom-more trees parts s b i place place (place + byte_count w) part h below e range
    clean)

-- numbers of a list have no fault where their number has none
list_clean : (w : Width) (limit s : ℕ) (b : List ℕ) → IsBytes b
    → count_fault (Some (byte_count w)) limit s b ≡ None
    → first_fault (list (uint w) limit) s b ≡ None
list_clean w limit s b bytes e =
    let z = byte_count w in
    let whole : length b % byte_count w ≡ 0 =
    eqb-true (length b % byte_count w) 0
    (not-false (eqb (length b % byte_count w) 0) (passes _ _ _ e).0) in
    let long : length b ≡ length b / byte_count w * byte_count w =
    omega (arith, div-add-mod' (length b) (byte_count w), whole) in
    no_fault _ _ e (elements_clean (uint w) (byte_count w) (length b / byte_count w) s b
    (clean_of (uint w) refl) refl bytes long)

pub numbers_list : (t : SszType) (w : Width) (size : Option ℕ) (limit s : ℕ) (b : List ℕ)
    → t ≡ uint w → size ≡ fixed_size t → IsBytes b → count_fault size limit s b ≡ None
    → first_fault (list t limit) s b ≡ None
numbers_list t w size limit s b is same bytes e =
    ap (λ (elem : SszType). first_fault (list elem limit) s b) is
    ∙ list_clean w limit s b bytes
    (ap (λ z. count_fault z limit s b) (sym (same ∙ ap fixed_size is)) ∙ e)

-- a number of the right size has no fault
pub number_clean : (t : SszType) (w : Width) (b : List ℕ) → t ≡ uint w
    → fixed_size t ≡ Some (length b) → HasNoFault t b
number_clean t w b is size s =
    ap (λ (ty : SszType). first_fault ty s b) is
    ∙ right_length (byte_count w) s b
    (same_some (length b) (byte_count w) (sym size ∙ ap fixed_size is))

-- nor have bytes that are not too many
pub bytes_list : (t : SszType) (limit : ℕ) (b : List ℕ) → is_byte t ≡ true → IsBytes b
    → length b ≤ limit → first_fault (list t limit) 0 b ≡ None
bytes_list t limit b e bytes few =
    let is : t ≡ uint W8 = byte_type t e in
    let whole : length b % 1 ≡ 0 = omega arith in
    let many : length b / 1 ≤ limit = omega (arith, few) in
    let size : Some 1 ≡ fixed_size t = sym (ap fixed_size is) in
    let none : count_fault (Some 1) limit 0 b ≡ None =
    passed _ _ _ (ap not (eq-eqb (length b % 1) 0 whole))
    (passed _ _ _ (le-ltb limit (length b / 1) many) refl) in
    numbers_list t W8 (Some 1) limit 0 b is size bytes none
