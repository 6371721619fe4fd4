-- Bytes of the right number have no fault, where their type is plain.
use Rattle.std.proofs.Common.{ℕ, zero, suc, ◌+◌, ◌-◌, ◌*◌, ◌/◌, ◌%◌, ◌^◌, ◌<◌, ◌≤◌, ◌≡◌, true, List, ◌∷◌, length, replicate, drop, slice_range, Some, None, option_map, refl, sym, ap, ◌∙◌, arith, le-ltb, eqb-true, length-take, length-drop}
use Rattle.std.proofs.lemmas.Bool.{cond-false, lt-leb, and_parts}
use Rattle.ssz_schema.specs.Types.{SszType, Fields, uint, boolean, container, vector, list, bitvector, bitlist, union, no_fields, field}
use Rattle.ssz_schema.specs.Sizes.{byte_count, fixed_size, part_sizes, total_size}
use Rattle.ssz_bytes.specs.Bytes.{IsBytes, le_number}
use Rattle.ssz_bytes.proofs.Numbers.{le_number_lt, IsBytes-drop, IsBytes-take}
use Rattle.ssz_bytes.proofs.Bits.{power_of_bytes}
use Rattle.ssz_value.specs.Encoding.{heads_length}
use Rattle.ssz_value.specs.Faults.{first_fault, first_offset_fault, fields_fault, alike_fault, elements_fault, scopes}
use Rattle.ssz_value.proofs.Agree.{right_length, no_fault, same_some}
use Rattle.ssz_checking.specs.Plain.{has_plain_encoding, are_plain}
use Rattle.ssz_parts.proofs.ElementFaults.{head_fault-alike}

-- no bytes of its size have a fault
pub record IsClean (t : SszType) : Type 0 where
  pub size : ℕ
  pub fixed : fixed_size t ≡ Some size
  pub clean : (s : ℕ) (b : List ℕ) → IsBytes b → length b ≡ size → first_fault t s b ≡ None

pub record AreClean (fs : Fields) : Type 0 where
  pub size : ℕ
  pub fixed : total_size (part_sizes fs) ≡ Some size
  pub heads : heads_length (part_sizes fs) ≡ size
  pub first : (place end s : ℕ) (b : List ℕ) → length b ≤ end
      → first_offset_fault (part_sizes fs) place end s b ≡ None
  pub clean : (place s : ℕ) (b : List ℕ) → IsBytes b → place + size ≤ length b
      → fields_fault fs s (scopes (part_sizes fs) place b) ≡ None

pub range_bytes : (b : List ℕ) (from to : ℕ) → IsBytes b → IsBytes (slice_range b from to)
range_bytes b from to h = IsBytes-take (to - from) (drop from b) (IsBytes-drop from b h)

pub range_length : (b : List ℕ) (from size : ℕ) → from + size ≤ length b
    → length (slice_range b from (from + size)) ≡ size
range_length b from size h =
    omega (arith, length-take (from + size - from) (drop from b), length-drop from b)

clean_bits : (n : ℕ) → n % 8 ≡ 0 → IsClean (bitvector n)
clean_bits n whole = record {
  size = (n + 7) / 8;
  fixed = refl;
  clean = λ s b bytes e. (
      let room : 256 ^ length b ≡ 2 ^ n =
      power_of_bytes (length b) ∙ ap (λ k. 2 ^ k) (omega (arith, e, whole)) in
      let below : le_number b < 2 ^ n = omega (arith, le_number_lt b bytes, room) in
      no_fault _ _ (right_length ((n + 7) / 8) s b e)
      (cond-false _ _ _ (lt-leb (2 ^ n) (le_number b) below)));
}

clean_elements : (t : SszType) (z : ℕ)
    → ((s : ℕ) (b : List ℕ) → IsBytes b → length b ≡ z → first_fault t s b ≡ None)
    → (n place s : ℕ) (b : List ℕ) → IsBytes b → place + n * z ≤ length b
    → alike_fault (first_fault t) s (scopes (replicate n (Some z)) place b) ≡ None
clean_elements t z clean zero place s b bytes room = refl
clean_elements t z clean (suc n) place s b bytes room =
    no_fault _ _ (clean (s + place) (slice_range b place (place + z))
    (range_bytes b place (place + z) bytes) (range_length b place z (omega arith)))
    (clean_elements t z clean n (place + z) s b bytes (omega arith))

-- so many elements of a clean type have no fault
pub elements_clean : (t : SszType) (size count s : ℕ) (b : List ℕ) → IsClean t
    → fixed_size t ≡ Some size → IsBytes b → length b ≡ count * size
    → elements_fault (first_fault t) (Some size) count s b ≡ None
elements_clean t size count s b h fixed bytes e =
    let same : h.size ≡ size = same_some h.size size (sym h.fixed ∙ fixed) in
    let clean : (s : ℕ) (b : List ℕ) → IsBytes b → length b ≡ size → first_fault t s b ≡ None =
    λ s b bytes long. h.clean s b bytes (long ∙ sym same) in
    no_fault _ _ (head_fault-alike count size s b ∙ right_length (count * size) s b e)
    (clean_elements t size clean count 0 s b bytes (omega (arith, e)))

clean_vector : (t : SszType) (n : ℕ) → IsClean t → IsClean (vector t n)
clean_vector t n h = record {
  size = n * h.size;
  fixed = ap (option_map (λ z. n * z)) h.fixed;
  clean = λ s b bytes e. ap (λ size. elements_fault (first_fault t) size n s b) h.fixed
      ∙ elements_clean t h.size n s b h h.fixed bytes e;
}

clean_none : AreClean no_fields
clean_none = record {
  size = 0;
  fixed = refl;
  heads = refl;
  first = λ place end s b within. cond-false _ _ _ (le-ltb end (length b) within);
  clean = λ place s b bytes room. refl;
}

clean_field : (name : List ℕ) (t : SszType) (fs : Fields) → IsClean t → AreClean fs
    → AreClean (field name t fs)
clean_field name t fs h rest = record {
  size = h.size + rest.size;
  fixed = ap (λ size. total_size (size ∷ part_sizes fs)) h.fixed
      ∙ ap (option_map (λ n. h.size + n)) rest.fixed;
  heads = ap (λ size. heads_length (size ∷ part_sizes fs)) h.fixed
      ∙ ap (λ n. h.size + n) rest.heads;
  first = λ place end s b within.
      (ap (λ size. first_offset_fault (size ∷ part_sizes fs) place end s b) h.fixed
      ∙ rest.first (place + h.size) end s b within);
  clean = λ place s b bytes room. (
      ap (λ size. fields_fault (field name t fs) s (scopes (size ∷ part_sizes fs) place b)) h.fixed
      ∙ no_fault _ _ (h.clean (s + place) (slice_range b place (place + h.size))
      (range_bytes b place (place + h.size) bytes) (range_length b place h.size (omega arith)))
      (rest.clean (place + h.size) s b bytes (omega arith)));
}

clean_container : (fs : Fields) → AreClean fs → IsClean (container fs)
clean_container fs h = record {
  size = h.size;
  fixed = h.fixed;
  clean = λ s b bytes e. (
      no_fault _ _
      (cond-false _ _ _ (le-ltb (length b) (heads_length (part_sizes fs))
      (omega (arith, h.heads, e)))
      ∙ h.first 0 (heads_length (part_sizes fs)) s b (omega (arith, h.heads, e)))
      (h.clean 0 s b bytes (omega (arith, e))));
}

mutual
  pub clean_of : (t : SszType) → has_plain_encoding t ≡ true → IsClean t
  clean_of (uint w) e = record {
    size = byte_count w;
    fixed = refl;
    clean =
        λ s b bytes long. right_length (byte_count w) s b long;
  }
  clean_of boolean e = cc
  clean_of (container fs) e = clean_container fs (clean_fields fs e)
  clean_of (vector elem n) e = clean_vector elem n (clean_of elem e)
  clean_of (list elem limit) e = cc
  clean_of (bitvector n) e = clean_bits n (eqb-true (n % 8) 0 e)
  clean_of (bitlist limit) e = cc
  clean_of (union os) e = cc

  clean_fields : (fs : Fields) → are_plain fs ≡ true → AreClean fs
  clean_fields no_fields e = clean_none
  clean_fields (field name t fs) e = let parts =
      and_parts _ _ e in clean_field name t fs (clean_of t parts.0) (clean_fields fs parts.1)
