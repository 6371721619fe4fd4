-- What is written at a place in room, and the lengths of what is to be written.
use Rattle.std.proofs.Common.{ℕ, zero, suc, ◌≡◌, ◌≤◌, ◌+◌, ◌-◌, ◌*◌, List, [], ◌∷◌, ◌++◌, length, map, take, drop, replicate, Option, Some, None, refl, sym, ap, subst, ◌∙◌, arith, length-append}
use Rattle.std.specs.List.{AllByRecursion}
use Rattle.std.proofs.Math.Seq.{take-length}
use Rattle.std.proofs.lemmas.List.{append-nil, length-map, length-take, length-drop, take-append-le}
use Rattle.ssz_schema.specs.Types.{SszType, Fields}
use Rattle.ssz_schema.specs.Sizes.{fixed_size, head_size, part_sizes}
use Rattle.ssz_schema.specs.format.Format.{Format}
use Rattle.ssz_schema.specs.Legal.{IsLegal, AreLegalFields}
use Rattle.ssz_value.specs.declared.value.Value.{Value}
use Rattle.ssz_value.specs.Standing.{value_of, IsValue}
use Rattle.ssz_bytes.specs.Bytes.{le_bytes}
use Rattle.ssz_value.specs.Encoding.{serialize, heads, bodies, heads_length, joined, joined_alike, field_encodings}
use Rattle.ssz_bytes.proofs.Numbers.{length-le_bytes}
use Rattle.ssz_parts.proofs.PartSizes.{heads_alike}
use Rattle.ssz_value.proofs.Cut.{AreParts, length-heads}
use Rattle.ssz_value.proofs.Sequences.{AreParts-alike}
use Rattle.ssz_value.proofs.ExactLaw.{agrees, fields_agree}
use Rattle.ssz_value.proofs.FitLemmas.{fit_fields}
use Rattle.ssz_value.proofs.FormLemmas.{all_fit}
use Rattle.ssz_value.specs.Shapes.{AreFields}
use Rattle.ssz_codec.specs.Writing.{WritesEncoding, PutsPart, Place}

-- room behind a place

take_both : (xs ys : List ℕ) (m : ℕ) → take (length xs + m) (xs ++ ys) ≡ xs ++ take m ys
take_both [] ys m = ap (λ k. take k ys) (omega arith)
take_both (x ∷ xs) ys m =
    let next : suc (length xs) + m ≡ suc (length xs + m) = omega arith in
    ap (λ k. take k (x ∷ xs ++ ys)) next ∙ ap (λ zs. x ∷ zs) (take_both xs ys m)

pub room_behind : (l : List ℕ) (at : ℕ) → length (take (length l - at) (drop at l)) ≡ length l - at
room_behind l at = omega (arith, length-take (length l - at) (drop at l), length-drop at l)

-- what is written at a place stands behind what was before it
pub written_at : (old sub post : List ℕ) (at n : ℕ) → at ≤ length old → n ≤ length sub
    → take (at + n) (take at old ++ (sub ++ post)) ≡ take at old ++ take n sub
written_at old sub post at n before fits =
    let here : length (take at old) ≡ at = omega (arith, length-take at old) in
    ap (λ m. take (m + n) (take at old ++ (sub ++ post))) (sym here)
    ∙ take_both (take at old) (sub ++ post) n
    ∙ ap (λ ys. take at old ++ ys) (take-append-le n sub post fits)

pub Writes-fits : (bytes room : List ℕ) (n : ℕ) → WritesEncoding bytes n room → n ≤ length room
Writes-fits bytes room n h = omega (arith, h.count, ap length h.bytes, length-take n room)

pub puts_fixed : (size : Option ℕ) (z n : ℕ) (bytes : List ℕ) (at : Place)
    (front back sub post : List ℕ) → size ≡ Some z → length bytes ≡ z → WritesEncoding bytes n sub
    → at.0 ≤ length front
    → PutsPart size bytes at (at.0 + n, at.1) front back (take at.0 front ++ (sub ++ post)) back
puts_fixed size z n bytes at front back sub post e sized h before =
    subst (λ (s : Option ℕ).
    PutsPart s bytes at (at.0 + n, at.1) front back (take at.0 front ++ (sub ++ post)) back)
    (sym e)
    (record {
      place = omega (arith, sized, h.count);
      end = omega arith;
      fixed = written_at front sub post at.0 n before (Writes-fits bytes sub n h)
          ∙ ap (λ ys. take at.0 front ++ ys) h.bytes;
      variable = sym (append-nil (take at.1 back));
    })

-- elements of one size have no variable parts
pub no_bodies : (n z : ℕ) (parts : List (List ℕ)) → bodies (replicate n (Some z)) parts ≡ []
no_bodies zero z parts = refl
no_bodies (suc n) z [] = refl
no_bodies (suc n) z (p ∷ parts) = no_bodies n z parts

-- what is written into a part leaves the length
pub length-put : (old sub : List ℕ) (at n : ℕ) → at ≤ length old
    → length sub ≡ length (take n (drop at old))
    → length (take at old ++ (sub ++ drop n (drop at old))) ≡ length old
length-put old sub at n before same =
    omega (
      arith,
      length-append (take at old) (sub ++ drop n (drop at old)),
      length-append sub (drop n (drop at old)),
      length-take at old,
      length-take n (drop at old),
      length-drop n (drop at old),
      length-drop at old,
      same,
    )

pub puts_variable : (size : Option ℕ) (n : ℕ) (bytes : List ℕ) (at : Place)
    (front back offset post sub end : List ℕ) → size ≡ None
    → offset ≡ le_bytes 4 (length front + at.1) → WritesEncoding bytes n sub → at.0 ≤ length front
    → at.1 ≤ length back
    → PutsPart size bytes at (at.0 + 4, at.1 + n) front back (take at.0 front ++ (offset ++ post))
    (take at.1 back ++ (sub ++ end))
puts_variable size n bytes at front back offset post sub end e is h before behind =
    let four : length offset ≡ 4 = ap length is ∙ length-le_bytes 4 (length front + at.1) in
    subst (λ (s : Option ℕ).
    PutsPart s bytes at (at.0 + 4, at.1 + n) front back (take at.0 front ++ (offset ++ post))
    (take at.1 back ++ (sub ++ end))) (sym e)
    (record {
      place = refl;
      end = omega (arith, h.count);
      fixed = written_at front offset post at.0 4 before (omega (arith, four))
          ∙ ap (λ ys. take at.0 front ++ ys) (ap (λ m. take m offset) (sym four)
          ∙ take-length offset ∙ is);
      variable = written_at back sub end at.1 n behind (Writes-fits bytes sub n h)
          ∙ ap (λ ys. take at.1 back ++ ys) h.bytes;
    })

-- lengths of what is to be written

pub joined_length : (sizes : List (Option ℕ)) (parts : List (List ℕ)) → AreParts sizes parts
    → length (joined sizes parts) ≡ heads_length sizes + length (bodies sizes parts)
joined_length sizes parts h =
    omega (
      arith,
      length-append (heads sizes parts (heads_length sizes))
          (bodies sizes parts),
      length-heads sizes parts (heads_length sizes) h,
    )

pub joined_elements : (t : SszType) (vs : List Value)
    → joined_alike (fixed_size t) (map (serialize t) (map value_of vs))
    ≡ joined (replicate (length vs) (fixed_size t)) (map (serialize t) (map value_of vs))
joined_elements t vs =
    ap (λ n. joined (replicate n (fixed_size t)) (map (serialize t) (map value_of vs)))
    (length-map (map value_of vs) (serialize t) ∙ length-map vs value_of)

pub elements_length : (format : Format) (t : SszType) (vs : List Value) → IsLegal format t
    → AllByRecursion (IsValue t) vs
    → length (joined_alike (fixed_size t) (map (serialize t) (map value_of vs)))
    ≡ length vs * head_size (fixed_size t) + length
    (bodies (replicate (length vs) (fixed_size t)) (map (serialize t) (map value_of vs)))
elements_length format t vs legal h =
    let count : length (map (serialize t) (map value_of vs)) ≡ length vs =
    length-map (map value_of vs) (serialize t) ∙ length-map vs value_of in
    let parts = subst (λ (n : ℕ).
    AreParts (replicate n (fixed_size t)) (map (serialize t) (map value_of vs))) count
    (AreParts-alike t (fixed_size t) (λ z v. (agrees format t legal).sized z v) (map value_of vs)
    (all_fit t vs h)) in
    ap length (joined_elements t vs)
    ∙ joined_length (replicate (length vs) (fixed_size t))
    (map (serialize t) (map value_of vs)) parts
    ∙ ap (λ n. n + length (bodies (replicate (length vs) (fixed_size t))
    (map (serialize t) (map value_of vs)))) (heads_alike (length vs) (fixed_size t))

pub fields_length : (format : Format) (fs : Fields) (vs : List Value) → AreLegalFields format fs
    → AreFields fs vs
    → length (joined (part_sizes fs) (field_encodings fs (map value_of vs)))
    ≡ heads_length (part_sizes fs) + length
    (bodies (part_sizes fs) (field_encodings fs (map value_of vs)))
fields_length format fs vs legal h =
    joined_length (part_sizes fs) (field_encodings fs (map value_of vs))
    ((fields_agree format fs legal).sized (map value_of vs) (fit_fields fs vs h))
