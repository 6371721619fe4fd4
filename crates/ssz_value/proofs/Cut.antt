-- Parts that are joined and cut again, and bytes that are cut and joined again.
use Rattle.std.proofs.Common.{ℕ, ◌+◌, ◌-◌, ◌^◌, ◌<◌, ◌≤◌, ◌≡◌, Bool, true, false, cond, eqb, ltb, List, [], ◌∷◌, ◌++◌, length, take, drop, slice_range, Option, Some, None, refl, sym, ap, ap₂, ◌∙◌, subst, arith, length-append, append_assoc, length-drop, take-append-drop, drop-drop, take-add, length-take-le, take_at, drop_at, ltb-false, le-ltb, eqb-true, eq-eqb}
use Rattle.std.proofs.lemmas.List.{drop_all}
use Rattle.std.proofs.lemmas.Bool.{cond-true}
use Rattle.ssz_bytes.specs.declared.fault.Fault.{Fault}
use Rattle.ssz_bytes.specs.Bytes.{IsBytes, le_bytes, le_number}
use Rattle.ssz_value.specs.Encoding.{heads_length, heads, bodies, joined}
use Rattle.ssz_value.specs.Faults.{offset_at, next_offset, later_fault, first_offset_fault, head_fault, scopes, scope_bytes}
use Rattle.ssz_bytes.proofs.Numbers.{le_number-le_bytes, le_bytes_of, IsBytes-drop, IsBytes-take}

-- a part for each size, as long as a fixed size says
abbrev pub AreParts : List (Option ℕ) → List (List ℕ) → Type 0
AreParts [] [] = Unit {0}
AreParts (Some z ∷ sizes) (p ∷ parts) = (length p ≡ z) × AreParts sizes parts
AreParts (None ∷ sizes) (p ∷ parts) = AreParts sizes parts
AreParts _ _ = ⊥

pub length-heads : (sizes : List (Option ℕ)) (parts : List (List ℕ)) (offset : ℕ)
    → AreParts sizes parts → length (heads sizes parts offset) ≡ heads_length sizes
length-heads [] [] offset h = refl
length-heads [] (p ∷ parts) offset h = absurd h
length-heads (Some z ∷ sizes) [] offset h = absurd h
length-heads (None ∷ sizes) [] offset h = absurd h
length-heads (Some z ∷ sizes) (p ∷ parts) offset h =
    length-append p (heads sizes parts offset) ∙ ap₂ ◌+◌ h.0 (length-heads sizes parts offset h.1)
length-heads (None ∷ sizes) (p ∷ parts) offset h =
    length-append (le_bytes 4 offset) (heads sizes parts (offset + length p))
    ∙ ap (λ n. 4 + n) (length-heads sizes parts (offset + length p) h)

-- In these bytes the fixed parts stand at place, and the variable parts, to the end, at offset.
pub record Stands (sizes : List (Option ℕ)) (parts : List (List ℕ)) (place offset : ℕ)
    (b : List ℕ) : Type 0 where
  pub tail : List ℕ
  pub at_place : drop place b ≡ heads sizes parts offset ++ tail
  pub at_offset : drop offset b ≡ bodies sizes parts
  pub inside : offset ≤ length b

fixed_stands : (z : ℕ) (sizes : List (Option ℕ)) (p : List ℕ) (parts : List (List ℕ))
    (place offset : ℕ) (b : List ℕ) → length p ≡ z
    → Stands (Some z ∷ sizes) (p ∷ parts) place offset b → Stands sizes parts (place + z) offset b
fixed_stands z sizes p parts place offset b e h = record {
  tail = h.tail;
  at_place = sym (drop-drop z place b)
      ∙ ap (drop z) (h.at_place ∙ append_assoc p (heads sizes parts offset) h.tail)
      ∙ drop_at p (heads sizes parts offset ++ h.tail) z e;
  at_offset = h.at_offset;
  inside = h.inside;
}

pub variable_stands : (sizes : List (Option ℕ)) (p : List ℕ) (parts : List (List ℕ))
    (place offset : ℕ) (b : List ℕ) → Stands (None ∷ sizes) (p ∷ parts) place offset b
    → Stands sizes parts (place + 4) (offset + length p) b
variable_stands sizes p parts place offset b h = record {
  tail = h.tail;
  at_place = sym (drop-drop 4 place b) ∙ ap (drop 4) h.at_place;
  at_offset = sym (drop-drop (length p) offset b) ∙ ap (drop (length p)) h.at_offset
      ∙ drop_at p (bodies sizes parts) (length p) refl;
  inside = omega (
    arith,
    h.inside,
    ap length h.at_offset,
    length-append p
        (bodies sizes parts),
    length-drop offset b,
  );
}

pub offset_stands : (sizes : List (Option ℕ)) (p : List ℕ) (parts : List (List ℕ))
    (place offset : ℕ) (b : List ℕ) → length b < 2 ^ 32
    → Stands (None ∷ sizes) (p ∷ parts) place offset b → offset_at b place ≡ offset
offset_stands sizes p parts place offset b small h =
    let below : offset < 256 ^ 4 = omega (arith, h.inside) in
    ap (λ bytes. le_number (take 4 bytes)) h.at_place ∙ le_number-le_bytes 4 offset below

-- the end of the parts is the end of the bytes
end_stands : (place offset : ℕ) (b : List ℕ) → Stands [] [] place offset b → length b ≡ offset
end_stands place offset b h = omega (arith, h.inside, ap length h.at_offset, length-drop offset b)

next_stands : (sizes : List (Option ℕ)) (parts : List (List ℕ)) (place offset : ℕ) (b : List ℕ)
    → AreParts sizes parts → length b < 2 ^ 32 → Stands sizes parts place offset b
    → next_offset sizes place b ≡ offset
next_stands [] [] place offset b m small h = end_stands place offset b h
next_stands [] (p ∷ parts) place offset b m small h = absurd m
next_stands (Some z ∷ sizes) [] place offset b m small h = absurd m
next_stands (None ∷ sizes) [] place offset b m small h = absurd m
next_stands (Some z ∷ sizes) (p ∷ parts) place offset b m small h =
    next_stands sizes parts (place + z) offset b m.1 small
    (fixed_stands z sizes p parts place offset b m.0 h)
next_stands (None ∷ sizes) (p ∷ parts) place offset b m small h =
    offset_stands sizes p parts place offset b small h

-- a test that does not fault
pub passed : (t : Bool) (f : Fault) (rest : Option Fault) → t ≡ false → rest ≡ None
    → cond t (Some f) rest ≡ None
passed true f rest e k = cc
passed false f rest e k = k

pub passes : (t : Bool) (f : Fault) (rest : Option Fault) → cond t (Some f) rest ≡ None
    → (t ≡ false) × (rest ≡ None)
passes true f rest e = cc
passes false f rest e = (refl, e)

pub chosen_none_of : (t : Bool) (rest : Option Fault) (f : Fault) → cond t rest (Some f) ≡ None
    → (t ≡ true) × (rest ≡ None)
chosen_none_of true rest f e = (refl, e)
chosen_none_of false rest f e = cc

later_stands : (sizes : List (Option ℕ)) (parts : List (List ℕ)) (place before offset s : ℕ)
    (b : List ℕ) → AreParts sizes parts → length b < 2 ^ 32 → before ≤ offset
    → Stands sizes parts place offset b → later_fault sizes place before s b ≡ None
later_stands [] [] place before offset s b m small up h = refl
later_stands [] (p ∷ parts) place before offset s b m small up h = absurd m
later_stands (Some z ∷ sizes) [] place before offset s b m small up h = absurd m
later_stands (None ∷ sizes) [] place before offset s b m small up h = absurd m
later_stands (Some z ∷ sizes) (p ∷ parts) place before offset s b m small up h =
    later_stands sizes parts (place + z) before offset s b m.1 small up
    (fixed_stands z sizes p parts place offset b m.0 h)
later_stands (None ∷ sizes) (p ∷ parts) place before offset s b m small up h =
    let e = offset_stands sizes p parts place offset b small h in
    let rest : later_fault sizes (place + 4) offset s b ≡ None =
    later_stands sizes parts (place + 4) offset (offset + length p) s b m small (omega arith)
    (variable_stands sizes p parts place offset b h) in
    let within : offset_at b place ≤ length b = omega (arith, e, h.inside) in
    let after : before ≤ offset_at b place = omega (arith, e) in
    passed _ _ _ (le-ltb _ _ within)
    (passed _ _ _ (le-ltb _ _ after)
    (subst (λ (o : ℕ). later_fault sizes (place + 4) o s b ≡ None) (sym e) rest))

first_stands : (sizes : List (Option ℕ)) (parts : List (List ℕ)) (place end s : ℕ) (b : List ℕ)
    → AreParts sizes parts → length b < 2 ^ 32 → Stands sizes parts place end b
    → first_offset_fault sizes place end s b ≡ None
first_stands [] [] place end s b m small h =
    passed _ _ _ (le-ltb _ _ (omega (arith, end_stands place end b h))) refl
first_stands [] (p ∷ parts) place end s b m small h = absurd m
first_stands (Some z ∷ sizes) [] place end s b m small h = absurd m
first_stands (None ∷ sizes) [] place end s b m small h = absurd m
first_stands (Some z ∷ sizes) (p ∷ parts) place end s b m small h =
    first_stands sizes parts (place + z) end s b m.1 small
    (fixed_stands z sizes p parts place end b m.0 h)
first_stands (None ∷ sizes) (p ∷ parts) place end s b m small h =
    let e = offset_stands sizes p parts place end b small h in
    cond-true _ _ _ (eq-eqb _ _ e)
    ∙ later_stands sizes parts (place + 4) end (end + length p) s b m small (omega arith)
    (variable_stands sizes p parts place end b h)

scopes_stand : (sizes : List (Option ℕ)) (parts : List (List ℕ)) (place offset : ℕ) (b : List ℕ)
    → AreParts sizes parts → length b < 2 ^ 32 → Stands sizes parts place offset b
    → scope_bytes (scopes sizes place b) ≡ parts
scopes_stand [] [] place offset b m small h = refl
scopes_stand [] (p ∷ parts) place offset b m small h = absurd m
scopes_stand (Some z ∷ sizes) [] place offset b m small h = absurd m
scopes_stand (None ∷ sizes) [] place offset b m small h = absurd m
scopes_stand (Some z ∷ sizes) (p ∷ parts) place offset b m small h =
    let width : place + z - place ≡ z = omega arith in
    let first : slice_range b place (place + z) ≡ p =
    ap (λ n. take n (drop place b)) width
    ∙ ap (take z) (h.at_place ∙ append_assoc p (heads sizes parts offset) h.tail)
    ∙ take_at p (heads sizes parts offset ++ h.tail) z m.0 in
    ap₂ ◌∷◌ first (scopes_stand sizes parts (place + z) offset b m.1 small
    (fixed_stands z sizes p parts place offset b m.0 h))
scopes_stand (None ∷ sizes) (p ∷ parts) place offset b m small h =
    let next = variable_stands sizes p parts place offset b h in
    let from = offset_stands sizes p parts place offset b small h in
    let to = next_stands sizes parts (place + 4) (offset + length p) b m small next in
    let width : offset + length p - offset ≡ length p = omega arith in
    let first : slice_range b offset (offset + length p) ≡ p =
    ap (λ n. take n (drop offset b)) width ∙ ap (take (length p)) h.at_offset
    ∙ take_at p (bodies sizes parts) (length p) refl in
    ap₂ ◌∷◌ (ap₂ (slice_range b) from to
    ∙ first) (scopes_stand sizes parts (place + 4) (offset + length p) b m small next)

pub joined_stands : (sizes : List (Option ℕ)) (parts : List (List ℕ)) → AreParts sizes parts
    → Stands sizes parts 0 (heads_length sizes) (joined sizes parts)
joined_stands sizes parts m = record {
  tail = bodies sizes parts;
  at_place = refl;
  at_offset = drop_at (heads sizes parts (heads_length sizes)) (bodies sizes parts)
      (heads_length sizes) (length-heads sizes parts (heads_length sizes) m);
  inside = omega (
    arith,
    length-append (heads sizes parts (heads_length sizes))
        (bodies sizes parts),
    length-heads sizes parts (heads_length sizes) m,
  );
}

-- joined parts have no fault in their head, and are cut into these parts
pub record CutsBack (sizes : List (Option ℕ)) (parts : List (List ℕ)) (s : ℕ)
    (b : List ℕ) : Type 0 where
  pub head : head_fault sizes s b ≡ None
  pub scopes : scope_bytes (scopes sizes 0 b) ≡ parts

pub cut-joined : (sizes : List (Option ℕ)) (parts : List (List ℕ)) (s : ℕ) → AreParts sizes parts
    → length (joined sizes parts) < 2 ^ 32 → CutsBack sizes parts s (joined sizes parts)
cut-joined sizes parts s m small =
    let h = joined_stands sizes parts m in record {
      head = passed _ _ _ (le-ltb _ _ h.inside)
          (first_stands sizes parts 0 (heads_length sizes) s (joined sizes parts) m small h);
      scopes = scopes_stand sizes parts 0 (heads_length sizes) (joined sizes parts) m small h;
    }

-- the parts as they are cut, joined again
JoinsBack : (sizes : List (Option ℕ)) (place offset : ℕ) (b : List ℕ) → Type 0
JoinsBack sizes place offset b =
    (heads sizes (scope_bytes (scopes sizes place b)) offset
    ≡ take (heads_length sizes) (drop place b))
    × (bodies sizes (scope_bytes (scopes sizes place b)) ≡ drop offset b)

end_joins : (place offset : ℕ) (b : List ℕ) → length b ≤ offset → JoinsBack [] place offset b
unfolding JoinsBack
end_joins place offset b h = (refl, sym (drop_all offset b h))

fixed_joins : (z : ℕ) (sizes : List (Option ℕ)) (place offset : ℕ) (b : List ℕ)
    → JoinsBack sizes (place + z) offset b → JoinsBack (Some z ∷ sizes) place offset b
unfolding JoinsBack
fixed_joins z sizes place offset b h =
    let width : place + z - place ≡ z = omega arith in (
      ap₂ ◌++◌ (ap (λ n. take n (drop place b)) width) (h.0
          ∙ ap (take (heads_length sizes)) (sym (drop-drop z place b)))
          ∙ sym (take-add z (heads_length sizes) (drop place b)),
      h.1,
    )

variable_joins_at : (sizes : List (Option ℕ)) (place : ℕ) (b : List ℕ) → IsBytes b
    → place + 4 ≤ length b
    → offset_at b place ≤ next_offset sizes (place + 4) b
    → next_offset sizes (place + 4) b ≤ length b
    → JoinsBack sizes (place + 4) (next_offset sizes (place + 4) b) b
    → JoinsBack (None ∷ sizes) place (offset_at b place) b
unfolding JoinsBack
variable_joins_at sizes place b bytes room up inside h =
    let from = offset_at b place in
    let to = next_offset sizes (place + 4) b in
    let four : length (take 4 (drop place b)) ≡ 4 =
    length-take-le 4 (drop place b) (omega (arith, length-drop place b)) in
    let width : length (slice_range b from to) ≡ to - from =
    length-take-le (to - from) (drop from b) (omega (arith, length-drop from b)) in
    let first : le_bytes 4 from ≡ take 4 (drop place b) =
    le_bytes_of 4 (take 4 (drop place b))
    (IsBytes-take 4 (drop place b) (IsBytes-drop place b bytes)) four in
    let upto : from + length (slice_range b from to) ≡ to = omega (arith, width) in
    let past : from + (to - from) ≡ to = omega arith in
    let rest : drop to b ≡ drop (to - from) (drop from b) =
    ap (λ n. drop n b) (sym past) ∙ sym (drop-drop (to - from) from b) in (
      ap₂ ◌++◌ first (ap (heads sizes (scope_bytes (scopes sizes (place + 4) b))) upto ∙ h.0
          ∙ ap (take (heads_length sizes)) (sym (drop-drop 4 place b)))
          ∙ sym (take-add 4 (heads_length sizes) (drop place b)),
      ap (λ bytes. slice_range b from to ++ bytes) (h.1 ∙ rest)
          ∙ take-append-drop (to - from) (drop from b),
    )

-- what no fault of later offsets says
record InOrder (sizes : List (Option ℕ)) (place before : ℕ) (b : List ℕ) : Type 0 where
  pub up : before ≤ next_offset sizes place b
  pub inside : next_offset sizes place b ≤ length b
  pub joins : JoinsBack sizes place (next_offset sizes place b) b

later_joins : (sizes : List (Option ℕ)) (place before s : ℕ) (b : List ℕ) → IsBytes b
    → before ≤ length b → place + heads_length sizes ≤ length b
    → later_fault sizes place before s b ≡ None → InOrder sizes place before b
later_joins [] place before s b bytes up room h =
    record { up = up; inside = omega arith; joins = end_joins place (length b) b (omega arith) }
later_joins (Some z ∷ sizes) place before s b bytes up room h =
    let rest = later_joins sizes (place + z) before s b bytes up (omega arith) h in
    record {
      up = rest.up;
      inside = rest.inside;
      joins =
          fixed_joins z sizes place (next_offset sizes (place + z) b) b rest.joins;
    }
later_joins (None ∷ sizes) place before s b bytes up room h =
    let within = passes (ltb (length b) (offset_at b place)) _ _ h in
    let after = passes (ltb (offset_at b place) before) _ _ within.1 in
    let low : offset_at b place ≤ length b = ltb-false _ _ within.0 in
    let rest = later_joins sizes (place + 4) (offset_at b place) s b bytes low
    (omega arith) after.1 in
    record {
      up = ltb-false _ _ after.0;
      inside = low;
      joins = variable_joins_at sizes place b bytes (omega arith) rest.up rest.inside rest.joins;
    }

first_joins : (sizes : List (Option ℕ)) (place end s : ℕ) (b : List ℕ) → IsBytes b → end ≤ length b
    → place + heads_length sizes ≤ length b → first_offset_fault sizes place end s b ≡ None
    → JoinsBack sizes place end b
first_joins [] place end s b bytes low room h =
    end_joins place end b (ltb-false _ _ (passes _ _ _ h).0)
first_joins (Some z ∷ sizes) place end s b bytes low room h =
    fixed_joins z sizes place end b
    (first_joins sizes (place + z) end s b bytes low (omega arith) h)
first_joins (None ∷ sizes) place end s b bytes low room h =
    let found = chosen_none_of (eqb (offset_at b place) end) _ _ h in
    let e : offset_at b place ≡ end = eqb-true _ _ found.0 in
    let rest = later_joins sizes (place + 4) end s b bytes low (omega arith) found.1 in
    subst (λ (o : ℕ). JoinsBack (None ∷ sizes) place o b) e
    (variable_joins_at sizes place b bytes (omega arith)
    (omega (arith, e, rest.up)) rest.inside rest.joins)

pub joined-cut : (sizes : List (Option ℕ)) (s : ℕ) (b : List ℕ) → IsBytes b
    → head_fault sizes s b ≡ None → joined sizes (scope_bytes (scopes sizes 0 b)) ≡ b
unfolding JoinsBack
joined-cut sizes s b bytes h =
    let long = passes _ _ _ h in
    let room : heads_length sizes ≤ length b = ltb-false _ _ long.0 in
    let both = first_joins sizes 0 (heads_length sizes) s b bytes room (omega arith) long.1 in
    ap₂ ◌++◌ both.0 both.1 ∙ take-append-drop (heads_length sizes) b
