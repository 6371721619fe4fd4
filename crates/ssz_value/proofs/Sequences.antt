-- The law at vectors and lists.
use Rattle.std.proofs.Common.{ℕ, zero, suc, ◌+◌, ◌*◌, ◌/◌, ◌%◌, ◌^◌, ◌<◌, ◌≤◌, ◌≡◌, Bool, true, false, cond, ltb, eqb, ◌||◌, not, List, [], ◌∷◌, length, map, replicate, Option, Some, None, option_map, refl, sym, ap, ap₂, ◌∙◌, subst, arith, length-append, ltb-false, le-ltb, mul-div_cancel, mul-pos, zero-mul}
use Rattle.std.proofs.Math.Nat.{mul-mod_left}
use Rattle.std.proofs.lemmas.List.{length-map, length-replicate}
use Rattle.std.proofs.lemmas.Bool.{cond-false, ne_eqb, eq-eqb, or_from, not_from_true}
use Rattle.std.proofs.lemmas.Grind.{common_steps}
use Rattle.std.specs.List.{AllByRecursion}
use Rattle.ssz_schema.specs.Types.{SszType, vector, list}
use Rattle.ssz_schema.specs.Sizes.{fixed_size, total_size}
use Rattle.ssz_bytes.specs.declared.fault.Fault.{Fault}
use Rattle.ssz_value.specs.Values.{SszValue, Fits, Values, no_values, value_before, sequence, items, values}
use Rattle.ssz_value.specs.Encoding.{serialize, heads_length, heads, bodies, joined, joined_alike}
use Rattle.ssz_value.specs.Faults.{first_fault, Scope, scopes, scope_bytes, alike_fault, elements_fault, count_fault, element_count, offset_at}
use Rattle.ssz_value.specs.Reading.{value_in, elements_in}
use Rattle.ssz_value.proofs.Cut.{AreParts, passed, passes, cut-joined, joined-cut, length-heads, joined_stands, offset_stands}
use Rattle.ssz_value.proofs.Agree.{IsReadBack, IsWrittenBack, IsInput, Agrees, AreShort, AreInputs, AreShort-scopes, AreInputs-scopes, length-scopes, length-bytes_of, no_fault, no_faults, same_some, no_some}

pub items-values : (vs : List SszValue) → items (values vs) ≡ vs
items-values [] = refl
items-values (v ∷ vs) = ap (λ ws. v ∷ ws) (items-values vs)

pub values-items : (vs : Values) → values (items vs) ≡ vs
values-items no_values = refl
values-items (value_before v vs) = ap (λ ws. value_before v ws) (values-items vs)

-- the length of joined parts that are all fixed-size

pub fixed_rest : (y z : ℕ) (rest : Option ℕ) → option_map (λ n. y + n) rest ≡ Some z
    → (x : ℕ) × (rest ≡ Some x) × (y + x ≡ z)
fixed_rest y z None e = cc
fixed_rest y z (Some x) e = (x, refl, same_some (y + x) z e)

pub total_size-heads : (sizes : List (Option ℕ)) (z : ℕ) → total_size sizes ≡ Some z
    → heads_length sizes ≡ z
total_size-heads [] z e = same_some 0 z e
total_size-heads (None ∷ sizes) z e = absurd (no_some z e)
total_size-heads (Some y ∷ sizes) z e = let rest =
    fixed_rest y z (total_size sizes) e in ap (λ n. y + n) (total_size-heads sizes rest.0 rest.1)
    ∙ rest.2

bodies-fixed : (sizes : List (Option ℕ)) (parts : List (List ℕ)) (z : ℕ) → total_size sizes ≡ Some z
    → bodies sizes parts ≡ []
bodies-fixed [] parts z e = refl
bodies-fixed (None ∷ sizes) parts z e = absurd (no_some z e)
bodies-fixed (Some y ∷ sizes) [] z e = refl
bodies-fixed (Some y ∷ sizes) (p ∷ parts) z e = let rest =
    fixed_rest y z (total_size sizes) e in bodies-fixed sizes parts rest.0 rest.1

pub length-joined : (sizes : List (Option ℕ)) (parts : List (List ℕ)) (z : ℕ)
    → total_size sizes ≡ Some z → AreParts sizes parts → length (joined sizes parts) ≡ z
length-joined sizes parts z e h =
    length-append (heads sizes parts (heads_length sizes)) (bodies sizes parts)
    ∙ ap₂ ◌+◌ (length-heads sizes parts (heads_length sizes) h
    ∙ total_size-heads sizes z e) (ap length (bodies-fixed sizes parts z e))
    ∙ omega arith

total_size-replicate : (n z : ℕ) → total_size (replicate n (Some z)) ≡ Some (n * z)
total_size-replicate zero z = ap Some (sym (zero-mul z))
total_size-replicate (suc n) z =
    ap (option_map (λ rest. z + rest)) (total_size-replicate n z) ∙ ap Some (omega arith)

heads_length-replicate : (n : ℕ) → heads_length (replicate n None) ≡ 4 * n
heads_length-replicate zero = refl
heads_length-replicate (suc n) = ap (λ m. 4 + m) (heads_length-replicate n) ∙ omega arith

-- elements

elements_known : (t : SszType) → Agrees t → (s : ℕ) (vs : List SszValue) (parts : List Scope)
    → AllByRecursion (Fits t) vs → AreShort parts → scope_bytes parts ≡ map (serialize t) vs
    → (alike_fault (first_fault t) s parts ≡ None) × (map (value_in t) (scope_bytes parts) ≡ vs)
elements_known t law s [] [] fit small e = (refl, refl)
elements_known t law s [] (part ∷ parts) fit small e = cc
elements_known t law s (v ∷ vs) [] fit small e = cc
elements_known t law s (v ∷ vs) (part ∷ parts) fit small e =
    let first : part.1 ≡ serialize t v = cc in
    let others : scope_bytes parts ≡ map (serialize t) vs = cc in
    let read = law.known (s + part.0) v fit.0
    (subst (λ (bytes : List ℕ). length bytes < 2 ^ 32) first small.0) in
    let rest = elements_known t law s vs parts fit.1 small.1 others in (
      no_fault _ _ (ap (first_fault t (s + part.0)) first ∙ read.faultless) rest.0,
      ap₂ ◌∷◌ (ap (value_in t) first ∙ read.value) rest.1,
    )

-- values that fit, and whose encodings are these
record AreWritten (t : SszType) (vs : List SszValue) (parts : List (List ℕ)) : Type 0 where
  pub fit : AllByRecursion (Fits t) vs
  pub bytes : map (serialize t) vs ≡ parts

elements_only : (t : SszType) → Agrees t → (s : ℕ) (parts : List Scope) → AreInputs parts
    → alike_fault (first_fault t) s parts ≡ None
    → AreWritten t (map (value_in t) (scope_bytes parts)) (scope_bytes parts)
elements_only t law s [] input e = record { fit = tt; bytes = refl }
elements_only t law s (part ∷ parts) input e =
    let both = no_faults _ _ e in
    let first = law.only (s + part.0) part.1 input.0 both.0 in
    let rest = elements_only t law s parts input.1 both.1 in
    record { fit = (first.fits, rest.fit); bytes = ap₂ ◌∷◌ first.bytes rest.bytes }

pub AreParts-alike : (t : SszType) (size : Option ℕ)
    → ((z : ℕ) (v : SszValue) → size ≡ Some z → Fits t v → length (serialize t v) ≡ z)
    → (vs : List SszValue) → AllByRecursion (Fits t) vs
    → AreParts (replicate (length (map (serialize t) vs)) size) (map (serialize t) vs)
AreParts-alike t (Some z) sized [] fit = tt
AreParts-alike t None sized [] fit = tt
AreParts-alike t (Some z) sized (v ∷ vs) fit =
    (sized z v refl fit.0, AreParts-alike t (Some z) sized vs fit.1)
AreParts-alike t None sized (v ∷ vs) fit = AreParts-alike t None sized vs fit.1

-- the encoding of values of one type is read as them
record AreReadBack (t : SszType) (s count : ℕ) (vs : List SszValue) (b : List ℕ) : Type 0 where
  pub faultless : elements_fault (first_fault t) (fixed_size t) count s b ≡ None
  pub value : map (value_in t) (elements_in (fixed_size t) count b) ≡ vs

alike_known : (t : SszType) → Agrees t → (s count : ℕ) (vs : List SszValue)
    → AllByRecursion (Fits t) vs
    → length (joined_alike (fixed_size t) (map (serialize t) vs)) < 2 ^ 32
    → length vs ≡ count
    → AreReadBack t s count vs (joined_alike (fixed_size t) (map (serialize t) vs))
alike_known t law s count vs fit small e =
    let parts = map (serialize t) vs in
    let b = joined_alike (fixed_size t) parts in
    let cuts = cut-joined (replicate (length parts) (fixed_size t)) parts s
    (AreParts-alike t (fixed_size t) law.sized vs fit) small in
    let each = elements_known t law s vs (scopes (replicate (length parts) (fixed_size t)) 0 b) fit
    (AreShort-scopes (replicate (length parts) (fixed_size t)) 0 b small) cuts.scopes in
    subst (λ (n : ℕ). AreReadBack t s n vs b) (length-map vs (serialize t) ∙ e)
    (record { faultless = no_fault _ _ cuts.head each.0; value = each.1 })

alike_only : (t : SszType) → Agrees t → (s count : ℕ) (b : List ℕ) → IsInput b
    → elements_fault (first_fault t) (fixed_size t) count s b ≡ None
    → AreWritten t (map (value_in t) (elements_in (fixed_size t) count b))
    (elements_in (fixed_size t) count b)
    × (length (map (value_in t) (elements_in (fixed_size t) count b)) ≡ count)
    × (joined_alike (fixed_size t)
    (map (serialize t) (map (value_in t) (elements_in (fixed_size t) count b))) ≡ b)
alike_only t law s count b input e =
    let both = no_faults _ _ e in
    let sizes = replicate count (fixed_size t) in
    let parts = scopes sizes 0 b in
    let written = elements_only t law s parts (AreInputs-scopes sizes 0 b input) both.1 in
    let many : length (scope_bytes parts) ≡ count =
    length-bytes_of parts ∙ length-scopes sizes 0 b ∙ length-replicate count (fixed_size t) in (
      written,
      length-map (scope_bytes parts) (value_in t) ∙ many,
      ap (joined_alike (fixed_size t)) written.bytes
          ∙ ap (λ n. joined (replicate n (fixed_size t)) (scope_bytes parts)) many
          ∙ joined-cut sizes s b input.bytes both.0,
    )

-- vectors

vector_known : (t : SszType) (n : ℕ) → Agrees t → (s : ℕ) (v : SszValue) → Fits (vector t n) v
    → length (serialize (vector t n) v) < 2 ^ 32 → IsReadBack (vector t n) s v
vector_known t n law s (sequence vs) fit small =
    let read = alike_known t law s n (items vs) fit.1 small fit.0 in
    record {
      faultless = read.faultless;
      value =
          ap (λ ws. sequence (values ws)) read.value ∙ ap sequence (values-items vs);
    }
vector_known t n law s _ fit small = absurd fit

vector_only : (t : SszType) (n : ℕ) → Agrees t → (s : ℕ) (b : List ℕ) → IsInput b
    → first_fault (vector t n) s b ≡ None → IsWrittenBack (vector t n) b
vector_only t n law s b input e =
    let found = alike_only t law s n b input e in
    let vs = map (value_in t) (elements_in (fixed_size t) n b) in
    record {
      fits = subst (λ (ws : List SszValue). (length ws ≡ n) × AllByRecursion (Fits t) ws)
          (sym (items-values vs)) (found.1, found.0.fit);
      bytes = ap (λ ws. joined_alike (fixed_size t) (map (serialize t) ws)) (items-values vs)
          ∙ found.2;
    }

vector_size : (n z : ℕ) (size : Option ℕ) → option_map (λ y. n * y) size ≡ Some z
    → (y : ℕ) × (size ≡ Some y) × (n * y ≡ z)
vector_size n z None e = cc
vector_size n z (Some y) e = (y, refl, same_some (n * y) z e)

alike_sized : (t : SszType) (y n : ℕ) → Agrees t → fixed_size t ≡ Some y → (vs : List SszValue)
    → AllByRecursion (Fits t) vs → length vs ≡ n
    → length (joined_alike (fixed_size t) (map (serialize t) vs)) ≡ n * y
alike_sized t y n law e vs fit many =
    let parts = map (serialize t) vs in
    length-joined (replicate (length parts) (fixed_size t)) parts (n * y)
    (ap₂ (λ m size. total_size (replicate m size)) (length-map vs (serialize t) ∙ many) e
    ∙ total_size-replicate n y)
    (AreParts-alike t (fixed_size t) law.sized vs fit)

vector_sized : (t : SszType) (n z : ℕ) (v : SszValue) → Agrees t → fixed_size (vector t n) ≡ Some z
    → Fits (vector t n) v → length (serialize (vector t n) v) ≡ z
vector_sized t n z (sequence vs) law e fit =
    let of = vector_size n z (fixed_size t) e in
    alike_sized t of.0 n law of.1 (items vs) fit.1 fit.0 ∙ of.2
vector_sized t n z _ law e fit = absurd fit

pub Agrees-vector : (t : SszType) (n : ℕ) → 0 < n → Agrees t → Agrees (vector t n)
Agrees-vector t n pos law = record {
  known = vector_known t n law;
  only = vector_only t n law;
  sized = λ z v e h. vector_sized t n z v law e h;
  positive = λ z e. (let of =
      vector_size n z (fixed_size t) e in
      subst (λ (m : ℕ). 0 < m) of.2 (mul-pos pos (law.positive of.0 of.1)));
}

-- lists

passes_by : (t : Bool) (rest : Option Fault) → rest ≡ None → cond t None rest ≡ None
passes_by true rest e = refl
passes_by false rest e = e

passed_by : (n : ℕ) (rest : Option Fault) → 0 < n → cond (eqb n 0) None rest ≡ None → rest ≡ None
passed_by n rest h e = sym (cond-false (eqb n 0) None rest (ne_eqb n 0 (omega arith))) ∙ e

-- joined parts tell how many they are, and have no fault of their number
record IsCounted (size : Option ℕ) (limit s count : ℕ) (b : List ℕ) : Type 0 where
  pub faultless : count_fault size limit s b ≡ None
  pub number : element_count size b ≡ count

fixed_counted : (z limit s : ℕ) (parts : List (List ℕ)) → 0 < z
    → AreParts (replicate (length parts) (Some z)) parts → length parts ≤ limit
    → IsCounted (Some z) limit s (length parts) (joined_alike (Some z) parts)
fixed_counted z limit s parts pos h fits =
    let b = joined_alike (Some z) parts in
    let long : length b ≡ length parts * z =
    length-joined (replicate (length parts) (Some z)) parts (length parts * z)
    (total_size-replicate (length parts) z) h in
    let whole : length b % z ≡ 0 = ap (λ n. n % z) long ∙ mul-mod_left (length parts) z in
    let count : length b / z ≡ length parts =
    ap (λ n. n / z) long ∙ mul-div_cancel (length parts) pos in
    record {
      faultless = passed _ _ _
          (not_from_true (eqb (length b % z) 0) (eq-eqb (length b % z) 0 whole))
          (passed _ _ _ (le-ltb limit (length b / z) (omega (arith, count))) refl);
      number = count;
    }

variable_counted : (limit s : ℕ) (parts : List (List ℕ))
    → AreParts (replicate (length parts) None) parts → length parts ≤ limit
    → length (joined_alike None parts) < 2 ^ 32
    → IsCounted None limit s (length parts) (joined_alike None parts)
variable_counted limit s [] h fits small = record { faultless = refl; number = refl }
variable_counted limit s (p ∷ parts) h fits small =
    let sizes = replicate (length (p ∷ parts)) None in
    let b = joined_alike None (p ∷ parts) in
    let stands = joined_stands sizes (p ∷ parts) h in
    let first : offset_at b 0 ≡ 4 * length (p ∷ parts) =
    offset_stands (replicate (length parts) None) p parts 0 (heads_length sizes) b small stands
    ∙ heads_length-replicate (length (p ∷ parts)) in
    let long : 4 * length (p ∷ parts) ≤ length b =
    omega (arith, stands.inside, heads_length-replicate (length (p ∷ parts))) in
    let count : offset_at b 0 / 4 ≡ length (p ∷ parts) = omega (arith, first) in
    let four : offset_at b 0 % 4 ≡ 0 = omega (arith, first) in
    record {
      faultless = passes_by _ _
          (passed _ _ _ (le-ltb (length b) 4 (omega (arith, long)))
          (passed _ _ _ (or_from (eqb (offset_at b 0) 0) _
          (ne_eqb (offset_at b 0) 0 (omega (arith, first)))
          (not_from_true (eqb (offset_at b 0 % 4) 0) (eq-eqb (offset_at b 0 % 4) 0 four)))
          (passed _ _ _ (le-ltb (length b) (offset_at b 0) (omega (arith, first, long)))
          (passed _ _ _ (le-ltb limit (offset_at b 0 / 4) (omega (arith, count))) refl))));
      number = count;
    }

counted : (t : SszType) (size : Option ℕ)
    → ((z : ℕ) (v : SszValue) → size ≡ Some z → Fits t v → length (serialize t v) ≡ z)
    → ((z : ℕ) → size ≡ Some z → 0 < z)
    → (limit s : ℕ) (vs : List SszValue) → AllByRecursion (Fits t) vs → length vs ≤ limit
    → length (joined_alike size (map (serialize t) vs)) < 2 ^ 32
    → IsCounted size limit s (length (map (serialize t) vs))
    (joined_alike size (map (serialize t) vs))
counted t (Some z) sized positive limit s vs fit fits small =
    fixed_counted z limit s (map (serialize t) vs) (positive z refl)
    (AreParts-alike t (Some z) sized vs fit) (omega (arith, length-map vs (serialize t)))
counted t None sized positive limit s vs fit fits small =
    variable_counted limit s (map (serialize t) vs) (AreParts-alike t None sized vs fit)
    (omega (arith, length-map vs (serialize t))) small

-- no fault of the number keeps the limit
within_limit : (size : Option ℕ) (limit s : ℕ) (b : List ℕ) → count_fault size limit s b ≡ None
    → element_count size b ≤ limit
within_limit (Some z) limit s b e =
    let whole = passes _ _ _ e in
    let few = passes (ltb limit (length b / z)) _ _ whole.1 in
    ltb-false limit (length b / z) few.0
within_limit None limit s [] e = omega arith
within_limit None limit s (x ∷ b) e =
    let some = passed_by (length (x ∷ b)) _ (omega arith) e in
    let long = passes (ltb (length (x ∷ b)) 4) _ _ some in
    let four = passes (eqb (offset_at (x ∷ b) 0) 0 || not (eqb (offset_at (x ∷ b) 0 % 4) 0)) _ _
    long.1 in
    let inside = passes (ltb (length (x ∷ b)) (offset_at (x ∷ b) 0)) _ _ four.1 in
    let few = passes (ltb limit (offset_at (x ∷ b) 0 / 4)) _ _ inside.1 in
    ltb-false limit (offset_at (x ∷ b) 0 / 4) few.0

list_known : (t : SszType) (limit : ℕ) → Agrees t → (s : ℕ) (v : SszValue) → Fits (list t limit) v
    → length (serialize (list t limit) v) < 2 ^ 32 → IsReadBack (list t limit) s v
list_known t limit law s (sequence vs) fit small =
    let b = joined_alike (fixed_size t) (map (serialize t) (items vs)) in
    let counts = counted t (fixed_size t) law.sized law.positive limit s
    (items vs) fit.1 fit.0 small in
    let read : AreReadBack t s (element_count (fixed_size t) b) (items vs) b =
    alike_known t law s (element_count (fixed_size t) b) (items vs) fit.1 small
    (sym (length-map (items vs) (serialize t)) ∙ sym counts.number) in
    record {
      faultless = no_fault _ _ counts.faultless read.faultless;
      value = ap (λ ws. sequence (values ws)) read.value ∙ ap sequence (values-items vs);
    }
list_known t limit law s _ fit small = absurd fit

list_only : (t : SszType) (limit : ℕ) → Agrees t → (s : ℕ) (b : List ℕ) → IsInput b
    → first_fault (list t limit) s b ≡ None → IsWrittenBack (list t limit) b
list_only t limit law s b input e =
    let both = no_faults _ _ e in
    let count = element_count (fixed_size t) b in
    let found = alike_only t law s count b input both.1 in
    let few : count ≤ limit = within_limit (fixed_size t) limit s b both.0 in
    let vs = map (value_in t) (elements_in (fixed_size t) count b) in
    record {
      fits = subst (λ (ws : List SszValue). (length ws ≤ limit) × AllByRecursion (Fits t) ws)
          (sym (items-values vs)) (omega (arith, found.1, few), found.0.fit);
      bytes = ap (λ ws. joined_alike (fixed_size t) (map (serialize t) ws)) (items-values vs)
          ∙ found.2;
    }

pub Agrees-list : (t : SszType) (limit : ℕ) → Agrees t → Agrees (list t limit)
Agrees-list t limit law = record {
  known = list_known t limit law;
  only = list_only t limit law;
  sized = λ z v e h. absurd (no_some z e);
  positive = λ z e. absurd (no_some z e);
}

-- what a sequence's parts are read by
pub ruleset sequence_items = (items-values, values-items, common_steps)
