-- Values of one type of fixed size have equally many pairs and nodes.
use Rattle.std.proofs.Common.{◌≡◌, ℕ, zero, suc, ◌+◌, ◌*◌, ◌/◌, ◌<◌, List, [], ◌∷◌, length, take, drop, map, replicate, get_or, Option, Some, None, refl, sym, ap, ap₂, subst, ◌∙◌, option_map, arith}
use Rattle.std.specs.Prelude.{IsSome, is_some}
use Rattle.std.specs.List.{AllByRecursion, sum_by}
use Rattle.std.proofs.lemmas.Bool.{false≢true}
use Rattle.std.proofs.lemmas.Option.{none-some}
use Rattle.std.proofs.lemmas.List.Sums.{sum_by-cons}
use Rattle.ssz_chunk.specs.Tree.{merkle_pairs}
use Rattle.ssz_schema.specs.format.Format.{Format}
use Rattle.ssz_schema.specs.Legal.{IsLegal}
use Rattle.ssz_schema.specs.Types.{SszType, Fields, uint, boolean, container, vector, list, bitvector, bitlist, union, no_fields, field}
use Rattle.ssz_schema.specs.Sizes.{basic_size, element_chunks, depth, fixed_size, part_sizes, total_size}
use Rattle.ssz_value.specs.Values.{SszValue, sequence, bits, items, Fits, FitFields}
use Rattle.ssz_value.specs.Pairs.{pairs, field_pairs}
use Rattle.ssz_making.specs.Parts.{IsLike, part_of_value}
use Rattle.ssz_making.specs.Nodes.{new_nodes, field_nodes, element_nodes}
use Rattle.ssz_value.specs.declared.value.Value.{Value}
use Rattle.ssz_value.specs.Standing.{value_of, IsValue}
use Rattle.ssz_value.specs.Faults.{first_fault, Scope, scopes, scope_bytes, head_fault, alike_fault, elements_fault}
use Rattle.ssz_value.specs.Reading.{value_in, elements_in}
use Rattle.ssz_value.proofs.Agree.{IsInput, AreInputs, AreInputs-scopes, no_faults}
use Rattle.ssz_value.proofs.ExactLaw.{agrees}
use Rattle.ssz_value.proofs.FormLemmas.{all_fit}
use Rattle.ssz_parts.proofs.ElementLemmas.{element_faultless}
use Rattle.ssz_parts.proofs.Faultless.{IsFaultless}
use Rattle.ssz_parts.specs.PartValues.{element_values}

-- the values of the type agree in a number
abbrev pub AreAlike : SszType → (SszValue → ℕ) → Type 0
AreAlike t number = (v w : SszValue) → Fits t v → Fits t w → number v ≡ number w

-- one more value has one time more
more_alike : (p a b n : ℕ) → a ≡ p → b ≡ p * n → a + b ≡ p * suc n
more_alike p a b n first rest = omega (arith, first, rest)

-- each has as many as the one given, so all have so many times as many
pub sum-alike : (t : SszType) (f : SszValue → ℕ) → AreAlike t f → (v : SszValue)
    (vs : List SszValue) → Fits t v → AllByRecursion (Fits t) vs
    → sum_by f vs ≡ f v * length vs
sum-alike t f alike v [] fit all = omega arith
sum-alike t f alike v (w ∷ vs) fit all = sum_by-cons f w vs
    ∙ more_alike (f v) (f w) (sum_by f vs) (length vs) (alike w v all.0 fit)
    (sum-alike t f alike v vs fit all.1)

-- so also those of the program
pub sum-alike_values : (t : SszType) (f : SszValue → ℕ) → AreAlike t f → (v : SszValue)
    (vs : List Value) → Fits t v → AllByRecursion (IsValue t) vs
    → sum_by f (map value_of vs) ≡ f v * length vs
sum-alike_values t f alike v [] fit all = omega arith
sum-alike_values t f alike v (w ∷ vs) fit all =
    sum_by-cons f (value_of w) (map value_of vs)
    ∙ more_alike (f v) (f (value_of w)) (sum_by f (map value_of vs)) (length vs)
    (alike (value_of w) v all.0.fits fit) (sum-alike_values t f alike v vs fit all.1)

-- as many values of one type have as many in all
sums_alike : (t : SszType) (f : SszValue → ℕ) → AreAlike t f → (vs ws : List SszValue)
    → length vs ≡ length ws → AllByRecursion (Fits t) vs → AllByRecursion (Fits t) ws
    → sum_by f vs ≡ sum_by f ws
sums_alike t f alike [] [] count all others = refl
sums_alike t f alike [] (w ∷ ws) count all others = absurd (omega arith)
sums_alike t f alike (v ∷ vs) [] count all others = absurd (omega arith)
sums_alike t f alike (v ∷ vs) (w ∷ ws) count all others = sum_by-cons f v vs
    ∙ ap₂ (λ a b. a + b) (alike v w all.0 others.0)
    (sums_alike t f alike vs ws (omega arith) all.1 others.1)
    ∙ sym (sum_by-cons f w ws)

-- with a part of no fixed size there is none
none_first : (size : Option ℕ) (sizes : List (Option ℕ)) → size ≡ None
    → total_size (size ∷ sizes) ≡ None
none_first (Some z) sizes none = cc
none_first None sizes none = refl

none_later : (size : Option ℕ) (sizes : List (Option ℕ)) → total_size sizes ≡ None
    → total_size (size ∷ sizes) ≡ None
none_later (Some z) sizes none = ap (option_map (λ rest. z + rest)) none
none_later None sizes none = refl

-- the law for two values of a type, and for the values of fields
pub record Alike (t : SszType) (v w : SszValue) : Type 0 where
  pub pairs : pairs t v ≡ pairs t w
  pub nodes : new_nodes t v ≡ new_nodes t w

pub record FieldsAlike (fs : Fields) (vs ws : List SszValue) : Type 0 where
  pub count : length vs ≡ length ws
  pub pairs : field_pairs fs vs ≡ field_pairs fs ws
  pub nodes : field_nodes fs vs ≡ field_nodes fs ws

mutual
  -- that a type has a fixed size is said by: it is not so that it has none
  pub alike : (t : SszType) → (fixed_size t ≡ None → ⊥) → (v w : SszValue) → Fits t v → Fits t w
      → Alike t v w
  alike (uint w) sized v u fit other = record { pairs = refl; nodes = refl }
  alike boolean sized v u fit other = record { pairs = refl; nodes = refl }
  alike (bitvector n) sized (bits bs) (bits cs) fit other =
      let chunks = ap (λ k. (k + 255) / 256) (fit ∙ sym other) in
      record {
        pairs = ap (merkle_pairs (depth (bitvector n))) chunks;
        nodes = ap (λ k. merkle_pairs (depth (bitvector n)) k + k) chunks;
      }
  alike (bitvector n) sized (bits bs) _ fit other = absurd other
  alike (bitvector n) sized _ u fit other = absurd fit
  alike (vector t n) sized (sequence vs) (sequence ws) fit other =
      let one = alike t (λ none. sized (ap (option_map (λ z. n * z)) none)) in
      let count = fit.0 ∙ sym other.0 in
      record {
        pairs = ap₂ (λ k s. merkle_pairs (depth (vector t n)) (element_chunks (basic_size t) k) + s)
            count
            (sums_alike t (pairs t) (λ v w a b. (one v w a b).pairs) (items vs) (items ws) count
            fit.1 other.1);
        nodes = ap₂ (λ k s. merkle_pairs (depth (vector t n)) (element_chunks (basic_size t) k)
            + element_nodes (basic_size t) k s) count
            (sums_alike t (new_nodes t) (λ v w a b. (one v w a b).nodes) (items vs) (items ws)
            count fit.1 other.1);
      }
  alike (vector t n) sized (sequence vs) _ fit other = absurd other
  alike (vector t n) sized _ u fit other = absurd fit
  alike (container fs) sized (sequence vs) (sequence ws) fit other =
      let same = fields_alike fs sized (items vs) (items ws) fit other in
      record {
        pairs = ap₂ (λ k s. merkle_pairs (depth (container fs)) k + s) same.count same.pairs;
        nodes = ap₂ (λ k s. merkle_pairs (depth (container fs)) k + s) same.count same.nodes;
      }
  alike (container fs) sized (sequence vs) _ fit other = absurd other
  alike (container fs) sized _ u fit other = absurd fit
  alike (list t limit) sized v u fit other = absurd (sized refl)
  alike (bitlist limit) sized v u fit other = absurd (sized refl)
  alike (union os) sized v u fit other = absurd (sized refl)

  fields_alike : (fs : Fields) → (total_size (part_sizes fs) ≡ None → ⊥)
      → (vs ws : List SszValue) → FitFields fs vs → FitFields fs ws → FieldsAlike fs vs ws
  fields_alike no_fields sized [] [] fit other =
      record { count = refl; pairs = refl; nodes = refl }
  fields_alike no_fields sized [] (w ∷ ws) fit other = absurd other
  fields_alike no_fields sized (v ∷ vs) ws fit other = absurd fit
  fields_alike (field name t fs) sized (v ∷ vs) (w ∷ ws) fit other =
      let rest = fields_alike fs
      (λ none. sized (none_later (fixed_size t) (part_sizes fs) none)) vs ws fit.1 other.1 in
      let first = alike t (λ none. sized (none_first (fixed_size t) (part_sizes fs) none)) v w
      fit.0 other.0 in
      record {
        count = ap suc rest.count;
        pairs = ap₂ (λ a b. a + b) first.pairs rest.pairs;
        nodes = ap₂ (λ a b. a + b) first.nodes rest.nodes;
      }
  fields_alike (field name t fs) sized (v ∷ vs) [] fit other = absurd other
  fields_alike (field name t fs) sized [] ws fit other = absurd fit

-- a type of this size has one
pub has_size : (size : Option ℕ) (z : ℕ) → size ≡ Some z → size ≡ None → ⊥
has_size size z is none = none-some z (sym none ∙ is)

pub is_sized : (size : Option ℕ) → IsSome size → size ≡ None → ⊥
is_sized size some none = false≢true (ap is_some (sym none) ∙ some)

-- what bytes without a fault stand for
parts_fit : (format : Format) (t : SszType) → IsLegal format t → (s : ℕ) (parts : List Scope)
    → AreInputs parts → alike_fault (first_fault t) s parts ≡ None
    → AllByRecursion (Fits t) (map (value_in t) (scope_bytes parts))
parts_fit format t legal s [] all h = tt
parts_fit format t legal s (part ∷ parts) all h =
    let both = no_faults (first_fault t (s + part.0) part.1)
    (alike_fault (first_fault t) s parts) h in (
      ((agrees format t legal).only (s + part.0) part.1 all.0 both.0).fits,
      parts_fit format t legal s parts all.1 both.1,
    )

pub elements_fit : (format : Format) (t : SszType) → IsLegal format t → (size : Option ℕ)
    (count : ℕ) (b : List ℕ) → IsInput b → fixed_size t ≡ size
    → elements_fault (first_fault t) size count 0 b ≡ None
    → AllByRecursion (Fits t) (element_values t count b)
elements_fit format t legal size count b input is h =
    let sizes : List (Option ℕ) = replicate count size in
    let both = no_faults (head_fault (replicate count size) 0 b)
    (alike_fault (first_fault t) 0 (scopes (replicate count size) 0 b)) h in
    subst (λ z. AllByRecursion (Fits t) (map (value_in t) (elements_in z count b))) (sym is)
    (parts_fit format t legal 0 (scopes sizes 0 b) (AreInputs-scopes sizes 0 b input) both.1)

-- an element, as it was found, has no fault
pub found_faultless : (format : Format) (t : SszType) → IsLegal format t → (size : Option ℕ)
    (count : ℕ) (b : List ℕ) (i : ℕ) (part : List ℕ) → IsInput b
    → elements_fault (first_fault t) size count 0 b ≡ None → i < count
    → part ≡ get_or (elements_in size count b) i [] → IsFaultless t part
found_faultless format t legal size count b i part input h below is =
    subst (IsFaultless t) (sym is) (element_faultless format t legal size count b i input h below)

-- and its value is one of the type
pub found_fit : (format : Format) (t : SszType) → IsLegal format t → (part : List ℕ)
    → IsFaultless t part → Fits t (value_in t part)
found_fit format t legal part good = ((agrees format t legal).only 0 part good.input good.none).fits

-- the parts of such values are like one another
module _ {X : Type 0} (P : X → Type 0)
  where
    pub all_drop : (n : ℕ) (xs : List X) → AllByRecursion P xs → AllByRecursion P (drop n xs)
    all_drop zero xs all = all
    all_drop (suc n) [] all = tt
    all_drop (suc n) (x ∷ xs) all = all_drop n xs all.1

    pub all_take : (n : ℕ) (xs : List X) → AllByRecursion P xs → AllByRecursion P (take n xs)
    all_take zero xs all = tt
    all_take (suc n) [] all = tt
    all_take (suc n) (x ∷ xs) all = (all.0, all_take n xs all.1)

pub parts_alike : (t : SszType) → (fixed_size t ≡ None → ⊥) → (v : SszValue) (vs : List SszValue)
    → Fits t v → AllByRecursion (Fits t) vs
    → AllByRecursion (IsLike (part_of_value t v)) (map (part_of_value t) vs)
parts_alike t sized v [] fit all = tt
parts_alike t sized v (w ∷ vs) fit all =
    let same = alike t sized w v all.0 fit in
    ((same.pairs, same.nodes), parts_alike t sized v vs fit all.1)

-- those of the elements behind one
pub elements_alike : (format : Format) (t : SszType) → IsLegal format t → (count : ℕ) (b : List ℕ)
    (i n : ℕ) (part : List ℕ) → IsInput b
    → elements_fault (first_fault t) (fixed_size t) count 0 b ≡ None
    → i < count → part ≡ get_or (elements_in (fixed_size t) count b) i []
    → IsSome (fixed_size t) → AllByRecursion (IsLike (part_of_value t (value_in t part)))
    (take n (drop (i + 1) (map (part_of_value t) (element_values t count b))))
elements_alike format t legal count b i n part input h below is some =
    all_take (IsLike (part_of_value t (value_in t part))) n _
    (all_drop (IsLike (part_of_value t (value_in t part))) (i + 1) _
    (parts_alike t (is_sized (fixed_size t) some) (value_in t part) (element_values t count b)
    (found_fit format t legal part
    (found_faultless format t legal (fixed_size t) count b i part input h below is))
    (elements_fit format t legal (fixed_size t) count b input refl h)))

-- those of the values behind one
pub values_alike : (t : SszType) (vs : List Value) (i n : ℕ) (v : Value)
    → AllByRecursion (IsValue t) vs → IsValue t v → IsSome (fixed_size t)
    → AllByRecursion (IsLike (part_of_value t (value_of v)))
    (take n (drop (i + 1) (map (part_of_value t) (map value_of vs))))
values_alike t vs i n v all is some =
    all_take (IsLike (part_of_value t (value_of v))) n _
    (all_drop (IsLike (part_of_value t (value_of v))) (i + 1) _
    (parts_alike t (is_sized (fixed_size t) some) (value_of v) (map value_of vs) is.fits
    (all_fit t vs all)))
