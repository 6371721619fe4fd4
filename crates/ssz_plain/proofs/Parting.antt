-- Parts of values, read.
use Rattle.std.proofs.Common.{ℕ, ◌≡◌, ◌<◌, ◌≤◌, Bool, true, false, List, [], ◌∷◌, length, get_or, slice_get, Vec, Global, Option, Some, None, option_map, refl, sym, ap, ◌∙◌, arith}
use Rattle.std.proofs.lemmas.List.{length-map}
use Rattle.std.specs.Prelude.{option_and_then, is_some, if◌then◌else◌, IsSome, IfSome, Result, Ok, Err}
use Rattle.std.proofs.lemmas.Option.{slice_get-get_or, slice_get_past}
use Rattle.ssz_schema.specs.declared.path.PathStep.{PathStep}
use Rattle.ssz_schema.specs.declared.path.PathStep.TheVariants.{Field, Index, Len, Selector, Option as Chosen}
use Rattle.ssz_schema.specs.Types.{SszType, uint, boolean, container, vector, list, bitvector, bitlist, union}
use Rattle.ssz_schema.specs.Paths.{Path, path_type, step_type}
use Rattle.ssz_value.specs.declared.value.Value.{Value}
use Rattle.ssz_value.specs.declared.value.Value.TheVariants.{Bytes, Seq}
use Rattle.ssz_value.specs.Values.{SszValue, number, truth}
use Rattle.ssz_value.specs.Standing.{value_of}
use Rattle.ssz_value.proofs.ValueLemmas.{seq_is, bytes_are}
use Rattle.ssz_schema.proofs.PathLemmas.{and_then_parts}
use Rattle.ssz_value.specs.declared.path_fault.PathFault.{PathFault}
use Rattle.ssz_value.specs.declared.path_fault.PathFault.TheVariants.{BadPath, Absent}
use Rattle.ssz_value.specs.Parts.{numbered, part_at, step_part, part, or_absent, part_or_fault, fault_without}
use Rattle.ssz_plain.specs.declared.lending.PartRef.{PartRef}
use Rattle.ssz_plain.specs.declared.lending.PartRef.TheVariants.{Held, Number, Bit}
use Rattle.ssz_plain.specs.Lent.{part_value, IsPartOf, IsTold}
use Rattle.ssz_plain.proofs.Alike.{items_alike}

-- element i of a run of which a value is made
pub part_there : {X : Type 0} (to : X → SszValue) (f : List X → SszValue) (i : ℕ)
    (run xs : List X) (x : X) (v : SszValue) → v ≡ f run
    → part_at (Index i) (f run) ≡ option_map to (slice_get run i) → xs ≡ run → i < length xs
    → x ≡ get_or xs i x → Some (to x) ≡ part_at (Index i) v
part_there to f i run xs x v is item same inside there =
    sym (ap (part_at (Index i)) is ∙ item ∙ ap (λ ys. option_map to (slice_get ys i)) (sym same)
    ∙ ap (option_map to) (slice_get-get_or xs i x inside ∙ ap (λ y. Some y) (sym there)))

-- past its end
pub part_past : {X : Type 0} (to : X → SszValue) (f : List X → SszValue) (i : ℕ)
    (run xs : List X) (v : SszValue) → v ≡ f run
    → part_at (Index i) (f run) ≡ option_map to (slice_get run i) → xs ≡ run → length xs ≤ i
    → None ≡ part_at (Index i) v
part_past to f i run xs v is item same past =
    sym (ap (part_at (Index i)) is ∙ item ∙ ap (λ ys. option_map to (slice_get ys i)) (sym same)
    ∙ ap (option_map to) (slice_get_past xs i past))

-- how many elements there are

pub seq_counted : (parts : Vec Value Global)
    → part_at Len (value_of (Seq parts)) ≡ Some (number (length parts.items))
seq_counted parts = ap (part_at Len) (seq_is parts)
    ∙ ap (λ vs. Some (number (length vs))) (items_alike value_of parts.items)
    ∙ ap (λ n. Some (number n)) (length-map parts.items value_of)

pub bytes_counted : (run : List ℕ)
    → part_at Len (value_of (Bytes run)) ≡ Some (number (length run))
bytes_counted run = ap (part_at Len) (bytes_are run)
    ∙ ap (λ vs. Some (number (length vs))) (items_alike number run)
    ∙ ap (λ n. Some (number n)) (length-map run number)

-- a number and a bit have no parts

part_of_number : (u : SszType) (n : ℕ) (step : PathStep) → step_part u (number n) step ≡ None
part_of_number u n step = go (numbered u step)
  where
    go : (step : PathStep) → part_at step (number n) ≡ None
    go (Field name) = refl
    go (Index i) = refl
    go Len = refl
    go Selector = refl
    go (Chosen k) = refl

part_of_bit : (u : SszType) (b : Bool) (step : PathStep) → step_part u (truth b) step ≡ None
part_of_bit u b step = go (numbered u step)
  where
    go : (step : PathStep) → part_at step (truth b) ≡ None
    go (Field name) = refl
    go (Index i) = refl
    go Len = refl
    go Selector = refl
    go (Chosen k) = refl

none_beyond : (o : Option SszType) (step : PathStep) (rest : Path) (v : SszValue)
    → ((u : SszType) → step_part u v step ≡ None) → (t : SszType)
    → option_and_then (λ u. option_and_then (λ w. part u w rest) (step_part t v step)) o ≡ None
none_beyond None step rest v none t = refl
none_beyond (Some u) step rest v none t =
    ap (option_and_then (λ w. part u w rest)) (none t)

-- no part lies below one that is not held
pub nothing_below : (u : SszType) (found : PartRef) (rest : Path) → IsTold found
    → 0 < length rest → None ≡ part u (part_value found) rest
nothing_below u found [] told more = absurd (omega arith)
nothing_below u (Held v) (step ∷ rest) told more = absurd told
nothing_below u (Number n) (step ∷ rest) told more =
    sym (none_beyond (step_type u step) step rest (number n) (λ s. part_of_number s n step) u)
nothing_below u (Bit b) (step ∷ rest) told more =
    sym (none_beyond (step_type u step) step rest (truth b) (λ s. part_of_bit s b step) u)

-- nor a type
pub no_type_below : (u : SszType) (found : PartRef) (rest : Path) → IsTold found
    → IsPartOf u found → 0 < length rest → path_type u rest ≡ None
no_type_below u found [] told fits more = absurd (omega arith)
no_type_below u (Held v) (step ∷ rest) told fits more = absurd told
no_type_below (uint w) found (step ∷ rest) told fits more = refl
no_type_below boolean found (step ∷ rest) told fits more = refl
no_type_below (container fs) (Number n) (step ∷ rest) told fits more = absurd fits
no_type_below (vector elem n) (Number m) (step ∷ rest) told fits more = absurd fits
no_type_below (list elem n) (Number m) (step ∷ rest) told fits more = absurd fits
no_type_below (bitvector n) (Number m) (step ∷ rest) told fits more = absurd fits
no_type_below (bitlist n) (Number m) (step ∷ rest) told fits more = absurd fits
no_type_below (union os) (Number n) (step ∷ rest) told fits more = absurd fits
no_type_below (container fs) (Bit b) (step ∷ rest) told fits more = absurd fits
no_type_below (vector elem n) (Bit b) (step ∷ rest) told fits more = absurd fits
no_type_below (list elem n) (Bit b) (step ∷ rest) told fits more = absurd fits
no_type_below (bitvector n) (Bit b) (step ∷ rest) told fits more = absurd fits
no_type_below (bitlist n) (Bit b) (step ∷ rest) told fits more = absurd fits
no_type_below (union os) (Bit b) (step ∷ rest) told fits more = absurd fits

pub nil_rest : (rest : Path) → length rest ≡ 0 → rest ≡ []
nil_rest [] e = refl
nil_rest (step ∷ rest) e = absurd (omega arith)

-- a part that is there

-- its path fits the type
part_fits : (t : SszType) (v : SszValue) (path : Path) (w : SszValue) → part t v path ≡ Some w
    → IsSome (path_type t path)
part_fits t v [] w there = refl
part_fits t v (step ∷ path) w there =
    let typed = and_then_parts
    (λ (u : SszType). option_and_then (λ x. part u x path) (step_part t v step))
    (step_type t step) w there in
    let found = and_then_parts (λ (x : SszValue). part typed.0 x path) (step_part t v step) w
    typed.2 in
    ap (λ (o : Option SszType). is_some (option_and_then (λ u. path_type u path) o)) typed.1
    ∙ part_fits typed.0 found.0 path w found.2

pub part_is_told : (t : SszType) (v : SszValue) (path : Path) (w : SszValue)
    → Some w ≡ part t v path → Ok w ≡ part_or_fault t v path
part_is_told t v path w there =
    sym (ap (λ (b : Bool). if b then or_absent (part t v path) else Err BadPath)
    (part_fits t v path w (sym there)) ∙ ap or_absent (sym there))

-- and one that is not

abbrev failed : PathFault → Result SszValue PathFault
failed fault = Err fault

which_fault : (fits : Bool) → failed (if fits then Absent else BadPath)
    ≡ (if fits then or_absent None else failed BadPath)
which_fault true = refl
which_fault false = refl

pub fault_is_told : (t : SszType) (v : SszValue) (path : Path) (fault : PathFault)
    → fault ≡ fault_without t path → None ≡ part t v path → failed fault ≡ part_or_fault t v path
fault_is_told t v path fault is none =
    ap failed is ∙ which_fault (is_some (path_type t path))
    ∙ ap (λ (o : Option SszValue).
    if is_some (path_type t path) then or_absent o else failed BadPath) none

-- nothing is said of a part that is not there
pub nothing_is_said : (t : Option SszType) → IfSome t (λ u. Unit {0})
nothing_is_said None = tt
nothing_is_said (Some u) = tt
