-- Versions stay values of legal types.
use Rattle.std.proofs.Common.{ℕ, zero, suc, ◌≡◌, ◌<◌, Bool, true, false, cond, List, [], ◌∷◌, Option, Some, None, option_map, is_some, refl, sym, ap, ◌∙◌, subst, arith}
use Rattle.std.specs.Prelude.{Result, Ok, Err, bytes_eq, not, slice_index_or}
use Rattle.std.specs.Option.{option_and_then}
use Rattle.std.specs.Ordering.{nat_cmp, eq_by_cmp}
use Rattle.std.specs.Cmp.Lexicographic.{slice_cmp}
use Rattle.std.specs.declared.cmp.Ordering.{Ordering}
use Rattle.std.specs.declared.cmp.Ordering.TheVariants.{Less, Equal, Greater}
use Rattle.ssz_bytes.specs.declared.fault.Fault.{Fault}
use Rattle.ssz_forms.specs.declared.upgrade_fault.UpgradeFault.{UpgradeFault}
use Rattle.ssz_forms.specs.SameType.{same_type}
use Rattle.ssz_forms.specs.Upgrades.{field_taken, field_value, upgraded, upgraded_fields}
use Rattle.ssz_forms.proofs.TypesAlike.{same_types_are_equal_law}
use Rattle.ssz_gindex.proofs.HelperNodes.{some_from}
use Rattle.ssz_places.specs.PlaceLaws.{IsLegalValue, IsPart}
use Rattle.ssz_places.specs.EditLaws.{IsChoice, element_type}
use Rattle.ssz_places.proofs.MadeEdits.{law_of_made_edits}
use Rattle.ssz_places.proofs.Joining.{law_of_indices}
use Rattle.ssz_places.proofs.Theorems.{law_of_edits, law_of_places}
use Rattle.ssz_schema.specs.format.Format.{Format}
use Rattle.ssz_schema.specs.Indices.{generalized_index, spot}
use Rattle.ssz_schema.specs.Legal.{IsLegal, AreLegalFields, AreLegalOptions}
use Rattle.ssz_schema.specs.Paths.{Path, path_type, field_type, field_number, option_type}
use Rattle.ssz_schema.specs.Sizes.{option_count}
use Rattle.ssz_schema.specs.Types.{SszType, Fields, Options, boolean, container, list, bitlist, union, no_fields, field, no_options, none_option, option}
use Rattle.ssz_value.specs.Values.{SszValue, sequence, values, items, Fits, FitFields}
use Rattle.ssz_value.specs.Defaults.{default_of}
use Rattle.ssz_value.specs.Edits.{Edited, edited}
use Rattle.ssz_value.specs.Faults.{first_fault, option_fault}
use Rattle.ssz_value.specs.Parts.{part}
use Rattle.ssz_value.specs.Reading.{value_in}
use Rattle.ssz_value.proofs.ExactLaw.{faultless_is_read}
use Rattle.ssz_value.proofs.Sequences.{items-values}
use Rattle.ssz_value.proofs.SizeLaw.{default_fits}
use Rattle.ssz_value_json.specs.declared.fault.JsonFault.{JsonFault}
use Rattle.ssz_value_json.specs.Faults.{first_json_fault, value_spelled}
use Rattle.ssz_value_json.proofs.Exact.{faultless_spelled}
use Rattle.ssz_machine.specs.State.{Name, Version, Versions, version_of, with_version, without_version}
use Rattle.ssz_machine.specs.Rules.{Outcome, Row, Effect, ◌>>=◌, ◌>>◌, need, faultless, well_spelled, edits, makes}
use Rattle.ssz_machine.specs.Making.{decoded, spelled, contained}
use Rattle.ssz_machine.specs.Editing.{element_of, inner_value}
use Rattle.ssz_machine.specs.Proofs.{IsSoundVersion}
use Rattle.ssz_machine.specs.Sound.{AreShort, VersionsAreSound}
use Rattle.ssz_machine.proofs.Rowwise.{Does}

-- what is there, where it was needed and found
pub needed : {A : Type 0} (code : ℕ) (o : Option A) (x : A)
    → ◌≡◌ {A = Outcome A} (need code o) (Ok x) → o ≡ Some x
needed code None x is = cc
needed {A} code (Some y) x is = let same : y ≡ x = cc in ap Some same

-- after a test that gives something: what it gave
pub given_is : {A : Type 0} {P : Effect → Type 0} (m : Outcome A) (next : A → Row)
    → ((x : A) → m ≡ Ok x → Does P (next x)) → Does P (m >>= next)
given_is {A} {P} m next each = by m refl
  where
    by : (o : Outcome A) → m ≡ o → Does P (o >>= next)
    by (Ok x) is = each x is
    by (Err refusal) is = record { is = tt }

-- after an edit: what it made
pub edited_is : {P : Effect → Type 0} (versions : Versions) (name : Name) (type : SszType)
    (result : Edited) (charge : ℕ)
    → ((value : SszValue) → result ≡ Ok value → Does P (makes versions name type value charge))
    → Does P (edits versions name type result charge)
edited_is {P} versions name type result charge each = by result refl
  where
    by : (r : Edited) → result ≡ r → Does P (edits versions name type r charge)
    by (Ok value) is = each value is
    by (Err fault) is = record { is = tt }

-- entries

pub sound_put : (format : Format) (name : Name) (version : Version) (versions : Versions)
    → IsSoundVersion format version → VersionsAreSound format versions
    → VersionsAreSound format (with_version name version versions)
sound_put format name version [] is all = (is, tt)
sound_put format name version (e ∷ es) is all =
    by (slice_cmp nat_cmp name e.0) refl (sound_put format name version es is all.1)
  where
    by : (o : Ordering) → slice_cmp nat_cmp name e.0 ≡ o
        → VersionsAreSound format (with_version name version es)
        → VersionsAreSound format (with_version name version (e ∷ es))
    by Less o more = rw o (is, all)
    by Equal o more = rw o (is, all.1)
    by Greater o more = rw o (all.0, more)

pub sound_without : (format : Format) (name : Name) (versions : Versions)
    → VersionsAreSound format versions → VersionsAreSound format (without_version name versions)
sound_without format name [] all = tt
sound_without format name (e ∷ es) all =
    by (not (bytes_eq name e.0)) refl (sound_without format name es all.1)
  where
    by : (kept : Bool) → not (bytes_eq name e.0) ≡ kept
        → VersionsAreSound format (without_version name es)
        → VersionsAreSound format (without_version name (e ∷ es))
    by true is rest = rw is (all.0, rest)
    by false is rest = rw is rest

pub sound_found : (format : Format) (name : Name) (versions : Versions) (version : Version)
    → VersionsAreSound format versions → version_of name versions ≡ Some version
    → IsSoundVersion format version
sound_found format name [] version all found = let differ : None ≡ Some version = found in cc
sound_found format name (e ∷ es) version all found =
    by (eq_by_cmp (slice_cmp nat_cmp) name e.0) (sound_found format name es version all.1) found
  where
    by : (here : Bool) → (version_of name es ≡ Some version → IsSoundVersion format version)
        → cond here (Some e.1) (version_of name es) ≡ Some version → IsSoundVersion format version
    by true rest is = let same : e.1 ≡ version = cc in subst (IsSoundVersion format) same all.0
    by false rest is = rest is

-- what is read

read_as : (t : SszType) (bytes : List ℕ) (fault : Option Fault) (value : SszValue)
    → ◌≡◌ {A = Outcome SszValue} (faultless fault >> Ok (value_in t bytes)) (Ok value)
    → (fault ≡ None) × (value_in t bytes ≡ value)
read_as t bytes None value is = (refl, cc)
read_as t bytes (Some fault) value is = cc

pub decoded_fits : (format : Format) (t : SszType) (bytes : List ℕ) (value : SszValue)
    → IsLegal format t → AreShort bytes → decoded t bytes ≡ Ok value → Fits t value
decoded_fits format t bytes value legal short is =
    let read = read_as t bytes (first_fault t 0 bytes) value is in
    subst (Fits t) read.1 (faultless_is_read format t bytes legal short.0 short.1 read.0).fits

spelled_as : (t : SszType) (bytes : List ℕ) (value : SszValue) → spelled t bytes ≡ Ok value
    → (first_json_fault t bytes ≡ None) × (value_spelled t bytes ≡ value)
spelled_as t bytes value is = by (first_json_fault t bytes) refl is
  where
    by : (fault : Option JsonFault) → first_json_fault t bytes ≡ fault
        → ◌≡◌ {A = Outcome SszValue} (well_spelled fault >> Ok (value_spelled t bytes)) (Ok value)
        → (first_json_fault t bytes ≡ None) × (value_spelled t bytes ≡ value)
    by None none is = (none, cc)
    by (Some fault) some is = cc

pub spelled_fits : (t : SszType) (bytes : List ℕ) (value : SszValue)
    → spelled t bytes ≡ Ok value → Fits t value
spelled_fits t bytes value is =
    let read = spelled_as t bytes value is in
    subst (Fits t) read.1 (faultless_spelled t bytes read.0).fits

-- what an upgrade makes

-- the value of a field that is found by its name
found_fits : (old : Fields) (vs : List SszValue) (name : List ℕ) (u : SszType) (d : SszValue)
    → FitFields old vs → field_type old name ≡ Some u
    → Fits u (slice_index_or vs (field_number old name) d)
found_fits no_fields vs name u d fits found = let differ : None ≡ Some u = found in cc
found_fits (field other t fs) [] name u d fits found = absurd fits
found_fits (field other t fs) (v ∷ vs) name u d fits found =
    by (bytes_eq other name) (found_fits fs vs name u d fits.1) found
  where
    by : (here : Bool)
        → (field_type fs name ≡ Some u → Fits u (slice_index_or vs (field_number fs name) d))
        → cond here (Some t) (field_type fs name) ≡ Some u
        → Fits u (slice_index_or (v ∷ vs) (cond here 0 (suc (field_number fs name))) d)
    by true rest is = let same : t ≡ u = cc in subst (λ x. Fits x v) same fits.0
    by false rest is = rest is

field_fits : (format : Format) (old : Fields) (vs : List SszValue) (name : List ℕ) (t : SszType)
    → FitFields old vs → IsLegal format t → Fits t (field_value vs t (field_taken old name t))
field_fits format old vs name t fits legal = by (field_type old name) refl
  where
    same_fits : (u : SszType) (same : Bool) → same_type u t ≡ same → field_type old name ≡ Some u
        → Fits t (field_value vs t (cond same (Some (field_number old name)) None))
    same_fits u true same found =
        subst (λ x. Fits x (slice_index_or vs (field_number old name) (default_of t)))
        ((same_types_are_equal_law u t).0 same)
        (found_fits old vs name u (default_of t) fits found)
    same_fits u false same found = default_fits format t legal

    by : (o : Option SszType) → field_type old name ≡ o
        → Fits t (field_value vs t
        (option_and_then (λ u. cond (same_type u t) (Some (field_number old name)) None) o))
    by None found = default_fits format t legal
    by (Some u) found = same_fits u (same_type u t) refl found

fields_fit : (format : Format) (old new : Fields) (vs : List SszValue) → FitFields old vs
    → AreLegalFields format new → FitFields new (upgraded_fields old vs new)
fields_fit format old no_fields vs fits legal = tt
fields_fit format old (field name t fs) vs fits legal = (
  field_fits format old vs name t fits legal.1,
  fields_fit format old fs vs fits legal.2,
)

-- a result that is one came without a fault
made_ok : (r : Result SszValue UpgradeFault) (value : SszValue) → contained r ≡ Ok value
    → r ≡ Ok value
made_ok (Ok x) value is = let same : x ≡ value = cc in ap Ok same
made_ok (Err fault) value is = cc

container_fits : (format : Format) (old new : Fields) (v value : SszValue)
    → Fits (container old) v → IsLegal format (container new)
    → upgraded (container old) v (container new) ≡ Ok value → Fits (container new) value
container_fits format old new (sequence vs) value fits legal is =
    let made = upgraded_fields old (items vs) new in
    let same : sequence (values made) ≡ value = cc in
    subst (Fits (container new)) same
    (subst (FitFields new) (sym (items-values made))
    (fields_fit format old new (items vs) fits legal.1))
container_fits format old new _ value fits legal is = absurd fits

pub upgrade_fits : (format : Format) (s t : SszType) (v value : SszValue)
    → Fits s v → IsLegal format t → contained (upgraded s v t) ≡ Ok value → Fits t value
upgrade_fits format (container old) (container new) v value fits legal is =
    container_fits format old new v value fits legal (made_ok _ value is)
upgrade_fits format (container old) t v value fits legal is = cc
upgrade_fits format s t v value fits legal is = cc

-- what an edit makes

-- an edit of a part that leaves it a value of its type leaves the whole one of its own
pub edit_fits : (format : Format) (t : SszType) (v result : SszValue) (path : Path)
    (edit : SszType → SszValue → Edited) → IsLegalValue format t v
    → ((u : SszType) (w x : SszValue) → IsLegalValue format u w → path_type t path ≡ Some u
    → part t v path ≡ Some w → edit u w ≡ Ok x → Fits u x)
    → edited edit t v path ≡ Ok result → Fits t result
edit_fits format t v result path edit value inner is =
    let made = law_of_made_edits t v result path edit is in
    let laws = law_of_indices t path in
    let index = some_from (generalized_index t path) (laws.0 ∙ ap is_some made.type_at) in
    let lies = some_from (spot t path) (laws.1 ∙ ap is_some made.type_at) in
    let at : IsPart t v path made.type made.old index.0 lies.0 = record {
      type_at = made.type_at;
      value = made.value;
      index = index.1;
      spot = lies.1;
    } in
    let place = law_of_places format t v path made.type made.old index.0 lies.0 value at in
    let new = law_of_edits format t v path made.type made.old made.new index.0 lies.0 place.0 edit
    value at place.1.found made.changeable made.edited
    (inner made.type made.old made.new place.1.value made.type_at made.value made.edited) in
    let same : new.0 ≡ result = same_Ok new.0 result (edited edit t v path) new.1.value is in
    subst (Fits t) same new.1.fits
  where
    same_Ok : (x y : SszValue) (r : Edited) → r ≡ Ok x → r ≡ Ok y → x ≡ y
    same_Ok x y r one other = cc

pub element_fits : (format : Format) (u element : SszType) → IsLegal format u
    → element_of u ≡ Some element
    → (element_type u ≡ element) × IsLegal format element
element_fits format (list elem limit) element legal is =
    let same : elem ≡ element = cc in (same, subst (IsLegal format) same legal.0)
element_fits format (bitlist limit) element legal is =
    let same : boolean ≡ element = cc in (same, subst (IsLegal format) same tt)
element_fits format _ element legal is = let differ : None ≡ Some element = is in cc

-- an option one place further on
later_choice : (os : Options) (k : ℕ) (o : Option SszValue) → IsChoice (union os) k o
    → IsChoice (union (none_option os)) (suc k) o
later_choice os k None is = is
later_choice os k (Some x) is = is

later_typed : (t : SszType) (os : Options) (k : ℕ) (o : Option SszValue)
    → IsChoice (union os) k o → IsChoice (union (option t os)) (suc k) o
later_typed t os k None is = is
later_typed t os k (Some x) is = is

default_choice : (format : Format) (os : Options) (k : ℕ) → AreLegalOptions format os
    → k < option_count os → IsChoice (union os) k (option_map default_of (option_type os k))
default_choice format no_options k legal below = absurd (omega arith)
default_choice format (none_option os) zero legal below = tt
default_choice format (option t os) zero legal below = default_fits format t legal.0
default_choice format (none_option os) (suc k) legal below =
    later_choice os k _ (default_choice format os k legal (omega arith))
default_choice format (option t os) (suc k) legal below =
    later_typed t os k _ (default_choice format os k legal.1 (omega arith))

read_choice : (format : Format) (os : Options) (k : ℕ) (bytes : List ℕ)
    → AreLegalOptions format os → k < option_count os → AreShort bytes
    → option_fault os k 0 bytes ≡ None
    → IsChoice (union os) k (option_map (λ t. value_in t bytes) (option_type os k))
read_choice format no_options k bytes legal below short none = absurd (omega arith)
read_choice format (none_option os) zero bytes legal below short none = tt
read_choice format (option t os) zero bytes legal below short none =
    (faultless_is_read format t bytes legal.0 short.0 short.1 none).fits
read_choice format (none_option os) (suc k) bytes legal below short none =
    later_choice os k _ (read_choice format os k bytes legal (omega arith) short none)
read_choice format (option t os) (suc k) bytes legal below short none =
    later_typed t os k _ (read_choice format os k bytes legal.1 (omega arith) short none)

-- what a choice brings in
abbrev pub BringsChoice : Option (List ℕ) → Type 0
BringsChoice None = Unit {0}
BringsChoice (Some bytes) = AreShort bytes

pub choice_fits : (format : Format) (os : Options) (k : ℕ) (literal : Option (List ℕ))
    (inner : Option SszValue) → AreLegalOptions format os → k < option_count os
    → BringsChoice literal → inner_value os k literal ≡ Ok inner → IsChoice (union os) k inner
choice_fits format os k None inner legal below brings is =
    subst (IsChoice (union os) k) (same_Ok _ inner is) (default_choice format os k legal below)
  where
    same_Ok : (x y : Option SszValue) → ◌≡◌ {A = Outcome (Option SszValue)} (Ok x) (Ok y) → x ≡ y
    same_Ok x y e = cc
choice_fits format os k (Some bytes) inner legal below brings is =
    by (option_fault os k 0 bytes) refl is
  where
    by : (fault : Option Fault) → option_fault os k 0 bytes ≡ fault
        → ◌≡◌ {A = Outcome (Option SszValue)}
        (faultless fault >> Ok (option_map (λ t. value_in t bytes) (option_type os k))) (Ok inner)
        → IsChoice (union os) k inner
    by None none is =
        let same : option_map (λ t. value_in t bytes) (option_type os k) ≡ inner = cc in
        subst (IsChoice (union os) k) same
        (read_choice format os k bytes legal below brings none)
    by (Some fault) some is = cc
