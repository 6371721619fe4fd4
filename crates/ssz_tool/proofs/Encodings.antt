-- The encoding of a part, by what slices answer.
use Rattle.std.proofs.Common.{◌≡◌, ℕ, ◌<◌, ◌≤◌, List, length, refl, sym, ap, ◌∙◌, Option, Some, None, Ok, Err}
use Rattle.std.specs.Result.{result_map_both}
use Rattle.std.proofs.lemmas.Bool.{lt-ltb, le-ltb}
use Rattle.ssz_bytes.specs.declared.fault.Fault.{Fault}
use Rattle.ssz_schema.specs.Paths.{Path, path_type}
use Rattle.ssz_schema.specs.Types.{SszType}
use Rattle.ssz_slices.specs.Part.{Part, opened, part_reached, whole, with_value}
use Rattle.ssz_value.specs.Encoding.{serialize}
use Rattle.ssz_value.specs.Faults.{first_fault}
use Rattle.ssz_value.specs.Parts.{or_absent, part, part_or_fault}
use Rattle.ssz_value.specs.Reading.{value_in}
use Rattle.ssz_value.specs.Values.{SszValue}
use Rattle.ssz_value.specs.declared.path_fault.PathFault.{PathFault}
use Rattle.ssz_value.specs.declared.path_fault.PathFault.TheVariants.{Absent}
use Rattle.ssz_tool.specs.Commands.{encoding_in}
use Rattle.ssz_tool.specs.Plans.{gives, refuses, ◌>>=◌}
use Rattle.ssz_tool.specs.declared.line.Line.TheVariants as line

-- the whole of bytes that has been opened
opened-is : (t : SszType) (b : List ℕ) (found : Part) → Ok found ≡ opened t b
    → (first_fault t 0 b ≡ None) × (found ≡ whole t b)
opened-is t b found is = by (first_fault t 0 b) refl
  where
    by : (o : Option Fault) → first_fault t 0 b ≡ o
        → (first_fault t 0 b ≡ None) × (found ≡ whole t b)
    by None none =
        let at : Ok found ≡ Ok (whole t b) = is ∙ rw none refl in
        let same : found ≡ whole t b = cc in
        (none, same)
    by (Some fault) some =
        let at : Ok found ≡ Err fault = is ∙ rw some refl in
        cc

-- what is found at a path that fits
pub record IsFound (t : SszType) (b : List ℕ) (path : Path) (form : SszType) (found : Part)
    : Type 0 where
  pub value : part t (value_in t b) path ≡ Some found.value
  pub form_is : found.form ≡ form

module _ (t : SszType) (b : List ℕ) (path : Path) (form : SszType)
    (fits : path_type t path ≡ Some form) where
  -- that the path fits is tested first
  reached-by : (o : Option SszValue) → part t (value_in t b) path ≡ o
      → part_reached (whole t b) path
      ≡ result_map_both (with_value (whole t b) path) (λ fault. fault) (or_absent o)
  reached-by o is =
      let fitting : part_or_fault t (value_in t b) path ≡ or_absent (part t (value_in t b) path) =
      rw fits refl in
      ap (λ r. result_map_both (with_value (whole t b) path) (λ fault. fault) r)
      (fitting ∙ ap or_absent is)

  present : (found : Part) → Ok found ≡ part_reached (whole t b) path → IsFound t b path form found
  present found is = by (part t (value_in t b) path) refl
    where
      by : (o : Option SszValue) → part t (value_in t b) path ≡ o → IsFound t b path form found
      by None none =
          let at : Ok found ≡ Err Absent = is ∙ reached-by None none in
          cc
      by (Some w) some =
          let at : Ok found ≡ Ok (with_value (whole t b) path w) =
          is ∙ reached-by (Some w) some in
          let same : found ≡ with_value (whole t b) path w = cc in
          record {
            value = some ∙ ap (λ (p : Part). Some p.value) (sym same);
            form_is = ap (λ (p : Part). p.form) same ∙ rw fits refl;
          }

  absent : (fault : PathFault) → Err fault ≡ part_reached (whole t b) path
      → part t (value_in t b) path ≡ None
  absent fault is = by (part t (value_in t b) path) refl
    where
      by : (o : Option SszValue) → part t (value_in t b) path ≡ o
          → part t (value_in t b) path ≡ None
      by None none = none
      by (Some w) some =
          let at : Err fault ≡ Ok (with_value (whole t b) path w) =
          is ∙ reached-by (Some w) some in
          cc

-- What the plan of an encoding comes to.
module _ (most : ℕ) (whole_type form : SszType) (path : Path) (b : List ℕ) where
  pub encoding_in-fault : (fault : Fault) → Err fault ≡ opened whole_type b
      → encoding_in most whole_type form path b ≡ refuses (line.Invalid fault)
  unfolding encoding_in ◌>>=◌
  encoding_in-fault fault is = by (first_fault whole_type 0 b) refl
    where
      by : (o : Option Fault) → first_fault whole_type 0 b ≡ o
          → encoding_in most whole_type form path b ≡ refuses (line.Invalid fault)
      by None none =
          let at : Err fault ≡ Ok (whole whole_type b) = is ∙ rw none refl in
          cc
      by (Some other) some =
          let at : Err fault ≡ Err other = is ∙ rw some refl in
          let same : other ≡ fault = cc in
          rw (some, same) refl

  module _ (found : Part) (fits : path_type whole_type path ≡ Some form)
      (is : Ok found ≡ opened whole_type b) where
    pub encoding_in-absent : (fault : PathFault) → Err fault ≡ part_reached found path
        → encoding_in most whole_type form path b ≡ refuses line.Absent
    unfolding encoding_in ◌>>=◌
    encoding_in-absent fault none =
        let whole_is = opened-is whole_type b found is in
        let gone = absent whole_type b path form fits fault
        (none ∙ ap (λ (p : Part). part_reached p path) whole_is.1) in
        rw (whole_is.0, gone) refl

    pub encoding_in-long : (there : Part) → Ok there ≡ part_reached found path
        → most < length (serialize there.form there.value)
        → encoding_in most whole_type form path b ≡ refuses line.TooLong
    unfolding encoding_in ◌>>=◌
    encoding_in-long there at long =
        let whole_is = opened-is whole_type b found is in
        let present_is = present whole_type b path form fits there
        (at ∙ ap (λ (p : Part). part_reached p path) whole_is.1) in
        rw (
          whole_is.0,
          present_is.value,
          sym present_is.form_is,
          lt-ltb most (length (serialize there.form there.value)) long,
        ) refl

    pub encoding_in-part : (there : Part) → Ok there ≡ part_reached found path
        → length (serialize there.form there.value) ≤ most
        → encoding_in most whole_type form path b ≡ gives (serialize there.form there.value)
    unfolding encoding_in ◌>>=◌
    encoding_in-part there at few =
        let whole_is = opened-is whole_type b found is in
        let present_is = present whole_type b path form fits there
        (at ∙ ap (λ (p : Part). part_reached p path) whole_is.1) in
        rw (
          whole_is.0,
          present_is.value,
          sym present_is.form_is,
          le-ltb most (length (serialize there.form there.value)) few,
        ) refl
