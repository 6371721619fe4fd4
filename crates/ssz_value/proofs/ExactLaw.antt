-- Bytes without a fault are the encoding of one value, and of only one.
use Rattle.std.proofs.Common.{ℕ, ◌^◌, ◌<◌, ◌≡◌, List, length, None, refl, sym, ap, ◌∙◌, subst, arith}
use Rattle.ssz_schema.specs.format.Format.{Format}
use Rattle.ssz_schema.specs.Types.{SszType, Fields, Options, uint, boolean, container, vector, list, bitvector, bitlist, union, no_fields, field, no_options, none_option, option}
use Rattle.ssz_schema.specs.Legal.{IsLegal, AreLegalFields, AreLegalOptions}
use Rattle.ssz_schema.specs.Sizes.{field_count, part_sizes}
use Rattle.ssz_value.specs.Values.{SszValue}
use Rattle.ssz_value.specs.Faults.{first_fault}
use Rattle.ssz_value.specs.Reading.{value_in}
use Rattle.ssz_value.specs.Laws.{Encodes, FaultlessIsRead, FaultlessWhereEncoded, OneValue}
use Rattle.ssz_value.proofs.Agree.{Agrees, FieldsAgree, OptionsAgree, IsInput}
use Rattle.ssz_value.proofs.Basic.{Agrees-uint, Agrees-boolean, Agrees-bitvector, Agrees-bitlist}
use Rattle.ssz_value.proofs.Sequences.{Agrees-vector, Agrees-list}
use Rattle.ssz_value.proofs.Composite.{FieldsAgree-none, FieldsAgree-field, Agrees-container, OptionsAgree-none, OptionsAgree-option, OptionsAgree-none_option, Agrees-union}

length-part_sizes : (fs : Fields) → length (part_sizes fs) ≡ field_count fs
length-part_sizes no_fields = refl
length-part_sizes (field name t fs) = omega (arith, length-part_sizes fs)

mutual
  pub agrees : (format : Format) (t : SszType) → IsLegal format t → Agrees t
  agrees format (uint w) legal = Agrees-uint w
  agrees format boolean legal = Agrees-boolean
  agrees format (container fs) legal =
      Agrees-container fs (omega (arith, length-part_sizes fs, legal.0))
      (fields_agree format fs legal.1)
  agrees format (vector elem n) legal = Agrees-vector elem n legal.1 (agrees format elem legal.0)
  agrees format (list elem limit) legal = Agrees-list elem limit (agrees format elem legal.0)
  agrees format (bitvector n) legal = Agrees-bitvector n legal.0
  agrees format (bitlist limit) legal = Agrees-bitlist limit
  agrees format (union os) legal = Agrees-union os (options_agree format os legal.3)

  pub fields_agree : (format : Format) (fs : Fields) → AreLegalFields format fs → FieldsAgree fs
  fields_agree format no_fields legal = FieldsAgree-none
  fields_agree format (field name t fs) legal =
      FieldsAgree-field name t fs (agrees format t legal.1) (fields_agree format fs legal.2)

  pub options_agree : (format : Format) (os : Options) → AreLegalOptions format os → OptionsAgree os
  options_agree format no_options legal = OptionsAgree-none
  options_agree format (none_option os) legal =
      OptionsAgree-none_option os (options_agree format os legal)
  options_agree format (option t os) legal =
      OptionsAgree-option t os (agrees format t legal.0) (options_agree format os legal.1)

faultless_of : (format : Format) (t : SszType) (b : List ℕ) → IsLegal format t → length b < 2 ^ 32
    → (v : SszValue) → Encodes t v b → first_fault t 0 b ≡ None
faultless_of format t b legal short v h =
    ap (first_fault t 0) (sym h.bytes)
    ∙ ((agrees format t legal).known 0 v h.fits
    (subst (λ (bytes : List ℕ). length bytes < 2 ^ 32) (sym h.bytes) short)).faultless

pub faultless_where_encoded : FaultlessWhereEncoded
faultless_where_encoded format t b legal bytes short =
    let input : IsInput b = record { bytes = bytes; short = short } in (
      (λ e. let written = (agrees format t legal).only 0 b input e in
          (value_in t b, record { fits = written.fits; bytes = written.bytes })),
      (λ found. faultless_of format t b legal short found.0 found.1),
    )

pub one_value : OneValue
one_value format t b v w legal short first second =
    let read = (agrees format t legal).known 0 v first.fits
    (subst (λ (bytes : List ℕ). length bytes < 2 ^ 32) (sym first.bytes) short) in
    let again = (agrees format t legal).known 0 w second.fits
    (subst (λ (bytes : List ℕ). length bytes < 2 ^ 32) (sym second.bytes) short) in
    sym read.value ∙ ap (value_in t) (first.bytes ∙ sym second.bytes) ∙ again.value

pub faultless_is_read : FaultlessIsRead
faultless_is_read format t b legal bytes short e =
    let input : IsInput b = record { bytes = bytes; short = short } in
    let written = (agrees format t legal).only 0 b input e in
    record { fits = written.fits; bytes = written.bytes }
