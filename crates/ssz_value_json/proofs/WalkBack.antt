-- The JSON of a value of a legal type is read back from its text, and walked to that value.
use Rattle.std.proofs.Common.{◌≤◌, arith, lit≤}
use Rattle.serde_json.specs.Read.{max_depth}
use Rattle.ssz_schema.specs.format.Format.{Format}
use Rattle.ssz_schema.specs.Legal.{IsLegal, AreLegalFields, AreLegalOptions, most_nesting}
use Rattle.ssz_schema.specs.Sizes.{nesting}
use Rattle.ssz_schema.specs.Types.{SszType, Fields, Options, uint, boolean, container, vector, list, bitvector, bitlist, union, no_fields, field, no_options, none_option, option}
use Rattle.ssz_value.specs.Values.{SszValue, Fits}
use Rattle.ssz_json_text.specs.Text.{json_of}
use Rattle.ssz_value_json.proofs.ReadBack.{ReadsBack}
use Rattle.ssz_value_json.proofs.BackWords.{BackLaw, deeper}
use Rattle.ssz_value_json.proofs.BackStrings.{bitlist_back, bitvector_back, boolean_back, uint_back}
use Rattle.ssz_value_json.proofs.BackSequences.{list_back, vector_back}
use Rattle.ssz_value_json.proofs.BackContainers.{FieldsBack, container_back, field_back, no_fields_back}
use Rattle.ssz_value_json.proofs.BackUnions.{OptionsBack, no_options_back, none_option_back, option_back, union_back}

mutual
  pub back_law : (format : Format) (t : SszType) → IsLegal format t → BackLaw t
  back_law format (uint w) legal = uint_back w
  back_law format boolean legal = boolean_back
  back_law format (container fs) legal =
      container_back fs (fields_back format fs legal.1) legal.2
  back_law format (vector t n) legal = vector_back t n (back_law format t legal.0)
  back_law format (list t limit) legal = list_back t limit (back_law format t legal.0)
  back_law format (bitvector n) legal = bitvector_back n
  back_law format (bitlist limit) legal = bitlist_back limit
  back_law format (union os) legal =
      union_back os (options_back format os legal.3) legal.1

  fields_back : (format : Format) (fs : Fields) → AreLegalFields format fs → FieldsBack fs
  fields_back format no_fields legal = no_fields_back
  fields_back format (field name t fs) legal =
      field_back name t fs legal.0 (back_law format t legal.1) (fields_back format fs legal.2)

  options_back : (format : Format) (os : Options) → AreLegalOptions format os → OptionsBack os
  options_back format no_options legal = no_options_back
  options_back format (none_option os) legal =
      none_option_back os (options_back format os legal)
  options_back format (option t os) legal =
      option_back t os (back_law format t legal.0) (options_back format os legal.1)

-- the nesting of a legal type
nests : (format : Format) (t : SszType) → IsLegal format t → nesting t ≤ most_nesting
nests format (uint w) legal = lit≤ tt
nests format boolean legal = lit≤ tt
nests format (container fs) legal = legal.3.nesting
nests format (vector t n) legal = legal.2.nesting
nests format (list t limit) legal = legal.2.nesting
nests format (bitvector n) legal = legal.1.nesting
nests format (bitlist limit) legal = legal.1.nesting
nests format (union os) legal = legal.4.nesting

pub shallow_back : (format : Format) (t : SszType) (v : SszValue) → IsLegal format t → Fits t v
    → ReadsBack max_depth (json_of t v)
shallow_back format t v legal fit =
    deeper (nesting t) max_depth (json_of t v) (omega (arith, nests format t legal))
    ((back_law format t legal).back v fit)
