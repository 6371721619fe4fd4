-- What is given for an option is what its literal, or its default, comes to.
use Rattle.std.proofs.Common.{Bor, ◌≡◌, ◌<◌, ◌^◌, ℕ, List, length, slice_get, Option, Some, None, option_map, Ok, Err, refl, sym, ap, ap₂, subst, ◌∙◌}
use Rattle.ssz_bytes.specs.declared.fault.Fault.{Fault}
use Rattle.ssz_schema.specs.Types.{SszType, Options}
use Rattle.ssz_schema.specs.Paths.{option_type}
use Rattle.ssz_schema.specs.Unfolding.{Types, type_of, options_over}
use Rattle.ssz_value.specs.declared.value.Value.{Value}
use Rattle.ssz_value.specs.Defaults.{default_of}
use Rattle.ssz_value.specs.Faults.{first_fault, option_fault}
use Rattle.ssz_value.specs.Reading.{value_in}
use Rattle.ssz_value.specs.Suiting.{inner_of}
use Rattle.ssz_edit.specs.declared.given.Given.{Given}
use Rattle.ssz_edit.specs.declared.given.Given.TheVariants.{Bytes}
use Rattle.ssz_edit.specs.Given.{option_value, values_given, IsOfOption}
use Rattle.ssz_machine.specs.Rules.{◌>>◌, bad_bytes, faultless}
use Rattle.ssz_machine.specs.Editing.{inner_value}
use Rattle.ssz_edit.specs.Inner.{IsDefault, IsLiteral}
use Rattle.ssz_edit.proofs.Optional.{typed, untyped}

module _ (types : Types) (ids : List (Option ℕ)) (k : ℕ) where
  abbrev os : Options
  os = options_over types.trees ids

  -- what the literal has of a fault
  literal_value : (fault : Option Fault) (type : Option SszType) (bytes : List ℕ)
      → option_fault os k 0 bytes ≡ fault → option_type os k ≡ type
      → inner_value os k (Some bytes)
      ≡ (faultless fault >> Ok (option_map (λ t. value_in t bytes) type))
  literal_value fault type bytes f t =
      ap₂ (λ e u. faultless e >> Ok (option_map (λ t. value_in t bytes) u)) f t

  pub literal_faulty : (fault : Fault) (bytes : List ℕ) → option_fault os k 0 bytes ≡ Some fault
      → inner_value os k (Some bytes) ≡ Err (bad_bytes fault)
  literal_faulty fault bytes is = literal_value (Some fault) (option_type os k) bytes is refl

  pub literal_read : (option : Option ℕ) (bytes : List ℕ) (inner : Option Given)
      → slice_get ids k ≡ Some option → length bytes < 2 ^ 32
      → option_fault os k 0 bytes ≡ None → IsLiteral option bytes inner
      → IsOfOption types option inner
      × (inner_value os k (Some bytes) ≡ Ok (option_value types option inner))
  literal_read (Some id) bytes (Some (Bytes b)) there short none is =
      let t = type_of types id in
      let option = typed types.trees ids k id there in (
        (
          subst (λ (c : List ℕ). length c < 2 ^ 32) (sym is) short,
          ap (first_fault t 0) is ∙ sym (option.fault bytes) ∙ none,
        ),
        literal_value None (Some t) bytes none option.type
            ∙ ap (λ c. Ok (Some (value_in t c))) (sym is),
      )
  literal_read None bytes None there short none is =
      (tt, literal_value None None bytes none (untyped types.trees ids k there).type)
  literal_read _ bytes _ there short none is = absurd is

  pub default_read : (option : Option ℕ) (inner : Option (Bor Value))
      → slice_get ids k ≡ Some option → IsDefault types option (inner_of inner)
      → IsOfOption types option (values_given inner)
      × (inner_value os k None ≡ Ok (option_value types option (values_given inner)))
  default_read (Some id) (Some v) there is =
      let option = typed types.trees ids k id there in (
        is.0,
        ap (λ t. Ok (option_map default_of t)) option.type ∙ ap (λ x. Ok (Some x)) (sym is.1),
      )
  default_read None None there is =
      (tt, ap (λ t. Ok (option_map default_of t)) (untyped types.trees ids k there).type)
  default_read _ _ there is = absurd is
