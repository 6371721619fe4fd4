-- The document that a schema file writes, over the data of a JSON value (this project's form).
-- The members of an object stand in the order of their keys, each key once.
use Rattle.std.specs.Prelude.{◌&&◌, ◌==◌, ℕ, List, if◌then◌else◌, Option, Some, None, option_map, option_and_then, codes}
use Rattle.std.specs.Str.{bytes_eq}
use Rattle.serde_json.specs.Data.{unsigned, Data, null, number, string, array, object, Items, no_items, item, Members, no_members, member}
use Rattle.ssz_schema.specs.format.Format.{Format}
use Rattle.ssz_schema.specs.format.Format.TheVariants.{One, Two}
use Rattle.ssz_schema.specs.Forms.{TypeForm, FieldForms, OptionForms, named, container_form, vector_form, list_form, bitvector_form, bitlist_form, union_form, no_field_forms, field_form, no_option_forms, none_form, option_form}

-- a format, and the definitions in order, each a name and a type form
pub record Document : Type 0 where
  pub format : Format
  pub definitions : FieldForms

-- {"bitvector": N} and {"bitlist": N}
abbrev pub number_form : List ℕ → ℕ → Option TypeForm
number_form key n =
    if bytes_eq key (codes "bitvector") then Some (bitvector_form n)
    else if bytes_eq key (codes "bitlist") then Some (bitlist_form n)
    else None

-- {"container": fields}, {"vector": [form, N]}, {"list": [form, N]} and {"union": options}
abbrev pub array_form : List ℕ → Option FieldForms → Option (TypeForm × ℕ) → Option OptionForms
    → Option TypeForm
array_form key fields sized options =
    if bytes_eq key (codes "container") then option_map container_form fields
    else if bytes_eq key (codes "vector") then option_map (λ p. vector_form p.0 p.1) sized
    else if bytes_eq key (codes "list") then option_map (λ p. list_form p.0 p.1) sized
    else if bytes_eq key (codes "union") then option_map union_form options
    else None

abbrev mutual
  -- a type form: a name, or an object with one member, whose value is a whole number or an array
  pub written_form : Data → Option TypeForm
  written_form (string name) = Some (named name)
  written_form (object (member key (number (unsigned n)) no_members)) = number_form key n
  written_form (object (member key (array items) no_members)) =
      array_form key (written_fields items) (written_sized items) (written_options items)
  written_form _ = None

  -- fields or definitions: arrays of a name and a form
  pub written_fields : Items → Option FieldForms
  written_fields no_items = Some no_field_forms
  written_fields (item (array (item (string name) (item form no_items))) rest) =
      option_and_then (λ f. option_map (field_form name f) (written_fields rest))
      (written_form form)
  written_fields _ = None

  -- a form and a whole number
  pub written_sized : Items → Option (TypeForm × ℕ)
  written_sized (item form (item (number (unsigned n)) no_items)) =
      option_map (λ f. (f, n)) (written_form form)
  written_sized _ = None

  -- options: forms, or null for None
  pub written_options : Items → Option OptionForms
  written_options no_items = Some no_option_forms
  written_options (item null rest) = option_map none_form (written_options rest)
  written_options (item form rest) =
      option_and_then (λ f. option_map (option_form f) (written_options rest)) (written_form form)

-- the format of the number 1 or 2
abbrev pub format_numbered : ℕ → Option Format
format_numbered n = if n == 1 then Some One else if n == 2 then Some Two else None

-- the values of an object's members, where these are "ssz" and "types" alone
abbrev pub ssz_and_types : Members → Option (Data × Data)
ssz_and_types (member first ssz (member second types no_members)) =
    if bytes_eq first (codes "ssz") && bytes_eq second (codes "types") then Some (ssz, types)
    else None
ssz_and_types _ = None

-- the document of a format's number and an array of definitions
abbrev pub document_of : Data → Data → Option Document
document_of (number (unsigned n)) (array items) =
    option_and_then (λ f. option_map (λ fields. record { format = f; definitions = fields })
    (written_fields items)) (format_numbered n)
document_of _ _ = None

-- the document that a value writes
abbrev pub written_document : Data → Option Document
written_document (object members) =
    option_and_then (λ p. document_of p.0 p.1) (ssz_and_types members)
written_document _ = None
