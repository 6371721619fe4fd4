-- What the values inside the crate stand for, and what its readers answer.
use Rattle.std.specs.Prelude.{ℕ, ◌≡◌, List, map, Option, Some, None, option_map, Result, Ok, Err}
use Rattle.serde_json.specs.Data.{Data}
use Rattle.serde_json.specs.Errors.{IsMemory}
use Rattle.serde_json.specs.View.{view}
use Rattle.serde_json.specs.declared.error.Error.{Error}
use Rattle.serde_json.specs.declared.value.Value.{Value}
use Rattle.ssz_schema.specs.expr.TypeExpr.{TypeExpr}
use Rattle.ssz_schema.specs.Forms.{FieldForms, OptionForms, form_of, field_forms, option_forms}
use Rattle.ssz_schema_json.specs.declared.document.Definitions.{Definitions}
use Rattle.ssz_schema_json.specs.declared.fault.SchemaRead.{SchemaRead}
use Rattle.ssz_schema_json.specs.declared.fault.SchemaRead.TheVariants.{NotJson, Shape, Def, Memory}
use Rattle.ssz_schema_json.specs.Document.{Document}

abbrev pub fields_view : List (List ℕ × TypeExpr) → FieldForms
fields_view fields = field_forms (map (λ p. (p.0, form_of p.1)) fields)

abbrev pub options_view : List (Option TypeExpr) → OptionForms
options_view options = option_forms (map (option_map form_of) options)

abbrev pub document_view : Definitions → Document
document_view d = record { format = d.format; definitions = fields_view d.items.items }

-- the value read, or none, unless memory runs out
abbrev pub ReadsSchemaJson : Result Value SchemaRead → Option Data → Type 0
ReadsSchemaJson (Ok value) json = json ≡ Some (view value)
ReadsSchemaJson (Err NotJson) json = json ≡ None
ReadsSchemaJson (Err Shape) json = ⊥
ReadsSchemaJson (Err (Def number fault)) json = ⊥
ReadsSchemaJson (Err Memory) json = Unit {0}

-- want of memory, or another error
abbrev pub IsSchemaFaultOf : Error → SchemaRead → Type 0
IsSchemaFaultOf error Memory = IsMemory error
IsSchemaFaultOf error NotJson = ¬ (IsMemory error)
IsSchemaFaultOf error _ = ⊥

-- the answer stands for what is written, or nothing is, unless memory runs out
abbrev pub GivesView : {A B : Type 0} → (A → B) → Result A SchemaRead → Option B → Type 0
GivesView seen (Ok x) written = written ≡ Some (seen x)
GivesView seen (Err NotJson) written = ⊥
GivesView seen (Err Shape) written = written ≡ None
GivesView seen (Err (Def number fault)) written = ⊥
GivesView seen (Err Memory) written = Unit {0}
