-- Definitions added one after another.
use Rattle.std.proofs.Common.{◌≡◌, ℕ, ◌+◌, if◌then◌else◌, List, ◌∷◌, length, sym, ap, ◌∙◌, arith, Some, Result, Ok, Err, Global}
use Rattle.std.proofs.lemmas.List.{nil_from_length}
use Rattle.std.specs.Prelude.{bytes_eq}
use Rattle.std.specs.Vec.Iter.{into_iter_items, into_iter_len, into_iter_steps}
use Rattle.std.specs.declared.vec.IntoIter.{IntoIter}
use Rattle.ssz_schema.specs.expr.TypeExpr.{TypeExpr}
use Rattle.ssz_schema.specs.schema_fault.SchemaFault.{SchemaFault}
use Rattle.ssz_schema.specs.Types.{SszType}
use Rattle.ssz_schema.specs.Forms.{form_of}
use Rattle.ssz_schema.specs.Lookup.{lookup_name}
use Rattle.ssz_schema.specs.Walk.{defined}
use Rattle.ssz_schema.specs.Unfolding.{Types, built_ins, known_in, type_of}
use Rattle.ssz_schema.specs.Adding.{IsFreshSchema, Knows}
use Rattle.ssz_schema_json.specs.declared.document.Definitions.{Definitions}
use Rattle.ssz_schema_json.specs.Schema.{FileFault, at_definition, Named, NamedTypes, HasTypes, ◌>>=◌, in_definition, add_all, schema_of_document}
use Rattle.ssz_schema_json.specs.Views.{document_view, fields_view}

-- what all definitions give
abbrev all_types : Definitions → Result Named FileFault
all_types definitions =
    add_all definitions.format 0 built_ins (fields_view definitions.items.items)

-- the schema of these types
abbrev finished : Definitions → Named → Result NamedTypes FileFault
finished definitions types = Ok (record { format = definitions.format; types = types })

-- The schema has the types of the definitions so far: all definitions give what those that are
-- left give after these.
pub record Adds (definitions : Definitions) (number : ℕ)
    (left : IntoIter (List ℕ × TypeExpr) Global) (schema : Types) : Type 0 where
  pub known : Named
  pub so_far : all_types definitions
      ≡ add_all definitions.format number known (fields_view (into_iter_items left))
  pub format : schema.format ≡ definitions.format
  pub types : (name : List ℕ) → known_in schema name ≡ lookup_name known name
  pub counted : into_iter_len left ≡ length (into_iter_items left)
  pub numbered : number + length (into_iter_items left) ≡ length definitions.items.items

-- before the first definition a schema has the built-in names
pub adds_start : (definitions : Definitions) (left : IntoIter (List ℕ × TypeExpr) Global)
    (schema : Types)
    → IsFreshSchema definitions.format schema → into_iter_items left ≡ definitions.items.items
    → into_iter_len left ≡ length definitions.items.items → Adds definitions 0 left schema
adds_start definitions left schema fresh is counted = record {
  known = built_ins;
  so_far = ap (λ fields. add_all definitions.format 0 built_ins (fields_view fields)) (sym is);
  format = fresh.format;
  types = fresh.names;
  counted = counted ∙ ap length (sym is);
  numbered = let long = ap length is in omega arith;
}

module _ (definitions : Definitions) (number : ℕ)
    (left rest : IntoIter (List ℕ × TypeExpr) Global) (name : List ℕ) (expr : TypeExpr)
    (schema : Types) (adds : Adds definitions number left schema)
    (step : into_iter_steps left (Some (name, expr)) rest) where
  -- what follows the definition's type
  abbrev others : SszType → Result Named FileFault
  others t =
      add_all definitions.format (number + 1) ((name, t) ∷ adds.known)
      (fields_view (into_iter_items rest))

  -- what the definitions that are left give
  abbrev after : Result SszType SchemaFault → Result Named FileFault
  after walk = in_definition number walk >>= others

  -- the walk over the schema is the walk over what is known
  same_walk : defined definitions.format (lookup_name adds.known) name (form_of expr)
      ≡ defined schema.format (known_in schema) name (form_of expr)
  same_walk =
      λ i. defined (sym adds.format i) (λ other. sym (adds.types other) i) name (form_of expr)

  walked : (walk : Result SszType SchemaFault)
      → defined schema.format (known_in schema) name (form_of expr) ≡ walk
      → all_types definitions ≡ after walk
  walked walk is =
      adds.so_far
      ∙ ap (λ fields. add_all definitions.format number adds.known (fields_view fields)) step.0
      ∙ ap after (same_walk ∙ is)

  -- a definition with a fault is the first one, since all before it were added
  pub adds_fault : (fault : SchemaFault)
      → defined schema.format (known_in schema) name (form_of expr) ≡ Err fault
      → schema_of_document (document_view definitions) ≡ Err (at_definition number fault)
  adds_fault fault is =
      ap (λ r. r >>= finished definitions) (walked (Err fault) is)

  -- a definition without a fault is added
  pub adds_more : (new : Types) (id : ℕ)
      → defined schema.format (known_in schema) name (form_of expr) ≡ Ok (type_of new id)
      → Knows name (type_of new id) schema new → Adds definitions (number + 1) rest new
  adds_more new id is knows = record {
    known = (name, type_of new id) ∷ adds.known;
    so_far = walked (Ok (type_of new id)) is;
    format = knows.format ∙ adds.format;
    types = λ other. knows.known other
        ∙ ap (λ before. if bytes_eq other name then Some (type_of new id) else before)
        (adds.types other);
    counted =
        let long = ap length step.0 in
        let counted = adds.counted in
        let fewer = step.1 in
        omega arith;
    numbered =
        let long = ap length step.0 in
        let numbered = adds.numbered in
        omega arith;
  }

-- the schema is that of the definitions where none is left
pub adds_end : (definitions : Definitions) (number : ℕ)
    (left : IntoIter (List ℕ × TypeExpr) Global) (schema : Types)
    → Adds definitions number left schema → into_iter_len left ≡ 0
    → (names : NamedTypes) × (schema_of_document (document_view definitions) ≡ Ok names)
    × HasTypes schema names
adds_end definitions number left schema adds past =
    let empty = nil_from_length (into_iter_items left) (sym adds.counted ∙ past) in (
      record { format = definitions.format; types = adds.known },
      ap (λ r. r >>= finished definitions) (adds.so_far ∙ ap (λ fields.
          add_all definitions.format number adds.known (fields_view fields)) empty),
      record { format = adds.format; types = adds.types },
    )
