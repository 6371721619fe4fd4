use Rattle.std.proofs.Common.{ap, ◌∙◌, ℕ, List, Some, cond, bytes_eq}
use Rattle.ssz_types.specs.Lookup.{lookup_name}
use Rattle.ssz_types.specs.NameTables.{names_in}
use Rattle.ssz_types.proofs.NameLemmas.{insert-named, named}
use Rattle.ssz_types.proofs.name_table.NameTable.insert.Goals as goal

pub returns-clause-added : goal.returns-clause-added
returns-clause-added c = λ other.
    ap (λ es. lookup_name (named es) other) c.in_ok-insert.ensures.entries
    ∙ insert-named c.self.inside.map.entries c.in_ok-key.key c.args.id other
    ∙ ap (λ (name : List ℕ). cond (bytes_eq other name) (Some c.args.id)
    (lookup_name (names_in c.self.inside.map) other))
    (c.in_ok-key.ensures.items_if_clones_equal (λ x y h. h))
    ∙ ap (λ ns. cond (bytes_eq other c.args.name.now) (Some c.args.id) (lookup_name ns other))
    c.self.view_is
