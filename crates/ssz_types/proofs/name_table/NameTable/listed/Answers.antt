use Rattle.std.proofs.Common.{◌≡◌, ◌++◌, sym, ap, ◌∙◌, subst, append-nil}
use Rattle.ssz_types.specs.NameTables.{IsInOrder, AreFound}
use Rattle.ssz_types.proofs.NameLemmas.{named, in_order-named, found-named}
use Rattle.ssz_types.proofs.name_table.NameTable.listed.Goals as goal

pub returns-clause-order : goal.returns-clause-order
returns-clause-order c =
    let all : c.loop-name.names.items ≡ c.args.self.now =
    sym (append-nil c.loop-name.names.items)
    ∙ ap (λ es. c.loop-name.names.items ++ named es) (sym c.in-None.ensures.steps.0)
    ∙ c.loop-name.invariant in
    subst IsInOrder (c.self.view_is ∙ sym all)
    (in_order-named c.self.inside.map.entries c.iter-name-items.ensures.ordered)

pub returns-clause-found : goal.returns-clause-found
returns-clause-found c =
    let all : c.loop-name.names.items ≡ c.args.self.now =
    sym (append-nil c.loop-name.names.items)
    ∙ ap (λ es. c.loop-name.names.items ++ named es) (sym c.in-None.ensures.steps.0)
    ∙ c.loop-name.invariant in
    subst AreFound (c.self.view_is ∙ sym all)
    (found-named c.self.inside.map.entries c.iter-name-items.ensures.found)
