use Rattle.std.proofs.Common.{◌<◌, ◌∷◌, sym, subst}
use Rattle.ssz_nodes.specs.Beside.{FieldsAhead, FieldsHold}
use Rattle.ssz_nodes.proofs.Beside.{FieldsHold-rest}
use Rattle.ssz_nodes.proofs.fields.FieldRows.pass.Goals as goal

pub returns-clause-rest : goal.returns-clause-rest
returns-clause-rest c = λ arena tree trees held.
    FieldsHold-rest arena tree trees c.self.inside.depth c.self.inside.from c.self.inside.to
    c.self.inside.nodes c.self.inside.places
    (subst (λ (a : FieldsAhead). a.from < a.to) (sym c.self.view_is) c.requires)
    (subst (FieldsHold arena (tree ∷ trees)) (sym c.self.view_is) held)
