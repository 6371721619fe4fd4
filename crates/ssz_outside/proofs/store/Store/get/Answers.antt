use Rattle.std.proofs.Common.{Some, ap, sym, ◌∙◌}
use Rattle.std.specs.FinMap as map
use Rattle.ssz_outside.specs.Stored.{items_of}
use Rattle.ssz_outside.proofs.Pairs.{get-named_of}
use Rattle.ssz_outside.proofs.store.Store.get.Goals as goal

pub returns-in-Some : goal.returns-in-Some
returns-in-Some c =
    ap Some c.deref.ensures.value
    ∙ ap items_of c.in-Some.ensures.value
    ∙ sym (get-named_of c.self.inside.entries c.args.name.now)
    ∙ ap (λ named. map.get named c.args.name.now) c.self.view_is

pub returns-in-None : goal.returns-in-None
returns-in-None c =
    ap items_of c.in-None.ensures.value
    ∙ sym (get-named_of c.self.inside.entries c.args.name.now)
    ∙ ap (λ named. map.get named c.args.name.now) c.self.view_is
