use Rattle.std.proofs.Common.{rules, sym, subst}
use Rattle.std.proofs.lemmas.Fn.{always_returns_same}
use Rattle.std.specs.Ordering.{nat_cmp}
use Rattle.ssz_proof.specs.Descent.{IsPlaceOf}
use Rattle.ssz_proof.proofs.Located.{descending_found}
use Rattle.ssz_proof.proofs.places.descending_place.Goals as goal

pub returns : goal.returns
returns c =
    subst (IsPlaceOf c.args.index c.args.entries.now) (sym c.ok.ensures.value)
    (descending_found c.args.entries.now c.args.index c.binary_search_by.result c.requires
    c.binary_search_by.ensures.bound
    (c.binary_search_by.ensures.position (λ entry. nat_cmp c.args.index entry.index)
    (always_returns_same _ _ _ (λ a r f q. search rules))))
