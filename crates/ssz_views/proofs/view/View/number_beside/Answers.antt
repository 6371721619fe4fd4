use Rattle.std.proofs.Common.{subst, ap, Some, None}
use Rattle.ssz_views.specs.Looking.{Looking}
use Rattle.ssz_views.proofs.Seeing.{Tells}
use Rattle.ssz_views.proofs.view.View.number_beside.Goals as goal

pub returns-in-Some : goal.returns-in-Some
returns-in-Some g c =
    subst (λ (view : Looking). Tells view (Some c.in-Some.number)) c.self.view_is
    (λ n content is small. ap Some (c.in-Some.ensures.exact n content is small).1)

pub returns-in-None : goal.returns-in-None
returns-in-None g c =
    subst (λ (view : Looking). Tells view None) c.self.view_is
    (λ n content is small. absurd (c.in-None.ensures.exact n content is small))
