use Rattle.std.proofs.Common.{refl, subst, inl, inr}
use Rattle.std.proofs.lemmas.Bool.{false≢true}
use Rattle.ssz_gindex.specs.declared.walk.Step.{Step}
use Rattle.ssz_gindex.specs.Walk.{WalkReaches}
use Rattle.ssz_gindex.proofs.Prefixes.{more-helpers, not-flat}
use Rattle.ssz_gindex.proofs.helpers.is_at_root.Goals as goal

pub returns-in-Root : goal.returns-in-Root
returns-in-Root c = λ indices found walks.
    let comes = c.in_ok-step.ensures.comes indices found walks in
    let ends = subst (λ (s : Step). WalkReaches indices found c.step.new.self.indices.items
    c.step.new.self.parents.items s) c.in-Root.is comes in
    (λ at_root. record { flat = ends.1; are = ends.0 }, λ are. refl)

pub returns-in-Helper : goal.returns-in-Helper
returns-in-Helper c = λ indices found walks.
    let comes = c.in_ok-step.ensures.comes indices found walks in (
      λ at_root. absurd (false≢true at_root),
      λ are. elim c.in-Helper.is [
        | inl is ↦ (let goes =
            subst (λ (s : Step). WalkReaches indices found c.step.new.self.indices.items
            c.step.new.self.parents.items s) is.1 comes in
            absurd (more-helpers indices c.step.new.self.indices.items
            c.step.new.self.parents.items found is.0 goes are))
        | inr is ↦ (let upper =
            subst (λ (s : Step). WalkReaches indices found c.step.new.self.indices.items
            c.step.new.self.parents.items s) is.1 comes in
            absurd (not-flat indices found is.0 upper are))
      ],
    )
