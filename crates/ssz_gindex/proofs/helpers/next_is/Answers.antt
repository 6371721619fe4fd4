use Rattle.std.proofs.Common.{ℕ, ◌++◌, ◌∷◌, [], inl, inr, sym, ◌∙◌, subst}
use Rattle.std.proofs.lemmas.Bool.{eqb-true, eq-eqb, false≢true}
use Rattle.ssz_gindex.specs.declared.walk.Step.{Step}
use Rattle.ssz_gindex.specs.Walk.{WalksHelpers, WalkReaches}
use Rattle.ssz_gindex.proofs.Prefixes.{other-helper, no-helpers, not-flat}
use Rattle.ssz_gindex.proofs.helpers.next_is.Goals as goal

pub returns-in-Helper-clause-same : goal.returns-in-Helper-clause-same
returns-in-Helper-clause-same c = λ same indices found walks.
    let comes = c.in_ok-helper.ensures.comes indices found walks in
    let goes = subst (λ (s : Step). WalkReaches indices found c.step.new.self.indices.items
    c.step.new.self.parents.items s) c.in-Helper.is comes in
    subst (λ (n : ℕ). WalksHelpers indices c.step.new.self.indices.items
    c.step.new.self.parents.items (found ++ n ∷ []))
    (eqb-true c.in-Helper.helper c.args.node (sym c.eq.ensures ∙ same)) goes

pub returns-in-Helper-clause-other : goal.returns-in-Helper-clause-other
returns-in-Helper-clause-other c = λ other indices found walks.
    let comes = c.in_ok-helper.ensures.comes indices found walks in
    let goes = subst (λ (s : Step). WalkReaches indices found c.step.new.self.indices.items
    c.step.new.self.parents.items s) c.in-Helper.is comes in
    other-helper indices c.step.new.self.indices.items c.step.new.self.parents.items found
    c.in-Helper.helper c.args.node goes
    (λ same. false≢true (sym other ∙ c.eq.ensures ∙ eq-eqb c.in-Helper.helper c.args.node same))

pub returns-in-Root : goal.returns-in-Root
returns-in-Root c = record {
  same = λ same. absurd (false≢true same);
  other = λ other indices found walks rest are.
      let comes = c.in_ok-helper.ensures.comes indices found walks in
      elim c.in-Root.is [
        | inl is ↦ (let ends =
            subst (λ (s : Step). WalkReaches indices found c.step.new.self.indices.items
            c.step.new.self.parents.items s) is comes in
            no-helpers indices found c.args.node ends.0 rest are)
        | inr is ↦ (let upper =
            subst (λ (s : Step). WalkReaches indices found c.step.new.self.indices.items
            c.step.new.self.parents.items s) is.1 comes in
            not-flat indices (found ++ c.args.node ∷ rest) is.0 upper are)
      ];
}
