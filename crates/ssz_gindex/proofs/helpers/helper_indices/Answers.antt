use Rattle.std.proofs.Common.{ℕ, List, sym, subst}
use Rattle.ssz_gindex.specs.declared.walk.Step.{Step}
use Rattle.ssz_gindex.specs.Walk.{WalksHelpers, WalkReaches}
use Rattle.ssz_gindex.proofs.helpers.helper_indices.Goals as goal

pub loop-found-preserved : goal.loop-found-preserved
loop-found-preserved c =
    let comes = c.in_ok-helper.ensures.comes c.args.indices.now c.loop-found.found.items
    c.loop-found.invariant in
    let walks = subst (λ (s : Step).
    WalkReaches c.args.indices.now c.loop-found.found.items c.step.new.self.indices.items
    c.step.new.self.parents.items s) c.in-Helper.is comes in
    subst (λ (found : List ℕ). WalksHelpers c.args.indices.now c.step.new.self.indices.items
    c.step.new.self.parents.items found)
    (sym c.in_ok-push-in-Helper.ensures.items) walks

pub returns-in-Root-clause-helpers : goal.returns-in-Root-clause-helpers
returns-in-Root-clause-helpers c =
    let comes = c.in_ok-helper.ensures.comes c.args.indices.now c.loop-found.found.items
    c.loop-found.invariant in
    let ends = subst (λ (s : Step).
    WalkReaches c.args.indices.now c.loop-found.found.items c.step.new.self.indices.items
    c.step.new.self.parents.items s) c.in-Root.is comes in
    ends.0

pub returns-in-Root-clause-flat : goal.returns-in-Root-clause-flat
returns-in-Root-clause-flat c =
    let comes = c.in_ok-helper.ensures.comes c.args.indices.now c.loop-found.found.items
    c.loop-found.invariant in
    let ends = subst (λ (s : Step).
    WalkReaches c.args.indices.now c.loop-found.found.items c.step.new.self.indices.items
    c.step.new.self.parents.items s) c.in-Root.is comes in
    ends.1

pub greatest_below-requires : goal.greatest_below-requires
greatest_below-requires c =
    let comes = c.in_ok-helper.ensures.comes c.args.indices.now c.loop-found.found.items
    c.loop-found.invariant in
    subst (λ (s : Step). WalkReaches c.args.indices.now c.loop-found.found.items
    c.step.new.self.indices.items c.step.new.self.parents.items
    s) c.in-Nested.is comes
