use Rattle.std.proofs.Common.{ap, ◌∙◌, refl, reverse, subst, sym}
use Rattle.std.proofs.lemmas.Result.{err_from_is_err_and}
use Rattle.ssz_arena.specs.Content.{tree_of}
use Rattle.ssz_gindex.specs.Faults.{IsHelperFault}
use Rattle.ssz_gindex.specs.Helpers.{AreFlat, helpers}
use Rattle.ssz_proof.specs.Multiproof.{AscendFrom}
use Rattle.ssz_prove.specs.Faults.{AreIn}
use Rattle.ssz_prove.specs.Proved.{SameNumbers}
use Rattle.ssz_prove.proofs.Gathered.{fault_same, found_from, in_asked, none_same}
use Rattle.ssz_prove.proofs.finding.find.Goals as goal

pub returns-in_err-helpers-clause-fault : goal.returns-in_err-helpers-clause-fault
returns-in_err-helpers-clause-fault g c =
    let p = err_from_is_err_and c.from_residual-in_err-helpers.result
    c.from_residual-in_err-helpers.ensures.1 in
    rw (p.1, p.2)
    (fault_same c.in_ok-asked.asked.items c.args.indices.now c.in_err-helpers.field-0.0
    c.in_ok-asked.ensures.same
    (subst (λ xs. IsHelperFault xs c.in_err-helpers.field-0.0) c.deref.ensures.value
    c.in_err-helpers.ensures.fault))

pub walk-requires-clause-some : goal.walk-requires-clause-some
walk-requires-clause-some g c =
    λ e. c.requires.some (none_same c.args.indices.now
    (subst (λ xs. SameNumbers xs c.args.indices.now) (sym c.deref-2.ensures.value ∙ e)
    c.in_ok-asked.ensures.same))

pub returns-then-branch-clause-found : goal.returns-then-branch-clause-found
returns-then-branch-clause-found g c =
    let asked = c.deref-2.result.now in
    let beside = c.deref-3.result.now in
    let same = c.deref.ensures.value ∙ sym c.deref-2.ensures.value in
    found_from c.args.arena.now c.args.top asked beside c.walk.new.found _
    (c.in_ok-walk.ensures.found c.if-branch.true)
    (c.deref-3.ensures.value ∙ c.reverse.ensures.items
    ∙ ap reverse c.in_ok-helpers.ensures.helpers ∙ ap (λ xs. reverse (helpers xs)) same)
    refl c.reverse-then-branch.ensures.items
    (λ e. c.requires.some (none_same c.args.indices.now
    (subst (λ xs. SameNumbers xs c.args.indices.now) (sym c.deref-2.ensures.value ∙ e)
    c.in_ok-asked.ensures.same)))
    (subst (AscendFrom 0) (sym c.deref-2.ensures.value) c.in_ok-asked.ensures.rise)
    (subst AreFlat same c.in_ok-helpers.ensures.flat)

pub returns-clause-none : goal.returns-clause-none
returns-clause-none g c =
    let tree = tree_of c.args.arena.now c.args.top in
    λ inside. c.in_ok-walk.ensures.none c.if-branch.false
    (subst (AreIn tree) (sym c.deref-2.ensures.value)
    (in_asked tree c.in_ok-asked.asked.items c.args.indices.now c.in_ok-asked.ensures.same inside))
