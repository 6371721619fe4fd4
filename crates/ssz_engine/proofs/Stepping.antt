-- A decision that is carried out is a step.
use Rattle.std.proofs.lemmas.Bool.{false≢true}
use Rattle.std.proofs.Common.{◌≡◌, ◌≤◌, ◌+◌, ◌-◌, ℕ, Bool, true, false, List, Option, Some, None, sym, ap, subst, ◌∙◌, arith}
use Rattle.ssz_outside.specs.Content.{Content as Files}
use Rattle.ssz_arena.specs.Content.{ArenaContent as Nodes, todo, unhashed}
use Rattle.ssz_proof.specs.Calculation.{PairOf}
use Rattle.ssz_script.specs.declared.statement.Statement.{Statement}
use Rattle.ssz_versions.specs.Content.{Entries, Held, held_at, with_held}
use Rattle.ssz_machine.specs.declared.place.Place.{Place}
use Rattle.ssz_machine.specs.State.{Name, Versions}
use Rattle.ssz_machine.specs.Rules.{Rules, Row}
use Rattle.ssz_machine.specs.Machine.{charge_in, effect}
use Rattle.ssz_machine.specs.Changes.{Touch, nothing, puts, takes, touch}
use Rattle.ssz_decisions.specs.Content.{EngineContent, Grows, SameNodes}
use Rattle.ssz_decisions.specs.Decisions.{CanDo, DecidesRow, IsOf, IsPaid, MakesFew, PaysRow}
use Rattle.ssz_engine.specs.Steps.{AddsFew, Decides, DoesStep, PaysAnew, Stops, makes_anew}
use Rattle.ssz_decisions.specs.Carried.{Fails, IsCarriedOut, outcome_of}
use Rattle.ssz_decisions.specs.declared.decision.Decision.{Decision}
use Rattle.ssz_decisions.specs.declared.decision.Decision.TheVariants as decision
use Rattle.ssz_decisions.specs.declared.outcome.Outcome.{Outcome}
use Rattle.ssz_decisions.specs.declared.outcome.Outcome.TheVariants.{Accepted, Refused}
use Rattle.ssz_decisions.specs.declared.fault.EngineFault.{EngineFault}
use Rattle.ssz_decisions.specs.declared.fault.EngineFault.TheVariants.{Read, Write, Memory}
use Rattle.ssz_decisions.proofs.Entries.{held-there-now, some_held}
use Rattle.ssz_engine.proofs.Leaving.{leaves}

-- what is held under a name after it was put there
put-there : (entries new : Entries) (writer : ℕ) (name : Name) (held is : Held)
    → new ≡ with_held entries writer name held → held_at new writer name ≡ Some is → is ≡ held
put-there entries new writer name held is put there =
    some_held is held (sym there ∙ ap (λ (es : Entries). held_at es writer name) put
    ∙ held-there-now entries writer name held)

same-name : (a b : Name) → puts a ≡ puts b → a ≡ b
same-name a b e = cc

refused-accepted : Refused ≡ Accepted → ⊥
refused-accepted e = cc

nothing-put : (name : Name) → nothing ≡ puts name → ⊥
nothing-put name e = cc

takes-put : (a b : Name) → takes a ≡ puts b → ⊥
takes-put a b e = cc

module _ (first mid new : EngineContent) (grows : Grows first mid) (same : SameNodes mid new)
    (before after : ℕ) (writer line : ℕ) (done : Outcome) (told_old told_new : Option Files)
    (out_old out_new : List ℕ) where
  -- an edit is paid for
  pub edit-paid : (made : Decision) (versions : Versions) (row : Row) (does : Touch) (name : Name)
      (was is : Held) → CanDo mid writer made → IsOf does made
      → DecidesRow first mid before after writer versions row made
      → IsCarriedOut made writer line mid.entries new.entries done told_old told_new out_old
      out_new
      → does ≡ puts name → done ≡ Accepted
      → held_at first.entries writer name ≡ Some was → held_at new.entries writer name ≡ Some is
      → after + todo new.arena is.1 ≤ before + todo first.arena was.1 + charge_in row
  edit-paid (decision.Refused code) versions row does name was is can of comes out does-put ok
      there now
      = absurd (not-both (sym out.outcome ∙ ok))
    where
      not-both : Refused ≡ Accepted → ⊥
      not-both e = cc
  edit-paid (decision.BadBytes f) versions row does name was is can of comes out does-put ok there
      now
      = absurd (not-both (sym out.outcome ∙ ok))
    where
      not-both : Refused ≡ Accepted → ⊥
      not-both e = cc
  edit-paid (decision.BadJson f) versions row does name was is can of comes out does-put ok there
      now
      = absurd (not-both (sym out.outcome ∙ ok))
    where
      not-both : Refused ≡ Accepted → ⊥
      not-both e = cc
  edit-paid (decision.Said r) versions row does name was is can of comes out does-put ok there now
      = absurd (not-both (sym of ∙ does-put))
    where
      not-both : nothing ≡ puts name → ⊥
      not-both e = cc
  edit-paid (decision.Made n id node room) versions row does name was is can of comes out does-put
      ok there now = absurd (not-both (sym can.0
      ∙ ap (λ (m : Name). held_at mid.entries writer m) (same-name n.now name (sym of ∙ does-put))
      ∙ ap (λ (es : Entries). held_at es writer name) grows.entries ∙ there))
    where
      not-both : None ≡ Some was → ⊥
      not-both e = cc
  edit-paid (decision.Edited n node) versions row does name was is can of comes out does-put ok
      there now =
      let e : n.now ≡ name = same-name n.now name (sym of ∙ does-put) in
      let here : held_at first.entries writer n.now ≡ Some was
      = ap (λ (m : Name). held_at first.entries writer m) e ∙ there in
      let was-is : comes.held ≡ was = some_held comes.held was (sym comes.there ∙ here) in
      let after-is : held_at new.entries writer n.now ≡ Some is
      = ap (λ (m : Name). held_at new.entries writer m) e ∙ now in
      let node-is : is ≡ (out.entries.0.0, node)
      = put-there mid.entries new.entries writer n.now _ is out.entries.2 after-is in
      let left : todo new.arena is.1 ≡ todo mid.arena node
      = ap (λ (a : Nodes). todo a is.1) same.arena ∙ ap (λ (h : Held). todo mid.arena h.1) node-is
      in
      let right : todo first.arena comes.held.1 ≡ todo first.arena was.1
      = ap (λ (h : Held). todo first.arena h.1) was-is in
      let cost : charge_in row ≡ comes.charge = ap charge_in comes.row in
      let paid = comes.todo in
      omega arith
  edit-paid (decision.Dropped n) versions row does name was is can of comes out does-put ok there
      now = absurd (not-both (sym of ∙ does-put))
    where
      not-both : takes n.now ≡ puts name → ⊥
      not-both e = cc
  edit-paid (decision.Saved n bytes) versions row does name was is can of comes out does-put ok
      there
      now = absurd (not-both (sym of ∙ does-put))
    where
      not-both : nothing ≡ puts name → ⊥
      not-both e = cc

  node-paid : (n name : Name) (held is : Held) (charge : ℕ) → todo mid.arena held.1 ≤ charge
      → n ≡ name → new.entries ≡ with_held mid.entries writer n held
      → held_at new.entries writer name ≡ Some is → todo new.arena is.1 ≤ charge
  node-paid n name held is charge paid named put now =
      let there : held_at new.entries writer n ≡ Some is
      = ap (λ (m : Name). held_at new.entries writer m) named ∙ now in
      let left : todo new.arena is.1 ≡ todo mid.arena held.1
      = ap (λ (a : Nodes). todo a is.1) same.arena
      ∙ ap (λ (h : Held). todo mid.arena h.1)
      (put-there mid.entries new.entries writer n held is put there) in
      omega arith

  -- a node that is put under a name is paid for
  pub anew-paid : (made : Decision) (does : Touch) (charge : ℕ) (name : Name) (is : Held)
      → IsOf does made → IsPaid mid.arena charge made
      → IsCarriedOut made writer line mid.entries new.entries done told_old told_new out_old
      out_new
      → does ≡ puts name → done ≡ Accepted → held_at new.entries writer name ≡ Some is
      → todo new.arena is.1 ≤ charge
  anew-paid (decision.Refused code) does charge name is of paid out does-put ok now =
      absurd (refused-accepted (sym out.outcome ∙ ok))
  anew-paid (decision.BadBytes f) does charge name is of paid out does-put ok now =
      absurd (refused-accepted (sym out.outcome ∙ ok))
  anew-paid (decision.BadJson f) does charge name is of paid out does-put ok now =
      absurd (refused-accepted (sym out.outcome ∙ ok))
  anew-paid (decision.Said r) does charge name is of paid out does-put ok now =
      absurd (nothing-put name (sym of ∙ does-put))
  anew-paid (decision.Made n id node room) does charge name is of paid out does-put ok now =
      node-paid n.now name (id, node) is charge paid (same-name n.now name (sym of ∙ does-put))
      out.entries now
  anew-paid (decision.Edited n node) does charge name is of paid out does-put ok now =
      node-paid n.now name (out.entries.0.0, node) is charge paid
      (same-name n.now name (sym of ∙ does-put)) out.entries.2 now
  anew-paid (decision.Dropped n) does charge name is of paid out does-put ok now =
      absurd (takes-put n.now name (sym of ∙ does-put))
  anew-paid (decision.Saved n bytes) does charge name is of paid out does-put ok now =
      absurd (nothing-put name (sym of ∙ does-put))

  -- few nodes are new
  pub few-new : (made : Decision) (does : Touch) (charge : ℕ) → IsOf does made
      → MakesFew made charge first.arena mid.arena → done ≡ outcome_of made
      → AddsFew done does charge first.arena new.arena
  few-new made does charge of few is =
      subst (λ (arena : Nodes). AddsFew done does charge first.arena arena) (sym same.arena)
      (subst (λ (o : Outcome). AddsFew o does charge first.arena mid.arena) (sym is)
      (by made of few))
    where
      by : (made : Decision) → IsOf does made → MakesFew made charge first.arena mid.arena
          → AddsFew (outcome_of made) does charge first.arena mid.arena
      by (decision.Refused code) of few = few
      by (decision.BadBytes f) of few = few
      by (decision.BadJson f) of few = few
      by (decision.Said r) of few =
          subst (λ (t : Touch). AddsFew Accepted t charge first.arena mid.arena) (sym of) few
      by (decision.Made n id node room) of few =
          subst (λ (t : Touch). AddsFew Accepted t charge first.arena mid.arena) (sym of) few
      by (decision.Edited n node) of few =
          subst (λ (t : Touch). AddsFew Accepted t charge first.arena mid.arena) (sym of) few
      by (decision.Dropped n) of few =
          subst (λ (t : Touch). AddsFew Accepted t charge first.arena mid.arena) (sym of) few
      by (decision.Saved n bytes) of few =
          subst (λ (t : Touch). AddsFew Accepted t charge first.arena mid.arena) (sym of) few

  module _ (pair_of : PairOf) (place : Place) (statement : Statement) where
    -- by the flag of the statement
    pub paid-anew : (row : Rules → Versions → Row) (flag : Bool) (made : Decision) → flag ≡ true
        → PaysAnew flag pair_of row writer first mid made
        → PaysRow pair_of row writer first mid made
    paid-anew row true made some pays = pays
    paid-anew row false made some pays = absurd (false≢true some)

    unfoldable pub does-step : (made : Decision)
        → Decides pair_of place statement writer (before - first.base) told_old first mid before
        after made
        → IsCarriedOut made writer line mid.entries new.entries done told_old told_new out_old
        out_new
        → DoesStep pair_of place writer line statement first new before after told_old told_new
        out_old out_new done
    does-step made found out = record {
      files = found.files;
      tells = found.tells;
      leaves = λ versions stands.
          leaves first mid new grows same writer line (Some statement)
          (record { versions = versions; files = found.files }) stands told_old told_new
          found.tells out_old out_new done made _ before after
          (found.answers.comes (versions writer) (stands.each writer)) out;
      spends = λ versions stands.
          let spent = found.answers.spends (versions writer) (stands.each writer) in
          let e : unhashed new.arena ≡ unhashed mid.arena = ap unhashed same.arena in
          omega arith;
      edits = λ versions stands name was is does ok there now.
          edit-paid made (versions writer) _ (touch statement) name was is found.answers.can
          found.answers.of (found.answers.comes (versions writer) (stands.each writer)) out
          does ok there now;
      anew = λ versions stands name is some does ok now.
          anew-paid made (touch statement) _ name is found.answers.of
          (paid-anew (λ rules versions. effect rules place (before - first.base)
          (record { versions = versions; files = found.files }) statement)
          (makes_anew statement) made some found.anew (versions writer)
          (stands.each writer)) out does ok now;
      few = λ versions stands other.
          few-new made (touch statement) _ found.answers.of
          (found.answers.few (versions writer) (stands.each writer)) out.outcome;
    }

    -- what is left where it was not carried out
    pub stops : (made : Decision) (fault : EngineFault)
        → Decides pair_of place statement writer (before - first.base) told_old first mid before
        after made
        → Fails fault made told_old told_new
        → Stops fault pair_of place writer line (before - first.base) statement first told_old
        told_new
    stops made Read found fails = absurd fails
    stops made Memory found fails = fails
    stops (decision.Saved name bytes) Write found fails = record {
      files = found.files;
      tells = found.tells;
      part = λ versions stands. (
        record { name = name.now; bytes = bytes.items },
        ap Rattle.ssz_machine.specs.Machine.save_in
            (found.answers.comes (versions writer) (stands.each writer)),
        fails,
      );
    }
    stops (decision.Refused code) Write found fails = absurd fails
    stops (decision.BadBytes fault) Write found fails = absurd fails
    stops (decision.BadJson fault) Write found fails = absurd fails
    stops (decision.Said reply) Write found fails = absurd fails
    stops (decision.Made name id node room) Write found fails = absurd fails
    stops (decision.Edited name node) Write found fails = absurd fails
    stops (decision.Dropped name) Write found fails = absurd fails
