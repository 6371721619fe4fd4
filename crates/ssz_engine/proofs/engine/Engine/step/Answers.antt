use Rattle.std.proofs.Common.{◌≡◌, ◌-◌, Bool, false, Option, IfOk, IfErr, refl, sym, ap, subst, ℕ, List}
use Rattle.std.specs.Prelude.{OnErr, is_err}
use Rattle.std.proofs.lemmas.Result.{err_from_is_err_and}
use Rattle.ssz_arena.specs.Content.{node_count}
use Rattle.ssz_outside.specs.Content.{Content as Files}
use Rattle.ssz_script.specs.declared.statement.Statement.{Statement}
use Rattle.ssz_engine.specs.Steps.{AsksStatement, Decides, DoesStep, StatementFindsFile, StatementForks, StatementUpgrades, Stops, WhereAccepted}
use Rattle.ssz_decisions.specs.Carried.{Fails, IsCarriedOut}
use Rattle.ssz_decisions.specs.Content.{EngineContent}
use Rattle.ssz_decisions.specs.Roots.{HashesSome, LeavesHashed}
use Rattle.ssz_decisions.specs.Standing.{StandsForSome}
use Rattle.ssz_engine.specs.Tops.{Tops}
use Rattle.ssz_decisions.specs.declared.outcome.Outcome.TheVariants.{Accepted}
use Rattle.ssz_decisions.proofs.Results.{on_ok, err-of, ok-of}
use Rattle.ssz_engine.proofs.Asks.{asks_carried, asks_not_yet}
use Rattle.ssz_engine.proofs.Forking.{forks}
use Rattle.ssz_engine.proofs.Moving.{compact-step}
use Rattle.ssz_engine.proofs.Rooting.{roots}
use Rattle.ssz_engine.proofs.TopSteps.{tops}
use Rattle.ssz_engine.proofs.UpgradeSteps.{upgrades}
use Rattle.ssz_engine.proofs.Stepping.{does-step, stops}
use Rattle.ssz_engine.proofs.Wholes.{whole}
use Rattle.ssz_engine.proofs.engine.Engine.step.Goals as goal

pub returns-in-Compact-clause-ok : goal.returns-in-Compact-clause-ok
returns-in-Compact-clause-ok g c =
    let first = c.self.inside.store in
    let new = c.compact.new.store in
    let count = g.H.PairHash.pairs c.args.hasher.now in
    let told = g.F.Files.content c.args.files.now in
    let out_old = c.args.out.now.items in
    let out_new = c.compact.new.out.items in
    subst (λ (s : EngineContent). DoesStep g.H.PairHash.pair_of c.args.place c.args.writer.0
    c.args.line c.args.statement.now s new count count told told out_old out_new Accepted)
    c.self.view_is
    (subst (λ (statement : Statement). DoesStep g.H.PairHash.pair_of c.args.place c.args.writer.0
    c.args.line statement first new count count told told out_old out_new Accepted)
    (sym c.in-Compact.is)
    (compact-step first new c.in_ok-compact.ensures.keeps c.in_ok-compact.ensures.ok
    g.H.PairHash.pair_of c.args.place c.args.writer.0 c.args.line count told out_old out_new
    c.in_ok-compact.ensures.text))

pub returns-clause-ok : goal.returns-clause-ok
returns-clause-ok g c =
    let pair_of = g.H.PairHash.pair_of in
    let first = c.self.inside.store in
    let mid = c.decide.new.store in
    let new = c.carry_out.new.store in
    let before = g.H.PairHash.pairs c.args.hasher.now in
    let after = g.H.PairHash.pairs c.decide.new.hasher in
    let w = c.args.writer.0 in
    let statement = c.args.statement.now in
    let made = c.in_ok-decision.decision in
    let told_mid = g.F.Files.content c.decide.new.files in
    let told_new = g.F.Files.content c.carry_out.new.files in
    let out_old = c.reserve.new.self.items in
    let out_new = c.carry_out.new.out.items in
    let same = c.in_ok-decision.ensures.content in
    let found : Decides pair_of c.args.place statement w (before - first.base) told_mid first mid
    before after made
    = subst (λ (told : Option Files). Decides pair_of c.args.place statement w
    (before - first.base) told first mid before after made) (sym same)
    c.in_ok-decision.ensures.decides in
    subst (λ (s : EngineContent).
    IfOk c.carry_out.result (DoesStep pair_of c.args.place w c.args.line
    statement s new before after (g.F.Files.content c.args.files.now) told_new c.args.out.now.items
    out_new)) c.self.view_is
    (subst (λ (out : List ℕ). IfOk c.carry_out.result (DoesStep pair_of c.args.place w
    c.args.line statement first new before after (g.F.Files.content c.args.files.now) told_new out
    out_new)) c.reserve.ensures.items
    (subst (λ (told : Option Files). IfOk c.carry_out.result (DoesStep pair_of c.args.place w
    c.args.line statement first new before after told told_new out_old out_new)) same
    (ok-of (λ done. IsCarriedOut made w c.args.line mid.entries new.entries done told_mid told_new
    out_old out_new)
    (DoesStep pair_of c.args.place w c.args.line statement first new before after told_mid
    told_new out_old out_new)
    c.carry_out.result
    (λ done out. does-step first mid new c.in_ok-decision.ensures.grows
    c.carry_out.ensures.nodes before after w c.args.line done told_mid told_new out_old
    out_new pair_of c.args.place statement made found out)
    c.carry_out.ensures.ok)))

pub returns-clause-stops : goal.returns-clause-stops
returns-clause-stops g c =
    let pair_of = g.H.PairHash.pair_of in
    let first = c.self.inside.store in
    let mid = c.decide.new.store in
    let new = c.carry_out.new.store in
    let before = g.H.PairHash.pairs c.args.hasher.now in
    let after = g.H.PairHash.pairs c.decide.new.hasher in
    let w = c.args.writer.0 in
    let statement = c.args.statement.now in
    let made = c.in_ok-decision.decision in
    let told_mid = g.F.Files.content c.decide.new.files in
    let told_new = g.F.Files.content c.carry_out.new.files in
    let out_old = c.reserve.new.self.items in
    let out_new = c.carry_out.new.out.items in
    let same = c.in_ok-decision.ensures.content in
    let found : Decides pair_of c.args.place statement w (before - first.base) told_mid first mid
    before after made
    = subst (λ (told : Option Files). Decides pair_of c.args.place statement w
    (before - first.base) told first mid before after made) (sym same)
    c.in_ok-decision.ensures.decides in
    subst (λ (s : EngineContent).
    IfErr c.carry_out.result (λ fault. Stops fault pair_of c.args.place w
    c.args.line (before - s.base) statement s (g.F.Files.content c.args.files.now) told_new))
    c.self.view_is
    (subst (λ (told : Option Files). IfErr c.carry_out.result (λ fault. Stops fault pair_of
    c.args.place w c.args.line (before - first.base) statement first told told_new)) same
    (err-of (λ fault. Fails fault made told_mid told_new)
    (λ fault. Stops fault pair_of c.args.place w c.args.line (before - first.base) statement
    first told_mid told_new)
    c.carry_out.result
    (λ fault fails. stops first mid new c.in_ok-decision.ensures.grows
    c.carry_out.ensures.nodes before after w c.args.line Accepted told_mid told_new out_old
    out_new pair_of c.args.place statement made fault found fails)
    c.carry_out.ensures.fails))

pub returns-clause-whole : goal.returns-clause-whole
returns-clause-whole g c =
    subst (λ (s : EngineContent). OnErr c.carry_out.result
    (node_count c.carry_out.new.store.arena ≡ node_count s.arena)) c.self.view_is
    (whole g.H.PairHash.pair_of c.args.place c.args.statement.now c.args.writer.0 _ _
    c.self.inside.store c.decide.new.store c.carry_out.new.store _ _ c.in_ok-decision.decision
    c.in_ok-decision.ensures.decides c.carry_out.ensures.nodes
    (subst StandsForSome (sym c.self.view_is) c.stands.ensures) c.carry_out.result
    c.carry_out.ensures.sure)

pub returns-clause-forks : goal.returns-clause-forks
returns-clause-forks g c =
    let first = c.self.inside.store.entries in
    let mid = c.decide.new.store.entries in
    let new = c.carry_out.new.store.entries in
    let w = c.args.writer.0 in
    let statement = c.args.statement.now in
    let made = c.in_ok-decision.decision in
    let told_mid = g.F.Files.content c.decide.new.files in
    let told_new = g.F.Files.content c.carry_out.new.files in
    let out_old = c.reserve.new.self.items in
    let out_new = c.carry_out.new.out.items in
    subst (λ (s : EngineContent).
    IfOk c.carry_out.result (λ done. WhereAccepted done
    (StatementForks statement w s.entries new))) c.self.view_is
    (ok-of (λ done. IsCarriedOut made w c.args.line mid new done told_mid told_new out_old out_new)
    (λ done. WhereAccepted done (StatementForks statement w first new)) c.carry_out.result
    (λ done out. forks made w c.args.line first mid new done told_mid told_new out_old out_new
    c.in_ok-decision.ensures.grows.entries out statement c.in_ok-decision.ensures.forks)
    c.carry_out.ensures.ok)

pub returns-clause-upgrades : goal.returns-clause-upgrades
returns-clause-upgrades g c =
    let first = c.self.inside.store in
    let mid = c.decide.new.store in
    let new = c.carry_out.new.store in
    let w = c.args.writer.0 in
    let statement = c.args.statement.now in
    let made = c.in_ok-decision.decision in
    let told_mid = g.F.Files.content c.decide.new.files in
    let told_new = g.F.Files.content c.carry_out.new.files in
    let out_old = c.reserve.new.self.items in
    let out_new = c.carry_out.new.out.items in
    subst (λ (s : EngineContent).
    IfOk c.carry_out.result (λ done. WhereAccepted done
    (StatementUpgrades statement w s new))) c.self.view_is
    (ok-of (λ done. IsCarriedOut made w c.args.line mid.entries new.entries done told_mid told_new
    out_old out_new)
    (λ done. WhereAccepted done (StatementUpgrades statement w first new)) c.carry_out.result
    (λ done out. upgrades w c.args.line first mid new c.carry_out.ensures.nodes told_mid told_new
    out_old out_new made done statement c.in_ok-decision.ensures.upgrades out)
    c.carry_out.ensures.ok)

pub returns-clause-tops : goal.returns-clause-tops
returns-clause-tops g c =
    let first = c.self.inside.store in
    let mid = c.decide.new.store in
    let new = c.carry_out.new.store in
    let w = c.args.writer.0 in
    let statement = c.args.statement.now in
    let made = c.in_ok-decision.decision in
    let told_mid = g.F.Files.content c.decide.new.files in
    let told_new = g.F.Files.content c.carry_out.new.files in
    let out_old = c.reserve.new.self.items in
    let out_new = c.carry_out.new.out.items in
    subst (λ (s : EngineContent).
    IfOk c.carry_out.result (λ done. WhereAccepted done
    (Tops statement w s new))) c.self.view_is
    (ok-of (λ done. IsCarriedOut made w c.args.line mid.entries new.entries done told_mid told_new
    out_old out_new)
    (λ done. WhereAccepted done (Tops statement w first new)) c.carry_out.result
    (λ done out. tops w c.args.line first mid new c.carry_out.ensures.nodes told_mid told_new
    out_old out_new made done statement c.in_ok-decision.ensures.decides.answers.of
    c.in_ok-decision.ensures.tops out)
    c.carry_out.ensures.ok)

pub returns-clause-some : goal.returns-clause-some
returns-clause-some g c =
    on_ok c.carry_out.result (subst (λ (s : EngineContent). HashesSome c.args.statement.now
    c.args.writer.0 s (g.H.PairHash.pairs c.args.hasher.now)
    (g.H.PairHash.pairs c.decide.new.hasher)) c.self.view_is c.in_ok-decision.ensures.some)

pub returns-clause-roots : goal.returns-clause-roots
returns-clause-roots g c =
    let mid = c.decide.new.store in
    let new = c.carry_out.new.store in
    let w = c.args.writer.0 in
    let statement = c.args.statement.now in
    let made = c.in_ok-decision.decision in
    let told_mid = g.F.Files.content c.decide.new.files in
    let told_new = g.F.Files.content c.carry_out.new.files in
    let out_old = c.reserve.new.self.items in
    let out_new = c.carry_out.new.out.items in
    ok-of (λ done. IsCarriedOut made w c.args.line mid.entries new.entries done told_mid told_new
    out_old out_new)
    (λ done. LeavesHashed statement w new) c.carry_out.result
    (λ done out. roots made w c.args.line mid new c.carry_out.ensures.nodes done told_mid told_new
    out_old out_new out statement c.in_ok-decision.ensures.decides.answers.of
    c.in_ok-decision.ensures.roots)
    c.carry_out.ensures.ok

pub returns-in-Compact-clause-found : goal.returns-in-Compact-clause-found
returns-in-Compact-clause-found g c =
    subst (λ (s : Statement).
    StatementFindsFile g.H.PairHash.pair_of c.args.self.now c.args.writer.0 s
    (g.F.Files.content c.args.files.now)) (sym c.in-Compact.is)
    (λ held told versions stands asks. refl)

pub returns-clause-found : goal.returns-clause-found
returns-clause-found g c =
    on_ok c.carry_out.result
    (subst (λ (s : EngineContent). StatementFindsFile g.H.PairHash.pair_of s
    c.args.writer.0 c.args.statement.now (g.F.Files.content c.args.files.now)) c.self.view_is
    c.in_ok-decision.ensures.found)

pub returns-clause-each_once : goal.returns-clause-each_once
returns-clause-each_once g c =
    asks_carried g.H.PairHash.pair_of c.args.self.now c.args.writer.0 c.args.statement.now _ _ _ _
    (subst (λ (s : EngineContent). AsksStatement g.H.PairHash.pair_of s c.args.writer.0
    c.args.statement.now false (g.F.Files.asked c.args.files.now)
    (g.F.Files.asked c.decide.new.files)) c.self.view_is c.in_ok-decision.ensures.each_once)
    c.carry_out.ensures.asks

pub returns-in-Compact-clause-each_once : goal.returns-in-Compact-clause-each_once
returns-in-Compact-clause-each_once g c =
    subst (λ (s : Statement). AsksStatement g.H.PairHash.pair_of c.args.self.now c.args.writer.0 s
    false (g.F.Files.asked c.args.files.now) (g.F.Files.asked c.args.files.now))
    (sym c.in-Compact.is) refl

pub returns-in_err-reserve-clause-each_once : goal.returns-in_err-reserve-clause-each_once
returns-in_err-reserve-clause-each_once g c =
    let exit = err_from_is_err_and c.from_residual-in_err-reserve.result
    c.from_residual-in_err-reserve.ensures.1 in
    subst (λ (cut : Bool). AsksStatement g.H.PairHash.pair_of c.args.self.now c.args.writer.0
    c.args.statement.now cut (g.F.Files.asked c.args.files.now)
    (g.F.Files.asked c.args.files.now)) (sym (ap is_err exit.1))
    (asks_not_yet g.H.PairHash.pair_of c.args.self.now c.args.writer.0 c.args.statement.now
    (g.F.Files.asked c.args.files.now))
