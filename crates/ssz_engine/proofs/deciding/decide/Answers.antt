use Rattle.std.proofs.Common.{◌-◌, refl, sym, subst}
use Rattle.ssz_machine.specs.Making.{load, loadjson}
use Rattle.ssz_machine.specs.Changes.{puts}
use Rattle.std.specs.Prelude.{OnOk, is_err}
use Rattle.ssz_script.specs.declared.statement.Statement.{Statement}
use Rattle.ssz_engine.specs.Steps.{AsksStatement, CanAsk, StatementFindsFile}
use Rattle.ssz_engine.proofs.Asks.{asks_alone}
use Rattle.ssz_engine.proofs.EngineSteps.{finds_alone}
use Rattle.ssz_engine.proofs.Found.{decides, loads-ok}
use Rattle.ssz_engine.proofs.deciding.decide.Goals as goal

pub returns-in_ok-decide_alone-in_default-clause-decides
    : goal.returns-in_ok-decide_alone-in_default-clause-decides
returns-in_ok-decide_alone-in_default-clause-decides g c =
    decides g.H.PairHash.pair_of c.args.place
    (g.H.PairHash.pairs c.args.hasher.now - c.args.store.now.base) c.args.writer.0
    c.args.store.now c.decide_alone.new.store (g.H.PairHash.pairs c.args.hasher.now)
    (g.H.PairHash.pairs c.decide_alone.new.hasher) c.args.statement.now
    (g.F.Files.content c.args.files.now) c.in_ok-decide_alone-in_default.field-0
    c.in_ok-decide_alone-in_default.ensures.decides

pub returns-in-Load-clause-decides : goal.returns-in-Load-clause-decides
returns-in-Load-clause-decides g c =
    loads-ok g.H.PairHash.pair_of c.args.place
    (g.H.PairHash.pairs c.args.hasher.now - c.args.store.now.base) c.args.writer.0
    c.args.store.now c.load.new.store (g.H.PairHash.pairs c.args.hasher.now)
    (g.F.Files.content c.args.files.now) c.in-Load.file
    (λ bytes rules versions. load rules versions c.in-Load.v c.in-Load.t bytes)
    (puts c.in-Load.v) c.args.statement.now _ c.load.result c.in-Load.is (λ files. refl) refl refl
    c.load.ensures.answers

pub returns-in_ok-decide_alone-in_default-clause-found
    : goal.returns-in_ok-decide_alone-in_default-clause-found
returns-in_ok-decide_alone-in_default-clause-found g c =
    finds_alone g.H.PairHash.pair_of c.args.store.now
    c.args.writer.0 c.args.statement.now (g.F.Files.content c.args.files.now)
    (λ v t file is. c.in_default.not-Load v t file is)
    (λ v t file is. c.in_default.not-LoadJson v t file is)

pub returns-in-Load-clause-found : goal.returns-in-Load-clause-found
returns-in-Load-clause-found g c =
    subst (λ (s : Statement).
    OnOk c.load.result (StatementFindsFile g.H.PairHash.pair_of c.args.store.now
    c.args.writer.0 s (g.F.Files.content c.args.files.now))) (sym c.in-Load.is)
    c.load.ensures.found

pub returns-in-LoadJson-clause-found : goal.returns-in-LoadJson-clause-found
returns-in-LoadJson-clause-found g c =
    subst (λ (s : Statement).
    OnOk c.load-in-LoadJson.result (StatementFindsFile g.H.PairHash.pair_of
    c.args.store.now c.args.writer.0 s (g.F.Files.content c.args.files.now)))
    (sym c.in-LoadJson.is) c.load-in-LoadJson.ensures.found

pub returns-in-Load-clause-asked : goal.returns-in-Load-clause-asked
returns-in-Load-clause-asked g c = λ e.
    subst (λ s. CanAsk g.H.PairHash.pair_of c.args.store.now c.args.writer.0 s) (sym c.in-Load.is)
    (c.load.ensures.asked e)

pub returns-in-LoadJson-clause-decides : goal.returns-in-LoadJson-clause-decides
returns-in-LoadJson-clause-decides g c =
    loads-ok g.H.PairHash.pair_of c.args.place
    (g.H.PairHash.pairs c.args.hasher.now - c.args.store.now.base) c.args.writer.0
    c.args.store.now c.load-in-LoadJson.new.store (g.H.PairHash.pairs c.args.hasher.now)
    (g.F.Files.content c.args.files.now) c.in-LoadJson.file
    (λ bytes rules versions. loadjson rules versions c.in-LoadJson.v c.in-LoadJson.t bytes)
    (puts c.in-LoadJson.v) c.args.statement.now _ c.load-in-LoadJson.result c.in-LoadJson.is
    (λ files. refl)
    refl refl c.load-in-LoadJson.ensures.answers

pub returns-in-LoadJson-clause-asked : goal.returns-in-LoadJson-clause-asked
returns-in-LoadJson-clause-asked g c = λ e.
    subst (λ s. CanAsk g.H.PairHash.pair_of c.args.store.now c.args.writer.0 s)
    (sym c.in-LoadJson.is) (c.load-in-LoadJson.ensures.asked e)

pub returns-in-Load-clause-each_once : goal.returns-in-Load-clause-each_once
returns-in-Load-clause-each_once g c =
    subst (λ (s : Statement). AsksStatement g.H.PairHash.pair_of c.args.store.now c.args.writer.0 s
    (is_err c.load.result) (g.F.Files.asked c.args.files.now) (g.F.Files.asked c.load.new.files))
    (sym c.in-Load.is) c.load.ensures.asks

pub returns-in-LoadJson-clause-each_once : goal.returns-in-LoadJson-clause-each_once
returns-in-LoadJson-clause-each_once g c =
    subst (λ (s : Statement). AsksStatement g.H.PairHash.pair_of c.args.store.now c.args.writer.0 s
    (is_err c.load-in-LoadJson.result) (g.F.Files.asked c.args.files.now)
    (g.F.Files.asked c.load-in-LoadJson.new.files)) (sym c.in-LoadJson.is)
    c.load-in-LoadJson.ensures.asks

pub returns-in_ok-decide_alone-in_default-clause-each_once
    : goal.returns-in_ok-decide_alone-in_default-clause-each_once
returns-in_ok-decide_alone-in_default-clause-each_once g c =
    asks_alone g.H.PairHash.pair_of c.args.store.now c.args.writer.0 c.args.statement.now _ _
    (λ v t file is. c.in_default.not-Load v t file is)
    (λ v t file is. c.in_default.not-LoadJson v t file is)

pub returns-in_err-decide_alone-in_default-clause-each_once
    : goal.returns-in_err-decide_alone-in_default-clause-each_once
returns-in_err-decide_alone-in_default-clause-each_once g c =
    asks_alone g.H.PairHash.pair_of c.args.store.now c.args.writer.0 c.args.statement.now _ _
    (λ v t file is. c.in_default.not-Load v t file is)
    (λ v t file is. c.in_default.not-LoadJson v t file is)
