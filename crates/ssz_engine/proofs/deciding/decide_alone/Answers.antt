use Rattle.std.proofs.Common.{◌-◌, IfOk, List, ℕ, Result, Ok, Err, refl, subst}
use Rattle.std.specs.declared.alloc.AllocError.{AllocError}
use Rattle.ssz_outside.specs.Content.{Content as Files}
use Rattle.ssz_machine.specs.Making.{fork, lit, list, new, upgrade}
use Rattle.ssz_machine.specs.Editing.{append, choose, pop, set}
use Rattle.ssz_machine.specs.Asking.{bytes, gindex, json_row, len, prove, save}
use Rattle.ssz_machine.specs.Changes.{nothing, puts}
use Rattle.ssz_decisions.specs.Decisions.{AnswersAnew, AnswersRow, AnswersWith}
use Rattle.ssz_decisions.specs.declared.decision.Decision.{Decision}
use Rattle.ssz_engine.proofs.Found.{alone, alone-ok, anew-ok, anew-with, with-ok}
use Rattle.ssz_engine.proofs.deciding.decide_alone.Goals as goal

pub returns-in-New-clause-decides : goal.returns-in-New-clause-decides
returns-in-New-clause-decides g c =
    anew-ok g.H.PairHash.pair_of c.args.place
    (g.H.PairHash.pairs c.args.hasher.now - c.args.store.now.base) c.args.writer.0
    c.args.store.now c.new.new.store (g.H.PairHash.pairs c.args.hasher.now)
    (g.H.PairHash.pairs c.args.hasher.now) c.args.statement.now _ c.new.result c.in-New.is refl
    (anew-with g.H.PairHash.pair_of (λ rules versions. new rules versions c.in-New.v c.in-New.t)
    (puts c.in-New.v) c.args.writer.0 c.args.store.now c.new.new.store
    (g.H.PairHash.pairs c.args.hasher.now) c.new.result c.new.ensures.answers)

pub returns-in-Lit-clause-decides : goal.returns-in-Lit-clause-decides
returns-in-Lit-clause-decides g c =
    anew-ok g.H.PairHash.pair_of c.args.place
    (g.H.PairHash.pairs c.args.hasher.now - c.args.store.now.base) c.args.writer.0
    c.args.store.now c.lit.new.store (g.H.PairHash.pairs c.args.hasher.now)
    (g.H.PairHash.pairs c.args.hasher.now) c.args.statement.now _ c.lit.result c.in-Lit.is refl
    (anew-with g.H.PairHash.pair_of (λ rules versions. lit rules versions c.in-Lit.v c.in-Lit.t
    c.in-Lit.literal)
    (puts c.in-Lit.v) c.args.writer.0 c.args.store.now c.lit.new.store
    (g.H.PairHash.pairs c.args.hasher.now) c.lit.result
    (subst (λ (bytes : List ℕ). IfOk c.lit.result (AnswersAnew g.H.PairHash.pair_of
    (λ rules versions. lit rules versions c.in-Lit.v c.in-Lit.t bytes)
    (puts c.in-Lit.v) c.args.writer.0 c.args.store.now c.lit.new.store))
    c.as_slice.ensures.value c.lit.ensures.answers))

pub returns-in-List-clause-decides : goal.returns-in-List-clause-decides
returns-in-List-clause-decides g c =
    alone-ok g.H.PairHash.pair_of c.args.place
    (g.H.PairHash.pairs c.args.hasher.now - c.args.store.now.base) c.args.writer.0
    c.args.store.now c.args.store.now (g.H.PairHash.pairs c.args.hasher.now)
    (g.H.PairHash.pairs c.args.hasher.now) c.args.statement.now _ c.list.result c.in-List.is refl
    (with-ok g.H.PairHash.pair_of (λ rules versions. list versions) nothing c.args.writer.0
    c.args.store.now c.args.store.now (g.H.PairHash.pairs c.args.hasher.now) c.list.result
    c.list.ensures)

pub returns-in-Upgrade-clause-decides : goal.returns-in-Upgrade-clause-decides
returns-in-Upgrade-clause-decides g c =
    alone-ok g.H.PairHash.pair_of c.args.place
    (g.H.PairHash.pairs c.args.hasher.now - c.args.store.now.base) c.args.writer.0
    c.args.store.now c.upgrade.new.store (g.H.PairHash.pairs c.args.hasher.now)
    (g.H.PairHash.pairs c.args.hasher.now) c.args.statement.now _ c.upgrade.result c.in-Upgrade.is
    refl
    (with-ok g.H.PairHash.pair_of (λ rules versions. upgrade rules versions c.in-Upgrade.v
    c.in-Upgrade.w c.in-Upgrade.t)
    (puts c.in-Upgrade.w) c.args.writer.0 c.args.store.now c.upgrade.new.store
    (g.H.PairHash.pairs c.args.hasher.now) c.upgrade.result c.upgrade.ensures.answers)

pub returns-in-Fork-clause-decides : goal.returns-in-Fork-clause-decides
returns-in-Fork-clause-decides g c =
    alone-ok g.H.PairHash.pair_of c.args.place
    (g.H.PairHash.pairs c.args.hasher.now - c.args.store.now.base) c.args.writer.0
    c.args.store.now c.args.store.now (g.H.PairHash.pairs c.args.hasher.now)
    (g.H.PairHash.pairs c.args.hasher.now) c.args.statement.now _ c.fork.result c.in-Fork.is refl
    (with-ok g.H.PairHash.pair_of
    (λ rules versions. fork versions c.in-Fork.v c.in-Fork.w) (puts c.in-Fork.w)
    c.args.writer.0 c.args.store.now c.args.store.now (g.H.PairHash.pairs c.args.hasher.now)
    c.fork.result c.fork.ensures.answers)

pub returns-in-Drop-clause-decides : goal.returns-in-Drop-clause-decides
returns-in-Drop-clause-decides g c =
    alone g.H.PairHash.pair_of c.args.place
    (g.H.PairHash.pairs c.args.hasher.now - c.args.store.now.base) c.args.writer.0
    c.args.store.now c.args.store.now (g.H.PairHash.pairs c.args.hasher.now)
    (g.H.PairHash.pairs c.args.hasher.now) c.args.statement.now _ _ c.in-Drop.is refl
    (λ files. c.drop.ensures (g.H.PairHash.pairs c.args.hasher.now))

pub returns-in-Hashes-clause-decides : goal.returns-in-Hashes-clause-decides
returns-in-Hashes-clause-decides g c =
    alone g.H.PairHash.pair_of c.args.place
    (g.H.PairHash.pairs c.args.hasher.now - c.args.store.now.base) c.args.writer.0
    c.args.store.now c.args.store.now (g.H.PairHash.pairs c.args.hasher.now)
    (g.H.PairHash.pairs c.args.hasher.now) c.args.statement.now _ _ c.in-Hashes.is refl
    (λ files. c.hashes.ensures (g.H.PairHash.pairs c.args.hasher.now))

pub returns-in-Root-clause-decides : goal.returns-in-Root-clause-decides
returns-in-Root-clause-decides g c =
    alone g.H.PairHash.pair_of c.args.place
    (g.H.PairHash.pairs c.args.hasher.now - c.args.store.now.base) c.args.writer.0
    c.args.store.now c.root.new.store (g.H.PairHash.pairs c.args.hasher.now)
    (g.H.PairHash.pairs c.root.new.hasher) c.args.statement.now _ _ c.in-Root.is refl
    (λ files. c.root.ensures.answers)

pub returns-in-Gindex-clause-decides : goal.returns-in-Gindex-clause-decides
returns-in-Gindex-clause-decides g c =
    alone-ok g.H.PairHash.pair_of c.args.place
    (g.H.PairHash.pairs c.args.hasher.now - c.args.store.now.base) c.args.writer.0
    c.args.store.now c.args.store.now (g.H.PairHash.pairs c.args.hasher.now)
    (g.H.PairHash.pairs c.args.hasher.now) c.args.statement.now _ c.gindex.result c.in-Gindex.is
    refl
    (with-ok g.H.PairHash.pair_of
    (λ rules versions. gindex rules versions c.in-Gindex.t c.in-Gindex.path) nothing
    c.args.writer.0 c.args.store.now c.args.store.now (g.H.PairHash.pairs c.args.hasher.now)
    c.gindex.result c.gindex.ensures)

pub returns-in-Save-clause-decides : goal.returns-in-Save-clause-decides
returns-in-Save-clause-decides g c =
    alone-ok g.H.PairHash.pair_of c.args.place
    (g.H.PairHash.pairs c.args.hasher.now - c.args.store.now.base) c.args.writer.0
    c.args.store.now c.args.store.now (g.H.PairHash.pairs c.args.hasher.now)
    (g.H.PairHash.pairs c.args.hasher.now) c.args.statement.now _ c.save.result c.in-Save.is refl
    (with-ok g.H.PairHash.pair_of
    (λ rules versions. save rules c.args.place versions c.in-Save.v c.in-Save.file) nothing
    c.args.writer.0 c.args.store.now c.args.store.now (g.H.PairHash.pairs c.args.hasher.now)
    c.save.result c.save.ensures)

pub returns-in-Bytes-clause-decides : goal.returns-in-Bytes-clause-decides
returns-in-Bytes-clause-decides g c =
    alone-ok g.H.PairHash.pair_of c.args.place
    (g.H.PairHash.pairs c.args.hasher.now - c.args.store.now.base) c.args.writer.0
    c.args.store.now c.args.store.now (g.H.PairHash.pairs c.args.hasher.now)
    (g.H.PairHash.pairs c.args.hasher.now) c.args.statement.now _ c.bytes.result c.in-Bytes.is refl
    (with-ok g.H.PairHash.pair_of
    (λ rules versions. bytes rules versions c.in-Bytes.v c.in-Bytes.path) nothing
    c.args.writer.0 c.args.store.now c.args.store.now (g.H.PairHash.pairs c.args.hasher.now)
    c.bytes.result c.bytes.ensures)

pub returns-in-Json-clause-decides : goal.returns-in-Json-clause-decides
returns-in-Json-clause-decides g c =
    alone-ok g.H.PairHash.pair_of c.args.place
    (g.H.PairHash.pairs c.args.hasher.now - c.args.store.now.base) c.args.writer.0
    c.args.store.now c.args.store.now (g.H.PairHash.pairs c.args.hasher.now)
    (g.H.PairHash.pairs c.args.hasher.now) c.args.statement.now _ c.json.result c.in-Json.is refl
    (with-ok g.H.PairHash.pair_of
    (λ rules versions. json_row rules versions c.in-Json.v c.in-Json.path) nothing
    c.args.writer.0 c.args.store.now c.args.store.now (g.H.PairHash.pairs c.args.hasher.now)
    c.json.result c.json.ensures)

pub returns-in-Len-clause-decides : goal.returns-in-Len-clause-decides
returns-in-Len-clause-decides g c =
    alone-ok g.H.PairHash.pair_of c.args.place
    (g.H.PairHash.pairs c.args.hasher.now - c.args.store.now.base) c.args.writer.0
    c.args.store.now c.args.store.now (g.H.PairHash.pairs c.args.hasher.now)
    (g.H.PairHash.pairs c.args.hasher.now) c.args.statement.now _ c.len.result c.in-Len.is refl
    (with-ok g.H.PairHash.pair_of
    (λ rules versions. len versions c.in-Len.v c.in-Len.path) nothing
    c.args.writer.0 c.args.store.now c.args.store.now (g.H.PairHash.pairs c.args.hasher.now)
    c.len.result c.len.ensures)

-- what is so, is so whatever the files hold
whatever-files : (P : Decision → Type 0) (r : Result Decision AllocError) → IfOk r P
    → IfOk r (λ made. (files : Files) → P made)
whatever-files P (Ok made) h = λ files. h
whatever-files P (Err fault) h = h

pub returns-in-Prove-clause-decides : goal.returns-in-Prove-clause-decides
returns-in-Prove-clause-decides g c =
    alone-ok g.H.PairHash.pair_of c.args.place
    (g.H.PairHash.pairs c.args.hasher.now - c.args.store.now.base) c.args.writer.0
    c.args.store.now c.prove.new.store (g.H.PairHash.pairs c.args.hasher.now)
    (g.H.PairHash.pairs c.prove.new.hasher) c.args.statement.now _ c.prove.result c.in-Prove.is refl
    (whatever-files (AnswersRow g.H.PairHash.pair_of
    (λ rules versions. prove rules versions c.in-Prove.v c.in-Prove.indices) nothing
    c.args.writer.0 c.args.store.now c.prove.new.store
    (g.H.PairHash.pairs c.args.hasher.now) (g.H.PairHash.pairs c.prove.new.hasher))
    c.prove.result c.prove.ensures.answers)

pub returns-in-Set-clause-decides : goal.returns-in-Set-clause-decides
returns-in-Set-clause-decides g c =
    let old = c.args.store.now in
    let new = c.set.new.store in
    let pair_of = g.H.PairHash.pair_of in
    let count = g.H.PairHash.pairs c.args.hasher.now in
    let w = c.args.writer.0 in
    alone-ok pair_of c.args.place (count - old.base) w old new count count c.args.statement.now _
    c.set.result c.in-Set.is refl
    (with-ok pair_of (λ rules versions. set versions c.in-Set.v c.in-Set.path c.in-Set.literal)
    (puts c.in-Set.v) w old new count c.set.result
    (subst (λ (bytes : List ℕ). IfOk c.set.result (AnswersWith pair_of
    (λ rules versions. set versions c.in-Set.v c.in-Set.path bytes)
    (puts c.in-Set.v) w old new))
    c.as_slice-in-Set.ensures.value c.set.ensures.answers))

pub returns-in-Append-clause-decides : goal.returns-in-Append-clause-decides
returns-in-Append-clause-decides g c =
    let old = c.args.store.now in
    let new = c.append.new.store in
    let pair_of = g.H.PairHash.pair_of in
    let count = g.H.PairHash.pairs c.args.hasher.now in
    let w = c.args.writer.0 in
    alone-ok pair_of c.args.place (count - old.base) w old new count count c.args.statement.now _
    c.append.result c.in-Append.is refl
    (with-ok pair_of
    (λ rules versions. append versions c.in-Append.v c.in-Append.path c.in-Append.literal)
    (puts c.in-Append.v) w old new count c.append.result
    (subst (λ (bytes : List ℕ). IfOk c.append.result (AnswersWith pair_of
    (λ rules versions. append versions c.in-Append.v c.in-Append.path bytes)
    (puts c.in-Append.v) w old new))
    c.as_slice-in-Append.ensures.value c.append.ensures.answers))

pub returns-in-Pop-clause-decides : goal.returns-in-Pop-clause-decides
returns-in-Pop-clause-decides g c =
    let old = c.args.store.now in
    let new = c.pop.new.store in
    let pair_of = g.H.PairHash.pair_of in
    let count = g.H.PairHash.pairs c.args.hasher.now in
    let w = c.args.writer.0 in
    alone-ok pair_of c.args.place (count - old.base) w old new count count c.args.statement.now _
    c.pop.result c.in-Pop.is refl
    (with-ok pair_of (λ rules versions. pop versions c.in-Pop.v c.in-Pop.path)
    (puts c.in-Pop.v) w old new count c.pop.result c.pop.ensures.answers)

pub returns-in-Choose-clause-decides : goal.returns-in-Choose-clause-decides
returns-in-Choose-clause-decides g c =
    let old = c.args.store.now in
    let new = c.choose.new.store in
    let pair_of = g.H.PairHash.pair_of in
    let count = g.H.PairHash.pairs c.args.hasher.now in
    let w = c.args.writer.0 in
    alone-ok pair_of c.args.place (count - old.base) w old new count count c.args.statement.now _
    c.choose.result c.in-Choose.is refl
    (with-ok pair_of
    (λ rules versions.
    choose versions c.in-Choose.v c.in-Choose.path c.in-Choose.selector c.in-Choose.literal)
    (puts c.in-Choose.v) w old new count c.choose.result c.choose.ensures.answers)
