use Rattle.ssz_schema.specs.Unfolding.{type_of}
use Rattle.ssz_machine.specs.Making.{lit}
use Rattle.ssz_machine.specs.Changes.{puts}
use Rattle.ssz_decisions.specs.Decisions.{AnswersAnew}
use Rattle.ssz_decisions.specs.Loading.{loaded_row}
use Rattle.ssz_decisions.proofs.Brought.{anew-same, refused-anew, free-row, taken-row}
use Rattle.ssz_decisions.proofs.Results.{ok-of}
use Rattle.ssz_decisions.proofs.making.lit.Goals as goal

pub returns-clause-answers : goal.returns-clause-answers
returns-clause-answers g c =
    let pair_of = g.H.PairHash.pair_of in
    let old = c.args.store.now in
    let new = c.bring.new.store in
    let v = c.args.v.now in
    let t = c.args.t.now in
    let w = c.args.writer.0 in
    let bytes = c.args.literal.now in
    let type = type_of old.types c.in-Ok.id in
    ok-of (AnswersAnew pair_of (λ rules versions. loaded_row versions v type bytes)
    (puts v) w old new)
    (AnswersAnew pair_of (λ rules versions. lit rules versions v t bytes) (puts v) w old new)
    c.bring.result
    (λ made answers. anew-same pair_of (λ rules versions. loaded_row versions v type bytes)
    (λ rules versions. lit rules versions v t bytes) (puts v) w old new made
    (λ versions stand. free-row pair_of old w v t versions stand c.in-Ok.id
    (λ type. loaded_row versions v type bytes) c.in-Ok.ensures.ok) answers)
    c.bring.ensures.answers

pub returns-in-Err-clause-answers : goal.returns-in-Err-clause-answers
returns-in-Err-clause-answers g c =
    refused-anew g.H.PairHash.pair_of (λ rules versions. lit rules versions c.args.v.now
    c.args.t.now c.args.literal.now)
    (puts c.args.v.now) c.args.writer.0 c.args.store.now c.in-Err.code
    (λ versions stand. taken-row g.H.PairHash.pair_of c.args.store.now c.args.writer.0
    c.args.v.now c.args.t.now versions stand c.in-Err.code
    (λ t. loaded_row versions c.args.v.now t c.args.literal.now) c.in-Err.ensures.err)
