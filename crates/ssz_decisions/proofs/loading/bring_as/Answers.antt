use Rattle.std.proofs.Common.{IfOk, sym, subst}
use Rattle.ssz_schema.specs.Unfolding.{type_of}
use Rattle.ssz_machine.specs.Changes.{puts}
use Rattle.ssz_decisions.specs.Decisions.{AnswersAnew}
use Rattle.ssz_decisions.specs.Loading.{brought_as}
use Rattle.ssz_decisions.specs.declared.load_form.Form.{Form}
use Rattle.ssz_decisions.proofs.loading.bring_as.Goals as goal

pub returns-in-Encoding-clause-answers : goal.returns-in-Encoding-clause-answers
returns-in-Encoding-clause-answers g c =
    subst (λ (form : Form). IfOk c.bring.result (AnswersAnew g.H.PairHash.pair_of
    (λ rules versions. brought_as form versions c.args.v.now
    (type_of c.args.store.now.types c.args.id) c.args.bytes.now)
    (puts c.args.v.now) c.args.writer.0 c.args.store.now c.bring.new.store))
    (sym c.in-Encoding.is) c.bring.ensures.answers

pub returns-in-Json-clause-answers : goal.returns-in-Json-clause-answers
returns-in-Json-clause-answers g c =
    subst (λ (form : Form). IfOk c.bring_json.result (AnswersAnew g.H.PairHash.pair_of
    (λ rules versions. brought_as form versions c.args.v.now
    (type_of c.args.store.now.types c.args.id) c.args.bytes.now)
    (puts c.args.v.now) c.args.writer.0 c.args.store.now c.bring_json.new.store))
    (sym c.in-Json.is) (c.bring_json.ensures.answers c.args.writer.0 c.requires.free)
