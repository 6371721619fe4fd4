use Rattle.ssz_handles.proofs.Arguments.{few-first}
use Rattle.ssz_c.proofs.editing.ssz_session_load.Goals as goal

pub returns-clause-first : goal.returns-clause-first
returns-clause-first c =
    few-first c.args.bytes.now c.lit.result c.args.handle.now.held.value
    c.answer.new.self.held.value c.answer.result c.say.new.fault c.lit.ensures.first
    c.answer.ensures c.say.ensures.said
