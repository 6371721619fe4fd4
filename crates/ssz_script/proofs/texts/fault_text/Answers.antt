use Rattle.std.proofs.Common.{◌∙◌, append_assoc}
use Rattle.std.proofs.lemmas.Result.{IfOk-weaker}
use Rattle.ssz_script.proofs.texts.fault_text.Goals as goal

pub returns : goal.returns
returns c = IfOk-weaker c.format.result _ _
    (λ text made. made ∙ simp (append_assoc, c.refusal_name-name.ensures)) c.format.ensures.ok
