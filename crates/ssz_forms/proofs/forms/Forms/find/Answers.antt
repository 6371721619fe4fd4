use Rattle.std.proofs.Common.{◌∙◌}
use Rattle.ssz_forms.proofs.Kept.{found_right}
use Rattle.ssz_forms.proofs.forms.Forms.find.Goals as goal

pub returns : goal.returns
returns c = λ types right.
    found_right types c.args.self.now.answers c.args.first c.args.second c.copied.result
    (c.copied.ensures ∙ c.get.ensures.value) right.each
