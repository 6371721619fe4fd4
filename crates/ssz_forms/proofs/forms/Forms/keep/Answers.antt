use Rattle.ssz_forms.proofs.Kept.{kept_right}
use Rattle.ssz_forms.proofs.forms.Forms.keep.Goals as goal

pub returns : goal.returns
returns c = λ types right here. record {
  each = kept_right types c.args.self.now.answers c.insert.new.self c.args.first c.args.second
      c.args.same right.each here c.in_ok-insert.ensures.updates.0;
}
