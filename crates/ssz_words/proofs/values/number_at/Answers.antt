use Rattle.std.proofs.Common.{arith, ◌∙◌}
use Rattle.std.specs.Str.Parse.{ExplainsUnsignedError, HasUnsignedDigitsIfOk, ParsesUnsigned}
use Rattle.clap.specs.Words.{found_of}
use Rattle.clap.proofs.WalkLemmas.{one_text-rows}
use Rattle.ssz_words.proofs.GetterLemmas.{number_read, ok_or_same}
use Rattle.ssz_words.proofs.values.number_at.Goals as goal

pub returns : goal.returns
returns c =
    let rows = one_text-rows (found_of c.args.found.now) c.args.id.now in
    rw c.ok_or.ensures.value (ok_or_same c.get_one.result _
    (number_read _
    (λ bs r. ParsesUnsigned 32 10 bs r × ExplainsUnsignedError 10 bs r
    × HasUnsignedDigitsIfOk bs r) 32 _ _
    (omega arith, omega arith) (λ u x g. g.0)
    (λ e. c.get_one.ensures.none (rows ∙ e)) (λ t e. c.get_one.ensures.value t (rows ∙ e))))
