use Rattle.std.proofs.Common.{◌≡◌, sym, ◌∙◌}
use Rattle.ssz_tool.specs.Lines.{line_text}
use Rattle.ssz_tool.proofs.top.print_line.Goals as goal

pub returns-clause-ends : goal.returns-clause-ends
returns-clause-ends g c = λ held reads.
    let text : line_text c.args.line.now ≡ c.as_str.result.now =
    sym (c.as_str.ensures.value ∙ c.in-Ok.ensures) in
    rw (text, sym c.status_of.ensures.value) (c.say_line-ended.ensures.ends held reads)
