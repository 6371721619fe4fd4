use Rattle.std.proofs.Common.{◌≡◌, ◌==◌, false, length, sym, ◌∙◌, arith}
use Rattle.std.proofs.lemmas.List.{take_all}
use Rattle.std.proofs.Math.Seq.{drop-length}
use Rattle.ssz_line.proofs.LinesLemmas.{lines-feed, lines-last}
use Rattle.ssz_line.proofs.lines.split_line.Goals as goal

pub returns-then-end-text : goal.returns-then-end-text
returns-then-end-text c =
    let end = c.line_end-end in
    rw (
      c.split_at-then-end-text.ensures.back,
      c.split_at.ensures.back,
      c.strip_carriage_return.ensures,
      c.split_at.ensures.front,
    )
    (lines-feed end.result c.args.text.now c.if-end-text.true end.ensures.before
    (end.ensures.at c.if-end-text.true))

pub returns-else-is_empty : goal.returns-else-is_empty
returns-else-is_empty c =
    let text = c.args.text.now in
    let some : (length text == 0) ≡ false = sym c.is_empty.ensures ∙ c.if-is_empty.false in
    let whole = take_all (length text) text (omega arith) in
    let none = drop-length text in
    rw (c.split_at-else-is_empty.ensures.front, c.split_at-else-is_empty.ensures.back, whole, none)
    (lines-last text some (λ k h. c.line_end-end.ensures.before k (omega arith)))
