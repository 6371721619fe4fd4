use Rattle.std.proofs.Common.{◌≡◌, ◌∙◌, ℕ, sym, ap}
use Rattle.ssz_machine.specs.Drawing.{change_of, changes_one, drawn}
use Rattle.ssz_draws.specs.Turns.{change_meant}
use Rattle.ssz_draws.proofs.Turning.{list_goes}
use Rattle.ssz_draws.proofs.generator.Generator.turn_of_list.Goals as goal

pub returns-in-One : goal.returns-in-One
returns-in-One c =
    let x : ℕ = c.args.self.now in
    let n : ℕ = c.args.n in
    let limit : ℕ = c.args.limit in
    let change : change_of (drawn 4 x) n limit ≡ changes_one =
    ap (λ a. change_of a n limit) (sym c.draw.ensures.drawn) ∙ sym c.change_of.ensures.exact
    ∙ ap change_meant c.in-One.is in (
      c.requires.before,
      λ v known. list_goes c.args.schema.now c.args.elem limit n x c.draw.new.self
          c.draw_below.new.self c.draw_below.result v change c.draw.ensures.next
          c.draw_below.ensures.drawn c.draw_below.ensures.next c.draw_below.ensures.below known,
    )
