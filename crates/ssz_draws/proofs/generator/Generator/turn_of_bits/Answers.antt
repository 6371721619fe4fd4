use Rattle.std.proofs.Common.{◌≡◌, ◌∙◌, ℕ, sym, ap}
use Rattle.ssz_value.specs.Values.{Fits}
use Rattle.ssz_schema.specs.Types.{bitlist}
use Rattle.ssz_machine.specs.Drawing.{change_of, changes_one, drawn, drawn_below, drawn_bit, next_seed, seed_after}
use Rattle.ssz_draws.specs.declared.turn.Turn.{Turn}
use Rattle.ssz_draws.specs.declared.turn.Turn.TheVariants.{SetBit}
use Rattle.ssz_draws.specs.Turns.{IsDrawnTurn, HasLength, change_meant}
use Rattle.ssz_draws.proofs.Turning.{if_ok, list_bit}
use Rattle.ssz_draws.proofs.generator.Generator.turn_of_bits.Goals as goal

pub returns-in-One : goal.returns-in-One
returns-in-One c = λ types before.
    let x : ℕ = c.args.self.now in
    let y : ℕ = c.draw.new.self in
    let n : ℕ = c.args.n in
    let limit : ℕ = c.args.limit in
    let next : y ≡ next_seed x = c.draw.ensures.next in
    let change : change_of (drawn 4 x) n limit ≡ changes_one =
    ap (λ a. change_of a n limit) (sym c.draw.ensures.drawn) ∙ sym c.change_of.ensures.exact
    ∙ ap change_meant c.in-One.is in
    if_ok c.turn_to_bit.result
    (λ (turn : Turn). turn ≡ SetBit (drawn_below n y) (drawn_bit (next_seed y)))
    (IsDrawnTurn types before (bitlist limit) (λ v. Fits (bitlist limit) v × HasLength n v) x
    c.turn_to_bit.new.self)
    (c.turn_to_bit.new.self ≡ seed_after 2 y) c.turn_to_bit.ensures.drawn
    c.turn_to_bit.ensures.next
    (λ turn same is. list_bit types before limit n x c.turn_to_bit.new.self turn change
    (same ∙ ap (λ (s : ℕ). SetBit (drawn_below n s) (drawn_bit (next_seed s))) next)
    (is ∙ ap (seed_after 2) next))
