use Rattle.std.proofs.Common.{◌≡◌, ◌∙◌, ℕ, length, sym, ap, subst, inl, inr}
use Rattle.ssz_schema.specs.declared.path.PathStep.TheVariants.{Option as Chosen}
use Rattle.ssz_schema.specs.Types.{SszType, union}
use Rattle.ssz_schema.specs.Unfolding.{options_over}
use Rattle.ssz_machine.specs.Drawing.{drawn, next_seed}
use Rattle.ssz_draws.specs.declared.turn.Turn.TheVariants.{Choose}
use Rattle.ssz_draws.specs.Turns.{WalkContinues}
use Rattle.ssz_draws.proofs.Choices.{chosen_on}
use Rattle.ssz_draws.proofs.Turning.{option_turn}
use Rattle.ssz_value.proofs.OptionLemmas.{option_below}
use Rattle.ssz_draws.proofs.generator.Generator.turn_of_union.Goals as goal

pub returns-in-Some : goal.returns-in-Some
returns-in-Some c =
    let types = c.args.schema.now in
    let ids = c.args.options.now in
    let t : SszType = union (options_over types.trees ids) in
    let one : drawn 2 c.args.self.now ≡ 1 = sym c.draw.ensures.drawn ∙ c.if-draw-eq1.true in (
      option_below ids c.args.selector c.in-Some.part c.args.id (sym c.in-Some.ensures.some)
          c.requires.before,
      λ v known. subst (λ (s : ℕ). WalkContinues types t v c.args.self.now s c.in-Some.part
          (Chosen c.args.selector)) (sym c.draw.ensures.next)
          (chosen_on types ids c.args.selector c.in-Some.part c.args.self.now v
          c.in-Some.ensures.some one known),
    )

pub returns-in-None : goal.returns-in-None
returns-in-None c =
    option_turn c.args.schema.now c.args.id c.args.options.now c.args.selector c.args.self.now
    c.turn_to_option.new.self c.turn_to_option.result (inr c.in-None.ensures.none)
    (c.turn_to_option.ensures.drawn
    ∙ ap (λ (s : ℕ). Choose (drawn (length c.args.options.now) s)) c.draw.ensures.next)
    (c.turn_to_option.ensures.next ∙ ap next_seed c.draw.ensures.next)

pub returns : goal.returns
returns c =
    option_turn c.args.schema.now c.args.id c.args.options.now c.args.selector c.args.self.now
    c.turn_to_option-2.new.self c.turn_to_option-2.result
    (inl (λ one. c.if-draw-eq1.false (c.draw.ensures.drawn ∙ one)))
    (c.turn_to_option-2.ensures.drawn
    ∙ ap (λ (s : ℕ). Choose (drawn (length c.args.options.now) s)) c.draw.ensures.next)
    (c.turn_to_option-2.ensures.next ∙ ap next_seed c.draw.ensures.next)
