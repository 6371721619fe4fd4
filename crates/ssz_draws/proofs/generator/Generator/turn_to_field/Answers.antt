use Rattle.std.proofs.Common.{◌≡◌, ◌∙◌, ℕ, List, sym, subst}
use Rattle.ssz_schema.specs.declared.path.PathStep.TheVariants.{Field}
use Rattle.ssz_schema.specs.Types.{SszType, container}
use Rattle.ssz_schema.specs.Unfolding.{fields_over}
use Rattle.ssz_schema.proofs.SumLemmas.{Part}
use Rattle.ssz_value.specs.Values.{Fits}
use Rattle.ssz_machine.specs.Drawing.{next_seed}
use Rattle.ssz_draws.specs.declared.turn.Turn.TheVariants.{On}
use Rattle.ssz_draws.specs.Turns.{IsDrawnTurn}
use Rattle.ssz_draws.proofs.Turning.{field_on}
use Rattle.ssz_draws.proofs.generator.Generator.turn_to_field.Goals as goal

pub returns : goal.returns
returns c =
    let types = c.args.schema.now in
    let id = c.args.id in
    let t : SszType = container (fields_over types.trees c.args.fields.now) in
    let x : ℕ = c.args.self.now in
    let part : Part = c.index-fields-draw.result in
    let name : part.0 ≡ c.in_ok-name.name = sym (c.in_ok-name.ensures ∙ c.as_bytes.ensures) in
    subst (λ (s : ℕ). IsDrawnTurn types id t (Fits t) x s (On part.1 (Field c.in_ok-name.name)))
    (sym c.draw.ensures.next)
    (subst (λ (n : List ℕ). IsDrawnTurn types id t (Fits t) x (next_seed x) (On part.1 (Field n)))
    name
    (field_on types id c.args.fields.now part x c.draw.result c.requires.before types.format
    c.requires.legal c.draw.ensures.drawn c.draw.ensures.below c.index-fields-draw.is))
