use Rattle.std.proofs.Common.{◌≡◌, ◌∙◌, ℕ, Option, None, List, [], replicate, get_or, ap, sym, subst}
use Rattle.ssz_value.specs.Faults.{head_fault}
use Rattle.ssz_value.specs.Reading.{elements_in}
use Rattle.ssz_parts.proofs.ElementLemmas.{part_fixed_first, part_variable_first, fixed_room}
use Rattle.ssz_parts.proofs.elements.element_at.Goals as goal

pub fixed_at-requires-clause-room : goal.fixed_at-requires-clause-room
fixed_at-requires-clause-room c =
    fixed_room c.args.count c.in-Some.size c.args.bytes.now c.args.i
    (subst (λ (size : Option ℕ). head_fault (replicate c.args.count size) 0 c.args.bytes.now ≡ None)
    c.in-Some.is c.requires.head) c.requires.below

pub returns-in-Some : goal.returns-in-Some
returns-in-Some c =
    c.fixed_at.ensures ∙ sym (part_fixed_first c.args.count c.in-Some.size c.args.bytes.now c.args.i
    c.requires.below)
    ∙ ap (λ (size : Option ℕ). get_or (elements_in size c.args.count c.args.bytes.now) c.args.i
    (let none : List ℕ = [] in none)) (sym c.in-Some.is)

pub returns-in-None : goal.returns-in-None
returns-in-None c =
    c.variable_at.ensures ∙ sym (part_variable_first c.args.count c.args.bytes.now c.args.i
    c.requires.below)
    ∙ ap (λ (size : Option ℕ). get_or (elements_in size c.args.count c.args.bytes.now) c.args.i
    (let none : List ℕ = [] in none)) (sym c.in-None.is)
