use Rattle.std.proofs.Common.{sym, ap, subst, arith}
use Rattle.ssz_schema.specs.Unfolding.{type_of}
use Rattle.ssz_tree.specs.Added.{MakesNode}
use Rattle.ssz_making.specs.Parts.{MadePart}
use Rattle.ssz_tree.proofs.Adding.{Makes-none}
use Rattle.ssz_tree.proofs.FewNodes.{few_nodes}
use Rattle.ssz_edit.specs.Given.{given_value}
use Rattle.ssz_edit.proofs.ChoiceLanding.{no_option_part, no_value_part, given_of_option, given_part}
use Rattle.ssz_edit.proofs.choosing.option_node.Goals as goal

pub returns-in_default-clause-makes : goal.returns-in_default-clause-makes
returns-in_default-clause-makes g c =
    subst (λ (part : MadePart). MakesNode c.args.arena.now c.args.arena.now part c.zero.result)
    (sym (no_option_part c.args.schema.now c.args.option _ c.in_default.is))
    (Makes-none c.args.arena.now c.zero.result c.zero.ensures.node c.zero.ensures.tree
    c.zero.ensures.todo)

pub returns-in_default-inner-clause-makes : goal.returns-in_default-inner-clause-makes
returns-in_default-inner-clause-makes g c =
    subst (λ (part : MadePart). MakesNode c.args.arena.now c.args.arena.now part
    c.zero-in_default-inner.result)
    (sym (no_value_part c.args.schema.now c.args.option c.args.inner.now c.in_default-inner.is))
    (Makes-none c.args.arena.now c.zero-in_default-inner.result
    c.zero-in_default-inner.ensures.node c.zero-in_default-inner.ensures.tree
    c.zero-in_default-inner.ensures.todo)

pub fitting-requires-clause-given : goal.fitting-requires-clause-given
fitting-requires-clause-given g c =
    given_of_option c.args.schema.now c.args.option c.args.inner.now c.in-Some.id
    c.in-Some-inner.given c.in-Some.is c.in-Some-inner.is c.requires.inner

pub given_node-requires-clause-given : goal.given_node-requires-clause-given
given_node-requires-clause-given g c =
    given_of_option c.args.schema.now c.args.option c.args.inner.now c.in-Some.id
    c.in-Some-inner.given c.in-Some.is c.in-Some-inner.is c.requires.inner

pub given_node-requires-clause-room : goal.given_node-requires-clause-room
given_node-requires-clause-room g c =
    let t = type_of c.args.schema.now c.in-Some.id in
    omega (
      arith,
      c.requires.room,
      ap (λ (part : MadePart). part.cost)
          (given_part c.args.schema.now c.args.option c.args.inner.now c.in-Some.id
          c.in-Some-inner.given c.in-Some.is c.in-Some-inner.is),
      few_nodes t (given_value t c.in-Some-inner.given) c.fitting.ensures,
    )

pub returns-clause-makes : goal.returns-clause-makes
returns-clause-makes g c =
    subst (λ (part : MadePart).
    MakesNode c.args.arena.now c.given_node.new.arena part c.given_node.result)
    (sym (given_part c.args.schema.now c.args.option c.args.inner.now c.in-Some.id
    c.in-Some-inner.given c.in-Some.is c.in-Some-inner.is))
    c.given_node.ensures

pub returns-clause-spare : goal.returns-clause-spare
returns-clause-spare g c =
    let t = type_of c.args.schema.now c.in-Some.id in
    omega (
      arith,
      c.given_node.ensures.adds.spare,
      ap (λ (part : MadePart). part.cost)
          (given_part c.args.schema.now c.args.option c.args.inner.now c.in-Some.id
          c.in-Some-inner.given c.in-Some.is c.in-Some-inner.is),
      few_nodes t (given_value t c.in-Some-inner.given) c.fitting.ensures,
    )
