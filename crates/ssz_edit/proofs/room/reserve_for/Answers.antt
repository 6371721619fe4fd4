use Rattle.std.proofs.Common.{◌+◌, ◌*◌, arith}
use Rattle.std.proofs.lemmas.Result.{on_ok_weaker}
use Rattle.ssz_schema.specs.Unfolding.{type_of}
use Rattle.ssz_value.specs.Pairs.{pairs}
use Rattle.ssz_edit.specs.Given.{given_value}
use Rattle.ssz_edit.proofs.room.reserve_for.Goals as goal

pub returns-clause-ok : goal.returns-clause-ok
returns-clause-ok g c =
    let u = type_of c.args.schema.now c.args.id in
    let nodes = 2 * pairs u (given_value u c.args.given.now) + 1 in
    on_ok_weaker c.reserve_nodes.result (λ room. room (nodes + c.args.more)
    (omega (arith, c.saturating_add.ensures, c.given_needed-nodes.ensures)))
    c.reserve_nodes.ensures.ok

pub returns-clause-stays : goal.returns-clause-stays
returns-clause-stays g c enough =
    c.reserve_nodes.ensures.stays (omega (
      arith,
      enough,
      c.saturating_add.ensures,
      c.given_needed-nodes.ensures,
    ))

pub returns-clause-most : goal.returns-clause-most
returns-clause-most g c = omega (
  arith,
  c.reserve_nodes.ensures.most,
  c.saturating_add.ensures,
  c.given_needed-nodes.ensures,
)
