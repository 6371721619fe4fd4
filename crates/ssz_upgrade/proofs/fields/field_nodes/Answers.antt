use Rattle.std.proofs.Common.{sym, subst, arith}
use Rattle.ssz_upgrade.specs.Fields.{IsFieldAt}
use Rattle.ssz_upgrade.proofs.Walking.{FieldsSoFar, FieldsSoFar-start, FieldsSoFar-more, FieldsSoFar-short, FieldsSoFar-end}
use Rattle.ssz_upgrade.proofs.fields.field_nodes.Goals as goal

pub loop-i-init : goal.loop-i-init
loop-i-init g c =
    subst (FieldsSoFar c.args.arena.now c.args.node c.args.depth c.args.count 0)
    (sym c.in_ok-nodes.ensures.items)
    (FieldsSoFar-start c.args.arena.now c.args.node c.args.depth c.args.count)

pub loop-i-preserved : goal.loop-i-preserved
loop-i-preserved g c =
    FieldsSoFar-more c.args.arena.now c.args.node c.args.depth c.args.count c.loop-i.i
    c.loop-i.nodes.items c.push.new.self.items c.in-Some.field c.loop-i.invariant
    c.loop-i-test.true
    (subst (IsFieldAt c.args.arena.now c.args.node c.args.depth c.loop-i.i) c.in-Some.is
    c.field_node.ensures)
    c.in_ok-push-in-Some.ensures.items

pub returns-in-None : goal.returns-in-None
returns-in-None g c =
    FieldsSoFar-short c.args.arena.now c.args.node c.args.depth c.args.count c.loop-i.i
    c.loop-i.nodes.items c.field_node.result c.loop-i.invariant c.requires.few c.loop-i-test.true
    c.field_node.ensures c.in-None.is

pub returns : goal.returns
returns g c =
    FieldsSoFar-end c.args.arena.now c.args.node c.args.depth c.args.count c.loop-i.i
    c.loop-i.nodes.items c.loop-i.invariant c.requires.few (omega arith)
