use Rattle.std.proofs.Common.{arith}
use Rattle.ssz_gindex.proofs.Stepping.{Calls, height-falls, sibling-met, single-met, whole-met, none-met, upper-met, root-met}
use Rattle.ssz_gindex.proofs.walk.Walk.step.Goals as goal

pub returns-then-index-parent-clause-comes : goal.returns-then-index-parent-clause-comes
returns-then-index-parent-clause-comes c = λ indices found walks.
    upper-met indices c.loop-node.self.indices.items c.loop-node.self.parents.items found
    (c.loop-node.invariant.walks indices found walks)
    c.take-index.new.end.items c.take-parent.new.end.items c.in-Some.node
    c.take-index.result c.take-parent.result c.in-Some.ensures.positive c.in-Some.ensures.some
    (record { is = c.take-index.ensures.taken; rest = c.take-index.ensures.rest })
    (record { is = c.take-parent.ensures.taken; rest = c.take-parent.ensures.rest })
    c.if-index-parent.true

pub returns-then-get-eq1-clause-comes : goal.returns-then-get-eq1-clause-comes
returns-then-get-eq1-clause-comes c = λ indices found walks.
    root-met indices c.loop-node.self.indices.items c.loop-node.self.parents.items found
    (c.loop-node.invariant.walks indices found walks)
    c.take-index.new.end.items c.take-parent.new.end.items c.in-Some.node
    c.take-index.result c.take-parent.result
    (omega (arith, c.get.ensures.number, c.get.ensures.positive)) c.in-Some.ensures.some
    (record { is = c.take-index.ensures.taken; rest = c.take-index.ensures.rest })
    (record { is = c.take-parent.ensures.taken; rest = c.take-parent.ensures.rest })
    c.if-index-parent.false (omega (arith, c.get.ensures.number, c.if-get-eq1.true))

pub returns-then-sibling_index-sibling_parent-clause-comes :
    goal.returns-then-sibling_index-sibling_parent-clause-comes
returns-then-sibling_index-sibling_parent-clause-comes c = λ indices found walks.
    let calls : Calls c.loop-node.self.indices.items c.take-index.new.end.items
    c.take-sibling_index.new.end.items c.loop-node.self.parents.items
    c.take-parent.new.end.items c.take-sibling_parent.new.end.items
    c.in-Some.node c.sibling-sibling.result c.take-index.result c.take-parent.result
    c.take-sibling_index.result c.take-sibling_parent.result =
    record {
      large = omega (arith, c.get.ensures.number, c.get.ensures.positive, c.if-get-eq1.false);
      is_sibling = c.sibling-sibling.ensures;
      greatest = c.in-Some.ensures.some;
      index_takes = record { is = c.take-index.ensures.taken; rest = c.take-index.ensures.rest };
      parent_takes = record { is = c.take-parent.ensures.taken; rest = c.take-parent.ensures.rest };
      beside_takes = record {
        is = c.take-sibling_index.ensures.taken;
        rest = c.take-sibling_index.ensures.rest;
      };
      upper_takes = record {
        is = c.take-sibling_parent.ensures.taken;
        rest = c.take-sibling_parent.ensures.rest;
      };
    } in
    sibling-met c.loop-node.self.indices.items c.take-index.new.end.items
    c.take-sibling_index.new.end.items c.loop-node.self.parents.items
    c.take-parent.new.end.items c.take-sibling_parent.new.end.items
    c.in-Some.node c.sibling-sibling.result c.take-index.result c.take-parent.result
    c.take-sibling_index.result c.take-sibling_parent.result calls
    indices found (c.loop-node.invariant.walks indices found walks) c.if-index-parent.false
    c.if-sibling_index-sibling_parent.true

pub returns-then-not-sibling_index-sibling_parent-clause-comes :
    goal.returns-then-not-sibling_index-sibling_parent-clause-comes
returns-then-not-sibling_index-sibling_parent-clause-comes c = λ indices found walks.
    let calls : Calls c.loop-node.self.indices.items c.take-index.new.end.items
    c.take-sibling_index.new.end.items c.loop-node.self.parents.items
    c.take-parent.new.end.items c.take-sibling_parent.new.end.items
    c.in-Some.node c.sibling-sibling.result c.take-index.result c.take-parent.result
    c.take-sibling_index.result c.take-sibling_parent.result =
    record {
      large = omega (arith, c.get.ensures.number, c.get.ensures.positive, c.if-get-eq1.false);
      is_sibling = c.sibling-sibling.ensures;
      greatest = c.in-Some.ensures.some;
      index_takes = record { is = c.take-index.ensures.taken; rest = c.take-index.ensures.rest };
      parent_takes = record { is = c.take-parent.ensures.taken; rest = c.take-parent.ensures.rest };
      beside_takes = record {
        is = c.take-sibling_index.ensures.taken;
        rest = c.take-sibling_index.ensures.rest;
      };
      upper_takes = record {
        is = c.take-sibling_parent.ensures.taken;
        rest = c.take-sibling_parent.ensures.rest;
      };
    } in
    single-met c.loop-node.self.indices.items c.take-index.new.end.items
    c.take-sibling_index.new.end.items c.loop-node.self.parents.items
    c.take-parent.new.end.items c.take-sibling_parent.new.end.items
    c.in-Some.node c.sibling-sibling.result c.take-index.result c.take-parent.result
    c.take-sibling_index.result c.take-sibling_parent.result calls
    indices found (c.loop-node.invariant.walks indices found walks) c.if-index-parent.false
    c.if-sibling_index-sibling_parent.false c.parent.result c.push_back.new.self.items
    c.parent.ensures c.in_ok-push_back.ensures.items
    c.if-not-sibling_index-sibling_parent.true

pub returns-then-not-sibling_index-sibling_parent-clause-up :
    goal.returns-then-not-sibling_index-sibling_parent-clause-up
returns-then-not-sibling_index-sibling_parent-clause-up c =
    let calls : Calls c.loop-node.self.indices.items c.take-index.new.end.items
    c.take-sibling_index.new.end.items c.loop-node.self.parents.items
    c.take-parent.new.end.items c.take-sibling_parent.new.end.items
    c.in-Some.node c.sibling-sibling.result c.take-index.result c.take-parent.result
    c.take-sibling_index.result c.take-sibling_parent.result =
    record {
      large = omega (arith, c.get.ensures.number, c.get.ensures.positive, c.if-get-eq1.false);
      is_sibling = c.sibling-sibling.ensures;
      greatest = c.in-Some.ensures.some;
      index_takes = record { is = c.take-index.ensures.taken; rest = c.take-index.ensures.rest };
      parent_takes = record { is = c.take-parent.ensures.taken; rest = c.take-parent.ensures.rest };
      beside_takes = record {
        is = c.take-sibling_index.ensures.taken;
        rest = c.take-sibling_index.ensures.rest;
      };
      upper_takes = record {
        is = c.take-sibling_parent.ensures.taken;
        rest = c.take-sibling_parent.ensures.rest;
      };
    } in
    omega (
      arith,
      height-falls c.loop-node.self.indices.items c.take-index.new.end.items
          c.take-sibling_index.new.end.items c.loop-node.self.parents.items
          c.take-parent.new.end.items c.take-sibling_parent.new.end.items
          c.in-Some.node c.sibling-sibling.result c.take-index.result c.take-parent.result
          c.take-sibling_index.result c.take-sibling_parent.result calls
          c.parent.result c.push_back.new.self.items c.parent.ensures
          c.in_ok-push_back.ensures.items,
      c.loop-node.invariant.up,
    )

pub loop-node-smaller : goal.loop-node-smaller
loop-node-smaller c =
    let calls : Calls c.loop-node.self.indices.items c.take-index.new.end.items
    c.take-sibling_index.new.end.items c.loop-node.self.parents.items
    c.take-parent.new.end.items c.take-sibling_parent.new.end.items
    c.in-Some.node c.sibling-sibling.result c.take-index.result c.take-parent.result
    c.take-sibling_index.result c.take-sibling_parent.result =
    record {
      large = omega (arith, c.get.ensures.number, c.get.ensures.positive, c.if-get-eq1.false);
      is_sibling = c.sibling-sibling.ensures;
      greatest = c.in-Some.ensures.some;
      index_takes = record { is = c.take-index.ensures.taken; rest = c.take-index.ensures.rest };
      parent_takes = record { is = c.take-parent.ensures.taken; rest = c.take-parent.ensures.rest };
      beside_takes = record {
        is = c.take-sibling_index.ensures.taken;
        rest = c.take-sibling_index.ensures.rest;
      };
      upper_takes = record {
        is = c.take-sibling_parent.ensures.taken;
        rest = c.take-sibling_parent.ensures.rest;
      };
    } in
    height-falls c.loop-node.self.indices.items c.take-index.new.end.items
    c.take-sibling_index.new.end.items c.loop-node.self.parents.items
    c.take-parent.new.end.items c.take-sibling_parent.new.end.items
    c.in-Some.node c.sibling-sibling.result c.take-index.result c.take-parent.result
    c.take-sibling_index.result c.take-sibling_parent.result calls
    c.parent.result c.push_back.new.self.items c.parent.ensures c.in_ok-push_back.ensures.items

pub loop-node-preserved : goal.loop-node-preserved
loop-node-preserved c =
    let calls : Calls c.loop-node.self.indices.items c.take-index.new.end.items
    c.take-sibling_index.new.end.items c.loop-node.self.parents.items
    c.take-parent.new.end.items c.take-sibling_parent.new.end.items
    c.in-Some.node c.sibling-sibling.result c.take-index.result c.take-parent.result
    c.take-sibling_index.result c.take-sibling_parent.result =
    record {
      large = omega (arith, c.get.ensures.number, c.get.ensures.positive, c.if-get-eq1.false);
      is_sibling = c.sibling-sibling.ensures;
      greatest = c.in-Some.ensures.some;
      index_takes = record { is = c.take-index.ensures.taken; rest = c.take-index.ensures.rest };
      parent_takes = record { is = c.take-parent.ensures.taken; rest = c.take-parent.ensures.rest };
      beside_takes = record {
        is = c.take-sibling_index.ensures.taken;
        rest = c.take-sibling_index.ensures.rest;
      };
      upper_takes = record {
        is = c.take-sibling_parent.ensures.taken;
        rest = c.take-sibling_parent.ensures.rest;
      };
    } in
    record {
      walks = λ indices found walks.
          whole-met c.loop-node.self.indices.items c.take-index.new.end.items
          c.take-sibling_index.new.end.items c.loop-node.self.parents.items
          c.take-parent.new.end.items c.take-sibling_parent.new.end.items
          c.in-Some.node c.sibling-sibling.result c.take-index.result c.take-parent.result
          c.take-sibling_index.result c.take-sibling_parent.result calls
          indices found (c.loop-node.invariant.walks indices found walks) c.if-index-parent.false
          c.if-sibling_index-sibling_parent.false c.parent.result c.push_back.new.self.items
          c.parent.ensures c.in_ok-push_back.ensures.items
          c.if-not-sibling_index-sibling_parent.false;
      up = omega (
        arith,
        height-falls c.loop-node.self.indices.items c.take-index.new.end.items
            c.take-sibling_index.new.end.items c.loop-node.self.parents.items
            c.take-parent.new.end.items c.take-sibling_parent.new.end.items
            c.in-Some.node c.sibling-sibling.result c.take-index.result c.take-parent.result
            c.take-sibling_index.result c.take-sibling_parent.result calls
            c.parent.result c.push_back.new.self.items c.parent.ensures
            c.in_ok-push_back.ensures.items,
        c.loop-node.invariant.up,
      );
    }

pub returns-clause-comes : goal.returns-clause-comes
returns-clause-comes c = λ indices found walks.
    none-met indices c.loop-node.self.indices.items c.loop-node.self.parents.items found
    (c.loop-node.invariant.walks indices found walks)
    (c.greatest.ensures.none c.in_default.is)
