use Rattle.std.proofs.Common.{arith, sym, ap, ◌∙◌}
use Rattle.ssz_versions.specs.Trees.{entries_of}
use Rattle.ssz_versions.proofs.Ordered.{full_fork, left_shorter, right_shorter, left_ordered, right_ordered, find_less, find_equal, find_greater}
use Rattle.ssz_versions.proofs.tree.Tree.+find.Goals as goal

pub find-requires : goal.find-requires
find-requires t c =
    let is = full_fork _ _ _ _ c.self.view_is (ap entries_of c.in-Held.is)
    (sym c.deref.ensures ∙ c.in-Full.is) in
    let fork = c.in-Full.fork in
    let key = c.args.key.now in (
      omega (arith, c.decreases, left_shorter key fork.left fork.entry fork.right is),
      left_ordered key fork.left fork.entry fork.right is c.requires,
    )

pub find-requires-in-Greater : goal.find-requires-in-Greater
find-requires-in-Greater t c =
    let is = full_fork _ _ _ _ c.self.view_is (ap entries_of c.in-Held.is)
    (sym c.deref.ensures ∙ c.in-Full.is) in
    let fork = c.in-Full.fork in
    let key = c.args.key.now in (
      omega (arith, c.decreases, right_shorter key fork.left fork.entry fork.right is),
      right_ordered key fork.left fork.entry fork.right is c.requires,
    )

pub returns-in-Less : goal.returns-in-Less
returns-in-Less t c =
    let is = full_fork _ _ _ _ c.self.view_is (ap entries_of c.in-Held.is)
    (sym c.deref.ensures ∙ c.in-Full.is) in
    let fork = c.in-Full.fork in
    c.find.ensures
    ∙ sym (find_less c.args.key.now fork.left fork.entry fork.right is
    c.requires (sym c.order.ensures ∙ c.in-Less.is))

pub returns-in-Equal : goal.returns-in-Equal
returns-in-Equal t c =
    let is = full_fork _ _ _ _ c.self.view_is (ap entries_of c.in-Held.is)
    (sym c.deref.ensures ∙ c.in-Full.is) in
    let fork = c.in-Full.fork in
    sym (find_equal c.args.key.now fork.left fork.entry fork.right is
    c.requires (sym c.order.ensures ∙ c.in-Equal.is))

pub returns-in-Greater : goal.returns-in-Greater
returns-in-Greater t c =
    let is = full_fork _ _ _ _ c.self.view_is (ap entries_of c.in-Held.is)
    (sym c.deref.ensures ∙ c.in-Full.is) in
    let fork = c.in-Full.fork in
    c.find-in-Greater.ensures
    ∙ sym (find_greater c.args.key.now fork.left fork.entry fork.right is
    c.requires (sym c.order.ensures ∙ c.in-Greater.is))
