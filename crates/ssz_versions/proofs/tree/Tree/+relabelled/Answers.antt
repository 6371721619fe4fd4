use Rattle.std.proofs.Common.{◌≡◌, [], ◌∷◌, ◌++◌, append_assoc, arith, sym, ap, subst, ◌∙◌}
use Rattle.std.specs.Ordering.{nat_cmp}
use Rattle.std.specs.Result.{OnOk}
use Rattle.ssz_versions.specs.Lists.{relabelled}
use Rattle.ssz_versions.specs.Trees.{entries_of}
use Rattle.ssz_versions.proofs.Ordered.{full_fork, IsOrdered, left_shorter, right_shorter, left_ordered, right_ordered}
use Rattle.ssz_versions.proofs.Relabelled.{relabelled_less, relabelled_equal, relabelled_greater}
use Rattle.ssz_versions.proofs.tree.Tree.+relabelled.Goals as goal

pub relabelled-requires : goal.relabelled-requires
relabelled-requires t c =
    let is = full_fork _ _ _ _ c.self.view_is (ap entries_of c.in-Held.is)
    (sym c.deref.ensures ∙ c.in-Full.is) in
    let fork = c.in-Full.fork in (
      omega (arith, c.decreases, right_shorter fork.entry.0 fork.left fork.entry fork.right is),
      right_ordered fork.entry.0 fork.left fork.entry fork.right is c.requires,
    )

pub relabelled-requires-in-Equal : goal.relabelled-requires-in-Equal
relabelled-requires-in-Equal t c =
    let is = full_fork _ _ _ _ c.self.view_is (ap entries_of c.in-Held.is)
    (sym c.deref.ensures ∙ c.in-Full.is) in
    let fork = c.in-Full.fork in (
      omega (arith, c.decreases, left_shorter fork.entry.0 fork.left fork.entry fork.right is),
      left_ordered fork.entry.0 fork.left fork.entry fork.right is c.requires,
    )

pub relabelled-requires-in-Equal-2 : goal.relabelled-requires-in-Equal-2
relabelled-requires-in-Equal-2 t c =
    let is = full_fork _ _ _ _ c.self.view_is (ap entries_of c.in-Held.is)
    (sym c.deref.ensures ∙ c.in-Full.is) in
    let fork = c.in-Full.fork in (
      omega (arith, c.decreases, right_shorter fork.entry.0 fork.left fork.entry fork.right is),
      right_ordered fork.entry.0 fork.left fork.entry fork.right is c.requires,
    )

pub relabelled-requires-in-Greater : goal.relabelled-requires-in-Greater
relabelled-requires-in-Greater t c =
    let is = full_fork _ _ _ _ c.self.view_is (ap entries_of c.in-Held.is)
    (sym c.deref.ensures ∙ c.in-Full.is) in
    let fork = c.in-Full.fork in (
      omega (arith, c.decreases, left_shorter fork.entry.0 fork.left fork.entry fork.right is),
      left_ordered fork.entry.0 fork.left fork.entry fork.right is c.requires,
    )

pub returns-in-Less : goal.returns-in-Less
returns-in-Less t c =
    let is = full_fork _ _ _ _ c.self.view_is (ap entries_of c.in-Held.is)
    (sym c.deref.ensures ∙ c.in-Full.is) in
    let fork = c.in-Full.fork in
    let own = ap (relabelled c.args.from c.args.to) is
    ∙ relabelled_less c.args.from c.args.to fork.left fork.entry fork.right
    (subst IsOrdered is c.requires)
    (ap (λ w. nat_cmp w c.args.from) (sym c.writer.ensures) ∙ sym c.cmp.ensures ∙ c.in-Less.is) in
    subst (λ row. OnOk c.relabelled.result
    (c.relabelled.new.own.items ≡ c.args.own.now.items ++ row))
    (sym own) c.relabelled.ensures

pub returns-in_ok-push-in-Equal : goal.returns-in_ok-push-in-Equal
returns-in_ok-push-in-Equal t c =
    let is = full_fork _ _ _ _ c.self.view_is (ap entries_of c.in-Held.is)
    (sym c.deref.ensures ∙ c.in-Full.is) in
    let fork = c.in-Full.fork in
    let from = c.args.from in
    let to = c.args.to in
    let own = c.args.own.now.items in
    let left = relabelled from to fork.left in
    let right = relabelled from to fork.right in
    let all = ap (relabelled from to) is
    ∙ relabelled_equal from to fork.left fork.entry fork.right
    (subst IsOrdered is c.requires)
    (ap (λ w. nat_cmp w from) (sym c.writer.ensures) ∙ sym c.cmp.ensures ∙ c.in-Equal.is) in
    subst (λ row. OnOk c.relabelled-in-Equal-2.result
    (c.relabelled-in-Equal-2.new.own.items ≡ row))
    (ap (λ row. row ++ right) c.in_ok-push-in-Equal.ensures.items
    ∙ ap (λ row. (row ++ (c.of.result, fork.entry.1) ∷ []) ++ right)
    c.in_ok-relabelled-in-Equal.ensures
    ∙ ap (λ key. ((own ++ left) ++ (key, fork.entry.1) ∷ []) ++ right) c.of.ensures
    ∙ append_assoc (own ++ left) (((to, fork.entry.0.1), fork.entry.1) ∷ []) right
    ∙ append_assoc own left (((to, fork.entry.0.1), fork.entry.1) ∷ right)
    ∙ ap (λ row. own ++ row) (sym all)) c.relabelled-in-Equal-2.ensures

pub returns-in-Greater : goal.returns-in-Greater
returns-in-Greater t c =
    let is = full_fork _ _ _ _ c.self.view_is (ap entries_of c.in-Held.is)
    (sym c.deref.ensures ∙ c.in-Full.is) in
    let fork = c.in-Full.fork in
    let own = ap (relabelled c.args.from c.args.to) is
    ∙ relabelled_greater c.args.from c.args.to fork.left fork.entry fork.right
    (subst IsOrdered is c.requires)
    (ap (λ w. nat_cmp w c.args.from) (sym c.writer.ensures) ∙ sym c.cmp.ensures
    ∙ c.in-Greater.is) in
    subst (λ row. OnOk c.relabelled-in-Greater.result
    (c.relabelled-in-Greater.new.own.items ≡ c.args.own.now.items ++ row))
    (sym own) c.relabelled-in-Greater.ensures
