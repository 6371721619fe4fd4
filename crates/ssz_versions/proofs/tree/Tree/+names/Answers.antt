use Rattle.std.proofs.Common.{◌≡◌, [], ◌∷◌, ◌++◌, map, append_assoc, arith, sym, ap, subst, ◌∙◌}
use Rattle.std.proofs.lemmas.List.{map-append}
use Rattle.std.specs.Ordering.{nat_cmp}
use Rattle.std.specs.Result.{OnOk}
use Rattle.ssz_versions.specs.Lists.{relabelled}
use Rattle.ssz_versions.specs.Trees.{entries_of}
use Rattle.ssz_versions.proofs.Ordered.{full_fork, IsOrdered, left_shorter, right_shorter, left_ordered, right_ordered}
use Rattle.ssz_versions.proofs.Relabelled.{relabelled_less, relabelled_equal, relabelled_greater}
use Rattle.ssz_versions.proofs.tree.Tree.+names.Goals as goal

pub names-requires : goal.names-requires
names-requires t c =
    let is = full_fork _ _ _ _ c.self.view_is (ap entries_of c.in-Held.is)
    (sym c.deref.ensures ∙ c.in-Full.is) in
    let fork = c.in-Full.fork in (
      omega (arith, c.decreases, right_shorter fork.entry.0 fork.left fork.entry fork.right is),
      right_ordered fork.entry.0 fork.left fork.entry fork.right is c.requires,
    )

pub names-requires-in-Equal : goal.names-requires-in-Equal
names-requires-in-Equal t c =
    let is = full_fork _ _ _ _ c.self.view_is (ap entries_of c.in-Held.is)
    (sym c.deref.ensures ∙ c.in-Full.is) in
    let fork = c.in-Full.fork in (
      omega (arith, c.decreases, left_shorter fork.entry.0 fork.left fork.entry fork.right is),
      left_ordered fork.entry.0 fork.left fork.entry fork.right is c.requires,
    )

pub names-requires-in-Equal-2 : goal.names-requires-in-Equal-2
names-requires-in-Equal-2 t c =
    let is = full_fork _ _ _ _ c.self.view_is (ap entries_of c.in-Held.is)
    (sym c.deref.ensures ∙ c.in-Full.is) in
    let fork = c.in-Full.fork in (
      omega (arith, c.decreases, right_shorter fork.entry.0 fork.left fork.entry fork.right is),
      right_ordered fork.entry.0 fork.left fork.entry fork.right is c.requires,
    )

pub names-requires-in-Greater : goal.names-requires-in-Greater
names-requires-in-Greater t c =
    let is = full_fork _ _ _ _ c.self.view_is (ap entries_of c.in-Held.is)
    (sym c.deref.ensures ∙ c.in-Full.is) in
    let fork = c.in-Full.fork in (
      omega (arith, c.decreases, left_shorter fork.entry.0 fork.left fork.entry fork.right is),
      left_ordered fork.entry.0 fork.left fork.entry fork.right is c.requires,
    )

pub returns-in-Less : goal.returns-in-Less
returns-in-Less t c =
    let is = full_fork _ _ _ _ c.self.view_is (ap entries_of c.in-Held.is)
    (sym c.deref.ensures ∙ c.in-Full.is) in
    let fork = c.in-Full.fork in
    let writer = c.args.writer in
    let own = ap (relabelled writer writer) is
    ∙ relabelled_less writer writer fork.left fork.entry fork.right
    (subst IsOrdered is c.requires)
    (ap (λ w. nat_cmp w writer) (sym c.writer.ensures) ∙ sym c.cmp.ensures ∙ c.in-Less.is) in
    subst (λ row. OnOk c.names.result
    (c.names.new.names.items ≡ c.args.names.now.items ++ map (λ entry. entry.0.1) row))
    (sym own) c.names.ensures

pub returns-in_ok-push-in-Equal : goal.returns-in_ok-push-in-Equal
returns-in_ok-push-in-Equal t c =
    let is = full_fork _ _ _ _ c.self.view_is (ap entries_of c.in-Held.is)
    (sym c.deref.ensures ∙ c.in-Full.is) in
    let fork = c.in-Full.fork in
    let writer = c.args.writer in
    let before = c.args.names.now.items in
    let left = map (λ entry. entry.0.1) (relabelled writer writer fork.left) in
    let right = map (λ entry. entry.0.1) (relabelled writer writer fork.right) in
    let all = ap (λ row. map (λ entry. entry.0.1) (relabelled writer writer row)) is
    ∙ ap (map (λ entry. entry.0.1)) (relabelled_equal writer writer fork.left fork.entry fork.right
    (subst IsOrdered is c.requires)
    (ap (λ w. nat_cmp w writer) (sym c.writer.ensures) ∙ sym c.cmp.ensures ∙ c.in-Equal.is))
    ∙ map-append (λ entry. entry.0.1) (relabelled writer writer fork.left)
    (((writer, fork.entry.0.1), fork.entry.1) ∷ relabelled writer writer fork.right) in
    subst (λ row. OnOk c.names-in-Equal-2.result
    (c.names-in-Equal-2.new.names.items ≡ row))
    (ap (λ row. row ++ right) c.in_ok-push-in-Equal.ensures.items
    ∙ ap (λ row. (row ++ c.in_ok-copy_of-in-Equal.field-0 ∷ []) ++ right)
    c.in_ok-names-in-Equal.ensures
    ∙ ap (λ name. ((before ++ left) ++ name ∷ []) ++ right)
    (c.in_ok-copy_of-in-Equal.ensures ∙ c.name.ensures.value)
    ∙ append_assoc (before ++ left) (fork.entry.0.1 ∷ []) right
    ∙ append_assoc before left (fork.entry.0.1 ∷ right)
    ∙ ap (λ row. before ++ row) (sym all)) c.names-in-Equal-2.ensures

pub returns-in-Greater : goal.returns-in-Greater
returns-in-Greater t c =
    let is = full_fork _ _ _ _ c.self.view_is (ap entries_of c.in-Held.is)
    (sym c.deref.ensures ∙ c.in-Full.is) in
    let fork = c.in-Full.fork in
    let writer = c.args.writer in
    let own = ap (relabelled writer writer) is
    ∙ relabelled_greater writer writer fork.left fork.entry fork.right
    (subst IsOrdered is c.requires)
    (ap (λ w. nat_cmp w writer) (sym c.writer.ensures) ∙ sym c.cmp.ensures
    ∙ c.in-Greater.is) in
    subst (λ row. OnOk c.names-in-Greater.result
    (c.names-in-Greater.new.names.items ≡ c.args.names.now.items
    ++ map (λ entry. entry.0.1) row))
    (sym own) c.names-in-Greater.ensures
