use Rattle.std.proofs.Common.{◌∷◌, ◌++◌, arith, sym, ap, ◌∙◌}
use Rattle.ssz_versions.proofs.Ordered.{left_shorter, right_shorter, left_ordered, right_ordered, put_less, put_equal, put_greater}
use Rattle.ssz_versions.proofs.tree.Tree.+insert.Goals as goal

pub insert-requires : goal.insert-requires
insert-requires t c =
    let branch = c.in-Some.branch in
    let key = c.args.key.now in (
      omega (
        arith,
        c.decreases,
        left_shorter key branch.left branch.entry branch.right c.in-Some.ensures,
      ),
      left_ordered key branch.left branch.entry branch.right c.in-Some.ensures c.requires,
    )

pub insert-requires-in-Greater : goal.insert-requires-in-Greater
insert-requires-in-Greater t c =
    let branch = c.in-Some.branch in
    let key = c.args.key.now in (
      omega (
        arith,
        c.decreases,
        right_shorter key branch.left branch.entry branch.right c.in-Some.ensures,
      ),
      right_ordered key branch.left branch.entry branch.right c.in-Some.ensures c.requires,
    )

pub returns-in-Less : goal.returns-in-Less
returns-in-Less t c =
    let branch = c.in-Some.branch in
    c.join.ensures
    ∙ ap (λ left. left ++ branch.entry ∷ branch.right) c.insert.ensures
    ∙ sym (put_less c.args.key.now branch.left branch.entry branch.right c.in-Some.ensures
    c.args.held (sym c.order.ensures ∙ c.in-Less.is))

pub returns-in-Equal : goal.returns-in-Equal
returns-in-Equal t c =
    let branch = c.in-Some.branch in
    c.fork-in-Equal.ensures
    ∙ sym (put_equal c.args.key.now branch.left branch.entry branch.right c.in-Some.ensures
    c.requires c.args.held (sym c.order.ensures ∙ c.in-Equal.is))

pub returns-in-Greater : goal.returns-in-Greater
returns-in-Greater t c =
    let branch = c.in-Some.branch in
    c.join-in-Greater.ensures
    ∙ ap (λ right. branch.left ++ branch.entry ∷ right) c.insert-in-Greater.ensures
    ∙ sym (put_greater c.args.key.now branch.left branch.entry branch.right c.in-Some.ensures
    c.requires c.args.held (sym c.order.ensures ∙ c.in-Greater.is))
