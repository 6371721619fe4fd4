use Rattle.std.proofs.Common.{◌∷◌, ◌++◌, append_assoc, arith, sym, ap, ◌∙◌}
use Rattle.ssz_versions.proofs.Ordered.{left_shorter, right_shorter, left_ordered, right_ordered, find_less, find_greater}
use Rattle.ssz_versions.proofs.tree.Tree.+raise.Goals as goal

pub raise-requires : goal.raise-requires
raise-requires t c =
    let branch = c.in-Some.branch in
    let key = c.args.key.now in (
      omega (
        arith,
        c.decreases,
        left_shorter key branch.left branch.entry branch.right c.in-Some.ensures,
      ),
      left_ordered key branch.left branch.entry branch.right c.in-Some.ensures c.requires,
    )

pub raise-requires-in-Greater : goal.raise-requires-in-Greater
raise-requires-in-Greater t c =
    let branch = c.in-Some.branch in
    let key = c.args.key.now in (
      omega (
        arith,
        c.decreases,
        right_shorter key branch.left branch.entry branch.right c.in-Some.ensures,
      ),
      right_ordered key branch.left branch.entry branch.right c.in-Some.ensures c.requires,
    )

pub returns-in-None : goal.returns-in-None
returns-in-None t c =
    let branch = c.in-Some.branch in
    find_less c.args.key.now branch.left branch.entry branch.right c.in-Some.ensures
    c.requires (sym c.order.ensures ∙ c.in-Less.is)
    ∙ c.in-None.ensures

pub returns-in-None-raise : goal.returns-in-None-raise
returns-in-None-raise t c =
    let branch = c.in-Some.branch in
    find_greater c.args.key.now branch.left branch.entry branch.right c.in-Some.ensures
    c.requires (sym c.order.ensures ∙ c.in-Greater.is)
    ∙ c.in-None-raise.ensures

pub returns-in-Some-raise-2 : goal.returns-in-Some-raise-2
returns-in-Some-raise-2 t c =
    let up = c.in-Some-raise-2.raised in
    let branch = c.in-Some.branch in (
      c.in-Some.ensures
          ∙ ap (λ right. branch.left ++ branch.entry ∷ right) c.in-Some-raise-2.ensures.0
          ∙ sym (append_assoc branch.left (branch.entry ∷ up.left) (up.entry ∷ up.right))
          ∙ ap (λ left. left ++ up.entry ∷ up.right) (sym c.join-in-Some-raise-2.ensures),
      c.in-Some-raise-2.ensures.1,
    )
