use Rattle.std.proofs.Common.{◌≡◌, Some, None, refl, ap, sym, subst, ◌∙◌, option_map, MutBor}
use Rattle.std.specs.FinMap as finite
use Rattle.ssz_arena.specs.declared.node.NodeId.{NodeId}
use Rattle.ssz_versions.specs.Content.{Held, held_at}
use Rattle.ssz_versions.specs.Keys.{key_cmp}
use Rattle.ssz_versions.proofs.Changes.{shows, none_there, held_there, put_there, put_ordered}
use Rattle.ssz_versions.proofs.Lent.{lent_holds, not_none, holds_where_lent}
use Rattle.ssz_versions.proofs.Ordered.{IsOrdered, find_equal, put_equal}
use Rattle.ssz_versions.proofs.versions.Versions.edit.Goals as goal

pub returns-then-is_none : goal.returns-then-is_none
returns-then-is_none c =
    let shown = shows c.self.inside.held c.args.self.now.entries c.self.invariant
    (ap (λ versions. versions.entries) c.self.view_is) c.new-key.ensures c.as_bytes.ensures in
    let none : held_at c.args.self.now.entries c.args.writer.0 c.args.name.now ≡ None =
    none_there shown _ c.find.ensures c.if-is_none.ensures in (
      (refl, (λ (id : NodeId). tt), c.self.view_is),
      record {
        node = sym (ap (option_map (λ held. held.1)) none);
        writes_back = tt;
      },
    )

pub invariant_of-self-lent : goal.invariant_of-self-lent
invariant_of-self-lent c = λ lent.
    let branch = c.in-Some.branch in
    let key = c.new-key.result in
    let is = sym c.replace.ensures.value ∙ c.in-Some.ensures.0 in (
      (λ (w : NodeId).
          let held : Held = (branch.entry.1.0, w) in
          subst IsOrdered
          (put_equal key branch.left branch.entry branch.right is c.self.invariant held
          c.in-Some.ensures.1
          ∙ sym (lent_holds (λ (id : MutBor NodeId). id.now) c.lend_closed.result branch.entry.1.1 _
          c.lend_closed.ensures.node (c.lend_closed.follows.holds w)))
          (put_ordered c.self.inside.held key held c.self.invariant)),
      c.lend_closed.follows.holds-at-none
          (subst IsOrdered (sym (c.replace.ensures.after ∙ c.empty.ensures)) tt),
    )

pub returns-in-Some : goal.returns-in-Some
returns-in-Some c =
    let shown = shows c.self.inside.held c.args.self.now.entries c.self.invariant
    (ap (λ versions. versions.entries) c.self.view_is) c.new-key.ensures c.as_bytes.ensures in
    let branch = c.in-Some.branch in
    let key = c.new-key.result in
    let is = sym c.replace.ensures.value ∙ c.in-Some.ensures.0 in
    let there : held_at c.args.self.now.entries c.args.writer.0 c.args.name.now
    ≡ Some branch.entry.1 =
    sym (held_there shown)
    ∙ find_equal key branch.left branch.entry branch.right is c.self.invariant
    c.in-Some.ensures.1 in (
      (
        refl,
        (λ (w : NodeId). holds_where_lent (λ (id : MutBor NodeId). id.now) c.lend_closed.result _ (
          branch.entry.1,
          there,
          ap (λ row. finite.from_sorted {R = key_cmp} row)
              (lent_holds (λ (id : MutBor NodeId). id.now) c.lend_closed.result branch.entry.1.1 _
              c.lend_closed.ensures.node (c.lend_closed.follows.holds w)
              ∙ sym (put_equal key branch.left branch.entry branch.right is c.self.invariant
              (branch.entry.1.0, w) c.in-Some.ensures.1))
              ∙ put_there shown (branch.entry.1.0, w),
          ap (λ versions. versions.spare) c.self.view_is,
        )),
        not_none (λ (id : MutBor NodeId). id.now) c.lend_closed.result branch.entry.1.1 _
            c.lend_closed.ensures.node,
      ),
      record {
        node = c.lend_closed.ensures.node ∙ sym (ap (option_map (λ held. held.1)) there);
        writes_back = tt;
      },
    )
