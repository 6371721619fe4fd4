use Rattle.std.proofs.Common.{◌++◌, ◌∙◌, sym, ap, subst, length, arith}
use Rattle.std.specs.List.{All}
use Rattle.ssz_arena.specs.Content.{IsNodeOf}
use Rattle.ssz_versions.specs.Lists.{entries_moved}
use Rattle.ssz_versions.proofs.Compacting.{roots_of, roots_are_nodes, as_many, compacted, moved_ordered}
use Rattle.ssz_versions.proofs.Ordered.{IsOrdered}
use Rattle.ssz_versions.proofs.compaction.compact.Goals as goal

pub compact-requires : goal.compact-requires
compact-requires g c =
    subst (All (IsNodeOf c.args.arena.now))
    (sym (c.deref.ensures.value ∙ c.nodes.ensures.nodes
    ∙ ap (λ ids. ids ++ roots_of c.versions.inside.held) c.in_ok-nodes.ensures.items))
    (roots_are_nodes c.versions.inside.held c.args.versions.now.entries c.args.arena.now
    c.versions.invariant (ap (λ versions. versions.entries) c.versions.view_is) c.requires)

pub with_nodes-held-requires : goal.with_nodes-held-requires
with_nodes-held-requires g c = omega (
  arith,
  ap length c.replace-held.ensures.value,
  ap length c.deref-2.ensures.value,
  as_many c.versions.inside.held c.deref.result.now c.in_ok-made.made.ids.items _ _
      (c.deref.ensures.value ∙ c.nodes.ensures.nodes
      ∙ ap (λ ids. ids ++ roots_of c.versions.inside.held) c.in_ok-nodes.ensures.items)
      c.in_ok-made.ensures,
)

pub invariant_of-versions : goal.invariant_of-versions
invariant_of-versions g c =
    let held = c.versions.inside.held in
    subst IsOrdered
    (sym (c.with_nodes-held.ensures.tree
    ∙ ap (λ row. entries_moved row c.deref-2.result.now) c.replace-held.ensures.value))
    (moved_ordered held c.deref-2.result.now c.versions.invariant)

pub returns-clause-ok : goal.returns-clause-ok
returns-clause-ok g c =
    let held = c.versions.inside.held in
    compacted held c.with_nodes-held.result.0 c.args.versions.now.entries c.deref.result.now
    c.in_ok-made.made.ids.items _ _ c.versions.invariant
    (ap (λ versions. versions.entries) c.versions.view_is)
    (c.deref.ensures.value ∙ c.nodes.ensures.nodes
    ∙ ap (λ ids. ids ++ roots_of held) c.in_ok-nodes.ensures.items)
    c.in_ok-made.ensures
    (c.with_nodes-held.ensures.tree
    ∙ ap (λ row. entries_moved row c.deref-2.result.now) c.replace-held.ensures.value
    ∙ ap (entries_moved held) c.deref-2.ensures.value)
