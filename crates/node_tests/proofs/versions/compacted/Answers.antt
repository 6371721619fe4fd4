use Rattle.std.proofs.Common.{cond, Some, ◌∙◌, sym, ap}
use Rattle.std.specs.FinMap as finite
use Rattle.std.specs.Ordering.{eq_by_cmp}
use Rattle.ssz_arena.specs.Content.{IsNodeOf}
use Rattle.ssz_versions.specs.Content.{held_at}
use Rattle.ssz_versions.specs.Keys.{key_cmp, key_cmp-total}
use Rattle.node_tests.proofs.OneHeld.{one_held}
use Rattle.node_tests.proofs.versions.compacted.Goals as goal

pub compact-requires : goal.compact-requires
compact-requires g c = λ writer name other there.
    one_held (eq_by_cmp key_cmp (writer, name) (0, c.in_ok-a.a)) (c.args.id, c.args.node)
    other (IsNodeOf c.args.arena.now) c.requires
    (sym (ap (λ m. held_at m writer name) c.in_ok-make.ensures.made.1
    ∙ finite.get-insert key_cmp-total _ (0, c.in_ok-a.a) _ (writer, name)
    ∙ ap (cond (eq_by_cmp key_cmp (writer, name) (0, c.in_ok-a.a))
    (Some (c.args.id, c.args.node)))
    (ap (λ m. held_at m writer name) c.in_ok-versions.ensures
    ∙ finite.get-empty key_cmp (writer, name)))
    ∙ there)
