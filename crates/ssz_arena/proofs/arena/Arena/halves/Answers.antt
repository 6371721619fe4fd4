use Rattle.std.proofs.Common.{List, [], length, arith, ap, subst, sym, ◌∙◌}
use Rattle.std.proofs.lemmas.Option.{slice_get-get_or}
use Rattle.ssz_arena.specs.declared.node.Node.{Node}
use Rattle.ssz_arena.specs.declared.node.Node.TheVariants.{Leaf}
use Rattle.ssz_arena.specs.Content.{ArenaContent, IsNodeOf, tree_of}
use Rattle.ssz_arena.proofs.Storing.{halves_or}
use Rattle.ssz_arena.proofs.Seen.{left_known, right_known, left_tree, right_tree}
use Rattle.ssz_arena.proofs.arena.Arena.halves.Goals as goal

pub returns-clause-left : goal.returns-clause-left
returns-clause-left g c =
    let nodes = c.self.inside.nodes.nodes in
    let seen = ap (λ (a : ArenaContent). a.nodes) c.self.view_is in
    let child = left_known g.H.PairHash.pair_of nodes c.self.invariant c.args.self.now seen
    c.args.id c.requires _ (slice_get-get_or nodes c.args.id.0 (Leaf (record { 0 = [] }))
    (omega (arith, c.requires, ap (λ (ns : List Node). length ns) seen))) in
    subst (IsNodeOf c.args.self.now) (sym (halves_or _ _ _ c.halves.ensures c.unwrap_or.ensures).0)
    child

pub returns-clause-right : goal.returns-clause-right
returns-clause-right g c =
    let nodes = c.self.inside.nodes.nodes in
    let seen = ap (λ (a : ArenaContent). a.nodes) c.self.view_is in
    let child = right_known g.H.PairHash.pair_of nodes c.self.invariant c.args.self.now seen
    c.args.id c.requires _ (slice_get-get_or nodes c.args.id.0 (Leaf (record { 0 = [] }))
    (omega (arith, c.requires, ap (λ (ns : List Node). length ns) seen))) in
    subst (IsNodeOf c.args.self.now) (sym (halves_or _ _ _ c.halves.ensures c.unwrap_or.ensures).1)
    child

pub returns-clause-left_tree : goal.returns-clause-left_tree
returns-clause-left_tree g c =
    let nodes = c.self.inside.nodes.nodes in
    let seen = ap (λ (a : ArenaContent). a.nodes) c.self.view_is in
    let child = left_tree g.H.PairHash.pair_of nodes c.self.invariant c.args.self.now seen
    c.args.id c.requires _ (slice_get-get_or nodes c.args.id.0 (Leaf (record { 0 = [] }))
    (omega (arith, c.requires, ap (λ (ns : List Node). length ns) seen))) in
    λ a b is. ap (tree_of c.args.self.now) (halves_or _ _ _ c.halves.ensures c.unwrap_or.ensures).0
    ∙ child a b is

pub returns-clause-right_tree : goal.returns-clause-right_tree
returns-clause-right_tree g c =
    let nodes = c.self.inside.nodes.nodes in
    let seen = ap (λ (a : ArenaContent). a.nodes) c.self.view_is in
    let child = right_tree g.H.PairHash.pair_of nodes c.self.invariant c.args.self.now seen
    c.args.id c.requires _ (slice_get-get_or nodes c.args.id.0 (Leaf (record { 0 = [] }))
    (omega (arith, c.requires, ap (λ (ns : List Node). length ns) seen))) in
    λ a b is. ap (tree_of c.args.self.now) (halves_or _ _ _ c.halves.ensures c.unwrap_or.ensures).1
    ∙ child a b is
