use Rattle.std.proofs.Common.{ap, ◌∙◌, reverse}
use Rattle.std.proofs.lemmas.List.Filters.{dedup_is}
use Rattle.ssz_gindex.proofs.Starting.{falls_from, same_from}
use Rattle.ssz_gindex.proofs.walk.descending.Goals as goal

pub returns-clause-falls : goal.returns-clause-falls
returns-clause-falls c =
    falls_from c.sort_unstable.new.self.items c.from.result.items c.sort_unstable.ensures.sorted
    (c.from.ensures.0 ∙ c.reverse.ensures.items
    ∙ ap reverse (dedup_is _ _ _ c.dedup.ensures.filtered))

pub returns-clause-same : goal.returns-clause-same
returns-clause-same c =
    same_from c.args.indices.now c.in_ok-list.list.items c.sort_unstable.new.self.items
    c.from.result.items (c.in_ok-list.ensures.items_if_clones_equal (λ x y e. e))
    c.sort_unstable.ensures.permutation
    (c.from.ensures.0 ∙ c.reverse.ensures.items
    ∙ ap reverse (dedup_is _ _ _ c.dedup.ensures.filtered))
