use Rattle.std.proofs.Common.{◌<◌, subst}
use Rattle.std.specs.List.{AllByRecursion}
use Rattle.std.proofs.lemmas.List.Filters.{dedup_is}
use Rattle.std.proofs.lemmas.Map.Keys.{IsStrictlyIncreasing-dedup}
use Rattle.ssz_prove.specs.Found.{IsIndex}
use Rattle.ssz_prove.proofs.Risen.{ascending, same_sorted}
use Rattle.ssz_prove.proofs.Rising.{all_map}
use Rattle.ssz_prove.proofs.finding.ascending.Goals as goal

pub returns-clause-rise : goal.returns-clause-rise
returns-clause-rise c =
    let is = dedup_is _ _ _ c.dedup.ensures.filtered in
    ascending c.dedup.new.self.items
    (all_map IsIndex (λ y. 0 < y) (λ y index. index.positive) c.dedup.new.self.items
    (subst (AllByRecursion IsIndex) c.deref.ensures.value c.are_indices.ensures))
    (rw is (IsStrictlyIncreasing-dedup _ c.sort_unstable.ensures.sorted))

pub returns-clause-all : goal.returns-clause-all
returns-clause-all c = subst (AllByRecursion IsIndex) c.deref.ensures.value c.are_indices.ensures

pub returns-clause-same : goal.returns-clause-same
returns-clause-same c =
    same_sorted c.args.indices.now c.in_ok-list.list.items c.sort_unstable.new.self.items
    c.dedup.new.self.items
    (c.in_ok-list.ensures.items_if_clones_equal (λ x y e. e)) c.sort_unstable.ensures.permutation
    (dedup_is _ _ _ c.dedup.ensures.filtered)
