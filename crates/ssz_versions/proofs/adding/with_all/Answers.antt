use Rattle.std.proofs.Common.{◌∙◌, ◌++◌, arith, sym, ap}
use Rattle.std.specs.FinMap.Entries.{find}
use Rattle.ssz_versions.specs.Keys.{key_cmp}
use Rattle.ssz_versions.proofs.Changes.{put_ordered}
use Rattle.ssz_versions.proofs.Inserting.{last_inserted, nothing_left}
use Rattle.ssz_versions.proofs.adding.with_all.Goals as goal

pub loop-key-preserved : goal.loop-key-preserved
loop-key-preserved c =
    let tree = c.loop-key.tree in
    record {
      ordered = rw c.insert-tree.ensures
          (put_ordered tree c.in-Some.key c.in-Some.version c.loop-key.invariant.ordered);
      entries = λ q.
          ap (λ row. find key_cmp q (c.pop.new.self.items ++ row)) c.insert-tree.ensures
          ∙ last_inserted c.pop.new.self.items c.in-Some.key c.in-Some.version tree q
          ∙ ap (λ row. find key_cmp q (row ++ tree)) (sym c.in-Some.ensures.items)
          ∙ c.loop-key.invariant.entries q;
      room = omega (arith, c.in-Ok.ensures.ok, c.in-Some.ensures.cases, c.loop-key.invariant.room);
      spare = omega (
        arith,
        c.in-Ok.ensures.ok,
        c.in-Some.ensures.cases,
        c.loop-key.invariant.spare,
      );
    }

pub returns-clause-entries : goal.returns-clause-entries
returns-clause-entries c = λ q.
    ap (λ row. find key_cmp q (row ++ c.loop-key.tree))
    (sym (nothing_left c.loop-key.added.items
    (omega (arith, c.loop-key.added.ok, c.in_default.ensures.cases))))
    ∙ c.loop-key.invariant.entries q
