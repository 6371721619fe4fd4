use Rattle.std.proofs.Common.{◌≡◌, ◌∙◌, [], ap, subst, set, inl, inr, arith, length-set}
use Rattle.std.proofs.lemmas.Bool.{cases_lt}
use Rattle.std.proofs.lemmas.List.{get_or-set_same, get_or-set_other}
use Rattle.std.proofs.lemmas.Option.{slice_get-get_or}
use Rattle.ssz_chunk.specs.declared.Chunk.{Chunk}
use Rattle.ssz_chunk.specs.Rows.{chunk_in_row}
use Rattle.ssz_chunk.specs.Tree.{root}
use Rattle.ssz_arena.specs.Batches.{id_at}
use Rattle.ssz_arena.proofs.Filling.{value_read}
use Rattle.ssz_arena.proofs.Nodes.{tree}
use Rattle.ssz_arena.proofs.batch.roots_of.Goals as goal

pub ids-preserved : goal.ids-preserved
ids-preserved c =
    let nodes = c.args.store.now.nodes in
    let ids = c.args.ids.now in
    let read = c.chunk.result.now in
    let row = c.ids.row in
    record {
      long = length-set row c.ids.i read ∙ c.ids.invariant.long;
      roots = λ p arena hashed j below. elim (cases_lt j c.ids.i) [
        | inl earlier ↦
            ap (λ (k : Chunk). k.0) (get_or-set_other row c.ids.i j read (record { 0 = [] })
            (omega (arith, earlier)))
            ∙ c.ids.invariant.roots p arena hashed j earlier
        | inr last ↦
            let here : c.ids.i ≡ j = omega (arith, below, last) in
            subst (λ k. chunk_in_row (set row c.ids.i read) k
            ≡ root p (tree nodes (id_at ids k).0)) here
            (ap (λ (k : Chunk). k.0) (get_or-set_same row c.ids.i read (record { 0 = [] })
            (omega (arith, c.ids.invariant.long, c.requires.few, c.ids-test.true)))
            ∙ value_read p nodes (id_at ids c.ids.i).0 _ read arena
            (hashed c.ids.i c.ids-test.true)
            (slice_get-get_or nodes (id_at ids c.ids.i).0 _
            (c.requires.inside c.ids.i c.ids-test.true)) c.chunk.ensures)
      ];
    }
