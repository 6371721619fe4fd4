use Rattle.std.proofs.Common.{◌∙◌, ◌<◌, ◌++◌, length, length-set, sym, ap, arith}
use Rattle.std.specs.Prelude.{option_map}
use Rattle.ssz_chunk.specs.declared.Chunk.{Chunk}
use Rattle.ssz_proof.proofs.Rowwise.{known_more, places_more, row_known, row_unknown, unknown_more}
use Rattle.ssz_proof.proofs.rows.look.Goals as goal
use Rattle.ssz_proof.proofs.rows.look.Goals.{in-Some, in_default}

pub indices-preserved : goal.indices-preserved
indices-preserved c =
    let known = c.args.leaves.now ++ c.args.nodes.now in
    let indices = c.args.indices.now in
    let i = c.indices.i in
    let test = c.indices-test.true in
    let before = c.indices.invariant in
    let room : i < 16 = omega (arith, test, c.requires.few) in
    let space : c.indices.count < 16 = omega (arith, room, before.few) in
    elim c.match-chunk_of.branch [
      | in-Some w ↦
          (let is : _ = sym c.chunk_of.ensures
          ∙ ap (option_map (λ (chunk : Chunk). chunk.0)) w.in-Some.is in
          record {
            few = omega (arith, w.count-is, before.few);
            long = ap length w.unknown-is ∙ before.long;
            placed = ap length w.places-is ∙ before.placed;
            room = ap length w.row-is ∙ length-set _ _ _ ∙ before.room;
            unknown = rw (w.unknown-is, w.count-is) (before.unknown
                ∙ known_more known indices i test w.in-Some.chunk.0 is);
            places = λ j under. rw (w.unknown-is, w.places-is)
                (let there = before.places j (omega (arith, under, w.count-is)) in
                (omega (arith, there.0), there.1));
            row = λ pair_of k under. rw (w.row-is, w.places-is, w.count-is)
                (row_known known indices i test pair_of c.indices.row c.indices.places
                c.indices.count (before.row pair_of) w.in-Some.chunk
                (omega (arith, before.room, room)) is k under);
          })
      | in_default w ↦
          (let is : _ = sym c.chunk_of.ensures
          ∙ ap (option_map (λ (chunk : Chunk). chunk.0)) w.in_default.is in
          record {
            few = omega (arith, w.count-is, before.few);
            long = ap length w.unknown-is ∙ length-set _ _ _ ∙ before.long;
            placed = ap length w.places-is ∙ length-set _ _ _ ∙ before.placed;
            room = ap length w.row-is ∙ before.room;
            unknown = rw (w.unknown-is, w.count-is)
                (unknown_more known indices i test c.indices.unknown c.indices.count
                (omega (arith, before.long, space)) is before.unknown);
            places = λ j under. rw (w.unknown-is, w.places-is)
                (places_more known indices i test c.indices.unknown c.indices.places
                c.indices.count (omega (arith, before.long, space))
                (omega (arith, before.placed, space)) before.places j
                (omega (arith, under, w.count-is)));
            row = λ pair_of k under. rw (w.row-is, w.places-is, w.count-is)
                (row_unknown known indices i test pair_of c.indices.row c.indices.places
                c.indices.count (before.row pair_of) (omega (arith, before.placed, space)) k under);
          })
    ]
