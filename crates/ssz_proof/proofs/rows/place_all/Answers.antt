use Rattle.std.proofs.Common.{◌≡◌, ◌<◌, ◌∙◌, [], length, length-set, set, get_or, sym, ap, inl, inr, arith}
use Rattle.std.proofs.lemmas.Bool.{cases_eq}
use Rattle.std.proofs.lemmas.List.{get_or-set_same, get_or-set_other}
use Rattle.ssz_chunk.specs.declared.Chunk.{Chunk}
use Rattle.ssz_chunk.specs.Rows.{chunk_in_row as row_at}
use Rattle.ssz_proof.proofs.Rowwise.{earlier}
use Rattle.ssz_proof.proofs.rows.place_all.Goals as goal

pub places-preserved : goal.places-preserved
places-preserved c = record {
  long = length-set _ _ _ ∙ c.places.invariant.long;
  row = λ f made k is.
      let j = c.places.j in
      let place = get_or c.args.places.now j 0 in
      let room : place < length c.places.row =
      omega (arith, c.places.invariant.long, c.requires.inside j c.places-test.true) in
      elim (cases_eq k place) [
        | inl here ↦
            ap (λ n. row_at (set c.places.row place (get_or c.args.made.now j (record { 0 = [] })))
            n) here
            ∙ ap (λ (chunk : Chunk). chunk.0)
            (get_or-set_same c.places.row place (get_or c.args.made.now j (record { 0 = [] }))
            (record { 0 = [] }) room)
            ∙ made j c.places-test.true ∙ ap f (sym here)
        | inr other ↦
            ap (λ (chunk : Chunk). chunk.0)
            (get_or-set_other c.places.row place k (get_or c.args.made.now j (record { 0 = [] }))
            (record { 0 = [] }) other)
            ∙ c.places.invariant.row f made k
            (earlier c.args.places.now j k (λ same. other same) is)
      ];
}

pub returns : goal.returns
returns c f made k is =
    let all : c.places.j ≡ length c.args.places.now =
    omega (arith, c.places-test.false, c.places.auto.j-end) in
    c.places.invariant.row f made k (rw all is)
