use Rattle.std.proofs.Common.{◌≡◌, ◌<◌, ◌≤◌, ◌*◌, ◌/◌, ◌+◌, ◌-◌, ◌∙◌, ℕ, List, min, length, take, drop, get_or, sym, ap, refl, arith}
use Rattle.std.proofs.lemmas.List.{take_rest, length-map, length-drop}
use borrow.Rule.Slice.PartMut.{same_len_mid}
use Rattle.ssz_value.specs.declared.value.Value.{Value}
use Rattle.ssz_value.specs.Encoding.{serialize}
use Rattle.ssz_value.specs.Standing.{value_of}
use Rattle.ssz_value.specs.Trees.{padded}
use Rattle.ssz_packing.specs.Elements.{encodings_of}
use Rattle.ssz_packing.proofs.BasicValues.{encodings_sized, encoding_at}
use Rattle.ssz_packing.proofs.Filling.{IsFilled-start, IsFilled-put, IsFilled-all, first_within, room_for, sized-drop, chunk_of-concat}
use Rattle.ssz_packing.proofs.basic.values_chunk.Goals as goal

pub offset_bounds-parts-size : goal.offset_bounds-parts-size
offset_bounds-parts-size c =
    let within : 32 / c.args.size * c.args.i < length c.args.parts.now =
    first_within c.args.size (32 / c.args.size) c.args.i (length c.args.parts.now)
    c.requires.size c.requires.within in
    omega (arith, within)

pub slice_bounds-rest-count : goal.slice_bounds-rest-count
slice_bounds-rest-count c =
    let within : 32 / c.args.size * c.args.i < length c.args.parts.now =
    first_within c.args.size (32 / c.args.size) c.args.i (length c.args.parts.now)
    c.requires.size c.requires.within in
    omega (arith, within)

pub slice_bounds-rest-start : goal.slice_bounds-rest-start
slice_bounds-rest-start c =
    let within : 32 / c.args.size * c.args.i < length c.args.parts.now =
    first_within c.args.size (32 / c.args.size) c.args.i (length c.args.parts.now)
    c.requires.size c.requires.within in
    omega (arith, within)

pub loop-k-init : goal.loop-k-init
loop-k-init c = record { count = refl; filled = λ t e fits. IsFilled-start c.args.size _ }

pub loop-k-preserved : goal.loop-k-preserved
loop-k-preserved c =
    let from : ℕ = 32 / c.args.size * c.args.i in
    let rest : take (length c.args.parts.now - 32 / c.args.size * c.args.i)
    (drop (32 / c.args.size * c.args.i) c.args.parts.now)
    ≡ drop (32 / c.args.size * c.args.i) c.args.parts.now =
    take_rest c.args.parts.now (32 / c.args.size * c.args.i) in
    let long : length (drop (32 / c.args.size * c.args.i) c.args.parts.now)
    ≡ length c.args.parts.now - 32 / c.args.size * c.args.i =
    length-drop (32 / c.args.size * c.args.i) c.args.parts.now in
    let last : c.min-k-end.result ≤ 32 / c.args.size = omega (arith, c.min-k-end.ensures) in
    let more : c.loop-k.k < length (drop (32 / c.args.size * c.args.i) c.args.parts.now) =
    omega (
      arith,
      c.min-k-end.ensures,
      c.loop-k-test.true,
      ap (λ (vs : List Value). length vs) rest,
    ) in
    let room : c.loop-k.k * c.args.size + c.args.size
    ≤ 32 = room_for c.args.size (32 / c.args.size) c.loop-k.k c.requires.size
    (omega (arith, last, c.loop-k-test.true)) in
    record {
      count = same_len_mid (c.loop-k.k * c.args.size)
          (c.loop-k.k * c.args.size + c.args.size - c.loop-k.k * c.args.size)
          c.loop-k.bytes c.copy_from_slice.new.self c.copy_from_slice.ensures.len
          ∙ c.loop-k.invariant.count;
      filled = λ t e fits.
          let here = encoding_at t c.args.parts.now from c.loop-k.k c.index-rest-k.result more
          (c.index-rest-k.is ∙ ap (λ (vs : List Value). get_or vs c.loop-k.k
          c.index-rest-k.result) rest) fits in
          let sized = sized-drop c.args.size from (encodings_of t c.args.parts.now)
          (encodings_sized t c.args.size c.args.parts.now e fits) in
          let count : length (drop from (encodings_of t c.args.parts.now))
          ≡ length c.args.parts.now - from =
          length-drop from (encodings_of t c.args.parts.now)
          ∙ ap (λ n. n - from) (length-map c.args.parts.now
          (λ (v : Value). serialize t (value_of v))) in
          IsFilled-put c.args.size (drop from (encodings_of t c.args.parts.now)) c.loop-k.k
          (c.loop-k.k * c.args.size + c.args.size - c.loop-k.k * c.args.size)
          c.loop-k.bytes c.basic_chunk-part.result.0 c.copy_from_slice.new.self
          sized (c.loop-k.invariant.filled t e fits) (omega (arith, count, more, long)) room
          (c.basic_chunk-part.ensures t c.args.size e here.fits ∙ ap padded (sym here.is))
          (omega arith) c.copy_from_slice.ensures.after;
    }

pub returns : goal.returns
returns c = λ t e fits.
    let from : ℕ = 32 / c.args.size * c.args.i in
    let within : 32 / c.args.size * c.args.i < length c.args.parts.now =
    first_within c.args.size (32 / c.args.size) c.args.i (length c.args.parts.now)
    c.requires.size c.requires.within in
    let rest : take (length c.args.parts.now - 32 / c.args.size * c.args.i)
    (drop (32 / c.args.size * c.args.i) c.args.parts.now)
    ≡ drop (32 / c.args.size * c.args.i) c.args.parts.now =
    take_rest c.args.parts.now (32 / c.args.size * c.args.i) in
    let all = encodings_sized t c.args.size c.args.parts.now e fits in
    let every : length (encodings_of t c.args.parts.now)
    ≡ length c.args.parts.now = length-map c.args.parts.now
    (λ (v : Value). serialize t (value_of v)) in
    let count : length (drop from (encodings_of t c.args.parts.now))
    ≡ length (drop from c.args.parts.now) =
    length-drop from (encodings_of t c.args.parts.now) ∙ ap (λ n. n - from) every
    ∙ sym (length-drop from c.args.parts.now) in
    let last : c.loop-k.k ≡ min (length (drop from c.args.parts.now)) (32 / c.args.size) =
    omega (arith, c.min-k-end.ensures, ap (λ (vs : List Value). length vs) rest) in
    IsFilled-all c.args.size (32 / c.args.size) c.loop-k.k (length (drop from c.args.parts.now))
    (drop from (encodings_of t c.args.parts.now)) c.loop-k.bytes
    (sized-drop c.args.size from (encodings_of t c.args.parts.now) all)
    (c.loop-k.invariant.filled t e fits) c.requires.size count last
    ∙ chunk_of-concat c.args.size (32 / c.args.size) c.args.i (encodings_of t c.args.parts.now)
    all c.requires.size (omega (arith, within, every))
