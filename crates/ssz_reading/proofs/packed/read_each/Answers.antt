use Rattle.std.proofs.Common.{ℕ, zero, suc, ◌≡◌, ◌<◌, ◌≤◌, ◌+◌, ◌-◌, ◌*◌, ◌/◌, ◌++◌, List, length, map, take, drop, sym, ap, ◌∙◌, subst, arith, mul_comm}
use Rattle.std.proofs.Math.Nat.{mul-div-le, mul-le-mul_left}
use Rattle.std.proofs.lemmas.Nat.{le-div}
use Rattle.std.proofs.lemmas.List.{length-take-le}
use Rattle.ssz_value.specs.declared.value.Value.{Value}
use Rattle.ssz_value.specs.Standing.{value_of}
use Rattle.ssz_nodes.specs.Shown.{basic_type}
use Rattle.ssz_reading.proofs.PackedParts.{ValueRow, ValuesLeft, ValuesLeft-start, ValuesLeft-row, ValuesLeft-more, ValuesLeft-end}
use Rattle.ssz_reading.proofs.packed.read_each.Goals as goal

pub loop-left-init : goal.loop-left-init
loop-left-init g c = record {
  nodes = c.new-places.ensures.nodes c.args.arena.now c.requires.node;
  values = λ vs are.
      subst (λ (parts : List Value). ValuesLeft c.args.arena.now (basic_type c.args.basic)
      (32 / c.size-per_chunk.result) vs c.args.count (map value_of parts) c.new-places.result)
      (sym c.in_ok-parts.ensures.items)
      (ValuesLeft-start c.args.arena.now (basic_type c.args.basic) c.size-per_chunk.result
      (32 / c.size-per_chunk.result) c.args.top.depth c.args.count vs c.args.top.node
      c.new-places.result
      c.size-per_chunk.ensures.exact are (c.new-places.ensures.holds c.args.arena.now));
  room = omega (arith, c.in_ok-parts.ensures.len, c.in_ok-parts.ensures.capacity);
}

-- each chunk has some values
some_there : (size per : ℕ) → size * per ≡ 32 → 0 < per
some_there size zero whole = absurd (omega (arith, whole))
some_there size (suc per) whole = omega arith

-- fewer chunks than have all the values have no more of them
no_more : (per left n : ℕ) → n ≤ left / per → per * n ≤ left
no_more per left n few =
    let most : per * n ≤ per * (left / per) = mul-le-mul_left per few in
    omega (arith, most, mul-div-le left per)

-- there is at least one whole chunk
one_chunk : (per left : ℕ) → 0 < per → per ≤ left → 0 < left / per
one_chunk per left some few =
    let one : 1 ≤ left / per = le-div 1 left per some (omega (arith, few)) in
    omega (arith, one)

pub append_row-requires-clause-room : goal.append_row-requires-clause-room
append_row-requires-clause-room g c =
    let per : ℕ = 32 / c.size-per_chunk.result in
    let n : ℕ = c.min-chunks.result in
    let many : length (take c.min-chunks.result c.row-row.result.now) ≡ c.min-chunks.result =
    length-take-le n c.row-row.result.now (omega (arith, c.min-chunks.ensures)) in
    let few : 32 / c.size-per_chunk.result * c.min-chunks.result ≤ c.loop-left.left =
    no_more per c.loop-left.left n (omega (arith, c.min-chunks.ensures)) in
    let same : 32 / c.size-per_chunk.result * length (take c.min-chunks.result c.row-row.result.now)
    ≡ 32 / c.size-per_chunk.result * c.min-chunks.result = ap (λ k. per * k) many in
    omega (arith, same, few, c.loop-left.invariant.room)

pub loop-left-preserved : goal.loop-left-preserved
loop-left-preserved g c =
    let per : ℕ = 32 / c.size-per_chunk.result in
    let n : ℕ = c.min-chunks.result in
    let some : 0 < 32 / c.size-per_chunk.result =
    some_there c.size-per_chunk.result per c.size-per_chunk.ensures.divides in
    let within : c.min-chunks.result ≤ length c.row-row.result.now =
    omega (arith, c.min-chunks.ensures) in
    let many : length (take c.min-chunks.result c.row-row.result.now) ≡ c.min-chunks.result =
    length-take-le n c.row-row.result.now within in
    let few : 32 / c.size-per_chunk.result * c.min-chunks.result ≤ c.loop-left.left =
    no_more per c.loop-left.left n (omega (arith, c.min-chunks.ensures)) in
    let one : 0 < c.min-chunks.result =
    omega (
      arith,
      c.min-chunks.ensures,
      c.row-row.ensures.some,
      one_chunk per c.loop-left.left some c.loop-left-test.true,
    ) in
    let same : 32 / c.size-per_chunk.result * length (take c.min-chunks.result c.row-row.result.now)
    ≡ 32 / c.size-per_chunk.result * c.min-chunks.result = ap (λ k. per * k) many in
    let turned : c.min-chunks.result * (32 / c.size-per_chunk.result)
    ≡ 32 / c.size-per_chunk.result * c.min-chunks.result = mul_comm n per in
    record {
      nodes = c.skip.ensures.nodes c.args.arena.now c.refill.ensures.nodes;
      values = λ vs are.
          let row : ValueRow c.args.arena.now (basic_type c.args.basic)
          (32 / c.size-per_chunk.result) vs c.loop-left.left c.min-chunks.result
          (map value_of c.loop-left.parts.items) c.row-row.result.now c.skip.new.self =
          ValuesLeft-row c.args.arena.now (basic_type c.args.basic)
          c.size-per_chunk.result per vs c.loop-left.left n
          (map value_of c.loop-left.parts.items) c.row-row.result.now c.loop-left.places
          c.refill.new.self c.skip.new.self c.size-per_chunk.ensures.exact
          c.size-per_chunk.ensures.divides are.fit (c.loop-left.invariant.values vs are)
          c.refill.ensures.holds (omega (arith, some, c.loop-left-test.true)) one few within
          (record {
            trees = λ trees. c.row-row.ensures.trees c.args.arena.now trees
                c.refill.ensures.filled;
            few = λ trees. c.row-row.ensures.few c.args.arena.now trees c.refill.ensures.filled;
            rest = c.skip.ensures.rest c.args.arena.now;
          }) in
          let all : 32 / c.size-per_chunk.result
          * (row.j + length (take c.min-chunks.result c.row-row.result.now)) ≤ length vs =
          subst (λ k. per * (row.j + k) ≤ length vs) (sym many) row.within in
          subst (λ k. ValuesLeft c.args.arena.now (basic_type c.args.basic) per vs
          (c.loop-left.left - k) (map value_of c.append_row.new.parts.items) c.skip.new.self)
          (sym turned)
          (row.next (map value_of c.append_row.new.parts.items)
          (c.append_row.ensures.values vs row.j are.fit row.are all
          ∙ ap (λ k. map value_of c.loop-left.parts.items
          ++ take (per * k) (drop (per * row.j) vs)) many));
      room = omega (
        arith,
        c.loop-left.invariant.room,
        c.append_row.ensures.len,
        c.append_row.ensures.capacity,
        same,
        turned,
        few,
      );
    }

pub returns-then-left-eq0 : goal.returns-then-left-eq0
returns-then-left-eq0 g c = λ vs are.
    ValuesLeft-end c.args.arena.now (basic_type c.args.basic) (32 / c.size-per_chunk.result) vs
    c.loop-left.left (map value_of c.loop-left.parts.items) c.loop-left.places
    (c.loop-left.invariant.values vs are) (omega (arith, c.if-left-eq0.true))

pub returns : goal.returns
returns g c = λ vs are.
    let more = ValuesLeft-more c.args.arena.now (basic_type c.args.basic)
    c.size-per_chunk.result (32 / c.size-per_chunk.result) vs c.loop-left.left
    c.loop-left.left (map value_of c.loop-left.parts.items)
    c.chunk_of-last.result.now.0 c.loop-left.places c.next.new.self c.next.result
    c.size-per_chunk.ensures.exact c.size-per_chunk.ensures.divides are.fit
    (c.loop-left.invariant.values vs are) (omega (arith, c.if-left-eq0.false))
    (omega (arith, c.loop-left-test.false))
    (record { tree = c.next.ensures.tree; rest = c.next.ensures.rest })
    c.chunk_of-last.ensures in
    ValuesLeft-end c.args.arena.now (basic_type c.args.basic) (32 / c.size-per_chunk.result) vs
    (c.loop-left.left - c.loop-left.left) (map value_of c.append_values.new.parts.items)
    c.next.new.self
    (more.next (map value_of c.append_values.new.parts.items)
    (c.append_values.ensures.values vs more.j (32 / c.size-per_chunk.result * more.j)
    are.fit more.is more.start more.within)) (omega arith)
