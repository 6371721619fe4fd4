use Rattle.std.proofs.Common.{ℕ, ◌+◌, ◌*◌, ◌≤◌, ◌<◌, Option, refl, sym, ◌∙◌, subst, arith}
use Rattle.std.specs.Prelude.{IfSome}
use Rattle.std.proofs.Math.Nat.{mul-le-mul_right}
use Rattle.ssz_nodes.specs.Shown.{basic_type}
use Rattle.ssz_reading.proofs.PackedParts.{ValuesSoFar-start, values_more}
use Rattle.ssz_reading.proofs.packed.append_values.Goals as goal

pub loop-k-init : goal.loop-k-init
loop-k-init c = record {
  values = ValuesSoFar-start (basic_type c.args.basic) c.args.chunk.now.0 c.args.count
      c.args.parts.now.items;
  len = omega arith;
  capacity = refl;
}

-- a value within the chunk
within_chunk : (count k size : ℕ) → k < count → count * size ≤ 32 → k * size + size ≤ 32
within_chunk count k size below few =
    let most : (k + 1) * size ≤ count * size = mul-le-mul_right size (omega arith) in
    omega (arith, most)

pub overflow_mul-k : goal.overflow_mul-k
overflow_mul-k c =
    omega (
      arith,
      within_chunk c.args.count c.loop-k.k c.size-size.result c.loop-k-test.true
          (c.requires.within c.size-size.result c.size-size.ensures.exact),
    )

pub value_at-requires : goal.value_at-requires
value_at-requires c =
    subst (λ (o : Option ℕ). IfSome o (λ size. c.loop-k.k * c.size-size.result + size ≤ 32))
    (sym c.size-size.ensures.exact)
    (within_chunk c.args.count c.loop-k.k c.size-size.result c.loop-k-test.true
    (c.requires.within c.size-size.result c.size-size.ensures.exact))

pub loop-k-preserved : goal.loop-k-preserved
loop-k-preserved c = record {
  values = record {
    each = λ vs j from fit is start within.
        values_more (basic_type c.args.basic) c.size-size.result vs j from c.args.count c.loop-k.k
        c.args.chunk.now.0 c.args.parts.now.items c.loop-k.parts.items
        c.push_reserved.new.self.items c.value_at.result
        c.size-size.ensures.exact fit is (start c.size-size.result c.size-size.ensures.exact)
        (c.requires.within c.size-size.result c.size-size.ensures.exact) c.loop-k-test.true within
        (c.loop-k.invariant.values.each vs j from fit is start within)
        c.value_at.ensures c.push_reserved.ensures.items;
  };
  len = omega (arith, c.push_reserved.ensures.len, c.loop-k.invariant.len);
  capacity = c.push_reserved.ensures.capacity ∙ c.loop-k.invariant.capacity;
}
