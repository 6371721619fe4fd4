use Rattle.std.proofs.Common.{ℕ, ◌≡◌, ◌+◌, ◌≤◌, ◌++◌, List, length, take, Option, None, refl, sym, ap, ◌∙◌, arith}
use Rattle.std.proofs.lemmas.List.{length-take-le, take-append-le}
use Rattle.std.proofs.Math.Seq.{take-append-add}
use Rattle.ssz_schema.specs.Sizes.{fixed_size}
use Rattle.ssz_value.specs.Encoding.{serialize}
use Rattle.ssz_writing.specs.Offsets.{room_of}
use Rattle.ssz_writing.proofs.writer.Writer.put_head.Goals as goal

-- the first so many of what was put behind the others
put_behind : (at len x : ℕ) (heads part back : List ℕ) → at ≤ length heads → x ≡ at + len
    → len ≤ length part
    → take x (take at heads ++ (part ++ back)) ≡ take at heads ++ take len part
put_behind at len x heads part back inside is few =
    let long : length (take at heads) ≡ at = length-take-le at heads inside in
    let end : x ≡ length (take at heads) + len = omega (arith, long, is) in
    ap (λ n. take n (take at heads ++ (part ++ back))) end
    ∙ take-append-add (take at heads) (part ++ back) len
    ∙ ap (λ xs. take at heads ++ xs) (take-append-le len part back few)

pub returns-then-len-gt0-clause-value : goal.returns-then-len-gt0-clause-value
returns-then-len-gt0-clause-value g c = λ t leaf none v h.
    let here = leaf.leaf c.if-len-gt0.true _ v h in
    let wide : length c.copy_from_slice.new.self ≡ 32 =
    omega (arith, c.copy_from_slice.ensures.len, c.requires.room) in
    put_behind c.args.at c.args.len _ c.args.heads.now c.copy_from_slice.new.self _
    (omega (arith, c.requires.room)) refl (omega (arith, wide, c.requires.len))
    ∙ ap (λ xs. take c.args.at c.args.heads.now ++ xs)
    (ap (take c.args.len) (c.copy_from_slice.ensures.after ∙ c.chunk_of.ensures here.chunk here.is)
    ∙ here.same ∙ ap (λ size. room_of size (serialize t v)) (sym (leaf.size c.if-len-gt0.true)))

-- a type of no fixed size
none_of : (o : Option ℕ) → o ≡ None → (bytes : List ℕ)
    → room_of None bytes ≡ room_of o bytes
none_of o e bytes = ap (λ size. room_of size bytes) (sym e)

pub returns-clause-value : goal.returns-clause-value
returns-clause-value g c = λ t leaf none v h.
    let no_len : c.args.len ≡ 0 = omega (arith, c.if-len-gt0.false) in
    let wide : length c.copy_from_slice-2.new.self ≡ 4 =
    omega (arith, c.copy_from_slice-2.ensures.len, c.requires.room) in
    put_behind c.args.at 4 _ c.args.heads.now c.copy_from_slice-2.new.self _
    (omega (arith, c.requires.room)) refl (omega (arith, wide))
    ∙ ap (λ xs. take c.args.at c.args.heads.now ++ xs)
    (ap (take 4) c.copy_from_slice-2.ensures.after
    ∙ none_of (fixed_size t) (none no_len) (serialize t v))
