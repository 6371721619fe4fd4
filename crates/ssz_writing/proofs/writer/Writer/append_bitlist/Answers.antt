use Rattle.std.proofs.Common.{◌+◌, ◌%◌, ◌/◌, ◌≡◌, ◌<◌, ◌++◌, ◌∷◌, [], length, ap, sym, ◌∙◌, arith, append_assoc}
use Rattle.ssz_places.proofs.BitPacking.{bit_bytes}
use Rattle.ssz_arena.specs.Content.{tree_of}
use Rattle.ssz_nodes.proofs.Chunked.{Extends-more, Extends-trans}
use Rattle.ssz_writing.proofs.Marked.{whole_marked, marked_bytes, popped_extends}
use Rattle.ssz_writing.proofs.FieldsWritten.{counted_packed}
use Rattle.ssz_writing.proofs.writer.Writer.append_bitlist.Goals as goal

pub returns-then-above-eq0-clause-value : goal.returns-then-above-eq0-clause-value
returns-then-above-eq0-clause-value g c = λ bs are.
    let of = counted_packed c.args.top.depth c.mixed_parts-count.result.1
    ((c.from.result + 7) / 8) bs
    (tree_of c.args.self.now.arena.now c.args.top.node)
    (tree_of c.args.self.now.arena.now c.mixed_parts-count.result.0)
    (record {
      tree = c.mixed_parts-count.ensures.tree;
      number = c.mixed_parts-count.ensures.number;
    })
    (ap (λ n. (n + 7) / 8) c.from.ensures) are in
    let whole : length bs % 8 ≡ 0 = omega (arith, of.0, c.if-above-eq0.true) in
    c.in_ok-append_byte.ensures.items
    ∙ ap (λ xs. xs ++ 1 ∷ []) (c.in_ok-append_packed.ensures.bytes (bit_bytes bs) of.1)
    ∙ append_assoc c.args.out.now.items (bit_bytes bs) (1 ∷ [])
    ∙ ap (λ xs. c.args.out.now.items ++ xs) (sym (whole_marked bs whole))

pub returns-in_ok-append_byte-2-clause-kept : goal.returns-in_ok-append_byte-2-clause-kept
returns-in_ok-append_byte-2-clause-kept g c =
    let longer : length c.args.out.now.items < length c.append_packed.new.out.items =
    omega (arith, c.in_ok-append_packed.ensures.long, c.from.ensures, c.if-above-eq0.false) in
    Extends-more c.args.out.now.items c.pop.new.self.items c.append_byte-in-Some.new.out.items _
    (popped_extends c.args.out.now.items c.append_packed.new.out.items c.pop.new.self.items
    c.in-Some.last c.in_ok-append_packed.ensures.kept longer c.in-Some.ensures.items)
    c.in_ok-append_byte-2.ensures.items

pub returns-in_ok-append_byte-2-clause-value : goal.returns-in_ok-append_byte-2-clause-value
returns-in_ok-append_byte-2-clause-value g c = λ bs are.
    let of = counted_packed c.args.top.depth c.mixed_parts-count.result.1
    ((c.from.result + 7) / 8) bs
    (tree_of c.args.self.now.arena.now c.args.top.node)
    (tree_of c.args.self.now.arena.now c.mixed_parts-count.result.0)
    (record {
      tree = c.mixed_parts-count.ensures.tree;
      number = c.mixed_parts-count.ensures.number;
    })
    (ap (λ n. (n + 7) / 8) c.from.ensures) are in
    marked_bytes bs (c.mixed_parts-count.result.1 % 8) c.in-Some.last _ c.args.out.now.items
    c.append_packed.new.out.items c.pop.new.self.items c.append_byte-in-Some.new.out.items
    (ap (λ n. n % 8) of.0) (omega (arith, c.if-above-eq0.false))
    (c.in_ok-append_packed.ensures.bytes (bit_bytes bs) of.1) c.in-Some.ensures.items
    (omega arith) c.in_ok-append_byte-2.ensures.items

pub returns-in_err-append_byte-2-clause-kept : goal.returns-in_err-append_byte-2-clause-kept
returns-in_err-append_byte-2-clause-kept g c =
    let longer : length c.args.out.now.items < length c.append_packed.new.out.items =
    omega (arith, c.in_ok-append_packed.ensures.long, c.from.ensures, c.if-above-eq0.false) in
    Extends-trans c.args.out.now.items c.pop.new.self.items c.append_byte-in-Some.new.out.items
    (popped_extends c.args.out.now.items c.append_packed.new.out.items c.pop.new.self.items
    c.in-Some.last c.in_ok-append_packed.ensures.kept longer c.in-Some.ensures.items)
    c.append_byte-in-Some.ensures.kept

pub returns-then-above-eq0-clause-kept : goal.returns-then-above-eq0-clause-kept
returns-then-above-eq0-clause-kept g c =
    Extends-trans c.args.out.now.items c.append_packed.new.out.items c.append_byte.new.out.items
    c.append_packed.ensures.kept c.append_byte.ensures.kept

pub returns-in_err-append_byte-clause-kept : goal.returns-in_err-append_byte-clause-kept
returns-in_err-append_byte-clause-kept g c =
    Extends-trans c.args.out.now.items c.append_packed.new.out.items c.append_byte.new.out.items
    c.append_packed.ensures.kept c.append_byte.ensures.kept
