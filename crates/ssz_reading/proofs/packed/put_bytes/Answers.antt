use Rattle.std.proofs.Common.{ℕ, ◌∙◌, List, map, ap}
use Rattle.std.specs.List.{concat}
use Rattle.ssz_chunk.specs.Tree.{Tree}
use Rattle.ssz_schema.specs.width.Width.TheVariants.{W8}
use Rattle.ssz_schema.specs.Types.{uint}
use Rattle.ssz_value.specs.declared.value.Value.TheVariants.{Bytes}
use Rattle.ssz_value.specs.Values.{sequence, values}
use Rattle.ssz_value.specs.Encoding.{serialize}
use Rattle.ssz_value.proofs.ValueLemmas.{bytes_are}
use Rattle.ssz_value.proofs.FormLemmas.{bytes_are_formed}
use Rattle.ssz_arena.specs.Content.{tree_of}
use Rattle.ssz_reading.proofs.PackedParts.{packed_bytes, bytes_read}
use Rattle.ssz_reading.proofs.packed.put_bytes.Goals as goal

pub returns-then-count-le32-clause-put : goal.returns-then-count-le32-clause-put
returns-then-count-le32-clause-put g c = λ vs are.
    let node : Tree = tree_of c.args.arena.now c.args.top.node in
    let bytes : List ℕ = concat (map (serialize (uint W8)) vs) in
    let same = bytes_read c.args.top.depth c.args.count vs node c.in_ok-copy_of.field-0 are
    (c.in_ok-copy_of.ensures.copy
    ∙ c.few_bytes-bytes.ensures bytes (packed_bytes c.args.top.depth c.args.count vs node are)) in
    record {
      value = Bytes c.in_ok-copy_of.field-0;
      items = c.push_reserved.ensures.items;
      stands = record {
        value = bytes_are c.in_ok-copy_of.field-0 ∙ ap (λ ws. sequence (values ws)) same;
        formed = bytes_are_formed c.args.count c.in_ok-copy_of.field-0;
      };
    }
