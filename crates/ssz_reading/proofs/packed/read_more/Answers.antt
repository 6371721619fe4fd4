use Rattle.std.proofs.Common.{ℕ, ◌++◌, List, map, sym, ap, ◌∙◌, subst}
use Rattle.std.specs.List.{concat}
use Rattle.ssz_schema.specs.width.Width.TheVariants.{W8}
use Rattle.ssz_schema.specs.Types.{uint}
use Rattle.ssz_value.specs.Encoding.{serialize}
use Rattle.ssz_arena.specs.Content.{tree_of}
use Rattle.ssz_nodes.specs.Shown.{ArePacked}
use Rattle.ssz_reading.proofs.PackedParts.{packed_bytes, bytes_read}
use Rattle.ssz_reading.proofs.packed.read_more.Goals as goal

pub returns : goal.returns
returns g c = λ vs are.
    bytes_read c.args.top.depth c.args.count vs (tree_of c.args.arena.now c.args.top.node)
    c.from_bytes.result are
    (c.from_bytes.ensures
    ∙ c.in_ok-append_chunks.ensures.bytes (concat (map (serialize (uint W8)) vs))
    (subst (λ n. ArePacked c.args.top.depth n (concat (map (serialize (uint W8)) vs))
    (tree_of c.args.arena.now c.args.top.node)) (sym c.from.ensures)
    (packed_bytes c.args.top.depth c.args.count vs (tree_of c.args.arena.now c.args.top.node) are))
    ∙ ap (λ (xs : List ℕ). xs ++ concat (map (serialize (uint W8)) vs)) c.in_ok-bytes.ensures.items)
