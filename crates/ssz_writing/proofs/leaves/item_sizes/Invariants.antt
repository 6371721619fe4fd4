use Rattle.std.proofs.Common.{ℕ, ◌≡◌, ◌<◌, List, length, slice_index_or}
use Rattle.ssz_schema.specs.Unfolding.{type_tree_at}
use Rattle.ssz_writing.specs.Leaves.{IsItemSize}
use Rattle.ssz_writing.proofs.leaves.item_sizes.Given as goal

abbrev pub invariant-loop-i : goal.invariant-loop-i
invariant-loop-i l =
    (length l.sizes ≡ 8)
    × ((i : ℕ) (part : List ℕ × ℕ) → i < l.i → part ≡ slice_index_or l.fields i part
    → IsItemSize (type_tree_at l.schema.trees part.1) (slice_index_or l.sizes i 0))
