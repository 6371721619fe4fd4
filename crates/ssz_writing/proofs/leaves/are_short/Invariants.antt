use Rattle.std.proofs.Common.{ℕ, ◌≡◌, ◌<◌, List, None, slice_index_or}
use Rattle.ssz_schema.specs.Sizes.{fixed_size}
use Rattle.ssz_schema.specs.Unfolding.{type_tree_at}
use Rattle.ssz_writing.proofs.leaves.are_short.Given as goal

abbrev pub invariant-loop-i : goal.invariant-loop-i
invariant-loop-i l =
    (i : ℕ) (part : List ℕ × ℕ) → i < l.i → part ≡ slice_index_or l.fields i part
    → slice_index_or l.lens i 0 ≡ 0 → fixed_size (type_tree_at l.schema.trees part.1) ≡ None
