-- What a leaf has after a part is written over, and after it is taken away.
use Rattle.std.proofs.Common.{◌≡◌, ℕ, ◌≤◌, Bool, false, List, take, refl, sym, ap, ◌∙◌, subst, Some, arith}
use Rattle.std.specs.Prelude.{unwrap_or}
use Rattle.std.proofs.lemmas.List.{take-replicate}
use Rattle.ssz_chunk.specs.Chunk.{zero_chunk}
use Rattle.ssz_chunk.specs.Tree.{Tree, leaf, pair}
use Rattle.ssz_schema.specs.Types.{SszType}
use Rattle.ssz_schema.specs.Sizes.{basic_size}
use Rattle.ssz_schema.specs.Indices.{byte, bit}
use Rattle.ssz_value.specs.Values.{SszValue, truth, Fits}
use Rattle.ssz_value.specs.Encoding.{serialize}
use Rattle.ssz_value.specs.Trees.{padded}
use Rattle.ssz_arena.specs.declared.node.NodeId.{NodeId}
use Rattle.ssz_arena.specs.Content.{ArenaContent, tree_of, todo, IsNodeOf}
use Rattle.ssz_places.specs.Spots.{CanHold, LiesWithin, spot_written, bit_written}
use Rattle.ssz_places.proofs.Elements.{is_basic}
use Rattle.ssz_places.proofs.Packing.{take-padded}
use Rattle.ssz_tree.specs.Added.{IsPartNode}
use Rattle.ssz_edit.specs.Edited.{edited_part, part_without}

-- the first bytes of the chunk of a basic value are its encoding
part_bytes : (u : SszType) (x : SszValue) (at : ℕ) (chunk : List ℕ) → LiesWithin u (byte at)
    → Fits u x
    → ((size : ℕ) → basic_size u ≡ Some size → Fits u x → chunk ≡ padded (serialize u x))
    → take (unwrap_or (basic_size u) 0) chunk ≡ serialize u x
part_bytes u x at chunk lies fit is =
    let size = lies.0 in
    let basic = is_basic u size lies.1 in
    let small : size ≤ 32 = (let inside = basic.inside 0 in omega arith) in
    ap (λ o. take (unwrap_or o 0) chunk) lies.1
    ∙ ap (take size) (is size lies.1 fit)
    ∙ take-padded (serialize u x) size (basic.sized x fit) small

module _ (arena : ArenaContent) (u : SszType) (at : ℕ) (tree : Tree) (made : NodeId)
    (known : IsNodeOf arena made) (due : todo arena made ≡ 0) where
  -- the leaf made has the part
  pub byte_made : (x : SszValue) (bytes : List ℕ) → LiesWithin u (byte at) → Fits u x
      → ((size : ℕ) → basic_size u ≡ Some size → Fits u x → bytes ≡ padded (serialize u x))
      → CanHold (byte at) tree
      → ((chunk : List ℕ) → tree ≡ leaf chunk → tree_of arena made
      ≡ leaf (spot_written chunk at (take (unwrap_or (basic_size u) 0) bytes)))
      → IsPartNode arena (edited_part (byte at) u x tree) made
  byte_made x bytes lies fit is holds made_is =
      record { node = known; tree = go tree holds made_is; todo = omega (arith, due) }
    where
      go : (tree : Tree) → CanHold (byte at) tree
          → ((chunk : List ℕ) → tree ≡ leaf chunk → tree_of arena made
          ≡ leaf (spot_written chunk at (take (unwrap_or (basic_size u) 0) bytes)))
          → tree_of arena made ≡ (edited_part (byte at) u x tree).tree
      go (leaf chunk) holds made_is =
          made_is chunk refl ∙ ap (λ b. leaf (spot_written chunk at b))
          (part_bytes u x at bytes lies fit
          is)
      go (pair left right) holds made_is = absurd holds

  pub bit_made : (x : SszValue) (flag : Bool) → x ≡ truth flag → CanHold (bit at) tree
      → ((chunk : List ℕ) → tree ≡ leaf chunk
      → tree_of arena made ≡ leaf (bit_written chunk at flag))
      → IsPartNode arena (edited_part (bit at) u x tree) made
  bit_made x flag is holds made_is =
      subst (λ w. IsPartNode arena (edited_part (bit at) u w tree) made) (sym is)
      (record { node = known; tree = go tree holds made_is; todo = omega (arith, due) })
    where
      go : (tree : Tree) → CanHold (bit at) tree
          → ((chunk : List ℕ) → tree ≡ leaf chunk
          → tree_of arena made ≡ leaf (bit_written chunk at flag))
          → tree_of arena made ≡ (edited_part (bit at) u (truth flag) tree).tree
      go (leaf chunk) holds made_is = made_is chunk refl
      go (pair left right) holds made_is = absurd holds

  -- the leaf made has zeros there
  pub byte_emptied : LiesWithin u (byte at) → CanHold (byte at) tree
      → ((chunk : List ℕ) → tree ≡ leaf chunk → tree_of arena made
      ≡ leaf (spot_written chunk at (take (unwrap_or (basic_size u) 0) zero_chunk)))
      → IsPartNode arena (part_without (byte at) u tree) made
  byte_emptied lies holds made_is =
      record { node = known; tree = go tree holds made_is; todo = omega (arith, due) }
    where
      small : unwrap_or (basic_size u) 0 ≤ 32
      small = omega (arith, lies.2, ap (λ o. unwrap_or o 0) lies.1)

      go : (tree : Tree) → CanHold (byte at) tree
          → ((chunk : List ℕ) → tree ≡ leaf chunk → tree_of arena made
          ≡ leaf (spot_written chunk at (take (unwrap_or (basic_size u) 0) zero_chunk)))
          → tree_of arena made ≡ (part_without (byte at) u tree).tree
      go (leaf chunk) holds made_is =
          made_is chunk refl ∙ ap (λ b. leaf (spot_written chunk at b))
          (take-replicate (unwrap_or (basic_size u) 0) 32 0 small)
      go (pair left right) holds made_is = absurd holds

  pub bit_emptied : CanHold (bit at) tree
      → ((chunk : List ℕ) → tree ≡ leaf chunk
      → tree_of arena made ≡ leaf (bit_written chunk at false))
      → IsPartNode arena (part_without (bit at) u tree) made
  bit_emptied holds made_is =
      record { node = known; tree = go tree holds made_is; todo = omega (arith, due) }
    where
      go : (tree : Tree) → CanHold (bit at) tree
          → ((chunk : List ℕ) → tree ≡ leaf chunk
          → tree_of arena made ≡ leaf (bit_written chunk at false))
          → tree_of arena made ≡ (part_without (bit at) u tree).tree
      go (leaf chunk) holds made_is = made_is chunk refl
      go (pair left right) holds made_is = absurd holds
