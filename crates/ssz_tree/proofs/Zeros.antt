-- The trees of zero bytes.
use Rattle.std.proofs.Common.{◌≡◌, ℕ, zero, suc, ◌+◌, ◌-◌, ◌*◌, ◌/◌, false, List, [], ◌∷◌, ◌++◌, length, map, take, replicate, Some, refl, ap, ap₂, ◌∙◌, arith}
use Rattle.std.specs.List.{concat}
use Rattle.std.proofs.lemmas.List.{replicate-append-replicate, take-replicate, drop-replicate}
use Rattle.ssz_chunk.specs.Chunk.{zero_chunk}
use Rattle.ssz_chunk.specs.Tree.{leaf, merkle_tree, zero_tree, place}
use Rattle.ssz_chunk.proofs.FullTrees.{full-Agree}
use Rattle.ssz_schema.specs.width.Width.TheVariants.{W8, W16, W32, W64, W128, W256}
use Rattle.ssz_bytes.specs.Bytes.{le_bytes, number_of_bits}
use Rattle.ssz_schema.specs.Types.{SszType, uint, boolean, container, vector, list, bitvector, bitlist, union}
use Rattle.ssz_schema.specs.Sizes.{basic_size}
use Rattle.ssz_value.specs.Defaults.{default_of}
use Rattle.ssz_value.specs.Encoding.{serialize}
use Rattle.ssz_value.specs.Trees.{padded, chunks, pack, pack_bits}

-- zero bytes
abbrev pub zeros : ℕ → List ℕ
zeros k = replicate k 0

pub padded-zeros : (k : ℕ) → padded (zeros k) ≡ zero_chunk
padded-zeros k =
    ap (take 32) (replicate-append-replicate k 32 (let z : ℕ = 0 in z))
    ∙ take-replicate 32 (k + 32) (let z : ℕ = 0 in z) (omega arith)

chunks-zeros : (count k : ℕ) → chunks count (zeros k) ≡ replicate count zero_chunk
chunks-zeros zero k = refl
chunks-zeros (suc count) k =
    ap₂ (λ c cs. c ∷ cs) (padded-zeros k)
    (ap (chunks count) (drop-replicate 32 k (let z : ℕ = 0 in z)) ∙ chunks-zeros count (k - 32))

pub map-replicate : {X Y : Type 0} (f : X → Y) (n : ℕ) (x : X)
    → map f (replicate n x) ≡ replicate n (f x)
map-replicate f zero x = refl
map-replicate f (suc n) x = ap (λ ys. f x ∷ ys) (map-replicate f n x)

-- a full tree of zero chunks
place-zeros : (m i : ℕ) → place (replicate m (leaf zero_chunk)) i ≡ leaf zero_chunk
place-zeros zero i = refl
place-zeros (suc m) zero = refl
place-zeros (suc m) (suc i) = place-zeros m i

full-zeros : (d m : ℕ) → merkle_tree d (replicate m (leaf zero_chunk)) ≡ zero_tree d
full-zeros d m = full-Agree d [] (replicate m (leaf zero_chunk)) (λ i below. place-zeros m i)

pub pack-zeros : (d k : ℕ) → merkle_tree d (map leaf (pack (zeros k))) ≡ zero_tree d
pack-zeros d k =
    ap (λ cs. merkle_tree d (map leaf cs)) (chunks-zeros ((length (zeros k) + 31) / 32) k)
    ∙ ap (merkle_tree d) (map-replicate leaf ((length (zeros k) + 31) / 32) zero_chunk)
    ∙ full-zeros d ((length (zeros k) + 31) / 32)

-- the bytes of 0, and of bits that are all 0
le_bytes-zero : (k : ℕ) → le_bytes k 0 ≡ zeros k
le_bytes-zero zero = refl
le_bytes-zero (suc k) = ap (λ bytes. 0 ∷ bytes) (le_bytes-zero k)

no_bits : (n : ℕ) → number_of_bits (replicate n false) ≡ 0
no_bits zero = refl
no_bits (suc n) = omega (arith, no_bits n)

pub pack_bits-zeros : (d n : ℕ)
    → merkle_tree d (map leaf (pack_bits (replicate n false))) ≡ zero_tree d
pack_bits-zeros d n =
    ap (λ m. merkle_tree d (map leaf (pack (le_bytes ((length (replicate n false) + 7) / 8) m))))
    (no_bits n)
    ∙ ap (λ bytes. merkle_tree d (map leaf (pack bytes)))
    (le_bytes-zero ((length (replicate n false) + 7) / 8))
    ∙ pack-zeros d ((length (replicate n false) + 7) / 8)

-- the encoding of the default of a basic type
same_some : (a b : ℕ) → Some a ≡ Some b → a ≡ b
same_some a b e = cc

pub enc-zeros : (t : SszType) (z : ℕ) → basic_size t ≡ Some z → serialize t (default_of t) ≡ zeros z
enc-zeros (uint W8) z e = ap zeros (same_some 1 z e)
enc-zeros (uint W16) z e = ap zeros (same_some 2 z e)
enc-zeros (uint W32) z e = ap zeros (same_some 4 z e)
enc-zeros (uint W64) z e = ap zeros (same_some 8 z e)
enc-zeros (uint W128) z e = ap zeros (same_some 16 z e)
enc-zeros (uint W256) z e = ap zeros (same_some 32 z e)
enc-zeros boolean z e = ap zeros (same_some 1 z e)
enc-zeros (container fs) z e = cc
enc-zeros (vector t n) z e = cc
enc-zeros (list t n) z e = cc
enc-zeros (bitvector n) z e = cc
enc-zeros (bitlist n) z e = cc
enc-zeros (union os) z e = cc

pub concat-zeros : (z n : ℕ) → concat (replicate n (zeros z)) ≡ zeros (n * z)
concat-zeros z zero = ap zeros (let none : 0 ≡ 0 * z = omega arith in none)
concat-zeros z (suc n) =
    let sum : z + n * z ≡ suc n * z = omega arith in
    ap (λ bytes. zeros z ++ bytes) (concat-zeros z n)
    ∙ replicate-append-replicate z (n * z) (let k : ℕ = 0 in k) ∙ ap zeros sum
