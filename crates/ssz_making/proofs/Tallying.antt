-- Tallies of equal parts, and of chunks.
use Rattle.std.proofs.Common.{◌≡◌, ℕ, ◌+◌, List, map, subst, sym}
use Rattle.ssz_chunk.specs.Tree.{merkle_pairs}
use Rattle.ssz_value.specs.Trees.{chunks}
use Rattle.ssz_making.specs.declared.tally.Tally.{Tally}
use Rattle.ssz_making.specs.Parts.{MadePart, whole_of, chunk_part}
use Rattle.ssz_making.specs.Tallies.{IsTallyOf, Tallies}
use Rattle.ssz_making.proofs.Chunks.{cost-chunks, nodes-of_chunks}

-- equally many
pub Tallies-same : (p n q m : ℕ) (tally : Tally) → Tallies p n tally → p ≡ q → n ≡ m
    → Tallies q m tally
Tallies-same p n q m tally counted pairs nodes = subst (λ k. Tallies q k tally) nodes
    (subst (λ k. Tallies k n tally) pairs counted)

pub IsTallyOf-same : (a b : MadePart) (tally : Tally) → IsTallyOf a tally → a ≡ b
    → IsTallyOf b tally
IsTallyOf-same a b tally counted e = subst (λ part. IsTallyOf part tally) e counted

pub tally-chunks : (d count : ℕ) (b : List ℕ) (tally : Tally)
    → Tallies (merkle_pairs d count) (merkle_pairs d count + count) tally
    → IsTallyOf (whole_of d (map chunk_part (chunks count b))) tally
tally-chunks d count b tally counted = Tallies-same _ _ _ _ tally counted
    (sym (cost-chunks d count b)) (sym (nodes-of_chunks d count b))
