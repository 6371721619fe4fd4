-- Rows of 2 ^ level chunks that are pushed at once, behind a multiple of as many.
use Rattle.std.proofs.Common.{◌≡◌, ◌≢◌, ℕ, suc, ◌+◌, ◌-◌, ◌*◌, ◌/◌, ◌%◌, ◌^◌, ◌<◌, ◌≤◌, List, [], ◌++◌, length, take, drop, slice_index_or, slice_set, sym, ap, subst, ◌∙◌, ⊎_elim, arith, length-append, length-drop}
use Rattle.std.specs.Int.{bit_at}
use Rattle.std.proofs.lemmas.Bool.{cases_lt, cases_eq}
use Rattle.std.proofs.lemmas.List.{drop_at, take-append-le, drop-append-le, get_or-set_same, get_or-set_other}
use Rattle.std.proofs.lemmas.Nat.{pow_pos, shr-shr}
use Rattle.ssz_chunk.specs.declared.Chunk.{Chunk}
use Rattle.ssz_merkle.specs.Frontier.{Frontier, FrontierHolds, chunk_block}
use Rattle.ssz_merkle.proofs.Binary.{IsFollowed, div_at, odd_rest, shr-above, digit-below}
use Rattle.ssz_merkle.proofs.Blocks.{start, start-right, start-within, root_over, IsTop, IsTop-right}
use Rattle.ssz_merkle.proofs.Holding.{block-last}

-- a multiple of m
pub multiple : (n m : ℕ) → 0 < m → n % m ≡ 0 → n ≡ n / m * m
multiple n m positive whole = omega (arith, whole)

-- the last place of a row is in the same subtrees from the row's level on
pub row-above : (n level k : ℕ) → n % 2 ^ level ≡ 0 → level ≤ k
    → (n + (2 ^ level - 1)) / 2 ^ k ≡ n / 2 ^ k
row-above n level k whole above =
    let m : ℕ = 2 ^ level in
    let here : (n + (m - 1)) / m ≡ n / m =
    div_at (n + (m - 1)) (n / m) m (m - 1)
    (ap (λ a. a + (m - 1)) (multiple n m (pow_pos level) whole)) (omega (arith, pow_pos level)) in
    let width : k ≡ level + (k - level) = omega arith in
    ap (λ j. (n + (m - 1)) / 2 ^ j) width ∙ sym (shr-shr (n + (m - 1)) level (k - level))
    ∙ ap (λ a. a / 2 ^ (k - level)) here ∙ shr-shr n level (k - level)
    ∙ ap (λ j. n / 2 ^ j) (sym width)

-- so it is carried up to the row's level at least
pub row-reached : (n level low q : ℕ) → n % 2 ^ level ≡ 0
    → IsFollowed (n + (2 ^ level - 1)) low q → level ≤ low
row-reached n level low q whole is = ⊎_elim
    (λ (below : low < level).
    let m : ℕ = 2 ^ level in
    let width : level ≡ low + suc (level - suc low) = omega arith in
    let next : n + (m - 1) + 1 ≡ (n / m + 1) * m =
    past n (n / m) m (pow_pos level) (multiple n m (pow_pos level) whole) in
    absurd (odd_rest (n / m + 1) q low (level - suc low)
    (sym is ∙ next ∙ ap (λ j. (n / m + 1) * 2 ^ j) width)))
    (λ (reached : level ≤ low). reached)
    (cases_lt low level)
  where
    past : (n a m : ℕ) → 0 < m → n ≡ a * m → n + (m - 1) + 1 ≡ (a + 1) * m
    past n a m positive is = omega arith

-- a block with a row behind it
block-before_row : (chunks row : List (List ℕ)) (k : ℕ) → bit_at (length chunks) k ≡ 1
    → chunk_block k chunks ≡ take (2 ^ k) (drop (start (length chunks) (suc k)) (chunks ++ row))
block-before_row chunks row k one =
    let n : ℕ = length chunks in
    let from : ℕ = start n (suc k) in
    let fits : from + 2 ^ k ≤ n = omega (arith, start-right n k one, start-within n k) in
    let count : length (drop from chunks) ≡ n - from = length-drop from chunks in
    sym (ap (take (2 ^ k)) (drop-append-le from chunks row (omega arith))
    ∙ take-append-le (2 ^ k) (drop from chunks) row (omega arith))

-- the row was pushed behind these chunks, of which there are n
module _ (pair_of : List ℕ → List ℕ → List ℕ) (chunks row : List (List ℕ)) (old : Frontier)
    (level last : ℕ) (held : FrontierHolds pair_of chunks old) (whole : old.pushed % 2 ^ level ≡ 0)
    (is_last : last ≡ old.pushed + (2 ^ level - 1)) where
  row-start : start last level ≡ length chunks
  row-start =
      let m : ℕ = 2 ^ level in
      ap (λ n. start n level) is_last
      ∙ ap (λ a. a * m) (row-above old.pushed level level whole (omega arith))
      ∙ sym (multiple old.pushed m (pow_pos level) whole) ∙ held.number

  above : (k : ℕ) → level ≤ k → last / 2 ^ k ≡ length chunks / 2 ^ k
  above k reached =
      ap (λ n. n / 2 ^ k) is_last ∙ row-above old.pushed level k whole reached
      ∙ ap (λ n. n / 2 ^ k) held.number

  -- its root is that of the subtree that holds its last chunk
  pub IsTop-row : (chunk : List ℕ) → chunk ≡ root_over pair_of level row
      → IsTop pair_of last level (chunks ++ row) chunk
  IsTop-row chunk is =
      is
      ∙ ap (root_over pair_of level) (sym (drop_at chunks row (start last level) (sym row-start)))

  -- the root of a block to the left
  left_root : (k : ℕ) → level ≤ k → bit_at last k ≡ 1
      → (slice_index_or old.roots k (record { 0 = [] })).0
      ≡ root_over pair_of k (take (2 ^ k) (drop (start last (suc k)) (chunks ++ row)))
  left_root k reached one =
      let here : bit_at (length chunks) k ≡ 1 = ap (λ a. a % 2) (sym (above k reached)) ∙ one in
      held.roots k here ∙ ap (root_over pair_of k) (block-before_row chunks row k here
      ∙ ap (λ a. take (2 ^ k) (drop (a * 2 ^ suc k) (chunks ++ row)))
      (sym (above (suc k) (omega arith))))

  -- carried up with it
  pub IsTop-row_carry : (carry pair : List ℕ) (k : ℕ) → level ≤ k → bit_at last k ≡ 1
      → IsTop pair_of last k (chunks ++ row) carry
      → pair ≡ pair_of (slice_index_or old.roots k (record { 0 = [] })).0 carry
      → IsTop pair_of last (k + 1) (chunks ++ row) pair
  IsTop-row_carry carry pair k reached one top is =
      IsTop-right pair_of last k (chunks ++ row) _ carry pair one (left_root k reached one) top is

  -- and kept at its place
  pub Holds-row : (new : Frontier) (carry : Chunk) (low q : ℕ) → length row ≡ 2 ^ level
      → IsFollowed last low q → level ≤ low → low < length old.roots
      → IsTop pair_of last low (chunks ++ row) carry.0
      → new.pushed ≡ old.pushed + 2 ^ level → new.roots ≡ slice_set old.roots low carry
      → FrontierHolds pair_of (chunks ++ row) new
  Holds-row new carry low q long followed reached within top more set =
      let all : List (List ℕ) = chunks ++ row in
      let sum : length all ≡ length chunks + length row = length-append chunks row in
      let count : length all ≡ last + 1 =
      omega (arith, sum, long, held.number, is_last, pow_pos level) in
      record {
        number = omega (arith, more, sum, long, held.number);
        roots = λ k one. ⊎_elim
            (λ (below : k < low).
            absurd (omega (
              arith,
              digit-below last low q k followed below,
              ap (λ n. bit_at n k) (sym count) ∙ one,
            )))
            (λ (higher : low ≤ k). ⊎_elim
            (λ (here : k ≡ low). subst (λ j. (slice_index_or new.roots j (record { 0 = [] })).0
            ≡ root_over pair_of j (chunk_block j all)) (sym here)
            (ap (λ (roots : List Chunk). (slice_index_or roots low (record { 0 = [] })).0) set
            ∙ ap (λ (c : Chunk). c.0)
            (get_or-set_same old.roots low carry (record { 0 = [] }) within)
            ∙ top ∙ ap (root_over pair_of low) (sym (block-last all last low q count followed))))
            (λ (other : k ≢ low).
            let past : low < k = omega (arith, other) in
            let same : (last + 1) / 2 ^ k ≡ last / 2 ^ k = shr-above last low q k followed past in
            let next : (last + 1) / 2 ^ suc k ≡ last / 2 ^ suc k =
            shr-above last low q (suc k) followed (omega arith) in
            let digit : bit_at last k ≡ 1 =
            ap (λ a. a % 2) (sym same) ∙ ap (λ n. bit_at n k) (sym count) ∙ one in
            ap (λ (roots : List Chunk). (slice_index_or roots k (record { 0 = [] })).0) set
            ∙ ap (λ (c : Chunk). c.0)
            (get_or-set_other old.roots low k carry (record { 0 = [] }) other)
            ∙ left_root k (omega arith) digit
            ∙ ap (λ a. root_over pair_of k (take (2 ^ k) (drop (a * 2 ^ suc k) all)))
            (sym next ∙ ap (λ n. n / 2 ^ suc k) (sym count)))
            (cases_eq k low))
            (cases_lt k low);
      }
