-- Steps that were paid for, one behind another, and the numbers among them.
use Rattle.std.proofs.Common.{ℕ, zero, suc, ◌+◌, ◌-◌, ◌≤◌, ◌≡◌, List, [], ◌∷◌, ◌++◌, length, Option, Some, None, refl, sym, ap, subst, arith}
use Rattle.std.specs.Prelude.{slice_get, option_and_then}
use Rattle.std.proofs.lemmas.List.Sums.{sum_by-cons}
use Rattle.ssz_machine.specs.Machine.{Turn, charge_of, reply_of}
use Rattle.ssz_machine.specs.Plays.{charges}
use Rattle.ssz_machine.specs.Counts.{AreCounts, IsLedger, number_said}
use Rattle.ssz_machine.proofs.Ledgers.{ledgers_count_lem}
use Rattle.ssz_engine.specs.Points.{PaysSteps, PaysStep}

none_some : {A : Type 0} (x : A) → None ≡ Some x → ⊥
none_some x e = cc

some_same : {A : Type 0} (x y : A) → Some x ≡ Some y → x ≡ y
some_same x y e = cc

module _ (base : ℕ) where
  -- some steps, and more behind them
  pub pays_append : (turns more : List Turn) (a b c d e f : ℕ) → PaysSteps base turns a b c d
      → PaysSteps base more c d e f → PaysSteps base (turns ++ more) a b e f
  pays_append [] more a b c d e f first then =
      subst (λ n. PaysSteps base more a n e f) first.1
      (subst (λ n. PaysSteps base more n d e f) first.0 then)
  pays_append (turn ∷ turns) more a b c d e f first then =
      (first.0, first.1, first.2, pays_append turns more first.0 first.1 c d e f first.3 then)

  -- one step more
  pub pays_step : (turns : List Turn) (turn : Turn) (a b c d e f : ℕ) → PaysSteps base turns a b c d
      → PaysStep base turn c d e f → PaysSteps base (turns ++ turn ∷ []) a b e f
  pays_step turns turn a b c d e f first then =
      pays_append turns (turn ∷ []) a b c d e f first (e, f, then, (refl, refl))

  -- what was hashed and what is left was left before, or charged
  pub pays_total : (turns : List Turn) (a b c d : ℕ) → PaysSteps base turns a b c d
      → c + d ≤ a + b + charges turns
  pays_total [] a b c d p = omega (arith, p.0, p.1)
  pays_total (turn ∷ turns) a b c d p =
      let rest = pays_total turns p.0 p.1 c d p.3 in
      omega (arith, rest, p.2.paid, sum_by-cons charge_of turn turns)

  -- no count falls
  pub pays_rises : (turns : List Turn) (a b c d : ℕ) → PaysSteps base turns a b c d → a ≤ c
  pays_rises [] a b c d p = omega (arith, p.0)
  pays_rises (turn ∷ turns) a b c d p =
      let rest = pays_rises turns p.0 p.1 c d p.3 in omega (arith, rest, p.2.rises)

  -- the pairs that were hashed before each step, and those that were left
  hashed_at : (turns : List Turn) (a b c d : ℕ) → PaysSteps base turns a b c d → ℕ → ℕ
  hashed_at [] a b c d p i = a
  hashed_at (turn ∷ turns) a b c d p zero = a
  hashed_at (turn ∷ turns) a b c d p (suc i) = hashed_at turns p.0 p.1 c d p.3 i

  left_at : (turns : List Turn) (a b c d : ℕ) → PaysSteps base turns a b c d → ℕ → ℕ
  left_at [] a b c d p i = b
  left_at (turn ∷ turns) a b c d p zero = b
  left_at (turn ∷ turns) a b c d p (suc i) = left_at turns p.0 p.1 c d p.3 i

  hashed_first : (turns : List Turn) (a b c d : ℕ) (p : PaysSteps base turns a b c d)
      → hashed_at turns a b c d p 0 ≡ a
  unfolding hashed_at
  hashed_first [] a b c d p = refl
  hashed_first (turn ∷ turns) a b c d p = refl

  left_first : (turns : List Turn) (a b c d : ℕ) (p : PaysSteps base turns a b c d)
      → left_at turns a b c d p 0 ≡ b
  unfolding left_at
  left_first [] a b c d p = refl
  left_first (turn ∷ turns) a b c d p = refl

  hashed_last : (turns : List Turn) (a b c d : ℕ) (p : PaysSteps base turns a b c d)
      → hashed_at turns a b c d p (length turns) ≡ c
  unfolding hashed_at
  hashed_last [] a b c d p = sym p.0
  hashed_last (turn ∷ turns) a b c d p = hashed_last turns p.0 p.1 c d p.3

  hashed_least : (turns : List Turn) (a b c d : ℕ) (p : PaysSteps base turns a b c d) (i : ℕ)
      → a ≤ hashed_at turns a b c d p i
  unfolding hashed_at
  hashed_least [] a b c d p i = omega arith
  hashed_least (turn ∷ turns) a b c d p zero = omega arith
  hashed_least (turn ∷ turns) a b c d p (suc i) =
      let rest = hashed_least turns p.0 p.1 c d p.3 i in omega (arith, rest, p.2.rises)

  -- each step was paid for
  at_step : (turns : List Turn) (a b c d : ℕ) (p : PaysSteps base turns a b c d) (i : ℕ)
      (turn : Turn)
      → slice_get turns i ≡ Some turn
      → PaysStep base turn (hashed_at turns a b c d p i) (left_at turns a b c d p i)
      (hashed_at turns a b c d p (suc i)) (left_at turns a b c d p (suc i))
  unfolding hashed_at left_at
  at_step [] a b c d p i turn found = absurd (none_some turn found)
  at_step (first ∷ turns) a b c d p zero turn found =
      subst (λ t. PaysStep base t a b (hashed_at turns p.0 p.1 c d p.3 0)
      (left_at turns p.0 p.1 c d p.3 0)) (some_same first turn found)
      (subst (λ n. PaysStep base first a b n (left_at turns p.0 p.1 c d p.3 0))
      (sym (hashed_first turns p.0 p.1 c d p.3))
      (subst (λ n. PaysStep base first a b p.0 n) (sym (left_first turns p.0 p.1 c d p.3)) p.2))
  at_step (first ∷ turns) a b c d p (suc i) turn found =
      at_step turns p.0 p.1 c d p.3 i turn found

  -- So the numbers among them are as they should be, where the first step found nothing hashed
  -- since the base and nothing left to be hashed.
  module _ (turns : List Turn) (b c d : ℕ) (p : PaysSteps base turns base b c d) where
    abbrev hashed : ℕ → ℕ
    hashed i = hashed_at turns base b c d p i - base

    abbrev left : ℕ → ℕ
    left i = left_at turns base b c d p i

    next : (i : ℕ) → i + 1 ≡ suc i
    next i = omega arith

    -- a number stands at a step
    said : (i n : ℕ) (o : Option Turn) → slice_get turns i ≡ o
        → option_and_then (λ turn. number_said (reply_of turn)) o ≡ Some n → n ≡ hashed i
    said i n None found says = absurd (none_some n says)
    said i n (Some turn) found says = (at_step turns base b c d p i turn found).said n says

    ledger : b ≡ 0 → IsLedger turns hashed left
    ledger none = record {
      begins =
          let first = hashed_first turns base b c d p in
          let behind = left_first turns base b c d p in
          omega (arith, first, behind, none);
      rises = λ i turn found.
          let step = at_step turns base b c d p i turn found in
          rw (next i) (omega (arith, step.rises));
      stays = λ i turn found hashes.
          let step = at_step turns base b c d p i turn found in
          rw (next i) (ap (λ n. n - base) (step.stays hashes));
      paid = λ i turn found.
          let step = at_step turns base b c d p i turn found in
          let least = hashed_least turns base b c d p i in
          rw (next i) (omega (arith, step.paid, step.rises, least));
      said = λ i n says. said i n (slice_get turns i) refl says;
    }

    pub pays_counts : b ≡ 0 → AreCounts turns (c - base)
    pays_counts none =
        subst (λ total. AreCounts turns (total - base)) (hashed_last turns base b c d p)
        (ledgers_count_lem turns hashed left (ledger none))
