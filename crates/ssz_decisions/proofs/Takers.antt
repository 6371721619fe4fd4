-- One writer more takes over what the base's writer holds.
use Rattle.std.proofs.Common.{ℕ, ◌+◌, ◌<◌, ◌≡◌, ◌==◌, true, false, cond, refl, ◌∙◌, arith}
use Rattle.std.specs.Prelude.{nat_lt}
use Rattle.std.proofs.lemmas.Bool.Decides.{nat_tests}
use Rattle.ssz_versions.specs.Content.{Entries, held_at}
use Rattle.ssz_versions.specs.Outcomes.{Adopts}
use Rattle.ssz_machine.specs.Plays.{base_writer}
use Rattle.ssz_decisions.specs.Adopted.{AdoptsAll}
use Rattle.ssz_decisions.specs.Standing.{HoldsNone}

-- the next writer holds nothing yet
pub next_holds_none : (count : ℕ) (old new : Entries) → AdoptsAll count old new
    → HoldsNone old count → HoldsNone new count
next_holds_none count old new adopts none name =
    let apart : nat_lt count count ≡ false = grind (arith, nat_tests) in
    adopts count name ∙ rw apart (none name)

-- one writer more takes over what the base's holds
pub adopts_more : (count : ℕ) (old mid new : Entries) → count < base_writer
    → AdoptsAll count old mid → Adopts mid new base_writer count → AdoptsAll (count + 1) old new
adopts_more count old mid new few so_far adopts writer name =
    adopts writer name
    ∙ (elim (writer == count) as (λ b. (writer == count) ≡ b
    → cond b (held_at mid base_writer name) (held_at mid writer name)
    ≡ cond (nat_lt writer (count + 1)) (held_at old base_writer name)
    (held_at old writer name)) [
      | true ↦ λ is.
          let mine : nat_lt writer (count + 1) ≡ true = here is in
          rw mine (so_far base_writer name ∙ rw base_stays refl)
      | false ↦ λ apart.
          let same : nat_lt writer (count + 1) ≡ nat_lt writer count = beside apart in
          rw same (so_far writer name)
    ] refl)
  where
    base_stays : nat_lt base_writer count ≡ false
    base_stays = grind (arith, nat_tests)

    here : (writer == count) ≡ true → nat_lt writer (count + 1) ≡ true
    here is = grind (arith, nat_tests)

    beside : (writer == count) ≡ false → nat_lt writer (count + 1) ≡ nat_lt writer count
    beside apart = grind (arith, nat_tests)

pub adopts_none : (entries : Entries) → AdoptsAll 0 entries entries
adopts_none entries writer name =
    let none : nat_lt writer 0 ≡ false = grind (arith, nat_tests) in rw none refl
