-- The files that the steps of a run read.
use Rattle.std.proofs.Common.{ℕ, ◌+◌, ◌≡◌, cond, true, List, [], ◌∷◌, ◌++◌, Option, Some, None, refl, sym, ap, ap₂, ◌∙◌, subst}
use Rattle.std.proofs.lemmas.List.Sums.{sum_by-cons}
use Rattle.std.specs.List.{AllByRecursion}
use Rattle.ssz_script.specs.declared.statement.Statement.{Statement}
use Rattle.ssz_script.specs.declared.statement.Statement.TheVariants.{Hashes}
use Rattle.ssz_machine.specs.declared.place.Place.{Place}
use Rattle.ssz_machine.specs.declared.place.Place.TheVariants.{Run, Weave}
use Rattle.ssz_machine.specs.State.{Name, State}
use Rattle.ssz_machine.specs.Rules.{Rules}
use Rattle.ssz_machine.specs.Machine.{Line, Turn, step, state_of, charge_of, reads_file}
use Rattle.ssz_machine.specs.Plays.{Event, says, adopts, adopted, charges, next_number, numbers_after, play}
use Rattle.ssz_engine.specs.Scripts.{file_named, file_reached, files_reached, name_before}

-- names of which more is so
pub all_names : (P Q : Name → Type 0) → ((name : Name) → P name → Q name) → (names : List Name)
    → AllByRecursion P names → AllByRecursion Q names
all_names P Q more [] all = tt
all_names P Q more (name ∷ names) all = (more name all.0, all_names P Q more names all.1)

-- of the names behind one that may be there
pub behind : (P : Name → Type 0) (o : Option Name) (names : List Name)
    → AllByRecursion P (name_before o names) → AllByRecursion P names
behind P None names all = all
behind P (Some name) names all = all.1

first_of_names : (P : Name → Type 0) (o : Option Name) (names : List Name) (name : Name)
    → o ≡ Some name → AllByRecursion P (name_before o names) → P name
first_of_names P None names name is all = absurd (no is)
  where
    no : None ≡ Some name → ⊥
    no e = cc
first_of_names P (Some other) names name is all = subst P (same is) all.0
  where
    same : Some other ≡ Some name → other ≡ name
    same e = cc

-- a file that a step reads is one of those that all read
pub reached_at : (P : Name → Type 0) (rules : Rules) (done : List Turn) (turn : Turn)
    (rest : List Turn) (name : Name) → reads_file rules turn ≡ true
    → file_named turn.line.1 ≡ Some name
    → AllByRecursion P (files_reached rules (done ++ turn ∷ rest)) → P name
reached_at P rules [] turn rest name reads is all =
    first_of_names P (file_reached rules turn) (files_reached rules rest) name
    (ap (λ b. cond b (file_named turn.line.1) None) reads ∙ is) all
reached_at P rules (first ∷ done) turn rest name reads is all =
    reached_at P rules done turn rest name reads is
    (behind P (file_reached rules first) (files_reached rules (done ++ turn ∷ rest)) all)

-- the state after a line, and its charge, do not depend on the number
record SameTurn (rules : Rules) (place : Place) (n m : ℕ) (s : State) (writer : ℕ) (line : Line)
    : Type 0 where
  state : state_of (step rules place n s writer line) ≡ state_of (step rules place m s writer line)
  charge : charge_of (step rules place n s writer line)
      ≡ charge_of (step rules place m s writer line)

same_turn : (rules : Rules) (place : Place) (n m : ℕ) (s : State) (writer number : ℕ)
    (statement : Option Statement) → SameTurn rules place n m s writer (number, statement)
same_turn rules place n m s writer number None = record { state = refl; charge = refl }
same_turn rules Run n m s writer number (Some Hashes) = record { state = refl; charge = refl }
same_turn rules Weave n m s writer number (Some Hashes) = record { state = refl; charge = refl }
same_turn rules place n m s writer number (Some statement) =
    record { state = refl; charge = refl }

module _ (rules : Rules) (place : Place) where
  -- whatever numbers are printed, the same files are read
  pub same_files : (events : List Event) (state : State) (numbers others : List ℕ)
      → files_reached rules (play rules place numbers state events)
      ≡ files_reached rules (play rules place others state events)
  same_files [] state numbers others = refl
  same_files (adopts writer ∷ events) state numbers others =
      same_files events (adopted writer state) numbers others
  same_files (says writer line ∷ events) state numbers others =
      let n = next_number numbers in
      let m = next_number others in
      let turn = step rules place n state writer line in
      let here = same_turn rules place n m state writer line.0 line.1 in
      let left = numbers_after place line.1 others in
      ap (λ names. name_before (file_reached rules turn) names)
      (same_files events (state_of turn) (numbers_after place line.1 numbers) left
      ∙ ap (λ s. files_reached rules (play rules place left s events)) here.state)

  -- and the charges are the same
  pub same_charges : (events : List Event) (state : State) (numbers others : List ℕ)
      → charges (play rules place numbers state events)
      ≡ charges (play rules place others state events)
  same_charges [] state numbers others = refl
  same_charges (adopts writer ∷ events) state numbers others =
      same_charges events (adopted writer state) numbers others
  same_charges (says writer line ∷ events) state numbers others =
      let n = next_number numbers in
      let m = next_number others in
      let turn = step rules place n state writer line in
      let here = same_turn rules place n m state writer line.0 line.1 in
      let left = numbers_after place line.1 others in
      sum_by-cons charge_of turn
      (play rules place (numbers_after place line.1 numbers) (state_of turn) events)
      ∙ ap₂ ◌+◌ here.charge
      (same_charges events (state_of turn) (numbers_after place line.1 numbers) left
      ∙ ap (λ s. charges (play rules place left s events)) here.state)
      ∙ sym (sum_by-cons charge_of (step rules place m state writer line)
      (play rules place left (state_of (step rules place m state writer line)) events))
