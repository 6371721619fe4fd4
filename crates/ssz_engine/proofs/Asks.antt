-- What the files are asked for by steps, one behind another.
use Rattle.std.proofs.Common.{ℕ, zero, suc, ◌+◌, ◌≤◌, ◌≡◌, ◌⊎◌, inl, inr, cond, Bool, true, false, List, [], ◌∷◌, ◌++◌, length, take, Option, Some, None, refl, sym, ap, ◌∙◌, subst, arith, append_assoc}
use Rattle.std.proofs.Math.Seq.{take-append-add, take-append_seam}
use Rattle.std.proofs.lemmas.List.{append-nil}
use Rattle.ssz_outside.specs.Asked.{Ask, Asks, AsksOf, asks_append}
use Rattle.ssz_outside.proofs.Asking.{asks-cut, asks-none_yet, asks-nothing, asks_append-none, asks_append-twice}
use Rattle.ssz_proof.specs.Calculation.{PairOf}
use Rattle.ssz_script.specs.declared.statement.Statement.{Statement}
use Rattle.ssz_script.specs.declared.statement.Statement.TheVariants.{Load, LoadJson}
use Rattle.ssz_machine.specs.declared.place.Place.{Place}
use Rattle.ssz_machine.specs.State.{Name, State}
use Rattle.ssz_machine.specs.Rules.{Rules}
use Rattle.ssz_machine.specs.Machine.{Turn, can_load, step}
use Rattle.ssz_decisions.specs.Content.{EngineContent, rules_of}
use Rattle.ssz_decisions.specs.Loading.{asks_where}
use Rattle.ssz_decisions.specs.Standing.{StandsFor}
use Rattle.ssz_engine.specs.Scripts.{AsksSteps, asks_for, asks_of_turn, asks_of_turns, file_named, file_reached, name_before}
use Rattle.ssz_engine.specs.Steps.{AsksStatement}

pub asks_of_turns-append : (rules : Rules) (done more : List Turn)
    → asks_of_turns rules (done ++ more) ≡ asks_of_turns rules done ++ asks_of_turns rules more
asks_of_turns-append rules [] more = refl
asks_of_turns-append rules (turn ∷ done) more =
    ap (λ (l : List Ask). asks_of_turn rules turn ++ l) (asks_of_turns-append rules done more)
    ∙ sym (append_assoc (asks_of_turn rules turn) (asks_of_turns rules done)
    (asks_of_turns rules more))

-- the files were asked for the file of the first of these steps, or for nothing
abbrev pub AsksNext : Rules → List Turn → Asks → Asks → Type 0
AsksNext rules next old new =
    (n : ℕ) × (n ≤ 1) × (new ≡ asks_append old (asks_of_turns rules (take n next)))

pub asks_still : (rules : Rules) (next : List Turn) (told : Asks) → AsksNext rules next told told
asks_still rules next told = (0, omega arith, sym (asks_append-none told))

take-nil : (n : ℕ) → take {A = Ask} n [] ≡ []
take-nil zero = refl
take-nil (suc n) = refl

-- the file that a step reads was asked for, or not
one_or_none : (rules : Rules) (file : Option Name) (old new : Asks)
    → AsksOf true (asks_for rules file) old new
    → (new ≡ old) ⊎ (new ≡ asks_append old (asks_for rules file))
one_or_none rules None old new (n, asks) =
    inl (asks ∙ ap (λ (l : List Ask). asks_append old l) (take-nil n) ∙ asks_append-none old)
one_or_none rules (Some name) old new (zero, asks) = inl (asks ∙ asks_append-none old)
one_or_none rules (Some name) old new (suc n, asks) =
    inr (asks ∙ ap (λ (l : List Ask). asks_append old ((name, rules.max_bytes) ∷ l)) (take-nil n))

pub asks_next : (rules : Rules) (turn : Turn) (more : List Turn) (old new : Asks)
    → AsksOf true (asks_of_turn rules turn) old new → AsksNext rules (turn ∷ more) old new
asks_next rules turn more old new asks =
    by (one_or_none rules (file_reached rules turn) old new asks)
  where
    by : ((new ≡ old) ⊎ (new ≡ asks_append old (asks_of_turn rules turn)))
        → AsksNext rules (turn ∷ more) old new
    by (inl same) = (0, omega arith, same ∙ sym (asks_append-none old))
    by (inr one) = (
      1,
      omega arith,
      one ∙ ap (λ (l : List Ask). asks_append old l) (sym (append-nil (asks_of_turn rules turn))),
    )

-- some steps were done, and the file of the next was asked for, or not
pub asks_at : (rules : Rules) (turns done next : List Turn) (least most : ℕ)
    (first mid last : Asks) → turns ≡ done ++ next → least ≡ length done → most ≡ length done + 1
    → mid ≡ asks_append first (asks_of_turns rules done) → AsksNext rules next mid last
    → AsksSteps rules turns least most first last
asks_at rules turns done next least most first mid last all are more so_far (n, few, then) = (
  length done + n,
  omega (arith, are),
  omega (arith, more, few),
  then
      ∙ ap (λ (a : Asks). asks_append a (asks_of_turns rules (take n next))) so_far
      ∙ asks_append-twice first (asks_of_turns rules done) (asks_of_turns rules (take n next))
      ∙ ap (λ (l : List Ask). asks_append first l)
      (sym (asks_of_turns-append rules done (take n next))
      ∙ ap (asks_of_turns rules)
      (sym (ap (take (length done + n)) all ∙ take-append-add done next n))),
)

-- all steps were done that were begun
pub asks_done : (rules : Rules) (turns done next : List Turn) (least most : ℕ)
    (first last : Asks) → turns ≡ done ++ next → least ≡ length done → most ≡ length done
    → last ≡ asks_append first (asks_of_turns rules done)
    → AsksSteps rules turns least most first last
asks_done rules turns done next least most first last all are more asked = (
  length done,
  omega (arith, are),
  omega (arith, more),
  asked ∙ ap (λ (steps : List Turn). asks_append first (asks_of_turns rules steps))
      (sym (ap (take (length done)) all ∙ take-append_seam done next)),
)

-- one step more was done
pub asks_on : (rules : Rules) (done : List Turn) (turn : Turn) (first mid last : Asks)
    → mid ≡ asks_append first (asks_of_turns rules done)
    → AsksOf false (asks_of_turn rules turn) mid last
    → last ≡ asks_append first (asks_of_turns rules (done ++ turn ∷ []))
asks_on rules done turn first mid last so_far asks =
    asks ∙ ap (λ (a : Asks). asks_append a (asks_of_turn rules turn)) so_far
    ∙ asks_append-twice first (asks_of_turns rules done) (asks_of_turn rules turn)
    ∙ ap (λ (l : List Ask). asks_append first l)
    (ap (λ (l : List Ask). asks_of_turns rules done ++ l)
    (sym (append-nil (asks_of_turn rules turn)))
    ∙ sym (asks_of_turns-append rules done (turn ∷ [])))

-- the same steps, and the same numbers of them
pub asks_as : (rules : Rules) (turns others : List Turn) (least most low high : ℕ)
    (first last : Asks) → turns ≡ others → low ≡ least → high ≡ most
    → AsksSteps rules turns least most first last → AsksSteps rules others low high first last
asks_as rules turns others least most low high first last same one other asks = (
  asks.0,
  (let below = asks.1 in omega (arith, one, below)),
  (let above = asks.2 in omega (arith, other, above)),
  asks.3 ∙ ap (λ (steps : List Turn). asks_append first (asks_of_turns rules (take asks.0 steps)))
      same,
)

asked-where : (rules : Rules) (b : Bool) (file : Name)
    → asks_where b (file, rules.max_bytes) ≡ asks_for rules (cond b (Some file) None)
asked-where rules true file = refl
asked-where rules false file = refl

module _ (pair_of : PairOf) (engine : EngineContent) (place : Place) (number writer line : ℕ)
    (cut : Bool) (old new : Asks) where
  -- what a statement asks for is what its step asks for
  pub statement_asks : (statement : Statement)
      → AsksStatement pair_of engine writer statement cut old new
      → (state : State) → StandsFor engine state.versions
      → AsksOf cut (asks_of_turn (rules_of pair_of engine)
      (step (rules_of pair_of engine) place number state writer (line, Some statement))) old new
  statement_asks (Load v t file) asks state stands =
      let rules = rules_of pair_of engine in
      subst (λ (l : List Ask). AsksOf cut l old new)
      (asked-where rules (can_load rules (state.versions writer) v t) file)
      (asks (state.versions writer) (stands.each writer))
  statement_asks (LoadJson v t file) asks state stands =
      let rules = rules_of pair_of engine in
      subst (λ (l : List Ask). AsksOf cut l old new)
      (asked-where rules (can_load rules (state.versions writer) v t) file)
      (asks (state.versions writer) (stands.each writer))
  statement_asks other same state stands =
      subst (λ (a : Asks). AsksOf cut [] old a) (sym same) (asks-nothing cut old)

  -- where no file is named they are asked for nothing
  pub statement_asks_none : (statement : Statement)
      → AsksStatement pair_of engine writer statement cut old new
      → name_before (file_named (Some statement)) [] ≡ [] → new ≡ old
  statement_asks_none (Load v t file) asks none = let no : file ∷ [] ≡ [] = none in cc
  statement_asks_none (LoadJson v t file) asks none = let no : file ∷ [] ≡ [] = none in cc
  statement_asks_none other same none = same

-- a line that is no statement asks for nothing
pub line_asks_none : (pair_of : PairOf) (engine : EngineContent) (place : Place)
    (number writer line : ℕ) (cut : Bool) (told : Asks) (statement : Option Statement)
    → ((s : Statement) → statement ≡ Some s → ⊥) → (state : State)
    → AsksOf cut (asks_of_turn (rules_of pair_of engine)
    (step (rules_of pair_of engine) place number state writer (line, statement))) told told
line_asks_none pair_of engine place number writer line cut told None none state =
    asks-nothing cut told
line_asks_none pair_of engine place number writer line cut told (Some s) none state =
    absurd (none s refl)

-- nothing was asked for, and the statement was cut short
pub asks_not_yet : (pair_of : PairOf) (engine : EngineContent) (writer : ℕ) (statement : Statement)
    (told : Asks) → AsksStatement pair_of engine writer statement true told told
asks_not_yet pair_of engine writer (Load v t file) told = λ versions stands. asks-none_yet _ told
asks_not_yet pair_of engine writer (LoadJson v t file) told = λ versions stands.
    asks-none_yet _ told
asks_not_yet pair_of engine writer other told = refl

-- a statement that reads no file asks for none
pub asks_alone : (pair_of : PairOf) (engine : EngineContent) (writer : ℕ) (statement : Statement)
    (cut : Bool) (told : Asks)
    → ((v t file : Name) → statement ≡ Load v t file → ⊥)
    → ((v t file : Name) → statement ≡ LoadJson v t file → ⊥)
    → AsksStatement pair_of engine writer statement cut told told
asks_alone pair_of engine writer (Load v t file) cut told no_load no_json =
    absurd (no_load v t file refl)
asks_alone pair_of engine writer (LoadJson v t file) cut told no_load no_json =
    absurd (no_json v t file refl)
asks_alone pair_of engine writer other cut told no_load no_json = refl

-- what a statement came to was carried out, and the files were asked for nothing more
pub asks_carried : (pair_of : PairOf) (engine : EngineContent) (writer : ℕ)
    (statement : Statement) (cut : Bool) (old mid new : Asks)
    → AsksStatement pair_of engine writer statement false old mid → new ≡ mid
    → AsksStatement pair_of engine writer statement cut old new
asks_carried pair_of engine writer (Load v t file) cut old mid new asks same =
    λ versions stands. asks-cut cut _ old new (same ∙ asks versions stands)
asks_carried pair_of engine writer (LoadJson v t file) cut old mid new asks same =
    λ versions stands. asks-cut cut _ old new (same ∙ asks versions stands)
asks_carried pair_of engine writer other cut old mid new asks same = same ∙ asks
