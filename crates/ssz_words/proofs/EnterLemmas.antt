-- Words that begin with the name of a command are those of the command.
use Rattle.std.proofs.Common.{◌≡◌, false, true, List, [], ◌∷◌, ◌++◌, Some, refl, sym, ap, ◌∙◌}
use Rattle.std.proofs.Common.{append-nil, append_assoc}
use Rattle.std.specs.Prelude.{find, fold, is_some}
use Rattle.clap.specs.Faults.{check_fault, defaults_fault, entered_fault, fault_of, level_fault}
use Rattle.clap.specs.Faults.{settle_fault, turn_fault, walk_fault}
use Rattle.clap.specs.Kinds.{Kinds, or_else}
use Rattle.clap.specs.Simple.{Shape, entered, label_of, names_of, subcommand_of}
use Rattle.clap.specs.Walk.{answers_to, Names, Rule, Text, Walk, finished, nothing_held, rows_after}
use Rattle.clap.specs.Walk.{settled, walk, walk_from, walked}
use Rattle.ssz_words.specs.CommandSet.{program}
use Rattle.ssz_words.specs.Words.{command_of, named_args}
use Rattle.ssz_words.proofs.TakenLemmas.{built_program, found_is}

-- a walk that has met a subcommand keeps the words after it
after_stop : (c : List Rule) (ns : Names) (w : Walk) (n : Text) (xs rest : List Text)
    → fold (walked c ns) (record w { stopped = Some (n, xs) }) rest
    ≡ record w { stopped = Some (n, xs ++ rest) }
unfolding walked
after_stop c ns w n xs [] =
    ap (λ (ys : List Text). record w { stopped = Some (n, ys) }) (sym (append-nil xs))
after_stop c ns w n xs (y ∷ rest) = after_stop c ns w n (xs ++ y ∷ []) rest
    ∙ ap (λ (ys : List Text). record w { stopped = Some (n, ys) }) (append_assoc xs (y ∷ []) rest)

-- and has no fault of its own
no_fault_after_stop : (s : Shape) (ns : Names) (w : Walk) (p : Text × List Text)
    (rest : List Text) → walk_fault s ns (record w { stopped = Some p }) rest ≡ []
unfolding walk_fault walked
no_fault_after_stop s ns w p [] = refl
no_fault_after_stop s ns w p (y ∷ rest) =
    no_fault_after_stop s ns w (p.0, p.1 ++ y ∷ []) rest

abbrev names : Names
names = names_of built_program

-- where the walk is after the name of a command and these words
abbrev at_command : Text → List Text → Walk
at_command n rest = record (walk_from nothing_held) { stopped = Some (n, rest) }

-- the command is one of the program's, which its name enters
pub record IsEntered (s : Shape) : Type 0 where
  pub met : walked [] names (walk_from nothing_held) s.name ≡ at_command s.name []
  pub none : turn_fault built_program.top names (walk_from nothing_held) s.name ≡ []
  pub found : find (λ t. answers_to s.name (label_of t)) built_program.subs ≡ Some s

-- the faults of the program, by the walk over its words
abbrev faults_by : List Text → Walk → Kinds
faults_by words w = or_else
    (walk_fault built_program.top names (walk_from nothing_held) words)
    (or_else (entered_fault built_program w.stopped) (or_else (settle_fault [] false w.held)
    (or_else (defaults_fault (settled [] w.held).rows [])
    (check_fault built_program.top (finished [] w.held)
    (is_some (entered built_program w.stopped))))))

faults_are : (p : Text) (words : List Text)
    → fault_of program (p ∷ words) ≡ faults_by words (walk [] names nothing_held words)
unfolding program
faults_are p words = refl

entered_is : (p : Text) (words : List Text) → subcommand_of program (p ∷ words)
    ≡ entered built_program (walk [] names nothing_held words).stopped
unfolding program
entered_is p words = refl

-- where its words have no fault, the command asks for what it finds in them
pub enter : (s : Shape) → IsEntered s → (p : Text) (rest : List Text)
    → level_fault s [] nothing_held rest false [] ≡ []
    → command_of (p ∷ s.name ∷ rest) ≡ named_args s.name (rows_after s.rules [] rest)
unfolding walk_fault defaults_fault
enter s is p rest none =
    let goes : walk [] names nothing_held (s.name ∷ rest) ≡ at_command s.name rest =
    ap (λ w. fold (walked [] names) w rest) is.met
    ∙ after_stop [] names (walk_from nothing_held) s.name [] rest in
    let walks : walk_fault built_program.top names (walk_from nothing_held) (s.name ∷ rest) ≡ [] =
    rw is.none (rw is.met (no_fault_after_stop built_program.top names (walk_from nothing_held)
    (s.name, []) rest)) in
    let below : entered_fault built_program (Some (s.name, rest)) ≡ [] = rw is.found none in
    let met : is_some (entered built_program (Some (s.name, rest))) ≡ true = rw is.found refl in
    let faultless : fault_of program (p ∷ s.name ∷ rest) ≡ [] =
    faults_are p (s.name ∷ rest) ∙ ap (faults_by (s.name ∷ rest)) goes
    ∙ rw (walks, below, met) refl in
    let enters : subcommand_of program (p ∷ s.name ∷ rest)
    ≡ Some (s.name, rows_after s.rules [] rest) =
    entered_is p (s.name ∷ rest) ∙ ap (λ (w : Walk). entered built_program w.stopped) goes
    ∙ rw is.found refl in
    found_is (p ∷ s.name ∷ rest) (s.name, rows_after s.rules [] rest) faultless enters
