-- The lines of scripts and of weaves are lines.
use Rattle.std.proofs.Common.{ℕ, zero, suc, ◌+◌, List, [], ◌∷◌, ◌++◌, map, set, drop, get_or, refl}
use Rattle.std.specs.List.{AllByRecursion}
use Rattle.ssz_script.specs.Lines.{statements_in}
use Rattle.ssz_machine.specs.declared.place.Place.TheVariants.{Run, Weave}
use Rattle.ssz_machine.specs.State.{fresh}
use Rattle.ssz_machine.specs.Machine.{Line}
use Rattle.ssz_machine.specs.Plays.{Event, all_of, next_of, rest_from, woven, adoptions, weaving, base_writer}
use Rattle.ssz_machine.specs.OneLine.{AreNamed, IsNamedLine, IsNamedEvent, AllScriptsPrintLines}
use Rattle.ssz_machine.proofs.PrintedLines.{printed_lines_are_lines_lem}
use Rattle.ssz_machine.proofs.ScriptNames.{scripts_are_named_lem}

-- all lines name well
abbrev Named : List Line → Type 0
Named lines = AllByRecursion IsNamedLine lines

abbrev AllNamed : List (List Line) → Type 0
AllNamed scripts = AllByRecursion Named scripts

abbrev EventsNamed : List Event → Type 0
EventsNamed events = AllByRecursion IsNamedEvent events

append_named : (xs ys : List Event) → EventsNamed xs → EventsNamed ys → EventsNamed (xs ++ ys)
append_named [] ys first second = second
append_named (x ∷ xs) ys first second = (first.0, append_named xs ys first.1 second)

all_of_named : (writer : ℕ) (script : List Line) → Named script → EventsNamed (all_of writer script)
all_of_named writer [] all = tt
all_of_named writer (line ∷ script) all = (all.0, all_of_named writer script all.1)

next_of_named : (writer : ℕ) (script : List Line) → Named script
    → EventsNamed (next_of writer script)
next_of_named writer [] all = tt
next_of_named writer (line ∷ script) all = (all.0, tt)

drop_named : (script : List Line) → Named script → Named (drop 1 script)
drop_named [] all = tt
drop_named (line ∷ script) all = all.1

at_named : (scripts : List (List Line)) (i : ℕ) → AllNamed scripts → Named (get_or scripts i [])
at_named [] i all = tt
at_named (script ∷ scripts) zero all = all.0
at_named (script ∷ scripts) (suc i) all = at_named scripts i all.1

set_named : (scripts : List (List Line)) (i : ℕ) (new : List Line) → AllNamed scripts → Named new
    → AllNamed (set scripts i new)
set_named [] i new all is = tt
set_named (script ∷ scripts) zero new all is = (is, all.1)
set_named (script ∷ scripts) (suc i) new all is = (all.0, set_named scripts i new all.1 is)

rest_named : (writer : ℕ) (scripts : List (List Line)) → AllNamed scripts
    → EventsNamed (rest_from writer scripts)
rest_named writer [] all = tt
rest_named writer (script ∷ scripts) all =
    append_named (all_of writer script) (rest_from (writer + 1) scripts)
    (all_of_named writer script all.0) (rest_named (writer + 1) scripts all.1)

woven_named : (order : List ℕ) (scripts : List (List Line)) → AllNamed scripts
    → EventsNamed (woven order scripts)
woven_named [] scripts all = rest_named 0 scripts all
woven_named (writer ∷ order) scripts all =
    let script = get_or scripts writer [] in
    let here = at_named scripts writer all in
    append_named (next_of writer script) (woven order (set scripts writer (drop 1 script)))
    (next_of_named writer script here)
    (woven_named order (set scripts writer (drop 1 script))
    (set_named scripts writer (drop 1 script) all (drop_named script here)))

adoptions_named : (writer : ℕ) (scripts : List (List Line))
    → EventsNamed (adoptions writer scripts)
adoptions_named writer [] = tt
adoptions_named writer (script ∷ scripts) = (tt, adoptions_named (writer + 1) scripts)

scripts_named : (scripts : List (List ℕ)) → AllNamed (map statements_in scripts)
scripts_named [] = tt
scripts_named (script ∷ scripts) = (scripts_are_named_lem script, scripts_named scripts)

weaving_named : (base order : List ℕ) (scripts : List (List ℕ))
    → EventsNamed (weaving (statements_in base) order (map statements_in scripts))
weaving_named base order scripts =
    let lines = map statements_in scripts in
    append_named (all_of base_writer (statements_in base) ++ adoptions 0 lines) (woven order lines)
    (append_named (all_of base_writer (statements_in base)) (adoptions 0 lines)
    (all_of_named base_writer (statements_in base) (scripts_are_named_lem base))
    (adoptions_named 0 lines))
    (woven_named order lines (scripts_named scripts))

nothing_named : AreNamed []
nothing_named = record { names = refl }

pub all_scripts_print_lines_lem : AllScriptsPrintLines
all_scripts_print_lines_lem rules held = record {
  runs = λ numbers script.
      printed_lines_are_lines_lem rules Run numbers (fresh held) (all_of 0 (statements_in script))
      (λ writer. nothing_named)
      (all_of_named 0 (statements_in script) (scripts_are_named_lem script));
  weaves = λ base order scripts.
      printed_lines_are_lines_lem rules Weave [] (fresh held)
      (weaving (statements_in base) order (map statements_in scripts))
      (λ writer. nothing_named) (weaving_named base order scripts);
}
