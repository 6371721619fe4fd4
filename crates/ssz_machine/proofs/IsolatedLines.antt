-- The lines that a weave prints for one writer.
use Rattle.std.proofs.Common.{ℕ, zero, suc, ◌+◌, ◌<◌, ◌≤◌, ◌≡◌, ◌==◌, true, false, cond, List, [], ◌∷◌, ◌++◌, length, set, drop, take, get_or, map, filter, refl, sym, ap, ◌∙◌, arith}
use Rattle.std.specs.List.{AllByRecursion}
use Rattle.std.proofs.lemmas.Bool.{eqb-true}
use Rattle.std.proofs.lemmas.List.{take-map}
use Rattle.ssz_script.specs.Texts.{reply_line}
use Rattle.ssz_script.specs.declared.reply.Reply.{Reply}
use Rattle.ssz_machine.specs.declared.place.Place.TheVariants.{Weave}
use Rattle.ssz_machine.specs.State.{State}
use Rattle.ssz_machine.specs.Rules.{Rules}
use Rattle.ssz_machine.specs.Machine.{Line, Turn, reply_of, state_of, step}
use Rattle.ssz_machine.specs.Plays.{Event, says, adopts, adopted, adoptions, all_of, base_writer, mark, next_number, next_of, numbers_after, own, play, replies, replies_to, rest_from, shown, shown_all, state_after, weaving, woven}
use Rattle.ssz_machine.specs.Isolation.{LinesAreIsolated, alone_from, lines_alone, marked}
use Rattle.ssz_machine.proofs.BrokenOff.{writers_are_isolated_so_far_lem}
use Rattle.ssz_machine.proofs.Marks.{marks_tell}
use Rattle.ssz_machine.proofs.OwnLines.{own_script}
use Rattle.ssz_machine.proofs.WholeWeave.{writers_are_isolated_lem}

-- the writers of lines are the base's and those of at most 255 scripts

abbrev IsKnown : Event → Type 0
IsKnown (says writer line) = writer ≤ base_writer
IsKnown (adopts writer) = Unit {0}

abbrev AreKnown : List Event → Type 0
AreKnown events = AllByRecursion IsKnown events

known-append : (a b : List Event) → AreKnown a → AreKnown b → AreKnown (a ++ b)
known-append [] b first then = then
known-append (event ∷ a) b first then = (first.0, known-append a b first.1 then)

known_all : (writer : ℕ) (script : List Line) → writer ≤ base_writer
    → AreKnown (all_of writer script)
known_all writer [] few = tt
known_all writer (line ∷ script) few = (few, known_all writer script few)

known_adoptions : (writer : ℕ) (scripts : List (List Line)) → AreKnown (adoptions writer scripts)
known_adoptions writer [] = tt
known_adoptions writer (script ∷ scripts) = (tt, known_adoptions (writer + 1) scripts)

known_rest : (writer : ℕ) (scripts : List (List Line)) → writer + length scripts ≤ base_writer
    → AreKnown (rest_from writer scripts)
known_rest writer [] few = tt
known_rest writer (script ∷ scripts) few =
    known-append (all_of writer script) (rest_from (writer + 1) scripts)
    (known_all writer script (omega arith)) (known_rest (writer + 1) scripts (omega arith))

-- where a writer has a line, it has a script
known_next : (writer i k : ℕ) (scripts : List (List Line)) → writer ≡ k + i
    → k + length scripts ≤ base_writer → AreKnown (next_of writer (get_or scripts i []))
known_next writer i k [] is few = tt
known_next writer zero k ([] ∷ scripts) is few = tt
known_next writer zero k ((line ∷ script) ∷ scripts) is few = (omega arith, tt)
known_next writer (suc i) k (script ∷ scripts) is few =
    known_next writer i (k + 1) scripts (omega arith) (omega arith)

length-set_script : (scripts : List (List Line)) (i : ℕ) (script : List Line)
    → length (set scripts i script) ≡ length scripts
length-set_script [] i script = refl
length-set_script (first ∷ scripts) zero script = refl
length-set_script (first ∷ scripts) (suc i) script = ap suc (length-set_script scripts i script)

known_woven : (order : List ℕ) (scripts : List (List Line)) → length scripts ≤ base_writer
    → AreKnown (woven order scripts)
known_woven [] scripts few = known_rest 0 scripts (omega arith)
known_woven (writer ∷ order) scripts few =
    let script = get_or scripts writer [] in
    let left = set scripts writer (drop 1 script) in
    let count = length-set_script scripts writer (drop 1 script) in
    known-append (next_of writer script) (woven order left)
    (known_next writer writer 0 scripts (omega arith) (omega arith))
    (known_woven order left (omega arith))

known_weaving : (base : List Line) (order : List ℕ) (scripts : List (List Line))
    → length scripts ≤ base_writer → AreKnown (weaving base order scripts)
known_weaving base order scripts few =
    known-append (all_of base_writer base ++ adoptions 0 scripts) (woven order scripts)
    (known-append (all_of base_writer base) (adoptions 0 scripts)
    (known_all base_writer base (omega arith)) (known_adoptions 0 scripts))
    (known_woven order scripts few)

-- the steps of such events

abbrev HasKnown : Turn → Type 0
HasKnown turn = turn.writer ≤ base_writer

known_turns : (rules : Rules) (numbers : List ℕ) (state : State) (events : List Event)
    → AreKnown events → AllByRecursion HasKnown (play rules Weave numbers state events)
known_turns rules numbers state [] known = tt
known_turns rules numbers state (adopts writer ∷ events) known =
    known_turns rules numbers (adopted writer state) events known.1
known_turns rules numbers state (says writer line ∷ events) known = (
  known.0,
  known_turns rules (numbers_after Weave line.1 numbers)
      (state_of (step rules Weave (next_number numbers) state writer line)) events known.1,
)

known-take : (k : ℕ) (turns : List Turn) → AllByRecursion HasKnown turns
    → AllByRecursion HasKnown (take k turns)
known-take zero turns known = tt
known-take (suc k) [] known = tt
known-take (suc k) (turn ∷ turns) known = (known.0, known-take k turns known.1)

-- the line of a reply to a writer
abbrev line_to : ℕ → Reply → List ℕ
line_to writer reply = mark writer ++ reply_line reply

-- the lines with a writer's mark are those of the replies to it
marked_lines : (writer : ℕ) (turns : List Turn) → writer ≤ base_writer
    → AllByRecursion HasKnown turns
    → marked writer (shown_all Weave turns) ≡ map (line_to writer) (replies_to writer turns)
marked_lines writer [] few known = refl
marked_lines writer (turn ∷ turns) few known =
    let rest = marked_lines writer turns few known.1 in
    let tells = marks_tell turn.writer writer (reply_line (reply_of turn)) known.0 few in
    rw tells (elim (writer == turn.writer) as (λ b. (writer == turn.writer) ≡ b
    → cond b (shown Weave turn ∷ marked writer (shown_all Weave turns))
    (marked writer (shown_all Weave turns))
    ≡ map (line_to writer) (map reply_of (cond b
    (turn ∷ filter (λ t. writer == t.writer) turns) (filter (λ t. writer == t.writer) turns)))) [
      | true ↦ λ is.
          ap (λ lines. shown Weave turn ∷ lines) rest
          ∙ ap (λ who. line_to who (reply_of turn)
          ∷ map (line_to writer) (replies_to writer turns)) (sym (eqb-true writer turn.writer is))
      | false ↦ λ apart. rest
    ] refl)

-- the lines of one script
shown_script : (rules : Rules) (numbers : List ℕ) (state : State) (writer : ℕ)
    (script : List Line)
    → shown_all Weave (play rules Weave numbers state (all_of writer script))
    ≡ map (line_to writer) (replies (play rules Weave numbers state (all_of writer script)))
shown_script rules numbers state writer [] = refl
shown_script rules numbers state writer (line ∷ script) =
    let turn = step rules Weave (next_number numbers) state writer line in
    ap (λ lines. shown Weave turn ∷ lines)
    (shown_script rules (numbers_after Weave line.1 numbers) (state_of turn) writer script)

module _ (rules : Rules) (state : State) (base : List Line) (order : List ℕ)
    (scripts : List (List Line)) (writer : ℕ) (few : length scripts ≤ base_writer)
    (known : writer < length scripts) where
  abbrev turns : List Turn
  turns = play rules Weave [] state (weaving base order scripts)

  abbrev alone : State
  alone = alone_from writer (state_after rules Weave [] state (all_of base_writer base))

  lines : map (line_to writer)
      (replies (play rules Weave [] alone (own writer (woven order scripts))))
      ≡ lines_alone rules state base scripts writer
  lines =
      ap (λ (events : List Event). map (line_to writer)
      (replies (play rules Weave [] alone events))) (own_script writer order scripts)
      ∙ sym (shown_script rules [] alone writer (get_or scripts writer []))

  all_known : AllByRecursion HasKnown turns
  all_known = known_turns rules [] state (weaving base order scripts)
      (known_weaving base order scripts few)

  whole : marked writer (shown_all Weave turns) ≡ lines_alone rules state base scripts writer
  whole =
      marked_lines writer turns (omega arith) all_known
      ∙ ap (map (line_to writer)) (writers_are_isolated_lem rules [] state base order scripts writer
      known (omega arith))
      ∙ lines

  so_far : (k : ℕ) → (j : ℕ) × (marked writer (shown_all Weave (take k turns))
      ≡ take j (lines_alone rules state base scripts writer))
  so_far k =
      let front = writers_are_isolated_so_far_lem rules [] state base order scripts writer k known
      (omega arith) in (
        front.0,
        marked_lines writer (take k turns) (omega arith) (known-take k turns all_known)
            ∙ ap (map (line_to writer)) front.1
            ∙ sym (take-map (line_to writer) front.0
            (replies (play rules Weave [] alone (own writer (woven order scripts)))))
            ∙ ap (take front.0) lines,
      )

pub lines_are_isolated_lem : LinesAreIsolated
lines_are_isolated_lem rules state base order scripts writer few known = record {
  whole = whole rules state base order scripts writer few known;
  so_far = so_far rules state base order scripts writer few known;
}
