-- Words are taken exactly where they have no fault and the command keeps its rules.
use Rattle.std.proofs.Common.{◌≡◌, ◌&&◌, Bool, true, false, List, [], ◌∷◌, Option, Some, None, refl}
use Rattle.std.specs.Prelude.{IfOk, Err, Ok, Result, IsSome, find, is_some, not, option_map}
use Rattle.std.specs.List.{AllByRecursion, list_any}
use Rattle.std.specs.Option.{option_map_or}
use Rattle.clap.specs.Facts.{explicit_source}
use Rattle.clap.specs.Takes.{is_given}
use Rattle.clap.specs.Faults.{check_fault, defaults_fault, entered_fault, fault_of, level_fault}
use Rattle.clap.specs.Faults.{settle_fault, walk_fault}
use Rattle.clap.specs.Kinds.{Kinds, check_kinds}
use Rattle.clap.specs.Simple.{App, Shape, argument_words, built, entered, label_of, names_of}
use Rattle.clap.specs.Simple.{rows_at, subcommand_of}
use Rattle.clap.specs.Walk.{Row, Text, answers_to, finished, nothing_held, settled, stop_after}
use Rattle.clap.specs.Walk.{walk, walk_from}
use Rattle.ssz_words.specs.CommandSet.{commands, program, program_shape}
use Rattle.ssz_words.specs.Laws.{TakesExactly}
use Rattle.ssz_words.specs.Limits.{CommandIsWithinLimits}
use Rattle.ssz_words.specs.Reading.{ReadsWords}
use Rattle.ssz_words.specs.declared.faults.WordsFault.{WordsFault}
use Rattle.ssz_words.specs.Words.{command_of, named_args}
use Rattle.ssz_words.specs.declared.commands.Command.{Command}
use Rattle.ssz_words.proofs.CommandLemmas.{Answers, HasAnswer, root_answers, run_answers}
use Rattle.ssz_words.proofs.CommandLemmas.{verify_answers, weave_answers, work_answers}
use Rattle.ssz_words.proofs.CommandLemmas.{part_answers, partial_answers, clash_answers}
use Rattle.ssz_words.proofs.FoundLemmas.{found_with_fault, found_without_fault}
use Rattle.ssz_words.proofs.ReadRows.{find_in, or_else-both}

-- the program as `clap` builds it
abbrev pub built_program : App
built_program = built (record { top = program_shape; subs = commands })

all_answer : AllByRecursion Answers built_program.subs
all_answer = (
  root_answers,
  (
    run_answers,
    (
      weave_answers,
      (verify_answers, (work_answers, (part_answers, (partial_answers, (clash_answers, tt))))),
    ),
  ),
)

-- the command that a parse enters has an answer
abbrev Entered : Option (Text × List Row) → Type 0
Entered found = (p : Text × List Row) × (found ≡ Some p) × HasAnswer p.0 p.1

enters : (stop : Option (Text × List Text)) → entered_fault built_program stop ≡ []
    → is_some (entered built_program stop) ≡ true → Entered (entered built_program stop)
enters None none some = cc
enters (Some p) none some = go (find (λ s. answers_to p.0 (label_of s)) built_program.subs) refl
    none some
  where
    go : (o : Option Shape) → find (λ s. answers_to p.0 (label_of s)) built_program.subs ≡ o
        → option_map_or (λ s. level_fault s [] nothing_held p.1 false []) o [] ≡ []
        → is_some (option_map (λ s. rows_at s p.1) o) ≡ true
        → Entered (option_map (λ s. rows_at s p.1) o)
    go None found n e = cc
    go (Some s) found n e =
        let answers = find_in Answers (λ t. answers_to p.0 (label_of t)) built_program.subs s
        all_answer found in
        (rows_at s p.1, refl, answers p.1 n)

second : (x y z : Bool) → check_kinds x y z ≡ [] → y ≡ false
second true y z e = cc
second false true z e = cc
second false false z e = refl

-- a command that wants a subcommand, and has no fault, has met one
subcommand_met : (s : Shape) (rows : List Row) (has : Bool) → s.subcommand_required ≡ true
    → check_fault s rows has ≡ [] → has ≡ true
subcommand_met s rows true wants none = refl
subcommand_met s rows false wants none =
    let not_wanted : s.subcommand_required ≡ false = second
    (s.arg_required_else_help && not (list_any (λ r. explicit_source r.source) rows))
    s.subcommand_required (not (s.subcommand_negates_reqs && false)
    && list_any (λ a. a.required && not (is_given a.id rows)) s.rules) none in
    cc

-- words with no fault enter a command
pub answered : (words : List Text) → fault_of program words ≡ []
    → Entered (subcommand_of program words)
unfolding program
answered words none =
    let top = built_program.top in
    let names = names_of built_program in
    let given = argument_words program words in
    let stop = stop_after top.rules names given in
    let end = (walk top.rules names nothing_held given).held in
    let walked = or_else-both (walk_fault top names (walk_from nothing_held) given) _ none in
    let below = or_else-both (entered_fault built_program stop) _ walked.1 in
    let settles = or_else-both (settle_fault top.rules top.args_override_self end) _ below.1 in
    let defaults = or_else-both (defaults_fault (settled top.rules end).rows top.rules) _
    settles.1 in
    enters stop below.0 (subcommand_met top (finished top.rules end)
    (is_some (entered built_program stop)) refl defaults.1)

-- ---- what is found in the words

no_fault : (words : List Text) → IsSome (command_of words) → fault_of program words ≡ []
unfolding command_of
no_fault words some = go (fault_of program words) refl
  where
    go : (kinds : Kinds) → fault_of program words ≡ kinds → kinds ≡ []
    go [] is = refl
    go (k ∷ ks) is =
        let none = found_with_fault words (λ e. cc) in
        let bad = rw none at some in
        cc

pub found_is : (words : List Text) (p : Text × List Row) → fault_of program words ≡ []
    → subcommand_of program words ≡ Some p → command_of words ≡ named_args p.0 p.1
unfolding command_of
found_is words p none is = rw (found_without_fault words none, is) refl

pub takes_exactly : TakesExactly
takes_exactly words = (
  λ some.
      let none = no_fault words some in
      let entered = answered words none in
      let asks = found_is words entered.0 none entered.1 in
      (none, rw entered.1 (entered.2.exact.0 (rw asks at some))),
  λ taken.
      let entered = answered words taken.0 in
      let asks = found_is words entered.0 taken.0 entered.1 in
      rw asks (entered.2.exact.1 (rw entered.1 at taken.1)),
)

-- what is taken is within its limits
within_limits : (words : List Text) (command : Command) → command_of words ≡ Some command
    → CommandIsWithinLimits command
within_limits words command is =
    let none = no_fault words (rw is refl) in
    let entered = answered words none in
    let asks = found_is words entered.0 none entered.1 in
    let same : named_args entered.0.0 entered.0.1 ≡ Some command = cc in
    rw same at entered.2.limits

pub reads_within : (words : List Text) (result : Result Command WordsFault)
    → ReadsWords result (command_of words) → IfOk result CommandIsWithinLimits
reads_within words (Ok command) is = within_limits words command is
reads_within words (Err fault) is = tt
