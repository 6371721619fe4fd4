-- What `verify` says of each proof that scripts print.
use Rattle.std.proofs.Common.{ℕ, List, [], ◌∷◌, Option, sym, subst}
use Rattle.std.specs.Prelude.{IfOk}
use Rattle.std.specs.List.{AllByRecursion}
use Rattle.ssz_schema.specs.format.Format.{Format}
use Rattle.ssz_script.specs.declared.statement.Statement.{Statement}
use Rattle.ssz_value.specs.Trees.{hash_tree_root}
use Rattle.ssz_machine.specs.declared.place.Place.{Place}
use Rattle.ssz_machine.specs.State.{State, view_of}
use Rattle.ssz_machine.specs.Rules.{Rules}
use Rattle.ssz_machine.specs.Machine.{Line, row_said, step, state_of}
use Rattle.ssz_machine.specs.Plays.{Event, says, adopts, adopted, next_number, numbers_after, play}
use Rattle.ssz_machine.specs.Proofs.{MakesChunks}
use Rattle.ssz_machine.specs.Sound.{IsSoundState}
use Rattle.ssz_machine.proofs.KeptValues.{scripts_keep_values_lem}
use Rattle.ssz_machine.proofs.Soundness.{sound_found}
use Rattle.ssz_tool.specs.PrintedProofs.{IsValidFor, ProvesValidly, ScriptsPrintValidProofs}
use Rattle.ssz_tool.proofs.PrintedProofs.{printed_proofs_are_valid_lem}

module _ (rules : Rules) (format : Format) (place : Place) (makes : MakesChunks rules.pair_of) where
  -- one step, of a writer whose versions are values of legal types
  here : (number : ℕ) (s : State) (writer : ℕ) (line : Line) → IsSoundState format s
      → ProvesValidly rules.pair_of (step rules place number s writer line)
  here number s writer line sound v indices version is some fine found =
      subst (λ (o : Option Statement). IfOk (row_said rules place number (view_of writer s) o)
      (λ effect. IsValidFor rules.pair_of
      (hash_tree_root rules.pair_of version.type version.value) effect.reply)) (sym is)
      (printed_proofs_are_valid_lem rules format (s.versions writer) v indices version makes some
      fine found (sound_found format v (s.versions writer) version (sound writer) found))

  each : (numbers : List ℕ) (s : State) (events : List Event)
      → AllByRecursion (λ turn. IsSoundState format turn.before)
      (play rules place numbers s events)
      → AllByRecursion (ProvesValidly rules.pair_of) (play rules place numbers s events)
  each numbers s [] kept = tt
  each numbers s (adopts writer ∷ events) kept = each numbers (adopted writer s) events kept
  each numbers s (says writer line ∷ events) kept = (
    here (next_number numbers) s writer line kept.0,
    each (numbers_after place line.1 numbers)
        (state_of (step rules place (next_number numbers) s writer line)) events kept.1,
  )

pub scripts_print_valid_proofs_lem : ScriptsPrintValidProofs
scripts_print_valid_proofs_lem rules format place numbers state events makes legal sound brings =
    each rules format place makes numbers state events
    (scripts_keep_values_lem rules format place numbers state events legal sound brings)
