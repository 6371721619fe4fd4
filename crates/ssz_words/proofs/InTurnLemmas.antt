-- A command that gets its arguments in turn.
use Rattle.std.proofs.Common.{◌≡◌, ◌||◌, false, List, [], ◌∷◌, ◌++◌, map, sym, ap, ap₂, ◌∙◌, append-nil, append_assoc}
use Rattle.std.proofs.lemmas.Bool.{or_parts}
use Rattle.std.specs.List.{list_any}
use Rattle.clap.specs.Words.{AddsArg, AddsInTurn, App, Rule, Text, app_of, rule_of, with_rule}
use Rattle.clap.specs.declared.builder.arg.Arg.{Arg}
use Rattle.clap.specs.declared.builder.command.Command.{Command}
use Rattle.clap.specs.declared.builder.command.Command.TheViews.{out-Command as fields_of}
use Rattle.ssz_words.specs.CommandSet.{IsLocal, command_with}

abbrev app_with : Text → List Rule → App
app_with name rules = record { top = command_with name rules; subs = [] }

-- arguments that are not global, added in turn, stand after those that the command has
pub adds_in_turn : (name : Text) (rules : List Rule) (old new : Command) (args : List Arg)
    → app_of old ≡ app_with name rules → (fields_of old).has_globals ≡ false
    → list_any (λ arg. arg.global) args ≡ false → AddsInTurn AddsArg old args new
    → IsLocal (command_with name (rules ++ map rule_of args)) new
adds_in_turn name rules old new [] is local plain same =
    let rules_are = ap (command_with name) (sym (append-nil rules)) in
    let top_is = ap (λ (a : App). a.top) (ap app_of (sym same) ∙ is) in
    (top_is ∙ rules_are, ap (λ (c : Command). (fields_of c).has_globals) (sym same) ∙ local)
adds_in_turn name rules old new (arg ∷ args) is local plain (mid, step, rest) =
    let parts = or_parts arg.global _ plain in
    let longer = step.shape parts.0 ∙ ap (λ (a : App). with_rule a (rule_of arg)) is in
    let all = adds_in_turn name (rules ++ rule_of arg ∷ []) mid new args longer
    (step.globals ∙ ap₂ ◌||◌ local parts.0) parts.1 rest in (
      all.0 ∙ ap (command_with name) (append_assoc rules (rule_of arg ∷ []) (map rule_of args)),
      all.1,
    )
