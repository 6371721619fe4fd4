-- Within which limits a command is that was taken.
use Rattle.std.specs.Prelude.{◌<◌, ◌≤◌, ⊤, ℕ, List, length, All}
use Rattle.ssz_words.specs.declared.commands.Command.{Command}
use Rattle.ssz_words.specs.declared.commands.Command.TheVariants.{Root, Run, Weave, Verify, Work}
use Rattle.ssz_words.specs.declared.commands.Command.TheVariants.{Part, Partial, Clash}

-- one to ten scripts, and one or more turns, each of a writer that has one of the scripts
abbrev pub IsWeaveOf : List (List ℕ) → List ℕ → Type 0
IsWeaveOf scripts order = (0 < length scripts) × (length scripts ≤ 10) × (0 < length order)
    × All (λ writer. writer < length scripts) order

-- what no type of a field says: the turns of a weave, and the number of edits
abbrev pub CommandIsWithinLimits : Command → Type 0
CommandIsWithinLimits (Root args) = ⊤
CommandIsWithinLimits (Run args) = ⊤
CommandIsWithinLimits (Weave args) = IsWeaveOf args.scripts args.order
CommandIsWithinLimits (Verify args) = ⊤
CommandIsWithinLimits (Work args) = args.edits ≤ 1000000
CommandIsWithinLimits (Part args) = ⊤
CommandIsWithinLimits (Partial args) = ⊤
CommandIsWithinLimits (Clash args) = ⊤
