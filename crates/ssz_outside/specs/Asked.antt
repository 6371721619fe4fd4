-- What files tell of what they were asked for.
use Rattle.std.specs.Prelude.{◌≡◌, ℕ, List, ◌++◌, take, Bool, true, false, option_map}
use Rattle.std.specs.declared.option.Option.{Option}
use Rattle.ssz_outside.specs.declared.status.Status.{Status}
use Rattle.ssz_outside.specs.declared.status.Status.TheVariants as status

-- a name, and the most bytes that were asked of it
abbrev pub Ask : Type 0
Ask = List ℕ × ℕ

-- what was asked so far, in order, where it is told
abbrev pub Asks : Type 0
Asks = Option (List Ask)

-- what was asked, where it is told, and more behind it
abbrev pub asks_append : Asks → List Ask → Asks
asks_append told more = option_map (λ asked. asked ++ more) told

-- What was asked from an old point to a new one: all of this, each once and in order; or, of what
-- was cut short, the first so many of it and nothing else.
abbrev pub AsksOf : (cut : Bool) → List Ask → Asks → Asks → Type 0
AsksOf false all old new = new ≡ asks_append old all
AsksOf true all old new = (n : ℕ) × (new ≡ asks_append old (take n all))

-- whether a run with this status was cut short before what it was still to ask for
abbrev pub is_cut : Status → Bool
is_cut status.Accepted = false
is_cut status.Refused = false
is_cut status.Usage = false
is_cut status.SchemaFault = false
is_cut status.ReadFault = true
is_cut status.WriteFault = true
is_cut status.Memory = true
