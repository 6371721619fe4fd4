-- How many pairs the rounds of a work hash at least.
use Rattle.std.proofs.Common.{◌≡◌, ℕ, ◌+◌, ◌<◌, ◌≤◌, Bool, true, false, cond, not, ◌&&◌, Option, Some, None, refl, sym, ap, ◌∙◌, subst, arith}
use Rattle.std.proofs.lemmas.Bool.{false≢true, ltb-true}
use Rattle.ssz_schema.specs.Types.{SszType}
use Rattle.ssz_schema.specs.Unfolding.{type_of}
use Rattle.ssz_gindex.specs.Paths.{index_levels}
use Rattle.ssz_draws.specs.Walked.{IsEditStatement}
use Rattle.ssz_script.specs.declared.statement.Statement.{Statement}
use Rattle.ssz_script.specs.declared.statement.Statement.TheVariants.{Set, Append, Pop, Choose, Root}
use Rattle.ssz_versions.specs.Content.{Held, held_at}
use Rattle.ssz_machine.specs.State.{Name, Version, State, version_of}
use Rattle.ssz_machine.specs.Rules.{Rules}
use Rattle.ssz_machine.specs.Machine.{is_refused}
use Rattle.ssz_machine.specs.Drawing.{Walk, worked}
use Rattle.ssz_machine.specs.Work.{alters, changes_below, turn_done, tops_of}
use Rattle.ssz_decisions.specs.Content.{EngineContent}
use Rattle.ssz_decisions.specs.Standing.{Match}
use Rattle.ssz_engine.specs.Steps.{WhereAccepted, is_refusal}
use Rattle.ssz_engine.specs.Tops.{HasDue, Tops}
use Rattle.ssz_decisions.specs.Roots.{HashesSome, RisesBy}
use Rattle.ssz_decisions.specs.declared.outcome.Outcome.{Outcome}
use Rattle.ssz_decisions.specs.declared.outcome.Outcome.TheVariants.{Accepted, Refused}

-- a rise, and another one behind it
pub rises-then : (n m before mid after : ℕ) → RisesBy n before mid → RisesBy m mid after
    → RisesBy (n + m) before after
rises-then n m before mid after first then = λ few.
    let second : mid + m ≤ after = then few in
    let one : before + n ≤ mid = first (omega (arith, few, second)) in
    omega (arith, one, second)

-- an edit that changes a version below the top leaves the pair there to be hashed
typed-due : (old new : EngineContent) (edit : Statement) (t : SszType) (was : Held)
    → IsEditStatement edit
    → held_at old.entries 0 worked ≡ Some was → type_of old.types was.0 ≡ t
    → changes_below t edit ≡ true → Tops edit 0 old new → HasDue worked 0 new
typed-due old new (Set v path literal) t was named there typed below tops =
    subst (λ (n : Name). HasDue n 0 new) named
    (tops was (ap (λ (n : Name). held_at old.entries 0 n) named ∙ there)
    (subst (λ (s : SszType). 0 < index_levels s path) (sym typed)
    (ltb-true 0 (index_levels t path) below)))
typed-due old new (Append v path literal) t was named there typed below tops =
    subst (λ (n : Name). HasDue n 0 new) named tops
typed-due old new (Pop v path) t was named there typed below tops =
    subst (λ (n : Name). HasDue n 0 new) named tops
typed-due old new (Choose v path k None) t was named there typed below tops =
    subst (λ (n : Name). HasDue n 0 new) named tops
typed-due old new (Choose v path k (Some literal)) t was named there typed below tops =
    absurd named
typed-due old new other t was named there typed below tops = absurd (false≢true below)

version-due : (old new : EngineContent) (edit : Statement) (held : Option Held)
    (version : Option Version) → IsEditStatement edit → held_at old.entries 0 worked ≡ held
    → Match old.types old.arena held version → alters version edit ≡ true
    → Tops edit 0 old new → HasDue worked 0 new
version-due old new edit (Some was) (Some version) named there is below tops =
    typed-due old new edit version.type was named there is.type below tops
version-due old new edit held None named there is below tops = absurd (false≢true below)
version-due old new edit None (Some version) named there is below tops = absurd is

one-or-none : (b : Bool) (before after : ℕ) → (b ≡ true → RisesBy 1 before after)
    → before ≤ after → RisesBy (cond b 1 0) before after
one-or-none true before after one more = one refl
one-or-none false before after one more = λ few. omega (arith, more)

both-true : (a b : Bool) → (not a && b) ≡ true → (a ≡ false) × (b ≡ true)
both-true true b is = absurd (false≢true is)
both-true false b is = (refl, is)

-- an accepted edit leaves what it says of the top
accepted-tops : (made : Outcome) (edit : Statement) (old new : EngineContent)
    → is_refusal made ≡ false → WhereAccepted made (Tops edit 0 old new)
    → Tops edit 0 old new
accepted-tops Accepted edit old new is tops = tops
accepted-tops Refused edit old new is tops = absurd (false≢true (sym is))

-- an edit, and the root behind it
pub round-least : (rules : Rules) (state : State) (way : Walk) (edit : Statement) (seed : ℕ)
    (old mid : EngineContent) (before between after : ℕ) (made : Outcome)
    → way ≡ record { edit = Some edit; seed = seed } → IsEditStatement edit
    → Match old.types old.arena (held_at old.entries 0 worked)
    (version_of worked (state.versions 0))
    → is_refusal made ≡ is_refused (turn_done rules state edit)
    → WhereAccepted made (Tops edit 0 old mid)
    → before ≤ between → between ≤ after → HashesSome (Root worked) 0 mid between after
    → RisesBy (tops_of rules state way.edit) before after
round-least rules state way edit seed old mid before between after made is named matches outcome
    tops first then some =
    let version : Option Version = version_of worked (state.versions 0) in
    subst (λ (w : Walk). RisesBy (tops_of rules state w.edit) before after) (sym is)
    (one-or-none (not (is_refused (turn_done rules state edit)) && alters version edit) before after
    (λ test.
    let both = both-true (is_refused (turn_done rules state edit)) (alters version edit) test in
    let due = version-due old mid edit (held_at old.entries 0 worked) version named refl matches
    both.1 (accepted-tops made edit old mid (outcome ∙ both.0) tops) in
    let rise = some due.held due.there due.due in
    λ few. (let more = rise few in omega (arith, more, first)))
    (omega (arith, first, then)))
