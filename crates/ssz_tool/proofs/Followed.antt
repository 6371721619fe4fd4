-- What a plan that was followed says of the job.
use Rattle.std.proofs.Common.{◌≡◌, inl, inr, ℕ, true, cond, List, [], length, nat_lt, Option, Some, None, Ok, Err, refl, sym, ap, subst, ◌∙◌}
use Rattle.std.specs.Prelude.{is_some}
use Rattle.std.specs.List.{AllByRecursion}
use Rattle.std.proofs.lemmas.Bool.{lt-ltb, le-ltb}
use Rattle.ssz_outside.specs.Content.{Content, contents}
use Rattle.ssz_tool.specs.Follows.{ComesOf, ComesOfWords}
use Rattle.ssz_tool.specs.Plans.{AreReadable, Plan, files_in, gives, reads, refuses, task_in}
use Rattle.ssz_tool.specs.Runs.{files_by, task_by}
use Rattle.ssz_tool.specs.Tasks.{IsTaskReady, IsTask, task_view}
use Rattle.ssz_tool.specs.ToDo.{Task as Meant, is_script, prints_line}
use Rattle.ssz_tool.specs.declared.job.Task.{Task}
use Rattle.ssz_tool.specs.declared.line.Line.{Line}
use Rattle.ssz_tool.specs.declared.stop.Stop.TheVariants as stop
use Rattle.ssz_tool.proofs.Comings.{no_usage}

module _ (held : Content) (P : List ℕ → Type 0) where
  -- what was made does what the plan comes to
  made_of : (plan : Plan Meant) (made : Task) → ComesOf (Some held) P IsTask plan (Ok made)
      → IsTask (task_in held plan) made
  made_of (gives task) made comes = comes
  made_of (refuses said) made comes = absurd comes
  made_of (reads name most long next) made (bytes, few, is, then) =
      subst (λ (b : List ℕ). IsTask (cond (nat_lt most (length b)) (prints_line long)
      (task_in held (next b))) made) (sym (is held refl))
      (rw (le-ltb most (length bytes) few) (made_of (next bytes) made then))

  -- what refused is what the plan refuses with
  said_of : (plan : Plan Meant) (said : Line)
      → ComesOf {T = Task} (Some held) P IsTask plan (Err (stop.Says said))
      → task_in held plan ≡ prints_line said
  said_of (gives task) said comes = absurd comes
  said_of (refuses meant) said comes = ap prints_line (sym comes)
  said_of (reads name most long next) said (inl (is, many)) =
      rw (lt-ltb most (length (contents held name)) (many held refl)) (ap prints_line (sym is))
  said_of (reads name most long next) said (inr (bytes, few, is, then)) =
      subst (λ (b : List ℕ).
      cond (nat_lt most (length b)) (prints_line long) (task_in held (next b))
      ≡ prints_line said) (sym (is held refl))
      (rw (le-ltb most (length bytes) few) (said_of (next bytes) said then))

  -- a read failed only of a file that is reached
  failed_of : (plan : Plan Meant) → ComesOf {T = Task} (Some held) P IsTask plan (Err stop.Read)
      → AllByRecursion P (files_in held plan) → ⊥
  failed_of (gives task) comes all = comes
  failed_of (refuses said) comes all = comes
  failed_of (reads name most long next) (inl fails) all = fails all.0
  failed_of (reads name most long next) (inr (bytes, few, is, then)) all =
      let behind = subst (λ (b : List ℕ). AllByRecursion P (cond (nat_lt most (length b)) []
      (files_in held (next b)))) (is held refl) all.1 in
      let left = rw (le-ltb most (length bytes) few) at behind in
      failed_of (next bytes) then left

  -- So it is of the plan of words, if they have one.
  pub task_made : (plan : Option (Plan Meant)) (made : Task)
      → ComesOfWords (Some held) P IsTask plan (Ok made) → IsTask (task_by held plan) made
  task_made None made comes = absurd comes
  task_made (Some plan) made comes = made_of plan made comes

  pub line_said : (plan : Option (Plan Meant)) (said : Line)
      → ComesOfWords {T = Task} (Some held) P IsTask plan (Err (stop.Says said))
      → task_by held plan ≡ prints_line said
  line_said None said comes = absurd comes
  line_said (Some plan) said comes = said_of plan said comes

  pub read_failed : (plan : Option (Plan Meant))
      → ComesOfWords {T = Task} (Some held) P IsTask plan (Err stop.Read)
      → AllByRecursion P (files_by held plan) → ⊥
  read_failed None comes all = comes
  read_failed (Some plan) comes all = failed_of plan comes all

-- So it is where it is not told what the files hold.
module _ (told : Option Content) (P : List ℕ → Type 0) where
  not_readable : (plan : Plan Meant)
      → ComesOf {T = Task} told P IsTask plan (Err stop.Read) → AreReadable P plan → ⊥
  not_readable (gives task) comes all = comes
  not_readable (refuses said) comes all = comes
  not_readable (reads name most long next) (inl fails) all = fails all.0
  not_readable (reads name most long next) (inr (bytes, few, is, then)) all =
      not_readable (next bytes) then (all.1 bytes)

  -- the files that the statements of scripts name can be read, too
  all_readable_of : (plan : Plan Meant) (made : Task)
      → ComesOf told P IsTask plan (Ok made) → AreReadable P plan
      → is_script (task_view made) ≡ true → (name : List ℕ) → P name
  all_readable_of (gives task) made comes all script = all (comes.same.scripts ∙ script)
  all_readable_of (refuses said) made comes all script = absurd comes
  all_readable_of (reads name most long next) made (bytes, few, is, then) all script =
      all_readable_of (next bytes) made then (all.1 bytes) script

  pub readable_words : (words : Option (Plan Meant)) (made : Task) (plan : Plan Meant)
      → words ≡ Some plan → ComesOfWords told P IsTask words (Ok made) → AreReadable P plan
      → is_script (task_view made) ≡ true → (name : List ℕ) → P name
  readable_words words made plan is comes all =
      all_readable_of plan made
      (subst (λ o. ComesOfWords told P IsTask o (Ok made)) is comes) all

  pub unreadable_words : (words : Option (Plan Meant)) (plan : Plan Meant) → words ≡ Some plan
      → ComesOfWords {T = Task} told P IsTask words (Err stop.Read) → AreReadable P plan → ⊥
  unreadable_words words plan is comes all =
      not_readable plan
      (subst (λ o. ComesOfWords {T = Task} told P IsTask o (Err stop.Read)) is comes) all

  ready_of : (plan : Plan Meant) (made : Task) → ComesOf told P IsTask plan (Ok made)
      → IsTaskReady made
  ready_of (gives task) made comes = comes.ready
  ready_of (refuses said) made comes = absurd comes
  ready_of (reads name most long next) made (bytes, few, is, then) =
      ready_of (next bytes) made then

  pub task_ready : (plan : Option (Plan Meant)) (made : Task)
      → ComesOfWords told P IsTask plan (Ok made) → IsTaskReady made
  task_ready None made comes = absurd comes
  task_ready (Some plan) made comes = ready_of plan made comes

  -- words that have no plan are not taken, and no others
  pub not_taken : (plan : Option (Plan Meant))
      → ComesOfWords {T = Task} told P IsTask plan (Err stop.Usage) → plan ≡ None
  not_taken None comes = refl
  not_taken (Some plan) comes = absurd (no_usage told P IsTask plan comes)

  pub taken_failed : (plan : Option (Plan Meant))
      → ComesOfWords {T = Task} told P IsTask plan (Err stop.Read) → is_some plan ≡ true
  taken_failed None comes = absurd comes
  taken_failed (Some plan) comes = refl

  -- want of memory may come of any words
  pub wants_memory : (plan : Option (Plan Meant))
      → ComesOfWords {T = Task} told P IsTask plan (Err stop.Memory)
  wants_memory None = tt
  wants_memory (Some plan) = tt
