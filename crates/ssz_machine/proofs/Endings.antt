-- How runs that are under way end, as the job of all their events: for the numbers that were
-- printed, and whatever numbers are still to come.
use Rattle.std.proofs.Common.{ℕ, ◌+◌, ◌<◌, ◌≤◌, ◌≡◌, ◌==◌, cond, inl, inr, Bool, true, false, List, [], ◌∷◌, ◌++◌, length, take, Option, Some, refl, sym, ap, ◌∙◌, subst, arith, length-append, append_assoc}
use Rattle.std.specs.Prelude.{slice_get, not, ◌&&◌}
use Rattle.std.specs.List.{list_any}
use Rattle.std.proofs.lemmas.Bool.{or_right}
use Rattle.std.proofs.lemmas.List.{append-nil, map-append}
use Rattle.std.proofs.Math.Seq.{take-append_seam, take-length}
use Rattle.ssz_outside.specs.Content.{Content}
use Rattle.ssz_outside.specs.Job.{Job, Moment, Save, Ends, JobStandsAt, Finishes, steps_begun, steps_done}
use Rattle.ssz_outside.specs.Outcome.{WritesPart}
use Rattle.ssz_outside.specs.Pieces.{Told, told_append}
use Rattle.ssz_outside.specs.Printed.{finished_status}
use Rattle.ssz_outside.specs.declared.status.Status.{Status}
use Rattle.ssz_outside.specs.declared.status.Status.TheVariants as status
use Rattle.ssz_machine.specs.declared.place.Place.{Place}
use Rattle.ssz_machine.specs.State.{State}
use Rattle.ssz_machine.specs.Rules.{Rules}
use Rattle.ssz_machine.specs.Machine.{Line, Turn, step, state_of, save_of, may_stop, misses, is_refused}
use Rattle.ssz_machine.specs.Plays.{Event, says, play, shown, shown_all}
use Rattle.ssz_machine.specs.Jobs.{files_after, is_reading, saved_by, status_after, after_reading}
use Rattle.ssz_machine.specs.Runs.{IsUnderWay, job_from}
use Rattle.ssz_machine.proofs.UnderWay.{under_way_line, under_way_all}

-- the step behind some others
at-seam : (done : List Turn) (turn : Turn) (rest : List Turn)
    → slice_get (done ++ turn ∷ rest) (length done) ≡ Some turn
at-seam [] turn rest = refl
at-seam (first ∷ done) turn rest = at-seam done turn rest

-- What a run that is under way looks like in the job of all its steps, where these numbers are
-- still to be printed.
module _ (rules : Rules) (place : Place) (events : List Event) (first : State)
    (front : List Event) (done : List Turn) (state : State) (left : List Event)
    (all : events ≡ front ++ left) (u : IsUnderWay rules place front first done state)
    (more : List ℕ) where
  abbrev turns : List Turn
  turns = play rules place (u.numbers ++ more) first events

  abbrev this_job : Job
  this_job = job_from rules place events first (u.numbers ++ more)

  split_turns : turns ≡ done ++ play rules place more state left
  split_turns =
      ap (λ es. play rules place (u.numbers ++ more) first es) all ∙ u.turns left more

  first_turns : take (length done) turns ≡ done
  first_turns =
      ap (take (length done)) split_turns
      ∙ take-append_seam done (play rules place more state left)

  -- where it stands
  moment : this_job.at (length done) ≡ record { files = state.files; lines = shown_all place done }
  moment i = record {
    files = (ap (files_after first.files) first_turns ∙ u.files) i;
    lines = ap (shown_all place) first_turns i;
  }

  within : length done ≤ length turns
  within =
      let rest = play rules place more state left in
      let whole = ap length split_turns ∙ length-append done rest in
      omega arith

  stands : (old new : Told) (held : Option Content)
      → new ≡ told_append old (shown_all place done) → held ≡ Some state.files
      → JobStandsAt (this_job.at (length done)) old new held
  stands old new held printed are =
      subst (λ (m : Moment). JobStandsAt m old new held) (sym moment)
      (record { printed = printed; held = are })

  -- want of memory between two lines
  pub ends_without_memory : (ample : Bool) (old new : Told) (held : Option Content)
      → new ≡ told_append old (shown_all place done) → held ≡ Some state.files
      → Ends ample status.Memory this_job old new held
  ends_without_memory ample old new held printed are =
      (length done, inl (within, stands old new held printed are))

  pub steps_without_memory : (ample : Bool) (old new : Told) (held : Option Content)
      (printed : new ≡ told_append old (shown_all place done)) (are : held ≡ Some state.files)
      → steps_done ample status.Memory this_job old new held
      (ends_without_memory ample old new held printed are) ≡ length done
  unfolding ends_without_memory
  steps_without_memory ample old new held printed are = refl

  pub begun_without_memory : (ample : Bool) (old new : Told) (held : Option Content)
      (printed : new ≡ told_append old (shown_all place done)) (are : held ≡ Some state.files)
      → steps_begun ample status.Memory this_job old new held
      (ends_without_memory ample old new held printed are) ≡ length done + 1
  unfolding ends_without_memory
  begun_without_memory ample old new held printed are = refl

stops_there : (missed may : Bool) → missed ≡ false → may ≡ true → (not missed && may) ≡ true
stops_there missed may found stops = rw (found, stops) refl

-- what a run looks like in which one line more was done, or was begun
module _ (rules : Rules) (place : Place) (events : List Event) (first : State)
    (front : List Event) (done : List Turn) (state : State) (writer : ℕ) (line : Line)
    (left : List Event) (number : ℕ) (begun : events ≡ front ++ says writer line ∷ left)
    (u : IsUnderWay rules place front first done state) (more : List ℕ) where
  abbrev turn : Turn
  turn = step rules place number state writer line

  abbrev on : IsUnderWay rules place (front ++ says writer line ∷ []) first (done ++ turn ∷ [])
      (state_of turn)
  on = under_way_line rules place first front done state writer line number u

  abbrev all : List Turn
  all = play rules place (on.numbers ++ more) first events

  abbrev whole : Job
  whole = job_from rules place events first (on.numbers ++ more)

  abbrev rest : List Turn
  rest = play rules place more (state_of turn) left

  behind : all ≡ (done ++ turn ∷ []) ++ rest
  behind =
      ap (λ es. play rules place (on.numbers ++ more) first es)
      (begun ∙ sym (append_assoc front (says writer line ∷ []) left))
      ∙ on.turns left more

  split : all ≡ done ++ turn ∷ rest
  split = behind ∙ append_assoc done (turn ∷ []) rest

  front_before : take (length done) all ≡ done
  front_before = ap (take (length done)) split ∙ take-append_seam done (turn ∷ rest)

  one_more : length (done ++ turn ∷ []) ≡ length done + 1
  one_more = length-append done (turn ∷ [])

  front_after : take (length done + 1) all ≡ done ++ turn ∷ []
  front_after =
      ap (λ n. take n all) (sym one_more)
      ∙ ap (take (length (done ++ turn ∷ []))) behind
      ∙ take-append_seam (done ++ turn ∷ []) rest

  here : slice_get all (length done) ≡ Some turn
  here = ap (λ turns. slice_get turns (length done)) split ∙ at-seam done turn rest

  lines_before : (whole.at (length done)).lines ≡ shown_all place done
  lines_before = ap (shown_all place) front_before

  files_before : (whole.at (length done)).files ≡ state.files
  files_before = ap (files_after first.files) front_before ∙ u.files

  lines_after : (whole.at (length done + 1)).lines ≡ shown_all place done ++ shown place turn ∷ []
  lines_after = ap (shown_all place) front_after ∙ map-append (shown place) done (turn ∷ [])

  files_later : (whole.at (length done + 1)).files ≡ (state_of turn).files
  files_later = ap (files_after first.files) front_after ∙ on.files

  below : length done < whole.steps
  below =
      let count = ap length split ∙ length-append done (turn ∷ rest) in
      omega arith

  -- the line's file was not read
  pub ends_unread : (ample : Bool) (old new : Told) (held : Option Content)
      → list_any (misses rules) done ≡ false → may_stop rules turn ≡ true
      → new ≡ told_append old (shown_all place done) → held ≡ Some state.files
      → Ends ample status.ReadFault whole old new held
  ends_unread ample old new held found stops printed are = (
    length done,
    let few = below in omega arith,
    stops_there (list_any (misses rules) (take (length done) all))
        (is_reading rules (slice_get all (length done)))
        (ap (list_any (misses rules)) front_before ∙ found) (ap (is_reading rules) here ∙ stops),
    record {
      printed = printed ∙ ap (told_append old) (sym lines_before);
      held = are ∙ ap Some (sym files_before);
    },
  )

  pub steps_unread : (ample : Bool) (old new : Told) (held : Option Content)
      (found : list_any (misses rules) done ≡ false) (stops : may_stop rules turn ≡ true)
      (printed : new ≡ told_append old (shown_all place done)) (are : held ≡ Some state.files)
      → steps_done ample status.ReadFault whole old new held
      (ends_unread ample old new held found stops printed are) ≡ length done
  unfolding ends_unread
  steps_unread ample old new held found stops printed are = refl

  pub begun_unread : (ample : Bool) (old new : Told) (held : Option Content)
      (found : list_any (misses rules) done ≡ false) (stops : may_stop rules turn ≡ true)
      (printed : new ≡ told_append old (shown_all place done)) (are : held ≡ Some state.files)
      → steps_begun ample status.ReadFault whole old new held
      (ends_unread ample old new held found stops printed are) ≡ length done + 1
  unfolding ends_unread
  begun_unread ample old new held found stops printed are = refl

  -- the line's file was not written whole
  pub ends_torn_file : (ample : Bool) (old new : Told) (held : Option Content) (save : Save)
      → save_of turn ≡ Some save → new ≡ told_append old (shown_all place done)
      → WritesPart save.name save.bytes (Some state.files) held
      → Ends ample status.WriteFault whole old new held
  ends_torn_file ample old new held save saves printed tears = (
    length done,
    below,
    inl (record {
      save = save;
      saves = ap saved_by here ∙ saves;
      printed = printed ∙ ap (told_append old) (sym lines_before);
      held = subst (λ (files : Content). WritesPart save.name save.bytes (Some files) held)
          (sym files_before) tears;
    }),
  )

  pub steps_torn_file : (ample : Bool) (old new : Told) (held : Option Content) (save : Save)
      (saves : save_of turn ≡ Some save)
      (printed : new ≡ told_append old (shown_all place done))
      (tears : WritesPart save.name save.bytes (Some state.files) held)
      → steps_done ample status.WriteFault whole old new held
      (ends_torn_file ample old new held save saves printed tears) ≡ length done
  unfolding ends_torn_file
  steps_torn_file ample old new held save saves printed tears = refl

  pub begun_torn_file : (ample : Bool) (old new : Told) (held : Option Content) (save : Save)
      (saves : save_of turn ≡ Some save)
      (printed : new ≡ told_append old (shown_all place done))
      (tears : WritesPart save.name save.bytes (Some state.files) held)
      → steps_begun ample status.WriteFault whole old new held
      (ends_torn_file ample old new held save saves printed tears) ≡ length done + 1
  unfolding ends_torn_file
  begun_torn_file ample old new held save saves printed tears = refl

  -- the line was done, and its reply was not printed whole
  pub ends_torn_line : (ample : Bool) (old new : Told) (held : Option Content) (count : ℕ)
      → new ≡ told_append old (shown_all place done ++ take count (shown place turn) ∷ [])
      → held ≡ Some (state_of turn).files
      → Ends ample status.WriteFault whole old new held
  ends_torn_line ample old new held count printed are = (
    length done,
    below,
    inr (record {
      line = shown place turn;
      count = count;
      whole = lines_after ∙ ap (λ lines. lines ++ shown place turn ∷ []) (sym lines_before);
      printed = printed
          ∙ ap (λ lines. told_append old (lines ++ take count (shown place turn) ∷ []))
          (sym lines_before);
      held = are ∙ ap Some (sym files_later);
    }),
  )

  pub steps_torn_line : (ample : Bool) (old new : Told) (held : Option Content) (count : ℕ)
      (printed : new ≡ told_append old (shown_all place done ++ take count (shown place turn) ∷ []))
      (are : held ≡ Some (state_of turn).files)
      → steps_done ample status.WriteFault whole old new held
      (ends_torn_line ample old new held count printed are) ≡ length (done ++ turn ∷ [])
  unfolding ends_torn_line
  steps_torn_line ample old new held count printed are = sym one_more

  pub begun_torn_line : (ample : Bool) (old new : Told) (held : Option Content) (count : ℕ)
      (printed : new ≡ told_append old (shown_all place done ++ take count (shown place turn) ∷ []))
      (are : held ≡ Some (state_of turn).files)
      → steps_begun ample status.WriteFault whole old new held
      (ends_torn_line ample old new held count printed are) ≡ length (done ++ turn ∷ [])
  unfolding ends_torn_line
  begun_torn_line ample old new held count printed are = sym one_more

  -- the line was done, and there was no memory to print its reply
  pub ends_ahead : (ample : Bool) (old new : Told) (held : Option Content) → ample ≡ false
      → new ≡ told_append old (shown_all place done) → held ≡ Some (state_of turn).files
      → Ends ample status.Memory whole old new held
  ends_ahead ample old new held wanting printed are = (
    length done,
    inr (
      below,
      record {
        wanting = wanting;
        printed = printed ∙ ap (told_append old) (sym lines_before);
        held = are ∙ ap Some (sym files_later);
      },
    ),
  )

  pub steps_ahead : (ample : Bool) (old new : Told) (held : Option Content)
      (wanting : ample ≡ false)
      (printed : new ≡ told_append old (shown_all place done))
      (are : held ≡ Some (state_of turn).files)
      → steps_done ample status.Memory whole old new held
      (ends_ahead ample old new held wanting printed are) ≡ length (done ++ turn ∷ [])
  unfolding ends_ahead
  steps_ahead ample old new held wanting printed are = sym one_more

  pub begun_ahead : (ample : Bool) (old new : Told) (held : Option Content)
      (wanting : ample ≡ false)
      (printed : new ≡ told_append old (shown_all place done))
      (are : held ≡ Some (state_of turn).files)
      → steps_begun ample status.Memory whole old new held
      (ends_ahead ample old new held wanting printed are) ≡ length (done ++ turn ∷ [])
  unfolding ends_ahead
  begun_ahead ample old new held wanting printed are = sym one_more

-- all lines were done
module _ (rules : Rules) (place : Place) (events : List Event) (first : State)
    (front : List Event) (done : List Turn) (state : State) (all : events ≡ front ++ [])
    (u : IsUnderWay rules place front first done state) where
  abbrev last : List ℕ
  last = u.numbers ++ []

  every : play rules place last first events ≡ done
  every =
      ap (λ es. play rules place last first es) (all ∙ append-nil front)
      ∙ under_way_all rules place first front done state u last
      (record { more = []; are = refl })

  finished : (old new : Told) (held : Option Content)
      → new ≡ told_append old (shown_all place done) → held ≡ Some state.files
      → Finishes (job_from rules place events first last) (status_after done) old new held
  finished old new held printed are =
      let turns = play rules place last first events in
      let whole : take (length turns) turns
      ≡ done = take-length (play rules place last first events) ∙ every in
      record {
        status = ap status_after (sym every);
        last = record {
          printed = printed ∙ ap (λ turns. told_append old (shown_all place turns)) (sym whole);
          held = are ∙ ap Some (sym (ap (files_after first.files) whole ∙ u.files));
        };
      }

  pub ends_done : (ample : Bool) (old new : Told) (held : Option Content)
      → new ≡ told_append old (shown_all place done) → held ≡ Some state.files
      → Ends ample (status_after done) (job_from rules place events first last) old new held
  ends_done ample old new held printed are =
      by (list_any is_refused done) (finished old new held printed are)
    where
      by : (b : Bool)
          → Finishes (job_from rules place events first last)
          (cond b status.Refused status.Accepted) old new held
          → Ends ample (cond b status.Refused status.Accepted)
          (job_from rules place events first last) old new held
      by true is = is
      by false is = is

-- all steps of what no fault ended were done
pub steps_finished : (ample refused : Bool) (job : Job) (old new : Told) (held : Option Content)
    (ends : Ends ample (finished_status refused) job old new held)
    → steps_done ample (finished_status refused) job old new held ends ≡ job.steps
steps_finished ample true job old new held ends = refl
steps_finished ample false job old new held ends = refl

pub begun_finished : (ample refused : Bool) (job : Job) (old new : Told) (held : Option Content)
    (ends : Ends ample (finished_status refused) job old new held)
    → steps_begun ample (finished_status refused) job old new held ends ≡ job.steps
begun_finished ample true job old new held ends = refl
begun_finished ample false job old new held ends = refl

-- A job before which files are read ends as the job does.
pub ends_after_reading : (ample first : Bool) (ended : Status) (job : Job) (old new : Told)
    (held : Option Content) → Ends ample ended job old new held
    → Ends ample ended (after_reading first job) old new held
ends_after_reading ample first status.Accepted job old new held ends =
    record { status = ends.status; last = ends.last }
ends_after_reading ample first status.Refused job old new held ends =
    record { status = ends.status; last = ends.last }
ends_after_reading ample first status.Usage job old new held ends =
    record { status = ends.status; last = ends.last }
ends_after_reading ample first status.SchemaFault job old new held ends =
    record { status = ends.status; last = ends.last }
ends_after_reading ample first status.ReadFault job old new held (k, few, reads, stands) =
    (k, few, or_right (first && (k == 0)) (job.reads k) reads, stands)
ends_after_reading ample first status.WriteFault job old new held (k, below, inl torn) = (
  k,
  below,
  inl (record {
    save = torn.save;
    saves = torn.saves;
    printed = torn.printed;
    held = torn.held;
  }),
)
ends_after_reading ample first status.WriteFault job old new held (k, below, inr torn) = (
  k,
  below,
  inr (record {
    line = torn.line;
    count = torn.count;
    whole = torn.whole;
    printed = torn.printed;
    held = torn.held;
  }),
)
ends_after_reading ample first status.Memory job old new held (k, inl stands) = (k, inl stands)
ends_after_reading ample first status.Memory job old new held (k, inr (below, ahead)) = (
  k,
  inr (
    below,
    record { wanting = ahead.wanting; printed = ahead.printed; held = ahead.held },
  ),
)
