-- What is left of the job of a script, some of whose steps were made.
use Rattle.std.proofs.Common.{ℕ, ◌+◌, ◌<◌, ◌≡◌, inl, inr, Bool, false, List, [], ◌∷◌, ◌++◌, length, map, take, Some, refl, sym, ap, ◌∙◌, arith, length-append}
use Rattle.std.specs.List.{list_any}
use Rattle.std.proofs.lemmas.List.{map-append}
use Rattle.std.proofs.Math.Seq.{take-append-add, take-append_seam, take-length}
use Rattle.ssz_outside.specs.Content.{Content}
use Rattle.ssz_outside.specs.Job.{Job, Ends, Finishes, JobStandsAt}
use Rattle.ssz_outside.specs.Pieces.{Told, told_append}
use Rattle.ssz_outside.specs.declared.status.Status.TheVariants as status
use Rattle.ssz_partial_script.specs.Plays.{PartialTurn, partial_shown, is_partial_refused, partial_job_of}
use Rattle.ssz_outside.specs.Printed.{finished_status}

-- the first steps
pub steps_before : (done rest : List PartialTurn) → take (length done) (done ++ rest) ≡ done
steps_before done rest = take-append_seam done rest

-- and those with the next one
pub steps_with : (done : List PartialTurn) (turn : PartialTurn) (rest : List PartialTurn)
    → take (length done + 1) (done ++ turn ∷ rest) ≡ done ++ turn ∷ []
steps_with done turn rest = take-append-add done (turn ∷ rest) 1

module _ (held : Content) (done rest : List PartialTurn) where
  abbrev whole : Job
  whole = partial_job_of held (done ++ rest)

  -- between two steps
  pub stands : (old new : Told) → new ≡ told_append old (map partial_shown done)
      → JobStandsAt (whole.at (length done)) old new (Some held)
  stands old new printed = record {
    printed = printed ∙ ap (λ turns. told_append old (map partial_shown turns))
        (sym (steps_before done rest));
    held = refl;
  }

  -- memory was wanting there
  abbrev pub ends_without_memory : (ample : Bool) (old new : Told)
      → new ≡ told_append old (map partial_shown done)
      → Ends ample status.Memory whole old new (Some held)
  ends_without_memory ample old new printed =
      let count = length-append done rest in
      (length done, inl (omega arith, stands old new printed))

module _ (held : Content) (done : List PartialTurn) (turn : PartialTurn)
    (rest : List PartialTurn) where
  abbrev job : Job
  job = partial_job_of held (done ++ turn ∷ rest)

  pub lines_before : (job.at (length done)).lines ≡ map partial_shown done
  lines_before = ap (map partial_shown) (steps_before done (turn ∷ rest))

  pub lines_after : (job.at (length done + 1)).lines
      ≡ map partial_shown done ++ partial_shown turn ∷ []
  lines_after = ap (map partial_shown) (steps_with done turn rest)
      ∙ map-append partial_shown done (turn ∷ [])

  pub below : length done < job.steps
  below = let count = length-append done (turn ∷ rest) in omega arith

  -- it was made, and the sink found no memory for its line
  abbrev pub ends_ahead : (ample : Bool) (old new : Told) → ample ≡ false
      → new ≡ told_append old (map partial_shown done)
      → Ends ample status.Memory job old new (Some held)
  ends_ahead ample old new wanting printed = (
    length done,
    inr (
      below,
      record {
        wanting = wanting;
        printed = printed ∙ ap (λ lines. told_append old lines) (sym lines_before);
        held = refl;
      },
    ),
  )

  -- its line was printed in part
  abbrev pub ends_torn : (ample : Bool) (old new : Told) (count : ℕ)
      → new ≡ told_append old (map partial_shown done ++ take count (partial_shown turn) ∷ [])
      → Ends ample status.WriteFault job old new (Some held)
  ends_torn ample old new count printed = (
    length done,
    below,
    inr (record {
      line = partial_shown turn;
      count = count;
      whole = lines_after ∙ ap (λ lines. lines ++ partial_shown turn ∷ []) (sym lines_before);
      printed = printed
          ∙ ap (λ lines. told_append old (lines ++ take count (partial_shown turn) ∷ []))
          (sym lines_before);
      held = refl;
    }),
  )

-- all steps were made
module _ (held : Content) (turns : List PartialTurn) where
  pub finishes : (old new : Told) → new ≡ told_append old (map partial_shown turns)
      → Finishes (partial_job_of held turns) (finished_status (list_any is_partial_refused turns))
      old new (Some held)
  finishes old new printed = record {
    status = refl;
    last = record {
      printed = printed ∙ ap (λ all. told_append old (map partial_shown all))
          (sym (take-length turns));
      held = refl;
    };
  }
