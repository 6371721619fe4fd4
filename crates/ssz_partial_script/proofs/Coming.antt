-- From one line of a script to the next, or to its end.
use Rattle.std.proofs.Common.{◌+◌, ◌≤◌, ◌≡◌, Bool, true, false, List, [], ◌∷◌, ◌++◌, length, map, take, inl, inr, cond, Some, None, refl, sym, ap, ◌∙◌, subst, arith, append_assoc}
use Rattle.std.specs.Prelude.{◌||◌, ◌⊎◌, Ok, Err}
use Rattle.std.specs.List.{list_any}
use Rattle.std.proofs.Math.Seq.{take-append-add, take-length}
use Rattle.std.proofs.lemmas.List.{map-append, append-nil}
use Rattle.std.proofs.lemmas.List.Folds.{list_any-append}
use Rattle.std.proofs.lemmas.List.Sums.{sum_by-append, sum_by-cons, sum_by_push}
use Rattle.ssz_outside.specs.Content.{Content}
use Rattle.ssz_outside.specs.Job.{Finishes}
use Rattle.ssz_outside.specs.Pieces.{Told, told_append}
use Rattle.ssz_outside.proofs.Told.{told_append-twice}
use Rattle.ssz_outside.specs.declared.status.Status.{Status}
use Rattle.ssz_outside.specs.declared.status.Status.TheVariants as status
use Rattle.ssz_schema.specs.Types.{SszType}
use Rattle.ssz_proof.specs.Calculation.{PairOf}
use Rattle.ssz_proof.specs.Multiproof.{Multiproof}
use Rattle.ssz_partial_script.specs.Plays.{PartialScriptLine, PartialTurn, partial_step, partial_play, partial_shown, known_after, known_last, is_partial_refused, partial_charge_of, partial_charges, partial_job_of}
use Rattle.ssz_outside.specs.Printed.{finished_status}
use Rattle.ssz_partial_script.specs.Runs.{PartialScene, MakesPartialTurn, Breaks, DoesPartialTurns, EndsPartial, LacksPartialMemory, RunsAll, PartialRunReaches, partial_point}
use Rattle.ssz_partial_script.proofs.Ending.{ends_ahead, ends_torn, ends_without_memory, finishes, steps_before, steps_with}

swap : (a b c : Bool) → (a || (b || c)) ≡ ((b || (a || false)) || c)
swap true true c = refl
swap true false c = refl
swap false true c = refl
swap false false c = refl

told_append-none : (told : Told) → told ≡ told_append told []
told_append-none None = refl
told_append-none (Some taken) = ap Some (sym (append-nil taken))

-- the last step tells what is known
last_known : (proof : Multiproof) (done : List PartialTurn) (turn : PartialTurn)
    → known_last proof (done ++ turn ∷ []) ≡ known_after turn
last_known proof [] turn = refl
last_known proof (first ∷ done) turn = last_known (known_after first) done turn

-- what some steps may hash, and one more
charged_more : (done rest : List PartialTurn)
    → partial_charges done ≤ partial_charges (take (length done + 1) (done ++ rest))
charged_more done rest =
    let all = ap partial_charges (take-append-add done rest 1) in
    let both = sum_by-append partial_charge_of done (take 1 rest) in
    omega (arith, all, both)

module _ (pair_of : PairOf) (t : SszType) (lines : List PartialScriptLine) where
  -- at first nothing was done
  pub comes_first : (scene : PartialScene) → PartialRunReaches pair_of t lines lines scene scene
  comes_first scene = record {
    done = [];
    turns = refl;
    known = refl;
    printed = told_append-none scene.pieces;
    answer = refl;
    ample = refl;
    paid = omega arith;
  }

  module _ (left : List PartialScriptLine) (before now : PartialScene)
      (comes : PartialRunReaches pair_of t lines left before now) where
    -- there is no memory for the next line
    pub stops_for_memory :
        RunsAll (partial_play pair_of t before.known lines) (Err status.Memory) before now
    stops_for_memory held =
        let rest = partial_play pair_of t now.known left in
        subst (λ turns. EndsPartial held turns status.Memory (partial_point before)
        (partial_point now)) (sym comes.turns) (record {
          ends = ends_without_memory held comes.done rest before.ample before.pieces now.pieces
              comes.printed;
          known = comes.known ∙ ap (known_last before.known) (sym (steps_before comes.done rest));
          paid = omega (arith, comes.paid, charged_more comes.done rest);
        })

    -- what was hashed is at most what all lines may hash
    pub pays_all : now.hashed
        ≤ before.hashed + partial_charges (partial_play pair_of t before.known lines)
    pays_all =
        let all = ap partial_charges comes.turns
        ∙ sum_by-append partial_charge_of comes.done (partial_play pair_of t now.known left) in
        omega (arith, comes.paid, all)

    -- no line is left
    pub does_all : left ≡ []
        → RunsAll (partial_play pair_of t before.known lines) (Ok tt) before now
    does_all none =
        let all : partial_play pair_of t before.known lines ≡ comes.done =
        comes.turns ∙ ap (λ ls. comes.done ++ partial_play pair_of t now.known ls) none
        ∙ append-nil comes.done in
        subst (λ turns. DoesPartialTurns turns before now) (sym all)
        (record { known = comes.known; printed = comes.printed; answer = comes.answer })

    -- the next line
    module _ (line : PartialScriptLine) (more : List PartialScriptLine) (taken : left ≡ line ∷ more)
        (after : PartialScene) where
      abbrev turn : PartialTurn
      turn = partial_step pair_of t now.known line

      abbrev rest : List PartialTurn
      rest = partial_play pair_of t (known_after turn) more

      split : partial_play pair_of t before.known lines ≡ comes.done ++ turn ∷ rest
      split = comes.turns ∙ ap (λ ls. comes.done ++ partial_play pair_of t now.known ls) taken

      -- is done
      pub comes_on : MakesPartialTurn turn now after
          → after.hashed ≤ now.hashed + partial_charge_of turn
          → PartialRunReaches pair_of t lines more before after
      comes_on makes paid = record {
        done = comes.done ++ turn ∷ [];
        turns = split ∙ sym (append_assoc comes.done (turn ∷ []) rest)
            ∙ ap (λ known. (comes.done ++ turn ∷ []) ++ partial_play pair_of t known more)
            (sym makes.known);
        known = makes.known ∙ sym (last_known before.known comes.done turn);
        printed = makes.printed
            ∙ ap (λ told. told_append told (partial_shown turn ∷ [])) comes.printed
            ∙ told_append-twice before.pieces (map partial_shown comes.done)
            (partial_shown turn ∷ [])
            ∙ ap (told_append before.pieces)
            (sym (map-append partial_shown comes.done (turn ∷ [])));
        answer = makes.answer ∙ ap (λ b. is_partial_refused turn || b) comes.answer
            ∙ swap (is_partial_refused turn) (list_any is_partial_refused comes.done) before.refused
            ∙ ap (λ b. b || before.refused)
            (sym (list_any-append is_partial_refused comes.done (turn ∷ [])));
        ample = makes.ample ∙ comes.ample;
        paid = omega (arith, paid, comes.paid, sum_by_push partial_charge_of comes.done turn);
      }

      -- or ends the run
      pub breaks_off : (ended : Status) → Breaks turn ended now after
          → after.hashed ≤ now.hashed + partial_charge_of turn
          → RunsAll (partial_play pair_of t before.known lines) (Err ended) before after
      breaks_off ended breaks paid held =
          subst (λ turns. EndsPartial held turns ended (partial_point before)
          (partial_point after)) (sym split) (by ended breaks)
        where
          with_turn : known_after turn
              ≡ known_last before.known (take (length comes.done + 1) (comes.done ++ turn ∷ rest))
          with_turn = sym (last_known before.known comes.done turn)
              ∙ ap (known_last before.known) (sym (steps_with comes.done turn rest))

          most : after.hashed ≤ before.hashed
              + partial_charges (take (length comes.done + 1) (comes.done ++ turn ∷ rest))
          most =
              let all = ap partial_charges (steps_with comes.done turn rest) in
              let both = sum_by_push partial_charge_of comes.done turn in
              omega (arith, paid, comes.paid, all, both)

          lacks : LacksPartialMemory turn now after
              → EndsPartial held (comes.done ++ turn ∷ rest) status.Memory (partial_point before)
              (partial_point after)
          lacks broken = by_known broken.known
            where
              printed : after.pieces ≡ told_append before.pieces (map partial_shown comes.done)
              printed = broken.printed ∙ comes.printed

              by_known : ((after.known ≡ now.known)
                  ⊎ ((after.known ≡ known_after turn) × (now.ample ≡ false)))
                  → EndsPartial held (comes.done ++ turn ∷ rest) status.Memory
                  (partial_point before) (partial_point after)
              by_known (inl same) = record {
                ends = ends_without_memory held comes.done (turn ∷ rest) before.ample before.pieces
                    after.pieces printed;
                known = same ∙ comes.known
                    ∙ ap (known_last before.known) (sym (steps_before comes.done (turn ∷ rest)));
                paid = most;
              }
              by_known (inr (made, wanting)) = record {
                ends = ends_ahead held comes.done turn rest before.ample before.pieces after.pieces
                    (sym comes.ample ∙ wanting) printed;
                known = made ∙ with_turn;
                paid = most;
              }

          by : (ended : Status) → Breaks turn ended now after
              → EndsPartial held (comes.done ++ turn ∷ rest) ended (partial_point before)
              (partial_point after)
          by status.WriteFault torn = record {
            ends = ends_torn held comes.done turn rest before.ample before.pieces after.pieces
                torn.count
                (torn.printed
                ∙ ap (λ told. told_append told (take torn.count (partial_shown turn) ∷ []))
                comes.printed
                ∙ told_append-twice before.pieces (map partial_shown comes.done)
                (take torn.count (partial_shown turn) ∷ []));
            known = torn.known ∙ with_turn;
            paid = most;
          }
          by status.Memory broken = lacks broken
          by status.Accepted is = absurd is
          by status.Refused is = absurd is
          by status.Usage is = absurd is
          by status.SchemaFault is = absurd is
          by status.ReadFault is = absurd is

      pub pays_so_far : after.hashed ≤ now.hashed + partial_charge_of turn
          → after.hashed ≤ before.hashed
          + partial_charges (partial_play pair_of t before.known lines)
      pays_so_far paid =
          let all = ap partial_charges split
          ∙ sum_by-append partial_charge_of comes.done (turn ∷ rest) in
          omega (arith, paid, comes.paid, all, sum_by-cons partial_charge_of turn rest)

-- a whole script
pub runs_to_end : (turns : List PartialTurn) (before after : PartialScene) (held : Content)
    → before.refused ≡ false → RunsAll turns (Ok tt) before after
    → after.hashed ≤ before.hashed + partial_charges turns
    → EndsPartial held turns (finished_status after.refused) (partial_point before)
    (partial_point after)
runs_to_end turns before after held none does paid =
    subst (λ (r : Bool). EndsPartial held turns (finished_status r) (partial_point before)
    (partial_point after)) (sym (does.answer ∙ ap (λ b. list_any is_partial_refused turns || b) none
    ∙ or_none (list_any is_partial_refused turns)))
    (by (list_any is_partial_refused turns) (finishes held turns before.pieces after.pieces
    does.printed))
  where
    or_none : (b : Bool) → (b || false) ≡ b
    or_none true = refl
    or_none false = refl

    known : after.known ≡ known_last before.known (take (length turns) turns)
    known = does.known ∙ ap (known_last before.known) (sym (take-length turns))

    most : after.hashed ≤ before.hashed + partial_charges (take (length turns) turns)
    most = let all = ap partial_charges (take-length turns) in omega (arith, paid, all)

    by : (b : Bool)
        → Finishes (partial_job_of held turns) (cond b status.Refused status.Accepted)
        before.pieces after.pieces (Some held)
        → EndsPartial held turns (cond b status.Refused status.Accepted) (partial_point before)
        (partial_point after)
    by true is = record { ends = is; known = known; paid = most }
    by false is = record { ends = is; known = known; paid = most }
