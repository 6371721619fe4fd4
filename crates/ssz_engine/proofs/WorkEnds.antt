-- How the two lines of a work are printed, and how the work ends.
use Rattle.std.proofs.Common.{ℕ, ◌≡◌, Bool, List, [], ◌∷◌, ◌++◌, take, Some, refl, sym, ap, ◌∙◌, inl, inr, arith}
use Rattle.std.specs.Prelude.{◌≢◌, Err, codes, decimal}
use Rattle.std.proofs.lemmas.List.{append-nil}
use Rattle.ssz_outside.specs.Content.{Content as Files}
use Rattle.ssz_outside.specs.Job.{CountsRun, Ends, IsThatOrStopped, Job}
use Rattle.ssz_outside.specs.Pieces.{Told, told_append}
use Rattle.ssz_outside.proofs.Told.{told_append-twice}
use Rattle.ssz_outside.specs.declared.status.Status.{Status}
use Rattle.ssz_outside.specs.declared.status.Status.TheVariants as status
use Rattle.ssz_proof.specs.Calculation.{PairOf}
use Rattle.ssz_script.specs.Texts.{line}
use Rattle.ssz_machine.specs.State.{Name, State}
use Rattle.ssz_machine.specs.Rules.{Rules}
use Rattle.ssz_machine.specs.Drawing.{worked}
use Rattle.ssz_machine.specs.Work.{Worked, turn_done, work_of}
use Rattle.ssz_script.specs.declared.statement.Statement.TheVariants.{Root}
use Rattle.ssz_decisions.specs.Content.{rules_of}
use Rattle.ssz_outside.specs.Printed.{PrintsLine}
use Rattle.ssz_engine.specs.Lines.{ended_by}
use Rattle.ssz_decisions.specs.Outside.{CountsWrites}
use Rattle.ssz_engine.specs.Scripts.{Point, Scene, point_of}
use Rattle.ssz_decisions.specs.Roots.{RisesBy}
use Rattle.ssz_engine.specs.Works.{AreBroken, AreDone, EndsWorkFrom, Replies, two_lines_job, whole_work}
use Rattle.ssz_decisions.specs.declared.fault.EngineFault.{EngineFault}
use Rattle.ssz_decisions.specs.declared.fault.EngineFault.TheVariants.{Read, Write, Memory}
use Rattle.ssz_engine.proofs.Scripts.{told_append-none}
use Rattle.ssz_engine.proofs.WorkSteps.{broken_paid}

module _ (ample : Bool) (held : Files) (first second : List ℕ) where
  abbrev job : Job
  job = two_lines_job held first second

  -- nothing was printed
  pub lines_none : (old : Told) → Ends ample status.Memory job old old (Some held)
  lines_none old =
      (0, inl (omega arith, record { printed = told_append-none old; held = refl }))

  -- the first line was not, or in part
  pub lines_first : (ended : Status) (old new : Told)
      → PrintsLine {T = Unit {0}} (Err ended) first old new
      → Ends ample ended job old new (Some held)
  lines_first status.WriteFault old new prints = (
    0,
    omega arith,
    inr (record {
      line = first;
      count = prints.0;
      whole = refl;
      printed = prints.1;
      held = refl;
    }),
  )
  lines_first status.Memory old new prints =
      (0, inl (omega arith, record { printed = prints ∙ told_append-none old; held = refl }))
  lines_first status.Accepted old new prints = absurd prints
  lines_first status.Refused old new prints = absurd prints
  lines_first status.Usage old new prints = absurd prints
  lines_first status.SchemaFault old new prints = absurd prints
  lines_first status.ReadFault old new prints = absurd prints

  module _ (old mid new : Told) (first_is : mid ≡ told_append old (first ∷ [])) where
    behind : (pieces : List (List ℕ)) → new ≡ told_append mid pieces
        → new ≡ told_append old ((first ∷ []) ++ pieces)
    behind pieces more =
        more ∙ ap (λ told. told_append told pieces) first_is
        ∙ told_append-twice old (first ∷ []) pieces

    -- both were
    pub lines_both : new ≡ told_append mid (second ∷ [])
        → Ends ample status.Accepted job old new (Some held)
    lines_both more = record {
      status = refl;
      last = record { printed = behind (second ∷ []) more; held = refl };
    }

    -- the second was not, or in part
    pub lines_second : (ended : Status) → PrintsLine {T = Unit {0}} (Err ended) second mid new
        → Ends ample ended job old new (Some held)
    lines_second status.WriteFault prints = (
      1,
      omega arith,
      inr (record {
        line = second;
        count = prints.0;
        whole = refl;
        printed = behind (take prints.0 second ∷ []) prints.1;
        held = refl;
      }),
    )
    lines_second status.Memory prints =
        (1, inl (omega arith, record { printed = prints ∙ first_is; held = refl }))
    lines_second status.Accepted prints = absurd prints
    lines_second status.Refused prints = absurd prints
    lines_second status.Usage prints = absurd prints
    lines_second status.SchemaFault prints = absurd prints
    lines_second status.ReadFault prints = absurd prints

no-read : (P : Type 0) → Read ≡ Memory → P
no-read P e = cc

no-write : (P : Type 0) → Write ≡ Memory → P
no-write P e = cc

module _ (pair_of : PairOf) (type_name : Name) (seed count : ℕ) (before after : Scene)
    (first : State) (told : before.told ≡ Some first.files) where
  abbrev rules : Rules
  rules = rules_of pair_of before.engine

  abbrev work : Worked
  work = work_of rules first type_name seed count

  abbrev whole : Worked
  whole = whole_work rules first type_name seed count

  abbrev old : Point
  old = point_of before

  abbrev new : Point
  new = point_of after

  -- there was no memory for the work
  pub work_broken : (fault : EngineFault) → AreBroken whole.turns fault old new
      → after.pieces ≡ before.pieces
      → EndsWorkFrom rules type_name seed count first (ended_by fault) before after
  work_broken Read broken pieces = no-read _ broken.memory
  work_broken Write broken pieces = no-write _ broken.memory
  work_broken Memory broken pieces = record {
    ends = (
      0,
      inl (
        omega arith,
        record {
          printed = pieces ∙ told_append-none before.pieces;
          held = broken.told ∙ told;
        },
      ),
    );
    paid = broken_paid whole.turns Memory old new broken;
    through = λ other. absurd (other refl);
    roots = λ other. absurd (other refl);
    least = λ other. absurd (other refl);
    stopped = λ same. record {
      done = broken.done;
      left = broken.next ∷ broken.left;
      all = broken.all;
      stands = broken.stands;
      paid = broken.paid;
    };
  }

  -- it was done, and the lines were printed or not
  pub work_done : (ended : Status) (made : ℕ) (reply : List ℕ)
      → AreDone whole.turns whole.state old new → made ≡ work.edits
      → Replies (turn_done rules work.state (Root worked)) reply
      → Ends before.ample ended (two_lines_job first.files
      (line (codes "work" ∷ decimal count ∷ decimal made ∷ [])) reply) before.pieces after.pieces
      (Some first.files)
      → RisesBy whole.tops before.hashed after.hashed
      → EndsWorkFrom rules type_name seed count first ended before after
  work_done ended made reply all edits replies ends least = record {
    ends = rw (all.told ∙ told, sym edits, sym replies) ends;
    paid = let paid = all.paid in omega (arith, paid);
    through = λ other. record { paid = all.paid; stands = all.at.versions };
    roots = λ other. all.roots;
    least = λ other. least;
    stopped = λ same. record {
      done = whole.turns;
      left = [];
      all = sym (append-nil whole.turns);
      stands = all.at.versions;
      paid = let paid = all.paid in omega (arith, paid);
    };
  }

-- a fault that is no failed read is counted as its status says
pub ended_counts : (fault : EngineFault) (gets gets_now puts puts_now sinks : ℕ)
    → fault ≢ Read → gets_now ≡ gets
    → CountsWrites {T = ℕ} (Err fault) puts puts_now
    → CountsRun (ended_by fault) gets gets_now puts puts_now sinks sinks
ended_counts Read gets gets_now puts puts_now sinks no_read same counts = absurd (no_read refl)
ended_counts Write gets gets_now puts puts_now sinks no_read same counts =
    (same, inl (counts, refl))
ended_counts Memory gets gets_now puts puts_now sinks no_read same counts = (same, counts, refl)

pub ended_stops : (fault : EngineFault) → fault ≢ Read
    → IsThatOrStopped status.Accepted (ended_by fault)
ended_stops Read no_read = absurd (no_read refl)
ended_stops Write no_read = tt
ended_stops Memory no_read = tt
