-- From one point of a run to the next, or to its end.
use Rattle.std.proofs.Common.{ℕ, ◌+◌, ◌-◌, ◌≤◌, ◌≡◌, Bool, true, false, List, [], ◌∷◌, ◌++◌, length, replicate, take, Option, refl, sym, ap, ap₂, ◌∙◌, subst, arith, append_assoc}
use Rattle.std.specs.Prelude.{◌||◌}
use Rattle.std.specs.List.{list_any, AllByRecursion}
use Rattle.std.proofs.lemmas.Bool.{or_parts}
use Rattle.std.proofs.lemmas.List.{map-append}
use Rattle.ssz_arena.specs.Content.{unhashed}
use Rattle.ssz_outside.specs.Asked.{AsksOf, asks_append}
use Rattle.ssz_outside.specs.Content.{Content as Files}
use Rattle.ssz_outside.specs.Outcome.{WritesPart}
use Rattle.ssz_outside.specs.Pieces.{Told, told_append}
use Rattle.ssz_outside.proofs.Told.{told_append-twice}
use Rattle.ssz_outside.specs.declared.status.Status.TheVariants as status
use Rattle.ssz_proof.specs.Calculation.{PairOf}
use Rattle.ssz_schema.specs.Unfolding.{Types}
use Rattle.ssz_script.specs.Texts.{reply_line}
use Rattle.ssz_machine.specs.declared.place.Place.{Place}
use Rattle.ssz_machine.specs.Machine.{Line, Turn, step, reply_of, state_of, is_refused, misses}
use Rattle.ssz_machine.specs.Plays.{Event, says, line_prefix, next_number, play, shown, shown_all, charges}
use Rattle.ssz_machine.specs.Runs.{IsUnderWay}
use Rattle.ssz_machine.proofs.UnderWay.{line_follows, under_way_line}
use Rattle.ssz_machine.proofs.Endings.{ends_without_memory, ends_unread, ends_torn_file, ends_torn_line, ends_ahead, begun_without_memory, begun_unread, begun_torn_file, begun_torn_line, begun_ahead, steps_without_memory, steps_unread, steps_torn_file, steps_torn_line, steps_ahead}
use Rattle.ssz_decisions.specs.Content.{EngineContent, rules_of, KeepsEngine}
use Rattle.ssz_engine.specs.Steps.{SavesPart, is_refusal}
use Rattle.ssz_decisions.specs.Standing.{StaysFor}
use Rattle.ssz_engine.specs.Scripts.{AsksSteps, IsStopped, Scene, asks_of_turn, asks_of_turns, files_reached, point_of}
use Rattle.ssz_engine.specs.Points.{Course, RunReaches, IsCutShort, PaysSteps, turns_of}
use Rattle.ssz_engine.specs.Lines.{MakesTurn, Missed}
use Rattle.ssz_decisions.specs.declared.outcome.Outcome.{Outcome}
use Rattle.ssz_engine.proofs.Asks.{AsksNext, asks_at, asks_done, asks_next, asks_on}
use Rattle.ssz_engine.proofs.Paying.{pays_step, pays_total}
use Rattle.ssz_engine.proofs.Reaching.{reached_at}
use Rattle.ssz_engine.proofs.Settling.{pays_nothing, settled}
use Rattle.ssz_engine.proofs.Stopping.{stopped_at}

-- the rules stay where types and limit do
pub same_rules : (pair_of : PairOf) (old new : EngineContent) → KeepsEngine old new
    → rules_of pair_of new ≡ rules_of pair_of old
same_rules pair_of old new keeps =
    ap₂ (λ (types : Types) (most : ℕ). rules_of pair_of (record old { types = types; most = most }))
    keeps.types keeps.most

any-append : (done : List Turn) (turn : Turn) (before was : Bool)
    → before ≡ list_any is_refused done → was ≡ is_refused turn
    → (was || before) ≡ list_any is_refused (done ++ turn ∷ [])
any-append done turn before was old new = rw (old, new) (sides done)
  where
    swap : (a b : Bool) → (a || b) ≡ (b || (a || false))
    swap true true = refl
    swap true false = refl
    swap false true = refl
    swap false false = refl

    under : (a b c d : Bool) → (b || c) ≡ d → (b || (a || c)) ≡ (a || d)
    under true true c d same = refl
    under true false c d same = refl
    under false b c d same = same

    sides : (done : List Turn)
        → (is_refused turn || list_any is_refused done)
        ≡ list_any is_refused (done ++ turn ∷ [])
    sides [] = refl
    sides (first ∷ done) =
        under (is_refused first) (is_refused turn) (list_any is_refused done) _ (sides done)

none-append : (p : Turn → Bool) (done : List Turn) (turn : Turn) → list_any p done ≡ false
    → p turn ≡ false → list_any p (done ++ turn ∷ []) ≡ false
none-append p [] turn none last = rw last refl
none-append p (first ∷ done) turn none last =
    let parts = or_parts (p first) (list_any p done) none in
    rw parts.0 (none-append p done turn parts.1 last)

-- What is so of a line that was not done: no pair was hashed beyond those that were to be hashed,
-- and what was stood for is stood for.
pub record Passes (before after : Scene) : Type 0 where
  pub rises : before.hashed ≤ after.hashed
  pub most : after.hashed ≤ before.hashed + unhashed before.engine.arena
  pub stays : StaysFor before.engine after.engine

-- so it is of no line
pub passes_none : (scene : Scene) → Passes scene scene
passes_none scene = record {
  rises = omega arith;
  most = omega arith;
  stays = λ versions stands. stands;
}

no-read-write : (P : Type 0) → status.WriteFault ≡ status.ReadFault → P
no-read-write P e = absurd cc

no-read-memory : status.Memory ≡ status.ReadFault → ⊥
no-read-memory e = cc

module _ (pair_of : PairOf) (place : Place) (course : Course) where
  -- the numbers of the lines to come, where no pair is hashed any more
  abbrev last : Scene → List Event → List ℕ
  last scene left = replicate (length left) (scene.hashed - course.base)

  -- what was hashed in a line that was not done was left before it
  owed_still : (before after : Scene) (done : List Turn)
      → PaysSteps course.base done course.hashed course.left before.hashed
      (unhashed before.engine.arena)
      → Passes before after → after.hashed ≤ course.hashed + course.left + charges done
  owed_still before after done pays passes =
      let total = pays_total course.base done course.hashed course.left before.hashed
      (unhashed before.engine.arena) pays in
      let most = passes.most in
      omega arith

  -- no memory between two lines
  pub no_memory : (left : List Event) (refused : Bool) (before after : Scene)
      (c : RunReaches pair_of place course left refused before) → after.told ≡ before.told
      → after.pieces ≡ before.pieces → Passes before after
      → AsksNext course.rules (play course.rules place (last before left) c.state left)
      before.asked after.asked → IsCutShort place course status.Memory before after
  no_memory left refused before after c told pieces passes asks =
      let u = c.at.under in
      let printed = pieces ∙ c.at.printed in
      let held = told ∙ c.at.files in
      record {
        numbers = u.numbers ++ last before left;
        ends = ends_without_memory course.rules place course.events course.first c.at.front c.done
            c.state left c.at.all u (last before left) course.ample course.pieces after.pieces
            after.told printed held;
        now = before.hashed;
        rest = unhashed before.engine.arena;
        pays = settled course.rules place course.base before.hashed (unhashed before.engine.arena)
            course.events c.at.front course.first c.done c.state left course.hashed course.left
            c.at.all u c.at.pays;
        most = passes.rises;
        least = passes.most;
        broken = λ done. done;
        reached = λ all. no-read-memory;
        stopped = stopped_at course.rules place course.events c.at.front course.first c.done
            c.state left (course.hashed + course.left) after u (u.numbers ++ last before left)
            (record { more = last before left; are = refl }) c.at.all _
            (steps_without_memory course.rules place course.events course.first c.at.front c.done
            c.state left c.at.all u (last before left) course.ample course.pieces after.pieces
            after.told printed held)
            (passes.stays c.state.versions c.at.versions)
            (owed_still before after c.done c.at.pays passes);
        asks = asks_at course.rules (turns_of place course (u.numbers ++ last before left)) c.done
            (play course.rules place (last before left) c.state left) _ _ course.asked before.asked
            after.asked
            (ap (λ es. play course.rules place (u.numbers ++ last before left) course.first es)
            c.at.all ∙ u.turns left (last before left))
            (steps_without_memory course.rules place course.events course.first c.at.front c.done
            c.state left c.at.all u (last before left) course.ample course.pieces after.pieces
            after.told printed held)
            (begun_without_memory course.rules place course.events course.first c.at.front c.done
            c.state left c.at.all u (last before left) course.ample course.pieces after.pieces
            after.told printed held) c.at.asked asks;
      }

  module _ (writer : ℕ) (line : Line) (left : List Event) (was : Bool) (before after : Scene)
      (c : RunReaches pair_of place course (says writer line ∷ left) was before) where
    abbrev number : ℕ
    number = before.hashed - course.base

    abbrev turn : Turn
    turn = step course.rules place number c.state writer line

    abbrev on : IsUnderWay course.rules place (c.at.front ++ says writer line ∷ []) course.first
        (c.done ++ turn ∷ []) (state_of turn)
    on = under_way_line course.rules place course.first c.at.front c.done c.state writer line
        number c.at.under

    longer : course.events ≡ (c.at.front ++ says writer line ∷ []) ++ left
    longer = c.at.all ∙ sym (append_assoc c.at.front (says writer line ∷ []) left)

    abbrev numbers_before : List ℕ
    numbers_before = on.numbers ++ last before left

    -- paid for, as if nothing were hashed in this line
    pays_before : PaysSteps course.base
        (turns_of place course numbers_before) course.hashed course.left
        before.hashed (unhashed before.engine.arena)
    pays_before =
        settled course.rules place course.base before.hashed (unhashed before.engine.arena)
        course.events (c.at.front ++ says writer line ∷ []) course.first (c.done ++ turn ∷ [])
        (state_of turn) left course.hashed course.left longer on
        (pays_step course.base c.done turn course.hashed course.left before.hashed
        (unhashed before.engine.arena) before.hashed (unhashed before.engine.arena) c.at.pays
        (pays_nothing course.rules place course.base before.hashed (unhashed before.engine.arena)
        c.state writer line))

    split : (numbers : List ℕ)
        → turns_of place course (on.numbers ++ numbers)
        ≡ c.done ++ turn ∷ play course.rules place numbers (state_of turn) left
    split numbers =
        ap (λ es. play course.rules place (on.numbers ++ numbers) course.first es) longer
        ∙ on.turns left numbers
        ∙ append_assoc c.done (turn ∷ []) (play course.rules place numbers (state_of turn) left)

    -- the line was not done
    stopped_before : (after : Scene) → Passes before after → (steps : ℕ) → steps ≡ length c.done
        → IsStopped course.rules place course.events course.first numbers_before steps
        (course.hashed + course.left) after
    stopped_before after passes steps are =
        stopped_at course.rules place course.events c.at.front course.first c.done c.state
        (says writer line ∷ left) (course.hashed + course.left) after c.at.under numbers_before
        (line_follows course.rules place course.first c.at.front c.done c.state writer line number
        c.at.under (last before left)) c.at.all steps are
        (passes.stays c.state.versions c.at.versions)
        (owed_still before after c.done c.at.pays passes)

    -- and its file was asked for, or not
    asked_before : (after : Scene) (least most : ℕ) → least ≡ length c.done
        → most ≡ length c.done + 1
        → AsksOf true (asks_of_turn course.rules turn) before.asked after.asked
        → AsksSteps course.rules (turns_of place course numbers_before) least most course.asked
        after.asked
    asked_before after least most are more asks =
        asks_at course.rules (turns_of place course numbers_before) c.done
        (turn ∷ play course.rules place (last before left) (state_of turn) left) least most
        course.asked before.asked after.asked (split (last before left)) are more c.at.asked
        (asks_next course.rules turn _ before.asked after.asked asks)

    pub line_unread : Missed course.rules turn (point_of before) (point_of after)
        → after.pieces ≡ before.pieces → Passes before after
        → AsksOf true (asks_of_turn course.rules turn) before.asked after.asked
        → IsCutShort place course status.ReadFault before after
    line_unread missed pieces passes asks =
        let printed = pieces ∙ c.at.printed in
        let held = missed.files ∙ c.at.files in
        record {
          numbers = numbers_before;
          ends = ends_unread course.rules place course.events course.first c.at.front c.done
              c.state writer line left number c.at.all c.at.under (last before left) course.ample
              course.pieces after.pieces after.told c.at.found missed.stops printed held;
          now = before.hashed;
          rest = unhashed before.engine.arena;
          pays = pays_before;
          most = passes.rises;
          least = passes.most;
          broken = λ done. done;
          reached = λ all e. missed.unread (reached_at before.readable course.rules c.done turn
              (play course.rules place (last before left) (state_of turn) left) missed.name
              missed.reads missed.named
              (subst (λ turns. AllByRecursion before.readable (files_reached course.rules turns))
              (split (last before left)) all));
          stopped = stopped_before after passes _
              (steps_unread course.rules place course.events course.first c.at.front c.done
              c.state writer line left number c.at.all c.at.under (last before left) course.ample
              course.pieces after.pieces after.told c.at.found missed.stops printed held);
          asks = asked_before after _ _
              (steps_unread course.rules place course.events course.first c.at.front c.done
              c.state writer line left number c.at.all c.at.under (last before left) course.ample
              course.pieces after.pieces after.told c.at.found missed.stops printed held)
              (begun_unread course.rules place course.events course.first c.at.front c.done
              c.state writer line left number c.at.all c.at.under (last before left) course.ample
              course.pieces after.pieces after.told c.at.found missed.stops printed held) asks;
        }

    pub line_unwritten : SavesPart turn before.told after.told → after.pieces ≡ before.pieces
        → Passes before after
        → AsksOf true (asks_of_turn course.rules turn) before.asked after.asked
        → IsCutShort place course status.WriteFault before after
    line_unwritten part pieces passes asks =
        let printed = pieces ∙ c.at.printed in
        let tears = subst (λ (told : Option Files).
        WritesPart part.0.name part.0.bytes told after.told)
        c.at.files part.2 in
        record {
          numbers = numbers_before;
          ends = ends_torn_file course.rules place course.events course.first c.at.front c.done
              c.state writer line left number c.at.all c.at.under (last before left) course.ample
              course.pieces after.pieces after.told part.0 part.1 printed tears;
          now = before.hashed;
          rest = unhashed before.engine.arena;
          pays = pays_before;
          most = passes.rises;
          least = passes.most;
          broken = λ done. done;
          reached = λ all. no-read-write ⊥;
          stopped = stopped_before after passes _
              (steps_torn_file course.rules place course.events course.first c.at.front c.done
              c.state writer line left number c.at.all c.at.under (last before left) course.ample
              course.pieces after.pieces after.told part.0 part.1 printed tears);
          asks = asked_before after _ _
              (steps_torn_file course.rules place course.events course.first c.at.front c.done
              c.state writer line left number c.at.all c.at.under (last before left) course.ample
              course.pieces after.pieces after.told part.0 part.1 printed tears)
              (begun_torn_file course.rules place course.events course.first c.at.front c.done
              c.state writer line left number c.at.all c.at.under (last before left) course.ample
              course.pieces after.pieces after.told part.0 part.1 printed tears) asks;
        }

    pub line_memory : after.told ≡ before.told → after.pieces ≡ before.pieces → Passes before after
        → AsksOf true (asks_of_turn course.rules turn) before.asked after.asked
        → IsCutShort place course status.Memory before after
    line_memory told pieces passes asks =
        no_memory (says writer line ∷ left) was before after c told pieces passes
        (asks_next course.rules (step course.rules place
        (next_number (last before (says writer line ∷ left))) c.state writer line) _ before.asked
        after.asked asks)

    module _ (made : Outcome) (text piece : List ℕ)
        (makes : MakesTurn course.rules course.base turn made (point_of before)
        (point_of after) text
        piece)
        (fronted : text ≡ line_prefix place writer)
        (asks : AsksOf false (asks_of_turn course.rules turn) before.asked after.asked) where
      is_shown : piece ≡ shown place turn
      is_shown = makes.line ∙ ap (λ t. t ++ reply_line (reply_of turn)) fronted

      more_lines : shown_all place (c.done ++ turn ∷ []) ≡ shown_all place c.done ++ piece ∷ []
      more_lines =
          map-append (shown place) c.done (turn ∷ [])
          ∙ ap (λ (p : List ℕ). shown_all place c.done ++ p ∷ []) (sym is_shown)

      pays_after : PaysSteps course.base
          (c.done ++ turn ∷ []) course.hashed course.left after.hashed
          (unhashed after.engine.arena)
      pays_after =
          pays_step course.base c.done turn course.hashed course.left before.hashed
          (unhashed before.engine.arena) after.hashed (unhashed after.engine.arena) c.at.pays
          makes.pays

      asked_after : after.asked
          ≡ asks_append course.asked (asks_of_turns course.rules (c.done ++ turn ∷ []))
      asked_after =
          asks_on course.rules c.done turn course.asked before.asked after.asked c.at.asked asks

      -- the line was done and printed
      pub line_done : after.pieces ≡ told_append before.pieces (piece ∷ [])
          → KeepsEngine before.engine after.engine → after.ample ≡ before.ample
          → RunReaches pair_of place course left (is_refusal made || was) after
      line_done printed keeps ample = record {
        done = c.done ++ turn ∷ [];
        state = state_of turn;
        at = record {
          front = c.at.front ++ says writer line ∷ [];
          all = longer;
          under = on;
          rules = same_rules pair_of before.engine after.engine keeps ∙ c.at.rules;
          base = keeps.base ∙ c.at.base;
          versions = makes.versions;
          files = makes.files;
          printed = printed ∙ ap (λ (t : Told). told_append t (piece ∷ [])) c.at.printed
              ∙ told_append-twice course.pieces (shown_all place c.done) (piece ∷ [])
              ∙ ap (told_append course.pieces) (sym more_lines);
          asked = asked_after;
          ample = ample ∙ c.at.ample;
          answer = any-append c.done turn was (is_refusal made) c.at.answer makes.outcome;
          found = none-append (misses course.rules) c.done turn c.at.found makes.found;
          pays = pays_after;
        };
      }

      abbrev numbers_after : List ℕ
      numbers_after = on.numbers ++ last after left

      pays_settled : PaysSteps course.base (turns_of place course numbers_after) course.hashed
          course.left after.hashed (unhashed after.engine.arena)
      pays_settled =
          settled course.rules place course.base after.hashed (unhashed after.engine.arena)
          course.events (c.at.front ++ says writer line ∷ []) course.first (c.done ++ turn ∷ [])
          (state_of turn) left course.hashed course.left longer on pays_after

      -- the line was done
      stopped_behind : (steps : ℕ) → steps ≡ length (c.done ++ turn ∷ [])
          → IsStopped course.rules place course.events course.first numbers_after steps
          (course.hashed + course.left) after
      stopped_behind steps are =
          stopped_at course.rules place course.events (c.at.front ++ says writer line ∷ [])
          course.first (c.done ++ turn ∷ []) (state_of turn) left (course.hashed + course.left)
          after on numbers_after (record { more = last after left; are = refl }) longer steps are
          makes.versions
          (let total = pays_total course.base (c.done ++ turn ∷ []) course.hashed course.left
          after.hashed (unhashed after.engine.arena) pays_after in omega arith)

      -- and its file was asked for
      asked_behind : (least most : ℕ) → least ≡ length (c.done ++ turn ∷ [])
          → most ≡ length (c.done ++ turn ∷ [])
          → AsksSteps course.rules (turns_of place course numbers_after) least most course.asked
          after.asked
      asked_behind least most are more =
          asks_done course.rules (turns_of place course numbers_after) (c.done ++ turn ∷ [])
          (play course.rules place (last after left) (state_of turn) left) least most course.asked
          after.asked
          (ap (λ es. play course.rules place numbers_after course.first es) longer
          ∙ on.turns left (last after left)) are more asked_after

      -- it was done, and printed in part
      pub line_cut : (count : ℕ) → after.pieces ≡ told_append before.pieces (take count piece ∷ [])
          → IsCutShort place course status.WriteFault before after
      line_cut count cut =
          let printed : after.pieces ≡ told_append course.pieces (shown_all place c.done
          ++ take count (shown place turn) ∷ []) =
          cut ∙ ap (λ (t : Told). told_append t (take count piece ∷ [])) c.at.printed
          ∙ told_append-twice course.pieces (shown_all place c.done) (take count piece ∷ [])
          ∙ ap (λ p. told_append course.pieces (shown_all place c.done ++ take count p ∷ []))
          is_shown in
          record {
            numbers = numbers_after;
            ends = ends_torn_line course.rules place course.events course.first c.at.front c.done
                c.state writer line left number c.at.all c.at.under (last after left) course.ample
                course.pieces after.pieces after.told count printed makes.files;
            now = after.hashed;
            rest = unhashed after.engine.arena;
            pays = pays_settled;
            most = omega arith;
            least = omega arith;
            broken = λ done. done;
            reached = λ all. no-read-write ⊥;
            stopped = stopped_behind _
                (steps_torn_line course.rules place course.events course.first c.at.front c.done
                c.state writer line left number c.at.all c.at.under (last after left)
                course.ample course.pieces after.pieces after.told count printed makes.files);
            asks = asked_behind _ _
                (steps_torn_line course.rules place course.events course.first c.at.front c.done
                c.state writer line left number c.at.all c.at.under (last after left)
                course.ample course.pieces after.pieces after.told count printed makes.files)
                (begun_torn_line course.rules place course.events course.first c.at.front c.done
                c.state writer line left number c.at.all c.at.under (last after left)
                course.ample course.pieces after.pieces after.told count printed makes.files);
          }

      -- it was done, and there was no memory to print it
      pub line_ahead : before.ample ≡ false → after.pieces ≡ before.pieces
          → IsCutShort place course status.Memory before after
      line_ahead wanting same =
          let wants = sym c.at.ample ∙ wanting in
          let printed = same ∙ c.at.printed in
          record {
            numbers = numbers_after;
            ends = ends_ahead course.rules place course.events course.first c.at.front c.done
                c.state writer line left number c.at.all c.at.under (last after left) course.ample
                course.pieces after.pieces after.told wants printed makes.files;
            now = after.hashed;
            rest = unhashed after.engine.arena;
            pays = pays_settled;
            most = omega arith;
            least = omega arith;
            broken = λ done. done;
            reached = λ all. no-read-memory;
            stopped = stopped_behind _
                (steps_ahead course.rules place course.events course.first c.at.front c.done
                c.state writer line left number c.at.all c.at.under (last after left)
                course.ample course.pieces after.pieces after.told wants printed makes.files);
            asks = asked_behind _ _
                (steps_ahead course.rules place course.events course.first c.at.front c.done
                c.state writer line left number c.at.all c.at.under (last after left)
                course.ample course.pieces after.pieces after.told wants printed makes.files)
                (begun_ahead course.rules place course.events course.first c.at.front c.done
                c.state writer line left number c.at.all c.at.under (last after left)
                course.ample course.pieces after.pieces after.told wants printed makes.files);
          }
