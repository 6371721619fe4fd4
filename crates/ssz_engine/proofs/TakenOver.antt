-- Writers that take over what the base's writer holds.
use Rattle.std.proofs.Common.{ℕ, zero, suc, ◌+◌, ◌<◌, ◌≤◌, ◌≡◌, ◌≢◌, ◌==◌, Bool, true, false, cond, List, [], ◌∷◌, ◌++◌, length, take, Option, Some, refl, sym, ap, ◌∙◌, subst, arith, append_assoc}
use Rattle.std.specs.Prelude.{nat_lt, Ok, Err}
use Rattle.std.proofs.lemmas.Bool.Decides.{nat_tests, Decides-eqb}
use Rattle.std.proofs.lemmas.List.{append-nil}
use Rattle.ssz_schema.specs.Unfolding.{Types}
use Rattle.ssz_arena.specs.Content.{ArenaContent as Nodes, unhashed, KeepsNodes}
use Rattle.ssz_outside.specs.declared.status.Status.TheVariants as status
use Rattle.ssz_proof.specs.Calculation.{PairOf}
use Rattle.ssz_versions.specs.Content.{Entries, Held, held_at}
use Rattle.ssz_machine.specs.declared.place.Place.TheVariants.{Weave}
use Rattle.ssz_machine.specs.State.{Name, State, Versions, version_of}
use Rattle.ssz_machine.specs.Rules.{Rules}
use Rattle.ssz_machine.specs.Machine.{Line, Turn}
use Rattle.ssz_machine.specs.Plays as plays
use Rattle.ssz_machine.specs.Plays.{Event, adopted, adoptions, base_writer}
use Rattle.ssz_machine.specs.Runs.{IsUnderWay}
use Rattle.ssz_machine.proofs.UnderWay.{under_way_adopts}
use Rattle.ssz_decisions.specs.Content.{EngineContent, SameNodes, rules_of}
use Rattle.ssz_decisions.specs.Standing.{Match, StandsFor, StandsForVersions}
use Rattle.ssz_engine.proofs.Asks.{asks_still}
use Rattle.ssz_engine.proofs.Comings.{no_memory, passes_none}
use Rattle.ssz_engine.proofs.Leading.{earlier}
use Rattle.ssz_engine.specs.Points.{RunReaches, Course, IsCutShort, PaysSteps, Runs}
use Rattle.ssz_decisions.specs.Adopted.{AdoptsAll, AdoptsSome}
use Rattle.ssz_arena.proofs.Keeping.{keeps_same}
use Rattle.ssz_engine.specs.Scripts.{Scene}

-- The machine's state after the adoptions of some scripts.

abbrev after_all : ℕ → List (List Line) → State → State
after_all n [] state = state
after_all n (script ∷ scripts) state = after_all (n + 1) scripts (adopted n state)

same_side : (b : Bool) (versions : Versions) → cond b versions versions ≡ versions
same_side true versions = refl
same_side false versions = refl

unlike : (w n : ℕ) → w ≢ n → (w == n) ≡ false
unlike w n apart = grind (arith, nat_tests, Decides-eqb)

after_before : (n w : ℕ) (scripts : List (List Line)) (state : State) → w < n
    → (after_all n scripts state).versions w ≡ state.versions w
after_before n w [] state less = refl
after_before n w (script ∷ scripts) state less =
    let apart : (w == n) ≡ false = grind (arith, nat_tests) in
    after_before (n + 1) w scripts (adopted n state) (omega arith) ∙ rw apart refl

after_behind : (n w : ℕ) (scripts : List (List Line)) (state : State) → n + length scripts ≤ w
    → (after_all n scripts state).versions w ≡ state.versions w
after_behind n w [] state more = refl
after_behind n w (script ∷ scripts) state more =
    let apart : (w == n) ≡ false = grind (arith, nat_tests) in
    after_behind (n + 1) w scripts (adopted n state) (omega arith) ∙ rw apart refl

after_within : (n w k : ℕ) (scripts : List (List Line)) (state : State) → w ≡ n + k
    → k < length scripts
    → (after_all n scripts state).versions w ≡ state.versions base_writer
after_within n w k [] state is known = absurd (omega arith)
after_within n w zero (script ∷ scripts) state is known =
    let same : (w == n) ≡ true = grind (arith, nat_tests) in
    after_before (n + 1) w scripts (adopted n state) (omega arith) ∙ rw same refl
after_within n w (suc k) (script ∷ scripts) state is known =
    after_within (n + 1) w k scripts (adopted n state) (omega arith) (omega arith)
    ∙ same_side (base_writer == n) (state.versions base_writer)

after_files : (n : ℕ) (scripts : List (List Line)) (state : State)
    → (after_all n scripts state).files ≡ state.files
after_files n [] state = refl
after_files n (script ∷ scripts) state = after_files (n + 1) scripts (adopted n state)

-- the entries of one writer stand for what those of another stood for
taken_over : (types : Types) (arena : Nodes) (old new : Entries) (from to : ℕ)
    (versions : Versions) → ((name : Name) → held_at new to name ≡ held_at old from name)
    → StandsForVersions types arena old from versions
    → StandsForVersions types arena new to versions
taken_over types arena old new from to versions same stand = record {
  sorted = stand.sorted;
  each = λ name. subst (λ (held : Option Held).
      Match types arena held (version_of name versions)) (sym (same name)) (stand.each name);
}

module _ (scripts : List (List Line)) (state : State) (old new : EngineContent)
    (few : length scripts ≤ base_writer) (nodes : SameNodes old new)
    (adopts : AdoptsAll (length scripts) old.entries new.entries)
    (stands : StandsFor old state.versions) where
  over_same_nodes : (from to : ℕ)
      → ((name : Name) → held_at new.entries to name ≡ held_at old.entries from name)
      → StandsForVersions new.types new.arena new.entries to (state.versions from)
  over_same_nodes from to same =
      subst (λ (types : Types). StandsForVersions types new.arena new.entries to
      (state.versions from)) (sym nodes.types)
      (subst (λ (arena : Nodes). StandsForVersions old.types arena new.entries to
      (state.versions from)) (sym nodes.arena)
      (taken_over old.types old.arena old.entries new.entries from to (state.versions from) same
      (stands.each from)))

  pub stands_adopted : StandsFor new (after_all 0 scripts state).versions
  stands_adopted = record {
    each = λ writer.
        (elim (nat_lt writer (length scripts)) as (λ b. nat_lt writer (length scripts) ≡ b
        → StandsForVersions new.types new.arena new.entries writer
        ((after_all 0 scripts state).versions writer)) [
          | true ↦ λ known.
              let within : writer < length scripts = below writer known in
              subst (λ (versions : Versions).
              StandsForVersions new.types new.arena new.entries writer versions)
              (sym (after_within 0 writer writer scripts state (omega arith) within))
              (over_same_nodes base_writer writer
              (λ name. adopts writer name ∙ rw known refl))
          | false ↦ λ known.
              let behind : length scripts ≤ writer = above writer known in
              subst (λ (versions : Versions).
              StandsForVersions new.types new.arena new.entries writer versions)
              (sym (after_behind 0 writer scripts state (omega arith)))
              (over_same_nodes writer writer (λ name. adopts writer name ∙ rw known refl))
        ] refl);
  }
    where
      below : (writer : ℕ) → nat_lt writer (length scripts) ≡ true → writer < length scripts
      below writer known = grind (arith, nat_tests)

      above : (writer : ℕ) → nat_lt writer (length scripts) ≡ false → length scripts ≤ writer
      above writer known = grind (arith, nat_tests)

under_way_all_adopt : (rules : Rules) (front : List Event) (first : State) (done : List Turn)
    (n : ℕ) (scripts : List (List Line)) (state : State)
    → IsUnderWay rules Weave front first done state
    → IsUnderWay rules Weave (front ++ adoptions n scripts) first done (after_all n scripts state)
under_way_all_adopt rules front first done n [] state u =
    subst (λ es. IsUnderWay rules Weave es first done state) (sym (append-nil front)) u
under_way_all_adopt rules front first done n (script ∷ scripts) state u =
    subst (λ es. IsUnderWay rules Weave es first done (after_all n (script ∷ scripts) state))
    (append_assoc front (plays.adopts n ∷ []) (adoptions (n + 1) scripts))
    (under_way_all_adopt rules (front ++ plays.adopts n ∷ []) first done (n + 1) scripts
    (adopted n state) (under_way_adopts rules Weave first front done state n u))

-- the adoptions begin with those of the first scripts
record FirstAdopt (n k : ℕ) (scripts : List (List Line)) : Type 0 where
  left : List Event
  are : adoptions n scripts ≡ adoptions n (take k scripts) ++ left

first_adopt : (n k : ℕ) (scripts : List (List Line)) → FirstAdopt n k scripts
first_adopt n zero scripts = record { left = adoptions n scripts; are = refl }
first_adopt n (suc k) [] = record { left = []; are = refl }
first_adopt n (suc k) (script ∷ scripts) =
    let rest = first_adopt (n + 1) k scripts in
    record { left = rest.left; are = ap (λ es. plays.adopts n ∷ es) rest.are }

-- the adoptions of a run were done
pub comes_adopted : (pair_of : PairOf) (course : Course) (scripts : List (List Line))
    (left : List Event) (refused : Bool) (before : Scene) (new : EngineContent)
    → length scripts ≤ base_writer → SameNodes before.engine new
    → AdoptsAll (length scripts) before.engine.entries new.entries
    → RunReaches pair_of Weave course (adoptions 0 scripts ++ left) refused before
    → RunReaches pair_of Weave course left refused (record before { engine = new })
comes_adopted pair_of course scripts left refused before new few nodes adopts c =
    let old : EngineContent = before.engine in
    record {
      done = c.done;
      state = after_all 0 scripts c.state;
      at = record {
        front = c.at.front ++ adoptions 0 scripts;
        all = c.at.all ∙ sym (append_assoc c.at.front (adoptions 0 scripts) left);
        under = under_way_all_adopt course.rules c.at.front course.first c.done 0 scripts c.state
            c.at.under;
        rules = (λ i. record {
          type_named = (rules_of pair_of (record old { types = nodes.types i })).type_named;
          max_bytes = nodes.most i;
          pair_of = pair_of;
        }) ∙ c.at.rules;
        base = nodes.base ∙ c.at.base;
        versions = stands_adopted scripts c.state old new few nodes adopts c.at.versions;
        files = c.at.files ∙ ap Some (sym (after_files 0 scripts c.state));
        printed = c.at.printed;
        asked = c.at.asked;
        ample = c.at.ample;
        answer = c.at.answer;
        found = c.at.found;
        pays = subst (λ (arena : Nodes). PaysSteps course.base c.done
            course.hashed course.left before.hashed (unhashed arena)) (sym nodes.arena) c.at.pays;
      };
    }

length_first : (k : ℕ) (scripts : List (List Line)) → k ≤ length scripts
    → length (take k scripts) ≡ k
length_first zero scripts few = refl
length_first (suc k) [] few = absurd (omega arith)
length_first (suc k) (script ∷ scripts) few = ap suc (length_first k scripts (omega arith))

-- some of them were done, and there was no memory for the others
pub cut_adopting : (pair_of : PairOf) (course : Course) (scripts : List (List Line))
    (left : List Event) (refused : Bool) (before : Scene) (new : EngineContent)
    → length scripts ≤ base_writer → SameNodes before.engine new
    → AdoptsSome (length scripts) before.engine.entries new.entries
    → RunReaches pair_of Weave course (adoptions 0 scripts ++ left) refused before
    → IsCutShort Weave course status.Memory before (record before { engine = new })
cut_adopting pair_of course scripts left refused before new few nodes adopts c =
    let k = adopts.0 in
    let after : Scene = record before { engine = new } in
    let first = first_adopt 0 k scripts in
    let count = length_first k scripts adopts.1 in
    let begun : RunReaches pair_of Weave course
    (adoptions 0 (take k scripts) ++ (first.left ++ left))
    refused before =
    subst (λ (events : List Event). RunReaches pair_of Weave course events refused before)
    (ap (λ (es : List Event). es ++ left) first.are
    ∙ append_assoc (adoptions 0 (take k scripts)) first.left left) c in
    earlier Weave course status.Memory before after after (λ name is. is)
    (no_memory pair_of Weave course (first.left ++ left) refused after after
    (comes_adopted pair_of course (take k scripts) (first.left ++ left) refused before new
    (let all = adopts.1 in omega arith) nodes
    (subst (λ n. AdoptsAll n before.engine.entries new.entries) (sym count) adopts.2) begun)
    refl refl (passes_none after) (asks_still course.rules _ before.asked))

adopted-kept : (old new : EngineContent) → SameNodes old new → KeepsNodes old.arena new.arena
adopted-kept old new nodes =
    subst (λ (arena : Nodes). KeepsNodes old.arena arena) (sym nodes.arena) (keeps_same _ _ refl)

module _ {pair_of : PairOf} {was : Bool} (scripts : List (List Line)) (before : Scene)
    (new : EngineContent) (few : length scripts ≤ base_writer)
    (nodes : SameNodes before.engine new) where
  -- the adoptions, as a part of a run
  pub runs_adopted : AdoptsAll (length scripts) before.engine.entries new.entries
      → Runs pair_of Weave (adoptions 0 scripts) (Ok tt) was was before
      (record before { engine = new })
  runs_adopted adopts = record {
    goes = λ course left comes.
        comes_adopted pair_of course scripts left was before new few nodes adopts comes;
    keeps = record { types = nodes.types; most = nodes.most; base = nodes.base };
    nodes = λ none. adopted-kept before.engine new nodes;
    rises = omega arith;
    readable = λ name is. is;
    counts = (refl, refl, refl);
    stops = tt;
    fails = λ all same. cc;
  }

  -- there was no memory for all of them
  pub runs_unadopted : AdoptsSome (length scripts) before.engine.entries new.entries
      → Runs pair_of Weave (adoptions 0 scripts) (Err status.Memory) was was before
      (record before { engine = new })
  runs_unadopted adopts = record {
    goes = λ course left comes.
        cut_adopting pair_of course scripts left was before new few nodes adopts comes;
    keeps = record { types = nodes.types; most = nodes.most; base = nodes.base };
    nodes = λ none. adopted-kept before.engine new nodes;
    rises = omega arith;
    readable = λ name is. is;
    counts = (refl, refl, refl);
    stops = λ done. done;
    fails = λ all same. cc;
  }
