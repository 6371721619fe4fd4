-- What a sink was given of a weave, writer by writer.
use Rattle.std.proofs.Common.{ℕ, zero, suc, ◌+◌, ◌≡◌, ◌≤◌, ◌<◌, Bool, true, false, cond, inl, inr, List, [], ◌∷◌, ◌++◌, length, map, take, drop, Option, refl, sym, ap, ◌∙◌, subst, arith, append_assoc, take-append-drop}
use Rattle.std.specs.Prelude.{nat_eq}
use Rattle.std.specs.List.{starts_with}
use Rattle.std.proofs.lemmas.Bool.Decides.{Decides-eqb}
use Rattle.std.proofs.lemmas.List.{append-nil, length-map, take_all}
use Rattle.std.proofs.lemmas.List.Elements.{filter-append}
use Rattle.std.proofs.lemmas.Slice.Eq.{starts_is}
use Rattle.ssz_outside.specs.Content.{Content as Files}
use Rattle.ssz_outside.specs.Job.{Ends, Finishes, IsFinished}
use Rattle.ssz_outside.specs.Pieces.{Told, told_append}
use Rattle.ssz_outside.specs.declared.status.Status.{Status}
use Rattle.ssz_outside.specs.declared.status.Status.TheVariants as status
use Rattle.ssz_proof.specs.Calculation.{PairOf}
use Rattle.ssz_script.specs.Lines.{statements_in}
use Rattle.ssz_machine.specs.declared.place.Place.TheVariants.{Weave}
use Rattle.ssz_machine.specs.State.{State}
use Rattle.ssz_machine.specs.Rules.{Rules}
use Rattle.ssz_machine.specs.Machine.{Turn}
use Rattle.ssz_machine.specs.Plays.{base_writer, mark, shown_all}
use Rattle.ssz_machine.specs.Jobs.{turns_of_weave, weave_job}
use Rattle.ssz_machine.specs.Isolation.{IsolatesLines, lines_alone, marked}
use Rattle.ssz_machine.proofs.IsolatedLines.{lines_are_isolated_lem}
use Rattle.ssz_decisions.specs.Content.{rules_of}
use Rattle.ssz_engine.specs.Scripts.{Scene}
use Rattle.ssz_engine.specs.Weaves.{AreFirst, EndsWeave, IsolatesFrom, IsolatesWriters}

-- whole lines
first_whole : (j : ℕ) (lines : List (List ℕ)) → AreFirst (take j lines) lines
first_whole zero lines = tt
first_whole (suc j) [] = tt
first_whole (suc zero) (line ∷ lines) =
    (length line, sym (take_all (length line) line (omega arith)))
first_whole (suc (suc j)) (line ∷ []) =
    (length line, sym (take_all (length line) line (omega arith)))
first_whole (suc (suc j)) (line ∷ next ∷ lines) = (refl, first_whole (suc j) (next ∷ lines))

-- whole lines, and a part of the next one
first_cut : (front : List (List ℕ)) (line : List ℕ) (count j : ℕ) (lines : List (List ℕ))
    → front ++ line ∷ [] ≡ take j lines → AreFirst (front ++ take count line ∷ []) lines
first_cut [] line count zero lines is = cc
first_cut [] line count (suc j) [] is = cc
first_cut [] line count (suc j) (other ∷ lines) is =
    let same : line ≡ other = cc in (count, ap (take count) same)
first_cut (first ∷ front) line count zero lines is = cc
first_cut (first ∷ front) line count (suc j) [] is = cc
first_cut (first ∷ []) line count (suc j) (other ∷ lines) is =
    let same : first ≡ other = cc in
    let rest : line ∷ [] ≡ take j lines = cc in
    (same, first_cut [] line count j lines rest)
first_cut (first ∷ second ∷ front) line count (suc j) (other ∷ lines) is =
    let same : first ≡ other = cc in
    let rest : second ∷ front ++ line ∷ [] ≡ take j lines = cc in
    (same, first_cut (second ∷ front) line count j lines rest)

-- a part of a line that begins with a mark is one of a line that does
starts_whole : (count : ℕ) (line sign : List ℕ)
    → starts_with nat_eq (take count line) sign ≡ true → starts_with nat_eq line sign ≡ true
starts_whole count line sign starts =
    let piece = take count line in
    let is : piece ≡ sign ++ drop (length sign) piece =
    (starts_is Decides-eqb piece sign (starts_with nat_eq piece sign) refl).0 starts in
    (starts_is Decides-eqb line sign (starts_with nat_eq line sign) refl).1
    (drop (length sign) piece ++ drop count line)
    (sym (take-append-drop count line)
    ∙ ap (λ front. front ++ drop count line) is
    ∙ append_assoc sign (drop (length sign) piece) (drop count line))

module _ (rules : Rules) (base order : List ℕ) (scripts : List (List ℕ)) (first : State)
    (few : length scripts ≤ base_writer) where
  abbrev turns : List Turn
  turns = turns_of_weave rules first base order scripts

  abbrev alone : ℕ → List (List ℕ)
  alone writer = lines_alone rules first (statements_in base) (map statements_in scripts) writer

  isolates : (writer : ℕ) → writer < length scripts
      → IsolatesLines rules first (statements_in base) order (map statements_in scripts) writer
  isolates writer known =
      let count = length-map scripts statements_in in
      lines_are_isolated_lem rules first (statements_in base) order (map statements_in scripts)
      writer (omega arith) (omega arith)

  -- the first lines of the weave
  front_first : (k writer : ℕ) → writer < length scripts
      → AreFirst (marked writer (shown_all Weave (take k turns))) (alone writer)
  front_first k writer known =
      let front = (isolates writer known).so_far k in
      subst (λ lines. AreFirst lines (alone writer)) (sym front.1)
      (first_whole front.0 (alone writer))

  -- and a part of the next one
  cut_first : (k count : ℕ) (line : List ℕ)
      → shown_all Weave (take (k + 1) turns) ≡ shown_all Weave (take k turns) ++ line ∷ []
      → (writer : ℕ) → writer < length scripts
      → AreFirst (marked writer (shown_all Weave (take k turns) ++ take count line ∷ []))
      (alone writer)
  cut_first k count line more writer known =
      let lines = shown_all Weave (take k turns) in
      let test = λ (piece : List ℕ). starts_with nat_eq piece (mark writer) in
      subst (λ pieces. AreFirst pieces (alone writer))
      (sym (filter-append test lines (take count line ∷ [])))
      (elim (test (take count line)) as (λ b. test (take count line) ≡ b
      → AreFirst (marked writer lines ++ cond b (take count line ∷ []) []) (alone writer)) [
        | true ↦ λ starts.
            let front = (isolates writer known).so_far (k + 1) in
            let whole : marked writer (lines ++ line ∷ []) ≡ marked writer lines ++ line ∷ [] =
            filter-append test lines (line ∷ [])
            ∙ ap (λ b. marked writer lines ++ cond b (line ∷ []) [])
            (starts_whole count line (mark writer) starts) in
            first_cut (marked writer lines) line count front.0 (alone writer)
            (sym whole ∙ ap (marked writer) (sym more) ∙ front.1)
        | false ↦ λ starts. subst (λ pieces. AreFirst pieces (alone writer))
            (sym (append-nil (marked writer lines))) (front_first k writer known)
      ] refl)

  module _ (old new : Told) (held : Option Files) where
    -- between two lines
    at_front : (ended : Status) (k : ℕ)
        → new ≡ told_append old (shown_all Weave (take k turns))
        → ¬ IsFinished ended → IsolatesFrom rules base scripts first ended old new
    at_front ended k given broken = record {
      pieces = shown_all Weave (take k turns);
      given = given;
      first_lines = front_first k;
      all_lines = λ done. absurd (broken done);
    }

    -- at the end
    at_end : (ended : Status)
        → Finishes (weave_job rules first base order scripts) ended old new held
        → IsolatesFrom rules base scripts first ended old new
    at_end ended finishes =
        let every : take (length turns) turns ≡ turns = take_all (length turns) turns (omega arith)
        in
        record {
          pieces = shown_all Weave (take (length turns) turns);
          given = finishes.last.printed;
          first_lines = front_first (length turns);
          all_lines = λ done writer known.
              ap (λ (all : List Turn). marked writer (shown_all Weave all)) every
              ∙ (isolates writer known).whole;
        }

    pub isolates_all : (ample : Bool) (ended : Status)
        → Ends ample ended (weave_job rules first base order scripts) old new held
        → IsolatesFrom rules base scripts first ended old new
    isolates_all ample status.Accepted ends = at_end status.Accepted ends
    isolates_all ample status.Refused ends = at_end status.Refused ends
    isolates_all ample status.Usage ends = at_end status.Usage ends
    isolates_all ample status.SchemaFault ends = at_end status.SchemaFault ends
    isolates_all ample status.ReadFault (k, few_steps, reads, stands) =
        at_front status.ReadFault k stands.printed (λ done. done)
    isolates_all ample status.WriteFault (k, below, inl torn) =
        at_front status.WriteFault k torn.printed (λ done. done)
    isolates_all ample status.WriteFault (k, below, inr torn) = record {
      pieces = shown_all Weave (take k turns) ++ take torn.count torn.line ∷ [];
      given = torn.printed;
      first_lines = cut_first k torn.count torn.line torn.whole;
      all_lines = λ done. absurd done;
    }
    isolates_all ample status.Memory (k, inl (few_steps, stands)) =
        at_front status.Memory k stands.printed (λ done. done)
    isolates_all ample status.Memory (k, inr (below, ahead)) =
        at_front status.Memory k ahead.printed (λ done. done)

-- so it is of a weave that ended as its job does
pub ends_isolated : (pair_of : PairOf) (base order : List ℕ) (scripts : List (List ℕ))
    (ended : Status) (before after : Scene) → length scripts ≤ base_writer
    → EndsWeave pair_of base order scripts ended before after
    → IsolatesWriters pair_of base scripts ended before after
ends_isolated pair_of base order scripts ended before after few ends first stands told =
    isolates_all (rules_of pair_of before.engine) base order scripts first few before.pieces
    after.pieces after.told before.ample ended (ends first stands told).ends
