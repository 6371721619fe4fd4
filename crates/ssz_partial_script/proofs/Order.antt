-- The order in which a proof gives its leaves changes nothing that a script prints.
use Rattle.std.proofs.Common.{ℕ, ◌+◌, ◌*◌, ◌≡◌, cond, eqb, true, false, List, [], ◌∷◌, length, map, take, Option, Some, None, refl, sym, ap, ap₂, ◌∙◌}
use Rattle.std.specs.Prelude.{◌||◌, Result, Ok, Err, not, unwrap_or}
use Rattle.std.specs.List.{list_any}
use Rattle.std.proofs.lemmas.List.{length-map, take-map}
use Rattle.std.proofs.lemmas.List.Sorted.{IsPermutation-map}
use Rattle.std.proofs.lemmas.List.Sums.{sum_by-cons}
use Rattle.ssz_bytes.specs.declared.fault.Fault.{Fault}
use Rattle.ssz_chunk.specs.declared.Chunk.{Chunk}
use Rattle.ssz_outside.specs.Content.{Content}
use Rattle.ssz_outside.specs.declared.status.Status.TheVariants as status
use Rattle.ssz_schema.specs.declared.path.PathStep.{PathStep}
use Rattle.ssz_schema.specs.declared.path.PathStep.TheVariants.{Index, Option as Chosen}
use Rattle.ssz_schema.specs.Types.{SszType, uint, boolean, container, vector, list, bitvector, bitlist, union}
use Rattle.ssz_schema.specs.Paths.{Path, path_type, step_type}
use Rattle.ssz_schema.specs.Indices.{Spot, whole, step_index, step_spot}
use Rattle.ssz_value.specs.Encoding.{serialize}
use Rattle.ssz_value.specs.Faults.{first_fault}
use Rattle.ssz_value.specs.Reading.{value_in}
use Rattle.ssz_proof.specs.Calculation.{Known, PairOf, chunk_at}
use Rattle.ssz_proof.specs.Changes.{proof_with, with_chunk}
use Rattle.ssz_proof.specs.Multiproof.{IsProofOf, Multiproof, known_of}
use Rattle.ssz_proof.proofs.Changed.{multiproof-with, ordered-with}
use Rattle.ssz_proof.proofs.Judged.{calculated-given, chunk_at-given, levels-given}
use Rattle.ssz_partial.specs.Partial.{FoundPart, changed_in, ends_mixed_in, found_at, found_by, found_from, got, known_length_fault, piece_in, selector_fault, settable, size_at, step_fault, type_at, unless_partial}
use Rattle.ssz_partial.specs.declared.fault.PartialFault.{PartialFault}
use Rattle.ssz_partial.specs.declared.piece.Piece.{Piece}
use Rattle.ssz_script.specs.declared.partial.PartialStatement.{PartialStatement}
use Rattle.ssz_script.specs.declared.partial.PartialStatement.TheVariants.{Get, Set, Root}
use Rattle.ssz_script.specs.declared.reply.Reply.TheVariants.{Bytes, Root as RootIs}
use Rattle.ssz_script.specs.Lines.{partial_statements_in}
use Rattle.ssz_script.specs.Texts.{reply_line}
use Rattle.ssz_partial_script.specs.Statements.{PartialRow, ◌>>=◌, ◌>>◌, becomes, covered, partial_faultless, partial_row_said, partial_says}
use Rattle.ssz_partial_script.specs.Plays.{PartialScriptLine, PartialTurn, partial_charge_in, partial_charge_of, partial_charges, is_partial_refused, is_partial_refused_row, partial_job_of, known_of_row, partial_play, partial_reply_in, partial_script_job, partial_shown, partial_step, partial_turns_of_script}

-- what is found depends on the chunks that are known alone

module _ (xs ys : Known) (same : (g : ℕ) → chunk_at xs g ≡ chunk_at ys g) where
  same_fault : (k : ℕ) (t : SszType) (step : PathStep)
      → step_fault xs k t step ≡ step_fault ys k t step
  same_fault k (list elem limit) (Index i) =
      ap (λ o. known_length_fault o (2 * k + 1) i) (same (2 * k + 1))
  same_fault k (bitlist limit) (Index i) =
      ap (λ o. known_length_fault o (2 * k + 1) i) (same (2 * k + 1))
  same_fault k (union os) (Chosen selector) =
      ap (λ o. selector_fault o (2 * k + 1) selector) (same (2 * k + 1))
  same_fault k (list elem limit) _ = refl
  same_fault k (bitlist limit) _ = refl
  same_fault k (union os) _ = refl
  same_fault k (uint w) step = refl
  same_fault k boolean step = refl
  same_fault k (container fs) step = refl
  same_fault k (vector elem n) step = refl
  same_fault k (bitvector n) step = refl

  same_found : (k : ℕ) (s : Spot) (t : SszType) (path : Path)
      → found_from xs k s t path ≡ found_from ys k s t path
  same_found k s t [] = ap (found_at k s) (same k)
  same_found k s t (step ∷ path) =
      ap₂ unless_partial (same_fault k t step)
      (same_found (step_index k t step) (step_spot t step) (unwrap_or (step_type t step) t) path)

  same_got : (t : SszType) (path : Path) → got xs t path ≡ got ys t path
  same_got t path =
      ap (λ answer. piece_in (size_at t path) (found_by (path_type t path) true answer))
      (same_found 1 whole t path)

  same_settable : (t : SszType) (path : Path) → settable xs t path ≡ settable ys t path
  same_settable t path =
      ap (found_by (path_type t path) (not (ends_mixed_in path))) (same_found 1 whole t path)

-- another chunk keeps the order

with_chunk-map : (known : Known) (index : ℕ) (chunk : Chunk)
    → with_chunk known index chunk
    ≡ map (λ entry. cond (eqb entry.index index) (record entry { chunk = chunk }) entry) known
with_chunk-map [] index chunk = refl
with_chunk-map (entry ∷ known) index chunk =
    ap (λ rest. cond (eqb entry.index index) (record entry { chunk = chunk }) entry ∷ rest)
    (with_chunk-map known index chunk)

given-with : (lists proof : Multiproof) (index : ℕ) (chunk : Chunk) → IsProofOf lists proof
    → IsProofOf (proof_with lists index chunk) (proof_with proof index chunk)
given-with lists proof index chunk is = record {
  given = multiproof-with lists index chunk is.given;
  ordered = ordered-with proof index chunk is.ordered;
  leaves = rw (with_chunk-map lists.leaves index chunk, with_chunk-map proof.leaves index chunk)
      (IsPermutation-map _ lists.leaves proof.leaves is.leaves);
  nodes = ap (λ nodes. with_chunk nodes index chunk) is.nodes;
}

-- two rows with one reply, of which the one knows the lists of the other's proof
abbrev RowsAlike : PartialRow → PartialRow → Type 0
RowsAlike (Ok one) (Ok other) = (one.reply ≡ other.reply) × IsProofOf one.known other.known
RowsAlike (Err one) (Err other) = one ≡ other
RowsAlike _ _ = ⊥

module _ (pair_of : PairOf) (t : SszType) (lists proof : Multiproof) (is : IsProofOf lists proof)
  where
    get_alike : (one other : Result Piece PartialFault) → one ≡ other
        → RowsAlike
        (covered one >>= (λ piece. partial_says lists (Bytes (take piece.len piece.bytes.0))))
        (covered other >>= (λ piece. partial_says proof (Bytes (take piece.len piece.bytes.0))))
    get_alike one (Ok piece) same = rw same (refl, is)
    get_alike one (Err fault) same = rw same refl

    set_alike : (one other : Result FoundPart PartialFault) (fault : Option Fault) (bytes : List ℕ)
        → one ≡ other
        → RowsAlike (covered one
        >> (partial_faultless fault >> becomes (changed_in lists bytes one)))
        (covered other >> (partial_faultless fault >> becomes (changed_in proof bytes other)))
    set_alike one (Err refused) fault bytes same = rw same refl
    set_alike one (Ok place) (Some fault) bytes same = rw same refl
    set_alike one (Ok place) None bytes same =
        rw same (refl, given-with lists proof place.index _ is)

    said_alike : (statement : Option PartialStatement)
        → RowsAlike (partial_row_said pair_of t lists statement)
        (partial_row_said pair_of t proof statement)
    said_alike None = refl
    said_alike (Some (Get path)) =
        get_alike (got (known_of lists) t path) (got (known_of proof) t path)
        (same_got (known_of lists) (known_of proof) (chunk_at-given lists proof is) t path)
    said_alike (Some (Set path literal)) =
        set_alike (settable (known_of lists) t path) (settable (known_of proof) t path)
        (first_fault (type_at t path) 0 literal)
        (serialize (type_at t path) (value_in (type_at t path) literal))
        (same_settable (known_of lists) (known_of proof) (chunk_at-given lists proof is) t path)
    said_alike (Some Root) = (
      ap (λ chunk. RootIs (record { 0 = chunk })) (calculated-given pair_of lists proof is 1),
      is,
    )

    charge_alike : (statement : Option PartialStatement)
        → partial_charge_in lists statement ≡ partial_charge_in proof statement
    charge_alike (Some Root) = sym (levels-given lists proof is)
    charge_alike (Some (Get path)) = refl
    charge_alike (Some (Set path literal)) = refl
    charge_alike None = refl

    -- what is known after two rows that are alike
    known_alike : (one other : PartialRow) → RowsAlike one other
        → IsProofOf (known_of_row lists one) (known_of_row proof other)
    known_alike (Ok one) (Ok other) alike = alike.1
    known_alike (Err one) (Err other) alike = is
    known_alike (Ok one) (Err other) alike = absurd alike
    known_alike (Err one) (Ok other) alike = absurd alike

replies_alike : (line : ℕ) (one other : PartialRow) → RowsAlike one other
    → partial_reply_in line one ≡ partial_reply_in line other
replies_alike line (Ok one) (Ok other) alike = alike.0
replies_alike line (Err one) (Err other) alike =
    ap (λ refusal. partial_reply_in line (Err refusal)) alike
replies_alike line (Ok one) (Err other) alike = absurd alike
replies_alike line (Err one) (Ok other) alike = absurd alike

refused_alike : (one other : PartialRow) → RowsAlike one other
    → is_partial_refused_row one ≡ is_partial_refused_row other
refused_alike (Ok one) (Ok other) alike = refl
refused_alike (Err one) (Err other) alike = refl
refused_alike (Ok one) (Err other) alike = absurd alike
refused_alike (Err one) (Ok other) alike = absurd alike

-- two runs that print the same at the same charge
record PlaysAlike (one other : List PartialTurn) : Type 0 where
  lines : map partial_shown one ≡ map partial_shown other
  refused : list_any is_partial_refused one ≡ list_any is_partial_refused other
  charged : partial_charges one ≡ partial_charges other

plays_alike : (pair_of : PairOf) (t : SszType) (lists proof : Multiproof)
    (lines : List PartialScriptLine)
    → IsProofOf lists proof
    → PlaysAlike (partial_play pair_of t lists lines) (partial_play pair_of t proof lines)
plays_alike pair_of t lists proof [] is =
    record { lines = refl; refused = refl; charged = refl }
plays_alike pair_of t lists proof (line ∷ lines) is =
    let one = partial_row_said pair_of t lists line.1 in
    let other = partial_row_said pair_of t proof line.1 in
    let alike = said_alike pair_of t lists proof is line.1 in
    let rest = plays_alike pair_of t (known_of_row lists one) (known_of_row proof other) lines
    (known_alike pair_of t lists proof is one other alike) in
    record {
      lines = ap₂ (λ first more. reply_line first ∷ more) (replies_alike line.0 one other alike)
          rest.lines;
      refused = ap₂ (λ first more. first || more) (refused_alike one other alike) rest.refused;
      charged = sum_by-cons partial_charge_of (partial_step pair_of t lists line)
          (partial_play pair_of t (known_of_row lists one) lines)
          ∙ ap₂ (λ first more. first + more) (charge_alike pair_of t lists proof is line.1)
          rest.charged
          ∙ sym (sum_by-cons partial_charge_of (partial_step pair_of t proof line)
          (partial_play pair_of t (known_of_row proof other) lines));
    }

-- so they have one job
jobs_alike : (held : Content) (one other : List PartialTurn) → PlaysAlike one other
    → partial_job_of held one ≡ partial_job_of held other
jobs_alike held one other alike i = record {
  at = λ k. record { files = held; lines = lines_at k i };
  reads = λ k. false;
  saves = λ k. None;
  steps = (sym (length-map one partial_shown) ∙ ap length alike.lines
      ∙ length-map other partial_shown) i;
  status = ap (λ refused. cond refused status.Refused status.Accepted) alike.refused i;
}
  where
    lines_at : (k : ℕ) → map partial_shown (take k one) ≡ map partial_shown (take k other)
    lines_at k =
        sym (take-map partial_shown k one) ∙ ap (take k) alike.lines
        ∙ take-map partial_shown k other

-- a script over the lists of a proof, and over the proof
pub record ScriptsAlike (pair_of : PairOf) (t : SszType) (lists proof : Multiproof)
    (script : List ℕ) : Type 0 where
  pub jobs : (held : Content)
      → partial_script_job pair_of t lists held script
      ≡ partial_script_job pair_of t proof held script
  pub charged : partial_charges (partial_turns_of_script pair_of t lists script)
      ≡ partial_charges (partial_turns_of_script pair_of t proof script)

pub scripts_alike : (pair_of : PairOf) (t : SszType) (lists proof : Multiproof) (script : List ℕ)
    → IsProofOf lists proof → ScriptsAlike pair_of t lists proof script
scripts_alike pair_of t lists proof script is =
    let alike = plays_alike pair_of t lists proof (partial_statements_in script) is in
    record {
      jobs = λ held. jobs_alike held (partial_turns_of_script pair_of t lists script)
          (partial_turns_of_script pair_of t proof script) alike;
      charged = alike.charged;
    }
