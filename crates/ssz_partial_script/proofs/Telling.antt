-- What the lines of a script tell of a value.
use Rattle.std.proofs.Common.{ℕ, ◌≡◌, List, [], ◌∷◌, take, Option, Some, None, refl, sym, ap, ◌∙◌, subst}
use Rattle.std.specs.Prelude.{Result, Ok, Err, unwrap_or}
use Rattle.std.proofs.lemmas.Option.{same_Some}
use Rattle.ssz_bytes.specs.declared.fault.Fault.{Fault}
use Rattle.ssz_bytes.specs.Bytes.{IsBytes}
use Rattle.ssz_schema.specs.format.Format.{Format}
use Rattle.ssz_schema.specs.Types.{SszType}
use Rattle.ssz_schema.specs.Paths.{Path}
use Rattle.ssz_value.specs.Values.{SszValue, Fits}
use Rattle.ssz_value.specs.Encoding.{serialize}
use Rattle.ssz_value.specs.Faults.{first_fault}
use Rattle.ssz_value.specs.Reading.{value_in}
use Rattle.ssz_value.specs.Laws.{Encodes}
use Rattle.ssz_value.specs.Parts.{part}
use Rattle.ssz_proof.specs.Calculation.{PairOf}
use Rattle.ssz_proof.specs.Multiproof.{Multiproof, known_of}
use Rattle.ssz_partial.specs.Partial.{FoundPart, FitsAt, changed_in, got, settable, type_at}
use Rattle.ssz_partial.specs.Laws.{HasKnown, IsGot}
use Rattle.ssz_partial.specs.declared.fault.PartialFault.{PartialFault}
use Rattle.ssz_partial.specs.declared.fault.PartialFault.TheVariants.{BadPath, NotThat, Blind, Absent}
use Rattle.ssz_partial.specs.declared.piece.Piece.{Piece}
use Rattle.ssz_partial.proofs.Setting.{sets_are_edits}
use Rattle.ssz_partial.proofs.Values.{gets_are_parts, roots_are_roots}
use Rattle.ssz_script.specs.declared.partial.PartialStatement.{PartialStatement}
use Rattle.ssz_script.specs.declared.partial.PartialStatement.TheVariants.{Get, Set, Root}
use Rattle.ssz_script.specs.declared.reply.Reply.TheVariants.{Bytes, Root as RootIs}
use Rattle.ssz_script.specs.Lines.{partial_statements_in}
use Rattle.ssz_partial_script.specs.Statements.{PartialRow, ◌>>=◌, ◌>>◌, becomes, covered, partial_faultless, refusal_of, partial_row_said, partial_says}
use Rattle.ssz_partial_script.specs.Plays.{PartialScriptLine, known_of_row}
use Rattle.ssz_partial_script.specs.Laws.{IsAbsentWhere, ScriptsTellValues, RowTells, TellsAlong}
use Rattle.ssz_partial_script.proofs.Asked.{absent_to_get, basic_encodes, got_few, piece_bytes, set_basic}
use Rattle.ssz_partial_script.proofs.Literals.{HasBytes, HaveBytes, literals_are_bytes}

-- the one fault of the tree that is refused as absent
refused_absent : (t : SszType) (v : SszValue) (path : Path) (fault : PartialFault)
    → (fault ≡ Absent → part t v path ≡ None) → IsAbsentWhere t v path (refusal_of fault)
refused_absent t v path BadPath is e = absurd (cc)
refused_absent t v path NotThat is e = absurd (cc)
refused_absent t v path (Blind g) is e = absurd (cc)
refused_absent t v path Absent is e = is refl

-- What a row tells, and that what is known after it is of the value after it.
record Goes (pair_of : PairOf) (format : Format) (t : SszType) (v : SszValue) (proof : Multiproof)
    (statement : Option PartialStatement) (row : PartialRow) : Type 0 where
  after : SszValue
  tells : RowTells pair_of t v statement row after
  has : HasKnown pair_of format t after (known_of_row proof row)

module _ (pair_of : PairOf) (format : Format) (t : SszType) (v : SszValue) (proof : Multiproof)
    (has : HasKnown pair_of format t v proof) where
  get_goes : (path : Path) (answer : Result Piece PartialFault)
      → got (known_of proof) t path ≡ answer → IsGot t v path answer
      → Goes pair_of format t v proof (Some (Get path))
      (covered answer >>= (λ piece. partial_says proof (Bytes (take piece.len piece.bytes.0))))
  get_goes path (Ok piece) same is = record {
    after = v;
    tells = (
      record {
        type = is.0;
        value = is.1;
        leads = is.2;
        part_is = is.3;
        shows = ap Bytes (piece_bytes (serialize is.0 is.1) piece is.4
            (got_few (known_of proof) t path piece same));
      },
      refl,
    );
    has = has;
  }
  get_goes path (Err fault) same is = record {
    after = v;
    tells = (
      refused_absent t v path fault
          (λ absent. subst (IsGot t v path) (ap Err absent) is),
      refl,
    );
    has = has;
  }

  -- a value that is set
  set_done : (path : Path) (literal : List ℕ) (place : FoundPart) → IsBytes literal
      → settable (known_of proof) t path ≡ Ok place → first_fault (type_at t path) 0 literal ≡ None
      → Goes pair_of format t v proof (Some (Set path literal))
      (becomes (changed_in proof (serialize (type_at t path) (value_in (type_at t path) literal))
      (Ok place)))
  set_done path literal place bytes at faultless =
      let basic = set_basic (known_of proof) t path place at in
      let u = basic.type in
      let same : type_at t path ≡ u = ap (λ o. unwrap_or o t) basic.leads in
      let x = value_in (type_at t path) literal in
      let encodes : Encodes u x literal =
      subst (λ (type : SszType). Encodes u (value_in type literal) literal) (sym same)
      (basic_encodes u literal basic.basic bytes
      (ap (λ type. first_fault type 0 literal) (sym same) ∙ faultless)) in
      let fits : FitsAt t path x =
      λ other leads some. subst (λ (type : SszType). Fits type x)
      (same_Some u other (sym basic.leads ∙ leads)) encodes.fits in
      let edited = sets_are_edits pair_of format t v proof path x _ has fits
      (ap (changed_in proof (serialize (type_at t path) x)) at) in
      record {
        after = edited.0;
        tells = record {
          type = u;
          value = x;
          leads = basic.leads;
          encodes = encodes;
          sets = edited.1;
        };
        has = edited.2;
      }

  set_goes : (path : Path) (literal : List ℕ) (place : Result FoundPart PartialFault)
      (fault : Option Fault) → IsBytes literal → settable (known_of proof) t path ≡ place
      → first_fault (type_at t path) 0 literal ≡ fault
      → Goes pair_of format t v proof (Some (Set path literal))
      (covered place >> (partial_faultless fault
      >> becomes (changed_in proof (serialize (type_at t path) (value_in (type_at t path) literal))
      place)))
  set_goes path literal (Err refused) fault bytes at is = record {
    after = v;
    tells = (
      refused_absent t v path refused (λ absent.
          subst (IsGot t v path) (absent_to_get (known_of proof) t path (at ∙ ap Err absent))
          (gets_are_parts pair_of format t v proof path has)),
      refl,
    );
    has = has;
  }
  set_goes path literal (Ok place) (Some fault) bytes at is =
      record { after = v; tells = (λ e. absurd (cc), refl); has = has }
  set_goes path literal (Ok place) None bytes at is =
      set_done path literal place bytes at is

  said_goes : (statement : Option PartialStatement) → HasBytes statement
      → Goes pair_of format t v proof statement (partial_row_said pair_of t proof statement)
  said_goes None bytes = record { after = v; tells = refl; has = has }
  said_goes (Some (Get path)) bytes =
      get_goes path (got (known_of proof) t path) refl
      (gets_are_parts pair_of format t v proof path has)
  said_goes (Some (Set path literal)) bytes =
      subst (λ (row : PartialRow). Goes pair_of format t v proof (Some (Set path literal)) row) refl
      (set_goes path literal (settable (known_of proof) t path)
      (first_fault (type_at t path) 0 literal) bytes refl refl)
  said_goes (Some Root) bytes = record {
    after = v;
    tells = (
      ap (λ chunk. RootIs (record { 0 = chunk }))
          (roots_are_roots pair_of format t v proof has),
      refl,
    );
    has = has;
  }

lines_tell : (pair_of : PairOf) (format : Format) (t : SszType) (v : SszValue) (proof : Multiproof)
    (lines : List PartialScriptLine) → HasKnown pair_of format t v proof → HaveBytes lines
    → TellsAlong pair_of format t v proof lines
lines_tell pair_of format t v proof [] has bytes = has
lines_tell pair_of format t v proof (line ∷ lines) has bytes =
    let goes = said_goes pair_of format t v proof has line.1 bytes.0 in (
      goes.after,
      goes.tells,
      lines_tell pair_of format t goes.after
          (known_of_row proof (partial_row_said pair_of t proof line.1)) lines
          goes.has bytes.1,
    )

pub scripts_tell_values_lem : ScriptsTellValues
scripts_tell_values_lem pair_of format t v proof script has =
    lines_tell pair_of format t v proof (partial_statements_in script) has
    (literals_are_bytes script)
