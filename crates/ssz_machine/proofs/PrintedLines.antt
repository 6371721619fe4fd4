-- Each line that is printed is one line.
use Rattle.std.proofs.Common.{ℕ, ◌≡◌, ◌==◌, Bool, true, false, cond, [], ◌∷◌, Option, Some, None, refl}
use Rattle.std.specs.Prelude.{Ok, Err, IfOk, bytes_eq, not}
use Rattle.std.specs.List.{list_all}
use Rattle.std.specs.Ordering.{nat_cmp}
use Rattle.std.specs.Cmp.Lexicographic.{slice_cmp}
use Rattle.std.specs.declared.cmp.Ordering.{Ordering}
use Rattle.std.specs.declared.cmp.Ordering.TheVariants.{Less, Equal, Greater}
use Rattle.std.proofs.lemmas.Bool.{and_parts}
use Rattle.ssz_proof.specs.Multiproof.{Multiproof}
use Rattle.ssz_proof.specs.Text.{multiproof_text}
use Rattle.ssz_schema.specs.Names.{is_name}
use Rattle.ssz_schema.specs.Types.{SszType}
use Rattle.ssz_script.specs.OneLine.{is_line, FitsLine}
use Rattle.ssz_script.proofs.OneLineLemmas.{both, replies_are_lines_lem}
use Rattle.ssz_script.specs.declared.reply.Reply.{Reply}
use Rattle.ssz_script.specs.declared.reply.Reply.TheVariants.{Done, Proof, Json as JsonText}
use Rattle.ssz_script.specs.declared.statement.Statement.{Statement}
use Rattle.ssz_script.specs.declared.statement.Statement.TheVariants.{New, Lit, Load, Fork, Drop, List as ListNames, Set, Append, Pop, Choose, Root, Bytes, Len, Save as SaveInto, Gindex, Prove, Hashes, Upgrade, Json, LoadJson, Compact}
use Rattle.ssz_value.specs.Values.{SszValue}
use Rattle.ssz_machine.specs.declared.place.Place.{Place}
use Rattle.ssz_machine.specs.State.{Name, Version, Versions, View, State, view_of, with_version, without_version}
use Rattle.ssz_machine.specs.Rules.{Rules, Refusal, coded, bad_bytes, bad_json, Effect, Row, refusal_reply, makes, says_reply}
use Rattle.ssz_machine.specs.Making.{names_of}
use Rattle.ssz_machine.specs.Machine.{Line, effect, row_said, step, reply_in, state_in, state_of}
use Rattle.ssz_machine.specs.Plays.{says as says_line, adopts, adopted, base_writer, next_number, numbers_after, line_prefix, shown}
use Rattle.ssz_machine.specs.Changes.{IsChange, Changes, Touch, puts, takes, nothing, touch}
use Rattle.ssz_machine.specs.OneLine.{AreNamed, PutsName, IsNamed, IsNamedLine, PrintedLinesAreLines}
use Rattle.ssz_machine.proofs.Rowwise.{Does, given, passed, edited}
use Rattle.ssz_machine.proofs.Moves.{statements_change_their_entry_lem}
use Rattle.ssz_json_text.specs.Text.{json}
use Rattle.ssz_machine.proofs.ProofLines.{proof_is_line, is_line-behind, plain_front}
use Rattle.ssz_machine.proofs.JsonLines.{json_no_feed}

-- the reply of an accepted row fits a line
abbrev Fitting : Effect → Type 0
Fitting effect = FitsLine effect.reply

fits_made : (versions : Versions) (name : Name) (type : SszType) (value : SszValue) (charge : ℕ)
    → Does Fitting (makes versions name type value charge)
fits_made versions name type value charge = record { is = tt }

fits_told : (versions : Versions) (reply : Reply) → FitsLine reply
    → Does Fitting (says_reply versions reply)
fits_told versions reply fits = record { is = fits }

fits_done : (versions : Versions) → Does Fitting (says_reply versions Done)
fits_done versions = record { is = tt }

fits_proof : (versions : Versions) (proof : Multiproof)
    → Does Fitting (says_reply versions (Proof (multiproof_text proof)))
fits_proof versions proof = record { is = proof_is_line proof }

fits_json : (versions : Versions) (type : SszType) (value : SszValue)
    → Does Fitting (says_reply versions (JsonText (json type value)))
fits_json versions type value = record { is = json_no_feed type value }

module _ (rules : Rules) where
  replies_fit : (place : Place) (number : ℕ) (view : View) → AreNamed view.versions
      → (statement : Statement) → Does Fitting (effect rules place number view statement)
  replies_fit place number view named (New v t) = search (given, passed, fits_made) depth 12
  replies_fit place number view named (Lit v t x) = search (given, passed, fits_made) depth 12
  replies_fit place number view named (Load v t x) = search (given, passed, fits_made) depth 12
  replies_fit place number view named (Fork v w) = search (given, passed, fits_made) depth 12
  replies_fit place number view named (Drop v) = search (given, fits_done) depth 12
  replies_fit place number view named ListNames = record { is = named.names }
  replies_fit place number view named (Set v path x) =
      search (given, passed, edited, fits_made) depth 12
  replies_fit place number view named (Append v path x) =
      search (given, passed, edited, fits_made) depth 12
  replies_fit place number view named (Pop v path) =
      search (given, passed, edited, fits_made) depth 12
  replies_fit place number view named (Choose v path k x) =
      search (given, passed, edited, fits_made) depth 12
  replies_fit place number view named (Root v) = search (given, fits_told) depth 12
  replies_fit place number view named (Bytes v path) = search (given, passed, fits_told) depth 12
  replies_fit place number view named (Len v path) = search (given, passed, fits_told) depth 12
  replies_fit place number view named (SaveInto v file) =
      search (given, passed) depth 12
  replies_fit place number view named (Gindex t path) = search (given, fits_told) depth 12
  replies_fit place number view named (Prove v indices) =
      search (given, passed, fits_proof) depth 12
  replies_fit place number view named Hashes = search (passed, fits_told) depth 12
  replies_fit place number view named (Upgrade v w t) =
      search (given, passed, fits_made) depth 12
  replies_fit place number view named (Json v path) =
      search (given, passed, fits_json) depth 12
  replies_fit place number view named (LoadJson v t x) =
      search (given, passed, fits_made) depth 12
  replies_fit place number view named Compact = record { is = tt }

  -- a refusal fits a line
  refusal_fits : (line : ℕ) (refusal : Refusal) → FitsLine (refusal_reply line refusal)
  refusal_fits line (coded code) = tt
  refusal_fits line (bad_bytes fault) = tt
  refusal_fits line (bad_json fault) = tt

  row_fits : (line : ℕ) (row : Row) → IfOk row Fitting → FitsLine (reply_in line row)
  row_fits line (Ok e) is = is
  row_fits line (Err refusal) is = refusal_fits line refusal

  said_fits : (place : Place) (number : ℕ) (view : View) → AreNamed view.versions
      → (line : Option Statement) → IfOk (row_said rules place number view line) Fitting
  said_fits place number view named None = tt
  said_fits place number view named (Some statement) =
      (replies_fit place number view named statement).is

  turn_is_line : (place : Place) (number : ℕ) (s : State) (writer : ℕ) (line : Line)
      → AreNamed (s.versions writer)
      → is_line (shown place (step rules place number s writer line)) ≡ true
  turn_is_line place number s writer line named =
      let row = row_said rules place number (view_of writer s) line.1 in
      is_line-behind (line_prefix place writer) _ (plain_front place writer)
      (replies_are_lines_lem (reply_in line.0 row)
      (row_fits line.0 row (said_fits place number (view_of writer s) named line.1)))

-- names stay names

named-put : (name : Name) (version : Version) (versions : Versions)
    → is_name name ≡ true → list_all is_name (names_of versions) ≡ true
    → list_all is_name (names_of (with_version name version versions)) ≡ true
named-put name version [] is all = rw is refl
named-put name version (e ∷ es) is all =
    let parts = and_parts (is_name e.0) (list_all is_name (names_of es)) all in
    by (slice_cmp nat_cmp name e.0) refl parts.0 parts.1
    (named-put name version es is parts.1)
  where
    by : (o : Ordering) → slice_cmp nat_cmp name e.0 ≡ o → is_name e.0 ≡ true
        → list_all is_name (names_of es) ≡ true
        → list_all is_name (names_of (with_version name version es)) ≡ true
        → list_all is_name (names_of (with_version name version (e ∷ es))) ≡ true
    by Less o here there more = rw o (both _ _ is (both _ _ here there))
    by Equal o here there more = rw o (both _ _ here there)
    by Greater o here there more = rw o (both _ _ here more)

named-without : (name : Name) (versions : Versions)
    → list_all is_name (names_of versions) ≡ true
    → list_all is_name (names_of (without_version name versions)) ≡ true
named-without name [] all = refl
named-without name (e ∷ es) all =
    let parts = and_parts (is_name e.0) (list_all is_name (names_of es)) all in
    by (not (bytes_eq name e.0)) refl parts.0 (named-without name es parts.1)
  where
    by : (kept : Bool) → not (bytes_eq name e.0) ≡ kept → is_name e.0 ≡ true
        → list_all is_name (names_of (without_version name es)) ≡ true
        → list_all is_name (names_of (without_version name (e ∷ es))) ≡ true
    by true is here rest = rw is (both _ _ here rest)
    by false is here rest = rw is rest

named_change : (t : Touch) (old new : Versions) → PutsName t → AreNamed old → Changes t old new
    → AreNamed new
named_change nothing old new puts_name named same = rw same named
named_change (puts name) old new puts_name named (version, same) =
    rw same (record { names = named-put name version old puts_name named.names })
named_change (takes name) old new puts_name named same =
    rw same (record { names = named-without name old named.names })

abbrev AllNamed : State → Type 0
AllNamed s = (writer : ℕ) → AreNamed (s.versions writer)

named_where : (writer other : ℕ) (b : Bool) (new old : Versions) → AreNamed new → AreNamed old
    → AreNamed (cond b new old)
named_where writer other true new old first second = first
named_where writer other false new old first second = second

row_keeps_named : (writer : ℕ) (s : State) (row : Row) → AllNamed s
    → IfOk row (λ e. AreNamed e.versions) → AllNamed (state_in writer s row)
row_keeps_named writer s (Ok e) named new other =
    named_where writer other (other == writer) e.versions (s.versions other) new (named other)
row_keeps_named writer s (Err refusal) named new other = named other

change_named : (statement : Statement) (old : Versions) (row : Row) → IsNamed (Some statement)
    → AreNamed old → IfOk row (IsChange statement old) → IfOk row (λ e. AreNamed e.versions)
change_named statement old (Ok e) is named change =
    named_change (touch statement) old e.versions is named change.entries
change_named statement old (Err refusal) is named change = tt

said_named : (rules : Rules) (place : Place) (number : ℕ) (view : View)
    (line : Option Statement) → IsNamed line → AreNamed view.versions
    → IfOk (row_said rules place number view line) (λ e. AreNamed e.versions)
said_named rules place number view None is named = tt
said_named rules place number view (Some statement) is named =
    change_named statement view.versions (effect rules place number view statement) is named
    (statements_change_their_entry_lem rules place number view statement)

step_named : (rules : Rules) (place : Place) (number : ℕ) (s : State) (writer : ℕ) (line : Line)
    → IsNamedLine line → AllNamed s → AllNamed (state_of (step rules place number s writer line))
step_named rules place number s writer line is named =
    row_keeps_named writer s (row_said rules place number (view_of writer s) line.1) named
    (said_named rules place number (view_of writer s) line.1 is (named writer))

adopted_named : (writer : ℕ) (s : State) → AllNamed s → AllNamed (adopted writer s)
adopted_named writer s named other =
    named_where writer other (other == writer) (s.versions base_writer) (s.versions other)
    (named base_writer) (named other)

pub printed_lines_are_lines_lem : PrintedLinesAreLines
printed_lines_are_lines_lem rules place numbers s [] named all = tt
printed_lines_are_lines_lem rules place numbers s (adopts writer ∷ events) named all =
    printed_lines_are_lines_lem rules place numbers (adopted writer s) events
    (adopted_named writer s named) all.1
printed_lines_are_lines_lem rules place numbers s (says_line writer line ∷ events) named all =
    let number = next_number numbers in (
      turn_is_line rules place number s writer line (named writer),
      printed_lines_are_lines_lem rules place (numbers_after place line.1 numbers)
          (state_of (step rules place number s writer line)) events
          (step_named rules place number s writer line all.0 named) all.1,
    )
