-- The rows of edits, by the tests before the literal and the edit of the whole value.
use Rattle.std.proofs.Common.{◌≡◌, ◌==◌, ℕ, Bool, true, false, cond, is_none, is_some, List, length, Option, Some, None, Ok, Err, refl, sym, ap, ◌∙◌}
use Rattle.std.specs.Prelude.{nat_le}
use Rattle.ssz_bytes.specs.declared.fault.Fault.{Fault}
use Rattle.ssz_schema.specs.format.Format.{Format}
use Rattle.ssz_schema.specs.Types.{SszType, Options, list, bitlist}
use Rattle.ssz_schema.specs.Sizes.{option_count}
use Rattle.ssz_schema.specs.Legal.{IsLegal}
use Rattle.ssz_schema.specs.Paths.{Path, path_type}
use Rattle.ssz_schema.specs.Indices.{generalized_index, spot}
use Rattle.ssz_gindex.proofs.HelperNodes.{some_from}
use Rattle.ssz_value.specs.declared.edit_fault.EditFault.TheVariants.{Empty}
use Rattle.ssz_value.specs.Values.{SszValue, sequence, bits, items, Fits}
use Rattle.ssz_value.specs.Faults.{first_fault}
use Rattle.ssz_value.specs.Reading.{value_in}
use Rattle.ssz_value.specs.Parts.{part}
use Rattle.ssz_value.specs.Edits.{Edited, edited, with_less, set_at, append_at, pop_at, choose_at}
use Rattle.ssz_places.specs.Charges.{set_charge, append_charge, pop_charge, choose_charge}
use Rattle.ssz_places.specs.EditLaws.{count_of}
use Rattle.ssz_places.proofs.Joining.{law_of_indices}
use Rattle.ssz_places.proofs.Theorems.{law_of_faults, law_of_places}
use Rattle.ssz_script.specs.declared.reply.TheConstants.Reply.{NO_VERSION, BAD_PATH, ABSENT, NOT_THAT, FULL, EMPTY, BAD_SELECTOR}
use Rattle.ssz_machine.specs.State.{Name, Version, Versions, version_of}
use Rattle.ssz_machine.specs.Rules.{Outcome, Refusal, Row, ◌>>=◌, ◌>>◌, edit_code, coded, faultless, need, refuse, edits}
use Rattle.ssz_machine.specs.Making.{decoded}
use Rattle.ssz_machine.specs.Editing.{element_of, ends_beside, limit_of, options_of, inner_value, set, append, pop, choose}
use Rattle.ssz_engine.proofs.EditTests.{settable, appendable, choosable}

-- the part of a value of a legal type is one of its own type
pub part_fits : (format : Format) (t u : SszType) (v w : SszValue) (path : Path)
    → IsLegal format t → Fits t v → path_type t path ≡ Some u → part t v path ≡ Some w → Fits u w
part_fits format t u v w path legal fits typed there =
    let laws = law_of_indices t path in
    let index = some_from (generalized_index t path) (laws.0 ∙ ap is_some typed) in
    let lies = some_from (spot t path) (laws.1 ∙ ap is_some typed) in
    (law_of_places format t v path u w index.0 lies.0 (record { legal = legal; fits = fits })
    (record { type_at = typed; value = there; index = index.1; spot = lies.1 })).1.value.fits

-- what comes behind the tests of the part's own edit
abbrev after : Edited → Row → Row
after (Ok x) rest = rest
after (Err fault) rest = Err (coded (edit_code fault))

-- the tests of `pop` are those of the edit of the list
abbrev pub popped : SszType → SszValue → Row → Row
popped u w rest =
    refuse NOT_THAT (is_none (element_of u)) >> (refuse EMPTY (count_of w == 0) >> rest)

if_empty : (test : Bool) (x : SszValue) (rest : Row)
    → (refuse EMPTY test >> rest) ≡ after (cond test (Err Empty) (Ok x)) rest
if_empty true x rest = refl
if_empty false x rest = refl

pop_tests : (u : SszType) (w : SszValue) (rest : Row) → Fits u w
    → popped u w rest ≡ after (with_less u w) rest
pop_tests (list elem limit) (sequence vs) rest fits =
    if_empty (length (items vs) == 0) _ rest
pop_tests (bitlist limit) (bits bs) rest fits = if_empty (length bs == 0) _ rest
pop_tests (list elem limit) w rest fits = absurd fits
pop_tests (bitlist limit) w rest fits = absurd fits
pop_tests _ w rest fits = refl

-- behind the tests of the part's own edit stands that of the whole value
own_edit : (edit : SszType → SszValue → Edited) (t : SszType) (v : SszValue) (path : Path)
    (u : SszType) (w : SszValue) (versions : Versions) (name : Name) (charge : ℕ)
    → path_type t path ≡ Some u → part t v path ≡ Some w
    → after (edit u w) (edits versions name t (edited edit t v path) charge)
    ≡ edits versions name t (edited edit t v path) charge
own_edit edit t v path u w versions name charge typed there = by (edit u w) refl
  where
    by : (r : Edited) → edit u w ≡ r
        → after r (edits versions name t (edited edit t v path) charge)
        ≡ edits versions name t (edited edit t v path) charge
    by (Ok x) e = refl
    by (Err fault) e = ap (λ r. edits versions name t r charge)
        (sym ((law_of_faults t v path edit).own u w fault typed there e))

-- the row of `pop` is the edit of the whole value
pub pop_row : (format : Format) (versions : Versions) (name : Name) (version : Version)
    (path : Path) → IsLegal format version.type → Fits version.type version.value
    → version_of name versions ≡ Some version
    → pop versions name path
    ≡ edits versions name version.type (pop_at version.type version.value path)
    (pop_charge version.type version.value path)
pop_row format versions name version path legal fits held =
    ap (λ (o : Option Version). need NO_VERSION o
    >>= (λ (found : Version). need BAD_PATH (path_type found.type path)
    >>= (λ u. need ABSENT (part found.type found.value path) >>= (λ w. popped u w (end found)))))
    held
    ∙ by (path_type version.type path) (part version.type version.value path) refl refl
  where
    end : Version → Row
    end found = edits versions name found.type (pop_at found.type found.value path)
        (pop_charge found.type found.value path)

    by : (u : Option SszType) (w : Option SszValue) → path_type version.type path ≡ u
        → part version.type version.value path ≡ w
        → (need BAD_PATH u >>= (λ u. need ABSENT w >>= (λ w. popped u w (end version))))
        ≡ end version
    by None w typed there = ap (λ r. edits versions name version.type r
        (pop_charge version.type version.value path))
        (sym ((law_of_faults version.type version.value path with_less).bad_path typed))
    by (Some u) None typed there = ap (λ r. edits versions name version.type r
        (pop_charge version.type version.value path))
        (sym ((law_of_faults version.type version.value path with_less).absent u typed there))
    by (Some u) (Some w) typed there =
        pop_tests u w (end version)
        (part_fits format version.type u version.value w path legal fits typed there)
        ∙ own_edit with_less version.type version.value path u w versions name
        (pop_charge version.type version.value path) typed there

-- what comes behind the tests of the other edits

-- the literal is read, and the part is set
abbrev pub set_end : Versions → Name → Version → Path → List ℕ → SszType → Row
set_end versions name version path literal u = decoded u literal
    >>= (λ value. edits versions name version.type (set_at version.type version.value path value)
    (set_charge version.type path value))

pub set_row : (versions : Versions) (name : Name) (version : Version) (path : Path)
    (literal : List ℕ) → version_of name versions ≡ Some version
    → set versions name path literal
    ≡ (settable version.type version.value path >>= set_end versions name version path literal)
set_row versions name version path literal held =
    ap (λ (o : Option Version). need NO_VERSION o
    >>= (λ (found : Version). need BAD_PATH (path_type found.type path)
    >>= (λ u. refuse ABSENT (is_none (part found.type found.value path))
    >> (refuse NOT_THAT (ends_beside path)
    >> set_end versions name found path literal u)))) held
    ∙ by (path_type version.type path) (part version.type version.value path) (ends_beside path)
  where
    by : (u : Option SszType) (w : Option SszValue) (beside : Bool)
        → (need BAD_PATH u >>= (λ u. refuse ABSENT (is_none w)
        >> (refuse NOT_THAT beside >> set_end versions name version path literal u)))
        ≡ ((need BAD_PATH u >>= (λ u. need ABSENT w >>= (λ w. refuse NOT_THAT beside >> Ok u)))
        >>= set_end versions name version path literal)
    by None w beside = refl
    by (Some u) None beside = refl
    by (Some u) (Some w) true = refl
    by (Some u) (Some w) false = refl

abbrev pub append_end : Versions → Name → Version → Path → List ℕ → SszType → Row
append_end versions name version path literal element = decoded element literal
    >>= (λ value. edits versions name version.type
    (append_at version.type version.value path value)
    (append_charge version.type version.value path value))

pub append_row : (versions : Versions) (name : Name) (version : Version) (path : Path)
    (literal : List ℕ) → version_of name versions ≡ Some version
    → append versions name path literal
    ≡ (appendable version.type version.value path
    >>= append_end versions name version path literal)
append_row versions name version path literal held =
    ap (λ (o : Option Version). need NO_VERSION o
    >>= (λ (found : Version). need BAD_PATH (path_type found.type path)
    >>= (λ u. need ABSENT (part found.type found.value path)
    >>= (λ w. need NOT_THAT (element_of u)
    >>= (λ element. refuse FULL (nat_le (limit_of u) (count_of w))
    >> append_end versions name found path literal element))))) held
    ∙ by (path_type version.type path) (part version.type version.value path)
  where
    ending : (u : SszType) (w : SszValue) (element : Option SszType) (full : Bool)
        → (need NOT_THAT element >>= (λ element. refuse FULL full
        >> append_end versions name version path literal element))
        ≡ ((need NOT_THAT element >>= (λ element. refuse FULL full >> Ok element))
        >>= append_end versions name version path literal)
    ending u w None full = refl
    ending u w (Some element) true = refl
    ending u w (Some element) false = refl

    by : (u : Option SszType) (w : Option SszValue)
        → (need BAD_PATH u >>= (λ u. need ABSENT w >>= (λ w. need NOT_THAT (element_of u)
        >>= (λ element. refuse FULL (nat_le (limit_of u) (count_of w))
        >> append_end versions name version path literal element))))
        ≡ ((need BAD_PATH u >>= (λ u. need ABSENT w >>= (λ w. need NOT_THAT (element_of u)
        >>= (λ element. refuse FULL (nat_le (limit_of u) (count_of w)) >> Ok element))))
        >>= append_end versions name version path literal)
    by None w = refl
    by (Some u) None = refl
    by (Some u) (Some w) = ending u w (element_of u) (nat_le (limit_of u) (count_of w))

abbrev pub choose_end : Versions → Name → Version → Path → ℕ → Option (List ℕ) → Options → Row
choose_end versions name version path k literal os = inner_value os k literal
    >>= (λ inner. edits versions name version.type
    (choose_at version.type version.value path k inner)
    (choose_charge version.type path k inner))

pub choose_row : (versions : Versions) (name : Name) (version : Version) (path : Path) (k : ℕ)
    (literal : Option (List ℕ)) → version_of name versions ≡ Some version
    → choose versions name path k literal
    ≡ (choosable version.type version.value path k
    >>= choose_end versions name version path k literal)
choose_row versions name version path k literal held =
    ap (λ (o : Option Version). need NO_VERSION o
    >>= (λ (found : Version). need BAD_PATH (path_type found.type path)
    >>= (λ u. refuse ABSENT (is_none (part found.type found.value path))
    >> (need NOT_THAT (options_of u)
    >>= (λ os. refuse BAD_SELECTOR (nat_le (option_count os) k)
    >> choose_end versions name found path k literal os))))) held
    ∙ by (path_type version.type path) (part version.type version.value path)
  where
    ending : (os : Option Options) (bad : Options → Bool)
        → (need NOT_THAT os >>= (λ os. refuse BAD_SELECTOR (bad os)
        >> choose_end versions name version path k literal os))
        ≡ ((need NOT_THAT os >>= (λ os. refuse BAD_SELECTOR (bad os) >> Ok os))
        >>= choose_end versions name version path k literal)
    ending None bad = refl
    ending (Some os) bad = elim (bad os) as (λ test. (refuse BAD_SELECTOR test
        >> choose_end versions name version path k literal os)
        ≡ ((refuse BAD_SELECTOR test >> Ok os)
        >>= choose_end versions name version path k literal)) [ true ↦ refl | false ↦ refl ]

    by : (u : Option SszType) (w : Option SszValue)
        → (need BAD_PATH u >>= (λ u. refuse ABSENT (is_none w) >> (need NOT_THAT (options_of u)
        >>= (λ os. refuse BAD_SELECTOR (nat_le (option_count os) k)
        >> choose_end versions name version path k literal os))))
        ≡ ((need BAD_PATH u >>= (λ u. need ABSENT w >>= (λ w. need NOT_THAT (options_of u)
        >>= (λ os. refuse BAD_SELECTOR (nat_le (option_count os) k) >> Ok os))))
        >>= choose_end versions name version path k literal)
    by None w = refl
    by (Some u) None = refl
    by (Some u) (Some w) = ending (options_of u) (λ os. nat_le (option_count os) k)

-- what a literal comes to
reads : (u : SszType) (literal : List ℕ) (fault : Option Fault) (next : SszValue → Row)
    → first_fault u 0 literal ≡ fault
    → (decoded u literal >>= next) ≡ (faultless fault >> next (value_in u literal))
reads u literal fault next is =
    ap (λ f. (faultless f >> Ok (value_in u literal)) >>= next) is ∙ by fault
  where
    by : (f : Option Fault)
        → ((faultless f >> Ok (value_in u literal)) >>= next)
        ≡ (faultless f >> next (value_in u literal))
    by None = refl
    by (Some f) = refl

module _ (versions : Versions) (name : Name) (version : Version) (path : Path)
    (held : version_of name versions ≡ Some version) where
  abbrev t : SszType
  t = version.type

  abbrev v : SszValue
  v = version.value

  module _ (literal : List ℕ) where
    -- of a set
    pub set_refused : (refusal : Refusal) → settable t v path ≡ Err refusal
        → set versions name path literal ≡ Err refusal
    set_refused refusal is = set_row versions name version path literal held
        ∙ ap (λ o. o >>= set_end versions name version path literal) is

    pub set_read : (u : SszType) (fault : Option Fault) → settable t v path ≡ Ok u
        → first_fault u 0 literal ≡ fault
        → set versions name path literal
        ≡ (faultless fault >> edits versions name t (set_at t v path (value_in u literal))
        (set_charge t path (value_in u literal)))
    set_read u fault is read = set_row versions name version path literal held
        ∙ ap (λ o. o >>= set_end versions name version path literal) is
        ∙ reads u literal fault _ read

    -- of an append
    pub append_refused : (refusal : Refusal) → appendable t v path ≡ Err refusal
        → append versions name path literal ≡ Err refusal
    append_refused refusal is = append_row versions name version path literal held
        ∙ ap (λ o. o >>= append_end versions name version path literal) is

    pub append_read : (u : SszType) (fault : Option Fault) → appendable t v path ≡ Ok u
        → first_fault u 0 literal ≡ fault
        → append versions name path literal
        ≡ (faultless fault >> edits versions name t (append_at t v path (value_in u literal))
        (append_charge t v path (value_in u literal)))
    append_read u fault is read = append_row versions name version path literal held
        ∙ ap (λ o. o >>= append_end versions name version path literal) is
        ∙ reads u literal fault _ read

  module _ (k : ℕ) (literal : Option (List ℕ)) where
    -- of a choose
    pub choose_refused : (refusal : Refusal) → choosable t v path k ≡ Err refusal
        → choose versions name path k literal ≡ Err refusal
    choose_refused refusal is = choose_row versions name version path k literal held
        ∙ ap (λ o. o >>= choose_end versions name version path k literal) is

    pub choose_read : (os : Options) (inner : Outcome (Option SszValue))
        → choosable t v path k ≡ Ok os → inner_value os k literal ≡ inner
        → choose versions name path k literal
        ≡ (inner >>= (λ x. edits versions name t (choose_at t v path k x)
        (choose_charge t path k x)))
    choose_read os inner is read = choose_row versions name version path k literal held
        ∙ ap (λ o. o >>= choose_end versions name version path k literal) is
        ∙ ap (λ o. o >>= (λ x. edits versions name t (choose_at t v path k x)
        (choose_charge t path k x))) read
