-- Each version before each step of a script is a value of a legal type.
use Rattle.std.proofs.Common.{ℕ, ◌≡◌, ◌==◌, ◌<◌, Bool, true, false, cond, List, [], ◌∷◌, Option, Some, None, refl, sym, ap, ◌∙◌, subst, arith}
use Rattle.std.specs.Prelude.{Ok, Err, IfOk, nat_le}
use Rattle.std.proofs.lemmas.Bool.Decides.{nat_tests}
use Rattle.std.proofs.lemmas.Option.{same_Some}
use Rattle.ssz_outside.specs.Content.{contents}
use Rattle.ssz_outside.specs.Job.{Save}
use Rattle.ssz_places.specs.EditLaws.{IsChoice}
use Rattle.ssz_places.specs.PlaceLaws.{IsLegalValue}
use Rattle.ssz_places.proofs.ListEdits.{law_of_append, law_of_pop}
use Rattle.ssz_places.proofs.Theorems.{law_of_choice}
use Rattle.ssz_schema.specs.format.Format.{Format}
use Rattle.ssz_schema.specs.Legal.{IsLegal, AreLegalOptions}
use Rattle.ssz_schema.specs.Paths.{Path, path_type}
use Rattle.ssz_schema.specs.Sizes.{option_count}
use Rattle.ssz_schema.specs.Types.{SszType, Options, union}
use Rattle.ssz_script.specs.declared.reply.Reply.{Reply}
use Rattle.ssz_script.specs.declared.reply.TheConstants.Reply.{NO_TYPE, NO_VERSION, BAD_PATH, ABSENT, NOT_THAT, BAD_SELECTOR}
use Rattle.ssz_script.specs.declared.statement.Statement.{Statement}
use Rattle.ssz_script.specs.declared.statement.Statement.TheVariants.{New, Lit, Load, Fork, Drop, List as ListNames, Set, Append, Pop, Choose, Root, Bytes, Len, Save as SaveInto, Gindex, Prove, Hashes, Upgrade, Json, LoadJson, Compact}
use Rattle.ssz_value.specs.Values.{SszValue, Fits}
use Rattle.ssz_value.specs.Edits.{Edited, edited, with_more, with_less, with_choice}
use Rattle.ssz_value.specs.Defaults.{default_of}
use Rattle.ssz_value.specs.Parts.{part}
use Rattle.ssz_forms.specs.Upgrades.{upgraded}
use Rattle.ssz_value.proofs.SizeLaw.{default_fits}
use Rattle.ssz_machine.specs.declared.place.Place.{Place}
use Rattle.ssz_machine.specs.State.{Name, Version, Versions, View, State, version_of, view_of}
use Rattle.ssz_machine.specs.Rules.{Rules, Effect, Row, ◌>>◌, need, refuse, edits, makes, says_reply}
use Rattle.ssz_machine.specs.Making.{decoded, spelled, contained, new, lit, load, loadjson, fork, upgrade, drop}
use Rattle.ssz_machine.specs.Editing.{element_of, options_of, inner_value, set, append, pop, choose}
use Rattle.ssz_machine.specs.Machine.{effect, row_said, step, state_in, state_of}
use Rattle.ssz_machine.specs.Plays.{says as says_line, adopts, adopted, base_writer, next_number, numbers_after}
use Rattle.ssz_machine.specs.Proofs.{IsSoundVersion}
use Rattle.ssz_machine.specs.Sound.{AreShort, VersionsAreSound, BringsBytes, HasLegalTypes, IsSoundState, ScriptsKeepValues}
use Rattle.ssz_machine.proofs.Rowwise.{Does, given, passed}
use Rattle.ssz_machine.proofs.Soundness.{BringsChoice, choice_fits, decoded_fits, edit_fits, edited_is, element_fits, given_is, needed, sound_found, sound_put, sound_without, spelled_fits, upgrade_fits}

same_Ok : (x y : SszValue) → ◌≡◌ {A = Edited} (Ok x) (Ok y) → x ≡ y
same_Ok x y e = cc

-- after a test that is passed
passed_is : {P : Effect → Type 0} (code : ℕ) (test : Bool) (next : Row)
    → (test ≡ false → Does P next) → Does P (refuse code test >> next)
passed_is {P} code test next then = by test refl
  where
    by : (b : Bool) → test ≡ b → Does P (refuse code b >> next)
    by true is = record { is = tt }
    by false is = then is

-- a union, by its options
options_is : (type : SszType) (os : Options) → options_of type ≡ Some os → type ≡ union os
options_is (union ps) os is = let same : ps ≡ os = cc in ap union same
options_is _ os is = let differ : None ≡ Some os = is in cc

union_legal : (format : Format) (os : Options) → IsLegal format (union os)
    → AreLegalOptions format os
union_legal format os legal = legal.3

below : (os : Options) (k : ℕ) → nat_le (option_count os) k ≡ false → k < option_count os
below os k few = grind (arith, nat_tests)

module _ (rules : Rules) (format : Format) (legal : HasLegalTypes rules format) where
  abbrev Keeps : Row → Type 0
  Keeps row = Does (λ (e : Effect). VersionsAreSound format e.versions) row

  module _ (versions : Versions) (all : VersionsAreSound format versions) where
    made : (name : Name) (type : SszType) (value : SszValue) (charge : ℕ) → IsLegal format type
        → Fits type value → Keeps (makes versions name type value charge)
    made name type value charge is fits = record {
      is = sound_put format name (record { type = type; value = value }) versions
          (record { legal = is; fits = fits }) all;
    }

    told : (reply : Reply) → Keeps (says_reply versions reply)
    told reply = record { is = all }

    kept : (reply : Reply) (save : Option Save) (charge : ℕ)
        → Keeps (Ok (record { reply = reply; versions = versions; save = save; charge = charge }))
    kept reply save charge = record { is = all }

    type_legal : (t : Name) (type : SszType) → need NO_TYPE (rules.type_named t) ≡ Ok type
        → IsLegal format type
    type_legal t type is = legal t type (needed NO_TYPE (rules.type_named t) type is)

    sound_of : (v : Name) (version : Version) → need NO_VERSION (version_of v versions) ≡ Ok version
        → IsSoundVersion format version
    sound_of v version is =
        sound_found format v versions version all
        (needed NO_VERSION (version_of v versions) version is)

    new_keeps : (v t : Name) → Keeps (new rules versions v t)
    new_keeps v t = given_is (need NO_TYPE (rules.type_named t)) _ (λ type is.
        passed _ _ (made v type (default_of type) _ (type_legal t type is)
        (default_fits format type (type_legal t type is))))

    lit_keeps : (v t : Name) (literal : List ℕ) → AreShort literal
        → Keeps (lit rules versions v t literal)
    lit_keeps v t literal short = given_is (need NO_TYPE (rules.type_named t)) _ (λ type is.
        passed _ _ (given_is (decoded type literal) _ (λ value read.
        made v type value _ (type_legal t type is)
        (decoded_fits format type literal value (type_legal t type is) short read))))

    load_keeps : (v t : Name) (bytes : List ℕ) → AreShort bytes
        → Keeps (load rules versions v t bytes)
    load_keeps v t bytes short = given_is (need NO_TYPE (rules.type_named t)) _ (λ type is.
        passed _ _ (passed _ _ (given_is (decoded type bytes) _ (λ value read.
        made v type value _ (type_legal t type is)
        (decoded_fits format type bytes value (type_legal t type is) short read)))))

    loadjson_keeps : (v t : Name) (bytes : List ℕ) → Keeps (loadjson rules versions v t bytes)
    loadjson_keeps v t bytes = given_is (need NO_TYPE (rules.type_named t)) _ (λ type is.
        passed _ _ (passed _ _ (given_is (spelled type bytes) _ (λ value read.
        made v type value _ (type_legal t type is) (spelled_fits type bytes value read)))))

    fork_keeps : (v w : Name) → Keeps (fork versions v w)
    fork_keeps v w = given_is (need NO_VERSION (version_of v versions)) _ (λ version is.
        let sound = sound_of v version is in
        passed _ _ (made w version.type version.value _ sound.legal sound.fits))

    upgrade_keeps : (v w t : Name) → Keeps (upgrade rules versions v w t)
    upgrade_keeps v w t = given_is (need NO_TYPE (rules.type_named t)) _ (λ type named.
        given_is (need NO_VERSION (version_of v versions)) _ (λ version is.
        passed _ _ (given_is (contained (upgraded version.type version.value type)) _
        (λ value up. made w type value _ (type_legal t type named)
        (upgrade_fits format version.type type version.value value
        (sound_of v version is).fits (type_legal t type named) up)))))

    drop_keeps : (v : Name) → Keeps (drop versions v)
    drop_keeps v = given (need NO_VERSION (version_of v versions)) _ (λ version.
        record { is = sound_without format v versions all })

    -- the value of an edit of the part at a path
    whole : (v : Name) (version : Version)
        (is : need NO_VERSION (version_of v versions) ≡ Ok version) (path : Path)
        (edit : SszType → SszValue → Edited) (charge : ℕ)
        → ((u : SszType) (w x : SszValue) → IsLegalValue format u w
        → path_type version.type path ≡ Some u → edit u w ≡ Ok x → Fits u x)
        → Keeps (edits versions v version.type (edited edit version.type version.value path) charge)
    whole v version is path edit charge inner =
        let sound = sound_of v version is in
        edited_is versions v version.type (edited edit version.type version.value path) charge
        (λ value done. made v version.type value charge sound.legal
        (edit_fits format version.type version.value value path edit
        (record { legal = sound.legal; fits = sound.fits })
        (λ u w x lv typed there ok. inner u w x lv typed ok) done))

    set_keeps : (v : Name) (path : Path) (literal : List ℕ) → AreShort literal
        → Keeps (set versions v path literal)
    set_keeps v path literal short =
        given_is (need NO_VERSION (version_of v versions)) _ (λ version is.
        given_is (need BAD_PATH (path_type version.type path)) _ (λ type typed.
        passed _ _ (passed _ _ (given_is (decoded type literal) _ (λ value read.
        whole v version is path (λ _ _. Ok value) _ (λ u w x lv at ok.
        let same : type ≡ u = same_Some type u
        (sym (needed BAD_PATH (path_type version.type path) type typed) ∙ at) in
        let made_is : value ≡ x = same_Ok value x ok in
        subst (Fits u) made_is (decoded_fits format u literal value lv.legal short
        (ap (λ t. decoded t literal) (sym same) ∙ read))))))))

    append_keeps : (v : Name) (path : Path) (literal : List ℕ) → AreShort literal
        → Keeps (append versions v path literal)
    append_keeps v path literal short =
        given_is (need NO_VERSION (version_of v versions)) _ (λ version is.
        given_is (need BAD_PATH (path_type version.type path)) _ (λ type typed.
        given (need ABSENT (part version.type version.value path)) _ (λ present.
        given_is (need NOT_THAT (element_of type)) _ (λ element counted.
        passed _ _ (given_is (decoded element literal) _ (λ value read.
        whole v version is path (with_more value) _ (λ u w x lv at ok.
        let same : type ≡ u = same_Some type u
        (sym (needed BAD_PATH (path_type version.type path) type typed) ∙ at) in
        let of = element_fits format u element lv.legal
        (ap element_of (sym same) ∙ needed NOT_THAT (element_of type) element counted) in
        (law_of_append format u w value x lv (subst (λ e. Fits e value) (sym of.0)
        (decoded_fits format element literal value of.1 short read)) ok).0.fits)))))))

    pop_keeps : (v : Name) (path : Path) → Keeps (pop versions v path)
    pop_keeps v path =
        given_is (need NO_VERSION (version_of v versions)) _ (λ version is.
        given (need BAD_PATH (path_type version.type path)) _ (λ type.
        given (need ABSENT (part version.type version.value path)) _ (λ present.
        passed _ _ (passed _ _ (whole v version is path with_less _ (λ u w x lv at ok.
        (law_of_pop format u w x lv ok).0.fits))))))

    choose_keeps : (v : Name) (path : Path) (k : ℕ) (literal : Option (List ℕ))
        → BringsChoice literal → Keeps (choose versions v path k literal)
    choose_keeps v path k literal brings =
        given_is (need NO_VERSION (version_of v versions)) _ (λ version is.
        given_is (need BAD_PATH (path_type version.type path)) _ (λ type typed.
        passed _ _ (given_is (need NOT_THAT (options_of type)) _ (λ os union_is.
        passed_is BAD_SELECTOR (nat_le (option_count os) k) _ (λ few.
        given_is (inner_value os k literal) _ (λ inner given_inner.
        whole v version is path (with_choice k inner) _ (λ u w x lv at ok.
        let same : type ≡ u = same_Some type u
        (sym (needed BAD_PATH (path_type version.type path) type typed) ∙ at) in
        let of : u ≡ union os = sym same
        ∙ options_is type os (needed NOT_THAT (options_of type) os union_is) in
        let options = union_legal format os (subst (IsLegal format) of lv.legal) in
        (law_of_choice u w x k inner ok (subst (λ t. IsChoice t k inner) (sym of)
        (choice_fits format os k literal inner options (below os k few) brings
        given_inner))).0)))))))

  -- what a statement does
  statement_keeps : (place : Place) (number : ℕ) (view : View) (statement : Statement)
      → BringsBytes view.files (Some statement) → VersionsAreSound format view.versions
      → Keeps (effect rules place number view statement)
  statement_keeps place number view (New v t) brings all = new_keeps view.versions all v t
  statement_keeps place number view (Lit v t x) brings all =
      lit_keeps view.versions all v t x brings
  statement_keeps place number view (Load v t f) brings all =
      load_keeps view.versions all v t (contents view.files f) brings
  statement_keeps place number view (Fork v w) brings all = fork_keeps view.versions all v w
  statement_keeps place number view (Upgrade v w t) brings all =
      upgrade_keeps view.versions all v w t
  statement_keeps place number view (Drop v) brings all = drop_keeps view.versions all v
  statement_keeps place number view ListNames brings all = record { is = all }
  statement_keeps place number view (Set v path x) brings all =
      set_keeps view.versions all v path x brings
  statement_keeps place number view (Append v path x) brings all =
      append_keeps view.versions all v path x brings
  statement_keeps place number view (Pop v path) brings all = pop_keeps view.versions all v path
  statement_keeps place number view (Choose v path k None) brings all =
      choose_keeps view.versions all v path k None tt
  statement_keeps place number view (Choose v path k (Some x)) brings all =
      choose_keeps view.versions all v path k (Some x) brings
  statement_keeps place number view (Root v) brings all =
      let ends = told view.versions all in search (given, ends) depth 12
  statement_keeps place number view (Bytes v path) brings all =
      let ends = told view.versions all in search (given, passed, ends) depth 12
  statement_keeps place number view (Json v path) brings all =
      let ends = told view.versions all in search (given, passed, ends) depth 12
  statement_keeps place number view (Len v path) brings all =
      let ends = told view.versions all in search (given, passed, ends) depth 12
  statement_keeps place number view (SaveInto v file) brings all =
      let ends = kept view.versions all in search (given, passed, ends) depth 12
  statement_keeps place number view (Gindex t path) brings all =
      let ends = told view.versions all in search (given, ends) depth 12
  statement_keeps place number view (Prove v indices) brings all =
      let ends = told view.versions all in search (given, passed, ends) depth 12
  statement_keeps place number view Hashes brings all =
      let ends = told view.versions all in search (passed, ends) depth 12
  statement_keeps place number view (LoadJson v t f) brings all =
      loadjson_keeps view.versions all v t (contents view.files f)
  statement_keeps place number view Compact brings all = record { is = all }

  said_keeps : (place : Place) (number : ℕ) (view : View) (line : Option Statement)
      → BringsBytes view.files line → VersionsAreSound format view.versions
      → IfOk (row_said rules place number view line) (λ e. VersionsAreSound format e.versions)
  said_keeps place number view None brings all = tt
  said_keeps place number view (Some statement) brings all =
      (statement_keeps place number view statement brings all).is

-- the versions of one writer, or of another
sound_where : (format : Format) (b : Bool) (new old : Versions) → VersionsAreSound format new
    → VersionsAreSound format old → VersionsAreSound format (cond b new old)
sound_where format true new old first second = first
sound_where format false new old first second = second

row_keeps : (format : Format) (writer : ℕ) (s : State) (row : Row) → IsSoundState format s
    → IfOk row (λ e. VersionsAreSound format e.versions)
    → IsSoundState format (state_in writer s row)
row_keeps format writer s (Ok e) sound new other =
    sound_where format (other == writer) e.versions (s.versions other) new (sound other)
row_keeps format writer s (Err refusal) sound new other = sound other

pub scripts_keep_values_lem : ScriptsKeepValues
scripts_keep_values_lem rules format place numbers s [] legal sound brings = tt
scripts_keep_values_lem rules format place numbers s (adopts writer ∷ events) legal sound brings =
    scripts_keep_values_lem rules format place numbers (adopted writer s) events legal
    (λ other. sound_where format (other == writer) (s.versions base_writer) (s.versions other)
    (sound base_writer) (sound other)) brings
scripts_keep_values_lem rules format place numbers s (says_line writer line ∷ events) legal sound
    brings =
    let number = next_number numbers in (
      sound,
      scripts_keep_values_lem rules format place (numbers_after place line.1 numbers)
          (state_of (step rules place number s writer line)) events legal
          (row_keeps format writer s (row_said rules place number (view_of writer s) line.1) sound
          (said_keeps rules format legal place number (view_of writer s) line.1 brings.0
          (sound writer))) brings.1,
    )
