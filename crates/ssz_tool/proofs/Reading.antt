-- What the readers of files make of a plan's steps.
use Rattle.std.proofs.Common.{◌≡◌, ◌≤◌, ◌<◌, ℕ, zero, suc, ◌+◌, List, [], ◌∷◌, ◌++◌, length, take, drop, get_or, arith, Vec, Global, true, false, option_map, Option, Some, None, Result, Ok, Err, append_assoc, take-append-drop, refl, sym, ap, subst, ◌∙◌}
use Rattle.std.specs.Prelude.{IsSome, MatchOption}
use Rattle.std.proofs.Math.Path.{fun_ext}
use Rattle.ssz_outside.proofs.Asking.{asks-behind, asks-cut, asks-within}
use Rattle.ssz_outside.specs.Asked.{Ask, Asks, AsksOf}
use Rattle.ssz_outside.specs.Content.{Content}
use Rattle.ssz_outside.specs.declared.outside.Files.{Ghosts}
use Rattle.ssz_schema.specs.Lookup.{lookup_name}
use Rattle.ssz_schema.specs.Types.{SszType}
use Rattle.ssz_schema.specs.Unfolding.{Types, type_number, type_of}
use Rattle.ssz_schema_json.specs.Schema.{FileFault, HasTypes as HasNames, NamedTypes}
use Rattle.ssz_tool.specs.Commands.{script_file, script_files, types_read}
use Rattle.ssz_tool.specs.Follows.{AnswersPlan, ComesOf, CountsStop, Follows, is_cut_short}
use Rattle.ssz_tool.specs.Plans.{Plan, asks_in, file, gives, need, reads, refuses, ◌>>=◌}
use Rattle.ssz_tool.specs.Tasks.{HasItems, NamesHaveTypes}
use Rattle.ssz_tool.specs.declared.line.Line.{Line}
use Rattle.ssz_tool.specs.declared.stop.Stop.{Stop}
use Rattle.ssz_tool.specs.declared.stop.Stop.TheVariants as stop
use Rattle.ssz_tool.proofs.Asking.{asks-gives, asks-stopped, asks-then}
use Rattle.ssz_tool.proofs.Comings.{given}
use Rattle.ssz_tool.proofs.Steps.{comes_stopped, comes_then, follows_here}

-- the schema that was read knows each name for the type that the file defines
pub has_types : (schema : Types) (names : NamedTypes) → HasNames schema names
    → NamesHaveTypes (lookup_name names.types) schema
has_types schema names has = fun_ext (λ name. sym (has.types name))

no_some : {A : Type 0} (o : Option A) → ((x : A) → o ≡ Some x → ⊥) → o ≡ None
no_some None none = refl
no_some (Some x) none = absurd (none x refl)

-- so the type that was found of a name is that of the file, and where none was, there is none
pub named : (types : List ℕ → Option SszType) (schema : Types) (word text : List ℕ) (id : ℕ)
    → NamesHaveTypes types schema → text ≡ word → Some id ≡ type_number schema text
    → types word ≡ Some (type_of schema id)
named types schema word text id has same is =
    rw has (ap (option_map (type_of schema)) (ap (type_number schema) (sym same) ∙ sym is))

pub not_named : (types : List ℕ → Option SszType) (schema : Types) (word text : List ℕ)
    (found : Option ℕ) → NamesHaveTypes types schema → text ≡ word → found ≡ type_number schema text
    → ((id : ℕ) → found ≡ Some id → ⊥) → types word ≡ None
not_named types schema word text found has same is none =
    rw has (ap (option_map (type_of schema)) (ap (type_number schema) (sym same) ∙ sym is
    ∙ no_some found none))

-- what is so where nothing is there, and something where something is
pub where_none : {A : Type 0} (o : Option A) (P : Type 0) (Q : A → Type 0) → MatchOption o P Q
    → ((x : A) → o ≡ Some x → ⊥) → P
where_none None P Q is none = is
where_none (Some x) P Q is none = absurd (none x refl)

pub there : {A : Type 0} (o : Option A) → IsSome o → (x : A) × (o ≡ Some x)
there None is = let differ : false ≡ true = is in cc
there (Some x) is = (x, refl)

counted : {A T : Type 0} (S : A → T → Type 0) (plan : Plan A) (result : Result T Stop) (n : ℕ)
    → AnswersPlan S plan result → CountsStop result n n
counted S plan (Ok made) n is = refl
counted S plan (Err stop.Usage) n is = refl
counted S plan (Err (stop.Says said)) n is = refl
counted S plan (Err stop.Memory) n is = refl
counted S (gives x) (Err stop.Read) n is = absurd is
counted S (refuses said) (Err stop.Read) n is = absurd is
counted S (reads name most long next) (Err stop.Read) n is = absurd is

pub follows_answered : {Self A T : Type 0} (F : Ghosts Self) (S : A → T → Type 0) (plan : Plan A)
    (result : Result T Stop) (files : Self) → AnswersPlan S plan result
    → Follows F S plan result files files
follows_answered F S plan result files is =
    follows_here F S plan result files (counted S plan result (F.get_faults files) is) is

-- what stands for what a plan gives, in another form
pub comes_as : {A T U : Type 0} (told : Option Content) (P : List ℕ → Type 0)
    (S : A → T → Type 0) (R : A → U → Type 0) (plan : Plan A) (made : T) (other : U)
    → ((x : A) → S x made → R x other) → ComesOf told P S plan (Ok made)
    → ComesOf told P R plan (Ok other)
comes_as told P S R (gives x) made other as_other comes = as_other x comes
comes_as told P S R (refuses said) made other as_other comes = comes
comes_as told P S R (reads name most long next) made other as_other (bytes, few, is, then) =
    (bytes, few, is, comes_as told P S R (next bytes) made other as_other then)

-- bytes that were read of a file are no more than it may have
pub read_within : (told : Option Content) (P : List ℕ → Type 0) (name : List ℕ) (most : ℕ)
    (long : Line) (read : Vec ℕ Global)
    → ComesOf told P HasItems (file name most long) (Ok read) → length read.items ≤ most
unfolding file
read_within told P name most long read (bytes, few, is, same) =
    subst (λ (b : List ℕ). length b ≤ most) (sym same) few

-- what is there, and where nothing is
pub need_given : {A T : Type 0} (S : A → T → Type 0) (missing : Line) (o : Option A) (x : A)
    (made : T) → o ≡ Some x → S x made → AnswersPlan S (need missing o) (Ok made)
need_given S missing o x made is stands = rw is stands

pub need_refused : {A T : Type 0} (S : A → T → Type 0) (missing : Line) (o : Option A)
    → o ≡ None → AnswersPlan {T = T} S (need missing o) (Err (stop.Says missing))
need_refused S missing o is = rw is refl

-- the types of a schema, and where it is refused
pub schema_given : (meant : Result NamedTypes FileFault) (schema : Types)
    → (names : NamedTypes) × (meant ≡ Ok names) × HasNames schema names
    → AnswersPlan NamesHaveTypes (types_read meant) (Ok schema)
schema_given meant schema (names, is, has) = rw is (has_types schema names has)

pub schema_refused : (meant : Result NamedTypes FileFault) (fault : FileFault) (said : Line)
    → meant ≡ Err fault → types_read (Err fault) ≡ refuses said
    → AnswersPlan {T = Types} NamesHaveTypes (types_read meant) (Err (stop.Says said))
schema_refused meant fault said is refused = rw (is, refused) refl

-- ---- scripts, one behind another

-- what was given by a plan behind another
record IsSplit {A B U : Type 0} (told : Option Content) (P : List ℕ → Type 0)
    (R : B → U → Type 0) (plan : Plan A) (next : A → Plan B) (made : U) : Type 0 where
  first : A
  before : ComesOf told P (λ meant made. made ≡ meant) plan (Ok first)
  behind : ComesOf told P R (next first) (Ok made)

split : {A B U : Type 0} (told : Option Content) (P : List ℕ → Type 0) (R : B → U → Type 0)
    (plan : Plan A) (next : A → Plan B) (made : U) → ComesOf told P R (plan >>= next) (Ok made)
    → IsSplit told P R plan next made
unfolding ◌>>=◌
split told P R (gives x) next made comes = record { first = x; before = refl; behind = comes }
split told P R (refuses said) next made comes = absurd comes
split told P R (reads name most long first) next made (bytes, few, is, then) =
    let rest = split told P R (first bytes) next made then in
    record {
      first = rest.first;
      before = (bytes, few, is, rest.before);
      behind = rest.behind;
    }

taken_next : (names : List (List ℕ)) (i : ℕ) (name : List ℕ) → i < length names
    → name ≡ get_or names i name → take (i + 1) names ≡ take i names ++ name ∷ []
taken_next [] i name within is = absurd (omega arith)
taken_next (first ∷ names) zero name within is = let same : first ≡ name = cc in ap (λ n. n ∷ [])
    same
taken_next (first ∷ names) (suc i) name within is =
    let next : suc i + 1 ≡ suc (i + 1) = omega arith in
    rw next (ap (λ ns. first ∷ ns) (taken_next names i name (omega arith) is))

parted : (names : List (List ℕ)) (i : ℕ) (name : List ℕ) → i < length names
    → name ≡ get_or names i name → take i names ++ name ∷ drop (i + 1) names ≡ names
parted [] i name within is = absurd (omega arith)
parted (first ∷ names) zero name within is =
    let same : first ≡ name = cc in ap (λ n. n ∷ names) (sym same)
parted (first ∷ names) (suc i) name within is =
    let next : suc i + 1 ≡ suc (i + 1) = omega arith in
    rw next (ap (λ ns. first ∷ ns) (parted names i name (omega arith) is))

module _ (told : Option Content) (P : List ℕ → Type 0) where
  -- the scripts of files were read
  abbrev pub AreRead : List (List ℕ) → List (List ℕ) → Type 0
  AreRead names scripts =
      ComesOf told P (λ meant made. made ≡ meant) (script_files names) (Ok scripts)

  -- one more behind them
  pub one_more : (names scripts : List (List ℕ)) (name script : List ℕ) → AreRead names scripts
      → ComesOf told P (λ meant made. made ≡ meant) (script_file name) (Ok script)
      → AreRead (names ++ name ∷ []) (scripts ++ script ∷ [])
  unfolding script_files ◌>>=◌
  one_more [] scripts name script so_far read =
      comes_then told P (λ meant made. made ≡ meant) (λ meant made. made ≡ meant)
      (script_file name) (λ s. script_files [] >>= (λ ss. gives (s ∷ ss))) script
      (Ok (scripts ++ script ∷ [])) read
      (λ s is. rw so_far (ap (λ (b : List ℕ). b ∷ []) is))
  one_more (first ∷ names) scripts name script so_far read =
      let whole = split told P (λ meant made. made ≡ meant) (script_file first)
      (λ s. script_files names >>= (λ ss. gives (s ∷ ss))) scripts so_far in
      let rest = split told P (λ meant made. made ≡ meant) (script_files names)
      (λ ss. gives (whole.first ∷ ss)) scripts whole.behind in
      let more = one_more names rest.first name script rest.before read in
      comes_then told P (λ meant made. made ≡ meant) (λ meant made. made ≡ meant)
      (script_file first) (λ s. script_files (names ++ name ∷ []) >>= (λ ss. gives (s ∷ ss)))
      whole.first (Ok (scripts ++ script ∷ [])) whole.before
      (λ s is. comes_then told P (λ meant made. made ≡ meant) (λ meant made. made ≡ meant)
      (script_files (names ++ name ∷ [])) (λ ss. gives (s ∷ ss)) (rest.first ++ script ∷ [])
      (Ok (scripts ++ script ∷ [])) more
      (λ ss are. rw (rest.behind, sym is, sym are) refl))

  -- there are as many as names
  pub so_many : (names scripts : List (List ℕ)) → AreRead names scripts
      → length scripts ≡ length names
  unfolding script_files ◌>>=◌
  so_many [] scripts read = ap length read
  so_many (first ∷ names) scripts read =
      let whole = split told P (λ meant made. made ≡ meant) (script_file first)
      (λ s. script_files names >>= (λ ss. gives (s ∷ ss))) scripts read in
      let rest = split told P (λ meant made. made ≡ meant) (script_files names)
      (λ ss. gives (whole.first ∷ ss)) scripts whole.behind in
      ap length rest.behind ∙ ap suc (so_many names rest.first rest.before)

  -- the next one stopped it
  stopped_at : {T U : Type 0} (S : List ℕ → T → Type 0) (R : List (List ℕ) → U → Type 0)
      (names scripts others : List (List ℕ)) (name : List ℕ) (why : Stop) → AreRead names scripts
      → ComesOf told P S (script_file name) (Err why)
      → ComesOf told P R (script_files (names ++ name ∷ others)) (Err why)
  unfolding script_files ◌>>=◌
  stopped_at S R [] scripts others name why so_far stopped =
      comes_stopped told P S R (script_file name)
      (λ s. script_files others >>= (λ ss. gives (s ∷ ss))) why stopped
  stopped_at S R (first ∷ names) scripts others name why so_far stopped =
      let whole = split told P (λ meant made. made ≡ meant) (script_file first)
      (λ s. script_files names >>= (λ ss. gives (s ∷ ss))) scripts so_far in
      let rest = split told P (λ meant made. made ≡ meant) (script_files names)
      (λ ss. gives (whole.first ∷ ss)) scripts whole.behind in
      comes_then told P (λ meant made. made ≡ meant) R (script_file first)
      (λ s. script_files (names ++ name ∷ others) >>= (λ ss. gives (s ∷ ss))) whole.first
      (Err why) whole.before
      (λ s is. comes_stopped told P R R (script_files (names ++ name ∷ others))
      (λ ss. gives (s ∷ ss)) why
      (stopped_at S R names rest.first others name why rest.before stopped))

  -- one more of those that are left, or the one that stopped it
  pub next_read : (names scripts : List (List ℕ)) (i : ℕ) (name script : List ℕ)
      → i < length names → name ≡ get_or names i name → AreRead (take i names) scripts
      → ComesOf told P (λ meant made. made ≡ meant) (script_file name) (Ok script)
      → AreRead (take (i + 1) names) (scripts ++ script ∷ [])
  next_read names scripts i name script within is so_far read =
      subst (λ ns. AreRead ns (scripts ++ script ∷ [])) (sym (taken_next names i name within is))
      (one_more (take i names) scripts name script so_far read)

  pub next_stopped : {T U : Type 0} (S : List ℕ → T → Type 0) (R : List (List ℕ) → U → Type 0)
      (names scripts : List (List ℕ)) (i : ℕ) (name : List ℕ) (why : Stop) → i < length names
      → name ≡ get_or names i name → AreRead (take i names) scripts
      → ComesOf told P S (script_file name) (Err why)
      → ComesOf told P R (script_files names) (Err why)
  next_stopped S R names scripts i name why within is so_far stopped =
      subst (λ ns. ComesOf told P R (script_files ns) (Err why)) (parted names i name within is)
      (stopped_at S R (take i names) scripts (drop (i + 1) names) name why so_far stopped)

-- What is asked for scripts, one behind another.
module _ (held : Content) (P : List ℕ → Type 0) where
  asks-first : (first script : List ℕ) (names : List (List ℕ))
      → ComesOf (Some held) P (λ meant made. made ≡ meant) (script_file first) (Ok script)
      → asks_in held (script_files (first ∷ names))
      ≡ asks_in held (script_file first) ++ asks_in held (script_files names)
  unfolding script_files
  asks-first first script names comes =
      let same : List ℕ → List ℕ → Type 0 = λ meant made. made ≡ meant in
      let x = given (Some held) P same (script_file first) script comes in
      asks-then held P same (script_file first)
      (λ s. script_files names >>= (λ ss. gives (s ∷ ss))) script comes
      ∙ ap (λ (l : List Ask). asks_in held (script_file first) ++ l)
      (asks-gives held (script_files names) (λ ss. x.0 ∷ ss))

  asks-scripts : (names others scripts : List (List ℕ)) → AreRead (Some held) P names scripts
      → asks_in held (script_files (names ++ others))
      ≡ asks_in held (script_files names) ++ asks_in held (script_files others)
  unfolding script_files ◌>>=◌
  asks-scripts [] others scripts read = refl
  asks-scripts (first ∷ names) others scripts read =
      let whole = split (Some held) P (λ meant made. made ≡ meant) (script_file first)
      (λ s. script_files names >>= (λ ss. gives (s ∷ ss))) scripts read in
      let rest = split (Some held) P (λ meant made. made ≡ meant) (script_files names)
      (λ ss. gives (whole.first ∷ ss)) scripts whole.behind in
      let here = asks_in held (script_file first) in
      let these = asks_in held (script_files names) in
      let those = asks_in held (script_files others) in
      asks-first first whole.first (names ++ others) whole.before
      ∙ ap (λ (l : List Ask). here ++ l) (asks-scripts names others rest.first rest.before)
      ∙ sym (append_assoc here these those)
      ∙ ap (λ (l : List Ask). l ++ those) (sym (asks-first first whole.first names whole.before))

  asks-last : (name : List ℕ)
      → asks_in held (script_files (name ∷ [])) ≡ asks_in held (script_file name)
  unfolding script_files ◌>>=◌
  asks-last name = asks-gives held (script_file name) (λ s. s ∷ [])

  -- one more of those that are left
  pub asks-next : (names scripts : List (List ℕ)) (i : ℕ) (name : List ℕ) (old mid new : Asks)
      → i < length names → name ≡ get_or names i name
      → AreRead (Some held) P (take i names) scripts
      → AsksOf false (asks_in held (script_files (take i names))) old mid
      → AsksOf false (asks_in held (script_file name)) mid new
      → AsksOf false (asks_in held (script_files (take (i + 1) names))) old new
  asks-next names scripts i name old mid new within is read first second =
      rw (
        taken_next names i name within is,
        asks-scripts (take i names) (name ∷ []) scripts read,
        asks-last name,
      )
      (asks-behind false _ _ old mid new first second)

  asks-from : (T U : Type 0) (S : List ℕ → T → Type 0) (name : List ℕ) (others : List (List ℕ))
      (why : Stop) (mid new : Asks) → ComesOf (Some held) P S (script_file name) (Err why)
      → AsksOf (is_cut_short {T = T} (Err why)) (asks_in held (script_file name)) mid new
      → AsksOf (is_cut_short {T = U} (Err why)) (asks_in held (script_files (name ∷ others))) mid
      new
  unfolding script_files
  asks-from T U S name others why mid new comes asks =
      asks-stopped held P T U S (script_file name)
      (λ s. script_files others >>= (λ ss. gives (s ∷ ss))) why mid new comes asks

  -- or the one that stopped it
  pub asks-ended : (T U : Type 0) (S : List ℕ → T → Type 0) (names scripts : List (List ℕ)) (i : ℕ)
      (name : List ℕ) (why : Stop) (old mid new : Asks)
      → i < length names → name ≡ get_or names i name
      → AreRead (Some held) P (take i names) scripts
      → ComesOf (Some held) P S (script_file name) (Err why)
      → AsksOf false (asks_in held (script_files (take i names))) old mid
      → AsksOf (is_cut_short {T = T} (Err why)) (asks_in held (script_file name)) mid new
      → AsksOf (is_cut_short {T = U} (Err why)) (asks_in held (script_files names)) old new
  asks-ended T U S names scripts i name why old mid new within is read comes first second =
      let cut = is_cut_short {T = U} (Err why) in
      subst (λ (ns : List (List ℕ)). AsksOf cut (asks_in held (script_files ns)) old new)
      (parted names i name within is)
      (rw (asks-scripts (take i names) (name ∷ drop (i + 1) names) scripts read)
      (asks-behind cut _ _ old mid new first
      (asks-from T U S name (drop (i + 1) names) why mid new comes second)))

  -- or want of memory, behind some of them
  pub asks-wanting : (names scripts : List (List ℕ)) (i : ℕ) (old new : Asks)
      → AreRead (Some held) P (take i names) scripts
      → AsksOf false (asks_in held (script_files (take i names))) old new
      → AsksOf true (asks_in held (script_files names)) old new
  asks-wanting names scripts i old new read asks =
      subst (λ (ns : List (List ℕ)). AsksOf true (asks_in held (script_files ns)) old new)
      (take-append-drop i names)
      (rw (asks-scripts (take i names) (drop i names) scripts read)
      (asks-within _ _ old new (asks-cut true _ old new asks)))
