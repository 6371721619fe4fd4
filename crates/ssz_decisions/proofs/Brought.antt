-- Versions that are made.
use Rattle.std.proofs.Common.{Bor, Bool, true, false, inl, inr, is_some, IsSome, option_map, ◌≡◌, ◌≤◌, ◌<◌, ◌+◌, ◌*◌, ℕ, List, Option, Some, None, length, Ok, Err, refl, sym, ap, subst, ◌∙◌, arith}
use Rattle.std.proofs.lemmas.Bool.{false≢true, lt-ltb, ltb-true}
use Rattle.std.proofs.lemmas.List.{length-replicate}
use Rattle.std.specs.Prelude.{nat_lt, not, ◌&&◌, is_none, replicate, unwrap_or, IfSome, IsSomeAnd, [], ◌∷◌}
use Rattle.ssz_outside.specs.Asked.{Ask, Asks, AsksOf}
use Rattle.ssz_outside.proofs.Asking.{asks_append-none}
use Rattle.ssz_outside.specs.Content.{Content as Files, file_bytes, contents}
use Rattle.ssz_script.specs.declared.reply.TheConstants.Reply.{NO_TYPE, NAME_TAKEN, TOO_LONG}
use Rattle.ssz_schema.specs.Types.{SszType}
use Rattle.ssz_schema.specs.Unfolding.{Types, known_in, type_number, type_of}
use Rattle.ssz_value.specs.Values.{SszValue, Fits}
use Rattle.ssz_value.specs.Faults.{first_fault}
use Rattle.ssz_value.specs.Reading.{value_in}
use Rattle.ssz_value.specs.Pairs.{pairs}
use Rattle.ssz_value_json.specs.declared.fault.JsonFault.{JsonFault}
use Rattle.ssz_value_json.specs.Faults.{first_json_fault, value_spelled}
use Rattle.ssz_arena.specs.declared.node.NodeId.{NodeId}
use Rattle.ssz_arena.specs.Content.{ArenaContent as Nodes, node_count, todo, unhashed, KeepsNodes}
use Rattle.ssz_tree.specs.Added.{AddsNodes, IsPartNode}
use Rattle.ssz_making.specs.Parts.{part_of_value}
use Rattle.ssz_proof.specs.Calculation.{PairOf}
use Rattle.std.specs.FinMap as finite
use Rattle.std.specs.FinMap.{get-empty}
use Rattle.ssz_versions.specs.Keys.{key_cmp}
use Rattle.ssz_versions.specs.Content.{Entries, Held, held_at}
use Rattle.ssz_machine.specs.State.{Name, Version, Versions, has_version}
use Rattle.ssz_machine.specs.Rules.{Rules, Row, ◌>>=◌, ◌>>◌, coded, bad_json, need, refuse, faultless, well_spelled, makes}
use Rattle.ssz_machine.specs.Machine.{can_load, charge_in}
use Rattle.ssz_machine.specs.Changes.{Touch, puts}
use Rattle.ssz_decisions.specs.Content.{EngineContent, rules_of}
use Rattle.ssz_decisions.specs.Decisions.{AnswersAnew, AnswersWith, DecidesRow, IsPaid, MakesFew}
use Rattle.ssz_decisions.specs.Loading.{IsFree, IsTaken, LoadsWith, ReadsAs, asks_where, loaded_row, brought_as, load_row}
use Rattle.ssz_decisions.specs.declared.decision.Decision.{Decision}
use Rattle.ssz_decisions.specs.declared.decision.Decision.TheVariants.{BadJson, Made, Refused}
use Rattle.ssz_decisions.specs.declared.load_form.Form.{Form}
use Rattle.ssz_decisions.specs.declared.load_form.Form.TheVariants.{Encoding, Json}
use Rattle.ssz_decisions.specs.Standing.{IsVersion, Match, StandsForWriter, AreVersions}
use Rattle.ssz_decisions.proofs.Standing.{version-kept}

-- a node that has a part is a version
pub part-stands : (types : Types) (arena : Nodes) (id : ℕ) (node : NodeId) (v : SszValue)
    → id < length types.trees → Fits (type_of types id) v
    → IsPartNode arena (part_of_value (type_of types id) v) node
    → IsVersion types arena (id, node) (record { type = type_of types id; value = v })
part-stands types arena id node v known fits is = record {
  known = known;
  node = is.node;
  type = refl;
  fits = fits;
  tree = is.tree;
}

-- versions are versions of an arena in which all nodes are kept
pub are-kept : (types : Types) (old new : Nodes) (entries : Entries) → KeepsNodes old new
    → AreVersions types old entries → AreVersions types new entries
are-kept types old new entries keeps all = record {
  each = λ w n held e.
      let found = all.each w n held e in
      (found.0, version-kept types old new held found.0 keeps found.1);
}

-- a name that no entry has, no version has
pub free-there : (types : Types) (arena : Nodes) (held : Option Held) (version : Option Version)
    → held ≡ None → Match types arena held version → version ≡ None
free-there types arena None None free is = refl
free-there types arena None (Some version) free is = absurd is
free-there types arena (Some held) version free is = absurd (no-held held free)
  where
    no-held : (held : Held) → Some held ≡ None → ⊥
    no-held held e = cc

-- a store with these nodes
abbrev pub over : Types → ℕ → Entries → ℕ → Nodes → EngineContent
over types most entries base arena = record {
  types = types;
  most = most;
  arena = arena;
  entries = entries;
  base = base;
}

-- What is answered where a node was made for a name that is free, and the row makes that version.
pub made-answers : (pair_of : PairOf) (types : Types) (most : ℕ) (entries : Entries) (base : ℕ)
    (old new : Nodes) (row : Rules → Versions → Row) (writer : ℕ) (name : Bor (List ℕ)) (id : ℕ)
    (node : NodeId) (room : Unit {0}) (v : SszValue) (n m : ℕ) → id < length types.trees
    → Fits (type_of types id) v
    → IsPartNode new (part_of_value (type_of types id) v) node → AddsNodes n m old new
    → m ≤ pairs (type_of types id) v → n ≤ 2 * pairs (type_of types id) v + 1
    → held_at entries writer name.now ≡ None
    → ((versions : Versions)
    → StandsForWriter (over types most entries base old) writer versions
    → row (rules_of pair_of (over types most entries base old)) versions
    ≡ makes versions name.now (type_of types id) v (pairs (type_of types id) v))
    → AnswersAnew pair_of row (puts name.now) writer (over types most entries base old)
    (over types most entries base new) (Made name id node room)
made-answers pair_of types most entries base old new row writer name id node room v n m known fits
    part adds most_pairs most_nodes free is = (
      answers,
      λ versions stand.
          subst (λ r. todo new node ≤ charge_in r) (sym (is versions stand)) part.todo,
    )
  where
    version : Version
    version = record { type = type_of types id; value = v }

    stands : IsVersion types new (id, node) version
    stands = part-stands types new id node v known fits part

    answers : AnswersWith pair_of row (puts name.now) writer (over types most entries base old)
        (over types most entries base new) (Made name id node room)
    answers = λ count. record {
      can = (free, (version, stands));
      of = refl;
      comes = λ versions stand.
          let none = free-there types old _ _ free (stand.each name.now) in
          record {
            version = version;
            charge = pairs (type_of types id) v;
            free = none;
            stands = stands;
            row = is versions stand;
          };
      spends = λ versions stand.
          subst (λ r. count + unhashed new ≤ count + unhashed old + charge_in r)
          (sym (is versions stand))
          (let h = adds.unhashed in let k = most_pairs in omega arith);
      few = λ versions stand.
          subst (λ r. node_count new ≤ node_count old + 2 * charge_in r + 1)
          (sym (is versions stand)) (let h = adds.count in let k = most_nodes in omega arith);
    }

-- the row of bytes that have no fault
pub brought-row : (versions : Versions) (v : Name) (t : SszType) (bytes : List ℕ)
    → first_fault t 0 bytes ≡ None
    → loaded_row versions v t bytes
    ≡ makes versions v t (value_in t bytes) (pairs t (value_in t bytes))
brought-row versions v t bytes e =
    ap (λ f. (faultless f >> Ok (value_in t bytes))
    >>= (λ value. makes versions v t value (pairs t value))) e

-- the row of a text that has no fault
pub json-row : (versions : Versions) (v : Name) (t : SszType) (text : List ℕ)
    → first_json_fault t text ≡ None
    → brought_as Json versions v t text
    ≡ makes versions v t (value_spelled t text) (pairs t (value_spelled t text))
json-row versions v t text e =
    ap (λ f. (well_spelled f >> Ok (value_spelled t text))
    >>= (λ value. makes versions v t value (pairs t value))) e

-- and of one that has
pub bad-json-row : (versions : Versions) (v : Name) (t : SszType) (text : List ℕ)
    (fault : JsonFault) → first_json_fault t text ≡ Some fault
    → brought_as Json versions v t text ≡ Err (bad_json fault)
bad-json-row versions v t text fault e =
    ap (λ f. (well_spelled f >> Ok (value_spelled t text))
    >>= (λ value. makes versions v t value (pairs t value))) e

-- the tests of a type's name and of a version's, and what comes behind them
abbrev pub guarded : Rules → Versions → Name → Name → (SszType → Row) → Row
guarded rules versions v t rest = need NO_TYPE (rules.type_named t)
    >>= (λ type. refuse NAME_TAKEN (has_version v versions) >> rest type)

module _ (pair_of : PairOf) (store : EngineContent) (writer : ℕ) (v t : Name)
    (versions : Versions) (stand : StandsForWriter store writer versions) where
  -- both tests are passed
  pub free-row : (id : ℕ) (rest : SszType → Row) → IsFree store writer v t id
      → guarded (rules_of pair_of store) versions v t rest ≡ rest (type_of store.types id)
  free-row id rest free =
      ap (λ (o : Option ℕ). need NO_TYPE (option_map (type_of store.types) o)
      >>= (λ type. refuse NAME_TAKEN (has_version v versions) >> rest type)) free.named
      ∙ ap (λ (o : Option Version). refuse NAME_TAKEN (is_some o)
      >> rest (type_of store.types id))
      (free-there store.types store.arena _ _ free.free (stand.each v))

  -- one refuses
  pub taken-row : (code : ℕ) (rest : SszType → Row) → IsTaken store writer v t code
      → guarded (rules_of pair_of store) versions v t rest ≡ Err (coded code)
  taken-row code rest (inl (is, unknown)) =
      ap (λ (o : Option ℕ). need NO_TYPE (option_map (type_of store.types) o)
      >>= (λ type. refuse NAME_TAKEN (has_version v versions) >> rest type)) unknown
      ∙ ap (λ c. Err (coded c)) (sym is)
  taken-row code rest (inr (is, known, held)) =
      taken _ _ known (there _ _ held (stand.each v)) ∙ ap (λ c. Err (coded c)) (sym is)
    where
      there : (h : Option Held) (o : Option Version) → IsSome h
          → Match store.types store.arena h o → is_some o ≡ true
      there None o h m = absurd (false≢true h)
      there (Some x) None h m = absurd m
      there (Some x) (Some y) h m = refl

      taken : (n : Option ℕ) (taken? : Bool) → IsSome n → taken? ≡ true
          → (need NO_TYPE (option_map (type_of store.types) n)
          >>= (λ type. refuse NAME_TAKEN taken? >> rest type)) ≡ Err (coded NAME_TAKEN)
      taken None b h e = absurd (false≢true h)
      taken (Some n) true h e = refl
      taken (Some n) false h e = absurd (false≢true e)

  -- where none does, a file is read
  pub free-loads : (id : ℕ) → IsFree store writer v t id
      → can_load (rules_of pair_of store) versions v t ≡ true
  free-loads id free =
      ap (λ (o : Option ℕ). is_some (option_map (type_of store.types) o)
      && not (has_version v versions)) free.named
      ∙ ap (λ (o : Option Version). not (is_some o))
      (free-there store.types store.arena _ _ free.free (stand.each v))

  -- and then no file is read
  pub taken-blocks : (code : ℕ) → IsTaken store writer v t code
      → can_load (rules_of pair_of store) versions v t ≡ true → ⊥
  taken-blocks code (inl (is, unknown)) can =
      no-type (type_number store.types t) (has_version v versions) unknown can
    where
      no-type : (n : Option ℕ) (taken? : Bool) → n ≡ None
          → (is_some (option_map (type_of store.types) n) && not taken?) ≡ true → ⊥
      no-type None taken? none can = false≢true can
      no-type (Some n) taken? none can = let different : Some n ≡ None = none in cc
  taken-blocks code (inr (is, known, held)) can =
      taken (known_in store.types t) _ _ held (stand.each v) can
    where
      taken : (type : Option SszType) (h : Option Held) (o : Option Version) → IsSome h
          → Match store.types store.arena h o → (is_some type && not (is_some o)) ≡ true → ⊥
      taken type None o h m can = false≢true h
      taken type (Some x) None h m can = m
      taken None (Some x) (Some y) h m can = false≢true can
      taken (Some type) (Some x) (Some y) h m can = false≢true can

-- the files are asked for nothing where no file is read
pub asks-nothing : (b : Bool) (ask : Ask) (asked : Asks) → (b ≡ true → ⊥)
    → AsksOf false (asks_where b ask) asked asked
asks-nothing true ask asked none = absurd (none refl)
asks-nothing false ask asked none = sym (asks_append-none asked)

-- for it where one is, also by its name and its limit in another form
pub asks-one : (cut b : Bool) (name other : List ℕ) (most least : ℕ) (old new : Asks) → b ≡ true
    → other ≡ name → least ≡ most → AsksOf cut ((other, least) ∷ []) old new
    → AsksOf cut (asks_where b (name, most)) old new
asks-one cut b name other most least old new is same limit asks =
    rw is (subst (λ (m : ℕ). AsksOf cut ((name, m) ∷ []) old new) limit
    (subst (λ (n : List ℕ). AsksOf cut ((n, least) ∷ []) old new) same asks))

-- a file that was read is there
pub there-whole : (o : Option (List ℕ)) (bytes : List ℕ) → o ≡ Some bytes → is_none o ≡ false
there-whole o bytes is = rw is refl

pub there-longer : (o : Option (List ℕ)) (most : ℕ) → IsSomeAnd o (λ b. most < length b)
    → is_none o ≡ false
there-longer None most h = absurd h
there-longer (Some b) most h = refl

-- a row that is the same
pub answers-same : (pair_of : PairOf) (row other : Rules → Versions → Row) (touch : Touch)
    (writer : ℕ) (old new : EngineContent) (made : Decision)
    → ((versions : Versions) → StandsForWriter old writer versions
    → other (rules_of pair_of old) versions ≡ row (rules_of pair_of old) versions)
    → AnswersWith pair_of row touch writer old new made
    → AnswersWith pair_of other touch writer old new made
answers-same pair_of row other touch writer old new made same answers = λ count. record {
  can = (answers count).can;
  of = (answers count).of;
  comes = λ versions stand.
      subst (λ r. DecidesRow old new count count writer versions r made)
      (sym (same versions stand)) ((answers count).comes versions stand);
  spends = λ versions stand.
      subst (λ r. count + unhashed new.arena ≤ count + unhashed old.arena + charge_in r)
      (sym (same versions stand)) ((answers count).spends versions stand);
  few = λ versions stand.
      subst (λ r. MakesFew made (charge_in r) old.arena new.arena)
      (sym (same versions stand)) ((answers count).few versions stand);
}

pub anew-same : (pair_of : PairOf) (row other : Rules → Versions → Row) (touch : Touch)
    (writer : ℕ) (old new : EngineContent) (made : Decision)
    → ((versions : Versions) → StandsForWriter old writer versions
    → other (rules_of pair_of old) versions ≡ row (rules_of pair_of old) versions)
    → AnswersAnew pair_of row touch writer old new made
    → AnswersAnew pair_of other touch writer old new made
anew-same pair_of row other touch writer old new made same answers = (
  answers-same pair_of row other touch writer old new made same answers.0,
  λ versions stand. subst (λ r. IsPaid new.arena (charge_in r) made)
      (sym (same versions stand)) (answers.1 versions stand),
)

-- a refusal
pub refused-answers : (pair_of : PairOf) (row : Rules → Versions → Row) (touch : Touch)
    (writer : ℕ) (store : EngineContent) (code : ℕ)
    → ((versions : Versions) → StandsForWriter store writer versions
    → row (rules_of pair_of store) versions ≡ Err (coded code))
    → AnswersWith pair_of row touch writer store store (Refused code)
refused-answers pair_of row touch writer store code is = λ count. record {
  can = tt;
  of = tt;
  comes = is;
  spends = λ versions stand. omega arith;
  few = λ versions stand. refl;
}

pub refused-anew : (pair_of : PairOf) (row : Rules → Versions → Row) (touch : Touch)
    (writer : ℕ) (store : EngineContent) (code : ℕ)
    → ((versions : Versions) → StandsForWriter store writer versions
    → row (rules_of pair_of store) versions ≡ Err (coded code))
    → AnswersAnew pair_of row touch writer store store (Refused code)
refused-anew pair_of row touch writer store code is =
    (refused-answers pair_of row touch writer store code is, λ versions stand. tt)

-- a text that has a fault
pub bad-json-answers : (pair_of : PairOf) (row : Rules → Versions → Row) (touch : Touch)
    (writer : ℕ) (store : EngineContent) (fault : JsonFault)
    → ((versions : Versions) → row (rules_of pair_of store) versions ≡ Err (bad_json fault))
    → AnswersAnew pair_of row touch writer store store (BadJson fault)
bad-json-answers pair_of row touch writer store fault is = (
  λ count. record {
    can = tt;
    of = tt;
    comes = λ versions stand. is versions;
    spends = λ versions stand. omega arith;
    few = λ versions stand. refl;
  },
  λ versions stand. tt,
)

-- the row of a load: the tests of the names, and then the value
pub load-is : (form : Form) (rules : Rules) (versions : Versions) (v t : Name) (bytes : List ℕ)
    → load_row form rules versions v t bytes
    ≡ guarded rules versions v t (λ type. refuse TOO_LONG (nat_lt rules.max_bytes (length bytes))
    >> brought_as form versions v type bytes)
load-is Encoding rules versions v t bytes = refl
load-is Json rules versions v t bytes = refl

-- no entries, no versions
pub are-none : (types : Types) (arena : Nodes) (entries : Entries) → entries ≡ finite.empty
    → AreVersions types arena entries
are-none types arena entries none = record {
  each = λ w n held e. absurd (not-there held
      (sym (get-empty key_cmp (w, n)) ∙ ap (λ (es : Entries). held_at es w n) (sym none) ∙ e));
}
  where
    not-there : (held : Held) → None ≡ Some held → ⊥
    not-there held e = cc

-- What a file has that was read whole, or that has more bytes than were asked for.

pub whole : (told : Option Files) (file read : List ℕ)
    → IfSome told (λ held. file_bytes held file ≡ Some read) → ReadsAs told file read
whole None file read h = tt
whole (Some c) file read h = ap (λ (o : Option (List ℕ)). unwrap_or o []) h

pub below-true : (a b : ℕ) → a < b → nat_lt a b ≡ true
below-true a b h = lt-ltb a b h

pub not-below : (a b : ℕ) → b ≤ a → nat_lt a b ≡ false
not-below a b h = by (nat_lt a b) refl
  where
    by : (test : Bool) → nat_lt a b ≡ test → test ≡ false
    by true e = absurd (let below = ltb-true a b e in omega arith)
    by false e = refl

pub record IsLong (told : Option Files) (file : List ℕ) (most : ℕ) : Type 0 where
  pub bytes : List ℕ
  pub read : ReadsAs told file bytes
  pub long : nat_lt most (length bytes) ≡ true

pub too-long : (told : Option Files) (file : List ℕ) (most : ℕ)
    → IfSome told (λ held. IsSomeAnd (file_bytes held file) (λ b. most < length b))
    → IsLong told file most
too-long None file most h = record {
  bytes = replicate (most + 1) 0;
  read = tt;
  long = below-true most (length (replicate (most + 1) 0))
      (omega (arith, length-replicate {A = ℕ}));
}
too-long (Some c) file most h = by (file_bytes c file) refl h
  where
    by : (o : Option (List ℕ)) → file_bytes c file ≡ o → IsSomeAnd o (λ b. most < length b)
        → IsLong (Some c) file most
    by None e h = absurd h
    by (Some b) e h = record {
      bytes = b;
      read = ap (λ (o : Option (List ℕ)). unwrap_or o []) e;
      long = below-true most (length b) h;
    }

-- whatever bytes a file has that was not read
pub loads-any : (pair_of : PairOf) (told : Option Files) (file : List ℕ)
    (row : List ℕ → Rules → Versions → Row) (does : Touch) (writer : ℕ) (old new : EngineContent)
    (made : Decision)
    → ((bytes : List ℕ) → AnswersAnew pair_of (row bytes) does writer old new made)
    → LoadsWith pair_of told file row does writer old new made
loads-any pair_of None file row does writer old new made h = record {
  bytes = [];
  read = tt;
  answers = h [];
}
loads-any pair_of (Some c) file row does writer old new made h = record {
  bytes = contents c file;
  read = refl;
  answers = h (contents c file);
}
