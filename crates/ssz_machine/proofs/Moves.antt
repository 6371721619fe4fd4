-- Each accepted statement changes one entry, and no file but that of a `save`.
use Rattle.std.proofs.Common.{ℕ, ◌≡◌, List, Some, None, refl, sym, subst}
use Rattle.std.specs.Prelude.{Ok}
use Rattle.ssz_schema.specs.Types.{SszType}
use Rattle.ssz_script.specs.declared.reply.Reply.{Reply}
use Rattle.ssz_script.specs.declared.reply.Reply.TheVariants.{Done}
use Rattle.ssz_script.specs.declared.statement.Statement.{Statement}
use Rattle.ssz_script.specs.declared.statement.Statement.TheVariants.{New, Lit, Load, Fork, Drop, List as ListNames, Set, Append, Pop, Choose, Root, Bytes, Len, Save as SaveInto, Gindex, Prove, Hashes, Upgrade, Json, LoadJson, Compact}
use Rattle.ssz_value.specs.Values.{SszValue}
use Rattle.ssz_machine.specs.declared.place.Place.{Place}
use Rattle.ssz_machine.specs.State.{Name, Versions, View, with_version, without_version}
use Rattle.ssz_machine.specs.Rules.{Rules, Effect, makes, says_reply}
use Rattle.ssz_machine.specs.Machine.{effect}
use Rattle.ssz_machine.specs.Changes.{IsChange, StatementsChangeTheirEntry, Touch, puts, nothing, touch, Changes, SavesInto}
use Rattle.ssz_machine.proofs.Rowwise.{Does, given, passed, edited}

abbrev Changing : Versions → Statement → Effect → Type 0
Changing versions statement = IsChange statement versions

-- a statement that puts a name, and none into a file
record Puts (statement : Statement) (name : Name) : Type 0 where
  entry : touch statement ≡ puts name
  files : SavesInto statement None

-- a statement that asks
record Asks (statement : Statement) : Type 0 where
  entry : touch statement ≡ nothing
  files : SavesInto statement None

made_changes : {statement : Statement} {name : Name} {versions : Versions} (type : SszType)
    (value : SszValue) (charge : ℕ) → Puts statement name
    → Does (Changing versions statement) (makes versions name type value charge)
made_changes {statement} {name} {versions} type value charge is = record {
  is = record {
    entries = subst (λ (t : Touch). Changes t versions
        (with_version name (record { type = type; value = value }) versions)) (sym is.entry)
        (record { type = type; value = value }, refl);
    files = is.files;
  };
}

told_changes : {statement : Statement} {versions : Versions} (reply : Reply) → Asks statement
    → Does (Changing versions statement) (says_reply versions reply)
told_changes {statement} {versions} reply is = record {
  is = record {
    entries = subst (λ (t : Touch). Changes t versions versions) (sym is.entry) refl;
    files = is.files;
  };
}

drop_changes : (v : Name) (versions : Versions)
    → Does (Changing versions (Drop v)) (says_reply (without_version v versions) Done)
drop_changes v versions = record { is = record { entries = refl; files = refl } }

save_changes : (v file : Name) (versions : Versions) (bytes : List ℕ)
    → Does (Changing versions (SaveInto v file)) (Ok (record {
      reply = Done;
      versions = versions;
      save = Some (record { name = file; bytes = bytes });
      charge = 0;
    }))
save_changes v file versions bytes = record { is = record { entries = refl; files = refl } }

row_changes : (rules : Rules) (place : Place) (number : ℕ) (view : View) (statement : Statement)
    → Does (Changing view.versions statement) (effect rules place number view statement)
row_changes rules place number view (New v t) =
    let is : Puts (New v t) v = record { entry = refl; files = refl } in
    search (given, passed, made_changes, is) depth 12
row_changes rules place number view (Lit v t x) =
    let is : Puts (Lit v t x) v = record { entry = refl; files = refl } in
    search (given, passed, made_changes, is) depth 12
row_changes rules place number view (Load v t x) =
    let is : Puts (Load v t x) v = record { entry = refl; files = refl } in
    search (given, passed, made_changes, is) depth 12
row_changes rules place number view (Fork v w) =
    let is : Puts (Fork v w) w = record { entry = refl; files = refl } in
    search (given, passed, made_changes, is) depth 12
row_changes rules place number view (Set v path x) =
    let is : Puts (Set v path x) v = record { entry = refl; files = refl } in
    search (given, passed, edited, made_changes, is) depth 12
row_changes rules place number view (Append v path x) =
    let is : Puts (Append v path x) v = record { entry = refl; files = refl } in
    search (given, passed, edited, made_changes, is) depth 12
row_changes rules place number view (Pop v path) =
    let is : Puts (Pop v path) v = record { entry = refl; files = refl } in
    search (given, passed, edited, made_changes, is) depth 12
row_changes rules place number view (Choose v path k x) =
    let is : Puts (Choose v path k x) v = record { entry = refl; files = refl } in
    search (given, passed, edited, made_changes, is) depth 12
row_changes rules place number view (Root v) =
    let is : Asks (Root v) = record { entry = refl; files = refl } in
    search (given, told_changes, is) depth 12
row_changes rules place number view (Bytes v path) =
    let is : Asks (Bytes v path) = record { entry = refl; files = refl } in
    search (given, passed, told_changes, is) depth 12
row_changes rules place number view (Len v path) =
    let is : Asks (Len v path) = record { entry = refl; files = refl } in
    search (given, passed, told_changes, is) depth 12
row_changes rules place number view (Gindex t path) =
    let is : Asks (Gindex t path) = record { entry = refl; files = refl } in
    search (given, told_changes, is) depth 12
row_changes rules place number view (Prove v indices) =
    let is : Asks (Prove v indices) = record { entry = refl; files = refl } in
    search (given, passed, told_changes, is) depth 12
row_changes rules place number view Hashes =
    let is : Asks Hashes = record { entry = refl; files = refl } in
    search (passed, told_changes, is) depth 12
row_changes rules place number view ListNames =
    told_changes _ (record { entry = refl; files = refl })
row_changes rules place number view (Drop v) = search (given, drop_changes) depth 12
row_changes rules place number view (SaveInto v file) =
    search (given, passed, save_changes) depth 12
row_changes rules place number view (Upgrade v w t) =
    let is : Puts (Upgrade v w t) w = record { entry = refl; files = refl } in
    search (given, passed, made_changes, is) depth 12
row_changes rules place number view (Json v path) =
    let is : Asks (Json v path) = record { entry = refl; files = refl } in
    search (given, passed, told_changes, is) depth 12
row_changes rules place number view (LoadJson v t x) =
    let is : Puts (LoadJson v t x) v = record { entry = refl; files = refl } in
    search (given, passed, made_changes, is) depth 12
row_changes rules place number view Compact =
    told_changes _ (record { entry = refl; files = refl })

pub statements_change_their_entry_lem : StatementsChangeTheirEntry
statements_change_their_entry_lem rules place number view statement =
    (row_changes rules place number view statement).is
