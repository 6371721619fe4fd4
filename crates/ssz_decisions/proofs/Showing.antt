-- Parts that are shown as texts.
use Rattle.std.proofs.Common.{◌≡◌, ◌≤◌, ◌<◌, ◌∙◌, ℕ, Bool, true, false, List, [], Option, Some, None, Ok, Err, length, refl, sym, ap, subst}
use Rattle.std.specs.Prelude.{nat_lt, IsSomeAnd}
use Rattle.std.proofs.lemmas.Option.{same_Some}
use Rattle.ssz_chunk.specs.Tree.{Tree}
use Rattle.ssz_chunk.specs.Index.{at}
use Rattle.ssz_schema.specs.format.Format.{Format}
use Rattle.ssz_schema.specs.Types.{SszType}
use Rattle.ssz_schema.specs.Indices.{Spot}
use Rattle.ssz_schema.specs.Legal.{IsLegal}
use Rattle.ssz_schema.specs.Paths.{Path, path_type}
use Rattle.ssz_schema.specs.Unfolding.{Types, type_of}
use Rattle.ssz_value.specs.Encoding.{serialize}
use Rattle.ssz_json_text.specs.Text.{json}
use Rattle.ssz_value.specs.Parts.{part}
use Rattle.ssz_value.specs.Values.{SszValue, Fits}
use Rattle.ssz_value.specs.declared.path_fault.PathFault.{PathFault}
use Rattle.ssz_value.specs.declared.path_fault.PathFault.TheVariants as path_fault
use Rattle.ssz_arena.specs.declared.node.NodeId.{NodeId}
use Rattle.ssz_arena.specs.Content.{ArenaContent as Nodes, tree_of}
use Rattle.ssz_gindex.proofs.HelperNodes.{some_from}
use Rattle.ssz_places.specs.PlaceLaws.{IsTreeOf}
use Rattle.ssz_places.specs.Spots.{HasPart}
use Rattle.ssz_places.proofs.Lying.{law_of_spots}
use Rattle.ssz_places.proofs.Theorems.{law_of_places}
use Rattle.ssz_walk.specs.declared.place.Place.{Place}
use Rattle.ssz_walk.specs.Found.{IsFound, IsLost, spot_of}
use Rattle.ssz_script.specs.declared.reply.Reply.TheVariants.{Bytes, Done, Json}
use Rattle.ssz_script.specs.declared.reply.TheConstants.Reply.{NO_VERSION, BAD_PATH, ABSENT, TOO_LONG}
use Rattle.ssz_versions.specs.Content.{Held, held_at}
use Rattle.ssz_machine.specs.declared.place.Place.TheVariants.{Run}
use Rattle.ssz_machine.specs.State.{Name, Version, Versions, version_of}
use Rattle.ssz_machine.specs.Rules.{Rules, Outcome, Row, ◌>>=◌, ◌>>◌, coded, need, refuse, says_reply}
use Rattle.ssz_machine.specs.Asking.{bytes, json_row, save}
use Rattle.ssz_decisions.specs.Content.{EngineContent}
use Rattle.ssz_decisions.specs.Standing.{AreVersions, IsVersion, Match}
use Rattle.ssz_decisions.specs.Shown.{HasPartAt, HasValue, LeadsToPart, TextOf, path_code, part_shown, PartIsShown}
use Rattle.ssz_decisions.proofs.Entries.{some_held}
use Rattle.ssz_decisions.proofs.Brought.{below-true, free-there, not-below}

-- a version is there where its entry is
pub record IsHeld (types : Types) (arena : Nodes) (held : Held) (there : Option Version)
    : Type 0 where
  pub version : Version
  pub is : there ≡ Some version
  pub stands : IsVersion types arena held version

pub held-there : (types : Types) (arena : Nodes) (held : Held) (entry : Option Held)
    (there : Option Version) → entry ≡ Some held → Match types arena entry there
    → IsHeld types arena held there
held-there types arena held None there e is = absurd (none-held held e)
  where
    none-held : (held : Held) → None ≡ Some held → ⊥
    none-held held e = cc
held-there types arena held (Some other) None e is = absurd is
held-there types arena held (Some other) (Some version) e is = record {
  version = version;
  is = refl;
  stands = subst (λ (h : Held). IsVersion types arena h version) (some_held other held e) is;
}

-- the node of a version has the tree of its value
pub tree-stands : (types : Types) (arena : Nodes) (held : Held) (version : Version)
    → IsVersion types arena held version
    → IsTreeOf (type_of types held.0) version.value (tree_of arena held.1)
tree-stands types arena held version is =
    subst (λ (t : SszType). IsTreeOf t version.value (tree_of arena held.1)) (sym is.type)
    (record { fits = is.fits; is = is.tree })

-- the part at a path that leads to a place
pub record IsThere (t : SszType) (x : SszValue) (path : Path) (u : SszType) (spot : Spot)
    (node : Tree) : Type 0 where
  pub value : SszValue
  pub is : part t x path ≡ Some value
  pub fits : Fits u value
  pub has : HasPart spot u value node

pub is-there : (format : Format) (types : Types) (arena : Nodes) (id : ℕ) (node : NodeId)
    (path : Path) (place : Place) (x : SszValue) → IsLegal format (type_of types id)
    → IsFound types arena id node path place
    → IsTreeOf (type_of types id) x (tree_of arena node)
    → IsThere (type_of types id) x path (type_of types place.id) (spot_of place.spot)
    (tree_of arena place.node)
is-there format types arena id node path place x legal found of =
    let t = type_of types id in
    let u = type_of types place.id in
    let w = some_from (part t x path) (found.present x of) in
    let n = law_of_places format t x path u w.0 place.index (spot_of place.spot)
    (record { legal = legal; fits = of.fits })
    (record {
      type_at = found.led.type_at;
      value = w.1;
      index = found.led.index_at;
      spot = found.led.spot_at;
    }) in
    let same : n.0 ≡ tree_of arena place.node = same_Some n.0 (tree_of arena place.node)
    (sym n.1.found ∙ ap (λ o. at o place.index) (sym of.is) ∙ found.led.tree_at) in
    record {
      value = w.0;
      is = w.1;
      fits = n.1.value.fits;
      has = subst (HasPart (spot_of place.spot) u w.0) same n.1.has;
    }

-- a path that leads to a place leads to the part there of each version, and of one at least
pub leads-there : (format : Format) (store : EngineContent) (writer : ℕ) (v : Name) (path : Path)
    (held : Held) (place : Place)
    → AreVersions store.types store.arena store.entries
    → IsLegal format (type_of store.types held.0)
    → held_at store.entries writer v ≡ Some held
    → IsFound store.types store.arena held.0 held.1 path place
    → LeadsToPart store writer v path place
leads-there format store writer v path held place all legal entry found =
    let some-there = all.each writer v held entry in
    let first = has-part some-there.0 some-there.1 in
    record {
      known = found.led.known;
      inside = found.led.inside;
      lies = law_of_spots (type_of store.types held.0) path (type_of store.types place.id)
          (spot_of place.spot) found.led.type_at found.led.spot_at;
      some = first.value;
      there = first.there;
      each = λ versions stand.
          let h = held-there store.types store.arena held _ _ entry (stand.each v) in
          subst (λ (o : Option Version).
          IsSomeAnd o (HasPartAt store.types store.arena place path)) (sym h.is)
          (has-part h.version h.stands);
    }
  where
    has-part : (version : Version) → IsVersion store.types store.arena held version
        → HasPartAt store.types store.arena place path version
    has-part version stands =
        let is = is-there format store.types store.arena held.0 held.1 path place version.value
        legal found (tree-stands store.types store.arena held version stands) in
        record {
          value = is.value;
          typed = subst
              (λ (t : SszType). path_type t path ≡ Some (type_of store.types place.id))
              stands.type found.led.type_at;
          is = subst (λ (t : SszType). part t version.value path ≡ Some is.value) stands.type
              is.is;
          there = record { fits = is.fits; has = is.has };
        }

module _ (text : TextOf) where
  -- what is shown of a value
  abbrev pub seen : ℕ → SszType → SszValue → Path → Outcome (List ℕ)
  seen most t x path = need BAD_PATH (path_type t path)
      >>= (λ type. need ABSENT (part t x path)
      >>= (λ value. refuse TOO_LONG (nat_lt most (length (text type value)))
      >> Ok (text type value)))

  -- what is shown of a part that is there

  seen-part : (most : ℕ) (t : SszType) (x : SszValue) (path : Path) (u : SszType) (w : SszValue)
      → path_type t path ≡ Some u → part t x path ≡ Some w
      → seen most t x path
      ≡ (refuse TOO_LONG (nat_lt most (length (text u w))) >> Ok (text u w))
  seen-part most t x path u w typed there =
      ap (λ (o : Option SszType). need BAD_PATH o >>= (λ type. need ABSENT (part t x path)
      >>= (λ value. refuse TOO_LONG (nat_lt most (length (text type value)))
      >> Ok (text type value)))) typed
      ∙ ap (λ (o : Option SszValue). need ABSENT o
      >>= (λ value. refuse TOO_LONG (nat_lt most (length (text u value)))
      >> Ok (text u value))) there

  seen-short : (most : ℕ) (t : SszType) (x : SszValue) (path : Path) (u : SszType) (w : SszValue)
      (bytes : List ℕ) → path_type t path ≡ Some u → part t x path ≡ Some w
      → length (text u w) ≤ most → bytes ≡ text u w → seen most t x path ≡ Ok bytes
  seen-short most t x path u w bytes typed there few is =
      seen-part most t x path u w typed there
      ∙ ap (λ b. refuse TOO_LONG b >> Ok (text u w)) (not-below most (length (text u w)) few)
      ∙ ap Ok (sym is)

  seen-long : (most : ℕ) (t : SszType) (x : SszValue) (path : Path) (u : SszType) (w : SszValue)
      → path_type t path ≡ Some u → part t x path ≡ Some w → most < length (text u w)
      → seen most t x path ≡ Err (coded TOO_LONG)
  seen-long most t x path u w typed there long =
      seen-part most t x path u w typed there
      ∙ ap (λ b. refuse TOO_LONG b >> Ok (text u w)) (below-true most (length (text u w)) long)

  -- of a path that leads to no part
  seen-lost : (most : ℕ) (types : Types) (arena : Nodes) (id : ℕ) (node : NodeId) (path : Path)
      (fault : PathFault) (x : SszValue) → IsLost types arena id node path fault
      → IsTreeOf (type_of types id) x (tree_of arena node)
      → seen most (type_of types id) x path ≡ Err (coded (path_code fault))
  seen-lost most types arena id node path path_fault.BadPath x lost of =
      ap (λ (o : Option SszType). need BAD_PATH o
      >>= (λ type. need ABSENT (part (type_of types id) x path)
      >>= (λ value. refuse TOO_LONG (nat_lt most (length (text type value)))
      >> Ok (text type value)))) lost
  seen-lost most types arena id node path path_fault.Absent x lost of =
      let typed = some_from (path_type (type_of types id) path) lost.0 in
      ap (λ (o : Option SszType). need BAD_PATH o
      >>= (λ type. need ABSENT (part (type_of types id) x path)
      >>= (λ value. refuse TOO_LONG (nat_lt most (length (text type value)))
      >> Ok (text type value)))) typed.1
      ∙ ap (λ (o : Option SszValue). need ABSENT o
      >>= (λ value. refuse TOO_LONG (nat_lt most (length (text typed.0 value)))
      >> Ok (text typed.0 value))) (lost.1 x of)

  -- what is shown of the value of an entry is shown of the version
  shows-held : (store : EngineContent) (writer : ℕ) (v : Name) (path : Path) (held : Held)
      (answer : Outcome (List ℕ)) → held_at store.entries writer v ≡ Some held
      → ((x : SszValue) → IsTreeOf (type_of store.types held.0) x (tree_of store.arena held.1)
      → seen store.most (type_of store.types held.0) x path ≡ answer)
      → PartIsShown text store writer v path answer
  shows-held store writer v path held answer there is = λ versions stand.
      let h = held-there store.types store.arena held _ _ there (stand.each v) in
      ap (λ (o : Option Version). need NO_VERSION o
      >>= (λ version. seen store.most version.type version.value path)) h.is
      ∙ ap (λ t. seen store.most t h.version.value path) (sym h.stands.type)
      ∙ is h.version.value (tree-stands store.types store.arena held h.version h.stands)

  -- of a path that leads to no part
  pub shows-lost : (store : EngineContent) (writer : ℕ) (v : Name) (path : Path) (held : Held)
      (fault : PathFault) → held_at store.entries writer v ≡ Some held
      → IsLost store.types store.arena held.0 held.1 path fault
      → PartIsShown text store writer v path (Err (coded (path_code fault)))
  shows-lost store writer v path held fault there lost =
      shows-held store writer v path held (Err (coded (path_code fault))) there
      (λ x of. seen-lost store.most store.types store.arena held.0 held.1 path fault x lost of)

  -- no entry, no version
  pub shows-none : (store : EngineContent) (writer : ℕ) (v : Name) (path : Path)
      → held_at store.entries writer v ≡ None
      → PartIsShown text store writer v path (Err (coded NO_VERSION))
  shows-none store writer v path none = λ versions stand.
      ap (λ (o : Option Version). need NO_VERSION o
      >>= (λ version. seen store.most version.type version.value path))
      (free-there store.types store.arena _ _ none (stand.each v))

  -- a part that is there is shown by its text, or is too long

  shows-part : (store : EngineContent) (writer : ℕ) (v : Name) (path : Path) (place : Place)
      (answer : Outcome (List ℕ)) → LeadsToPart store writer v path place
      → ((version : Version) → (part : HasPartAt store.types store.arena place path version)
      → seen store.most version.type version.value path ≡ answer)
      → PartIsShown text store writer v path answer
  shows-part store writer v path place answer leads is = λ versions stand.
      by (version_of v versions) (leads.each versions stand)
    where
      by : (o : Option Version)
          → IsSomeAnd o (HasPartAt store.types store.arena place path)
          → (need NO_VERSION o
          >>= (λ version. seen store.most version.type version.value path)) ≡ answer
      by None has = absurd has
      by (Some version) has = is version has

  pub shows-short : (store : EngineContent) (writer : ℕ) (v : Name) (path : Path) (place : Place)
      (bytes : List ℕ) → LeadsToPart store writer v path place
      → ((value : SszValue) → HasValue store.types store.arena place value
      → (length (text (type_of store.types place.id) value) ≤ store.most)
      × (bytes ≡ text (type_of store.types place.id) value))
      → PartIsShown text store writer v path (Ok bytes)
  shows-short store writer v path place bytes leads is =
      shows-part store writer v path place (Ok bytes) leads
      (λ version has. let made = is has.value has.there in
      seen-short store.most version.type version.value path (type_of store.types place.id)
      has.value bytes has.typed has.is made.0 made.1)

  pub shows-long : (store : EngineContent) (writer : ℕ) (v : Name) (path : Path) (place : Place)
      → LeadsToPart store writer v path place
      → ((value : SszValue) → HasValue store.types store.arena place value
      → store.most < length (text (type_of store.types place.id) value))
      → PartIsShown text store writer v path (Err (coded TOO_LONG))
  shows-long store writer v path place leads is =
      shows-part store writer v path place (Err (coded TOO_LONG)) leads
      (λ version has. seen-long store.most version.type version.value path
      (type_of store.types place.id) has.value has.typed has.is (is has.value has.there))

  -- a row that shows it and goes on

  after-tests : (most : ℕ) (t : Option SszType) (x : Option SszValue) (next : List ℕ → Row)
      → (need BAD_PATH t >>= (λ type. need ABSENT x
      >>= (λ value. refuse TOO_LONG (nat_lt most (length (text type value)))
      >> next (text type value))))
      ≡ ((need BAD_PATH t >>= (λ type. need ABSENT x
      >>= (λ value. refuse TOO_LONG (nat_lt most (length (text type value)))
      >> Ok (text type value))))
      >>= next)
  after-tests most None x next = refl
  after-tests most (Some type) None next = refl
  after-tests most (Some type) (Some value) next =
      by (nat_lt most (length (text type value))) (text type value)
    where
      by : (long : Bool) (bytes : List ℕ)
          → (refuse TOO_LONG long >> next bytes) ≡ ((refuse TOO_LONG long >> Ok bytes) >>= next)
      by true bytes = refl
      by false bytes = refl

  after-version : (most : ℕ) (there : Option Version) (path : Path) (next : List ℕ → Row)
      → (need NO_VERSION there >>= (λ version. need BAD_PATH (path_type version.type path)
      >>= (λ type. need ABSENT (part version.type version.value path)
      >>= (λ value. refuse TOO_LONG (nat_lt most (length (text type value)))
      >> next (text type value)))))
      ≡ ((need NO_VERSION there
      >>= (λ version. seen most version.type version.value path)) >>= next)
  after-version most None path next = refl
  after-version most (Some version) path next =
      after-tests most (path_type version.type path) (part version.type version.value path) next

pub bytes-shown : (rules : Rules) (versions : Versions) (v : Name) (path : Path)
    (answer : Outcome (List ℕ)) → part_shown serialize rules.max_bytes versions v path ≡ answer
    → bytes rules versions v path ≡ (answer >>= (λ text. says_reply versions (Bytes text)))
bytes-shown rules versions v path answer is =
    after-version serialize rules.max_bytes (version_of v versions) path
    (λ text. says_reply versions (Bytes text))
    ∙ ap (λ (o : Outcome (List ℕ)). o >>= (λ text. says_reply versions (Bytes text))) is

pub json-shown : (rules : Rules) (versions : Versions) (v : Name) (path : Path)
    (answer : Outcome (List ℕ)) → part_shown json rules.max_bytes versions v path ≡ answer
    → json_row rules versions v path ≡ (answer >>= (λ text. says_reply versions (Json text)))
json-shown rules versions v path answer is =
    after-version json rules.max_bytes (version_of v versions) path
    (λ text. says_reply versions (Json text))
    ∙ ap (λ (o : Outcome (List ℕ)). o >>= (λ text. says_reply versions (Json text))) is

-- what a run saves into a file
abbrev pub saves : Versions → Name → List ℕ → Row
saves versions file text = Ok (record {
  reply = Done;
  versions = versions;
  save = Some (record { name = file; bytes = text });
  charge = 0;
})

pub save-shown : (rules : Rules) (versions : Versions) (v file : Name) (answer : Outcome (List ℕ))
    → part_shown serialize rules.max_bytes versions v [] ≡ answer
    → save rules Run versions v file ≡ (answer >>= saves versions file)
save-shown rules versions v file answer is =
    after-version serialize rules.max_bytes (version_of v versions) [] (saves versions file)
    ∙ ap (λ (o : Outcome (List ℕ)). o >>= saves versions file) is
