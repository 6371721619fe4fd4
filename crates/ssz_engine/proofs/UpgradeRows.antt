-- What an upgrade of a version answers, by what the upgrade of its node answered.
use Rattle.std.proofs.Common.{Bor, Bool, ◌≡◌, ◌≤◌, ◌<◌, ◌+◌, ◌*◌, ℕ, List, length, Option, Some, None, Ok, Err, false, is_some, option_map, refl, sym, ap, subst, ◌∙◌, arith}
use Rattle.std.proofs.lemmas.Bool.{false≢true}
use Rattle.ssz_schema.specs.Types.{SszType}
use Rattle.ssz_schema.specs.Unfolding.{Types, type_of, type_number}
use Rattle.ssz_value.specs.Values.{SszValue}
use Rattle.ssz_arena.specs.Named.{ArenaNode as Node}
use Rattle.ssz_arena.specs.declared.node.NodeId.{NodeId}
use Rattle.ssz_arena.specs.Content.{ArenaContent as Nodes, node_count, todo, tree_of, unhashed}
use Rattle.ssz_places.specs.PlaceLaws.{IsTreeOf}
use Rattle.ssz_forms.specs.declared.upgrade_fault.UpgradeFault.TheVariants.{NotContainer}
use Rattle.ssz_forms.specs.Upgrades.{upgraded, upgrade_charge}
use Rattle.ssz_upgrade.specs.Upgraded.{AnswersUpgrade}
use Rattle.ssz_proof.specs.Calculation.{PairOf}
use Rattle.ssz_script.specs.declared.reply.TheConstants.Reply.{NO_TYPE, NO_VERSION, NAME_TAKEN, NOT_CONTAINER}
use Rattle.ssz_versions.specs.Content.{Entries, Held, held_at}
use Rattle.ssz_machine.specs.State.{Name, Version, Versions, version_of, has_version}
use Rattle.ssz_machine.specs.Rules.{Rules, Row, ◌>>=◌, ◌>>◌, coded, need, refuse, makes}
use Rattle.ssz_machine.specs.Machine.{charge_in}
use Rattle.ssz_machine.specs.Making.{contained, upgrade}
use Rattle.ssz_machine.specs.Changes.{puts}
use Rattle.ssz_decisions.specs.Content.{EngineContent, rules_of}
use Rattle.ssz_decisions.specs.Decisions.{AnswersWith}
use Rattle.ssz_engine.specs.Steps.{IsUpgradeOf}
use Rattle.ssz_decisions.specs.Standing.{AreVersions, StandsForWriter}
use Rattle.ssz_decisions.specs.declared.decision.Decision.TheVariants.{Made, Refused}
use Rattle.ssz_decisions.proofs.Brought.{free-there, over}
use Rattle.ssz_decisions.proofs.Entries.{some_held}
use Rattle.ssz_engine.proofs.Edited.{IsThere, value-there}
use Rattle.ssz_decisions.proofs.Showing.{held-there, tree-stands}

-- the tests, in their order, over what they look at
abbrev tested : Versions → Name → Option SszType → Option Version → Bool → Row
tested versions w type version taken =
    need NO_TYPE type >>= (λ t. need NO_VERSION version >>= (λ from.
    refuse NAME_TAKEN taken >> (contained (upgraded from.type from.value t) >>= (λ value.
    makes versions w t value (upgrade_charge from.type t)))))

module _ (pair_of : PairOf) (types : Types) (most : ℕ) (entries : Entries) (base : ℕ)
    (old : Nodes) (writer : ℕ) (v w t : Name) where
  abbrev engine : EngineContent
  engine = over types most entries base old

  abbrev pub row : Rules → Versions → Row
  row rules versions = upgrade rules versions v w t

  -- no type has the name
  pub no-type : type_number types t ≡ None → (versions : Versions)
      → row (rules_of pair_of engine) versions ≡ Err (coded NO_TYPE)
  no-type unknown versions =
      ap (λ (o : Option ℕ). tested versions w (option_map (type_of types) o)
      (version_of v versions) (has_version w versions)) unknown

  -- no version has the name
  pub no-version : (id : ℕ) → type_number types t ≡ Some id → held_at entries writer v ≡ None
      → (versions : Versions) → StandsForWriter engine writer versions
      → row (rules_of pair_of engine) versions ≡ Err (coded NO_VERSION)
  no-version id known missing versions stand =
      ap (λ (o : Option ℕ). tested versions w (option_map (type_of types) o)
      (version_of v versions) (has_version w versions)) known
      ∙ ap (λ (o : Option Version). tested versions w (Some (type_of types id)) o
      (has_version w versions)) (free-there types old _ _ missing (stand.each v))

  module _ (id : ℕ) (known : type_number types t ≡ Some id) (held : Held)
      (there : held_at entries writer v ≡ Some held) (versions : Versions)
      (stand : StandsForWriter engine writer versions) where
    abbrev from : IsThere types old held v versions
    from = value-there types old entries writer v held versions there (stand.each v)

    abbrev s : SszType
    s = type_of types held.0

    -- the row over the version
    found-row : row (rules_of pair_of engine) versions
        ≡ tested versions w (Some (type_of types id))
        (Some (record { type = s; value = from.value })) (has_version w versions)
    found-row =
        ap (λ (o : Option ℕ). tested versions w (option_map (type_of types) o)
        (version_of v versions) (has_version w versions)) known
        ∙ ap (λ (o : Option Version). tested versions w (Some (type_of types id)) o
        (has_version w versions)) from.found

    -- the new name is taken
    pub taken-name : (other : Held) → held_at entries writer w ≡ Some other
        → row (rules_of pair_of engine) versions ≡ Err (coded NAME_TAKEN)
    taken-name other held_w =
        found-row ∙ ap (λ taken. tested versions w (Some (type_of types id))
        (Some (record { type = s; value = from.value })) taken)
        (ap is_some (held-there types old other _ _ held_w (stand.each w)).is)

    -- it is free
    pub free-row : held_at entries writer w ≡ None
        → row (rules_of pair_of engine) versions
        ≡ contained (upgraded s from.value (type_of types id)) >>= (λ value.
        makes versions w (type_of types id) value (upgrade_charge s (type_of types id)))
    free-row free =
        found-row ∙ ap (λ (o : Option Version). tested versions w (Some (type_of types id))
        (Some (record { type = s; value = from.value })) (is_some o))
        (free-there types old _ _ free (stand.each w))

  -- the upgrade is refused
  pub refused : (id : ℕ) → type_number types t ≡ Some id → (held : Held)
      → held_at entries writer v ≡ Some held → held_at entries writer w ≡ None
      → ((x : SszValue) → IsTreeOf (type_of types held.0) x (tree_of old held.1)
      → upgraded (type_of types held.0) x (type_of types id) ≡ Err NotContainer)
      → (versions : Versions) → StandsForWriter engine writer versions
      → row (rules_of pair_of engine) versions ≡ Err (coded NOT_CONTAINER)
  refused id known held there free fails versions stand =
      let from = value-there types old entries writer v held versions there (stand.each v) in
      free-row id known held there versions stand free
      ∙ ap (λ given. contained given >>= (λ value. makes versions w (type_of types id) value
      (upgrade_charge (type_of types held.0) (type_of types id)))) (fails from.value from.of)

-- a node was made for the new name
pub upgrade-answers : (pair_of : PairOf) (types : Types) (most : ℕ) (entries : Entries) (base : ℕ)
    (old new : Nodes) (writer : ℕ) (v : Name) (w : Bor (List ℕ)) (t : Name) (id : ℕ)
    (held : Held) (node : NodeId) (room : Unit {0}) → id < length types.trees
    → type_number types t ≡ Some id → AreVersions types old entries
    → held_at entries writer v ≡ Some held
    → held_at entries writer w.now ≡ None
    → ((x : SszValue) → IsTreeOf (type_of types held.0) x (tree_of old held.1)
    → AnswersUpgrade (type_of types held.0) (type_of types id) old new held.1
    (upgraded (type_of types held.0) x (type_of types id)) (Ok node))
    → AnswersWith pair_of (λ rules versions. upgrade rules versions v w.now t) (puts w.now) writer
    (over types most entries base old) (over types most entries base new)
    (Made w id node room)
upgrade-answers pair_of types most entries base old new writer v w t id held node room below known
    all there free answers = λ count. record {
      can =
          let some = all.each writer v held there in
          let made = answers some.0.value (tree-stands types old held some.0 some.1) in (
            free,
            (
              record { type = type_of types id; value = made.0 },
              record {
                known = below;
                node = made.2.known;
                type = refl;
                fits = made.2.fits;
                tree = made.2.is;
              },
            ),
          );
      of = refl;
      comes = λ versions stand.
          let from = value-there types old entries writer v held versions there (stand.each v) in
          let made = answers from.value from.of in
          record {
            version = record { type = type_of types id; value = made.0 };
            charge = upgrade_charge (type_of types held.0) (type_of types id);
            free = free-there types old _ _ free (stand.each w.now);
            stands = record {
              known = below;
              node = made.2.known;
              type = refl;
              fits = made.2.fits;
              tree = made.2.is;
            };
            row = free-row pair_of types most entries base old writer v w.now t id known held
                there versions stand free
                ∙ ap (λ given. contained given >>= (λ value. makes versions w.now
                (type_of types id) value
                (upgrade_charge (type_of types held.0) (type_of types id)))) made.1;
          };
      spends = λ versions stand.
          let from = value-there types old entries writer v held versions there (stand.each v) in
          let made = answers from.value from.of in
          subst (λ r. count + unhashed new ≤ count + unhashed old + charge_in r)
          (sym (free-row pair_of types most entries base old writer v w.now t id known held there
          versions stand free
          ∙ ap (λ given. contained given >>= (λ value. makes versions w.now (type_of types id)
          value (upgrade_charge (type_of types held.0) (type_of types id)))) made.1))
          (let more = made.2.more in omega arith);
      few = λ versions stand.
          let from = value-there types old entries writer v held versions there (stand.each v) in
          let made = answers from.value from.of in
          subst (λ r. node_count new ≤ node_count old + 2 * charge_in r + 1)
          (sym (free-row pair_of types most entries base old writer v w.now t id known held there
          versions stand free
          ∙ ap (λ given. contained given >>= (λ value. makes versions w.now (type_of types id)
          value (upgrade_charge (type_of types held.0) (type_of types id)))) made.1)) made.2.few;
    }

-- the same arena but for its room
pub refused-room : (pair_of : PairOf) (types : Types) (most : ℕ) (entries : Entries) (base : ℕ)
    (old new : Nodes) (row : Rules → Versions → Row) (writer : ℕ) (name : Name) (code : ℕ)
    → new.nodes ≡ old.nodes
    → ((versions : Versions) → StandsForWriter (over types most entries base old) writer versions
    → row (rules_of pair_of (over types most entries base old)) versions ≡ Err (coded code))
    → AnswersWith pair_of row (puts name) writer (over types most entries base old)
    (over types most entries base new) (Refused code)
refused-room pair_of types most entries base old new row writer name code same is =
    λ count. record {
      can = tt;
      of = tt;
      comes = is;
      spends = λ versions stand.
          let e : unhashed new ≡ unhashed old
          = ap (λ (nodes : List Node). unhashed (record { nodes = nodes; spare = 0 })) same in
          omega arith;
      few = λ versions stand. ap (λ (nodes : List Node). length nodes) same;
    }

pub none-there : (held : Option Held) → is_some held ≡ false → held ≡ None
none-there None e = refl
none-there (Some held) e = absurd (false≢true (sym e))

-- what is made has no more to be hashed than its source, and the charge
pub upgrade-due : (types : Types) (most : ℕ) (entries : Entries) (base : ℕ) (old new : Nodes)
    (writer : ℕ) (v w : Name) (id : ℕ) (held : Held) (node : NodeId)
    → AreVersions types old entries → held_at entries writer v ≡ Some held
    → ((x : SszValue) → IsTreeOf (type_of types held.0) x (tree_of old held.1)
    → AnswersUpgrade (type_of types held.0) (type_of types id) old new held.1
    (upgraded (type_of types held.0) x (type_of types id)) (Ok node))
    → IsUpgradeOf v w writer (over types most entries base old) (over types most entries base new)
    w id node
upgrade-due types most entries base old new writer v w id held node all there answers = record {
  named = refl;
  due = λ was found.
      let some = all.each writer v held there in
      let made = answers some.0.value (tree-stands types old held some.0 some.1) in
      let same : held ≡ was = some_held held was (sym there ∙ found) in
      subst (λ (h : Held). todo new node ≤ todo old h.1
      + upgrade_charge (type_of types h.0) (type_of types id)) same made.2.due;
}
