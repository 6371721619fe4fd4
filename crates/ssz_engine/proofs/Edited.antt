-- What an edit of a version answers, by what the edit of its node answered.
use Rattle.std.specs.Prelude.{OnErr}
use Rattle.std.proofs.Common.{Bor, ◌≡◌, ◌≤◌, ◌+◌, ◌*◌, length, ℕ, List, Some, Result, Ok, Err, IfOk, refl, sym, ap, subst, ◌∙◌, arith}
use Rattle.std.specs.declared.alloc.AllocError.{AllocError}
use Rattle.ssz_bytes.specs.declared.fault.Fault.{Fault}
use Rattle.ssz_schema.specs.Types.{SszType}
use Rattle.ssz_schema.specs.Unfolding.{Types, type_of}
use Rattle.ssz_value.specs.declared.edit_fault.EditFault.{EditFault}
use Rattle.ssz_value.specs.declared.edit_fault.EditFault.TheVariants as edit_fault
use Rattle.ssz_value.specs.Values.{SszValue}
use Rattle.ssz_value.specs.Edits.{Edited as EditedValue}
use Rattle.ssz_arena.specs.Named.{ArenaNode as Node}
use Rattle.ssz_arena.specs.declared.node.NodeId.{NodeId}
use Rattle.ssz_arena.specs.Content.{ArenaContent as Nodes, node_count, tree_of, unhashed}
use Rattle.ssz_places.specs.PlaceLaws.{IsTreeOf}
use Rattle.ssz_edit.specs.Edited.{AnswersEdit}
use Rattle.ssz_proof.specs.Calculation.{PairOf}
use Rattle.ssz_versions.specs.Content.{Entries, Held, held_at}
use Rattle.ssz_machine.specs.State.{Name, Versions, version_of}
use Rattle.ssz_machine.specs.Rules.{Rules, Refusal, Row, bad_bytes, edit_code, coded, edits}
use Rattle.ssz_machine.specs.Machine.{charge_in}
use Rattle.ssz_machine.specs.Changes.{puts}
use Rattle.ssz_decisions.specs.Content.{EngineContent, rules_of}
use Rattle.ssz_decisions.specs.Decisions.{AnswersWith}
use Rattle.ssz_decisions.specs.Finished.{finished_edit, FinishesEdit}
use Rattle.ssz_decisions.specs.Standing.{AreVersions, Match}
use Rattle.ssz_decisions.specs.declared.decision.Decision.{Decision}
use Rattle.ssz_decisions.specs.declared.decision.Decision.TheVariants.{BadBytes, Edited, Refused}
use Rattle.ssz_decisions.proofs.Brought.{over}
use Rattle.ssz_decisions.proofs.Showing.{held-there, tree-stands}

-- the value of the type of an entry, which is the version of its name
pub record IsThere (types : Types) (arena : Nodes) (held : Held) (name : Name) (versions : Versions)
    : Type 0 where
  pub value : SszValue
  pub found : version_of name versions
      ≡ Some (record { type = type_of types held.0; value = value })
  pub of : IsTreeOf (type_of types held.0) value (tree_of arena held.1)

pub value-there : (types : Types) (arena : Nodes) (entries : Entries) (writer : ℕ) (name : Name)
    (held : Held) (versions : Versions) → held_at entries writer name ≡ Some held
    → Match types arena (held_at entries writer name) (version_of name versions)
    → IsThere types arena held name versions
value-there types arena entries writer name held versions there is =
    let h = held-there types arena held _ _ there is in record {
      value = h.version.value;
      found = subst (λ (t : SszType). version_of name versions
          ≡ Some (record { type = t; value = h.version.value })) (sym h.stands.type) h.is;
      of = tree-stands types arena held h.version h.stands;
    }

module _ (pair_of : PairOf) (types : Types) (most : ℕ) (entries : Entries) (base : ℕ)
    (old new : Nodes) (writer : ℕ) (name : Bor (List ℕ)) (held : Held)
    (row : Rules → Versions → Row) where
  abbrev t : SszType
  t = type_of types held.0

  abbrev engine : Nodes → EngineContent
  engine arena = over types most entries base arena

  -- the row is the edit of the value
  abbrev pub IsRow : (SszValue → EditedValue) → (SszValue → ℕ) → Type 0
  IsRow edit charge = (versions : Versions) (value : SszValue)
      → version_of name.now versions ≡ Some (record { type = t; value = value })
      → IsTreeOf t value (tree_of old held.1)
      → row (rules_of pair_of (engine old)) versions
      ≡ edits versions name.now t (edit value) (charge value)

  -- the edit of the node was that of the value
  abbrev pub IsDone : (SszValue → EditedValue) → (SszValue → ℕ) → Result NodeId EditFault → Type 0
  IsDone edit charge result = (value : SszValue) → IsTreeOf t value (tree_of old held.1)
      → AnswersEdit t old new held.1 (charge value) (edit value) result

  -- the row is refused
  abbrev pub IsRefused : Refusal → Type 0
  IsRefused refusal = (versions : Versions) (value : SszValue)
      → version_of name.now versions ≡ Some (record { type = t; value = value })
      → IsTreeOf t value (tree_of old held.1)
      → row (rules_of pair_of (engine old)) versions ≡ Err refusal

  pub code-answers : held_at entries writer name.now ≡ Some held → (code : ℕ)
      → IsRefused (coded code)
      → AnswersWith pair_of row (puts name.now) writer (engine old) (engine old) (Refused code)
  code-answers there code is = λ count. record {
    can = tt;
    of = tt;
    comes = λ versions stand.
        let v = value-there types old entries writer name.now held versions there
        (stand.each name.now) in
        is versions v.value v.found v.of;
    spends = λ versions stand. omega arith;
    few = λ versions stand. refl;
  }

  pub bad-answers : held_at entries writer name.now ≡ Some held → (fault : Fault)
      → IsRefused (bad_bytes fault)
      → AnswersWith pair_of row (puts name.now) writer (engine old) (engine old) (BadBytes fault)
  bad-answers there fault is = λ count. record {
    can = tt;
    of = tt;
    comes = λ versions stand.
        let v = value-there types old entries writer name.now held versions there
        (stand.each name.now) in
        is versions v.value v.found v.of;
    spends = λ versions stand. omega arith;
    few = λ versions stand. refl;
  }

  module _ (edit : SszValue → EditedValue) (charge : SszValue → ℕ) (is_row : IsRow edit charge)
      (all : AreVersions types old entries)
      (there : held_at entries writer name.now ≡ Some held) where
    -- a node was made
    pub edited-answers : (node : NodeId) → IsDone edit charge (Ok node)
        → AnswersWith pair_of row (puts name.now) writer (engine old) (engine new)
        (Edited name node)
    edited-answers node done = λ count. record {
      can =
          let some = all.each writer name.now held there in
          let is : IsTreeOf t some.0.value (tree_of old held.1)
          = tree-stands types old held some.0 some.1 in
          let made = done some.0.value is in
          record {
            held = held;
            there = there;
            stands = (
              record { type = t; value = made.0 },
              record {
                known = some.1.known;
                node = made.2.known;
                type = refl;
                fits = made.2.fits;
                tree = made.2.is;
              },
            );
          };
      of = refl;
      comes = λ versions stand.
          let v = value-there types old entries writer name.now held versions there
          (stand.each name.now) in
          let some = all.each writer name.now held there in
          let made = done v.value v.of in
          record {
            version = record { type = t; value = made.0 };
            charge = charge v.value;
            held = held;
            there = there;
            stands = record {
              known = some.1.known;
              node = made.2.known;
              type = refl;
              fits = made.2.fits;
              tree = made.2.is;
            };
            row = is_row versions v.value v.found v.of
                ∙ ap (λ e. edits versions name.now t e (charge v.value)) made.1;
            todo = let due = made.2.due in omega arith;
          };
      spends = λ versions stand.
          let v = value-there types old entries writer name.now held versions there
          (stand.each name.now) in
          let made = done v.value v.of in
          subst (λ r. count + unhashed new ≤ count + unhashed old + charge_in r)
          (sym (is_row versions v.value v.found v.of
          ∙ ap (λ e. edits versions name.now t e (charge v.value)) made.1))
          (let more = made.2.more in omega arith);
      few = λ versions stand.
          let v = value-there types old entries writer name.now held versions there
          (stand.each name.now) in
          let made = done v.value v.of in
          subst (λ r. node_count new ≤ node_count old + 2 * charge_in r + 1)
          (sym (is_row versions v.value v.found v.of
          ∙ ap (λ e. edits versions name.now t e (charge v.value)) made.1)) made.2.few;
    }

    -- the edit has a fault
    faulty-answers : (fault : EditFault) → new.nodes ≡ old.nodes
        → ((value : SszValue) → IsTreeOf t value (tree_of old held.1) → edit value ≡ Err fault)
        → AnswersWith pair_of row (puts name.now) writer (engine old) (engine new)
        (Refused (edit_code fault))
    faulty-answers fault same fails = λ count. record {
      can = tt;
      of = tt;
      comes = λ versions stand.
          let v = value-there types old entries writer name.now held versions there
          (stand.each name.now) in
          is_row versions v.value v.found v.of
          ∙ ap (λ e. edits versions name.now t e (charge v.value)) (fails v.value v.of);
      spends = λ versions stand.
          let e : unhashed new ≡ unhashed old
          = ap (λ (nodes : List Node). unhashed (record { nodes = nodes; spare = 0 })) same in
          omega arith;
      few = λ versions stand. ap (λ (nodes : List Node). length nodes) same;
    }

    finish-answers : (result : Result NodeId EditFault)
        → OnErr result (new.nodes ≡ old.nodes)
        → IsDone edit charge result
        → IfOk (finished_edit name result)
        (AnswersWith pair_of row (puts name.now) writer (engine old) (engine new))
    finish-answers (Ok node) same done = edited-answers node done
    finish-answers (Err edit_fault.Memory) same done = tt
    finish-answers (Err edit_fault.BadPath) same done = faulty-answers edit_fault.BadPath same done
    finish-answers (Err edit_fault.Absent) same done = faulty-answers edit_fault.Absent same done
    finish-answers (Err edit_fault.NotThat) same done = faulty-answers edit_fault.NotThat same done
    finish-answers (Err edit_fault.Full) same done = faulty-answers edit_fault.Full same done
    finish-answers (Err edit_fault.Empty) same done = faulty-answers edit_fault.Empty same done
    finish-answers (Err edit_fault.BadSelector) same done =
        faulty-answers edit_fault.BadSelector same done

-- the same for a name
pub finished-answers : (pair_of : PairOf) (types : Types) (most : ℕ) (entries : Entries)
    (base : ℕ) (old new : Nodes) (writer : ℕ) (name : List ℕ) (held : Held)
    (row : List ℕ → Rules → Versions → Row) (edit : SszValue → EditedValue)
    (charge : SszValue → ℕ)
    → ((versions : Versions) (value : SszValue)
    → version_of name versions ≡ Some (record { type = type_of types held.0; value = value })
    → IsTreeOf (type_of types held.0) value (tree_of old held.1)
    → row name (rules_of pair_of (over types most entries base old)) versions
    ≡ edits versions name (type_of types held.0) (edit value) (charge value))
    → AreVersions types old entries → held_at entries writer name ≡ Some held
    → (edited : Result NodeId EditFault) → OnErr edited (new.nodes ≡ old.nodes)
    → ((value : SszValue) → IsTreeOf (type_of types held.0) value (tree_of old held.1)
    → AnswersEdit (type_of types held.0) old new held.1 (charge value) (edit value) edited)
    → (result : Result Decision AllocError) → FinishesEdit name edited result
    → IfOk result (AnswersWith pair_of (row name) (puts name) writer
    (over types most entries base old) (over types most entries base new))
finished-answers pair_of types most entries base old new writer name held row edit charge is_row
    all there edited same done result (v, is, made) =
    subst (λ (n : List ℕ). IfOk result (AnswersWith pair_of (row n) (puts n) writer
    (over types most entries base old) (over types most entries base new))) is
    (subst (λ (r : Result Decision AllocError). IfOk r (AnswersWith pair_of (row v.now)
    (puts v.now) writer (over types most entries base old) (over types most entries base new)))
    (sym made)
    (finish-answers pair_of types most entries base old new writer v held (row v.now) edit charge
    (subst (λ (n : List ℕ). (versions : Versions) (value : SszValue)
    → version_of n versions ≡ Some (record { type = type_of types held.0; value = value })
    → IsTreeOf (type_of types held.0) value (tree_of old held.1)
    → row n (rules_of pair_of (over types most entries base old)) versions
    ≡ edits versions n (type_of types held.0) (edit value) (charge value)) (sym is) is_row)
    all (ap (λ n. held_at entries writer n) is ∙ there) edited same done))
