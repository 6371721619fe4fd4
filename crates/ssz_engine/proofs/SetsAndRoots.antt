-- A part is set, and the root is asked for: what that hashes.
use Rattle.std.proofs.Common.{◌≡◌, ◌≤◌, ◌+◌, ◌∙◌, ℕ, Bool, true, false, List, Option, Some, Ok, Err, IsSome, is_none, refl, sym, ap, subst, arith}
use Rattle.std.specs.Option.{option_map_or}
use Rattle.ssz_schema.specs.Types.{SszType}
use Rattle.ssz_schema.specs.Sizes.{basic_size}
use Rattle.ssz_schema.specs.Paths.{Path, path_type}
use Rattle.ssz_schema.specs.Unfolding.{type_of}
use Rattle.ssz_gindex.specs.Paths.{index_levels}
use Rattle.ssz_value.specs.Values.{SszValue}
use Rattle.ssz_value.specs.Parts.{part as part_of}
use Rattle.ssz_value.specs.Pairs.{pairs}
use Rattle.ssz_value.specs.Edits.{Edited, set_at}
use Rattle.ssz_places.specs.Charges.{set_charge}
use Rattle.ssz_edit.proofs.Landing.{pairs_basic}
use Rattle.ssz_script.specs.declared.reply.TheConstants.Reply.{NO_VERSION, BAD_PATH, ABSENT, NOT_THAT}
use Rattle.ssz_versions.specs.Content.{Entries, Held, held_at}
use Rattle.ssz_machine.specs.State.{Name, Version, Versions, version_of}
use Rattle.ssz_machine.specs.Rules.{Outcome, ◌>>=◌, ◌>>◌, need, refuse, edits}
use Rattle.ssz_machine.specs.Making.{decoded}
use Rattle.ssz_machine.specs.Editing.{ends_beside, set}
use Rattle.ssz_machine.specs.Machine.{charge_in}
use Rattle.ssz_engine.specs.Laws.{LawOfSetCosts}
use Rattle.ssz_engine.proofs.EditRows.{set_end}
use Rattle.ssz_decisions.proofs.Entries.{held-there-now}
use Rattle.ssz_decisions.proofs.Showing.{held-there}

edit_charge : (versions : Versions) (name : Name) (t : SszType) (made : Edited) (charge n : ℕ)
    → charge ≤ n → charge_in (edits versions name t made charge) ≤ n
edit_charge versions name t (Ok x) charge n few = few
edit_charge versions name t (Err fault) charge n few = omega arith

-- the row of a set is charged the levels of a basic part
module _ (versions : Versions) (name : Name) (version : Version) (path : Path) (literal : List ℕ)
    (u : SszType) (typed : path_type version.type path ≡ Some u) (basic : IsSome (basic_size u))
  where
    value_charge : (x : SszValue) → set_charge version.type path x ≤ index_levels version.type path
    value_charge x =
        let one : option_map_or (λ (t : SszType). pairs t x) (path_type version.type path) 0 ≡ 0
        = ap (λ (o : Option SszType). option_map_or (λ (t : SszType). pairs t x) o 0) typed
        ∙ pairs_basic u x basic in
        let is : set_charge version.type path x ≡ index_levels version.type path
        + option_map_or (λ (t : SszType). pairs t x) (path_type version.type path) 0 = refl in
        omega arith

    read_charge : (read : Outcome SszValue)
        → charge_in (read >>= (λ value. edits versions name version.type
        (set_at version.type version.value path value) (set_charge version.type path value)))
        ≤ index_levels version.type path
    read_charge (Ok x) = edit_charge versions name version.type
        (set_at version.type version.value path x) (set_charge version.type path x)
        (index_levels version.type path) (value_charge x)
    read_charge (Err refusal) = omega arith

    tested_charge : (absent beside : Bool)
        → charge_in (refuse ABSENT absent >> (refuse NOT_THAT beside
        >> set_end versions name version path literal u)) ≤ index_levels version.type path
    tested_charge true beside = omega arith
    tested_charge false true = omega arith
    tested_charge false false = read_charge (decoded u literal)

    pub set_levels : version_of name versions ≡ Some version
        → charge_in (set versions name path literal) ≤ index_levels version.type path
    set_levels there =
        subst (λ (o : Option Version). charge_in (need NO_VERSION o
        >>= (λ (found : Version). need BAD_PATH (path_type found.type path)
        >>= (λ u. refuse ABSENT (is_none (part_of found.type found.value path))
        >> (refuse NOT_THAT (ends_beside path) >> set_end versions name found path literal u))))
        ≤ index_levels version.type path) (sym there)
        (subst (λ (o : Option SszType). charge_in (need BAD_PATH o
        >>= (λ u. refuse ABSENT (is_none (part_of version.type version.value path))
        >> (refuse NOT_THAT (ends_beside path) >> set_end versions name version path literal u)))
        ≤ index_levels version.type path) (sym typed)
        (tested_charge (is_none (part_of version.type version.value path)) (ends_beside path)))

pub law_of_sets : LawOfSetCosts
law_of_sets pair_of place writer line v path literal old mid first between last told_old told_mid
    out_old out_mid was part both (versions, stands) there hashed typed basic =
    let is : Held = both.entry.0 in
    let now : held_at mid.entries writer v ≡ Some is
    = ap (λ (es : Entries). held_at es writer v) both.entry.1
    ∙ held-there-now old.entries writer v is in
    let h = held-there old.types old.arena was _ _ there ((stands.each writer).each v) in
    let levels : index_levels h.version.type path ≡ index_levels (type_of old.types was.0) path
    = ap (λ (t : SszType). index_levels t path) (sym h.stands.type) in
    let charged = set_levels (versions writer) v h.version path literal part
    (ap (λ (t : SszType). path_type t path) (sym h.stands.type) ∙ typed) basic h.is in
    let paid = both.sets.edits versions stands v was is refl refl there now in
    let asked = both.roots is now in
    omega (arith, hashed)
