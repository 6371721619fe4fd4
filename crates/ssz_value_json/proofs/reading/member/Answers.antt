use Rattle.std.proofs.Common.{◌≡◌, ℕ, List, refl, sym, ap, ◌∙◌, subst}
use Rattle.std.specs.Str.{IsUtf8}
use Rattle.serde_json.specs.Data.{Data, null, boolean, number, string, array, object}
use Rattle.serde_json.specs.Find.{get, get_member}
use Rattle.serde_json.specs.View.{view}
use Rattle.ssz_value_json.specs.Walk.{members_in}
use Rattle.ssz_value_json.proofs.Ascii.{name_utf8}
use Rattle.ssz_value_json.proofs.reading.member.Goals as goal

-- a look-up is one among the members
get_is : (name : List ℕ) (d : Data) → get name d ≡ get_member name (members_in d)
get_is name null = refl
get_is name (boolean b) = refl
get_is name (number n) = refl
get_is name (string s) = refl
get_is name (array ds) = refl
get_is name (object ms) = refl

pub returns-in-Ok : goal.returns-in-Ok
returns-in-Ok c =
    let json = view c.args.json.now in
    c.get.ensures
    ∙ ap (λ name. get name json) (c.in-Ok.ensures.cases.0 ∙ c.as_bytes.ensures)
    ∙ get_is c.args.name.now json

pub returns-in-Err : goal.returns-in-Err
returns-in-Err c =
    absurd (c.in-Err.ensures.cases.0 (subst IsUtf8 (sym c.as_bytes.ensures)
    (name_utf8 c.args.name.now c.requires)))
