-- What a store stands for that was just started.
use Rattle.std.proofs.Common.{◌≡◌, ◌∙◌, ℕ, [], Option, None, refl, sym, ap, subst}
use Rattle.std.specs.FinMap as finite
use Rattle.std.specs.FinMap.{get-empty}
use Rattle.ssz_schema.specs.Unfolding.{Types}
use Rattle.ssz_arena.specs.Content.{ArenaContent as Nodes}
use Rattle.ssz_versions.specs.Keys.{key_cmp}
use Rattle.ssz_versions.specs.Content.{Entries, Held, held_at}
use Rattle.ssz_decisions.specs.Standing.{Match, StandsForVersions, HoldsNone}

-- no entries stand for no versions
pub stand-none : (types : Types) (arena : Nodes) (entries : Entries) (writer : ℕ)
    → entries ≡ finite.empty → StandsForVersions types arena entries writer []
stand-none types arena entries writer none = record {
  sorted = refl;
  each = λ name. subst (λ (es : Entries). Match types arena (held_at es writer name) None)
      (sym none)
      (subst (λ (held : Option Held). Match types arena held None)
      (sym (get-empty key_cmp (writer, name))) tt);
}

-- no writer holds anything
pub none-held : (entries : Entries) → entries ≡ finite.empty → (writer : ℕ)
    → HoldsNone entries writer
none-held entries none writer name =
    ap (λ (es : Entries). held_at es writer name) none ∙ get-empty key_cmp (writer, name)
