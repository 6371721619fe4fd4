-- Entries that were copied make the same schema.
use Rattle.std.proofs.Common.{◌≡◌, List, [], ◌∷◌, ◌++◌, length, refl, sym, ap, ◌∙◌, subst}
use Rattle.std.specs.List.{AllZip}
use Rattle.ssz_types.specs.declared.entry.Entry.{Entry}
use Rattle.ssz_types.specs.declared.facts.Facts.{Facts}
use Rattle.ssz_types.specs.declared.format.Format.{Format}
use Rattle.ssz_schema.specs.declared.schema.Schema.TheInside.{Inside}
use Rattle.ssz_types.specs.Copies.{IsSameEntry}
use Rattle.ssz_types.specs.Types.{SszType}
use Rattle.ssz_types.specs.Legal.{IsLegal}
use Rattle.ssz_types.specs.Unfolding.{tree_over}
use Rattle.ssz_types.specs.Facts.{AreFactsOf}
use Rattle.ssz_types.specs.Order.{field_order}
use Rattle.ssz_schema.specs.Inside.{unfolded, types_of, IsSoundEntry, AreSound, IsSchema, IsWhole}

unfolded-copied : (done : List SszType) (es fs : List Entry) → AllZip IsSameEntry es fs
    → unfolded done fs ≡ unfolded done es
unfolded-copied done [] [] same = refl
unfolded-copied done [] (f ∷ fs) same = absurd same
unfolded-copied done (e ∷ es) [] same = absurd same
unfolded-copied done (e ∷ es) (f ∷ fs) same =
    ap (λ (t : SszType). unfolded (done ++ t ∷ []) fs) (same.0.ty.tree done)
    ∙ unfolded-copied (done ++ tree_over done e.ty ∷ []) es fs same.1

IsSound-copied : (format : Format) (done : List SszType) (e f : Entry) → IsSameEntry e f
    → IsSoundEntry format done e → IsSoundEntry format done f
IsSound-copied format done e f same sound = record {
  below = same.ty.below (length done) sound.below;
  legal = subst (IsLegal format) (sym (same.ty.tree done)) sound.legal;
  facts = subst (AreFactsOf f.facts) (sym (same.ty.tree done))
      (subst (λ (facts : Facts). AreFactsOf facts (tree_over done e.ty)) (sym same.facts)
      sound.facts);
  order = same.order ∙ sound.order ∙ sym (ap field_order (same.ty.tree done));
}

AreSound-copied : (format : Format) (done : List SszType) (es fs : List Entry)
    → AllZip IsSameEntry es fs → AreSound format done es → AreSound format done fs
AreSound-copied format done [] [] same sound = tt
AreSound-copied format done [] (f ∷ fs) same sound = absurd same
AreSound-copied format done (e ∷ es) [] same sound = absurd same
AreSound-copied format done (e ∷ es) (f ∷ fs) same sound = (
  IsSound-copied format done e f same.0 sound.0,
  subst (λ (t : SszType). AreSound format (done ++ t ∷ []) fs) (sym (same.0.ty.tree done))
      (AreSound-copied format (done ++ tree_over done e.ty ∷ []) es fs same.1 sound.1),
)

-- a copy is seen as the same types
pub types_of-copied : (a b : Inside) → b.format ≡ a.format → b.names ≡ a.names
    → AllZip IsSameEntry a.entries.items b.entries.items → types_of b ≡ types_of a
types_of-copied a b format names same =
    let trees = unfolded-copied [] a.entries.items b.entries.items same in
    λ i. record { format = format i; trees = trees i; names = names i }

-- a copy is a schema
pub IsSchema-copied : (a b : Inside) → IsSchema a → b.format ≡ a.format → b.names ≡ a.names
    → AllZip IsSameEntry a.entries.items b.entries.items → IsSchema b
IsSchema-copied a b h format names same = record {
  entries = subst (λ (f : Format). AreSound f [] b.entries.items) (sym format)
      (AreSound-copied a.format [] a.entries.items b.entries.items same h.entries);
  whole = subst IsWhole (sym (types_of-copied a b format names same)) h.whole;
}
