-- A walk, step by step, and what it does to a schema.
use Rattle.std.proofs.Common.{ℕ, ◌≡◌, ◌<◌, ◌≤◌, ◌^◌, List, [], ◌∷◌, ◌++◌, length, get_or, Result, Ok, Err, refl, sym, ap, ap₂, ◌∙◌, subst, arith, length-append, append_assoc, append-nil, lt-ltb, le-ltb}
use Rattle.std.proofs.lemmas.Bool.{cond-true, cond-false}
use Rattle.std.proofs.lemmas.List.{get_or_at}
use Rattle.ssz_types.specs.declared.format.Format.{Format}
use Rattle.ssz_types.specs.declared.entry.Entry.{Entry}
use Rattle.ssz_types.specs.declared.schema_fault.SchemaFault.{SchemaFault}
use Rattle.ssz_types.specs.declared.schema_fault.SchemaFault.TheVariants.{Nest, Levels, Size}
use Rattle.ssz_types.specs.declared.schema_fault.SchemaError.{SchemaError}
use Rattle.ssz_types.specs.declared.schema_fault.SchemaError.TheVariants.{Fault, Memory}
use Rattle.ssz_types.specs.Types.{SszType, boolean}
use Rattle.ssz_types.specs.Sizes.{nesting, type_levels, default_length}
use Rattle.ssz_types.specs.Legal.{IsWithinLimits, most_levels}
use Rattle.ssz_schema.specs.Walk.{◌>>=◌, within_limits}
use Rattle.ssz_types.specs.Order.{field_order}
use Rattle.ssz_types.specs.Unfolding.{Types, tree_over}
use Rattle.ssz_schema.specs.Inside.{IsSoundEntry, IsSoundButLimits}
use Rattle.ssz_schema.specs.Adding.{ExtendsSchema, IsType, AnswersBy, Resolves}
use Rattle.ssz_schema.proofs.FactLemmas.{uncapped_facts}

pub Extends-refl : (types : Types) → ExtendsSchema types types
Extends-refl types = record {
  more = [];
  format = refl;
  trees =
      sym (append-nil types.trees);
  names = refl;
}

pub Extends-trans : (old mid new : Types) → ExtendsSchema old mid → ExtendsSchema mid new
    → ExtendsSchema old new
Extends-trans old mid new a b = record {
  more = a.more ++ b.more;
  format = b.format ∙ a.format;
  trees = b.trees ∙ ap (λ ts. ts ++ b.more) a.trees ∙ append_assoc old.trees a.more b.more;
  names = b.names ∙ a.names;
}

-- a walk that ends at once with a fault
pub refused : {A X : Type 0} (Stands : Types → X → A → Type 0) (walk : Result A SchemaFault)
    (types : Types) (fault : SchemaFault) → walk ≡ Err fault
    → Resolves Stands walk types types (Err (Fault fault))
refused Stands walk types fault e = record { extends = Extends-refl types; answer = e }

-- a walk that is another walk
pub same_walk : {A X : Type 0} (Stands : Types → X → A → Type 0) (walk other : Result A SchemaFault)
    (old new : Types) (result : Result X SchemaError) → walk ≡ other
    → Resolves Stands other old new result → Resolves Stands walk old new result
same_walk Stands walk other old new result e h =
    subst (λ (w : Result _ SchemaFault). Resolves Stands w old new result) (sym e) h

-- the type that was just added
added : (trees : List SszType) (t : SszType) → get_or (trees ++ t ∷ []) (length trees) boolean ≡ t
added trees t = get_or_at trees t [] boolean (length trees) refl

-- Limits, in the order in which they are tested.

pub exceeds_nest : (format : Format) (t : SszType) → 32 < nesting t
    → within_limits format t ≡ Err Nest
exceeds_nest format t h = cond-true _ _ _ (lt-ltb 32 (nesting t) h)

pub exceeds_levels : (format : Format) (t : SszType) → nesting t ≤ 32
    → most_levels format < type_levels t → within_limits format t ≡ Err Levels
exceeds_levels format t n h = cond-false _ _ _ (le-ltb 32 (nesting t) n)
    ∙ cond-true _ _ _ (lt-ltb (most_levels format) (type_levels t) h)

pub exceeds_size : (format : Format) (t : SszType) → nesting t ≤ 32
    → type_levels t ≤ most_levels format
    → 2 ^ 24 < default_length t → within_limits format t ≡ Err Size
exceeds_size format t n l h =
    cond-false _ _ _ (le-ltb 32 (nesting t) n) ∙ cond-false _ _ _
    (le-ltb (most_levels format) (type_levels t) l) ∙ cond-true _ _ _
    (lt-ltb (2 ^ 24) (default_length t) h)

pub exceeds_none : (format : Format) (t : SszType) → IsWithinLimits format t
    → within_limits format t ≡ Ok t
exceeds_none format t h =
    cond-false _ _ _ (le-ltb 32 (nesting t) h.nesting)
    ∙ cond-false _ _ _ (le-ltb (most_levels format) (type_levels t) h.levels)
    ∙ cond-false _ _ _ (le-ltb (2 ^ 24) (default_length t) h.default_length)

-- a type that keeps the limits, pushed
pub pushed : (format : Format) (old new : Types) (t : SszType) (id : ℕ) → IsWithinLimits format t
    → id ≡ length old.trees → new ≡ record old { trees = old.trees ++ t ∷ [] }
    → Resolves IsType (within_limits format t) old new (Ok id)
pushed format old new t id within number e = record {
  extends = record {
    more = t ∷ [];
    format = ap (λ (s : Types). s.format) e;
    trees = trees;
    names =
        ap (λ (s : Types). s.names) e;
  };
  answer = (
    t,
    exceeds_none format t within,
    record {
      known = omega (arith, ap length trees, length-append old.trees (t ∷ []));
      is = ap₂ (λ (ts : List SszType) n. get_or ts n boolean) trees number ∙ added old.trees t;
    },
  );
}
  where
    trees : new.trees ≡ old.trees ++ t ∷ []
    trees = ap (λ (s : Types). s.trees) e

-- an entry that keeps the limits is sound
pub sound_within : (format : Format) (done : List SszType) (e : Entry)
    → IsSoundButLimits format done e.ty e.facts → IsWithinLimits format (tree_over done e.ty)
    → e.order.items ≡ field_order (tree_over done e.ty) → IsSoundEntry format done e
sound_within format done e h within ordered = record {
  below = h.below;
  legal = h.legal within;
  facts = uncapped_facts e.facts (tree_over done e.ty) within.default_length h.facts;
  order = ordered;
}

-- One walk after another.

-- the first part of a walk gives this, and the rest goes on from it
pub goes_on : {A B X : Type 0} (Stands : Types → X → B → Type 0) (walk : Result A SchemaFault)
    (next : A → Result B SchemaFault) (a : A) (old mid new : Types) (result : Result X SchemaError)
    → ExtendsSchema old mid → walk ≡ Ok a → Resolves Stands (next a) mid new result
    → Resolves Stands (walk >>= next) old new result
goes_on Stands walk next a old mid new result more e r = record {
  extends = Extends-trans old mid new more r.extends;
  answer = subst (λ (w : Result _ SchemaFault). AnswersBy Stands w new result)
      (sym (ap (λ w. w >>= next) e)) r.answer;
}

-- the first part of a walk ends it
pub ends : {A B X Y : Type 0} (First : Types → X → A → Type 0) (Stands : Types → Y → B → Type 0)
    (walk : Result A SchemaFault) (next : A → Result B SchemaFault) (old new : Types)
    (e : SchemaError)
    → Resolves First walk old new (Err e) → Resolves Stands (walk >>= next) old new (Err e)
ends First Stands walk next old new Memory r = record { extends = r.extends; answer = tt }
ends First Stands walk next old new (Fault fault) r =
    record { extends = r.extends; answer = ap (λ w. w >>= next) r.answer }
