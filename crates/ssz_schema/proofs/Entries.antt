-- What stands at a number of a schema.
use Rattle.std.proofs.Common.{ℕ, zero, suc, ◌+◌, ◌<◌, ◌≡◌, List, [], ◌∷◌, ◌++◌, length, get_or, take, ◌≤◌, Option, Some, None, refl, sym, ap, ap₂, ◌∙◌, subst, arith, length-append, length-take, append_assoc, append-nil}
use Rattle.std.specs.List.{AllByRecursion}
use Rattle.std.proofs.lemmas.List.{take-append-le, get_or_append_left, get_or_at}
use Rattle.ssz_types.specs.declared.entry.Entry.{Entry}
use Rattle.ssz_types.specs.declared.format.Format.{Format}
use Rattle.ssz_types.specs.declared.ty.Ty.{Ty}
use Rattle.ssz_types.specs.declared.ty.Ty.TheVariants.{Uint, Boolean, Container, Vector, List as ListOf, Bitvector, Bitlist, Union}
use Rattle.ssz_schema.specs.declared.schema.Schema.TheInside.{Inside}
use Rattle.ssz_types.specs.Types.{SszType, boolean, container, vector, list, union, field, none_option, option}
use Rattle.ssz_types.specs.Legal.{IsLegal}
use Rattle.ssz_types.specs.Unfolding.{Types, type_tree_at, fields_over, options_over, tree_over, AreBelow, IsBelow}
use Rattle.ssz_types.specs.Lookup.{lookup_name}
use Rattle.ssz_types.specs.Facts.{AreFactsOf}
use Rattle.ssz_types.specs.Order.{field_order}
use Rattle.ssz_schema.specs.Inside.{unfolded, types_of, basic_types, IsSoundEntry, AreSound, IsSchema, IsSchemaEntry, IsWhole, AreAllLegal, NamesAreBelow}

-- the first count trees are the same
abbrev SameBelow : ℕ → List SszType → List SszType → Type 0
SameBelow count trees others =
    (id : ℕ) → id < count → type_tree_at trees id ≡ type_tree_at others id

same_fields : (count : ℕ) (trees others : List SszType) → SameBelow count trees others
    → (parts : List (List ℕ × ℕ)) → AllByRecursion (λ part. part.1 < count) parts
    → fields_over trees parts ≡ fields_over others parts
same_fields count trees others same [] below = refl
same_fields count trees others same (part ∷ parts) below =
    ap₂ (field part.0) (same part.1 below.0) (same_fields count trees others same parts below.1)

same_options : (count : ℕ) (trees others : List SszType) → SameBelow count trees others
    → (ids : List (Option ℕ)) → AllByRecursion (IsBelow count) ids
    → options_over trees ids ≡ options_over others ids
same_options count trees others same [] below = refl
same_options count trees others same (None ∷ ids) below =
    ap none_option (same_options count trees others same ids below.1)
same_options count trees others same (Some id ∷ ids) below =
    ap₂ option (same id below.0) (same_options count trees others same ids below.1)

pub same_over : (count : ℕ) (trees others : List SszType) → SameBelow count trees others → (ty : Ty)
    → AreBelow count ty → tree_over trees ty ≡ tree_over others ty
same_over count trees others same (Uint w) below = refl
same_over count trees others same Boolean below = refl
same_over count trees others same (Container fields) below =
    ap container (same_fields count trees others same fields.items below)
same_over count trees others same (Vector id n) below = ap (λ t. vector t n) (same id below)
same_over count trees others same (ListOf id limit) below = ap (λ t. list t limit) (same id below)
same_over count trees others same (Bitvector n) below = refl
same_over count trees others same (Bitlist limit) below = refl
same_over count trees others same (Union options) below =
    ap union (same_options count trees others same options.items below)

unfolded-below : (done : List SszType) (entries : List Entry)
    → SameBelow (length done) (unfolded done entries) done
unfolded-below done [] id below = refl
unfolded-below done (e ∷ entries) id below =
    unfolded-below (done ++ tree_over done e.ty ∷ []) entries id
    (omega (arith, length-append done (tree_over done e.ty ∷ [])))
    ∙ get_or_append_left done (tree_over done e.ty ∷ []) boolean id below

pub length-unfolded : (done : List SszType) (entries : List Entry)
    → length (unfolded done entries) ≡ length done + length entries
length-unfolded done [] = omega arith
length-unfolded done (e ∷ entries) =
    omega (
      arith,
      length-unfolded (done ++ tree_over done e.ty ∷ []) entries,
      length-append done (tree_over done e.ty ∷ []),
    )

-- what stands at a place of a list of trees
pub record Stands (format : Format) (trees : List SszType) (id : ℕ) (e : Entry) : Type 0 where
  pub form : tree_over trees e.ty ≡ type_tree_at trees id
  pub below : AreBelow id e.ty
  pub legal : IsLegal format (type_tree_at trees id)
  pub facts : AreFactsOf e.facts (type_tree_at trees id)
  pub order : e.order.items ≡ field_order (type_tree_at trees id)

stands_first : (format : Format) (done : List SszType) (e : Entry) (entries : List Entry)
    → IsSoundEntry format done e → Stands format (unfolded done (e ∷ entries)) (length done) e
stands_first format done e entries sound =
    let trees = unfolded (done ++ tree_over done e.ty ∷ []) entries in
    let here : type_tree_at trees (length done) ≡ tree_over done e.ty =
    unfolded-below (done ++ tree_over done e.ty ∷ []) entries (length done)
    (omega (arith, length-append done (tree_over done e.ty ∷ [])))
    ∙ get_or_at done (tree_over done e.ty) [] boolean (length done) refl in
    record {
      form = same_over (length done) trees done (unfolded-below done (e ∷ entries)) e.ty sound.below
          ∙ sym here;
      below = sound.below;
      legal = subst (IsLegal format) (sym here) sound.legal;
      facts = subst (AreFactsOf e.facts) (sym here) sound.facts;
      order = sound.order ∙ sym (ap field_order here);
    }

stands_at : (format : Format) (done : List SszType) (entries : List Entry)
    → AreSound format done entries → (i : ℕ) (e : Entry) → i < length entries
    → e ≡ get_or entries i e → Stands format (unfolded done entries) (length done + i) e
stands_at format done [] sound i e below is = absurd (omega arith)
stands_at format done (f ∷ entries) sound zero e below is =
    let place : length done ≡ length done + 0 = omega arith in
    subst (λ (id : ℕ). Stands format (unfolded done (f ∷ entries)) id e) place
    (subst (λ (g : Entry). Stands format (unfolded done (f ∷ entries)) (length done) g) (sym is)
    (stands_first format done f entries sound.0))
stands_at format done (f ∷ entries) sound (suc i) e below is =
    let place : length (done ++ tree_over done f.ty ∷ []) + i ≡ length done + suc i =
    omega (arith, length-append done (tree_over done f.ty ∷ [])) in
    subst (λ (id : ℕ). Stands format (unfolded done (f ∷ entries)) id e) place
    (stands_at format (done ++ tree_over done f.ty ∷ []) entries sound.1 i e (omega arith) is)

pub entry_at : (a : Inside) → IsSchema a → (id : ℕ) (e : Entry) → id < length a.entries.items
    → e ≡ get_or a.entries.items id e → IsSchemaEntry (types_of a) id e
entry_at a h id e below is =
    let found = stands_at a.format [] a.entries.items h.entries id e below is in
    let place : 0 + id ≡ id = omega arith in
    let at = subst (λ (i : ℕ). Stands a.format (types_of a).trees i e) place found in
    record {
      form = at.form;
      below = at.below;
      legal = at.legal;
      facts = at.facts;
      order = at.order;
    }

pub count_is : (a : Inside) (types : Types) → types_of a ≡ types
    → length types.trees ≡ length a.entries.items
count_is a types e = sym (ap (λ (t : Types). length t.trees) e) ∙ length-unfolded [] a.entries.items
    ∙ omega arith

pub entry_is : (a : Inside) (types : Types) → types_of a ≡ types → IsSchema a → (id : ℕ) (e : Entry)
    → id < length types.trees → e ≡ get_or a.entries.items id e → IsSchemaEntry types id e
entry_is a types same h id e below is =
    subst (λ (t : Types). IsSchemaEntry t id e) same
    (entry_at a h id e (omega (arith, count_is a types same)) is)

pub unfolded-append : (done : List SszType) (entries : List Entry) (e : Entry)
    → unfolded done (entries ++ e ∷ []) ≡ unfolded done entries
    ++ tree_over (unfolded done entries) e.ty ∷ []
unfolded-append done [] e = refl
unfolded-append done (f ∷ entries) e = unfolded-append (done ++ tree_over done f.ty ∷ []) entries e

pub AreSound-append : (format : Format) (done : List SszType) (entries : List Entry) (e : Entry)
    → AreSound format done entries → IsSoundEntry format (unfolded done entries) e
    → AreSound format done (entries ++ e ∷ [])
AreSound-append format done [] e sound h = (h, tt)
AreSound-append format done (f ∷ entries) e sound h =
    (sound.0, AreSound-append format (done ++ tree_over done f.ty ∷ []) entries e sound.1 h)

take_basics : (trees more : List SszType) → take 7 trees ≡ basic_types
    → take 7 (trees ++ more) ≡ basic_types
take_basics trees more h =
    let long : 7 ≤ length trees = omega (arith, ap length h, length-take 7 trees) in
    take-append-le 7 trees more long ∙ h

-- what is known of the whole stays with more types
pub IsWhole-more : (old new : Types) (more : List SszType) → IsWhole old
    → new.trees ≡ old.trees ++ more → new.names ≡ old.names → IsWhole new
IsWhole-more old new more h trees names = record {
  basics = ap (take 7) trees ∙ take_basics old.trees more h.basics;
  names = λ name id e. omega (
    arith,
    h.names name id
        (ap (λ ns. lookup_name ns name) (sym names) ∙ e),
    ap length trees,
    length-append old.trees more,
  );
}

-- a schema after a push of an entry that is sound in it
pub IsSchema-push : (a b : Inside) (types : Types) (e : Entry) → types_of a ≡ types → IsSchema a
    → IsSoundEntry types.format types.trees e → b.format ≡ a.format → b.names ≡ a.names
    → b.entries.items ≡ a.entries.items ++ e ∷ [] → IsSchema b
IsSchema-push a b types e same h sound format names pushed =
    let here : IsSoundEntry a.format (unfolded [] a.entries.items) e =
    subst (λ (t : Types). IsSoundEntry t.format t.trees e) (sym same) sound in
    let more = AreSound-append a.format [] a.entries.items e h.entries here in
    let trees : unfolded [] b.entries.items ≡ unfolded [] a.entries.items
    ++ tree_over (unfolded [] a.entries.items) e.ty ∷ [] =
    ap (unfolded []) pushed ∙ unfolded-append [] a.entries.items e in
    record {
      entries = subst (λ (es : List Entry). AreSound b.format [] es) (sym pushed)
          (subst (λ (f : Format). AreSound f [] (a.entries.items ++ e ∷ [])) (sym format) more);
      whole = IsWhole-more (types_of a) (types_of b)
          (tree_over (unfolded [] a.entries.items) e.ty ∷ []) h.whole trees names;
    }

-- a push gives one type more
pub Extends-push : (a b : Inside) (types : Types) (e : Entry) → types_of a ≡ types
    → b.format ≡ a.format → b.names ≡ a.names → b.entries.items ≡ a.entries.items ++ e ∷ []
    → types_of b ≡ record types { trees = types.trees ++ tree_over types.trees e.ty ∷ [] }
Extends-push a b types e same format names pushed =
    let trees : unfolded [] b.entries.items ≡ unfolded [] a.entries.items
    ++ tree_over (unfolded [] a.entries.items) e.ty ∷ [] =
    ap (unfolded []) pushed ∙ unfolded-append [] a.entries.items e in
    (λ i. record { format = format i; trees = trees i; names = names i })
    ∙ ap (λ (t : Types). record t { trees = t.trees ++ tree_over t.trees e.ty ∷ [] }) same

-- the trees behind those that are done
later : List SszType → List Entry → List SszType
later done [] = []
later done (e ∷ entries) = tree_over done e.ty ∷ later (done ++ tree_over done e.ty ∷ []) entries

unfolded-later : (done : List SszType) (entries : List Entry)
    → unfolded done entries ≡ done ++ later done entries
unfolding later
unfolded-later done [] = sym (append-nil done)
unfolded-later done (e ∷ entries) =
    unfolded-later (done ++ tree_over done e.ty ∷ []) entries
    ∙ append_assoc done (tree_over done e.ty ∷ [])
    (later (done ++ tree_over done e.ty ∷ []) entries)

later-take : (done : List SszType) (entries : List Entry) (count : ℕ)
    → later done (take count entries) ≡ take count (later done entries)
unfolding later
later-take done [] zero = refl
later-take done [] (suc count) = refl
later-take done (e ∷ entries) zero = refl
later-take done (e ∷ entries) (suc count) =
    ap (λ ts. tree_over done e.ty ∷ ts)
    (later-take (done ++ tree_over done e.ty ∷ []) entries count)

-- the trees of the first entries are the first trees
unfolded-take : (entries : List Entry) (count : ℕ)
    → unfolded [] (take count entries) ≡ take count (unfolded [] entries)
unfolded-take entries count =
    unfolded-later [] (take count entries) ∙ later-take [] entries count
    ∙ ap (take count) (sym (unfolded-later [] entries))

take_take : (m n : ℕ) (trees : List SszType) → m ≤ n → take m (take n trees) ≡ take m trees
take_take zero n trees h = refl
take_take (suc m) zero trees h = absurd (omega arith)
take_take (suc m) (suc n) [] h = refl
take_take (suc m) (suc n) (t ∷ trees) h = ap (λ ts. t ∷ ts) (take_take m n trees (omega arith))

AreSound-take : (format : Format) (done : List SszType) (entries : List Entry) (count : ℕ)
    → AreSound format done entries → AreSound format done (take count entries)
AreSound-take format done [] zero sound = tt
AreSound-take format done [] (suc count) sound = tt
AreSound-take format done (e ∷ entries) zero sound = tt
AreSound-take format done (e ∷ entries) (suc count) sound =
    (sound.0, AreSound-take format (done ++ tree_over done e.ty ∷ []) entries count sound.1)

-- a schema of the first types, where every name is one of theirs
pub types_of-take : (a b : Inside) (types : Types) (count : ℕ) → types_of a ≡ types
    → b.format ≡ a.format → b.names ≡ a.names → b.entries.items ≡ take count a.entries.items
    → types_of b ≡ record types { trees = take count types.trees }
types_of-take a b types count same format names taken =
    let trees : unfolded [] b.entries.items ≡ take count (unfolded [] a.entries.items) =
    ap (unfolded []) taken ∙ unfolded-take a.entries.items count in
    (λ i. record { format = format i; trees = trees i; names = names i })
    ∙ ap (λ (t : Types). record t { trees = take count t.trees }) same

pub IsSchema-take : (a b : Inside) (types : Types) (count : ℕ) → types_of a ≡ types → IsSchema a
    → 7 ≤ count → NamesAreBelow types.names count → b.format ≡ a.format → b.names ≡ a.names
    → b.entries.items ≡ take count a.entries.items → IsSchema b
IsSchema-take a b types count same h some below format names taken =
    let is = types_of-take a b types count same format names taken in
    let whole = subst IsWhole same h.whole in
    record {
      entries = subst (λ (es : List Entry). AreSound b.format [] es) (sym taken)
          (subst (λ (f : Format). AreSound f [] (take count a.entries.items)) (sym format)
          (AreSound-take a.format [] a.entries.items count h.entries));
      whole = subst IsWhole (sym is) (record {
        basics = take_take 7 count types.trees some ∙ whole.basics;
        names = λ name id e. omega (
          arith,
          below name id e,
          whole.names name id e,
          length-take count types.trees,
        );
      });
    }

legal_at : (format : Format) (done : List SszType) (entries : List Entry)
    → AreSound format done entries → (i : ℕ) → i < length entries
    → IsLegal format (type_tree_at (unfolded done entries) (length done + i))
legal_at format done [] sound i below = absurd (omega arith)
legal_at format done (f ∷ entries) sound zero below =
    let place : length done ≡ length done + 0 = omega arith in
    subst (λ (n : ℕ). IsLegal format (type_tree_at (unfolded done (f ∷ entries)) n)) place
    (stands_first format done f entries sound.0).legal
legal_at format done (f ∷ entries) sound (suc i) below =
    let place : length (done ++ tree_over done f.ty ∷ []) + i ≡ length done + suc i =
    omega (arith, length-append done (tree_over done f.ty ∷ [])) in
    subst (λ (n : ℕ). IsLegal format (type_tree_at (unfolded done (f ∷ entries)) n)) place
    (legal_at format (done ++ tree_over done f.ty ∷ []) entries sound.1 i (omega arith))

-- every type of a schema is legal
pub all_legal : (a : Inside) (types : Types) → types_of a ≡ types → IsSchema a → AreAllLegal types
all_legal a types same h = subst AreAllLegal same (λ id below.
    let place : 0 + id ≡ id = omega arith in
    subst (λ (n : ℕ). IsLegal a.format (type_tree_at (types_of a).trees n)) place
    (legal_at a.format [] a.entries.items h.entries id
    (omega (arith, length-unfolded [] a.entries.items))))
