-- The fields of a container, resolved one by one.
use Rattle.std.proofs.Common.{ℕ, ◌≡◌, ◌<◌, ◌≤◌, ◌+◌, Bool, true, false, not, cond, eqb, List, [], ◌∷◌, ◌++◌, length, map, drop, get_or, Option, Some, Result, Ok, Err, Vec, Global, bytes_eq, refl, sym, ap, ap₂, ◌∙◌, subst, arith, length-append, eq-eqb}
use Rattle.std.specs.List.{AllByRecursion, list_any, IsDistinct}
use Rattle.std.proofs.lemmas.List.{drop_all}
use Rattle.std.proofs.lemmas.Bool.{ne_eqb}
use Rattle.ssz_types.specs.declared.format.Format.{Format}
use Rattle.ssz_types.specs.declared.schema_fault.SchemaFault.{SchemaFault}
use Rattle.ssz_types.specs.declared.schema_fault.SchemaFault.TheVariants.{BadName, FieldTaken}
use Rattle.ssz_types.specs.declared.schema_fault.SchemaError.{SchemaError}
use Rattle.ssz_types.specs.declared.schema_fault.SchemaError.TheVariants.{Fault, Memory}
use Rattle.ssz_types.specs.Types.{SszType, Fields, no_fields, field}
use Rattle.ssz_types.specs.Names.{is_name}
use Rattle.ssz_types.specs.Legal.{AreLegalFields, field_names}
use Rattle.ssz_schema.specs.Forms.{field_forms, field_form_of, form_of}
use Rattle.ssz_schema.specs.Walk.{◌>>=◌, resolved, resolved_fields, resolved_field}
use Rattle.ssz_types.specs.Unfolding.{Types, type_tree_at, fields_over, known_in}
use Rattle.ssz_types.specs.Repeats.{first_repeat, is_at}
use Rattle.ssz_schema.specs.Inside.{IsWhole, AreAllLegal}
use Rattle.ssz_schema.specs.Adding.{ExtendsSchema, Resolves, AreFieldTypes, IsField}
pub use Rattle.ssz_types.proofs.RepeatLemmas.{Written, names_of, drop_at}
use Rattle.ssz_schema.proofs.WalkLemmas.{Extends-refl, Extends-trans}
use Rattle.ssz_schema.proofs.KnownLemmas.{known_in-more, known_legal, type_of-more}
use Rattle.ssz_schema.proofs.ResolvedLaw.{ok_is, fields_are_legal}

abbrev Part : Type 0
Part = List ℕ × ℕ

-- fields that are there, before others
abbrev pub fields_before : List SszType → List Part → Fields → Fields
fields_before trees [] rest = rest
fields_before trees (p ∷ parts) rest =
    field p.0 (type_tree_at trees p.1) (fields_before trees parts rest)

fields_before-push : (trees : List SszType) (parts : List Part) (p : Part) (rest : Fields)
    → fields_before trees (parts ++ p ∷ []) rest ≡ fields_before trees parts
    (field p.0 (type_tree_at trees p.1) rest)
fields_before-push trees [] p rest = refl
fields_before-push trees (q ∷ parts) p rest =
    ap (field q.0 (type_tree_at trees q.1)) (fields_before-push trees parts p rest)

fields_before-none : (trees : List SszType) (parts : List Part)
    → fields_before trees parts no_fields ≡ fields_over trees parts
fields_before-none trees [] = refl
fields_before-none trees (p ∷ parts) =
    ap (field p.0 (type_tree_at trees p.1)) (fields_before-none trees parts)

fields_before-more : (old new : Types) (parts : List Part) (rest : Fields) → ExtendsSchema old new
    → AllByRecursion (λ p. p.1 < length old.trees) parts
    → fields_before new.trees parts rest ≡ fields_before old.trees parts rest
fields_before-more old new [] rest h below = refl
fields_before-more old new (p ∷ parts) rest h below =
    ap₂ (field p.0) (type_of-more old new p.1 h below.0)
    (fields_before-more old new parts rest h below.1)

pub AllBelow-more : (old new : Types) (parts : List Part) → ExtendsSchema old new
    → AllByRecursion (λ p. p.1 < length old.trees) parts
    → AllByRecursion (λ p. p.1 < length new.trees) parts
AllBelow-more old new [] h below = tt
AllBelow-more old new (p ∷ parts) h below = (
  omega (arith, below.0, ap length h.trees, length-append old.trees h.more),
  AllBelow-more old new parts h below.1,
)

AllBelow-push : (count : ℕ) (parts : List Part) (p : Part) → AllByRecursion (λ q. q.1 < count) parts
    → p.1 < count → AllByRecursion (λ q. q.1 < count) (parts ++ p ∷ [])
AllBelow-push count [] p below h = (h, tt)
AllBelow-push count (q ∷ parts) p below h = (below.0, AllBelow-push count parts p below.1 h)

-- Walks, one after another.

pub bind_id : {A : Type 0} (r : Result A SchemaFault) → r ≡ (r >>= (λ x. Ok x))
bind_id (Ok x) = refl
bind_id (Err e) = refl

pub bind_assoc : {A B C : Type 0} (r : Result A SchemaFault) (f : A → Result B SchemaFault)
    (g : B → Result C SchemaFault) → ((r >>= f) >>= g) ≡ (r >>= (λ x. f x >>= g))
bind_assoc (Ok x) f g = refl
bind_assoc (Err e) f g = refl

-- the first name that stands twice is this one exactly where it was seen
repeats_later : (seen : List (List ℕ)) (i j : ℕ) (names : List (List ℕ)) → i < j
    → is_at (first_repeat seen j names) i ≡ false
repeats_later seen i j [] h = refl
repeats_later seen i j (name ∷ names) h =
    go (list_any (λ other. bytes_eq other name) seen)
    (repeats_later (name ∷ seen) i (j + 1) names (omega arith))
  where
    go : (b : Bool) → is_at (first_repeat (name ∷ seen) (j + 1) names) i ≡ false
        → is_at (cond b (Some j) (first_repeat (name ∷ seen) (j + 1) names)) i ≡ false
    go true rest = ne_eqb j i (omega arith)
    go false rest = rest

same_place : (i : ℕ) → eqb i i ≡ true
same_place i = eq-eqb i i refl

repeats_here : (seen : List (List ℕ)) (i : ℕ) (name : List ℕ) (names : List (List ℕ))
    → list_any (λ other. bytes_eq other name) seen ≡ is_at (first_repeat seen i (name ∷ names)) i
repeats_here seen i name names = go (list_any (λ other. bytes_eq other name) seen)
  where
    go : (b : Bool) → b ≡ is_at (cond b (Some i) (first_repeat (name ∷ seen) (i + 1) names)) i
    go true = sym (same_place i)
    go false = sym (repeats_later (name ∷ seen) i (i + 1) names (omega arith))

-- a field, and then the others
field_then : (bad taken : Bool) (name : List ℕ) (r : Result SszType SchemaFault)
    (k : List ℕ × SszType → Result Fields SchemaFault)
    → cond bad (Err BadName) (cond taken (Err FieldTaken) (r >>= (λ t. k (name, t))))
    ≡ (cond bad (Err BadName) (cond taken (Err FieldTaken) (r >>= (λ t. Ok (name, t)))) >>= k)
field_then true taken name r k = refl
field_then false true name r k = refl
field_then false false name (Ok t) k = refl
field_then false false name (Err e) k = refl

-- a field that is resolved is no repeat
fresh_field : {A : Type 0} (bad taken : Bool) (r : Result A SchemaFault) (x : A)
    → cond bad (Err BadName) (cond taken (Err FieldTaken) r) ≡ Ok x → taken ≡ false
fresh_field true taken r x e = cc
fresh_field false true r x e = cc
fresh_field false false r x e = refl

named_field : (bad taken : Bool) (name : List ℕ) (r : Result SszType SchemaFault)
    (rest : Result Fields SchemaFault) (fs : Fields) (names : List (List ℕ))
    → cond bad (Err BadName) (cond taken (Err FieldTaken)
    (r >>= (λ t. rest >>= (λ fields. Ok (field name t fields))))) ≡ Ok fs
    → ((fields : Fields) → rest ≡ Ok fields → field_names fields ≡ names)
    → field_names fs ≡ name ∷ names
named_field true taken name r rest fs names e h = cc
named_field false true name r rest fs names e h = cc
named_field false false name (Err x) rest fs names e h = cc
named_field false false name (Ok t) (Err x) fs names e h = cc
named_field false false name (Ok t) (Ok fields) fs names e h =
    sym (ap field_names (ok_is (field name t fields) fs e))
    ∙ ap (λ others. name ∷ others) (h fields refl)

-- fields that are resolved have the names that were written
pub named_fields : (format : Format) (known : List ℕ → Option SszType) (seen : List (List ℕ))
    (fields : List Written) (fs : Fields)
    → resolved_fields format known seen (field_forms (map field_form_of fields)) ≡ Ok fs
    → field_names fs ≡ names_of fields
named_fields format known seen [] fs e = sym (ap field_names (ok_is no_fields fs e))
named_fields format known seen (written ∷ fields) fs e =
    named_field (not (is_name written.0)) (list_any (λ other. bytes_eq other written.0) seen)
    written.0 (resolved format known (form_of written.1))
    (resolved_fields format known (written.0 ∷ seen) (field_forms (map field_form_of fields))) fs
    (names_of fields) e (named_fields format known (written.0 ∷ seen) fields)

module _ (old : Types) (fields : List Written) where
  abbrev known : List ℕ → Option SszType
  known = known_in old

  abbrev pub whole_walk : Result Fields SchemaFault
  whole_walk = resolved_fields old.format (known_in old) [] (field_forms (map field_form_of fields))

  -- the first i fields are resolved to these parts
  pub record FieldsFrom (now : Types) (i : ℕ) (repeat : Option ℕ) (parts : List Part) : Type 0 where
    pub seen : List (List ℕ)
    pub extends : ExtendsSchema old now
    pub below : AllByRecursion (λ p. p.1 < length now.trees) parts
    pub walk : whole_walk
        ≡ (resolved_fields old.format (known_in old) seen
        (field_forms (map field_form_of (drop i fields))) >>=
        (λ rest. Ok (fields_before now.trees parts rest)))
    pub names : first_repeat seen i (names_of (drop i fields)) ≡ repeat
    pub len : length parts ≡ i

  pub FieldsFrom-start : (repeat : Option ℕ) → repeat ≡ first_repeat [] 0 (names_of fields)
      → FieldsFrom old 0 repeat []
  FieldsFrom-start repeat e = record {
    seen = [];
    extends = Extends-refl old;
    below = tt;
    walk =
        bind_id whole_walk;
    names = sym e;
    len = refl;
  }

  -- the walk of the field, in the schema as it now is
  abbrev pub one_walk : Types → Bool → Written → Result (List ℕ × SszType) SchemaFault
  one_walk now is_repeat written =
      resolved_field now.format (known_in now) is_repeat (field_form_of written)

  -- the field has a name that was seen exactly where it is the first repeat
  seen_here : (now : Types) (i : ℕ) (repeat : Option ℕ) (parts : List Part) (written : Written)
      (is_repeat : Bool) (h : FieldsFrom now i repeat parts) → i < length fields
      → written ≡ get_or fields i written → is_repeat ≡ is_at repeat i
      → list_any (λ other. bytes_eq other written.0) h.seen ≡ is_repeat
  seen_here now i repeat parts written is_repeat h here at is =
      repeats_here h.seen i written.0 (names_of (drop (i + 1) fields))
      ∙ ap (λ place. is_at place i)
      (sym (ap (λ fs. first_repeat h.seen i (names_of fs)) (drop_at fields i written here at))
      ∙ h.names) ∙ sym is

  -- the walk from the field on, by the walk of the field
  walk_at : (now : Types) (i : ℕ) (repeat : Option ℕ) (parts : List Part) (written : Written)
      (is_repeat : Bool) → IsWhole old → (h : FieldsFrom now i repeat parts) → i < length fields
      → written ≡ get_or fields i written → is_repeat ≡ is_at repeat i
      → whole_walk ≡ (one_walk now is_repeat written >>=
      (λ p. resolved_fields old.format (known_in old) (written.0 ∷ h.seen)
      (field_forms (map field_form_of (drop (i + 1) fields))) >>=
      (λ rest. Ok (fields_before now.trees parts (field p.0 p.1 rest)))))
  walk_at now i repeat parts written is_repeat whole h here at is =
      let split = drop_at fields i written here at in
      let taken = seen_here now i repeat parts written is_repeat h here at is in
      let one : one_walk now is_repeat written ≡ resolved_field old.format (known_in old) is_repeat
      (field_form_of written) =
      ap₂ (λ format ks. resolved_field format ks is_repeat (field_form_of written)) h.extends.format
      (known_in-more old now whole h.extends) in
      h.walk
      ∙ ap (λ fs. resolved_fields old.format (known_in old) h.seen
      (field_forms (map field_form_of fs)) >>= (λ rest. Ok (fields_before now.trees parts rest)))
      split
      ∙ ap (λ r. r >>= (λ rest. Ok (fields_before now.trees parts rest)))
      (ap (λ b. cond (not (is_name written.0)) (Err BadName)
      (cond b (Err FieldTaken) (resolved old.format (known_in old) (form_of written.1) >>=
      (λ t. others h (written.0, t))))) taken
      ∙ field_then (not (is_name written.0)) is_repeat written.0
      (resolved old.format (known_in old) (form_of written.1)) (others h))
      ∙ bind_assoc (resolved_field old.format (known_in old) is_repeat (field_form_of written))
      (others h) (λ rest. Ok (fields_before now.trees parts rest))
      ∙ ap (λ next. resolved_field old.format (known_in old) is_repeat (field_form_of written) >>=
      next) (λ j p. bind_assoc (rest_walk h) (λ fs. Ok (field p.0 p.1 fs))
      (λ rest. Ok (fields_before now.trees parts rest)) j)
      ∙ ap (λ r. r >>= (λ p. rest_walk h >>=
      (λ rest. Ok (fields_before now.trees parts (field p.0 p.1 rest))))) (sym one)
    where
      rest_walk : FieldsFrom now i repeat parts → Result Fields SchemaFault
      rest_walk h = resolved_fields old.format (known_in old) (written.0 ∷ h.seen)
          (field_forms (map field_form_of (drop (i + 1) fields)))

      others : FieldsFrom now i repeat parts → List ℕ × SszType → Result Fields SchemaFault
      others h p = rest_walk h >>= (λ fs. Ok (field p.0 p.1 fs))

  -- the field is resolved, and the walk goes on behind it
  pub FieldsFrom-more : (now new : Types) (i : ℕ) (repeat : Option ℕ) (parts : List Part)
      (written : Written) (is_repeat : Bool) (part : Part) → IsWhole old
      → FieldsFrom now i repeat parts → i < length fields
      → written ≡ get_or fields i written → is_repeat ≡ is_at repeat i
      → Resolves IsField (one_walk now is_repeat written) now new (Ok part)
      → FieldsFrom new (i + 1) repeat (parts ++ part ∷ [])
  FieldsFrom-more now new i repeat parts written is_repeat part whole h here at is r =
      let q = r.answer.0 in
      let rest = resolved_fields old.format (known_in old) (written.0 ∷ h.seen)
      (field_forms (map field_form_of (drop (i + 1) fields))) in
      let goes : (fs : Fields) → fields_before now.trees parts (field r.answer.0.0 r.answer.0.1 fs)
      ≡ fields_before new.trees (parts ++ part ∷ []) fs =
      λ fs. sym (fields_before-push new.trees parts part fs
      ∙ ap₂ (λ name t. fields_before new.trees parts (field name t fs)) r.answer.2.name
      r.answer.2.is
      ∙ fields_before-more now new parts (field r.answer.0.0 r.answer.0.1 fs) r.extends h.below) in
      record {
        seen = written.0 ∷ h.seen;
        extends = Extends-trans old now new h.extends r.extends;
        below = AllBelow-push (length new.trees) parts part
            (AllBelow-more now new parts r.extends h.below) r.answer.2.known;
        walk =
            walk_at now i repeat parts written is_repeat whole h here at is
            ∙ ap (λ one. one >>= (λ p. resolved_fields old.format (known_in old)
            (written.0 ∷ h.seen) (field_forms (map field_form_of (drop (i + 1) fields))) >>=
            (λ rest. Ok (fields_before now.trees parts (field p.0 p.1 rest))))) r.answer.1
            ∙ ap (λ next. resolved_fields old.format (known_in old) (written.0 ∷ h.seen)
            (field_forms (map field_form_of (drop (i + 1) fields))) >>= next)
            (λ j fs. Ok (goes fs j));
        names =
            sym (ap (λ b. cond b (Some i) (first_repeat (written.0 ∷ h.seen) (i + 1)
            (names_of (drop (i + 1) fields))))
            (seen_here now i repeat parts written is_repeat h here at is
            ∙ fresh_field (not (is_name written.0)) is_repeat _ r.answer.0 r.answer.1))
            ∙ sym (ap (λ fs. first_repeat h.seen i (names_of fs))
            (drop_at fields i written here at)) ∙ h.names;
        len = omega (arith, length-append parts (part ∷ []), h.len);
      }

  -- the field has a fault, or memory runs out
  pub fields_stop : (now new : Types) (i : ℕ) (repeat : Option ℕ) (parts : List Part)
      (written : Written) (is_repeat : Bool) (e : SchemaError) → IsWhole old
      → FieldsFrom now i repeat parts → i < length fields
      → written ≡ get_or fields i written → is_repeat ≡ is_at repeat i
      → Resolves IsField (one_walk now is_repeat written) now new (Err e)
      → Resolves AreFieldTypes whole_walk old new (Err e)
  fields_stop now new i repeat parts written is_repeat Memory whole h here at is r =
      record { extends = Extends-trans old now new h.extends r.extends; answer = tt }
  fields_stop now new i repeat parts written is_repeat (Fault fault) whole h here at is r = record {
    extends = Extends-trans old now new h.extends r.extends;
    answer =
        walk_at now i repeat parts written is_repeat whole h here at is
        ∙ ap (λ one. one >>= (λ p. resolved_fields old.format (known_in old) (written.0 ∷ h.seen)
        (field_forms (map field_form_of (drop (i + 1) fields))) >>=
        (λ rest. Ok (fields_before now.trees parts (field p.0 p.1 rest))))) r.answer;
  }

  -- all fields are resolved
  fields_walked : (now : Types) (i : ℕ) (repeat : Option ℕ) (parts : List Part)
      → FieldsFrom now i repeat parts → length fields ≤ i
      → whole_walk ≡ Ok (fields_over now.trees parts)
  fields_walked now i repeat parts h all =
      h.walk ∙ ap (λ fs. resolved_fields old.format (known_in old) h.seen
      (field_forms (map field_form_of fs)) >>=
      (λ rest. Ok (fields_before now.trees parts rest))) (drop_all i fields all)
      ∙ ap Ok (fields_before-none now.trees parts)

  pub fields_end : (now : Types) (i : ℕ) (repeat : Option ℕ) (parts : Vec Part Global)
      → FieldsFrom now i repeat parts.items → length fields ≤ i
      → Resolves AreFieldTypes whole_walk old now (Ok parts)
  fields_end now i repeat parts h all = record {
    extends = h.extends;
    answer = (
      fields_over now.trees parts.items,
      fields_walked now i repeat parts.items h all,
      record { known = h.below; are = refl },
    );
  }

  pub record AreLegalParts (now : Types) (parts : List Part) : Type 0 where
    pub legal : AreLegalFields now.format (fields_over now.trees parts)
    pub distinct : IsDistinct bytes_eq (field_names (fields_over now.trees parts))

  pub fields_end-legal : (now : Types) (i : ℕ) (repeat : Option ℕ) (parts : List Part) → IsWhole old
      → AreAllLegal old → FieldsFrom now i repeat parts → length fields ≤ i
      → AreLegalParts now parts
  fields_end-legal now i repeat parts whole legal h all =
      let are = fields_are_legal old.format (known_in old) (known_legal old whole legal)
      (field_forms (map field_form_of fields)) (fields_over now.trees parts)
      (fields_walked now i repeat parts h all) in
      record {
        legal = subst (λ (f : Format). AreLegalFields f (fields_over now.trees parts))
            (sym h.extends.format) are.legal;
        distinct = are.distinct;
      }
