-- The options of a union, resolved one by one.
use Rattle.std.proofs.Common.{ℕ, ◌≡◌, ◌<◌, ◌≤◌, ◌+◌, Bool, true, false, eqb, List, [], ◌∷◌, ◌++◌, length, map, drop, get_or, Option, Some, None, option_map, Result, Ok, Err, Vec, Global, refl, sym, ap, ap₂, ◌∙◌, subst, arith, length-append}
use Rattle.std.specs.List.{AllByRecursion}
use Rattle.std.proofs.lemmas.List.{drop_all}
use Rattle.std.proofs.lemmas.Bool.{ne_eqb}
use Rattle.ssz_types.specs.declared.format.Format.{Format}
use Rattle.ssz_types.specs.declared.expr.TypeExpr.{TypeExpr}
use Rattle.ssz_types.specs.declared.schema_fault.SchemaFault.{SchemaFault}
use Rattle.ssz_types.specs.declared.schema_fault.SchemaError.{SchemaError}
use Rattle.ssz_types.specs.declared.schema_fault.SchemaError.TheVariants.{Fault, Memory}
use Rattle.ssz_types.specs.Types.{SszType, Options, no_options, none_option, option}
use Rattle.ssz_types.specs.Legal.{AreLegalOptions, IsNoneFirst}
use Rattle.ssz_schema.specs.Forms.{option_forms, form_of}
use Rattle.ssz_schema.specs.Walk.{◌>>=◌, resolved, resolved_options, resolved_option}
use Rattle.ssz_types.specs.Unfolding.{Types, type_tree_at, options_over, known_in, IsBelow}
use Rattle.ssz_schema.specs.Inside.{IsWhole, AreAllLegal}
use Rattle.ssz_schema.specs.Adding.{ExtendsSchema, Resolves, AreOptions, IsOption}
use Rattle.ssz_schema.proofs.WalkLemmas.{Extends-refl, Extends-trans}
use Rattle.ssz_schema.proofs.KnownLemmas.{known_in-more, known_legal, type_of-more}
use Rattle.ssz_schema.proofs.ResolvedLaw.{options_are_legal}
use Rattle.ssz_schema.proofs.WalkFields.{drop_at, bind_id, bind_assoc}

abbrev pub Written : Type 0
Written = Option TypeExpr

abbrev one_before : Option SszType → Options → Options
one_before None rest = none_option rest
one_before (Some t) rest = option t rest

-- options that are there, before others
abbrev pub options_before : List SszType → List (Option ℕ) → Options → Options
options_before trees [] rest = rest
options_before trees (id ∷ ids) rest =
    one_before (option_map (type_tree_at trees) id) (options_before trees ids rest)

options_before-push : (trees : List SszType) (ids : List (Option ℕ)) (id : Option ℕ)
    (rest : Options) → options_before trees (ids ++ id ∷ []) rest
    ≡ options_before trees ids (one_before (option_map (type_tree_at trees) id) rest)
options_before-push trees [] id rest = refl
options_before-push trees (other ∷ ids) id rest =
    ap (one_before (option_map (type_tree_at trees) other)) (options_before-push trees ids id rest)

options_before-none : (trees : List SszType) (ids : List (Option ℕ))
    → options_before trees ids no_options ≡ options_over trees ids
options_before-none trees [] = refl
options_before-none trees (None ∷ ids) = ap none_option (options_before-none trees ids)
options_before-none trees (Some id ∷ ids) =
    ap (option (type_tree_at trees id)) (options_before-none trees ids)

options_before-more : (old new : Types) (ids : List (Option ℕ)) (rest : Options)
    → ExtendsSchema old new
    → AllByRecursion (IsBelow (length old.trees)) ids
    → options_before new.trees ids rest ≡ options_before old.trees ids rest
options_before-more old new [] rest h below = refl
options_before-more old new (None ∷ ids) rest h below =
    ap none_option (options_before-more old new ids rest h below.1)
options_before-more old new (Some id ∷ ids) rest h below =
    ap₂ option (type_of-more old new id h below.0) (options_before-more old new ids rest h below.1)

AllBelow-more : (old new : Types) (ids : List (Option ℕ)) → ExtendsSchema old new
    → AllByRecursion (IsBelow (length old.trees)) ids
    → AllByRecursion (IsBelow (length new.trees)) ids
AllBelow-more old new [] h below = tt
AllBelow-more old new (None ∷ ids) h below = (tt, AllBelow-more old new ids h below.1)
AllBelow-more old new (Some id ∷ ids) h below = (
  omega (arith, below.0, ap length h.trees, length-append old.trees h.more),
  AllBelow-more old new ids h below.1,
)

AllBelow-push : (count : ℕ) (ids : List (Option ℕ)) (id : Option ℕ)
    → AllByRecursion (IsBelow count) ids → IsBelow count id
    → AllByRecursion (IsBelow count) (ids ++ id ∷ [])
AllBelow-push count [] id below h = (h, tt)
AllBelow-push count (other ∷ ids) id below h = (below.0, AllBelow-push count ids id below.1 h)

-- an option, and then the others
option_then : (old : Types) (first : Bool) (written : Written) (rest : List Written)
    → resolved_options old.format (known_in old) first
    (option_forms (map (option_map form_of) (written ∷ rest)))
    ≡ (resolved_option old.format (known_in old) first (option_map form_of written) >>=
    (λ q. resolved_options old.format (known_in old) false
    (option_forms (map (option_map form_of) rest)) >>= (λ os. Ok (one_before q os))))
option_then old true None rest = refl
option_then old false None rest = refl
option_then old first (Some expr) rest = go (resolved old.format (known_in old) (form_of expr))
  where
    go : (r : Result SszType SchemaFault)
        → (r >>= (λ t. resolved_options old.format (known_in old) false
        (option_forms (map (option_map form_of) rest)) >>= (λ os. Ok (option t os))))
        ≡ ((r >>= (λ t. Ok (Some t))) >>=
        (λ q. resolved_options old.format (known_in old) false
        (option_forms (map (option_map form_of) rest)) >>= (λ os. Ok (one_before q os))))
    go (Ok t) = refl
    go (Err e) = refl

module _ (old : Types) (options : List Written) where
  -- of the options that are left, the first is the union's first where none is done
  abbrev walk_from : Bool → List Written → Result Options SchemaFault
  walk_from first left = resolved_options old.format (known_in old) first
      (option_forms (map (option_map form_of) left))

  abbrev pub whole_walk : Result Options SchemaFault
  whole_walk = walk_from true options

  -- the first i options are resolved to these
  pub record OptionsFrom (now : Types) (i : ℕ) (ids : List (Option ℕ)) : Type 0 where
    pub extends : ExtendsSchema old now
    pub below : AllByRecursion (IsBelow (length now.trees)) ids
    pub walk : whole_walk ≡ (walk_from (eqb i 0) (drop i options) >>=
        (λ rest. Ok (options_before now.trees ids rest)))
    pub len : length ids ≡ i

  pub OptionsFrom-start : OptionsFrom old 0 []
  OptionsFrom-start = record {
    extends = Extends-refl old;
    below = tt;
    walk =
        bind_id whole_walk;
    len = refl;
  }

  -- the walk of the option, in the schema as it now is
  abbrev pub one_walk : Types → Bool → Written → Result (Option SszType) SchemaFault
  one_walk now first written = resolved_option now.format (known_in now) first
      (option_map form_of written)

  -- the walk from the option on, by the walk of the option
  walk_at : (now : Types) (i : ℕ) (ids : List (Option ℕ)) (written : Written) → IsWhole old
      → OptionsFrom now i ids → i < length options → written ≡ get_or options i written
      → whole_walk ≡ (one_walk now (eqb i 0) written >>=
      (λ q. walk_from false (drop (i + 1) options) >>=
      (λ rest. Ok (options_before now.trees ids (one_before q rest)))))
  walk_at now i ids written whole h here at =
      let one : one_walk now (eqb i 0) written ≡ resolved_option old.format (known_in old) (eqb i 0)
      (option_map form_of written) =
      ap₂ (λ format ks. resolved_option format ks (eqb i 0) (option_map form_of written))
      h.extends.format (known_in-more old now whole h.extends) in
      h.walk
      ∙ ap (λ left. walk_from (eqb i 0) left >>= (λ rest. Ok (options_before now.trees ids rest)))
      (drop_at options i written here at)
      ∙ ap (λ r. r >>= (λ rest. Ok (options_before now.trees ids rest)))
      (option_then old (eqb i 0) written (drop (i + 1) options))
      ∙ bind_assoc (resolved_option old.format (known_in old) (eqb i 0)
      (option_map form_of written)) (λ q. walk_from false (drop (i + 1) options) >>=
      (λ os. Ok (one_before q os))) (λ rest. Ok (options_before now.trees ids rest))
      ∙ ap (λ next. resolved_option old.format (known_in old) (eqb i 0) (option_map form_of written)
      >>= next)
      (λ j q. bind_assoc (walk_from false (drop (i + 1) options)) (λ os. Ok (one_before q os))
      (λ rest. Ok (options_before now.trees ids rest)) j)
      ∙ ap (λ r. r >>= (λ q. walk_from false (drop (i + 1) options) >>=
      (λ rest. Ok (options_before now.trees ids (one_before q rest))))) (sym one)

  -- the option is resolved, and the walk goes on behind it
  pub OptionsFrom-more : (now new : Types) (i : ℕ) (ids : List (Option ℕ)) (written : Written)
      (id : Option ℕ) → IsWhole old → OptionsFrom now i ids → i < length options
      → written ≡ get_or options i written
      → Resolves IsOption (one_walk now (eqb i 0) written) now new (Ok id)
      → OptionsFrom new (i + 1) (ids ++ id ∷ [])
  OptionsFrom-more now new i ids written id whole h here at r =
      let goes : (os : Options) → options_before now.trees ids (one_before r.answer.0 os)
      ≡ options_before new.trees (ids ++ id ∷ []) os =
      λ os. sym (options_before-push new.trees ids id os
      ∙ ap (λ q. options_before new.trees ids (one_before q os)) r.answer.2.is
      ∙ options_before-more now new ids (one_before r.answer.0 os) r.extends h.below) in
      let later : eqb (i + 1) 0 ≡ false = ne_eqb (i + 1) 0 (omega arith) in
      record {
        extends = Extends-trans old now new h.extends r.extends;
        below = AllBelow-push (length new.trees) ids id
            (AllBelow-more now new ids r.extends h.below) r.answer.2.known;
        walk =
            walk_at now i ids written whole h here at
            ∙ ap (λ one. one >>= (λ q. walk_from false (drop (i + 1) options) >>=
            (λ rest. Ok (options_before now.trees ids (one_before q rest))))) r.answer.1
            ∙ ap (λ next. walk_from false (drop (i + 1) options) >>= next) (λ j os. Ok (goes os j))
            ∙ ap (λ b. walk_from b (drop (i + 1) options) >>=
            (λ rest. Ok (options_before new.trees (ids ++ id ∷ []) rest))) (sym later);
        len = omega (arith, length-append ids (id ∷ []), h.len);
      }

  -- the option has a fault, or memory runs out
  pub options_stop : (now new : Types) (i : ℕ) (ids : List (Option ℕ)) (written : Written)
      (e : SchemaError) → IsWhole old → OptionsFrom now i ids → i < length options
      → written ≡ get_or options i written
      → Resolves IsOption (one_walk now (eqb i 0) written) now new (Err e)
      → Resolves AreOptions whole_walk old new (Err e)
  options_stop now new i ids written Memory whole h here at r =
      record { extends = Extends-trans old now new h.extends r.extends; answer = tt }
  options_stop now new i ids written (Fault fault) whole h here at r = record {
    extends = Extends-trans old now new h.extends r.extends;
    answer =
        walk_at now i ids written whole h here at
        ∙ ap (λ one. one >>= (λ q. walk_from false (drop (i + 1) options) >>=
        (λ rest. Ok (options_before now.trees ids (one_before q rest))))) r.answer;
  }

  -- all options are resolved
  options_walked : (now : Types) (i : ℕ) (ids : List (Option ℕ)) → OptionsFrom now i ids
      → length options ≤ i → whole_walk ≡ Ok (options_over now.trees ids)
  options_walked now i ids h all =
      h.walk ∙ ap (λ left. walk_from (eqb i 0) left >>=
      (λ rest. Ok (options_before now.trees ids rest))) (drop_all i options all)
      ∙ ap Ok (options_before-none now.trees ids)

  pub options_end : (now : Types) (i : ℕ) (ids : Vec (Option ℕ) Global)
      → OptionsFrom now i ids.items → length options ≤ i
      → Resolves AreOptions whole_walk old now (Ok ids)
  options_end now i ids h all = record {
    extends = h.extends;
    answer = (
      options_over now.trees ids.items,
      options_walked now i ids.items h all,
      record { known = h.below; are = refl },
    );
  }

  pub record AreLegalIds (now : Types) (ids : List (Option ℕ)) : Type 0 where
    pub legal : AreLegalOptions now.format (options_over now.trees ids)
    pub place : IsNoneFirst (options_over now.trees ids)

  pub options_end-legal : (now : Types) (i : ℕ) (ids : List (Option ℕ)) → IsWhole old
      → AreAllLegal old → OptionsFrom now i ids → length options ≤ i → AreLegalIds now ids
  options_end-legal now i ids whole legal h all =
      let are = options_are_legal old.format (known_in old) (known_legal old whole legal)
      (option_forms (map (option_map form_of) options)) (options_over now.trees ids)
      (options_walked now i ids h all) in
      record {
        legal = subst (λ (f : Format). AreLegalOptions f (options_over now.trees ids))
            (sym h.extends.format) are.legal;
        place = are.place;
      }
