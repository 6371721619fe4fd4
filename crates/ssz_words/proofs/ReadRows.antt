-- What a parse finds for arguments that take values: where a use has no fault, its values are such
-- as the argument's parser takes.
use Rattle.std.proofs.Common.{◌≡◌, ◌≤◌, ◌&&◌, ◌⊎◌, ℕ, zero, suc, Bool, true, false, List, [], ◌∷◌}
use Rattle.std.proofs.Common.{◌++◌, length, Some, cond, inl, inr, refl, sym, ap, subst, ◌∙◌, arith}
use Rattle.std.proofs.Common.{length-append}
use Rattle.std.specs.Prelude.{find, nat_lt}
use Rattle.std.specs.List.{AllByRecursion, list_all}
use Rattle.std.specs.Str.{bytes_eq}
use Rattle.std.proofs.lemmas.Bool.{lt-ltb}
use Rattle.std.proofs.lemmas.List.Folds.{list_all-append}
use Rattle.std.proofs.lemmas.Slice.Eq.{bytes_eq-Decides}
use Rattle.clap.specs.Facts.{parser_of_value, unwrap_or_range}
use Rattle.clap.specs.Faults.{action_fault, set_fault, use_fault, values_fault}
use Rattle.clap.specs.Kinds.{Kinds, or_else, range_kinds, value_kinds, values_kinds}
use Rattle.clap.specs.Takes.{value_passes, values_pass}
use Rattle.clap.specs.ValueTests.{accepts}
use Rattle.clap.specs.Walk.{Row, Rule, Text, action_of, arg_by_id, at_row, more_values, reading_by}
use Rattle.clap.specs.Walk.{used, used_as, with_values, without}
use Rattle.clap.specs.declared.builder.action.ArgAction.{ArgAction}
use Rattle.clap.specs.declared.builder.action.ArgAction.TheVariants.{Set, Append}
use Rattle.clap.specs.declared.builder.value_parser.Reading.{Reading}
use Rattle.clap.specs.declared.builder.value_parser.ValueParser.{ValueParser}
use Rattle.clap.specs.declared.parser.matches.ValueSource.{ValueSource}
use Rattle.clap.specs.declared.parser.matches.ValueSource.TheVariants.{CommandLine}

-- ---- faults

pub or_else-both : (ks ls : Kinds) → or_else ks ls ≡ [] → (ks ≡ []) × (ls ≡ [])
or_else-both [] ls e = (refl, e)
or_else-both (k ∷ ks) ls e = cc

pub values_pass-from : (i : Bool) (p : ValueParser) (vs : List Text) → values_kinds i p vs ≡ []
    → list_all (accepts i p) vs ≡ true
values_pass-from i p [] e = refl
values_pass-from i p (v ∷ vs) e =
    let parts = or_else-both (value_kinds i p v) (values_kinds i p vs) e in
    go (accepts i p v) refl parts.0 (values_pass-from i p vs parts.1)
  where
    go : (b : Bool) → accepts i p v ≡ b → value_kinds i p v ≡ []
        → list_all (accepts i p) vs ≡ true → (accepts i p v && list_all (accepts i p) vs) ≡ true
    go true is none rest = rw is rest
    go false is none rest =
        let bad = rw is at none in
        cc

filled : (least most n : ℕ) → 1 ≤ least → range_kinds least most n ≡ [] → 1 ≤ n
filled least most zero some e =
    let yes : nat_lt 0 least ≡ true = lt-ltb 0 least (omega arith) in
    let bad = rw yes at e in
    cc
filled least most (suc n) some e = omega arith

-- what holds of each element holds of the first that passes a test
pub find_in : {X : Type 0} (P : X → Type 0) (p : X → Bool) (xs : List X) (a : X)
    → AllByRecursion P xs → find p xs ≡ Some a → P a
find_in P p [] a all is = cc
find_in P p (x ∷ xs) a all is = go (p x) refl is (find_in P p xs a all.1)
  where
    go : (b : Bool) → p x ≡ b → cond (p x) (Some x) (find p xs) ≡ Some a
        → (find p xs ≡ Some a → P a) → P a
    go true e h later =
        let found = rw e at h in
        let same : x ≡ a = cc in
        subst P same all.0
    go false e h later = later (rw e at h)

module _ (c : List Rule) where
  -- an argument that takes a value or more, by which its id is found
  pub record IsValueRule (a : Rule) : Type 0 where
    pub least : 1 ≤ (unwrap_or_range a.range).start_inclusive
    pub action : (action_of a ≡ Set) ⊎ (action_of a ≡ Append)
    pub own : arg_by_id c a.id ≡ Some a

  -- a row has a value, and its argument's parser takes each
  pub record IsReadRow (r : Row) : Type 0 where
    pub has_value : 1 ≤ length r.values
    pub passes : (a : Rule) → arg_by_id c r.id ≡ Some a → values_pass a r.values ≡ true
    pub reads : (a : Rule) → arg_by_id c r.id ≡ Some a → r.reading ≡ reading_by a

  abbrev pub AreRead : List Row → Type 0
  AreRead = AllByRecursion IsReadRow

  AreRead-append : (xs ys : List Row) → AreRead xs → AreRead ys → AreRead (xs ++ ys)
  AreRead-append [] ys h k = k
  AreRead-append (x ∷ xs) ys h k = (h.0, AreRead-append xs ys h.1 k)

  AreRead-at_row : (id : Text) (change : Row → List Row) (missing rows : List Row)
      → ((r : Row) → r.id ≡ id → IsReadRow r → AreRead (change r)) → AreRead missing
      → AreRead rows
      → AreRead (at_row id change missing rows)
  AreRead-at_row id change missing [] step last h = last
  AreRead-at_row id change missing (r
      ∷ rs) step last h = go (bytes_eq r.id id) refl
      (AreRead-at_row id change missing rs step last h.1)
    where
      go : (b : Bool) → bytes_eq r.id id ≡ b → AreRead (at_row id change missing rs)
          → AreRead (cond (bytes_eq r.id id) (change r ++ rs) (r ∷ at_row id change missing rs))
      go true e later = rw e
          (AreRead-append (change r) rs (step r ((bytes_eq-Decides r.id id).0 e) h.0) h.1)
      go false e later = rw e (h.0, later)

  AreRead-without : (id : Text) (rows : List Row) → AreRead rows → AreRead (without id rows)
  AreRead-without id rows h = AreRead-at_row id (λ _. []) [] rows (λ r e k. tt) tt h

  pub AreRead-with_values : (id : Text) (how : Reading) (s : ValueSource) (v : Text)
      (vs : List Text) (rows : List Row)
      → ((a : Rule) → arg_by_id c id ≡ Some a → values_pass a (v ∷ vs) ≡ true)
      → ((a : Rule) → arg_by_id c id ≡ Some a → how ≡ reading_by a)
      → AreRead rows → AreRead (with_values id how s (v ∷ vs) rows)
  AreRead-with_values id how s v vs rows passes reads h =
      AreRead-at_row id (more_values s (v ∷ vs)) _ rows more
      (record { has_value = omega arith; passes = passes; reads = reads }, tt) h
    where
      more : (r : Row) → r.id ≡ id → IsReadRow r → AreRead (more_values s (v ∷ vs) r)
      more r is ok = (
        record {
          has_value = omega (arith, length-append r.values (v ∷ vs), ok.has_value);
          passes = λ a e.
              let mine : values_pass a r.values ≡ true = ok.passes a e in
              let new : values_pass a (v ∷ vs)
              ≡ true = passes a (ap (arg_by_id c) (sym is) ∙ e) in
              list_all-append (value_passes a) r.values (v ∷ vs) ∙ rw (mine, new) refl;
          reads = ok.reads;
        },
        tt,
      )

  -- ---- one use of an argument

  AreRead-used_as : (k : ArgAction) → (k ≡ Set) ⊎ (k ≡ Append)
      → (again : Bool) (a : Rule) (v : Text) (vs : List Text) (rows : List Row)
      → arg_by_id c a.id ≡ Some a
      → action_fault k again a (v ∷ vs) rows ≡ [] → AreRead rows
      → AreRead (used_as k a.id (reading_by a) (v ∷ vs) rows)
  AreRead-used_as k kind again a v vs rows own none h = elim kind [
    | inl is ↦
        let set : set_fault again a (v ∷ vs) rows ≡ [] = rw is at none in
        let passes = values_pass-from a.ignore_case (parser_of_value a.parser) (v
        ∷ vs) (or_else-both _ (values_fault a (v ∷ vs)) set).1 in
        rw is (AreRead-with_values a.id (reading_by a) CommandLine v vs (without a.id rows)
        (taken passes) own_reading (AreRead-without a.id rows h))
    | inr is ↦
        let append : values_fault a (v ∷ vs) ≡ [] = rw is at none in
        let passes = values_pass-from a.ignore_case (parser_of_value a.parser) (v ∷ vs) append in
        rw is (AreRead-with_values a.id (reading_by a) CommandLine v vs rows (taken passes)
        own_reading h)
  ]
    where
      own_reading : (b : Rule) → arg_by_id c a.id ≡ Some b → reading_by a ≡ reading_by b
      own_reading b e =
          let same : a ≡ b = cc in
          ap reading_by same

      taken : values_pass a (v ∷ vs) ≡ true → (b : Rule) → arg_by_id c a.id ≡ Some b
          → values_pass b (v ∷ vs) ≡ true
      taken passes b e =
          let same : a ≡ b = cc in
          subst (λ (x : Rule). values_pass x (v ∷ vs) ≡ true) same passes

  pub AreRead-used : (again : Bool) (a : Rule) (values : List Text) (rows : List Row)
      → IsValueRule a → use_fault again a values rows ≡ [] → AreRead rows
      → AreRead (used a values rows)
  AreRead-used again a [] rows ok none h = absurd
      (nothing (filled _ _ 0 ok.least
      (or_else-both _ (action_fault (action_of a) again a a.missing rows) none).0))
    where
      nothing : 1 ≤ 0 → ⊥
      nothing e = omega arith
  AreRead-used again a (v ∷ vs) rows ok none h =
      AreRead-used_as (action_of a) ok.action again a v vs rows ok.own
      (or_else-both
      (range_kinds (unwrap_or_range a.range).start_inclusive _ (length (v ∷ vs))) _
      none).1 h
