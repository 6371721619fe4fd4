-- Where the words of a command have no fault, each argument that is required or has a default has a
-- value.
use Rattle.std.proofs.Common.{◌≡◌, ◌≤◌, ◌&&◌, ◌||◌, ◌⊎◌, ℕ, Bool, true, false, List, [], ◌∷◌, Some}
use Rattle.std.proofs.Common.{None, cond, inl, inr, refl, ap, subst, ◌∙◌, arith}
use Rattle.std.specs.Prelude.{find, fold, not}
use Rattle.std.specs.List.{AllByRecursion}
use Rattle.std.specs.Str.{bytes_eq}
use Rattle.std.proofs.lemmas.Slice.Eq.{bytes_eq-Decides}
use Rattle.clap.specs.Facts.{parser_of_value}
use Rattle.clap.specs.Faults.{level_fault, given_default_fault, default_fault, defaults_fault}
use Rattle.clap.specs.Faults.{settle_fault, values_fault, walk_fault}
use Rattle.clap.specs.Kinds.{check_kinds, request_kinds}
use Rattle.clap.specs.Simple.{Shape}
use Rattle.clap.specs.Values.{read_as}
use Rattle.clap.specs.Takes.{is_given, value_passes, values_pass}
use Rattle.clap.specs.Walk.{all_of, finished, first_of, nothing_held, one_of, rows_after, walk}
use Rattle.clap.specs.Walk.{walk_from, default_rows, is_empty, Names, Row, Rule, Text, action_of}
use Rattle.clap.specs.Walk.{arg_by_id, arg_by_short, has_row, reading_by, settled, with_default}
use Rattle.clap.specs.declared.parser.matches.ValueSource.TheVariants.{DefaultValue}
use Rattle.ssz_words.proofs.ReadRows.{AreRead, AreRead-with_values, IsReadRow, IsValueRule}
use Rattle.ssz_words.proofs.ReadRows.{or_else-both, values_pass-from}
use Rattle.ssz_words.proofs.ReadWalks.{AreRead-settled, AreRead-walk}
use Rattle.ssz_words.proofs.RowLemmas.{defaults_there, given_row, required_given, row_there}

-- the argument has a value, which its parser takes, and which is read as its parser says
pub record HasValue (a : Rule) (rows : List Row) : Type 0 where
  pub value_of : Text
  pub others : List Text
  pub all : all_of a.id rows ≡ Some (value_of ∷ others)
  pub first : first_of a.id rows ≡ Some value_of
  pub passes : value_passes a value_of ≡ true
  pub one : one_of a.id rows ≡ Some (read_as (reading_by a) value_of)

third : (x y z : Bool) → check_kinds x y z ≡ [] → z ≡ false
third true y z e = cc
third false true z e = cc
third false false true e = cc
third false false false e = refl

not_negated : (n l : Bool) → (not (n && false) && l) ≡ false → l ≡ false
not_negated true l e = e
not_negated false l e = e

module _ (s : Shape) (rules : AllByRecursion (IsValueRule s.rules) s.rules)
    (no_short : (x : ℕ) → arg_by_short s.rules x ≡ None) (ns : Names) where
  AreRead-with_default : (a : Rule) → IsValueRule s.rules a → (rows : List Row)
      → default_fault rows a ≡ [] → AreRead s.rules rows → AreRead s.rules (with_default rows a)
  AreRead-with_default a rule rows none ok = go (has_row a.id rows) none a.defaults refl
    where
      give : (vs : List Text) → given_default_fault a vs ≡ []
          → AreRead s.rules (default_rows a.id (reading_by a) vs rows)
      give [] n = ok
      give (v ∷ vs) n = AreRead-with_values s.rules a.id (reading_by a) DefaultValue v vs rows
          (λ b e.
          let same : a ≡ b = own_is b e in
          subst (λ (x : Rule). values_pass x (v ∷ vs) ≡ true) same
          (values_pass-from a.ignore_case (parser_of_value a.parser) (v ∷ vs)
          (or_else-both (request_kinds (action_of a)) (values_fault a (v ∷ vs)) n).1))
          (λ b e.
          let same : a ≡ b = own_is b e in
          ap reading_by same) ok
        where
          own_is : (b : Rule) → arg_by_id s.rules a.id ≡ Some b → a ≡ b
          own_is b e =
              let own = rule.own in
              cc

      go : (b : Bool)
          → cond (b || is_empty a.defaults) [] (given_default_fault a a.defaults) ≡ []
          → (vs : List Text) → a.defaults ≡ vs
          → AreRead s.rules (cond b rows (default_rows a.id (reading_by a) a.defaults rows))
      go true n vs is = ok
      go false n [] is = rw is ok
      go false n (v ∷ vs) is = give a.defaults (rw (some_left v vs is) at n)
        where
          some_left : (v : Text) (vs : List Text) → a.defaults ≡ v ∷ vs
              → is_empty a.defaults ≡ false
          some_left v vs e = rw e (grind arith)

  AreRead-defaults : (rs : List Rule) → AllByRecursion (IsValueRule s.rules) rs
      → (rows : List Row) → defaults_fault rows rs ≡ [] → AreRead s.rules rows
      → AreRead s.rules (fold with_default rows rs)
  unfolding defaults_fault
  AreRead-defaults [] all rows none ok = ok
  AreRead-defaults (a ∷ rs) all rows none ok =
      let parts = or_else-both (default_fault rows a) (defaults_fault (with_default rows a) rs)
      none in
      AreRead-defaults rs all.1 (with_default rows a) parts.1
      (AreRead-with_default a all.0 rows parts.0 ok)

  row_found : (id : Text) (rows : List Row) (r : Row) → AreRead s.rules rows
      → find (λ x. bytes_eq x.id id) rows ≡ Some r → IsReadRow s.rules r × (r.id ≡ id)
  row_found id [] r ok is = cc
  row_found id (x ∷ xs) r ok is = go (bytes_eq x.id id) refl is (row_found id xs r ok.1)
    where
      go : (b : Bool) → bytes_eq x.id id ≡ b
          → cond (bytes_eq x.id id) (Some x) (find (λ y. bytes_eq y.id id) xs) ≡ Some r
          → (find (λ y. bytes_eq y.id id) xs ≡ Some r → IsReadRow s.rules r × (r.id ≡ id))
          → IsReadRow s.rules r × (r.id ≡ id)
      go true e h later =
          let found = rw e at h in
          let same : x ≡ r = cc in
          subst (λ (y : Row). IsReadRow s.rules y × (y.id ≡ id)) same
          (ok.0, (bytes_eq-Decides x.id id).0 e)
      go false e h later = later (rw e at h)

  value_in : (a : Rule) → IsValueRule s.rules a → (rows : List Row) → AreRead s.rules rows
      → (r : Row) → find (λ x. bytes_eq x.id a.id) rows ≡ Some r → HasValue a rows
  value_in a rule rows ok r is = go r.values refl
    where
      row : IsReadRow s.rules r × (r.id ≡ a.id)
      row = row_found a.id rows r ok is

      own : arg_by_id s.rules r.id ≡ Some a
      own = ap (arg_by_id s.rules) row.1 ∙ rule.own

      go : (vs : List Text) → r.values ≡ vs → HasValue a rows
      go [] e =
          let some = row.0.has_value in
          let none : 1 ≤ 0 = rw e at some in
          absurd (omega arith)
      go (v ∷ vs) e =
          let all : values_pass a (v ∷ vs) ≡ true = rw e at (row.0.passes a own) in
          record {
            value_of = v;
            others = vs;
            all = rw (is, e) refl;
            first = rw (is, e) refl;
            passes = left (value_passes a v) (values_pass a vs) all;
            one = rw (is, e, row.0.reads a own) refl;
          }
        where
          left : (x y : Bool) → (x && y) ≡ true → x ≡ true
          left true y h = refl
          left false y h = cc

  joined : (rs : List Rule) (rows : List Row) → AreRead s.rules rows
      → AllByRecursion (IsValueRule s.rules) rs
      → AllByRecursion (λ a. a.required ≡ true → is_given a.id rows ≡ true) rs
      → AllByRecursion (λ a. is_empty a.defaults ≡ false → has_row a.id rows ≡ true) rs
      → AllByRecursion (λ a. (a.required ≡ true) ⊎ (is_empty a.defaults ≡ false)
      → HasValue a rows) rs
  joined [] rows ok all given there = tt
  joined (a ∷ rs) rows ok all given there = (
    λ why. elim why [
      | inl required ↦
          let r = given_row a.id rows (given.0 required) in
          value_in a all.0 rows ok r.0 r.1
      | inr default ↦
          let r = row_there a.id rows (there.0 default) in
          value_in a all.0 rows ok r.0 r.1
    ],
    joined rs rows ok all.1 given.1 there.1,
  )

  -- where the words have no fault, each argument that is required or has a default has a value
  pub all_present : (words : List Text) → level_fault s ns nothing_held words false [] ≡ []
      → AllByRecursion (λ a. (a.required ≡ true) ⊎ (is_empty a.defaults ≡ false)
      → HasValue a (rows_after s.rules ns words)) s.rules
  all_present words none =
      let end = (walk s.rules ns nothing_held words).held in
      let walked_parts = or_else-both (walk_fault s ns (walk_from nothing_held) words) _ none in
      let settled_parts = or_else-both (settle_fault s.rules s.args_override_self end) _
      walked_parts.1 in
      let defaults_parts = or_else-both (defaults_fault (settled s.rules end).rows s.rules) _
      settled_parts.1 in
      let walk_rows = AreRead-walk s.rules rules no_short s ns words (walk_from nothing_held)
      walked_parts.0 tt in
      let rows = AreRead-defaults s.rules rules (settled s.rules end).rows defaults_parts.0
      (AreRead-settled s.rules rules no_short s.args_override_self end settled_parts.0
      walk_rows) in
      joined s.rules (finished s.rules end) rows rules
      (required_given s.rules (finished s.rules end)
      (not_negated s.subcommand_negates_reqs _ (third _ _ _ defaults_parts.1)))
      (defaults_there s.rules (settled s.rules end).rows)
