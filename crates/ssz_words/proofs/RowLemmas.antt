-- Which arguments have a row at the end of a parse.
use Rattle.std.proofs.Common.{◌≡◌, ◌&&◌, ◌||◌, Bool, true, false, List, [], ◌∷◌, ◌++◌, Option, Some}
use Rattle.std.proofs.Common.{None, cond, refl}
use Rattle.std.specs.Prelude.{find, fold, not}
use Rattle.std.specs.Option.{option_map_or}
use Rattle.std.specs.List.{AllByRecursion, list_any}
use Rattle.std.specs.Str.{bytes_eq}
use Rattle.std.proofs.lemmas.Slice.Eq.{bytes_eq-Decides}
use Rattle.clap.specs.Facts.{explicit_source}
use Rattle.clap.specs.Takes.{is_given}
use Rattle.clap.specs.Walk.{default_rows, is_empty, Row, Rule, Text, at_row, has_row, more_values}
use Rattle.clap.specs.Walk.{reading_by, with_default}
use Rattle.clap.specs.declared.parser.matches.ValueSource.{ValueSource}
use Rattle.clap.specs.declared.parser.matches.ValueSource.TheVariants.{DefaultValue}

-- an argument that was given has a row, and so has one with a default
pub given_row : (id : Text) (rows : List Row) → is_given id rows ≡ true → (r : Row)
    × (find (λ x. bytes_eq x.id id) rows ≡ Some r)
given_row id rows e = go (find (λ x. bytes_eq x.id id) rows) refl e
  where
    go : (o : Option Row) → find (λ x. bytes_eq x.id id) rows ≡ o
        → option_map_or (λ r. explicit_source r.source) o false ≡ true
        → (r : Row) × (find (λ x. bytes_eq x.id id) rows ≡ Some r)
    go None is h = cc
    go (Some r) is h = (r, is)

pub row_there : (id : Text) (rows : List Row) → has_row id rows ≡ true → (r : Row)
    × (find (λ x. bytes_eq x.id id) rows ≡ Some r)
row_there id [] e = cc
row_there id (x ∷ xs) e = go (bytes_eq x.id id) refl e (row_there id xs)
  where
    go : (b : Bool) → bytes_eq x.id id ≡ b → (bytes_eq x.id id || has_row id xs) ≡ true
        → (has_row id xs ≡ true → (r : Row) × (find (λ y. bytes_eq y.id id) xs ≡ Some r))
        → (r : Row)
        × (cond (bytes_eq x.id id) (Some x) (find (λ y. bytes_eq y.id id) xs) ≡ Some r)
    go true is h later = (x, rw is refl)
    go false is h later =
        let found = later (rw is at h) in
        (found.0, rw is found.1)

or_right : (a b : Bool) → b ≡ true → (a || b) ≡ true
or_right true b e = refl
or_right false b e = e

at_row_keeps : (id own : Text) (s' : ValueSource) (vs : List Text) (missing rows : List Row)
    → has_row id rows ≡ true
    → has_row id (at_row own (more_values s' vs) missing rows) ≡ true
at_row_keeps id own s' vs missing [] e = cc
at_row_keeps id own s' vs missing (r ∷ rs) e =
    go (bytes_eq r.id own) refl (at_row_keeps id own s' vs missing rs)
  where
    go : (b : Bool) → bytes_eq r.id own ≡ b
        → (has_row id rs ≡ true → has_row id (at_row own (more_values s' vs) missing rs) ≡ true)
        → has_row id
        (cond (bytes_eq r.id own) (more_values s' vs r ++ rs)
        (r ∷ at_row own (more_values s' vs) missing rs)) ≡ true
    go true is later = rw is e
    go false is later = rw is (here (bytes_eq r.id id) e)
      where
        here : (b : Bool) → (b || has_row id rs) ≡ true
            → (b || has_row id (at_row own (more_values s' vs) missing rs)) ≡ true
        here true h = refl
        here false h = later h

at_row_has : (id : Text) (s' : ValueSource) (vs : List Text) (new : Row) (rows : List Row)
    → bytes_eq new.id id ≡ true
    → has_row id (at_row id (more_values s' vs) (new ∷ []) rows) ≡ true
at_row_has id s' vs new [] e = rw e refl
at_row_has id s' vs new (r ∷ rs) e = go (bytes_eq r.id id) refl (at_row_has id s' vs new rs e)
  where
    go : (b : Bool) → bytes_eq r.id id ≡ b
        → has_row id (at_row id (more_values s' vs) (new ∷ []) rs) ≡ true
        → has_row id
        (cond (bytes_eq r.id id) (more_values s' vs r ++ rs)
        (r ∷ at_row id (more_values s' vs) (new ∷ []) rs)) ≡ true
    go true is later = rw (is, is) refl
    go false is later = rw is (or_right (bytes_eq r.id id) _ later)

default_keeps : (id : Text) (a : Rule) (rows : List Row) → has_row id rows ≡ true
    → has_row id (with_default rows a) ≡ true
default_keeps id a rows e = go (has_row a.id rows) a.defaults
  where
    go : (b : Bool) (vs : List Text)
        → has_row id (cond b rows (default_rows a.id (reading_by a) vs rows)) ≡ true
    go true vs = e
    go false [] = e
    go false (v ∷ vs) = at_row_keeps id a.id DefaultValue (v ∷ vs) _ rows e

default_has : (a : Rule) (rows : List Row) → is_empty a.defaults ≡ false
    → has_row a.id (with_default rows a) ≡ true
default_has a rows some = go (has_row a.id rows) refl a.defaults some
  where
    go : (b : Bool) → has_row a.id rows ≡ b → (vs : List Text) → is_empty vs ≡ false
        → has_row a.id (cond b rows (default_rows a.id (reading_by a) vs rows)) ≡ true
    go true is vs n = is
    go false is [] n = cc
    go false is (v ∷ vs) n = at_row_has a.id DefaultValue (v
        ∷ vs) _ rows ((bytes_eq-Decides a.id a.id).1 refl)

defaults_keep : (id : Text) (rs : List Rule) (rows : List Row) → has_row id rows ≡ true
    → has_row id (fold with_default rows rs) ≡ true
defaults_keep id [] rows e = e
defaults_keep id (a ∷ rs) rows e =
    defaults_keep id rs (with_default rows a) (default_keeps id a rows e)

pub defaults_there : (rs : List Rule) (rows : List Row)
    → AllByRecursion (λ a. is_empty a.defaults ≡ false
    → has_row a.id (fold with_default rows rs) ≡ true) rs
defaults_there [] rows = tt
defaults_there (a ∷ rs) rows = (
  λ some. defaults_keep a.id rs (with_default rows a) (default_has a rows some),
  defaults_there rs (with_default rows a),
)

pub required_given : (rs : List Rule) (rows : List Row)
    → list_any (λ a. a.required && not (is_given a.id rows)) rs ≡ false
    → AllByRecursion (λ a. a.required ≡ true → is_given a.id rows ≡ true) rs
required_given [] rows e = tt
required_given (a ∷ rs) rows e =
    (λ is. go a.required (is_given a.id rows) is e, required_given rs rows (right _ _ e))
  where
    right : (x y : Bool) → (x || y) ≡ false → y ≡ false
    right true y h = cc
    right false y h = h

    go : (x y : Bool) → x ≡ true
        → ((x && not y) || list_any (λ b. b.required && not (is_given b.id rows)) rs) ≡ false
        → y ≡ true
    go true true is h = refl
    go true false is h = cc
    go false y is h = cc
