-- What is so of the lines that are done, by what is so of those of each script.
use Rattle.std.proofs.Common.{ℕ, zero, suc, ◌+◌, ◌≡◌, List, [], ◌∷◌, ◌++◌, set, drop, get_or, Option, Some, None, refl, sym, ap, subst, arith}
use Rattle.std.specs.List.{AllByRecursion}
use Rattle.ssz_machine.specs.State.{Name}
use Rattle.ssz_machine.specs.Machine.{Line}
use Rattle.ssz_machine.specs.Plays.{Event, says, adopts, adoptions, all_of, base_writer, next_of, rest_from, weaving, woven}
use Rattle.ssz_engine.specs.Compacting.{NoneCompacts}
use Rattle.ssz_engine.specs.Scripts.{AreNamedReadable, file_named, files_named, name_before}
use Rattle.ssz_engine.specs.Points.{lines_in}
use Rattle.ssz_engine.proofs.Reaching.{behind}

lines_append : (a b : List Event) → lines_in (a ++ b) ≡ lines_in a ++ lines_in b
lines_append [] b = refl
lines_append (says writer line ∷ a) b = ap (λ (lines : List Line). line ∷ lines) (lines_append a b)
lines_append (adopts writer ∷ a) b = lines_append a b

-- those of one writer are its script
pub lines_all : (writer : ℕ) (script : List Line) → lines_in (all_of writer script) ≡ script
lines_all writer [] = refl
lines_all writer (line ∷ script) =
    ap (λ (lines : List Line). line ∷ lines) (lines_all writer script)

lines_adoptions : (writer : ℕ) (scripts : List (List Line))
    → lines_in (adoptions writer scripts) ≡ []
lines_adoptions writer [] = refl
lines_adoptions writer (script ∷ scripts) = lines_adoptions (writer + 1) scripts

-- the scripts behind a place stay where that one changes
pub drop_set : (scripts : List (List Line)) (i : ℕ) (lines : List Line)
    → drop (i + 1) (set scripts i lines) ≡ drop (i + 1) scripts
drop_set [] i lines = refl
drop_set (first ∷ scripts) zero lines = refl
drop_set (first ∷ scripts) (suc i) lines =
    let next : suc i + 1 ≡ suc (i + 1) = omega arith in rw next (drop_set scripts i lines)

-- Something is so of lines where it is so of each of them.
pub record IsOfEach (P : List Line → Type 0) : Type 0 where
  none : P []
  both : (a b : List Line) → P a → P b → P (a ++ b)
  head : (line : Line) (lines : List Line) → P (line ∷ lines) → P (line ∷ [])
  tail : (line : Line) (lines : List Line) → P (line ∷ lines) → P lines

module _ (P : List Line → Type 0) (each : IsOfEach P) where
  of_both : (a b : List Event) → P (lines_in a) → P (lines_in b) → P (lines_in (a ++ b))
  of_both a b first then =
      subst P (sym (lines_append a b)) (each.both (lines_in a) (lines_in b) first then)

  of_next : (writer : ℕ) (script : List Line) → P script → P (lines_in (next_of writer script))
  of_next writer [] is = each.none
  of_next writer (line ∷ script) is = each.head line script is

  of_drop : (script : List Line) → P script → P (drop 1 script)
  of_drop [] is = each.none
  of_drop (line ∷ script) is = each.tail line script is

  of_at : (i : ℕ) (scripts : List (List Line)) → AllByRecursion P scripts
      → P (get_or scripts i [])
  of_at zero [] all = each.none
  of_at (suc i) [] all = each.none
  of_at zero (script ∷ scripts) all = all.0
  of_at (suc i) (script ∷ scripts) all = of_at i scripts all.1

  of_set : (i : ℕ) (new : List Line) (scripts : List (List Line)) → P new
      → AllByRecursion P scripts → AllByRecursion P (set scripts i new)
  of_set i new [] is all = tt
  of_set zero new (script ∷ scripts) is all = (is, all.1)
  of_set (suc i) new (script ∷ scripts) is all = (all.0, of_set i new scripts is all.1)

  of_rest : (writer : ℕ) (scripts : List (List Line)) → AllByRecursion P scripts
      → P (lines_in (rest_from writer scripts))
  of_rest writer [] all = each.none
  of_rest writer (script ∷ scripts) all =
      of_both (all_of writer script) (rest_from (writer + 1) scripts)
      (subst P (sym (lines_all writer script)) all.0) (of_rest (writer + 1) scripts all.1)

  of_woven : (order : List ℕ) (scripts : List (List Line)) → AllByRecursion P scripts
      → P (lines_in (woven order scripts))
  of_woven [] scripts all = of_rest 0 scripts all
  of_woven (writer ∷ order) scripts all =
      let script : List Line = get_or scripts writer [] in
      let own : P script = of_at writer scripts all in
      of_both (next_of writer script) (woven order (set scripts writer (drop 1 script)))
      (of_next writer script own)
      (of_woven order (set scripts writer (drop 1 script))
      (of_set writer (drop 1 script) scripts (of_drop script own) all))

  -- a whole weave
  pub of_weaving : (base : List Line) (order : List ℕ) (scripts : List (List Line))
      → AllByRecursion P (base ∷ scripts) → P (lines_in (weaving base order scripts))
  of_weaving base order scripts all =
      of_both (all_of base_writer base ++ adoptions 0 scripts) (woven order scripts)
      (of_both (all_of base_writer base) (adoptions 0 scripts)
      (subst P (sym (lines_all base_writer base)) all.0)
      (subst P (sym (lines_adoptions 0 scripts)) each.none))
      (of_woven order scripts all.1)

-- no line gives up nodes
none-both : (a b : List Line) → NoneCompacts a → NoneCompacts b → NoneCompacts (a ++ b)
none-both [] b first then = then
none-both (line ∷ a) b first then = (first.0, none-both a b first.1 then)

pub none_of_each : IsOfEach NoneCompacts
none_of_each = record {
  none = tt;
  both = none-both;
  head = λ line lines none. (none.0, tt);
  tail = λ line lines none. none.1;
}

pub none_parts : (a b : List Event) → NoneCompacts (lines_in (a ++ b))
    → NoneCompacts (lines_in a) × NoneCompacts (lines_in b)
none_parts [] b none = (tt, none)
none_parts (says writer line ∷ a) b none =
    let parts = none_parts a b none.1 in ((none.0, parts.0), parts.1)
none_parts (adopts writer ∷ a) b none = none_parts a b none

-- each file that a line names can be read
module _ (P : Name → Type 0) where
  named-more : (o : Option Name) (a b : List Name) → AllByRecursion P (name_before o a)
      → (AllByRecursion P a → AllByRecursion P b) → AllByRecursion P (name_before o b)
  named-more None a b all more = more all
  named-more (Some name) a b all more = (all.0, more all.1)

  named-both : (a b : List Line) → AreNamedReadable P a → AreNamedReadable P b
      → AreNamedReadable P (a ++ b)
  named-both [] b first then = then
  named-both (line ∷ a) b first then =
      named-more (file_named line.1) (files_named a) (files_named (a ++ b)) first
      (λ all. named-both a b all then)

  pub named_of_each : IsOfEach (AreNamedReadable P)
  named_of_each = record {
    none = tt;
    both = named-both;
    head = λ line lines all. named-more (file_named line.1) (files_named lines) [] all (λ some. tt);
    tail = λ line lines all. behind P (file_named line.1) (files_named lines) all;
  }

  named-split : (o : Option Name) (all a b : List Name)
      → (AllByRecursion P all → AllByRecursion P a × AllByRecursion P b)
      → AllByRecursion P (name_before o all)
      → AllByRecursion P (name_before o a) × AllByRecursion P b
  named-split None all a b parts is = parts is
  named-split (Some name) all a b parts is =
      let more = parts is.1 in ((is.0, more.0), more.1)

  pub named_parts : (a b : List Event) → AreNamedReadable P (lines_in (a ++ b))
      → AreNamedReadable P (lines_in a) × AreNamedReadable P (lines_in b)
  named_parts [] b all = (tt, all)
  named_parts (says writer line ∷ a) b all =
      named-split (file_named line.1) (files_named (lines_in (a ++ b))) (files_named (lines_in a))
      (files_named (lines_in b)) (named_parts a b) all
  named_parts (adopts writer ∷ a) b all = named_parts a b all
