-- Items of an array, read one after another.
use Rattle.std.proofs.Common.{◌≡◌, ◌+◌, ℕ, List, [], ◌∷◌, ◌++◌, length, refl, sym, ap, ◌∙◌, arith, Option, Some, None, option_map, Global}
use Rattle.std.proofs.lemmas.List.{nil_from_length}
use Rattle.std.specs.Prelude.{option_and_then}
use Rattle.std.specs.Vec.Iter.{into_iter_items, into_iter_len, into_iter_steps}
use Rattle.std.specs.declared.vec.IntoIter.{IntoIter}
use Rattle.serde_json.specs.Data.{Data, Items, no_items, item}
use Rattle.serde_json.specs.View.{view, items_view}
use Rattle.serde_json.specs.declared.value.Value.{Value}

-- the forms of the first, and then those of the others
abbrev pub join : {F : Type 0} → (F → F → F) → Option F → Option F → Option F
join append first more = option_and_then (λ forms. option_map (append forms) more) first

-- Items write forms that are joined, and a list of what was read stands for such forms.
pub record Joins {X F : Type 0} (written : Items → Option F) (seen : List X → F) : Type 0 where
  pub append : F → F → F
  pub none_before : (forms : F) → append (seen []) forms ≡ forms
  pub none_after : (forms : F) → append forms (seen []) ≡ forms
  pub one_more : (done : List X) (x : X) (more : F)
      → append (seen (done ++ x ∷ [])) more ≡ append (seen done) (append (seen (x ∷ [])) more)
  pub no_item : written no_items ≡ Some (seen [])
  pub first_item : (d : Data) (rest : Items)
      → written (item d rest) ≡ join append (written (item d no_items)) (written rest)

module _ {X F : Type 0} {written : Items → Option F} {seen : List X → F}
    (joins : Joins written seen) where
  -- all items write what was read so far, and then what is left writes
  pub record ReadsSome (all : List Value) (left : IntoIter Value Global)
      (done : List X) : Type 0 where
    pub so_far : written (items_view all)
        ≡ option_map (joins.append (seen done)) (written (items_view (into_iter_items left)))
    pub counted : into_iter_len left ≡ length (into_iter_items left)

  same_map : {f g : F → F} (o : Option F) → ((x : F) → f x ≡ g x) → option_map f o ≡ option_map g o
  same_map None same = refl
  same_map (Some x) same = ap Some (same x)

  unchanged : (o : Option F) → o ≡ option_map (joins.append (seen [])) o
  unchanged None = refl
  unchanged (Some forms) = ap Some (sym (joins.none_before forms))

  -- nothing is read before the first
  pub reads_start : (all : List Value) (left : IntoIter Value Global)
      → into_iter_items left ≡ all → into_iter_len left ≡ length all → ReadsSome all left []
  reads_start all left is counted = record {
    so_far = unchanged (written (items_view all))
        ∙ ap (λ vs. option_map (joins.append (seen [])) (written (items_view vs))) (sym is);
    counted = counted ∙ ap length (sym is);
  }

  -- what is left writes what the next item writes, and then the rest
  next_item : (left rest : List Value) (v : Value) → left ≡ v ∷ rest
      → written (items_view left)
      ≡ join joins.append (written (item (view v) no_items)) (written (items_view rest))
  next_item left rest v is =
      ap (λ vs. written (items_view vs)) is ∙ joins.first_item (view v) (items_view rest)

  one_fewer : {Y : Type 0} (left rest : List Y) (y : Y) (count fewer : ℕ)
      → count ≡ length left → left ≡ y ∷ rest → fewer + 1 ≡ count → fewer ≡ length rest
  one_fewer left rest y count fewer counted is step = let long = ap length is in omega arith

  twice : (done : List X) (x : X) (o : Option F)
      → option_map (joins.append (seen done)) (option_map (joins.append (seen (x ∷ []))) o)
      ≡ option_map (joins.append (seen (done ++ x ∷ []))) o
  twice done x None = refl
  twice done x (Some more) = ap Some (sym (joins.one_more done x more))

  -- an item is read
  pub reads_more : (all : List Value) (left rest : IntoIter Value Global) (v : Value)
      (done : List X) (x : X)
      → ReadsSome all left done → into_iter_steps left (Some v) rest
      → written (item (view v) no_items) ≡ Some (seen (x ∷ []))
      → ReadsSome all rest (done ++ x ∷ [])
  reads_more all left rest v done x reads step is = record {
    so_far = reads.so_far
        ∙ ap (option_map (joins.append (seen done)))
        (next_item (into_iter_items left) (into_iter_items rest) v step.0
        ∙ ap (λ o. join joins.append o (written (items_view (into_iter_items rest)))) is)
        ∙ twice done x (written (items_view (into_iter_items rest)));
    counted = one_fewer (into_iter_items left) (into_iter_items rest) v
        (into_iter_len left) (into_iter_len rest) reads.counted step.0 step.1;
  }

  -- an item that writes nothing leaves all of them unwritten
  pub reads_stop : (all : List Value) (left rest : IntoIter Value Global) (v : Value)
      (done : List X)
      → ReadsSome all left done → into_iter_steps left (Some v) rest
      → written (item (view v) no_items) ≡ None → written (items_view all) ≡ None
  reads_stop all left rest v done reads step none = reads.so_far
      ∙ ap (option_map (joins.append (seen done)))
      (next_item (into_iter_items left) (into_iter_items rest) v step.0
      ∙ ap (λ o. join joins.append o (written (items_view (into_iter_items rest)))) none)

  -- all is read where nothing is left
  pub reads_end : (all : List Value) (left : IntoIter Value Global) (done : List X)
      → ReadsSome all left done → into_iter_len left ≡ 0
      → written (items_view all) ≡ Some (seen done)
  reads_end all left done reads past =
      let empty = nil_from_length (into_iter_items left) (sym reads.counted ∙ past) in
      reads.so_far
      ∙ ap (λ vs. option_map (joins.append (seen done)) (written (items_view vs))) empty
      ∙ ap (option_map (joins.append (seen done))) joins.no_item
      ∙ ap Some (joins.none_after (seen done))
