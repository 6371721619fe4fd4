-- The options of a union, by their numbers.
use Rattle.std.proofs.Common.{◌≡◌, ℕ, zero, suc, cond, List, [], ◌∷◌, ◌++◌, length, slice_get, Option, Some, None, refl, sym, ap, ◌∙◌, subst, ◌⊎◌, inl, inr}
use Rattle.std.proofs.lemmas.Option.{none-some, same_Some}
use Rattle.std.proofs.lemmas.Bool.{eq-eqb, ne_eqb}
use Rattle.ssz_schema.specs.declared.path.PathStep.TheVariants.{Option as Chosen}
use Rattle.ssz_schema.specs.Types.{SszType, Options, union, no_options, none_option, option}
use Rattle.ssz_schema.specs.Paths.{Path, option_type}
use Rattle.ssz_schema.specs.Sizes.{option_count}
use Rattle.ssz_schema.specs.Unfolding.{Types, type_of, type_tree_at, options_over}
use Rattle.ssz_schema.proofs.OptionLemmas.{option_count-over}
use Rattle.ssz_script.specs.declared.statement.Statement.TheVariants as edit
use Rattle.ssz_value.specs.Values.{SszValue, chosen, chosen_none, FitsOption, IsNoneOption}
use Rattle.ssz_machine.specs.Drawing.{drawn_walk, walk_option, comes_to, worked, drawn, next_seed, seed_after}
use Rattle.ssz_draws.specs.Turns.{IsChosen, WalkContinues}

-- an option that is a type, of this number
pub typed_option : (trees : List SszType) (ids : List (Option ℕ)) (k part : ℕ)
    → slice_get ids k ≡ Some (Some part)
    → option_type (options_over trees ids) k ≡ Some (type_tree_at trees part)
typed_option trees [] k part is = cc
typed_option trees (None ∷ ids) zero part is = cc
typed_option trees (Some id ∷ ids) zero part is =
    let same : id ≡ part = cc in ap (λ n. Some (type_tree_at trees n)) same
typed_option trees (None ∷ ids) (suc k) part is = typed_option trees ids k part is
typed_option trees (Some id ∷ ids) (suc k) part is = typed_option trees ids k part is

-- the option None is no type
pub untyped_option : (trees : List SszType) (ids : List (Option ℕ)) (k part : ℕ)
    → slice_get ids k ≡ Some (Some part) → IsNoneOption (options_over trees ids) k → ⊥
untyped_option trees [] k part is none = none
untyped_option trees (None ∷ ids) zero part is none = cc
untyped_option trees (Some id ∷ ids) zero part is none = none
untyped_option trees (None ∷ ids) (suc k) part is none = untyped_option trees ids k part is none
untyped_option trees (Some id ∷ ids) (suc k) part is none = untyped_option trees ids k part is none

-- an option that has a value is a type
pub valued_option : (trees : List SszType) (ids : List (Option ℕ)) (k : ℕ) (v : SszValue)
    → FitsOption (options_over trees ids) k v → (part : ℕ) × (slice_get ids k ≡ Some (Some part))
valued_option trees [] k v fit = absurd fit
valued_option trees (None ∷ ids) zero v fit = absurd fit
valued_option trees (Some id ∷ ids) zero v fit = (id, refl)
valued_option trees (None ∷ ids) (suc k) v fit = valued_option trees ids k v fit
valued_option trees (Some id ∷ ids) (suc k) v fit = valued_option trees ids k v fit

-- the walk over options comes to the one of this number
walks_option : (os : Options) (k : ℕ) (u : SszType) (v : SszValue) (path : Path) (x : ℕ)
    → option_type os k ≡ Some u → walk_option os k v path x ≡ drawn_walk u v path x
walks_option no_options k u v path x is = absurd (none-some u is)
walks_option (none_option os) zero u v path x is = absurd (none-some u is)
walks_option (option t os) zero u v path x is =
    ap (λ s. drawn_walk s v path x) (same_Some t u is)
walks_option (none_option os) (suc k) u v path x is = walks_option os k u v path x is
walks_option (option t os) (suc k) u v path x is = walks_option os k u v path x is

-- on at the value of a union
pub chosen_on : (types : Types) (ids : List (Option ℕ)) (k part x : ℕ) (v : SszValue)
    → slice_get ids k ≡ Some (Some part) → drawn 2 x ≡ 1
    → IsChosen (union (options_over types.trees ids)) k v
    → WalkContinues types (union (options_over types.trees ids)) v x (next_seed x) part (Chosen k)
chosen_on types ids k part x (chosen j v) at one is =
    let os = options_over types.trees ids in
    let typed = typed_option types.trees ids k part at in
    let there : option_type os j ≡ Some (type_of types part) =
    subst (λ n. option_type os n ≡ Some (type_of types part)) (sym is.1) typed in
    record {
      value = v;
      fits = typed;
      there = ap (λ b. cond b (Some v) None) (eq-eqb j k is.1);
      on = λ path. ap (λ b. cond b (walk_option os j v (path ++ Chosen j ∷ []) (next_seed x))
          (comes_to (edit.Choose worked path (drawn (option_count os) (next_seed x)) None)
          (seed_after 2 x))) (eq-eqb (drawn 2 x) 1 one)
          ∙ walks_option os j (type_of types part) v (path ++ Chosen j ∷ []) (next_seed x) there
          ∙ ap (λ n. drawn_walk (type_of types part) v (path ++ Chosen n ∷ []) (next_seed x)) is.1;
    }
chosen_on types ids k part x (chosen_none j) at one is =
    absurd (untyped_option types.trees ids j part
    (subst (λ n. slice_get ids n ≡ Some (Some part)) (sym is.1) at) is.0)
chosen_on types ids k part x _ at one is = absurd is.1

-- a union where no option is drawn, or the present one is None
pub chosen_edit : (trees : List SszType) (ids : List (Option ℕ)) (k x : ℕ) (v : SszValue)
    → ((drawn 2 x ≡ 1 → ⊥) ⊎ ((part : ℕ) → slice_get ids k ≡ Some (Some part) → ⊥))
    → IsChosen (union (options_over trees ids)) k v → (path : Path)
    → drawn_walk (union (options_over trees ids)) v path x
    ≡ comes_to (edit.Choose worked path (drawn (length ids) (next_seed x)) None) (seed_after 2 x)
chosen_edit trees ids k x (chosen j v) (inl other) is path =
    ap (λ b. cond b (walk_option (options_over trees ids) j v (path ++ Chosen j ∷ []) (next_seed x))
    (comes_to (edit.Choose worked path (drawn (option_count (options_over trees ids)) (next_seed x))
    None) (seed_after 2 x))) (ne_eqb (drawn 2 x) 1 other)
    ∙ ap (λ n. comes_to (edit.Choose worked path (drawn n (next_seed x)) None) (seed_after 2 x))
    (option_count-over trees ids)
chosen_edit trees ids k x (chosen j v) (inr none) is path =
    let valued = valued_option trees ids j v is.0 in
    absurd (none valued.0 (subst (λ n. slice_get ids n ≡ Some (Some valued.0)) is.1 valued.1))
chosen_edit trees ids k x (chosen_none j) why is path =
    ap (λ n. comes_to (edit.Choose worked path (drawn n (next_seed x)) None) (seed_after 2 x))
    (option_count-over trees ids)
chosen_edit trees ids k x _ why is path = absurd is.1
