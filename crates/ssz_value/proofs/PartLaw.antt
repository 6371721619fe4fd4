-- The trees of containers and unions tell their parts, where those of the parts do.
use Rattle.std.proofs.Common.{ℕ, zero, suc, ◌^◌, ◌<◌, ◌≤◌, ◌≡◌, List, [], ◌∷◌, length, refl, sym, ap, ap₂, ◌∙◌, subst, arith}
use Rattle.ssz_schema.specs.Types.{SszType, Fields, Options, container, union, no_fields, field, no_options, none_option, option}
use Rattle.ssz_schema.specs.Sizes.{depth, field_count, option_count}
use Rattle.ssz_schema.proofs.DepthLemmas.{depth_of-holds}
use Rattle.ssz_bytes.specs.Bytes.{le_number}
use Rattle.ssz_value.specs.Values.{SszValue, sequence, chosen, chosen_none, Values, items, values, Fits, FitFields, FitsOption, IsNoneOption}
use Rattle.ssz_chunk.specs.Tree.{Tree, leaf, pair}
use Rattle.ssz_value.specs.Trees.{number_chunk, tree, field_trees, option_tree}
use Rattle.ssz_bytes.proofs.Numbers.{le_number-le_bytes}
use Rattle.ssz_value.proofs.Sequences.{values-items}
use Rattle.ssz_value.proofs.ChunkLaw.{same_leaf, same_left, same_right, same_full}

pub sequence_is : (vs ws : Values) → items vs ≡ items ws → sequence vs ≡ sequence ws
sequence_is vs ws e = ap sequence (sym (values-items vs) ∙ ap values e ∙ values-items ws)

-- the chunk of a number tells the number
pub same_number : (m n : ℕ) → m < 256 ^ 32 → n < 256 ^ 32 → number_chunk m ≡ number_chunk n → m ≡ n
same_number m n below less e =
    sym (le_number-le_bytes 32 m below) ∙ ap le_number e ∙ le_number-le_bytes 32 n less

-- a type whose tree tells its values
pub record TellsApart (t : SszType) : Type 0 where
  pub apart : (v w : SszValue) → Fits t v → Fits t w → tree t v ≡ tree t w → v ≡ w

-- fields

pub record FieldsTell (fs : Fields) : Type 0 where
  pub apart : (vs ws : List SszValue) → FitFields fs vs → FitFields fs ws
      → field_trees fs vs ≡ field_trees fs ws → vs ≡ ws

pub no_fields_tell : (vs ws : List SszValue) → FitFields no_fields vs → FitFields no_fields ws
    → vs ≡ ws
no_fields_tell [] [] fit fits = refl
no_fields_tell [] (w ∷ ws) fit fits = absurd fits
no_fields_tell (v ∷ vs) ws fit fits = absurd fit

pub field_tells : (name : List ℕ) (t : SszType) (fs : Fields) → TellsApart t → FieldsTell fs
    → (vs ws : List SszValue) → FitFields (field name t fs) vs → FitFields (field name t fs) ws
    → field_trees (field name t fs) vs ≡ field_trees (field name t fs) ws → vs ≡ ws
field_tells name t fs law laws [] ws fit fits h = absurd fit
field_tells name t fs law laws (v ∷ vs) [] fit fits h = absurd fits
field_tells name t fs law laws (v ∷ vs) (w ∷ ws) fit fits h =
    let first : tree t v ≡ tree t w = cc in
    let others : field_trees fs vs ≡ field_trees fs ws = cc in
    ap₂ ◌∷◌ (law.apart v w fit.0 fits.0 first) (laws.apart vs ws fit.1 fits.1 others)

pub length-field_trees : (fs : Fields) (vs : List SszValue) → FitFields fs vs
    → length (field_trees fs vs) ≡ field_count fs
length-field_trees no_fields [] fit = refl
length-field_trees no_fields (v ∷ vs) fit = absurd fit
length-field_trees (field name t fs) [] fit = absurd fit
length-field_trees (field name t fs) (v ∷ vs) fit = omega (arith, length-field_trees fs vs fit.1)

pub container_tells : (fs : Fields) → FieldsTell fs → (v w : SszValue) → Fits (container fs) v
    → Fits (container fs) w → tree (container fs) v ≡ tree (container fs) w → v ≡ w
container_tells fs laws (sequence vs) (sequence ws) fit fits h =
    let long = length-field_trees fs (items vs) fit in
    sequence_is vs ws (laws.apart (items vs) (items ws) fit fits
    (same_full (depth (container fs)) (field_trees fs (items vs)) (field_trees fs (items ws)) (long
    ∙ sym (length-field_trees fs (items ws) fits))
    (omega (arith, long, depth_of-holds (field_count fs))) h))
container_tells fs laws (sequence vs) _ fit fits h = absurd fits
container_tells fs laws _ _ fit fits h = absurd fit

-- options

pub record OptionsTell (os : Options) : Type 0 where
  pub apart : (k : ℕ) (v w : SszValue) → FitsOption os k v → FitsOption os k w
      → option_tree os k v ≡ option_tree os k w → v ≡ w
  pub not_none : (k : ℕ) (v : SszValue) → FitsOption os k v → IsNoneOption os k → ⊥
  pub within : (k : ℕ) (v : SszValue) → FitsOption os k v → k < option_count os
  pub none_within : (k : ℕ) → IsNoneOption os k → k < option_count os

pub no_options_tell : OptionsTell no_options
no_options_tell = record {
  apart = λ k v w fit fits h. absurd fit;
  not_none =
      λ k v fit none. absurd fit;
  within = λ k v fit. absurd fit;
  none_within =
      λ k none. absurd none;
}

some_apart : (t : SszType) (os : Options) → TellsApart t → OptionsTell os → (k : ℕ) (v w : SszValue)
    → FitsOption (option t os) k v → FitsOption (option t os) k w
    → option_tree (option t os) k v ≡ option_tree (option t os) k w → v ≡ w
some_apart t os law laws zero v w fit fits h = law.apart v w fit fits h
some_apart t os law laws (suc k) v w fit fits h = laws.apart k v w fit fits h

some_not_none : (t : SszType) (os : Options) → OptionsTell os → (k : ℕ) (v : SszValue)
    → FitsOption (option t os) k v → IsNoneOption (option t os) k → ⊥
some_not_none t os laws zero v fit none = none
some_not_none t os laws (suc k) v fit none = laws.not_none k v fit none

some_within : (t : SszType) (os : Options) → OptionsTell os → (k : ℕ) (v : SszValue)
    → FitsOption (option t os) k v → k < option_count (option t os)
some_within t os laws zero v fit = omega arith
some_within t os laws (suc k) v fit = omega (arith, laws.within k v fit)

some_none_within : (t : SszType) (os : Options) → OptionsTell os → (k : ℕ)
    → IsNoneOption (option t os) k → k < option_count (option t os)
some_none_within t os laws zero none = absurd none
some_none_within t os laws (suc k) none = omega (arith, laws.none_within k none)

pub option_tells : (t : SszType) (os : Options) → TellsApart t → OptionsTell os
    → OptionsTell (option t os)
option_tells t os law laws =
    record {
      apart = some_apart t os law laws;
      not_none = some_not_none t os laws;
      within =
          some_within t os laws;
      none_within = some_none_within t os laws;
    }

none_apart : (os : Options) → OptionsTell os → (k : ℕ) (v w : SszValue)
    → FitsOption (none_option os) k v → FitsOption (none_option os) k w
    → option_tree (none_option os) k v ≡ option_tree (none_option os) k w → v ≡ w
none_apart os laws zero v w fit fits h = absurd fit
none_apart os laws (suc k) v w fit fits h = laws.apart k v w fit fits h

none_not_none : (os : Options) → OptionsTell os → (k : ℕ) (v : SszValue)
    → FitsOption (none_option os) k v → IsNoneOption (none_option os) k → ⊥
none_not_none os laws zero v fit none = absurd fit
none_not_none os laws (suc k) v fit none = laws.not_none k v fit none

none_within_of : (os : Options) → OptionsTell os → (k : ℕ) (v : SszValue)
    → FitsOption (none_option os) k v → k < option_count (none_option os)
none_within_of os laws zero v fit = absurd fit
none_within_of os laws (suc k) v fit = omega (arith, laws.within k v fit)

none_none_within : (os : Options) → OptionsTell os → (k : ℕ) → IsNoneOption (none_option os) k
    → k < option_count (none_option os)
none_none_within os laws zero none = omega arith
none_none_within os laws (suc k) none = omega (arith, laws.none_within k none)

pub none_option_tells : (os : Options) → OptionsTell os → OptionsTell (none_option os)
none_option_tells os laws =
    record {
      apart = none_apart os laws;
      not_none = none_not_none os laws;
      within =
          none_within_of os laws;
      none_within = none_none_within os laws;
    }

selectors : (j k : ℕ) (a b : Tree) → j < 128 → k < 128
    → pair a (leaf (number_chunk j)) ≡ pair b (leaf (number_chunk k)) → j ≡ k
selectors j k a b below less h =
    same_number j k (omega arith) (omega arith) (same_leaf _ _ (same_right _ _ _ _ h))

chosen_tells : (os : Options) → OptionsTell os → (j k : ℕ) (v w : SszValue) → j ≡ k
    → FitsOption os j v → FitsOption os k w → option_tree os j v ≡ option_tree os k w
    → chosen j v ≡ chosen k w
chosen_tells os laws j k v w e fit fits h =
    ap₂ chosen e (laws.apart j v w fit (subst (λ (n : ℕ). FitsOption os n w) (sym e) fits) (h
    ∙ ap (λ n. option_tree os n w) (sym e)))

pub union_tells : (os : Options) → option_count os ≤ 128 → OptionsTell os → (v w : SszValue)
    → Fits (union os) v → Fits (union os) w → tree (union os) v ≡ tree (union os) w → v ≡ w
union_tells os few laws (chosen j v) (chosen k w) fit fits h =
    chosen_tells os laws j k v w
    (selectors j k _ _ (omega (arith, laws.within j v fit))
    (omega (arith, laws.within k w fits)) h) fit fits (same_left _ _ _ _ h)
union_tells os few laws (chosen j v) (chosen_none k) fit fits h =
    let e = selectors j k _ _ (omega (arith, laws.within j v fit))
    (omega (arith, laws.none_within k fits)) h in
    absurd (laws.not_none j v fit (subst (λ (n : ℕ). IsNoneOption os n) (sym e) fits))
union_tells os few laws (chosen_none j) (chosen k w) fit fits h =
    let e = selectors j k _ _ (omega (arith, laws.none_within j fit))
    (omega (arith, laws.within k w fits)) h in
    absurd (laws.not_none k w fits (subst (λ (n : ℕ). IsNoneOption os n) e fit))
union_tells os few laws (chosen_none j) (chosen_none k) fit fits h =
    ap chosen_none (selectors j k _ _ (omega (arith, laws.none_within j fit))
    (omega (arith, laws.none_within k fits)) h)
union_tells os few laws (chosen j v) _ fit fits h = absurd fits
union_tells os few laws (chosen_none j) _ fit fits h = absurd fits
union_tells os few laws _ _ fit fits h = absurd fit
