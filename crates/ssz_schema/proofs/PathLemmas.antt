-- No path leads deeper than its type.
use Rattle.std.proofs.Common.{ltb, ◌≡◌, ℕ, zero, suc, ◌+◌, ◌*◌, ◌/◌, ◌^◌, ◌<◌, ◌≤◌, max, Bool, true, false, cond, List, [], ◌∷◌, refl, ap, Option, Some, None, is_some, arith, pow-add}
use Rattle.std.specs.Prelude.{option_and_then, bytes_eq}
use Rattle.std.proofs.Math.Nat.{mul-le-mul_left, mul-le-mul_right, pow-le-pow_right}
use Rattle.std.proofs.lemmas.Nat.{pow_pos}
use Rattle.std.proofs.lemmas.Bool.{ltb-true}
use Rattle.std.proofs.lemmas.Option.{none-some, same_Some, cond_some}
use Rattle.ssz_types.specs.declared.width.Width.TheVariants.{W8, W16, W32, W64, W128, W256}
use Rattle.ssz_schema.specs.declared.path.PathStep.{PathStep}
use Rattle.ssz_schema.specs.declared.path.PathStep.TheVariants.{Field, Index, Len, Selector, Option as Chosen}
use Rattle.ssz_types.specs.Types.{SszType, Fields, Options, uint, boolean, container, vector, list, bitvector, bitlist, union, no_fields, field, no_options, none_option, option}
use Rattle.ssz_types.specs.Sizes.{basic_size, element_chunks, depth_of, field_count, type_levels, field_levels, option_levels}
use Rattle.ssz_schema.specs.Paths.{Path, path_type, step_type, field_type, field_number, option_type}
use Rattle.ssz_schema.specs.Indices.{element_position, step_levels, step_position, step_index, generalized_index_from}
use Rattle.ssz_schema.specs.IndexLaws.{IndicesAreWithinLevels}
use Rattle.ssz_types.proofs.DepthLemmas.{depth_of-holds}

-- what a chain of options that answers has gone through
pub and_then_parts : {A B : Type 0} (f : A → Option B) (o : Option A) (y : B)
    → option_and_then f o ≡ Some y → (x : A) × (o ≡ Some x) × (f x ≡ Some y)
and_then_parts f None y e = absurd (none-some y e)
and_then_parts f (Some x) y e = (x, refl, e)

pub if_within : {X : Type 0} (i n : ℕ) (x y : X) → cond (ltb i n) (Some x) None ≡ Some y
    → (i < n) × (x ≡ y)
if_within i n x y e = let both = cond_some (ltb i n) x y e in (ltb-true i n both.0, both.1)

-- there is none where there is no value
pub none_where : {A : Type 0} (o : Option A) → is_some o ≡ false → None ≡ o
none_where None h = refl
none_where (Some x) h = cc

-- what is made along the same options is there at once
pub alike : {A B C : Type 0} (o : Option A) (f : A → Option B) (g : A → Option C)
    → ((x : A) → is_some (f x) ≡ is_some (g x))
    → is_some (option_and_then f o) ≡ is_some (option_and_then g o)
alike None f g h = refl
alike (Some x) f g h = h x

-- a path has an index exactly where it fits the type
pub index_where_fits : (k : ℕ) (t : SszType) (path : Path)
    → is_some (generalized_index_from k t path) ≡ is_some (path_type t path)
index_where_fits k t [] = refl
index_where_fits k t (step ∷ path) =
    alike (step_type t step) (λ u. generalized_index_from (step_index k t step) u path)
    (λ u. path_type u path) (λ u. index_where_fits (step_index k t step) u path)

-- Levels: a part has fewer than the whole.

field-levels : (fs : Fields) (name : List ℕ) (u : SszType) → field_type fs name ≡ Some u
    → type_levels u ≤ field_levels fs
field-levels no_fields name u e = absurd (none-some u e)
field-levels (field other t fs) name u e = go (bytes_eq other name) (field-levels fs name u) e
  where
    go : (b : Bool) → (field_type fs name ≡ Some u → type_levels u ≤ field_levels fs)
        → cond b (Some t) (field_type fs name) ≡ Some u
        → type_levels u ≤ max (type_levels t) (field_levels fs)
    go true rest e = omega (arith, ap (λ s. type_levels s) (same_Some t u e))
    go false rest e = omega (arith, rest e)

option-levels : (os : Options) (k : ℕ) (u : SszType) → option_type os k ≡ Some u
    → type_levels u ≤ option_levels os
option-levels no_options k u e = absurd (none-some u e)
option-levels (none_option os) zero u e = absurd (none-some u e)
option-levels (option t os) zero u e = omega (arith, ap (λ s. type_levels s) (same_Some t u e))
option-levels (none_option os) (suc k) u e = option-levels os k u e
option-levels (option t os) (suc k) u e = omega (arith, option-levels os k u e)

-- a step and what lies below it
pub step-levels : (t : SszType) (step : PathStep) (u : SszType) → step_type t step ≡ Some u
    → step_levels t step + type_levels u ≤ type_levels t
step-levels (container fs) (Field name) u e = omega (arith, field-levels fs name u e)
step-levels (vector t n) (Index i) u e =
    omega (arith, ap (λ s. type_levels s) (if_within i n t u e).1)
step-levels (list t n) (Index i) u e =
    omega (arith, ap (λ s. type_levels s) (if_within i n t u e).1)
step-levels (list t n) Len u e = omega (arith, ap (λ s. type_levels s) (same_Some _ u e))
step-levels (bitvector n) (Index i) u e =
    omega (arith, ap (λ s. type_levels s) (if_within i n boolean u e).1)
step-levels (bitlist n) (Index i) u e =
    omega (arith, ap (λ s. type_levels s) (if_within i n boolean u e).1)
step-levels (bitlist n) Len u e = omega (arith, ap (λ s. type_levels s) (same_Some _ u e))
step-levels (union os) Selector u e = omega (arith, ap (λ s. type_levels s) (same_Some _ u e))
step-levels (union os) (Chosen k) u e = omega (arith, option-levels os k u e)
step-levels _ _ u e = absurd (none-some u e)

-- Positions: each is one of those so many levels down.

basic-positive : (t : SszType) (z : ℕ) → basic_size t ≡ Some z → 0 < z
basic-positive (uint W8) z e = omega (arith, same_Some 1 z e)
basic-positive (uint W16) z e = omega (arith, same_Some 2 z e)
basic-positive (uint W32) z e = omega (arith, same_Some 4 z e)
basic-positive (uint W64) z e = omega (arith, same_Some 8 z e)
basic-positive (uint W128) z e = omega (arith, same_Some 16 z e)
basic-positive (uint W256) z e = omega (arith, same_Some 32 z e)
basic-positive boolean z e = omega (arith, same_Some 1 z e)
basic-positive (container fs) z e = absurd (none-some z e)
basic-positive (vector t n) z e = absurd (none-some z e)
basic-positive (list t n) z e = absurd (none-some z e)
basic-positive (bitvector n) z e = absurd (none-some z e)
basic-positive (bitlist n) z e = absurd (none-some z e)
basic-positive (union os) z e = absurd (none-some z e)

-- the chunk of an element is one of the chunks
pub position-chunks : (t : SszType) (size : Option ℕ) → basic_size t ≡ size → (i n : ℕ) → i < n
    → element_position size i < element_chunks size n
position-chunks t None e i n h = h
position-chunks t (Some z) e i n h =
    let next : suc i * z ≤ n * z = mul-le-mul_right z (let le : suc i ≤ n = omega arith in le) in
    omega (arith, basic-positive t z e)

pub field-below : (fs : Fields) (name : List ℕ) (u : SszType) → field_type fs name ≡ Some u
    → field_number fs name < field_count fs
field-below no_fields name u e = absurd (none-some u e)
field-below (field other t fs) name u e = go (bytes_eq other name) (field-below fs name u) e
  where
    go : (b : Bool) → (field_type fs name ≡ Some u → field_number fs name < field_count fs)
        → cond b (Some t) (field_type fs name) ≡ Some u
        → cond b 0 (suc (field_number fs name)) < field_count fs + 1
    go true rest e = omega arith
    go false rest e = omega (arith, rest e)

-- the place that a step leads to is one of those so many levels down
pub step-below : (t : SszType) (step : PathStep) (u : SszType) → step_type t step ≡ Some u
    → step_position t step < 2 ^ step_levels t step
step-below (container fs) (Field name) u e =
    omega (arith, field-below fs name u e, depth_of-holds (field_count fs))
step-below (vector t n) (Index i) u e =
    omega (
      arith,
      position-chunks t (basic_size t) refl i n (if_within i n t u e).0,
      depth_of-holds (element_chunks (basic_size t) n),
    )
step-below (list t n) (Index i) u e =
    let more = pow-add 2 (depth_of (element_chunks (basic_size t) n)) 1 in
    omega (
      arith,
      position-chunks t (basic_size t) refl i n (if_within i n t u e).0,
      depth_of-holds (element_chunks (basic_size t) n),
      more,
    )
step-below (bitvector n) (Index i) u e =
    omega (arith, (if_within i n boolean u e).0, depth_of-holds ((n + 255) / 256))
step-below (bitlist n) (Index i) u e =
    let more = pow-add 2 (depth_of ((n + 255) / 256)) 1 in
    omega (arith, (if_within i n boolean u e).0, depth_of-holds ((n + 255) / 256), more)
step-below (list t n) Len u e = omega arith
step-below (bitlist n) Len u e = omega arith
step-below (union os) Selector u e = omega arith
step-below (union os) (Chosen k) u e = omega arith
step-below _ _ u e = absurd (none-some u e)

-- an index below those of a node's descendants, further down
further : (k place down below all g : ℕ) → place + 1 ≤ (k + 1) * 2 ^ down
    → g < (place + 1) * 2 ^ below → down + below ≤ all → g < (k + 1) * 2 ^ all
further k place down below all g near far deep =
    let whole : (k + 1) * 2 ^ (down + below) ≤ (k + 1) * 2 ^ all =
    mul-le-mul_left (k + 1) (pow-le-pow_right (omega arith) deep) in
    let joined : (k + 1) * 2 ^ (down + below) ≡ (k + 1) * (2 ^ down * 2 ^ below) =
    ap (λ n. (k + 1) * n) (pow-add 2 down below) in
    let wide : (place + 1) * 2 ^ below ≤ (k + 1) * 2 ^ down * 2 ^ below =
    mul-le-mul_right (2 ^ below) near in
    omega (arith, whole, joined, wide, far)

next : (k down position : ℕ) → position < 2 ^ down
    → k * 2 ^ down + position + 1 ≤ (k + 1) * 2 ^ down
next k down position h = omega arith

positive : (k down position : ℕ) → 0 < k → 0 < k * 2 ^ down + position
positive k down position pos =
    let unit : 1 ≤ 2 ^ down = pow_pos down in
    omega (arith, mul-le-mul_left k unit)

within_from : (k : ℕ) (t : SszType) (path : Path) (g : ℕ) → 0 < k
    → generalized_index_from k t path ≡ Some g → (0 < g) × (g < (k + 1) * 2 ^ type_levels t)
within_from k t [] g pos e =
    let unit : 1 ≤ 2 ^ type_levels t = pow_pos (type_levels t) in
    let same = same_Some k g e in
    (omega (arith, same), omega (arith, same, mul-le-mul_left (k + 1) unit))
within_from k t (step ∷ path) g pos e =
    let place : ℕ = step_index k t step in
    let parts = and_then_parts (λ u. generalized_index_from (step_index k t step) u path)
    (step_type t step) g e in
    let u : SszType = parts.0 in
    let below = step-below t step parts.0 parts.1 in
    let rest = within_from (step_index k t step) parts.0 path g
    (positive k (step_levels t step) (step_position t step) pos) parts.2 in (
      rest.0,
      further k (step_index k t step) (step_levels t step) (type_levels parts.0) (type_levels t) g
          (next k (step_levels t step) (step_position t step) below) rest.1
          (step-levels t step parts.0 parts.1),
    )

-- an index has at most as many levels as its type
pub indices_within : IndicesAreWithinLevels
indices_within t path index e =
    let both = within_from 1 t path index (omega arith) e in
    record { some = both.0; few = omega (arith, both.1, pow-add 2 (type_levels t) 1) }
