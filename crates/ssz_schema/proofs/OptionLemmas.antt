-- What options tell of their union, option by option.
use Rattle.std.proofs.Common.{ℕ, zero, suc, max, ◌≡◌, ◌<◌, ◌≤◌, ◌+◌, List, [], ◌∷◌, length, drop, get_or, Option, Some, None, refl, sym, ap, ◌∙◌, arith}
use Rattle.std.proofs.lemmas.List.{drop_all}
use Rattle.ssz_types.specs.Types.{SszType}
use Rattle.ssz_types.specs.Sizes.{option_levels, option_nesting, option_count}
use Rattle.ssz_types.specs.Unfolding.{options_over}
use Rattle.ssz_schema.specs.Sums.{AreOptionSums, IsOption}

pub drop_option : (ids : List (Option ℕ)) (i : ℕ) (o : Option ℕ) → i < length ids
    → o ≡ get_or ids i o → drop i ids ≡ o ∷ drop (i + 1) ids
drop_option [] i o h e = absurd (omega arith)
drop_option (p ∷ ids) zero o h e = λ i. sym e i ∷ ids
drop_option (p ∷ ids) (suc i) o h e =
    let next : suc (i + 1) ≡ suc i + 1 = omega arith in
    drop_option ids i o (omega arith) e ∙ ap (λ n. o ∷ drop n (p ∷ ids)) next

pub record OptionsFrom (trees : List SszType) (ids : List (Option ℕ))
    (i lev nest : ℕ) : Type 0 where
  pub levels : max lev (option_levels (options_over trees (drop i ids)))
      ≡ option_levels (options_over trees ids)
  pub nesting : max nest (option_nesting (options_over trees (drop i ids)))
      ≡ option_nesting (options_over trees ids)

pub OptionsFrom-start : (trees : List SszType) (ids : List (Option ℕ)) → OptionsFrom trees ids 0 0 0
OptionsFrom-start trees ids = record { levels = omega arith; nesting = omega arith }

pub OptionsFrom-more : (trees : List SszType) (ids : List (Option ℕ)) (i : ℕ) (o : Option ℕ)
    (lev lev' more nest nest' more' : ℕ) → OptionsFrom trees ids i lev nest → i < length ids
    → o ≡ get_or ids i o
    → IsOption trees o more more' → lev' ≡ max lev more → nest' ≡ max nest more'
    → OptionsFrom trees ids (i + 1) lev' nest'
OptionsFrom-more trees ids i None lev lev' more nest nest' more' h below e fact lev_is nest_is =
    let here = drop_option ids i None below e in
    record {
      levels = omega (
        arith,
        h.levels,
        ap (λ os. option_levels (options_over trees os)) here,
        lev_is,
        fact.0,
      );
      nesting = omega (
        arith,
        h.nesting,
        ap (λ os. option_nesting (options_over trees os)) here,
        nest_is,
        fact.1,
      );
    }
OptionsFrom-more trees ids i (Some id) lev lev' more nest nest' more' h below e fact lev_is
    nest_is =
    let here = drop_option ids i (Some id) below e in
    record {
      levels = omega (
        arith,
        h.levels,
        ap (λ os. option_levels (options_over trees os)) here,
        lev_is,
        fact.0,
      );
      nesting = omega (
        arith,
        h.nesting,
        ap (λ os. option_nesting (options_over trees os)) here,
        nest_is,
        fact.1,
      );
    }

pub OptionsFrom-end : (trees : List SszType) (ids : List (Option ℕ)) (i lev nest : ℕ)
    → OptionsFrom trees ids i lev nest → length ids ≤ i
    → AreOptionSums (options_over trees ids) lev nest
OptionsFrom-end trees ids i lev nest h all = record {
  levels = omega (
    arith,
    h.levels,
    ap (λ os. option_levels (options_over trees os))
        (drop_all i ids all),
  );
  nesting = omega (
    arith,
    h.nesting,
    ap (λ os. option_nesting (options_over trees os))
        (drop_all i ids all),
  );
}

pub option_count-over : (trees : List SszType) (ids : List (Option ℕ))
    → option_count (options_over trees ids) ≡ length ids
option_count-over trees [] = refl
option_count-over trees (None ∷ ids) = omega (arith, option_count-over trees ids)
option_count-over trees (Some id ∷ ids) = omega (arith, option_count-over trees ids)
