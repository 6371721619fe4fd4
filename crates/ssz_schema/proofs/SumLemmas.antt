-- What fields tell of their container, field by field.
use Rattle.std.proofs.Common.{ℕ, zero, suc, min, max, ◌≡◌, ◌<◌, ◌≤◌, ◌+◌, ◌-◌, ◌^◌, ◌&&◌, Bool, true, false, List, [], ◌∷◌, length, drop, get_or, Option, Some, None, option_map, refl, sym, ap, ap₂, ◌∙◌, arith}
use Rattle.std.specs.Prelude.{not, is_none, is_some}
use Rattle.std.proofs.lemmas.List.{drop_all}
use Rattle.ssz_types.specs.declared.facts.Facts.{Facts}
use Rattle.ssz_types.specs.Types.{SszType}
use Rattle.ssz_types.specs.Sizes.{fixed_size, part_sizes, total_size, default_length, part_length, default_fields_length, type_levels, field_levels, nesting, field_nesting, field_count}
use Rattle.ssz_types.specs.Unfolding.{type_tree_at, fields_over}
use Rattle.ssz_types.specs.Facts.{AreFactsOf}
use Rattle.ssz_schema.specs.Inside.{capped}
use Rattle.ssz_schema.specs.Sums.{AreSums}

abbrev pub Part : Type 0
Part = List ℕ × ℕ

pub drop_field : (parts : List Part) (i : ℕ) (part : Part) → i < length parts
    → part ≡ get_or parts i part → drop i parts ≡ part ∷ drop (i + 1) parts
drop_field [] i part h e = absurd (omega arith)
drop_field (p ∷ parts) zero part h e = λ i. sym e i ∷ parts
drop_field (p ∷ parts) (suc i) part h e =
    let next : suc (i + 1) ≡ suc i + 1 = omega arith in
    drop_field parts i part (omega arith) e ∙ ap (λ n. part ∷ drop n (p ∷ parts)) next

-- the sums so far and those of the fields from i on
pub record SumsFrom (trees : List SszType) (parts : List Part) (i : ℕ) (every : Bool)
    (len lev nest : ℕ) : Type 0 where
  pub all_fixed : (every
      && not (is_none (total_size (part_sizes (fields_over trees (drop i parts))))))
      ≡ not (is_none (total_size (part_sizes (fields_over trees parts))))
  pub default_len : capped (len + default_fields_length (fields_over trees (drop i parts)))
      ≡ capped (default_fields_length (fields_over trees parts))
  pub small : len < 2 ^ 64
  pub levels : max lev (field_levels (fields_over trees (drop i parts)))
      ≡ field_levels (fields_over trees parts)
  pub nesting : max nest (field_nesting (fields_over trees (drop i parts)))
      ≡ field_nesting (fields_over trees parts)

pub SumsFrom-start : (trees : List SszType) (parts : List Part) → SumsFrom trees parts 0 true 0 0 0
SumsFrom-start trees parts = record {
  all_fixed = refl;
  default_len = ap capped (omega arith);
  small = omega arith;
  levels = omega arith;
  nesting = omega arith;
}

fixed_step : (b : Bool) (size rest : Option ℕ) (sizes : List (Option ℕ)) → total_size sizes ≡ rest
    → ((b && is_some size) && not (is_none rest)) ≡ (b && not (is_none (total_size (size ∷ sizes))))
fixed_step true None rest sizes e = refl
fixed_step false size rest sizes e = refl
fixed_step true (Some z) None sizes e = sym (ap (λ o. not (is_none (option_map (λ n. z + n) o))) e)
fixed_step true (Some z) (Some x) sizes e =
    sym (ap (λ o. not (is_none (option_map (λ n. z + n) o))) e)

pub SumsFrom-more : (trees : List SszType) (parts : List Part) (i : ℕ) (part : Part) (f : Facts)
    (b c : Bool) (len add next lev lev' nest nest' : ℕ) → SumsFrom trees parts i b len lev nest
    → i < length parts → part ≡ get_or parts i part
    → AreFactsOf f (type_tree_at trees part.1) → c ≡ (b && is_some f.fixed_size)
    → add ≡ part_length f.fixed_size f.default_len → next ≡ min (len + add) (2 ^ 64 - 1)
    → lev' ≡ max lev f.levels → nest' ≡ max nest f.nesting
    → SumsFrom trees parts (i + 1) c next lev' nest'
SumsFrom-more trees parts i part f b c len add next lev lev' nest nest' h below e facts c_is add_is
    next_is lev_is nest_is =
    let t = type_tree_at trees part.1 in
    let here = drop_field parts i part below e in
    let sizes = part_sizes (fields_over trees (drop (i + 1) parts)) in
    let lengths : default_fields_length (fields_over trees (drop i parts))
    ≡ part_length (fixed_size t) (default_length t) + default_fields_length
    (fields_over trees (drop (i + 1) parts)) =
    ap (λ ps. default_fields_length (fields_over trees ps)) here in
    let level : field_levels (fields_over trees (drop i parts))
    ≡ max (type_levels t) (field_levels (fields_over trees (drop (i + 1) parts))) =
    ap (λ ps. field_levels (fields_over trees ps)) here in
    let nested : field_nesting (fields_over trees (drop i parts))
    ≡ max (nesting t) (field_nesting (fields_over trees (drop (i + 1) parts))) =
    ap (λ ps. field_nesting (fields_over trees ps)) here in
    let adds : add ≡ part_length (fixed_size t) (default_length t) =
    add_is ∙ ap₂ part_length facts.fixed_size facts.default_len in
    record {
      all_fixed = ap (λ k. k
          && not (is_none (total_size (part_sizes (fields_over trees (drop (i + 1) parts))))))
          (c_is ∙ ap (λ s. b && is_some s) facts.fixed_size)
          ∙ fixed_step b (fixed_size (type_tree_at trees part.1))
          (total_size (part_sizes (fields_over trees (drop (i + 1) parts))))
          (part_sizes (fields_over trees (drop (i + 1) parts))) refl
          ∙ sym (ap (λ ps. b && not (is_none (total_size (part_sizes (fields_over trees ps)))))
          here) ∙ h.all_fixed;
      default_len = omega (arith, h.default_len, h.small, lengths, adds, next_is);
      small = omega (arith, next_is);
      levels = omega (arith, h.levels, level, lev_is, facts.levels);
      nesting = omega (arith, h.nesting, nested, nest_is, facts.nesting);
    }

and_true : (b : Bool) → (b && true) ≡ b
and_true true = refl
and_true false = refl

pub SumsFrom-end : (trees : List SszType) (parts : List Part) (i : ℕ) (b : Bool) (len lev nest : ℕ)
    → SumsFrom trees parts i b len lev nest → length parts ≤ i
    → AreSums (fields_over trees parts)
    (record { all_fixed = b; default_len = len; levels = lev; nesting = nest })
SumsFrom-end trees parts i b len lev nest h all =
    let none = drop_all i parts all in
    record {
      all_fixed = sym (and_true b) ∙ sym
          (ap (λ ps. b && not (is_none (total_size (part_sizes (fields_over trees ps))))) none)
          ∙ h.all_fixed;
      default_len = omega (
        arith,
        h.default_len,
        h.small,
        ap (λ ps. default_fields_length (fields_over trees ps)) none,
      );
      levels = omega (arith, h.levels, ap (λ ps. field_levels (fields_over trees ps)) none);
      nesting = omega (arith, h.nesting, ap (λ ps. field_nesting (fields_over trees ps)) none);
    }

pub field_count-over : (trees : List SszType) (parts : List Part)
    → field_count (fields_over trees parts) ≡ length parts
field_count-over trees [] = refl
field_count-over trees (p ∷ parts) = omega (arith, field_count-over trees parts)
