-- Unions are read back, and walked to themselves.
use Rattle.std.proofs.Common.{◌≡◌, ℕ, zero, suc, ◌+◌, ◌<◌, ◌≤◌, ◌^◌, max, cond, [], ◌∷◌, Some, None, Ok, option_map, refl, ap, ◌∙◌, arith}
use Rattle.std.specs.Option.{ok_or}
use Rattle.std.proofs.lemmas.Bool.{lt-ltb}
use Rattle.json.proofs.Printed.Decimals.{IsNumber-decimal}
use Rattle.json.proofs.Printed.Utf8.{IsUtf8-are_ascii}
use Rattle.serde_json.specs.Data.{unsigned, Data, null, number as json_number, array, no_items, item}
use Rattle.serde_json.proofs.Numbers.{number_of-decimal}
use Rattle.ssz_schema.specs.Legal.{most_options}
use Rattle.ssz_schema.specs.Sizes.{nesting, option_nesting, option_count}
use Rattle.ssz_schema.specs.Types.{SszType, Options, union, no_options, none_option, option}
use Rattle.ssz_value.specs.Values.{SszValue, chosen, chosen_none, Fits, FitsOption, IsNoneOption}
use Rattle.ssz_json_text.specs.Text.{json_of, option_json}
use Rattle.ssz_value_json.specs.Steps.{◌>>=◌, next, bad_kind}
use Rattle.ssz_value_json.specs.Walk.{json_walk, option_at, selected}
use Rattle.ssz_value_json.proofs.Ascii.{decimal_utf8}
use Rattle.ssz_value_json.proofs.ReadBack.{ReadsBack, array_back}
use Rattle.ssz_value_json.proofs.BackWords.{BackLaw, WalksTo, deeper}

pub record OptionsBack (os : Options) : Type 0 where
  pub back : (k : ℕ) (v : SszValue) → FitsOption os k v
      → ReadsBack (option_nesting os) (option_json os k v)
  pub walked : (left k : ℕ) (v : SszValue) → FitsOption os left v
      → WalksTo (λ n. option_at os left k n (option_json os left v)) (chosen k v)
  pub none : (left k n : ℕ) → IsNoneOption os left
      → option_at os left k n null ≡ Ok (chosen_none k, next (next n))
  pub some : (k : ℕ) (v : SszValue) → FitsOption os k v → k < option_count os
  pub least : (k : ℕ) → IsNoneOption os k → k < option_count os

pub no_options_back : OptionsBack no_options
no_options_back = record {
  back = λ k v h. absurd h;
  walked = λ left k v h. absurd h;
  none = λ left k n h. absurd h;
  some = λ k v h. absurd h;
  least = λ k h. absurd h;
}

number_back : (k : ℕ) → k < 2 ^ 64 → ReadsBack 0 (json_number (unsigned k))
number_back k small = record {
  back = ap (option_map json_number) (number_of-decimal k small);
  numbers = IsNumber-decimal k small;
  shallow = omega arith;
  utf8 = decimal_utf8 k (omega arith);
}

pair_back : (n k : ℕ) (d : Data) → k < 2 ^ 64 → ReadsBack n d
    → ReadsBack (suc n) (array (item (json_number (unsigned k)) (item d no_items)))
pair_back n k d small h =
    array_back n (item (json_number (unsigned k)) (item d no_items))
    (deeper 0 n (json_number (unsigned k)) (omega arith) (number_back k small), (h, tt))

null_back : ReadsBack 0 null
null_back = record {
  back = refl;
  numbers = tt;
  shallow = omega arith;
  utf8 = IsUtf8-are_ascii (110 ∷ 117 ∷ 108 ∷ 108 ∷ []) refl;
}

selected_is : (k : ℕ) (d : Data) → k < 256
    → selected (array (item (json_number (unsigned k)) (item d no_items))) ≡ Some (k, d)
selected_is k d small =
    ap (λ b. option_map (λ j. (j, d)) (cond b (Some k) None)) (lt-ltb k 256 small)

union_law : (os : Options) → OptionsBack os → option_count os ≤ most_options → (v : SszValue)
    → Fits (union os) v
    → ReadsBack (option_nesting os + 1) (json_of (union os) v)
    × WalksTo (λ n. json_walk (union os) n (json_of (union os) v)) v
union_law os law few (chosen k v) h =
    let below = law.some k v h in
    let d = option_json os k v in (
      deeper (suc (option_nesting os)) (option_nesting os + 1) _ (omega arith)
          (pair_back (option_nesting os) k d (omega arith) (law.back k v h)),
      λ n. let inner = law.walked k k v h n in (
        inner.0,
        ap (λ o. ok_or o (bad_kind n) >>= λ pair. option_at os pair.0 pair.0 n pair.1)
            (selected_is k d (omega arith)) ∙ inner.1,
      ),
    )
union_law os law few (chosen_none k) h =
    let below = law.least k h in (
      deeper (suc (option_nesting os)) (option_nesting os + 1) _ (omega arith)
          (pair_back (option_nesting os) k null (omega arith)
          (deeper 0 (option_nesting os) null (omega arith) null_back)),
      λ n. (
        next (next n),
        ap (λ o. ok_or o (bad_kind n) >>= λ pair. option_at os pair.0 pair.0 n pair.1)
            (selected_is k null (omega arith)) ∙ law.none k k n h,
      ),
    )
union_law os law few _ h = absurd h

pub union_back : (os : Options) → OptionsBack os → option_count os ≤ most_options
    → BackLaw (union os)
union_back os law few = record {
  back = λ v h. (union_law os law few v h).0;
  walked = λ v h. (union_law os law few v h).1;
}

module _ (os : Options) (rest : OptionsBack os) where
  none_back_at : (k : ℕ) (v : SszValue) → FitsOption (none_option os) k v
      → ReadsBack (option_nesting os) (option_json (none_option os) k v)
  none_back_at zero v h = absurd h
  none_back_at (suc k) v h = rest.back k v h

  none_walk_at : (left k : ℕ) (v : SszValue) → FitsOption (none_option os) left v
      → WalksTo (λ n. option_at (none_option os) left k n (option_json (none_option os) left v))
      (chosen k v)
  none_walk_at zero k v h = absurd h
  none_walk_at (suc left) k v h = rest.walked left k v h

  none_none_at : (left k n : ℕ) → IsNoneOption (none_option os) left
      → option_at (none_option os) left k n null ≡ Ok (chosen_none k, next (next n))
  none_none_at zero k n h = refl
  none_none_at (suc left) k n h = rest.none left k n h

  none_some_at : (k : ℕ) (v : SszValue) → FitsOption (none_option os) k v
      → k < option_count (none_option os)
  none_some_at zero v h = absurd h
  none_some_at (suc k) v h = omega (arith, rest.some k v h)

  none_least_at : (k : ℕ) → IsNoneOption (none_option os) k → k < option_count (none_option os)
  none_least_at zero h = omega arith
  none_least_at (suc k) h = omega (arith, rest.least k h)

  pub none_option_back : OptionsBack (none_option os)
  none_option_back = record {
    back = none_back_at;
    walked = none_walk_at;
    none = none_none_at;
    some = none_some_at;
    least = none_least_at;
  }

module _ (t : SszType) (os : Options) (law : BackLaw t) (rest : OptionsBack os) where
  option_back_at : (k : ℕ) (v : SszValue) → FitsOption (option t os) k v
      → ReadsBack (option_nesting (option t os)) (option_json (option t os) k v)
  option_back_at zero v h =
      deeper (nesting t) (max (nesting t) (option_nesting os)) _ (omega arith) (law.back v h)
  option_back_at (suc k) v h =
      deeper (option_nesting os) (max (nesting t) (option_nesting os)) _ (omega arith)
      (rest.back k v h)

  option_walk_at : (left k : ℕ) (v : SszValue) → FitsOption (option t os) left v
      → WalksTo (λ n. option_at (option t os) left k n (option_json (option t os) left v))
      (chosen k v)
  option_walk_at zero k v h n =
      let inner = law.walked v h (next n) in
      (inner.0, ap (λ r. r >>= λ p. Ok (chosen k p.0, p.1)) inner.1)
  option_walk_at (suc left) k v h n = rest.walked left k v h n

  option_none_at : (left k n : ℕ) → IsNoneOption (option t os) left
      → option_at (option t os) left k n null ≡ Ok (chosen_none k, next (next n))
  option_none_at zero k n h = absurd h
  option_none_at (suc left) k n h = rest.none left k n h

  option_some_at : (k : ℕ) (v : SszValue) → FitsOption (option t os) k v
      → k < option_count (option t os)
  option_some_at zero v h = omega arith
  option_some_at (suc k) v h = omega (arith, rest.some k v h)

  option_least_at : (k : ℕ) → IsNoneOption (option t os) k → k < option_count (option t os)
  option_least_at zero h = absurd h
  option_least_at (suc k) h = omega (arith, rest.least k h)

  pub option_back : OptionsBack (option t os)
  option_back = record {
    back = option_back_at;
    walked = option_walk_at;
    none = option_none_at;
    some = option_some_at;
    least = option_least_at;
  }
