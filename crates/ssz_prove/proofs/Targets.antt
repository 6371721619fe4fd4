-- Which places have an index or a helper at or below them.
use Rattle.std.proofs.Common.{◌≡◌, ◌≢◌, ℕ, zero, suc, ◌+◌, ◌-◌, ◌*◌, ◌/◌, ◌%◌, ◌^◌, ◌<◌, ◌≤◌, true, List, refl, sym, ap, ◌∙◌, subst, arith, ◌⊎◌, inl, inr}
use Rattle.std.proofs.lemmas.Bool.{true≢false, cases_eq, cases_Bool}
use Rattle.std.proofs.Math.Nat.{pow-suc}
use Rattle.std.proofs.lemmas.Nat.{shr-shr, shr_le, shr_high}
use Rattle.ssz_chunk.specs.Index.{levels}
use Rattle.ssz_chunk.proofs.Digits.{has_levels}
use Rattle.ssz_gindex.specs.Helpers.{AreFlat, is_helper, is_on_paths, is_within, sibling}
use Rattle.ssz_gindex.specs.Laws.{contains}
use Rattle.ssz_gindex.proofs.HelperNodes.{half_sibling}
use Rattle.ssz_gindex.proofs.Walking.{contains_is, helper_from, helper_is, sibling_near}
use Rattle.ssz_gindex.proofs.Within.{above_from, below_from, halves_once, on_paths_from, sibling-left, sibling-right, within_halves, within_least, within_self, within_trans}

-- one of the indices, or one of their helpers
abbrev pub IsTarget : List ℕ → ℕ → Type 0
IsTarget asked t = (contains asked t ≡ true) ⊎ (is_helper asked t ≡ true)

-- one of these is at the place, or below it
pub record HasTarget (asked : List ℕ) (q : ℕ) : Type 0 where
  pub target : ℕ
  pub is : IsTarget asked target
  pub within : is_within q target ≡ true

-- one of the indices is below the place
pub record HasBelow (asked : List ℕ) (q : ℕ) : Type 0 where
  pub index : ℕ
  pub among : contains asked index ≡ true
  pub within : is_within q index ≡ true
  pub apart : q ≢ index

-- what is below a place is at one of its children, or below one
pub child_within : (q b : ℕ) → 0 < q → is_within q b ≡ true → q ≢ b
    → (is_within (2 * q) b ≡ true) ⊎ (is_within (2 * q + 1) b ≡ true)
child_within q b positive within apart =
    let below = below_from q b within in
    go below.n below.high
  where
    go : (n : ℕ) → b / 2 ^ n ≡ q
        → (is_within (2 * q) b ≡ true) ⊎ (is_within (2 * q + 1) b ≡ true)
    go zero high = absurd (apart (let e : q ≡ b = omega arith in e))
    go (suc m) high =
        let half : b / 2 ^ m / 2 ≡ q = halves_once b m ∙ high in
        let there : is_within (b / 2 ^ m) b ≡ true =
        within_halves (b / 2 ^ m) b m (omega arith) refl in
        elim (cases_eq (b / 2 ^ m % 2) 0) [
          | inl even ↦ inl (subst (λ (k : ℕ). is_within k b ≡ true)
              (let e : b / 2 ^ m ≡ 2 * q = omega arith in e) there)
          | inr odd ↦ inr (subst (λ (k : ℕ). is_within k b ≡ true)
              (let e : b / 2 ^ m ≡ 2 * q + 1 = omega arith in e) there)
        ]

pub twice_least : (q b : ℕ) → 0 < q → is_within q b ≡ true → q ≢ b → 2 * q ≤ b
twice_least q b positive within apart = elim (child_within q b positive within apart) [
  | inl left ↦ within_least (2 * q) b left
  | inr right ↦ omega (arith, within_least (2 * q + 1) b right)
]

-- below a place that has a helper below it there is an index, too
helper_below : (asked : List ℕ) (q t : ℕ) → 0 < q → is_helper asked t ≡ true
    → is_within q t ≡ true → q ≢ t → HasBelow asked q
helper_below asked q t positive is within apart =
    let helper = helper_is asked t is in
    let above = above_from asked (sibling t) helper.beside in
    let below = below_from q t within in
    go below.n below.high above.index above.among above.within helper.large
  where
    go : (n : ℕ) → t / 2 ^ n ≡ q → (b : ℕ) → contains asked b ≡ true
        → is_within (sibling t) b ≡ true → 2 ≤ t → HasBelow asked q
    go zero high b among beside large = absurd (apart (let e : q ≡ t = omega arith in e))
    go (suc m) high b among beside large =
        let one : 1 + m ≡ suc m = omega arith in
        let up : t / 2 / 2 ^ m ≡ q = shr-shr t 1 m ∙ ap (λ k. t / 2 ^ k) one ∙ high in
        let half : sibling t / 2 ≡ t / 2 = half_sibling t large in
        let across : sibling t / 2 ^ suc m ≡ q =
        ap (λ k. sibling t / 2 ^ k) (sym one) ∙ sym (shr-shr (sibling t) 1 m)
        ∙ ap (λ k. k / 2 ^ m) half ∙ up in
        let upper : is_within q (sibling t) ≡ true =
        within_halves q (sibling t) (suc m) positive across in
        let near = sibling_near t large in
        let small : t / 2 / 2 ^ m ≤ t / 2 = shr_le (t / 2) m in
        record {
          index = b;
          among = among;
          within = within_trans q (sibling t) b upper beside;
          apart = λ e. omega (arith, near.0, within_least (sibling t) b beside, small, up, e);
        }

-- below a place that has one of both below it there is an index
pub target_below : (asked : List ℕ) (q t : ℕ) → 0 < q → IsTarget asked t → is_within q t ≡ true
    → q ≢ t → HasBelow asked q
target_below asked q t positive (inl among) within apart =
    record { index = t; among = among; within = within; apart = apart }
target_below asked q t positive (inr helper) within apart =
    helper_below asked q t positive helper within apart

-- below an index of a flat list there is none, and below a helper there is none
pub none_below : (asked : List ℕ) (q : ℕ) → AreFlat asked → IsTarget asked q
    → HasBelow asked q → ⊥
none_below asked q flat (inl among) below =
    flat q below.index (record {
      upper = contains_is asked q among;
      lower = contains_is asked below.index below.among;
      within = below.within;
      apart = below.apart;
    })
none_below asked q flat (inr helper) below =
    true≢false (sym (on_paths_from asked q below.index below.among below.within)
    ∙ (helper_is asked q helper).off)

-- an index is no helper
pub index_or_helper : (asked : List ℕ) (k : ℕ) → contains asked k ≡ true → is_helper asked k ≡ true
    → ⊥
index_or_helper asked k among helper =
    true≢false (sym (on_paths_from asked k k among (within_self k))
    ∙ (helper_is asked k helper).off)

-- a place beside one with an index has an index, or is a helper
beside_covers : (asked : List ℕ) (c other b : ℕ) → 2 ≤ c → sibling c ≡ other
    → contains asked b ≡ true → is_within other b ≡ true → HasTarget asked c
beside_covers asked c other b large is among within =
    elim (cases_Bool (is_on_paths asked c)) [
      | inl on ↦ (let above = above_from asked c on in record {
        target = above.index;
        is = inl above.among;
        within = above.within;
      })
      | inr off ↦ record {
        target = c;
        is = inr (helper_from asked c (record {
          large = large;
          off = off;
          beside = on_paths_from asked (sibling c) b among
              (subst (λ (k : ℕ). is_within k b ≡ true) (sym is) within);
        }));
        within = within_self c;
      }
    ]

-- both children of a place with an index below it have one or are helpers
pub children_cover : (asked : List ℕ) (q : ℕ) → 0 < q → HasBelow asked q
    → HasTarget asked (2 * q) × HasTarget asked (2 * q + 1)
children_cover asked q positive below =
    elim (child_within q below.index positive below.within below.apart) [
      | inl left ↦ (
        record { target = below.index; is = inl below.among; within = left },
        beside_covers asked (2 * q + 1) (2 * q) below.index (omega arith) (sibling-right q)
            below.among left,
      )
      | inr right ↦ (
        beside_covers asked (2 * q) (2 * q + 1) below.index (omega arith) (sibling-left q)
            below.among right,
        record { target = below.index; is = inl below.among; within = right },
      )
    ]

-- each place is at the root or below it
pub within_root : (k : ℕ) → 0 < k → is_within 1 k ≡ true
within_root k positive =
    let is = has_levels k positive in
    let low : 2 ^ levels k ≤ k = is.low in
    let high : k < 2 ^ suc (levels k) = is.high in
    let twice : 2 ^ suc (levels k) ≡ 2 * 2 ^ levels k = pow-suc 2 (levels k) ∙ omega arith in
    let rest : k ≡ 1 * 2 ^ levels k + (k - 2 ^ levels k) = omega arith in
    within_halves 1 k (levels k) (omega arith)
    (ap (λ n. n / 2 ^ levels k) rest
    ∙ shr_high 1 (levels k) (k - 2 ^ levels k) (omega (arith, low, high, twice)))
