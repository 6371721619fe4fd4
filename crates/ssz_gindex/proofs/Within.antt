-- Which indices lie below which, and what is on the paths to some indices.
use Rattle.std.proofs.Common.{◌≡◌, ℕ, suc, ◌+◌, ◌-◌, ◌*◌, ◌/◌, ◌%◌, ◌^◌, ◌<◌, ◌≤◌, true, eqb, leb, List, [], ◌∷◌, ◌++◌, refl, sym, ap, ◌∙◌, arith, inl, inr}
use Rattle.std.proofs.lemmas.Bool.{or_cases, or_left, or_right, and_parts, and_from, eqb-true, eq-eqb, ne_eqb, leb-true, le-leb, false≢true, cond-true, cond-false}
use Rattle.std.proofs.lemmas.Nat.{shr_split, shr-shr, pow_pos, mod_below, shr_le}
use Rattle.ssz_chunk.specs.Index.{levels, way, digits}
use Rattle.ssz_chunk.proofs.Digits.{way-join, levels-join}
use Rattle.ssz_gindex.specs.Helpers.{sibling, is_within, is_on_paths, greatest}
use Rattle.ssz_gindex.specs.Laws.{contains}

-- an index within a: n levels below it
pub record IsBelow (a g : ℕ) : Type 0 where
  pub n : ℕ
  pub levels : levels g ≡ levels a + n
  pub high : g / 2 ^ n ≡ a

pub below_from : (a g : ℕ) → is_within a g ≡ true → IsBelow a g
below_from a g e =
    let both = and_parts (leb (levels a) (levels g)) (eqb (g / 2 ^ (levels g - levels a)) a) e in
    let le : levels a ≤ levels g = leb-true (levels a) (levels g) both.0 in
    record { n = levels g - levels a; levels = omega arith; high = eqb-true _ _ both.1 }

pub within_from : (a g n : ℕ) → levels g ≡ levels a + n → g / 2 ^ n ≡ a → is_within a g ≡ true
within_from a g n e h =
    let less : levels g - levels a ≡ n = omega arith in
    and_from (leb (levels a) (levels g)) (eqb (g / 2 ^ (levels g - levels a)) a)
    (le-leb (levels a) (levels g) (omega arith)) (eq-eqb _ _ (ap (λ k. g / 2 ^ k) less ∙ h))

-- the way to an index goes on from that to one that it is within
pub way_below : (a g n : ℕ) → 0 < a → g / 2 ^ n ≡ a → way g ≡ way a ++ digits n (g % 2 ^ n)
way_below a g n positive h =
    ap way (sym (shr_split g n)) ∙ ap (λ k. way (k * 2 ^ n + g % 2 ^ n)) h
    ∙ way-join a n (g % 2 ^ n) positive (mod_below g (2 ^ n) (pow_pos n))

-- an index that halves to a, which is not 0, is within it
pub within_halves : (a g n : ℕ) → 0 < a → g / 2 ^ n ≡ a → is_within a g ≡ true
within_halves a g n positive h =
    within_from a g n
    (ap (λ k. levels k) (sym (shr_split g n)) ∙ ap (λ k. levels (k * 2 ^ n + g % 2 ^ n)) h
    ∙ levels-join a n (g % 2 ^ n) positive (mod_below g (2 ^ n) (pow_pos n))) h

pub halves_once : (g n : ℕ) → g / 2 ^ n / 2 ^ 1 ≡ g / 2 ^ suc n
halves_once g n = shr-shr g n 1 ∙ ap (λ k. g / 2 ^ k) (let e : n + 1 ≡ suc n = omega arith in e)

-- what lies below a child lies below its parent
pub within_parent : (a g : ℕ) → 2 ≤ a → is_within a g ≡ true → is_within (a / 2) g ≡ true
within_parent a g large e =
    let below = below_from a g e in
    within_halves (a / 2) g (suc below.n) (omega arith)
    (sym (halves_once g below.n) ∙ ap (λ k. k / 2 ^ 1) below.high)

-- an index that is within another is not less
pub within_least : (a g : ℕ) → is_within a g ≡ true → a ≤ g
within_least a g e =
    let below = below_from a g e in
    let small : g / 2 ^ below.n ≤ g = shr_le g below.n in omega (arith, below.high)

pub within_self : (g : ℕ) → is_within g g ≡ true
within_self g =
    let whole : g / 2 ^ 0 ≡ g = omega arith in within_from g g 0 (omega arith) whole

-- what is within an index that is within another is within that
pub within_trans : (a b c : ℕ) → is_within a b ≡ true → is_within b c ≡ true
    → is_within a c ≡ true
within_trans a b c upper lower =
    let one = below_from a b upper in
    let two = below_from b c lower in
    within_from a c (two.n + one.n) (omega (arith, one.levels, two.levels))
    (sym (shr-shr c two.n one.n) ∙ ap (λ (k : ℕ). k / 2 ^ one.n) two.high ∙ one.high)

-- An index on the paths, and one of those that it is on the path to.
pub record IsAbove (indices : List ℕ) (g : ℕ) : Type 0 where
  pub index : ℕ
  pub among : contains indices index ≡ true
  pub within : is_within g index ≡ true

pub above_from : (indices : List ℕ) (g : ℕ) → is_on_paths indices g ≡ true → IsAbove indices g
above_from [] g e = absurd (false≢true e)
above_from (i ∷ indices) g e = elim (or_cases (is_within g i) (is_on_paths indices g) e) [
  | inl here ↦ record {
    index = i;
    among = or_left (eqb i i) (contains indices i) (eq-eqb i i refl);
    within = here;
  }
  | inr later ↦ (let rest = above_from indices g later in record {
    index = rest.index;
    among = or_right (eqb i rest.index) (contains indices rest.index) rest.among;
    within = rest.within;
  })
]

pub on_paths_from : (indices : List ℕ) (g i : ℕ) → contains indices i ≡ true
    → is_within g i ≡ true → is_on_paths indices g ≡ true
on_paths_from [] g i e within = absurd (false≢true e)
on_paths_from (j ∷ indices) g i e within = elim (or_cases (eqb j i) (contains indices i) e) [
  | inl here ↦ or_left (is_within g j) (is_on_paths indices g)
      (ap (is_within g) (eqb-true j i here) ∙ within)
  | inr later ↦ or_right (is_within g j) (is_on_paths indices g)
      (on_paths_from indices g i later within)
]

pub on_paths-small : (indices : List ℕ) (g : ℕ) → is_on_paths indices g ≡ true
    → g ≤ greatest indices
on_paths-small [] g e = absurd (false≢true e)
on_paths-small (i ∷ indices) g e = elim (or_cases (is_within g i) (is_on_paths indices g) e) [
  | inl here ↦ omega (arith, within_least g i here)
  | inr later ↦ omega (arith, on_paths-small indices g later)
]

pub on_paths_parent : (indices : List ℕ) (g : ℕ) → 2 ≤ g → is_on_paths indices g ≡ true
    → is_on_paths indices (g / 2) ≡ true
on_paths_parent indices g large e =
    let above = above_from indices g e in
    on_paths_from indices (g / 2) above.index above.among
    (within_parent g above.index large above.within)

-- Siblings.

pub sibling-even : (g : ℕ) → g % 2 ≡ 0 → sibling g ≡ g + 1
sibling-even g even = cond-true (eqb (g % 2) 0) (g + 1) (g - 1) (eq-eqb (g % 2) 0 even)

pub sibling-odd : (g : ℕ) → g % 2 ≡ 1 → sibling g ≡ g - 1
sibling-odd g odd =
    cond-false (eqb (g % 2) 0) (g + 1) (g - 1) (ne_eqb (g % 2) 0 (λ even. omega arith))

pub sibling-left : (k : ℕ) → sibling (2 * k) ≡ 2 * k + 1
sibling-left k = sibling-even (2 * k) (omega arith)

pub sibling-right : (k : ℕ) → sibling (2 * k + 1) ≡ 2 * k
sibling-right k = sibling-odd (2 * k + 1) (omega arith) ∙ omega arith
