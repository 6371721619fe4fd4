-- Places beside one another in a tree.
use Rattle.std.proofs.Common.{◌≡◌, ◌≢◌, ℕ, zero, suc, ◌+◌, ◌-◌, ◌/◌, ◌%◌, ◌^◌, ◌<◌, ◌≤◌, Bool, true, false, cond, eqb, List, [], ◌∷◌, refl, sym, ap, ◌∙◌, subst, Some, arith, inl, inr}
use Rattle.std.specs.List.{AllByRecursion}
use Rattle.std.proofs.Math.Nat.{pow-suc, div-eq_of_lt-le}
use Rattle.std.proofs.lemmas.Bool.{cases_lt, cases_eq, eqb-true, eqb-false, eq-eqb, ne_eqb, true≢false, or_left, or_right}
use Rattle.std.proofs.lemmas.Nat.{shr-shr, pow_pos, pow-add, le-div, div_below}
use Rattle.std.proofs.lemmas.Option.{none-some}
use Rattle.ssz_chunk.specs.Tree.{Tree, leaf}
use Rattle.ssz_chunk.specs.Index.{levels, way, digits, at, put}
use Rattle.ssz_chunk.specs.declared.Chunk.{Chunk}
use Rattle.ssz_chunk.proofs.Digits.{has_levels, levels_is}
use Rattle.ssz_chunk.proofs.Ways.{at-way, put-way, at_way-put_way, at_way-put_beside, Diverge, Diverge-sym, Diverge-append}
use Rattle.ssz_gindex.specs.Helpers.{is_within}
use Rattle.ssz_gindex.specs.Laws.{contains}
use Rattle.ssz_proof.specs.declared.entry.Entry.{Entry}
use Rattle.ssz_proof.specs.Calculation.{Known, PairOf, indices_of}
use Rattle.ssz_proof.specs.Laws.{HasChunk}
use Rattle.ssz_proof.specs.Changes.{with_chunk}
use Rattle.ssz_gindex.proofs.Within.{within_from, way_below}

-- neither index is within the other
pub record AreBeside (a b : ℕ) : Type 0 where
  pub left : is_within a b ≡ false
  pub right : is_within b a ≡ false

-- the tree with another node at an index
pub record KeepsBeside (old new : Tree) (g : ℕ) (node : Tree) : Type 0 where
  pub there : at new g ≡ Some node
  pub beside : (x : ℕ) → 0 < x → AreBeside g x → at new x ≡ at old x

-- no index is within another
abbrev pub AllBeside : List ℕ → Type 0
AllBeside indices =
    (a b : ℕ) → contains indices a ≡ true → contains indices b ≡ true → a ≢ b → AreBeside a b

-- the digits of different numbers
bit_differs : (p q : ℕ) → p / 2 ≡ q / 2 → p ≢ q → eqb (p % 2) 1 ≢ eqb (q % 2) 1
bit_differs p q e ne same = elim (cases_eq (p % 2) 1) [
  | inl one ↦ (let other : q % 2 ≡ 1 = eqb-true (q % 2) 1 (sym same ∙ eq-eqb (p % 2) 1 one) in
      ne (omega arith))
  | inr none ↦ (let other = eqb-false (q % 2) 1 (sym same ∙ ne_eqb (p % 2) 1 none) in
      ne (omega (arith, other)))
]

digits_differ : (l a c : ℕ) → a / 2 ^ l ≡ c / 2 ^ l → a ≢ c → Diverge (digits l a) (digits l c)
unfolding digits
digits_differ zero a c e ne = absurd (ne (omega arith))
digits_differ (suc l) a c e ne =
    let halves : a / 2 ^ l / 2 ≡ c / 2 ^ l / 2 = halved a l ∙ e ∙ sym (halved c l) in
    elim (cases_eq (a / 2 ^ l) (c / 2 ^ l)) [
      | inl same ↦ inr (ap (λ n. eqb (n % 2) 1) same, digits_differ l a c same ne)
      | inr other ↦ inl (bit_differs (a / 2 ^ l) (c / 2 ^ l) halves other)
    ]
  where
    halved : (n l : ℕ) → n / 2 ^ l / 2 ≡ n / 2 ^ suc l
    halved n l = shr-shr n l 1 ∙ ap (λ k. n / 2 ^ k) (let f : l + 1 ≡ suc l = omega arith in f)

-- what is left of a number above its last digits
top_levels : (b l n : ℕ) → 2 ^ (l + n) ≤ b → b < 2 ^ suc (l + n)
    → (2 ^ l ≤ b / 2 ^ n) × (b / 2 ^ n < 2 ^ suc l)
top_levels b l n low high = (
  le-div (2 ^ l) b (2 ^ n) (pow_pos n) (omega (arith, pow-add 2 l n)),
  div_below b (2 ^ n) (2 ^ suc l) (pow_pos n) (omega (
    arith,
    subst (λ (k : ℕ). b < 2 ^ k) (let f : suc (l + n) ≡ suc l + n = omega arith in f) high,
    pow-add 2 (suc l) n,
  )),
)

top_digit : (l c : ℕ) → 2 ^ l ≤ c → c < 2 ^ suc l → c / 2 ^ l ≡ 1
top_digit l c low high =
    div-eq_of_lt-le {k = 1} (2 ^ l) {m = c} (omega arith) (omega (arith, pow-suc 2 l))

ways_below : (a b : ℕ) → 0 < a → 0 < b → levels a ≤ levels b → is_within a b ≡ false
    → Diverge (way a) (way b)
ways_below a b pos_a pos_b le apart =
    let n : ℕ = levels b - levels a in
    let is : levels b ≡ levels a + n = omega arith in
    let c : ℕ = b / 2 ^ n in
    let of_a = has_levels a pos_a in
    let of_b = has_levels b pos_b in
    let top = top_levels b (levels a) n (subst (λ (k : ℕ). 2 ^ k ≤ b) is of_b.low)
    (subst (λ (k : ℕ). b < 2 ^ suc k) is of_b.high) in
    let pos_c : 0 < c = omega (arith, top.0, pow_pos (levels a)) in
    let same_levels : levels c ≡ levels a = levels_is (levels a) c top.0 top.1 in
    let ne : a ≢ c = (λ e. true≢false (sym (within_from a b n is (sym e)) ∙ apart)) in
    let differ : Diverge (digits (levels a) a) (digits (levels a) c) =
    digits_differ (levels a) a c (top_digit (levels a) a of_a.low of_a.high
    ∙ sym (top_digit (levels a) c top.0 top.1)) ne in
    subst (Diverge (way a)) (sym (way_below c b n pos_c refl))
    (Diverge-append (way a) (way c) (digits n (b % 2 ^ n))
    (subst (λ ds. Diverge (way a) ds) (ap (λ l. digits l c) (sym same_levels)) differ))

ways_beside : (a b : ℕ) → 0 < a → 0 < b → AreBeside a b → Diverge (way a) (way b)
ways_beside a b pos_a pos_b apart = elim (cases_lt (levels b) (levels a)) [
  | inl lt ↦ Diverge-sym (way b) (way a) (ways_below b a pos_b pos_a (omega arith) apart.right)
  | inr ge ↦ ways_below a b pos_a pos_b ge apart.left
]

pub keeps_beside : (old new node : Tree) (g : ℕ) → 0 < g → put old g node ≡ Some new
    → KeepsBeside old new g node
keeps_beside old new node g pos e =
    let made = sym (put-way old g node pos) ∙ e in
    record {
      there = at-way new g pos ∙ at_way-put_way old node new (way g) made;
      beside = λ x pos_x apart. at-way new x pos_x
          ∙ at_way-put_beside old node new (way g) (way x) made (ways_beside g x pos pos_x apart)
          ∙ sym (at-way old x pos_x);
    }

-- chunks at indices beside one another

contains-entry : (entry : Entry) (known : Known)
    → contains (indices_of (entry ∷ known)) entry.index ≡ true
contains-entry entry known =
    or_left (eqb entry.index entry.index) (contains (indices_of known) entry.index)
    (eq-eqb entry.index entry.index refl)

HasChunk-beside : (pair_of : PairOf) (old new : Tree) (g : ℕ) (node : Tree) (entry : Entry)
    → KeepsBeside old new g node → 0 < entry.index → AreBeside g entry.index
    → HasChunk pair_of old entry → HasChunk pair_of new entry
HasChunk-beside pair_of old new g node entry kept pos apart has = record {
  node = has.node;
  found = kept.beside entry.index pos apart ∙ has.found;
  root = has.root;
}

-- where a tree has a node, the index is not 0
pub index_positive : (tree node : Tree) (g : ℕ) → at tree g ≡ Some node → 0 < g
index_positive tree node zero e = absurd (none-some node e)
index_positive tree node (suc n) e = omega arith

new_chunk : (pair_of : PairOf) (new : Tree) (entry : Entry) (chunk : Chunk)
    → at new entry.index ≡ Some (leaf chunk.0)
    → HasChunk pair_of new (record entry { chunk = chunk })
new_chunk pair_of new entry chunk found =
    record { node = leaf chunk.0; found = found; root = refl }

known_edits : (pair_of : PairOf) (old new : Tree) (all rest : Known) (g : ℕ) (chunk : Chunk)
    → AllBeside (indices_of all) → contains (indices_of all) g ≡ true
    → KeepsBeside old new g (leaf chunk.0)
    → ((x : ℕ) → contains (indices_of rest) x ≡ true → contains (indices_of all) x ≡ true)
    → AllByRecursion (HasChunk pair_of old) rest
    → AllByRecursion (HasChunk pair_of new) (with_chunk rest g chunk)
known_edits pair_of old new all [] g chunk flat member kept sub held = tt
known_edits pair_of old new all (entry ∷ rest) g chunk flat member kept sub held = (
  one (eqb entry.index g) refl,
  known_edits pair_of old new all rest g chunk flat member kept
      (λ x e. sub x (or_right (eqb entry.index x) (contains (indices_of rest) x) e)) held.1,
)
  where
    one : (here : Bool) → eqb entry.index g ≡ here
        → HasChunk pair_of new (cond here (record entry { chunk = chunk }) entry)
    one true is =
        new_chunk pair_of new entry chunk
        (ap (at new) (eqb-true entry.index g is) ∙ kept.there)
    one false is =
        HasChunk-beside pair_of old new g (leaf chunk.0) entry kept
        (index_positive old held.0.node entry.index held.0.found)
        (flat g entry.index member (sub entry.index (contains-entry entry rest))
        (λ e. eqb-false entry.index g is (sym e))) held.0

-- the tree with another leaf at one of the known indices has the chunks, but for that one
pub edit_known : (pair_of : PairOf) (old new : Tree) (known : Known) (g : ℕ) (chunk : Chunk)
    → AllBeside (indices_of known) → contains (indices_of known) g ≡ true → 0 < g
    → AllByRecursion (HasChunk pair_of old) known → put old g (leaf chunk.0) ≡ Some new
    → AllByRecursion (HasChunk pair_of new) (with_chunk known g chunk)
edit_known pair_of old new known g chunk flat member pos held e =
    known_edits pair_of old new known known g chunk flat member
    (keeps_beside old new (leaf chunk.0) g pos e) (λ x h. h) held
