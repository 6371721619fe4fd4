-- Names that were seen, in an ordered set, and the first that stands twice.
use Rattle.std.proofs.Common.{ℕ, zero, suc, ◌≡◌, ◌<◌, ◌+◌, Bool, true, false, cond, List, [], ◌∷◌, length, map, drop, get_or, Option, Some, bytes_eq, Bor, refl, sym, ap, ap₂, ◌∙◌, arith}
use Rattle.std.specs.Prelude.{not, ◌||◌}
use Rattle.std.specs.List.{list_any}
use Rattle.std.specs.Ordering.{is_eq, nat_cmp}
use Rattle.std.specs.Cmp.Lexicographic.{slice_cmp}
use Rattle.std.specs.BTreeSet.{BTreeSet, contains, Updates}
use Rattle.std.proofs.lemmas.Map.Text.{is_eq-slice_cmp}
use Rattle.ssz_types.specs.Repeats.{first_repeat}
use Rattle.ssz_types.specs.declared.expr.TypeExpr.{TypeExpr}

-- a field as it is written
abbrev pub Written : Type 0
Written = List ℕ × TypeExpr

abbrev pub names_of : List Written → List (List ℕ)
names_of fields = map (λ f. f.0) fields

-- the elements from one on are this one and those behind it
pub drop_at : {X : Type 0} (xs : List X) (i : ℕ) (x : X) → i < length xs → x ≡ get_or xs i x
    → drop i xs ≡ x ∷ drop (i + 1) xs
drop_at [] i x h e = absurd (omega arith)
drop_at (y ∷ xs) zero x h e = λ i. sym e i ∷ xs
drop_at (y ∷ xs) (suc i) x h e =
    (let next : suc (i + 1) ≡ suc i + 1 = omega arith in
    drop_at xs i x (omega arith) e ∙ ap (λ n. x ∷ drop n (y ∷ xs)) next)

abbrev Key : Type 0
Key = Bor (List ℕ)

abbrev key_cmp : Key → Key → Rattle.std.specs.declared.cmp.Ordering.Ordering
key_cmp a b = slice_cmp nat_cmp a.now b.now

abbrev key : List ℕ → Key
key name = record { ref_ptr = (0, 0); now = name }

-- the set has exactly these names
pub record Has (set : BTreeSet Key) (names : List (List ℕ)) : Type 0 where
  pub same : (name : List ℕ) → contains key_cmp set (key name)
      ≡ list_any (λ other. bytes_eq other name) names

-- the search has come as far as number i
pub record SearchedTo (set : BTreeSet Key) (fields : List Written) (i : ℕ) : Type 0 where
  pub seen : List (List ℕ)
  pub has : Has set seen
  pub rest : first_repeat seen i (names_of (drop i fields)) ≡ first_repeat [] 0 (names_of fields)

pub SearchedTo-start : (set : BTreeSet Key) (fields : List Written) → set.keys ≡ []
    → SearchedTo set fields 0
SearchedTo-start set fields none = record {
  seen = [];
  has = record {
    same = λ name. ap (λ ks. list_any (λ k. is_eq (slice_cmp nat_cmp name k.now)) ks)
        none;
  };
  rest = refl;
}

-- what is left of the search begins with the field
abbrev from_field : (seen : List (List ℕ)) (fields : List Written) (i : ℕ) → Written → Bool
    → Option ℕ
from_field seen fields i field b =
    cond b (Some i) (first_repeat (field.0 ∷ seen) (i + 1) (names_of (drop (i + 1) fields)))

at_field : (set : BTreeSet Key) (fields : List Written) (i : ℕ) (field : Written)
    (h : SearchedTo set fields i) → i < length fields → field ≡ get_or fields i field
    → from_field h.seen fields i field (list_any (λ other. bytes_eq other field.0) h.seen)
    ≡ first_repeat [] 0 (names_of fields)
at_field set fields i field h below at =
    sym (ap (λ fs. first_repeat h.seen i (names_of fs)) (drop_at fields i field below at)) ∙ h.rest

has_key : (set : BTreeSet Key) (names : List (List ℕ)) (k : Key) (name : List ℕ) → Has set names
    → k.now ≡ name → contains key_cmp set k ≡ list_any (λ other. bytes_eq other name) names
has_key set names k name h e = h.same k.now ∙ ap (λ n. list_any (λ other. bytes_eq other n) names) e

either : (a b : Bool) → cond a true b ≡ (a || b)
either true b = refl
either false b = refl

-- the field has a name that was seen
pub repeat_found : (set : BTreeSet Key) (fields : List Written) (i : ℕ) (field : Written) (k : Key)
    (added : Bool) → SearchedTo set fields i → i < length fields → field ≡ get_or fields i field
    → k.now ≡ field.0
    → added ≡ not (contains key_cmp set k) → added ≡ false
    → Some i ≡ first_repeat [] 0 (names_of fields)
repeat_found set fields i field k added h below at named is none =
    let seen : list_any (λ other. bytes_eq other field.0) h.seen ≡ true =
    sym (has_key set h.seen k field.0 h.has named) ∙ was (contains key_cmp set k) (sym is ∙ none) in
    sym (ap (from_field h.seen fields i field) seen) ∙ at_field set fields i field h below at
  where
    was : (b : Bool) → not b ≡ false → b ≡ true
    was true e = refl
    was false e = cc

-- the field's name is new, and is among the seen
pub SearchedTo-more : (set new : BTreeSet Key) (fields : List Written) (i : ℕ) (field : Written)
    (k : Key) (added : Bool) → SearchedTo set fields i → i < length fields
    → field ≡ get_or fields i field → k.now ≡ field.0
    → added ≡ not (contains key_cmp set k) → added ≡ true → Updates key_cmp set new k true
    → SearchedTo new fields (i + 1)
SearchedTo-more set new fields i field k added h below at named is fresh update =
    let unseen : list_any (λ other. bytes_eq other field.0) h.seen ≡ false =
    sym (has_key set h.seen k field.0 h.has named)
    ∙ was (contains key_cmp set k) (sym is ∙ fresh) in
    record {
      seen = field.0 ∷ h.seen;
      has = record {
        same = λ name.
            update.0 (key name) ∙ either (is_eq (slice_cmp nat_cmp k.now name))
            (contains key_cmp set (key name))
            ∙ ap₂ ◌||◌ (is_eq-slice_cmp k.now name ∙ ap (λ n. bytes_eq n name) named)
            (h.has.same name);
      };
      rest = sym (ap (from_field h.seen fields i field) unseen)
          ∙ at_field set fields i field h below at;
    }
  where
    was : (b : Bool) → not b ≡ true → b ≡ false
    was true e = cc
    was false e = refl
