-- Lists and bitlists of a known length, and vectors.
use Rattle.std.proofs.Common.{◌≡◌, ℕ, ◌<◌, ◌≤◌, [], ◌∷◌, ◌++◌, length, get_or, Some, None, refl, ap, ap₂, ◌∙◌, subst, cond, ltb, arith}
use Rattle.std.proofs.lemmas.Bool.{lt-ltb}
use Rattle.std.proofs.lemmas.Option.{slice_get-get_or}
use Rattle.ssz_schema.specs.declared.path.PathStep.TheVariants.{Index}
use Rattle.ssz_schema.specs.Types.{SszType, vector, list, bitlist}
use Rattle.ssz_schema.specs.Paths.{Path}
use Rattle.ssz_schema.specs.Unfolding.{Types, type_of}
use Rattle.ssz_value.specs.Values.{SszValue, Values, sequence, bits, items, Fits}
use Rattle.ssz_machine.specs.Drawing.{Walk, Change, changes_one, takes_last, adds_one, stays, change_of, drawn_walk, walk_list, walk_bits, drawn, drawn_below, next_seed, seed_after}
use Rattle.ssz_draws.specs.Turns.{HasLength, WalkContinues}

fits_below : (i n : ℕ) (t : SszType) → i < n → cond (ltb i n) (Some t) None ≡ Some t
fits_below i n t below = ap (λ b. cond b (Some t) None) (lt-ltb i n below)

-- on at an element of a vector
pub vector_on : (types : Types) (elem n x : ℕ) (v : SszValue) → drawn_below n x < n
    → Fits (vector (type_of types elem) n) v
    → WalkContinues types (vector (type_of types elem) n) v x (next_seed x) elem
    (Index (drawn_below n x))
vector_on types elem n x (sequence vs) below fit = record {
  value = get_or (items vs) (drawn_below n x) (sequence vs);
  fits = fits_below (drawn_below n x) n (type_of types elem) below;
  there = slice_get-get_or (items vs) (drawn_below n x) (sequence vs) (omega (arith, fit.0));
  on = λ path. refl;
}
vector_on types elem n x _ below fit = absurd fit

-- on at an element of a list
list_on_here : (types : Types) (elem limit x : ℕ) (vs : Values)
    → change_of (drawn 4 x) (length (items vs)) limit ≡ changes_one
    → drawn_below (length (items vs)) (next_seed x) < length (items vs)
    → length (items vs) ≤ limit
    → WalkContinues types (list (type_of types elem) limit) (sequence vs) x (seed_after 2 x) elem
    (Index (drawn_below (length (items vs)) (next_seed x)))
list_on_here types elem limit x vs change below few =
    let i = drawn_below (length (items vs)) (next_seed x) in
    let u = type_of types elem in
    record {
      value = get_or (items vs) i (sequence vs);
      fits = fits_below i limit u (omega (arith, below, few));
      there = slice_get-get_or (items vs) i (sequence vs) below;
      on = λ path. ap (λ c. walk_list c
          (drawn_walk u (get_or (items vs) i (sequence vs)) (path ++ Index i ∷ []) (seed_after 2 x))
          u
          path (next_seed x)) change;
    }

pub list_on : (types : Types) (elem limit n x : ℕ) (v : SszValue)
    → change_of (drawn 4 x) n limit ≡ changes_one → drawn_below n (next_seed x) < n
    → Fits (list (type_of types elem) limit) v × HasLength n v
    → WalkContinues types (list (type_of types elem) limit) v x (seed_after 2 x) elem
    (Index (drawn_below n (next_seed x)))
list_on types elem limit n x (sequence vs) change below is =
    let Here : ℕ → Type 0 = λ m. change_of (drawn 4 x) m limit ≡ changes_one
    → drawn_below m (next_seed x) < m
    → WalkContinues types (list (type_of types elem) limit) (sequence vs) x (seed_after 2 x) elem
    (Index (drawn_below m (next_seed x))) in
    subst Here is.1
    (λ c b. list_on_here types elem limit x vs c b is.0.0) change below
list_on types elem limit n x (bits bs) change below is = absurd is.0
list_on types elem limit n x _ change below is = absurd is.1

-- a list that is not gone into, by the change that is drawn
pub list_edit : (elem : SszType) (limit n x : ℕ) (change : Change) (v : SszValue)
    → change_of (drawn 4 x) n limit ≡ change → (change ≡ changes_one → ⊥)
    → Fits (list elem limit) v × HasLength n v → (path : Path) (into : Walk)
    → drawn_walk (list elem limit) v path x ≡ walk_list change into elem path (next_seed x)
list_edit elem limit n x change (sequence vs) is other of path into =
    ap (λ c. walk_list c (drawn_walk elem
    (get_or (items vs) (drawn_below (length (items vs)) (next_seed x)) (sequence vs))
    (path ++ Index (drawn_below (length (items vs)) (next_seed x)) ∷ []) (seed_after 2 x)) elem path
    (next_seed x)) (ap (λ m. change_of (drawn 4 x) m limit) of.1 ∙ is)
    ∙ unread change _ into elem path (next_seed x) other
  where
    unread : (change : Change) (one two : Walk) (elem : SszType) (path : Path) (y : ℕ)
        → (change ≡ changes_one → ⊥)
        → walk_list change one elem path y ≡ walk_list change two elem path y
    unread changes_one one two elem path y other = absurd (other refl)
    unread takes_last one two elem path y other = refl
    unread adds_one one two elem path y other = refl
    unread stays one two elem path y other = refl
list_edit elem limit n x change (bits bs) is other of path into = absurd of.0
list_edit elem limit n x change _ is other of path into = absurd of.1

-- a bitlist, by the change that is drawn
pub bits_edit : (limit n x : ℕ) (change : Change) (v : SszValue)
    → change_of (drawn 4 x) n limit ≡ change → Fits (bitlist limit) v × HasLength n v
    → (path : Path) → drawn_walk (bitlist limit) v path x ≡ walk_bits change n path (next_seed x)
bits_edit limit n x change (bits bs) is of path =
    ap₂ (λ c m. walk_bits c m path (next_seed x))
    (ap (λ m. change_of (drawn 4 x) m limit) of.1 ∙ is) of.1
bits_edit limit n x change (sequence vs) is of path = absurd of.0
bits_edit limit n x change _ is of path = absurd of.1
