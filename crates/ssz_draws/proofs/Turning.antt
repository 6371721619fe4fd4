-- What is drawn at a part, by its type.
use Rattle.std.proofs.Common.{◌≡◌, ℕ, ◌<◌, ◌≤◌, ◌^◌, List, [], ◌∷◌, ◌++◌, length, get_or, slice_get, Option, Some, None, refl, sym, ap, ap₂, ◌∙◌, subst, arith, ◌⊎◌}
use Rattle.std.specs.Prelude.{Result, Ok, Err, IfOk, OnOk}
use Rattle.std.specs.declared.alloc.AllocError.{AllocError}
use Rattle.std.specs.List.{AllByRecursion}
use Rattle.ssz_chunk.specs.Tree.{Tree}
use Rattle.ssz_schema.specs.format.Format.{Format}
use Rattle.ssz_schema.specs.declared.path.PathStep.TheVariants.{Field, Index}
use Rattle.ssz_schema.specs.Types.{SszType, Options, container, vector, list, bitvector, bitlist, union}
use Rattle.ssz_schema.specs.Legal.{IsLegal}
use Rattle.ssz_schema.specs.Sizes.{basic_size, field_count}
use Rattle.ssz_schema.specs.Unfolding.{Types, type_of, fields_over, options_over}
use Rattle.ssz_script.specs.declared.statement.Statement.{Statement}
use Rattle.ssz_script.specs.declared.statement.Statement.TheVariants as edit
use Rattle.ssz_value.specs.Values.{SszValue, sequence, bits, chosen, chosen_none, items, Fits}
use Rattle.ssz_value.specs.Trees.{mixed_in, tree}
use Rattle.ssz_places.specs.PlaceLaws.{IsTreeOf}
use Rattle.ssz_places.proofs.Parts.{FitsOption-below, IsNoneOption-below}
use Rattle.ssz_places.proofs.Steps.{limits_small}
use Rattle.ssz_schema.proofs.StepLemmas.{part_below}
use Rattle.ssz_schema.proofs.SumLemmas.{field_count-over, Part}
use Rattle.ssz_machine.specs.Drawing.{walk_field, comes_to, worked, change_of, changes_one, drawn, drawn_below, drawn_bit, next_seed, seed_after}
use Rattle.ssz_draws.specs.declared.turn.Turn.{Turn}
use Rattle.ssz_draws.specs.declared.turn.Turn.TheVariants.{On, Set, SetBit, Pop, Append, Choose, Stop}
use Rattle.ssz_draws.specs.Turns.{IsDrawnTurn, IsSeen, WalkContinues, HasLength, IsChosen}
use Rattle.ssz_draws.proofs.Lengths.{bits_edit, list_on, vector_on}
use Rattle.ssz_draws.proofs.Choices.{chosen_edit}
use Rattle.ssz_draws.proofs.Fields.{named, field_walk}

-- what is known of a value may be more than is asked
pub turn_known : (types : Types) (before : ℕ) (t : SszType) (Asked Known : SszValue → Type 0)
    (x next : ℕ) (turn : Turn) → ((v : SszValue) → Known v → Asked v)
    → IsDrawnTurn types before t Asked x next turn → IsDrawnTurn types before t Known x next turn
turn_known types before t Asked Known x next (On part step) less is =
    (is.0, λ v known. is.1 v (less v known))
turn_known types before t Asked Known x next (Set bytes) less is = λ v known. is v (less v known)
turn_known types before t Asked Known x next (SetBit i bytes) less is =
    λ v known. is v (less v known)
turn_known types before t Asked Known x next Pop less is = λ v known. is v (less v known)
turn_known types before t Asked Known x next (Append bytes) less is = λ v known. is v (less v known)
turn_known types before t Asked Known x next (Choose k) less is = λ v known. is v (less v known)
turn_known types before t Asked Known x next Stop less is = λ v known. is v (less v known)

-- the edit that a turn comes to
pub ends : (edit other : Statement) (x y : ℕ) → edit ≡ other → x ≡ y
    → comes_to edit x ≡ record { edit = Some other; seed = y }
ends edit other x y same next = ap₂ (λ e s. comes_to e s) same next

-- of a composite type the tree is seen
pub seen_tree : (t : SszType) (tree : Tree) (v : SszValue) → basic_size t ≡ None
    → IsSeen t tree v → IsTreeOf t v tree
seen_tree t tree v composite seen = seen composite

-- on at a field of a container
pub field_on : (types : Types) (before : ℕ) (parts : List Part) (part : Part) (x i : ℕ)
    → AllByRecursion (λ p. p.1 < before) parts
    → (format : Format) → IsLegal format (container (fields_over types.trees parts))
    → i ≡ drawn (length parts) x → i < length parts → part ≡ get_or parts i part
    → IsDrawnTurn types before (container (fields_over types.trees parts))
    (Fits (container (fields_over types.trees parts))) x (next_seed x)
    (On part.1 (Field part.0))
field_on types before parts part x i all format legal is below at =
    (part_below before parts i part all below at, goes)
  where
    goes : (v : SszValue) → Fits (container (fields_over types.trees parts)) v
        → WalkContinues types (container (fields_over types.trees parts)) v x (next_seed x) part.1
        (Field part.0)
    goes (sequence vs) fit =
        let fs = fields_over types.trees parts in
        let name = named types.trees parts i part below at legal.2 in
        let way = field_walk types.trees parts (items vs) i part fit below at in
        let count : drawn (field_count fs) x ≡ i =
        ap (λ n. drawn n x) (field_count-over types.trees parts) ∙ sym is in
        record {
          value = way.value;
          fits = name.type_at;
          there = ap (slice_get (items vs)) name.number ∙ way.there;
          on = λ path. ap (λ n. walk_field fs (items vs) n path (next_seed x)) count
              ∙ way.walks path (next_seed x);
        }
    goes _ fit = absurd fit

-- how a number that is mixed in is read
abbrev pub Reads : Tree → ℕ → Type 0
Reads tree result = (n : ℕ) (content : Tree) → tree ≡ mixed_in n content → n < 2 ^ 64 → result ≡ n

-- the number beside a list is its length
pub list_seen : (format : Format) (elem : SszType) (limit n : ℕ) (tree : Tree)
    → IsLegal format (list elem limit) → Reads tree n → (v : SszValue)
    → IsSeen (list elem limit) tree v → Fits (list elem limit) v × HasLength n v
list_seen format elem limit n tree legal reads v seen = go v (seen refl)
  where
    go : (v : SszValue) → IsTreeOf (list elem limit) v tree
        → Fits (list elem limit) v × HasLength n v
    go (sequence vs) of =
        let few : length (items vs) ≤ limit = of.fits.0 in
        let small : length (items vs) < 2 ^ 64 = omega (arith, few, legal.1, limits_small format) in
        (of.fits, sym (reads (length (items vs)) _ of.is small))
    go _ of = absurd of.fits

pub bits_seen : (format : Format) (limit n : ℕ) (tree : Tree)
    → IsLegal format (bitlist limit) → Reads tree n → (v : SszValue)
    → IsSeen (bitlist limit) tree v → Fits (bitlist limit) v × HasLength n v
bits_seen format limit n tree legal reads v seen = go v (seen refl)
  where
    go : (v : SszValue) → IsTreeOf (bitlist limit) v tree
        → Fits (bitlist limit) v × HasLength n v
    go (bits bs) of =
        let few : length bs ≤ limit = of.fits in
        let small : length bs < 2 ^ 64 = omega (arith, few, legal.0, limits_small format) in
        (of.fits, sym (reads (length bs) _ of.is small))
    go _ of = absurd of.fits

-- the number beside a union is its selector
pub union_seen : (format : Format) (os : Options) (n : ℕ) (tree : Tree)
    → IsLegal format (union os) → Reads tree n → (v : SszValue)
    → IsSeen (union os) tree v → IsChosen (union os) n v
union_seen format os n tree legal reads v seen = go v (seen refl)
  where
    go : (v : SszValue) → IsTreeOf (union os) v tree → IsChosen (union os) n v
    go (chosen k w) of =
        let below = FitsOption-below os k w of.fits in
        let small : k < 2 ^ 64 = omega (arith, below, legal.1) in
        (of.fits, sym (reads k _ of.is small))
    go (chosen_none k) of =
        let below = IsNoneOption-below os k of.fits in
        let small : k < 2 ^ 64 = omega (arith, below, legal.1) in
        (of.fits, sym (reads k _ of.is small))
    go _ of = absurd of.fits

-- a turn that is another one
pub turn_is : (types : Types) (before : ℕ) (t : SszType) (Known : SszValue → Type 0) (x next : ℕ)
    (turn other : Turn) → turn ≡ other → IsDrawnTurn types before t Known x next other
    → IsDrawnTurn types before t Known x next turn
turn_is types before t Known x next turn other same is =
    subst (IsDrawnTurn types before t Known x next) (sym same) is

-- an answer of which two things are so
pub if_ok : {T E : Type 0} (r : Result T E) (P R : T → Type 0) (Q : Type 0) → IfOk r P → OnOk r Q
    → ((x : T) → P x → Q → R x) → IfOk r R
if_ok (Ok x) P R Q p q so = so x p q
if_ok (Err e) P R Q p q so = tt

-- an answer of which one thing is so
pub ok_so : {T E : Type 0} (r : Result T E) (P R : T → Type 0) → IfOk r P
    → ((x : T) → P x → R x) → IfOk r R
ok_so (Ok x) P R p so = so x p
ok_so (Err e) P R p so = tt

-- a bit of a bitvector is set
pub vector_bit : (types : Types) (before n : ℕ) (Known : SszValue → Type 0) (x next : ℕ)
    (turn : Turn) → turn ≡ SetBit (drawn_below n x) (drawn_bit (next_seed x))
    → next ≡ seed_after 2 x → IsDrawnTurn types before (bitvector n) Known x next turn
vector_bit types before n Known x next turn same is =
    turn_is types before (bitvector n) Known x next turn
    (SetBit (drawn_below n x) (drawn_bit (next_seed x))) same
    (λ v known path. ap (λ (s : ℕ). comes_to (edit.Set worked
    (path ++ Index (drawn_below n x) ∷ []) (drawn_bit (next_seed x))) s) (sym is))

-- a bit of a bitlist is set
pub list_bit : (types : Types) (before limit n : ℕ) (x next : ℕ) (turn : Turn)
    → change_of (drawn 4 x) n limit ≡ changes_one
    → turn ≡ SetBit (drawn_below n (next_seed x)) (drawn_bit (next_seed (next_seed x)))
    → next ≡ seed_after 2 (next_seed x)
    → IsDrawnTurn types before (bitlist limit)
    (λ v. Fits (bitlist limit) v × HasLength n v) x next turn
list_bit types before limit n x next turn change same is =
    turn_is types before (bitlist limit) (λ v. Fits (bitlist limit) v × HasLength n v) x next turn
    (SetBit (drawn_below n (next_seed x)) (drawn_bit (next_seed (next_seed x)))) same
    (λ v known path. bits_edit limit n x changes_one v change known path
    ∙ ap (λ (s : ℕ). comes_to (edit.Set worked (path ++ Index (drawn_below n (next_seed x)) ∷ [])
    (drawn_bit (next_seed (next_seed x)))) s) (sym is))

-- an option is chosen
pub option_turn : (types : Types) (before : ℕ) (ids : List (Option ℕ)) (k x next : ℕ) (turn : Turn)
    → ((drawn 2 x ≡ 1 → ⊥) ⊎ ((part : ℕ) → slice_get ids k ≡ Some (Some part) → ⊥))
    → turn ≡ Choose (drawn (length ids) (next_seed x)) → next ≡ next_seed (next_seed x)
    → IsDrawnTurn types before (union (options_over types.trees ids))
    (IsChosen (union (options_over types.trees ids)) k) x next turn
option_turn types before ids k x next turn why same is =
    let t = union (options_over types.trees ids) in
    turn_is types before t (IsChosen t k) x next turn (Choose (drawn (length ids) (next_seed x)))
    same
    (λ v known path. chosen_edit types.trees ids k x v why known path
    ∙ ap (λ (s : ℕ). comes_to (edit.Choose worked path (drawn (length ids) (next_seed x)) None) s)
    (sym is))

-- a turn at the type of a number, by its form
pub turn_of_type : (types : Types) (id : ℕ) (t : SszType) (tree : Tree) (x next : ℕ) (turn : Turn)
    → t ≡ type_of types id → IsDrawnTurn types id t (IsSeen t tree) x next turn
    → IsDrawnTurn types id (type_of types id) (IsSeen (type_of types id) tree) x next turn
turn_of_type types id t tree x next turn same is =
    subst (λ (s : SszType). IsDrawnTurn types id s (IsSeen s tree) x next turn) same is

pub answer_of_type : (types : Types) (id : ℕ) (t : SszType) (tree : Tree) (x next : ℕ)
    (answer : Result Turn AllocError) (Asked : SszValue → Type 0) → t ≡ type_of types id
    → ((v : SszValue) → IsSeen t tree v → Asked v)
    → IfOk answer (IsDrawnTurn types id t Asked x next)
    → IfOk answer (IsDrawnTurn types id (type_of types id) (IsSeen (type_of types id) tree) x next)
answer_of_type types id t tree x next (Ok turn) Asked same less is =
    turn_of_type types id t tree x next turn same
    (turn_known types id t Asked (IsSeen t tree) x next turn less is)
answer_of_type types id t tree x next (Err e) Asked same less is = tt

-- on at an element of a list
pub list_goes : (types : Types) (elem limit n x y next i : ℕ) (v : SszValue)
    → change_of (drawn 4 x) n limit ≡ changes_one → y ≡ next_seed x → i ≡ drawn_below n y
    → next ≡ next_seed y → i < n → Fits (list (type_of types elem) limit) v × HasLength n v
    → WalkContinues types (list (type_of types elem) limit) v x next elem (Index i)
list_goes types elem limit n x y next i v change first drawn then below known =
    let t = list (type_of types elem) limit in
    let at : drawn_below n (next_seed x) ≡ i = ap (drawn_below n) (sym first) ∙ sym drawn in
    let state : seed_after 2 x ≡ next = ap next_seed (sym first) ∙ sym then in
    subst (λ (s : ℕ). WalkContinues types t v x s elem (Index i)) state
    (subst (λ (k : ℕ). WalkContinues types t v x (seed_after 2 x) elem (Index k)) at
    (list_on types elem limit n x v change (omega (arith, at, below)) known))

-- on at an element of a vector
pub vector_turn : (types : Types) (before elem n x next i : ℕ) (tree : Tree) → elem < before
    → i ≡ drawn_below n x → i < n → next ≡ next_seed x
    → IsDrawnTurn types before (vector (type_of types elem) n)
    (IsSeen (vector (type_of types elem) n)
    tree) x next (On elem (Index i))
vector_turn types before elem n x next i tree less drawn below then = (
  less,
  λ v seen. (let t = vector (type_of types elem) n in
      subst (λ (s : ℕ). WalkContinues types t v x s elem (Index i)) (sym then)
      (subst (λ (k : ℕ). WalkContinues types t v x (next_seed x) elem (Index k)) (sym drawn)
      (vector_on types elem n x v (omega (arith, drawn, below)) (seen refl).fits))),
)
