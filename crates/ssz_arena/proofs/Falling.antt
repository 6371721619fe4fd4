-- Where a root was made, fewer pairs are without one.
use Rattle.std.proofs.Common.{◌≡◌, ℕ, zero, suc, ◌<◌, ◌≤◌, Bool, true, false, cond, List, [], ◌∷◌, length, get_or, take, refl, ap, ◌∙◌, slice_get, Some, None, arith}
use Rattle.std.specs.List.{count_by}
use Rattle.std.proofs.lemmas.Bool.{false≢true}
use Rattle.std.proofs.lemmas.List.Sums.{sum_by-cons}
use Rattle.std.proofs.lemmas.Option.{none-some, same_Some, slice_get-get_or}
use Rattle.ssz_arena.specs.declared.node.NodeId.{NodeId}
use Rattle.ssz_arena.specs.declared.node.Node.{Node}
use Rattle.ssz_arena.specs.declared.node.Node.TheVariants.{Leaf, Pair}
use Rattle.ssz_arena.specs.Content.{is_unhashed, todo_at, todos}
use Rattle.ssz_arena.proofs.Nodes.{due, due_is}

-- something is to be hashed at a pair without a root alone
unhashed_due : (before : List ℕ) (node : Node) → is_unhashed node ≡ true → 0 < todo_at before node
unhashed_due before (Leaf chunk) is = absurd (false≢true is)
unhashed_due before (Pair left right (Some chunk)) is = absurd (false≢true is)
unhashed_due before (Pair left right None) is = omega arith

due_unhashed : (before : List ℕ) (node : Node) → 0 < todo_at before node → is_unhashed node ≡ true
due_unhashed before (Leaf chunk) some = absurd (omega arith)
due_unhashed before (Pair left right (Some chunk)) some = absurd (omega arith)
due_unhashed before (Pair left right None) some = refl

due_none : (before : List ℕ) (node : Node) → todo_at before node ≡ 0 → is_unhashed node ≡ false
due_none before (Leaf chunk) none = refl
due_none before (Pair left right (Some chunk)) none = refl
due_none before (Pair left right None) none = absurd (omega arith)

-- what a node adds to the count
abbrev flag : Bool → ℕ
flag b = cond b 1 0

abbrev adds : Node → ℕ
adds node = flag (is_unhashed node)

count_one : (b c : Bool) → (b ≡ true → c ≡ true) → flag b ≤ flag c
count_one false c then = omega arith
count_one true c then =
    let e : flag c ≡ 1 = ap flag (then refl) in
    omega (arith, e)

-- a pair without a root was so before
abbrev pub StayHashed : List Node → List Node → Type 0
StayHashed olds news = (j : ℕ) (old new : Node) → slice_get olds j ≡ Some old
    → slice_get news j ≡ Some new → is_unhashed new ≡ true → is_unhashed old ≡ true

no_more : (olds news : List Node) → length news ≡ length olds → StayHashed olds news
    → count_by is_unhashed news ≤ count_by is_unhashed olds
no_more [] [] same stay = omega arith
no_more [] (new ∷ news) same stay = absurd (omega arith)
no_more (old ∷ olds) [] same stay = absurd (omega arith)
no_more (old ∷ olds) (new ∷ news) same stay =
    let here = count_one (is_unhashed new) (is_unhashed old) (stay 0 old new refl refl) in
    let rest = no_more olds news (omega arith) (λ j. stay (suc j)) in
    omega (
      arith,
      here,
      rest,
      sum_by-cons adds old olds,
      sum_by-cons adds new news,
    )

one_fewer : (olds news : List Node) → length news ≡ length olds → StayHashed olds news
    → (i : ℕ) (old new : Node) → slice_get olds i ≡ Some old → slice_get news i ≡ Some new
    → is_unhashed old ≡ true → is_unhashed new ≡ false
    → count_by is_unhashed news < count_by is_unhashed olds
one_fewer [] news same stay i old new there now was is = absurd (none-some old there)
one_fewer (a ∷ olds) [] same stay i old new there now was is = absurd (none-some new now)
one_fewer (a ∷ olds) (b ∷ news) same stay zero old new there now was is =
    let first : adds a ≡ 1 = ap adds (same_Some a old there) ∙ ap flag was in
    let second : adds b ≡ 0 = ap adds (same_Some b new now) ∙ ap flag is in
    let rest = no_more olds news (omega arith) (λ j. stay (suc j)) in
    omega (
      arith,
      first,
      second,
      rest,
      sum_by-cons adds a olds,
      sum_by-cons adds b news,
    )
one_fewer (a ∷ olds) (b ∷ news) same stay (suc i) old new there now was is =
    let here = count_one (is_unhashed b) (is_unhashed a) (stay 0 a b refl refl) in
    let rest = one_fewer olds news (omega arith) (λ j. stay (suc j)) i old new there now was is in
    omega (
      arith,
      here,
      rest,
      sum_by-cons adds a olds,
      sum_by-cons adds b news,
    )

-- nowhere is more to be hashed, and at one place there was something and is nothing
pub fewer_unhashed : (olds news : List Node) (i : ℕ) → length news ≡ length olds
    → ((j : ℕ) → due news j ≤ due olds j) → 0 < due olds i → due news i ≡ 0 → i < length olds
    → count_by is_unhashed news < count_by is_unhashed olds
fewer_unhashed olds news i same less was is within =
    let zero_id : NodeId = record { 0 = 0 } in
    let old : Node = get_or olds i (Pair zero_id zero_id None) in
    let new : Node = get_or news i (Pair zero_id zero_id None) in
    let there : slice_get olds i ≡ Some old = slice_get-get_or olds i _ within in
    let now : slice_get news i ≡ Some new = slice_get-get_or news i _ (omega arith) in
    let stay : StayHashed olds news = λ j a b at_old at_new unmade.
    let left = unhashed_due (take j (todos news)) b unmade in
    due_unhashed (take j (todos olds)) a
    (omega (arith, left, less j, due_is olds j a at_old, due_is news j b at_new)) in
    one_fewer olds news same stay i old new there now
    (due_unhashed (take i (todos olds)) old (omega (arith, was, due_is olds i old there)))
    (due_none (take i (todos news)) new (omega (arith, is, due_is news i new now)))
