-- Bytes that are written as digits in the room that they stand in.
use Rattle.std.proofs.Common.{◌≡◌, ℕ, ◌+◌, ◌-◌, ◌*◌, ◌≤◌, List, [], ◌∷◌, ◌++◌, length, take, drop, refl, sym, ap, ap₂, ◌∙◌, append_assoc, arith}
use Rattle.std.proofs.lemmas.List.{drop-drop, drop-take, drop_all, drop_at, length-take-le, take-append-drop, take-take, take_all, take_at}
use Rattle.std.proofs.lemmas.Slice.{take-put_mid_below}
use borrow.Rule.Slice.PartMut.{put_mid}
use Rattle.hex.specs.Hex.{encode_lower, encode_with}

-- the digits of some bytes, then those of others
pub encode_append : (xs ys : List ℕ) → encode_lower xs ++ encode_lower ys ≡ encode_lower (xs ++ ys)
unfolding encode_with
encode_append [] ys = refl
encode_append (x ∷ xs) ys = ap (λ rest. encode_lower (x ∷ []) ++ rest) (encode_append xs ys)

-- what stands behind a place after a write there
behind_write : (room digits : List ℕ) (at wide : ℕ) → at ≤ length room
    → drop at (put_mid at wide room digits) ≡ digits ++ drop (at + wide) room
behind_write room digits at wide inside =
    drop_at (take at room) (digits ++ drop wide (drop at room)) at (length-take-le at room inside)
    ∙ ap (λ rest. digits ++ rest) (drop-drop wide at room)

-- the same bytes of a block, where the bytes up to its end are the same
block_same : (room old : List ℕ) (left wide : ℕ)
    → take (left + wide) room ≡ take (left + wide) old
    → take wide (drop left room) ≡ take wide (drop left old)
block_same room old left wide unread =
    sym (drop-take left wide room) ∙ ap (drop left) unread ∙ drop-take left wide old

-- what is left of some bytes: a block, and the bytes behind it
from_block : (old : List ℕ) (left wide count : ℕ) → left + wide ≤ count
    → take wide (drop left old) ++ drop (left + wide) (take count old) ≡ drop left (take count old)
from_block old left wide count within =
    ap₂ (λ (xs ys : List ℕ). xs ++ ys)
    (sym (block_same (take count old) old left wide (take-take (left + wide) count old within)))
    (sym (drop-drop wide left (take count old)))
    ∙ take-append-drop wide (drop left (take count old))

-- the bytes up to a block's end, by where the block begins
up_to_end : (room old : List ℕ) (left end : ℕ) → left + 32 ≡ end → take end room ≡ take end old
    → take (left + 32) room ≡ take (left + 32) old
up_to_end room old left end sum unread =
    ap (λ (n : ℕ). take n room) sum ∙ unread ∙ sym (ap (λ (n : ℕ). take n old) sum)

-- a block's digits are written in front of those behind it
pub block_written : (room digits old : List ℕ) (from count left end wide : ℕ) → left + 32 ≡ end
    → wide ≡ 64
    → end ≤ count → from + 2 * count ≡ length room → take end room ≡ take end old
    → digits ≡ encode_lower (take 32 (drop left room))
    → drop (from + 2 * end) room ≡ encode_lower (drop end (take count old))
    → drop (from + 2 * left) (put_mid (from + 2 * left) wide room digits)
    ≡ encode_lower (drop left (take count old))
block_written room digits old from count left end wide sum block within long unread is written =
    let inside : from + 2 * left ≤ length room = omega (arith, long, sum) in
    let next : from + 2 * left + wide ≡ from + 2 * end = omega (arith, sum, block) in
    behind_write room digits (from + 2 * left) wide inside
    ∙ ap₂ (λ (xs ys : List ℕ). xs ++ ys)
    (is ∙ ap encode_lower (block_same room old left 32 (up_to_end room old left end sum unread)))
    (ap (λ (n : ℕ). drop n room) next ∙ written
    ∙ ap (λ (n : ℕ). encode_lower (drop n (take count old))) (sym sum))
    ∙ encode_append (take 32 (drop left old)) (drop (left + 32) (take count old))
    ∙ ap encode_lower (from_block old left 32 count (omega (arith, sum)))

-- and the bytes in front of the block are as they were
pub front_unread : (room digits old : List ℕ) (from left end wide : ℕ) → left + 32 ≡ end
    → from + 2 * left ≤ length room → take end room ≡ take end old
    → take left (put_mid (from + 2 * left) wide room digits) ≡ take left old
front_unread room digits old from left end wide sum inside unread =
    let early : left ≤ end = omega (arith, sum) in
    take-put_mid_below (from + 2 * left) wide room digits left (omega arith) inside
    ∙ sym (take-take left end room early) ∙ ap (take left) unread ∙ take-take left end old early

-- the first bytes, fewer than a block, are written last
pub first_written : (room new old : List ℕ) (from count left : ℕ) → left ≤ count
    → take left room ≡ take left old
    → drop from new ≡ encode_lower (take left room) ++ drop (from + 2 * left) room
    → drop (from + 2 * left) room ≡ encode_lower (drop left (take count old))
    → drop from new ≡ encode_lower (take count old)
first_written room new old from count left within unread last written =
    last
    ∙ ap₂ (λ (xs ys : List ℕ). xs ++ ys)
    (ap encode_lower (unread ∙ sym (take-take left count old within))) written
    ∙ encode_append (take left (take count old)) (drop left (take count old))
    ∙ ap encode_lower (take-append-drop left (take count old))

-- two texts are written to the front
pub fronts_put : (front word first second room : List ℕ) → first ≡ front → second ≡ word
    → put_mid (length front) (length front + length word - length front)
    (first ++ drop (length front) room) second
    ≡ front ++ (word ++ drop (length front + length word) room)
fronts_put front word first second room one two =
    let rest : List ℕ = drop (length front) room in
    let wide : ℕ = length front + length word - length front in
    let whole : length front + wide ≡ length front + length word = omega arith in
    let long : length first ≡ length front = ap length one in
    ap₂ (λ (xs ys : List ℕ). xs ++ ys) (take_at first rest (length front) long ∙ one)
    (ap₂ (λ (xs ys : List ℕ). xs ++ ys) two
    (ap (drop wide) (drop_at first rest (length front) long) ∙ drop-drop wide (length front) room
    ∙ ap (λ (n : ℕ). drop n room) whole))

-- two texts stand in front of digits
pub fronts_written : (front word before new digits : List ℕ)
    → new ≡ front ++ (word ++ drop (length front + length word) before)
    → drop (length front + length word) before ≡ digits → new ≡ front ++ (word ++ digits)
fronts_written front word before new digits is written =
    is ∙ ap (λ (xs : List ℕ). front ++ (word ++ xs)) written

-- the bytes are still in front when room is made behind them
pub resized_front : (bytes more : List ℕ) (count end : ℕ) → length bytes ≡ count → count ≤ end
    → take count (take end bytes ++ more) ≡ bytes
resized_front bytes more count end long within =
    ap (λ (xs : List ℕ). take count (xs ++ more)) (take_all end bytes (omega (arith, long, within)))
    ∙ take_at bytes more count long

-- a line feed behind all
pub line_joined : (front word digits : List ℕ)
    → (front ++ (word ++ digits)) ++ 10 ∷ [] ≡ front ++ (word ++ (digits ++ 10 ∷ []))
line_joined front word digits =
    append_assoc front (word ++ digits) (10 ∷ [])
    ∙ ap (λ xs. front ++ xs) (append_assoc word digits (10 ∷ []))

encode_none : encode_lower [] ≡ []
unfolding encode_with
encode_none = refl

-- nothing is written to begin with
pub none_written : (room : List ℕ) (from count : ℕ) → from + 2 * count ≡ length room
    → drop (from + 2 * count) room ≡ encode_lower (drop count (take count room))
none_written room from count long =
    let some = length-take-le count room (omega (arith, long)) in
    drop_all (from + 2 * count) room (omega (arith, long))
    ∙ sym (ap encode_lower (drop_all count (take count room) (omega (arith, some))) ∙ encode_none)
