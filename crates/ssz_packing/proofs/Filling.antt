-- Parts of one size that are packed, chunk by chunk.
use Rattle.std.proofs.Common.{◌≡◌, ℕ, zero, suc, ◌+◌, ◌-◌, ◌*◌, ◌/◌, ◌%◌, ◌<◌, ◌≤◌, min, List, [], ◌∷◌, ◌++◌, length, take, drop, get_or, replicate, refl, sym, ap, ap₂, subst, ◌∙◌, ⊎_elim, arith, append_assoc, length-append}
use Rattle.std.specs.List.{concat, AllByRecursion}
use Rattle.std.proofs.Math.Nat.{mul-le-mul_left, mod-lt, mod-add-div'}
use Rattle.std.proofs.lemmas.Nat.{div-mul-add}
use Rattle.std.proofs.lemmas.Bool.{cases_lt}
use Rattle.std.proofs.lemmas.List.{take_at, drop_at, take_all, drop-drop, append-nil, take-append-drop}
use Rattle.ssz_value.specs.Trees.{padded}
use Rattle.ssz_merkle.specs.Packing.{packed_chunk}
use Rattle.ssz_merkle.proofs.Padding.{take-padded, drop-zeros}

-- each has so many bytes
abbrev pub AreSized : ℕ → List (List ℕ) → Type 0
AreSized size parts = AllByRecursion (λ part. length part ≡ size) parts

pub length-concat : (size : ℕ) (parts : List (List ℕ)) → AreSized size parts → length (concat parts)
    ≡ length parts * size
length-concat size [] sized = omega arith
length-concat size (part ∷ parts) sized = omega
    (arith, length-append part (concat parts), sized.0, length-concat size parts sized.1)

sized-take : (size k : ℕ) (parts : List (List ℕ)) → AreSized size parts
    → AreSized size (take k parts)
sized-take size zero parts sized = tt
sized-take size (suc k) [] sized = tt
sized-take size (suc k) (part ∷ parts) sized = (sized.0, sized-take size k parts sized.1)

-- the bytes behind the first k parts are those of the others
pub drop-concat : (size k : ℕ) (parts : List (List ℕ)) → AreSized size parts → k ≤ length parts
    → drop (size * k) (concat parts) ≡ concat (drop k parts)
drop-concat size zero parts sized within = let none : size * 0 ≡ 0 = omega arith in
    ap (λ n. drop n (concat parts)) none
drop-concat size (suc k) [] sized within = absurd (omega arith)
drop-concat size (suc k) (part ∷ parts) sized within =
    let more : size * suc k ≡ size + size * k = omega arith in
    ap (λ n. drop n (part ++ concat parts)) more
    ∙ sym (drop-drop (size * k) size (part ++ concat parts))
    ∙ ap (drop (size * k)) (drop_at part (concat parts) size sized.0)
    ∙ drop-concat size k parts sized.1 (omega arith)

concat-append : (front back : List (List ℕ)) → concat (front ++ back) ≡ concat front ++ concat back
concat-append [] back = refl
concat-append (part ∷ front) back = ap (λ rest. part ++ rest) (concat-append front back)
    ∙ sym (append_assoc part (concat front) (concat back))

-- one part more of them
take-next : (parts : List (List ℕ)) (k : ℕ) → k < length parts → take (k + 1) parts ≡ take k parts
    ++ get_or parts k [] ∷ []
take-next parts k within = let e : k + 1 ≡ suc k = omega arith in
    ap (λ n. take n parts) e ∙ more parts k within
  where
    more : (parts : List (List ℕ)) (k : ℕ) → k < length parts → take (suc k) parts ≡ take k parts
        ++ get_or parts k [] ∷ []
    more [] k within = absurd (omega arith)
    more (part ∷ parts) zero within = refl
    more (part ∷ parts) (suc k) within = ap (λ rest. part ∷ rest) (more parts k (omega arith))

sized_at : (size : ℕ) (parts : List (List ℕ)) (k : ℕ) → AreSized size parts → k < length parts
    → length (get_or parts k []) ≡ size
sized_at size [] k sized within = absurd (omega arith)
sized_at size (part ∷ parts) zero sized within = sized.0
sized_at size (part ∷ parts) (suc k) sized within = sized_at size parts k sized.1 (omega arith)

-- the first k parts stand in the 32 bytes, with zeros behind them
pub record IsFilled (size : ℕ) (parts : List (List ℕ)) (k : ℕ) (bytes : List ℕ) : Type 0 where
  pub is : bytes ≡ concat (take k parts) ++ replicate (32 - k * size) 0

pub IsFilled-start : (size : ℕ) (parts : List (List ℕ)) → IsFilled size parts 0 (replicate 32 0)
IsFilled-start size parts = record {
  is = ap (λ n. replicate n (let z : ℕ = 0 in z))
      (let e : 32 ≡ 32 - 0 * size = omega arith in e);
}

length-first : (size k : ℕ) (parts : List (List ℕ)) → AreSized size parts → k ≤ length parts
    → length (concat (take k parts)) ≡ k * size
length-first size k parts sized within =
    length-concat size (take k parts) (sized-take size k parts sized)
    ∙ ap (λ n. n * size) (length-take-le k parts within)
  where
    length-take-le : (k : ℕ) (parts : List (List ℕ)) → k ≤ length parts → length (take k parts) ≡ k
    length-take-le zero parts within = refl
    length-take-le (suc k) [] within = absurd (omega arith)
    length-take-le (suc k) (part ∷ parts) within =
        omega (arith, length-take-le k parts (omega arith))

-- the next part, which is written behind them
pub IsFilled-more : (size : ℕ) (parts : List (List ℕ)) (k : ℕ) (bytes chunk : List ℕ)
    → AreSized size parts → IsFilled size parts k bytes → k < length parts → k * size + size ≤ 32
    → chunk ≡ padded (get_or parts k []) → IsFilled size parts (k + 1)
    (take (k * size) bytes ++ (take size chunk ++ drop (k * size + size) bytes))
IsFilled-more size parts k bytes chunk sized h within room is =
    let done : List ℕ = concat (take k parts) in
    let part : List ℕ = get_or parts k [] in
    let rest : ℕ = 32 - k * size in
    let long : length (concat (take k parts)) ≡ k * size =
    length-first size k parts sized (omega arith) in
    let size_of : length (get_or parts k []) ≡ size = sized_at size parts k sized within in
    let front : take (k * size) bytes ≡ done = ap (take (k * size)) h.is
    ∙ take_at done (replicate rest 0) (k * size) long in
    let short : padded part ≡ part ++ replicate (32 - length part) 0 =
    take-padded 32 32 part (omega arith) (omega arith) in
    let middle : take size chunk ≡ part = ap (take size) (is ∙ short)
    ∙ take_at part (replicate (32 - length part) 0) size size_of in
    let behind : drop (k * size + size) bytes ≡ replicate (32 - (k + 1) * size) 0 =
    sym (drop-drop size (k * size) bytes) ∙ ap (λ b. drop size (drop (k * size) b)) h.is
    ∙ ap (drop size) (drop_at done (replicate rest 0) (k * size) long) ∙ drop-zeros size rest
    ∙ ap (λ n. replicate n (let z : ℕ = 0 in z)) (omega arith) in
    record {
      is = ap₂ (λ a b. a ++ b) front (ap₂ (λ a b. a ++ b) middle behind)
          ∙ sym (append_assoc done part (replicate (32 - (k + 1) * size) 0))
          ∙ ap (λ b. b ++ replicate (32 - (k + 1) * size) 0)
          (sym (ap concat (take-next parts k within) ∙ concat-append (take k parts) (part ∷ [])
          ∙ ap (λ b. done ++ b) (append-nil part)));
    }

-- the chunk is full, or has all parts
pub IsFilled-end : (size : ℕ) (parts : List (List ℕ)) (k : ℕ) (bytes : List ℕ) → AreSized size parts
    → IsFilled size parts k bytes → k ≤ length parts → k * size ≤ 32
    → (k < length parts → k * size ≡ 32) → bytes ≡ padded (concat parts)
IsFilled-end size parts k bytes sized h within room full = ⊎_elim
    (λ (more : k < length parts).
    let long : length (concat (take k parts)) ≡ 32 = length-first size k parts sized within
    ∙ full more in
    let none : 32 - k * size ≡ 0 = omega (arith, full more) in
    let split : concat parts ≡ concat (take k parts) ++ concat (drop k parts) =
    ap concat (sym (take-append-drop k parts)) ∙ concat-append (take k parts) (drop k parts) in
    h.is ∙ ap (λ n. concat (take k parts) ++ replicate n 0) none
    ∙ append-nil (concat (take k parts))
    ∙ sym (ap padded split ∙ ap (take 32) (append_assoc (concat (take k parts))
    (concat (drop k parts)) (replicate 32 0))
    ∙ take_at (concat (take k parts)) (concat (drop k parts) ++ replicate 32 0) 32 long))
    (λ (all : length parts ≤ k).
    let whole : take k parts ≡ parts = take_all k parts all in
    let long : length (concat parts) ≡ k * size = ap (λ ps. length (concat ps)) (sym whole)
    ∙ length-first size k parts sized within in
    h.is ∙ ap (λ ps. concat ps ++ replicate (32 - k * size) 0) whole
    ∙ sym (take-padded 32 32 (concat parts) (omega arith) (omega arith)
    ∙ ap (λ n. concat parts ++ replicate (32 - n) 0) long))
    (cases_lt k (length parts))

-- where a chunk's first part stands, among so many
pub first_within : (size per i count : ℕ) → size * per ≡ 32 → 32 * i < count * size → per * i
    < count
first_within size per i count whole within = ⊎_elim
    (λ (less : per * i < count). less)
    (λ (more : count ≤ per * i).
    let scaled : size * count ≤ size * (per * i) = mul-le-mul_left size more in
    let same : size * (per * i) ≡ 32 * i = regroup size per i ∙ ap (λ n. n * i) whole in
    absurd (omega arith))
    (cases_lt (per * i) count)
  where
    regroup : (a b c : ℕ) → a * (b * c) ≡ a * b * c
    regroup a b c = omega arith

pub sized-drop : (size k : ℕ) (parts : List (List ℕ)) → AreSized size parts
    → AreSized size (drop k parts)
sized-drop size zero parts sized = sized
sized-drop size (suc k) [] sized = tt
sized-drop size (suc k) (part ∷ parts) sized = sized-drop size k parts sized.1

-- chunk i of all parts is that of the parts from its first one on
pub chunk_of-concat : (size per i : ℕ) (parts : List (List ℕ)) → AreSized size parts → size * per
    ≡ 32 → per * i ≤ length parts → padded (concat (drop (per * i) parts))
    ≡ packed_chunk (concat parts) i
chunk_of-concat size per i parts sized whole within =
    let place : size * (per * i) ≡ 32 * i = regroup size per i ∙ ap (λ n. n * i) whole in
    ap padded (sym (drop-concat size (per * i) parts sized within)
    ∙ ap (λ n. drop n (concat parts)) place)
  where
    regroup : (a b c : ℕ) → a * (b * c) ≡ a * b * c
    regroup a b c = omega arith

-- as many parts as there are, and no more than a chunk holds
pub IsFilled-all : (size per k left : ℕ) (parts : List (List ℕ)) (bytes : List ℕ)
    → AreSized size parts → IsFilled size parts k bytes → size * per ≡ 32
    → length parts ≡ left → k ≡ min left per → bytes ≡ padded (concat parts)
IsFilled-all size per k left parts bytes sized h whole count last =
    let within : size * k ≤ size * per = mul-le-mul_left size (omega arith) in
    let turned : k * size ≡ size * k = omega arith in
    IsFilled-end size parts k bytes sized h (omega arith) (omega arith)
    (λ more. let all : k ≡ per = omega arith in turned ∙ ap (λ n. size * n) all ∙ whole)

-- the next part, as it is written into the room between two places
pub IsFilled-put : (size : ℕ) (parts : List (List ℕ)) (k between : ℕ) (bytes chunk written : List ℕ)
    → AreSized size parts → IsFilled size parts k bytes → k < length parts → k * size + size ≤ 32
    → chunk ≡ padded (get_or parts k []) → between ≡ size → written ≡ take size chunk
    → IsFilled size parts (k + 1) (take (k * size) bytes
    ++ (written ++ drop between (drop (k * size) bytes)))
IsFilled-put size parts k between bytes chunk written sized h within room is far same =
    subst (λ b. IsFilled size parts (k + 1) (take (k * size) bytes ++ b))
    (ap₂ (λ a b. a ++ b) (sym same) (sym (drop-drop size (k * size) bytes)
    ∙ ap (λ n. drop n (drop (k * size) bytes)) (sym far)))
    (IsFilled-more size parts k bytes chunk sized h within room is)

-- one part more than so many, of which a chunk holds more
pub room_for : (size per k : ℕ) → size * per ≡ 32 → k < per → k * size + size ≤ 32
room_for size per k whole below =
    let most : size * (k + 1) ≤ size * per = mul-le-mul_left size (omega arith) in
    let turned : k * size + size ≡ size * (k + 1) = omega arith in
    omega arith

-- so many chunks have all parts
pub chunks_of_parts : (size per n : ℕ) → size * per ≡ 32 → (n + (per - 1)) / per
    ≡ (n * size + 31) / 32
chunks_of_parts size per n whole =
    let q : ℕ = (n + (per - 1)) / per in
    let r : ℕ = (n + (per - 1)) % per in
    let some : 0 < per = positive size per whole in
    let one : 0 < size = positive per size (turned per size ∙ whole) in
    let small : r < per = mod-lt (n + (per - 1)) some in
    let parts : n + per ≡ q * per + (r + 1) = omega (arith, mod-add-div' (n + (per - 1)) per) in
    let scaled : (n + per) * size ≡ (q * per + (r + 1)) * size = ap (λ k. k * size) parts in
    let spread : (n + per) * size ≡ n * size + size * per = spread_left n per size in
    let other : (q * per + (r + 1)) * size ≡ q * (size * per) + (r + 1) * size =
    spread_right q per (r + 1) size in
    let tens : q * (size * per) ≡ q * 32 = ap (λ k. q * k) whole in
    let most : size * (r + 1) ≤ size * per = mul-le-mul_left size (omega arith) in
    let least : size * 1 ≤ size * (r + 1) = mul-le-mul_left size (omega arith) in
    let flipped : (r + 1) * size ≡ size * (r + 1) = omega arith in
    let sum : n * size + 31 ≡ q * 32 + ((r + 1) * size - 1) = omega arith in
    sym (ap (λ k. k / 32) sum ∙ div-mul-add q 32 ((r + 1) * size - 1) (omega arith))
  where
    positive : (a b : ℕ) → a * b ≡ 32 → 0 < b
    positive a zero is = absurd (omega arith)
    positive a (suc b) is = omega arith

    turned : (a b : ℕ) → a * b ≡ b * a
    turned a b = omega arith

    spread_left : (n p s : ℕ) → (n + p) * s ≡ n * s + s * p
    spread_left n p s = omega arith

    spread_right : (q p r s : ℕ) → (q * p + r) * s ≡ q * (s * p) + r * s
    spread_right q p r s = omega arith
