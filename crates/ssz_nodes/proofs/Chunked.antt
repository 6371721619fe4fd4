-- Bytes that are read chunk by chunk.
use Rattle.std.proofs.Common.{ℕ, zero, suc, ◌+◌, ◌-◌, ◌*◌, ◌/◌, ◌^◌, ◌<◌, ◌≤◌, ◌≡◌, min, List, [], ◌∷◌, ◌++◌, length, map, take, drop, Result, Ok, Err, OnOk, refl, sym, ap, ◌∙◌, subst, inl, inr, arith, append_assoc, take-append-drop, length-drop}
use Rattle.std.proofs.lemmas.Bool.{cases_lt}
use Rattle.std.proofs.lemmas.List.{append-nil, take-take, take_at, take_all, take-append-le, drop-drop, drop-map, drop_more, get_or-take, length-take-le}
use Rattle.std.proofs.Math.Seq.{take-add, take-append-add}
use Rattle.ssz_chunk.specs.Chunk.{zero_chunk}
use Rattle.ssz_chunk.specs.Tree.{Tree, leaf, merkle_tree, place}
use Rattle.std.proofs.lemmas.Nat.{pow_pos}
use Rattle.ssz_value.proofs.ChunkLaw.{length-chunks}
use Rattle.ssz_chunk.proofs.Trees.{full-zero}
use Rattle.ssz_value.specs.Trees.{padded, pack, chunks}
use Rattle.ssz_arena.specs.declared.node.NodeId.{NodeId}
use Rattle.ssz_arena.specs.Content.{ArenaContent, tree_of}
use Rattle.ssz_nodes.specs.Ahead.{Ahead, AheadHolds, AreNext, waiting}
use Rattle.ssz_nodes.specs.Shown.{AreChunksFrom, ExtendsBytes, ArePacked, chunk_from}
use Rattle.ssz_nodes.proofs.Walked.{Takes}

-- the first chunk of some bytes, and the others
pub pack-more : (bytes : List ℕ) → 0 < length bytes
    → pack bytes ≡ padded bytes ∷ pack (drop 32 bytes)
pack-more bytes some =
    let count : (length bytes + 31) / 32 ≡ suc ((length (drop 32 bytes) + 31) / 32) =
    omega (arith, length-drop 32 bytes) in
    ap (λ n. chunks n bytes) count

pub pack-none : (bytes : List ℕ) → length bytes ≡ 0 → pack bytes ≡ []
pack-none [] none = refl
pack-none (b ∷ bytes) none = absurd (omega arith)

-- what of the first chunk are bytes
pub take-chunk : (n : ℕ) (bytes : List ℕ) → n ≡ min (length bytes) 32
    → take n (padded bytes) ≡ take 32 bytes
take-chunk n bytes is = elim (cases_lt (length bytes) 32) [
  | inl less ↦
      (let few : n ≡ length bytes = omega arith in
      take-take n 32 (bytes ++ zero_chunk) (omega arith)
      ∙ take_at bytes zero_chunk n (sym few) ∙ sym (take_all 32 bytes (omega arith)))
  | inr more ↦
      (let whole : n ≡ 32 = omega arith in
      take-take n 32 (bytes ++ zero_chunk) (omega arith)
      ∙ ap (λ k. take k (bytes ++ zero_chunk)) whole ∙ take-append-le 32 bytes zero_chunk more)
]

-- Bytes that are still to come, behind those that were appended.
pub record BytesLeft (arena : ArenaContent) (bytes old : List ℕ) (left : ℕ) (out : List ℕ)
    (places : Ahead) : Type 0 where
  pub rest : List ℕ
  pub many : left ≡ length rest
  pub holds : AheadHolds arena (map leaf (pack rest)) places
  pub all : out ++ rest ≡ old ++ bytes

pub BytesLeft-more : (arena : ArenaContent) (bytes old : List ℕ) (left here : ℕ)
    (out next chunk : List ℕ) (before after : Ahead) (node : NodeId)
    → BytesLeft arena bytes old left out before → 0 < left → Takes arena before after node
    → ((c : List ℕ) → tree_of arena node ≡ leaf c → chunk ≡ c) → here ≡ min left 32
    → next ≡ out ++ take here chunk → BytesLeft arena bytes old (left - here) next after
BytesLeft-more arena bytes old left here out next chunk before after node h some takes shows is
    next_is =
    let pieces = pack-more h.rest (omega (arith, h.many)) in
    let holds : AheadHolds arena (leaf (padded h.rest) ∷ map leaf (pack (drop 32 h.rest))) before =
    subst (λ (ps : List (List ℕ)). AheadHolds arena (map leaf ps) before) pieces h.holds in
    let shown : chunk ≡ padded h.rest = shows (padded h.rest) (takes.tree _ _ holds) in
    let piece : take here chunk ≡ take 32 h.rest =
    ap (take here) shown ∙ take-chunk here h.rest (omega (arith, is, h.many)) in
    record {
      rest = drop 32 h.rest;
      many = omega (arith, h.many, is, length-drop 32 h.rest);
      holds = takes.rest _ _ holds;
      all = ap (λ bs. bs ++ drop 32 h.rest) (next_is ∙ ap (λ bs. out ++ bs) piece)
          ∙ append_assoc out (take 32 h.rest) (drop 32 h.rest)
          ∙ ap (λ bs. out ++ bs) (take-append-drop 32 h.rest) ∙ h.all;
    }

-- the last chunk of some bytes
pub record LastChunk (node : Tree) (bytes : List ℕ) (left : ℕ) : Type 0 where
  pub chunk : List ℕ
  pub is : node ≡ leaf chunk
  pub same : take left chunk ≡ bytes

last_chunk : (node : Tree) (bytes : List ℕ) (left : ℕ) → node ≡ leaf (padded bytes)
    → left ≡ length bytes → left ≤ 32 → LastChunk node bytes left
last_chunk node bytes left is many few = record {
  chunk = padded bytes;
  is = is;
  same = take-chunk left bytes (omega (arith, many, few))
      ∙ take_all 32 bytes (omega (arith, many, few));
}

pub BytesLeft-last : (arena : ArenaContent) (bytes old : List ℕ) (left : ℕ) (out : List ℕ)
    (before after : Ahead) (node : NodeId) (h : BytesLeft arena bytes old left out before)
    → 0 < left → left ≤ 32 → Takes arena before after node
    → LastChunk (tree_of arena node) h.rest left
BytesLeft-last arena bytes old left out before after node h some few takes =
    let pieces = pack-more h.rest (omega (arith, h.many)) in
    let holds : AheadHolds arena (leaf (padded h.rest) ∷ map leaf (pack (drop 32 h.rest))) before =
    subst (λ (ps : List (List ℕ)). AheadHolds arena (map leaf ps) before) pieces h.holds in
    last_chunk (tree_of arena node) h.rest left (takes.tree _ _ holds) h.many few

-- the one chunk of a tree of one place
pub only_chunk : (bytes : List ℕ) (len : ℕ) (node : Tree) → ArePacked 0 len bytes node
    → len ≤ 32 → LastChunk node bytes len
only_chunk bytes len node are few = go bytes are.many are.tree
  where
    go : (bytes : List ℕ) → length bytes ≡ len → node ≡ merkle_tree 0 (map leaf (pack bytes))
        → LastChunk node bytes len
    go [] many is =
        let none : len ≡ 0 = omega (arith, many) in
        record {
          chunk = zero_chunk;
          is = is ∙ full-zero [];
          same = ap (λ n. take n zero_chunk) none;
        }
    go (b ∷ bs) many is =
        let some : 0 < length (b ∷ bs) = omega arith in
        last_chunk node (b ∷ bs) len
        (is ∙ ap (λ ps. merkle_tree 0 (map leaf ps)) (pack-more (b ∷ bs) some)
        ∙ full-zero (leaf (padded (b ∷ bs)) ∷ map leaf (pack (drop 32 (b ∷ bs)))))
        (sym many) few

-- the first chunk, where there is no other
pub first_chunk : (bytes : List ℕ) (len depth : ℕ) (node here : Tree)
    → ArePacked depth len bytes node → len ≤ 32
    → ((trees : List Tree) → 0 < 2 ^ depth → node ≡ merkle_tree depth trees → here ≡ place trees 0)
    → LastChunk here bytes len
first_chunk bytes len depth node here are few found =
    only_chunk bytes len here (record {
      many = are.many;
      few = omega (
        arith,
        few,
        are.many,
        length-chunks ((length bytes + 31) / 32) bytes,
      );
      tree = found (map leaf (pack bytes)) (pow_pos depth) are.tree
          ∙ sym (full-zero (map leaf (pack bytes)));
    }) few

-- what was there stays in front

pub Extends-same : (old : List ℕ) → ExtendsBytes old old
Extends-same old = record { more = []; is = sym (append-nil old) }

pub Extends-more : (old out next more : List ℕ) → ExtendsBytes old out → next ≡ out ++ more
    → ExtendsBytes old next
Extends-more old out next more h is = record {
  more = h.more ++ more;
  is = is ∙ ap (λ bs. bs ++ more) h.is ∙ append_assoc old h.more more;
}

pub Extends-trans : (old out next : List ℕ) → ExtendsBytes old out → ExtendsBytes out next
    → ExtendsBytes old next
Extends-trans old out next h more = Extends-more old out next more.more h more.is

-- what is true of each value that is answered is true of the answer
pub on_ok : {A E P Q : Type 0} (result : Result A E) → (P → Q) → OnOk result P → OnOk result Q
on_ok (Ok x) f h = f h
on_ok (Err e) f h = h

-- Rows of chunks.

-- a chunk that is all of the bytes
pub whole_chunk : (bytes : List ℕ) (k : ℕ) → 32 * (k + 1) ≤ length bytes
    → chunk_from bytes k ≡ take 32 (drop (32 * k) bytes)
whole_chunk bytes k room = take-append-le 32 (drop (32 * k) bytes) zero_chunk
    (omega (arith, length-drop (32 * k) bytes))

-- one more chunk is copied behind those before it
pub copied_more : (bytes : List ℕ) (j i between : ℕ) (room written : List ℕ)
    → 32 * i + 32 ≤ length room → 32 * (j + i + 1) ≤ length bytes → between ≡ 32
    → written ≡ chunk_from bytes (j + i)
    → take (32 * i) room ≡ take (32 * i) (drop (32 * j) bytes)
    → take (32 * (i + 1)) (take (32 * i) room ++ (written ++ drop between (drop (32 * i) room)))
    ≡ take (32 * (i + 1)) (drop (32 * j) bytes)
copied_more bytes j i between room written fits within width is sofar =
    let front : List ℕ = take (32 * i) room in
    let tail : List ℕ = drop between (drop (32 * i) room) in
    let all : List ℕ = drop (32 * j) bytes in
    let long : length (take (32 * i) room) ≡ 32 * i =
    length-take-le (32 * i) room (omega arith) in
    let count : 32 * (i + 1) ≡ length (take (32 * i) room) + 32 = omega (arith, long) in
    let there : drop (32 * i) (drop (32 * j) bytes) ≡ drop (32 * (j + i)) bytes =
    drop-drop (32 * i) (32 * j) bytes
    ∙ ap (λ n. drop n bytes) (let e : 32 * j + 32 * i ≡ 32 * (j + i) = omega arith in e) in
    let piece : written ≡ take 32 (drop (32 * (j + i)) bytes) =
    is ∙ whole_chunk bytes (j + i) within in
    let room_there : 32 ≤ length (drop (32 * (j + i)) bytes) =
    omega (arith, length-drop (32 * (j + i)) bytes) in
    let wide : length written ≡ 32 =
    ap (λ (xs : List ℕ). length xs) piece
    ∙ length-take-le 32 (drop (32 * (j + i)) bytes) room_there in
    ap (λ n. take n (front ++ (written ++ tail))) count
    ∙ take-append-add front (written ++ tail) 32
    ∙ ap (λ xs. front ++ xs) (take_at written tail 32 wide)
    ∙ ap (λ xs. xs ++ written) sofar
    ∙ ap (λ xs. take (32 * i) all ++ xs) (piece ∙ ap (take 32) (sym there))
    ∙ sym (take-add (32 * i) 32 all)
    ∙ ap (λ n. take n all) (let e : 32 * i + 32 ≡ 32 * (i + 1) = omega arith in e)

-- all of them are copied
pub copied_all : (bytes : List ℕ) (j i n : ℕ) (room : List ℕ) → length room ≡ 32 * n → n ≡ i
    → take (32 * i) room ≡ take (32 * i) (drop (32 * j) bytes)
    → room ≡ take (32 * n) (drop (32 * j) bytes)
copied_all bytes j i n room long all sofar =
    let whole : 32 * i ≡ 32 * n = omega (arith, all) in
    sym (take_all (32 * n) room (omega (arith, long)))
    ∙ ap (λ k. take k room) (sym whole) ∙ sofar
    ∙ ap (λ k. take k (drop (32 * j) bytes)) whole

-- the chunks behind the first n are those of the bytes behind theirs
pub drop-pack : (n : ℕ) (bytes : List ℕ) → drop n (pack bytes) ≡ pack (drop (32 * n) bytes)
drop-pack zero bytes = refl
drop-pack (suc n) bytes = elim (cases_lt 0 (length bytes)) [
  | inl some ↦
      (let more : 32 * suc n ≡ 32 + 32 * n = omega arith in
      ap (drop (suc n)) (pack-more bytes some) ∙ drop-pack n (drop 32 bytes)
      ∙ ap pack (drop-drop (32 * n) 32 bytes ∙ ap (λ k. drop k bytes) (sym more)))
  | inr none ↦
      (let empty : length bytes ≡ 0 = omega arith in
      let gone : length (drop (32 * suc n) bytes) ≡ 0 =
      omega (arith, length-drop (32 * suc n) bytes) in
      ap (drop (suc n)) (pack-none bytes empty) ∙ sym (pack-none (drop (32 * suc n) bytes) gone))
]

-- chunk i as the tree of a place
pub place-pack : (bytes : List ℕ) (i : ℕ) → 32 * i < length bytes
    → (i < length (map leaf (pack bytes)))
    × (place (map leaf (pack bytes)) i ≡ leaf (chunk_from bytes i))
place-pack bytes i inside =
    let some : 0 < length (drop (32 * i) bytes) = omega (arith, length-drop (32 * i) bytes) in
    let here : drop i (map leaf (pack bytes))
    ≡ leaf (chunk_from bytes i) ∷ map leaf (pack (drop 32 (drop (32 * i) bytes))) =
    drop-map leaf i (pack bytes)
    ∙ ap (map leaf) (drop-pack i bytes ∙ pack-more (drop (32 * i) bytes) some) in
    let below : i < length (map leaf (pack bytes)) =
    omega (
      arith,
      length-drop i (map leaf (pack bytes)),
      ap (λ (ts : List Tree). length ts) here,
    ) in
    let both : place (map leaf (pack bytes)) i ∷ drop (i + 1) (map leaf (pack bytes))
    ≡ leaf (chunk_from bytes i) ∷ map leaf (pack (drop 32 (drop (32 * i) bytes))) =
    sym (drop_more (map leaf (pack bytes)) i (leaf zero_chunk) below) ∙ here in
    (below, cc)

-- The nodes of a row were taken as the next places: the first n have the next trees, and the
-- others are left.
pub record TakesRow (arena : ArenaContent) (old new : Ahead) (n : ℕ) (row : List NodeId)
    : Type 0 where
  pub trees : (trees : List Tree) → AheadHolds arena trees old → AreNext arena trees row
  pub few : (trees : List Tree) → AheadHolds arena trees old → 0 < length trees
      → length row ≡ waiting old
  pub rest : (trees : List Tree) → n ≤ waiting old → AheadHolds arena trees old
      → AheadHolds arena (drop n trees) new

pub record ChunkRow (arena : ArenaContent) (bytes : List ℕ) (n : ℕ) (row : List NodeId)
    (places : Ahead) : Type 0 where
  pub are : AreChunksFrom arena bytes 0 (take n row)
  pub holds : AheadHolds arena (map leaf (pack (drop (32 * n) bytes))) places

-- the next n chunks of some bytes
pub chunk_row : (arena : ArenaContent) (bytes : List ℕ) (n : ℕ) (row : List NodeId)
    (old new : Ahead) → AheadHolds arena (map leaf (pack bytes)) old → 0 < n → n ≤ length row
    → 32 * n ≤ length bytes → TakesRow arena old new n row → ChunkRow arena bytes n row new
chunk_row arena bytes n row old new holds some within room takes =
    let trees : List Tree = map leaf (pack bytes) in
    let first = place-pack bytes 0 (omega arith) in
    let many : length row ≡ waiting old = takes.few trees holds (omega (arith, first.0)) in
    record {
      are = λ i below.
          let short : length (take n row) ≡ n = length-take-le n row within in
          let inside : i < n = omega (arith, below, short) in
          let at = place-pack bytes i (omega arith) in
          ap (tree_of arena) (get_or-take n row i (record { 0 = 0 }) inside)
          ∙ takes.trees trees holds i (omega arith) at.0 ∙ at.1
          ∙ ap (λ k. leaf (chunk_from bytes k)) (let e : i ≡ 0 + i = omega arith in e);
      holds = subst (λ ts. AheadHolds arena ts new)
          (drop-map leaf n (pack bytes) ∙ ap (map leaf) (drop-pack n bytes))
          (takes.rest trees (omega (arith, many)) holds);
    }

pub BytesLeft-row : (arena : ArenaContent) (bytes old : List ℕ) (left n : ℕ)
    (out next : List ℕ) (before after : Ahead) (row : List NodeId)
    (h : BytesLeft arena bytes old left out before) → 32 * n ≤ left
    → ChunkRow arena h.rest n row after → next ≡ out ++ take (32 * n) h.rest
    → BytesLeft arena bytes old (left - 32 * n) next after
BytesLeft-row arena bytes old left n out next before after row h few chunks next_is = record {
  rest = drop (32 * n) h.rest;
  many = omega (arith, h.many, length-drop (32 * n) h.rest);
  holds = chunks.holds;
  all = ap (λ bs. bs ++ drop (32 * n) h.rest) next_is
      ∙ append_assoc out (take (32 * n) h.rest) (drop (32 * n) h.rest)
      ∙ ap (λ bs. out ++ bs) (take-append-drop (32 * n) h.rest) ∙ h.all;
}
