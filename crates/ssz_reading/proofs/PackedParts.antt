-- Basic values and bits that are packed in chunks.
use Rattle.std.proofs.Common.{ℕ, zero, suc, ◌+◌, ◌-◌, ◌*◌, ◌/◌, ◌%◌, ◌^◌, ◌<◌, ◌≤◌, ◌≡◌, min, eqb, Bool, true, false, List, [], ◌∷◌, ◌++◌, length, map, take, drop, get_or, slice_get, slice_range, Option, Some, None, refl, sym, ap, ap₂, ◌∙◌, subst, arith, append_assoc, length-drop, drop-drop, take-add}
use Rattle.std.specs.List.{AllByRecursion, concat}
use Rattle.std.proofs.Math.Nat.{mul-le-mul_right}
use Rattle.std.proofs.lemmas.List.{append-nil, length-map, take_min, take_all, map-append}
use Rattle.std.proofs.lemmas.Nat.{div-mul-add, mod-mul-add}
use Rattle.ssz_chunk.specs.Tree.{Tree, leaf, merkle_tree}
use Rattle.ssz_schema.specs.width.Width.TheVariants.{W8}
use Rattle.ssz_schema.specs.Types.{SszType, uint}
use Rattle.ssz_schema.specs.Sizes.{basic_size, element_chunks}
use Rattle.ssz_bytes.specs.Bytes.{bit_value}
use Rattle.ssz_bytes.proofs.Numbers.{length-le_bytes}
use Rattle.ssz_value.specs.declared.value.Value.{Value}
use Rattle.ssz_value.specs.Values.{SszValue, number, Fits}
use Rattle.ssz_value.specs.Encoding.{serialize}
use Rattle.ssz_value.specs.Trees.{padded, pack, element_leaves, tree}
use Rattle.ssz_value.specs.Standing.{value_of}
use Rattle.ssz_value.proofs.ChunkLaw.{length-chunks}
use Rattle.ssz_places.proofs.Packing.{chunk-part}
use Rattle.ssz_places.proofs.BitPacking.{bit_bytes, bits-part}
use Rattle.ssz_places.proofs.Elements.{is_basic, AreSized-enc}
use Rattle.ssz_arena.specs.declared.node.NodeId.{NodeId}
use Rattle.ssz_arena.specs.Content.{ArenaContent, tree_of}
use Rattle.ssz_nodes.specs.Ahead.{Ahead, AheadHolds}
use Rattle.ssz_nodes.specs.Shown.{AreChunksFrom, AreElements, ArePacked, bit_in, chunk_from}
use Rattle.ssz_nodes.proofs.Walked.{Takes, length-encodings}
use Rattle.ssz_nodes.proofs.Chunked.{ChunkRow, TakesRow, chunk_row, pack-more}

-- the chunks of some bytes from number j on are still to come
pub record ChunksLeft (arena : ArenaContent) (bytes : List ℕ) (j : ℕ) (places : Ahead)
    : Type 0 where
  pub holds : AheadHolds arena (map leaf (pack (drop (32 * j) bytes))) places

pub record FirstChunk (arena : ArenaContent) (bytes chunk : List ℕ) (j : ℕ) (places : Ahead)
    : Type 0 where
  pub is : chunk ≡ chunk_from bytes j
  pub left : ChunksLeft arena bytes (j + 1) places

pub ChunksLeft-first : (arena : ArenaContent) (bytes chunk : List ℕ) (j : ℕ) (old new : Ahead)
    (node : NodeId) → ChunksLeft arena bytes j old → 32 * j < length bytes
    → Takes arena old new node → ((c : List ℕ) → tree_of arena node ≡ leaf c → chunk ≡ c)
    → FirstChunk arena bytes chunk j new
ChunksLeft-first arena bytes chunk j old new node h some takes shows =
    let pieces = pack-more (drop (32 * j) bytes) (omega (arith, length-drop (32 * j) bytes)) in
    let holds : AheadHolds arena (leaf (padded (drop (32 * j) bytes))
    ∷ map leaf (pack (drop 32 (drop (32 * j) bytes)))) old =
    subst (λ (ps : List (List ℕ)). AheadHolds arena (map leaf ps) old) pieces h.holds in
    let next : drop 32 (drop (32 * j) bytes) ≡ drop (32 * (j + 1)) bytes =
    drop-drop 32 (32 * j) bytes
    ∙ ap (λ n. drop n bytes) (let e : 32 * j + 32 ≡ 32 * (j + 1) = omega arith in e) in
    record {
      is = shows (padded (drop (32 * j) bytes)) (takes.tree _ _ holds);
      left = record {
        holds = subst (λ bs. AheadHolds arena (map leaf (pack bs)) new) next (takes.rest _ _ holds);
      };
    }

-- the value of its place in a list
pub at_place : {X : Type 0} (xs : List X) (i : ℕ) → i < length xs
    → (x : X) × (slice_get xs i ≡ Some x)
at_place [] i h = absurd (omega arith)
at_place (x ∷ xs) zero h = (x, refl)
at_place (x ∷ xs) (suc i) h = at_place xs i (omega arith)

-- one more of a list
pub take-next : {X : Type 0} (xs : List X) (k : ℕ) (x : X) → slice_get xs k ≡ Some x
    → take (k + 1) xs ≡ take k xs ++ x ∷ []
take-next [] k x e = cc
take-next (y ∷ xs) zero x e = let same : y ≡ x = cc in ap (λ z. z ∷ []) same
take-next (y ∷ xs) (suc k) x e =
    let more : suc k + 1 ≡ suc (k + 1) = omega arith in
    ap (λ n. take n (y ∷ xs)) more ∙ ap (λ zs. y ∷ zs) (take-next xs k x e)

pub slice_get-drop : {X : Type 0} (n k : ℕ) (xs : List X)
    → slice_get (drop n xs) k ≡ slice_get xs (n + k)
slice_get-drop zero k xs = ap (slice_get xs) (let e : k ≡ zero + k = omega arith in e)
slice_get-drop (suc n) k [] = refl
slice_get-drop (suc n) k (x ∷ xs) =
    slice_get-drop n k xs ∙ ap (slice_get (x ∷ xs)) (let e : suc (n + k) ≡ suc n + k =
    omega arith in e)

fit_at : (t : SszType) (vs : List SszValue) (i : ℕ) (v : SszValue) → AllByRecursion (Fits t) vs
    → slice_get vs i ≡ Some v → Fits t v
fit_at t [] i v all e = cc
fit_at t (w ∷ vs) zero v all e = let same : w ≡ v = cc in subst (Fits t) same all.0
fit_at t (w ∷ vs) (suc i) v all e = fit_at t vs i v all.1 e

encoding_at : (t : SszType) (vs : List SszValue) (i : ℕ) (v : SszValue) → slice_get vs i ≡ Some v
    → get_or (map (serialize t) vs) i [] ≡ serialize t v
encoding_at t [] i v e = cc
encoding_at t (w ∷ vs) zero v e = let same : w ≡ v = cc in ap (serialize t) same
encoding_at t (w ∷ vs) (suc i) v e = encoding_at t vs i v e

-- the encoding of a value in its chunk
pub value_there : (t : SszType) (z : ℕ) (vs : List SszValue) (j from k : ℕ) (chunk : List ℕ)
    (v : SszValue) → basic_size t ≡ Some z → AllByRecursion (Fits t) vs
    → chunk ≡ chunk_from (concat (map (serialize t) vs)) j → from * z ≡ 32 * j → k * z + z ≤ 32
    → slice_get vs (from + k) ≡ Some v
    → slice_range chunk (k * z) (k * z + length (serialize t v)) ≡ serialize t v
value_there t z vs j from k chunk v size fit is start room here =
    let basic = is_basic t z size in
    let place : (from + k) * z ≡ j * 32 + k * z = omega (arith, start) in
    let low : k * z < 32 = omega (arith, basic.pos, room) in
    let chunk_is : (from + k) * z / 32 ≡ j =
    ap (λ n. n / 32) place ∙ div-mul-add j 32 (k * z) low in
    let byte_is : (from + k) * z % 32 ≡ k * z =
    ap (λ n. n % 32) place ∙ mod-mul-add j 32 (k * z) low in
    let part = chunk-part z (from + k) (map (serialize t) vs) (serialize t v)
    (basic.inside (from + k))
    (AreSized-enc t z basic vs fit) (basic.sized v (fit_at t vs (from + k) v fit here))
    (encoding_at t vs (from + k) v here) in
    ap (λ c. slice_range c (k * z) (k * z + length (serialize t v))) is
    ∙ ap₂ (λ q r. slice_range (chunk_from (concat (map (serialize t) vs)) q) r
    (r + length (serialize t v)))
    (sym chunk_is) (sym byte_is) ∙ part

-- one more value is appended
pub values_more : (t : SszType) (z : ℕ) (vs : List SszValue) (j from count k : ℕ)
    (chunk : List ℕ) (old parts next : List Value) (value : Value)
    → basic_size t ≡ Some z → AllByRecursion (Fits t) vs
    → chunk ≡ chunk_from (concat (map (serialize t) vs)) j → from * z ≡ 32 * j → count * z ≤ 32
    → k < count → from + count ≤ length vs
    → map value_of parts ≡ map value_of old ++ take k (drop from vs)
    → ((v : SszValue) → Fits t v
    → slice_range chunk (k * z) (k * z + length (serialize t v)) ≡ serialize t v
    → value_of value ≡ v)
    → next ≡ parts ++ value ∷ []
    → map value_of next ≡ map value_of old ++ take (k + 1) (drop from vs)
values_more t z vs j from count k chunk old parts next value size fit is start few below within
    sofar read next_is =
    let at = at_place vs (from + k) (omega arith) in
    let most : (k + 1) * z ≤ count * z = mul-le-mul_right z (omega arith) in
    let room : k * z + z ≤ 32 = omega (arith, most) in
    let is_value : value_of value ≡ at.0 =
    read at.0 (fit_at t vs (from + k) at.0 fit at.1)
    (value_there t z vs j from k chunk at.0 size fit is start room at.1) in
    ap (map value_of) next_is ∙ map-append value_of parts (value ∷ [])
    ∙ ap₂ (λ xs x. xs ++ x ∷ []) sofar is_value
    ∙ append_assoc (map value_of old) (take k (drop from vs)) (at.0 ∷ [])
    ∙ ap (λ xs. map value_of old ++ xs)
    (sym (take-next (drop from vs) k at.0 (slice_get-drop from k vs ∙ at.1)))

-- the values of a chunk, so far
pub record ValuesSoFar (t : SszType) (chunk : List ℕ) (count k : ℕ) (old parts : List Value)
    : Type 0 where
  pub each : (vs : List SszValue) (j from : ℕ) → AllByRecursion (Fits t) vs
      → chunk ≡ chunk_from (concat (map (serialize t) vs)) j
      → ((size : ℕ) → basic_size t ≡ Some size → from * size ≡ 32 * j)
      → from + count ≤ length vs
      → map value_of parts ≡ map value_of old ++ take k (drop from vs)

pub ValuesSoFar-start : (t : SszType) (chunk : List ℕ) (count : ℕ) (old : List Value)
    → ValuesSoFar t chunk count 0 old old
ValuesSoFar-start t chunk count old =
    record { each = λ vs j from fit is start within. sym (append-nil (map value_of old)) }

-- Values that are still to come, behind those that were read.
pub record ValuesLeft (arena : ArenaContent) (t : SszType) (per : ℕ) (vs : List SszValue) (left : ℕ)
    (done : List SszValue) (places : Ahead) : Type 0 where
  pub j : ℕ
  pub many : left ≡ length vs - per * j
  pub chunks : ChunksLeft arena (concat (map (serialize t) vs)) j places
  pub all : done ≡ take (per * j) vs

pub ValuesLeft-start : (arena : ArenaContent) (t : SszType) (z per depth count : ℕ)
    (vs : List SszValue) (node : NodeId) (places : Ahead) → basic_size t ≡ Some z
    → AreElements t depth count vs (tree_of arena node)
    → ((trees : List Tree) → length trees ≤ 2 ^ depth → tree_of arena node ≡ merkle_tree depth trees
    → AheadHolds arena trees places)
    → ValuesLeft arena t per vs count [] places
ValuesLeft-start arena t z per depth count vs node places size are holds =
    let basic = is_basic t z size in
    let bytes : List ℕ = concat (map (serialize t) vs) in
    let long : length bytes ≡ count * z =
    length-encodings t z basic vs are.fit ∙ ap (λ n. n * z) are.many in
    let none : per * 0 ≡ 0 = omega arith in
    go (basic_size t) size are.few are.tree long none
  where
    go : (o : Option ℕ) → o ≡ Some z → element_chunks o count ≤ 2 ^ depth
        → tree_of arena node
        ≡ merkle_tree depth (element_leaves o (map (serialize t) vs) (map (tree t) vs))
        → length (concat (map (serialize t) vs)) ≡ count * z → per * 0 ≡ 0
        → ValuesLeft arena t per vs count [] places
    go None e few is long none = cc
    go (Some y) e few is long none =
        let same : y ≡ z = cc in
        record {
          j = 0;
          many = omega (arith, none, are.many);
          chunks = record {
            holds = holds (map leaf (pack (concat (map (serialize t) vs))))
                (omega (
                  arith,
                  few,
                  long,
                  ap (λ n. count * n) same,
                  length-map (pack (concat (map (serialize t) vs))) leaf,
                  length-chunks ((length (concat (map (serialize t) vs)) + 31) / 32)
                      (concat (map (serialize t) vs)),
                )) is;
          };
          all = ap (λ n. take n vs) (sym none);
        }

pub record MoreValues (arena : ArenaContent) (t : SszType) (per : ℕ) (vs : List SszValue)
    (left here : ℕ)
    (done : List SszValue) (chunk : List ℕ) (places : Ahead) : Type 0 where
  pub j : ℕ
  pub is : chunk ≡ chunk_from (concat (map (serialize t) vs)) j
  pub start : (size : ℕ) → basic_size t ≡ Some size → per * j * size ≡ 32 * j
  pub within : per * j + here ≤ length vs
  pub next : (more : List SszValue) → more ≡ done ++ take here (drop (per * j) vs)
      → ValuesLeft arena t per vs (left - here) more places

-- the next chunk of them
pub ValuesLeft-more : (arena : ArenaContent) (t : SszType) (z per : ℕ) (vs : List SszValue)
    (left here : ℕ) (done : List SszValue) (chunk : List ℕ) (old new : Ahead) (node : NodeId)
    → basic_size t ≡ Some z → z * per ≡ 32 → AllByRecursion (Fits t) vs
    → ValuesLeft arena t per vs left done old → 0 < left → here ≡ min left per
    → Takes arena old new node → ((c : List ℕ) → tree_of arena node ≡ leaf c → chunk ≡ c)
    → MoreValues arena t per vs left here done chunk new
ValuesLeft-more arena t z per vs left here done chunk old new node size whole fit h some is takes
    shows =
    let basic = is_basic t z size in
    let below : per * h.j + 1 ≤ length vs = omega (arith, h.many) in
    let scaled : (per * h.j + 1) * z ≤ length vs * z = mul-le-mul_right z below in
    let start : per * h.j * z ≡ 32 * h.j = product per h.j z whole in
    let room : 32 * h.j < length (concat (map (serialize t) vs)) =
    omega (arith, length-encodings t z basic vs fit, scaled, start, basic.pos) in
    let first = ChunksLeft-first arena
    (concat (map (serialize t) vs)) chunk h.j old new node h.chunks
    room takes shows in
    let more : per * (h.j + 1) ≡ per * h.j + per = omega arith in
    record {
      j = h.j;
      is = first.is;
      start = λ y e. let same : z ≡ y = cc in
          subst (λ n. per * h.j * n ≡ 32 * h.j) same start;
      within = omega (arith, is, h.many);
      next = λ read read_is. record {
        j = h.j + 1;
        many = omega (arith, is, h.many, more);
        chunks = first.left;
        all = read_is ∙ ap₂ (λ xs n. xs ++ take n (drop (per * h.j) vs)) h.all
            (let e : here ≡ min per (length (drop (per * h.j) vs)) =
            omega (arith, is, h.many, length-drop (per * h.j) vs) in e)
            ∙ ap (λ ys. take (per * h.j) vs ++ ys) (take_min per (drop (per * h.j) vs))
            ∙ sym (take-add (per * h.j) per vs) ∙ ap (λ n. take n vs) (sym more);
      };
    }
  where
    product : (per j z : ℕ) → z * per ≡ 32 → per * j * z ≡ 32 * j
    product per j z e = swap per j z ∙ ap (λ n. n * j) e
      where
        swap : (per j z : ℕ) → per * j * z ≡ z * per * j
        swap per j z = omega arith

-- the values of another chunk, behind those of the first i of a row
pub values_row : (vs : List SszValue) (per j i : ℕ) (old sofar new : List SszValue)
    → sofar ≡ old ++ take (per * i) (drop (per * j) vs)
    → new ≡ sofar ++ take per (drop (per * (j + i)) vs)
    → new ≡ old ++ take (per * (i + 1)) (drop (per * j) vs)
values_row vs per j i old sofar new sofar_is new_is =
    let there : drop (per * i) (drop (per * j) vs) ≡ drop (per * (j + i)) vs =
    drop-drop (per * i) (per * j) vs
    ∙ ap (λ n. drop n vs) (let e : per * j + per * i ≡ per * (j + i) = omega arith in e) in
    let more : per * i + per ≡ per * (i + 1) = omega arith in
    new_is ∙ ap (λ xs. xs ++ take per (drop (per * (j + i)) vs)) sofar_is
    ∙ append_assoc old (take (per * i) (drop (per * j) vs)) (take per (drop (per * (j + i)) vs))
    ∙ ap (λ xs. old ++ xs)
    (ap (λ ys. take (per * i) (drop (per * j) vs) ++ take per ys) (sym there)
    ∙ sym (take-add (per * i) per (drop (per * j) vs))
    ∙ ap (λ n. take n (drop (per * j) vs)) more)

-- so many values have so many chunks
pub chunks_of : (per j z : ℕ) → z * per ≡ 32 → per * j * z ≡ 32 * j
chunks_of per j z e = swap per j z ∙ ap (λ n. n * j) e
  where
    swap : (per j z : ℕ) → per * j * z ≡ z * per * j
    swap per j z = omega arith

pub record ValueRow (arena : ArenaContent) (t : SszType) (per : ℕ) (vs : List SszValue)
    (left n : ℕ) (done : List SszValue) (row : List NodeId) (places : Ahead) : Type 0 where
  pub j : ℕ
  pub are : AreChunksFrom arena (concat (map (serialize t) vs)) j (take n row)
  pub within : per * (j + n) ≤ length vs
  pub next : (more : List SszValue) → more ≡ done ++ take (per * n) (drop (per * j) vs)
      → ValuesLeft arena t per vs (left - per * n) more places

-- the next n chunks of them
pub ValuesLeft-row : (arena : ArenaContent) (t : SszType) (z per : ℕ) (vs : List SszValue)
    (left n : ℕ) (done : List SszValue) (row : List NodeId) (before old new : Ahead)
    → basic_size t ≡ Some z → z * per ≡ 32 → AllByRecursion (Fits t) vs
    → ValuesLeft arena t per vs left done before
    → ((trees : List Tree) → AheadHolds arena trees before → AheadHolds arena trees old)
    → 0 < left → 0 < n → per * n ≤ left → n ≤ length row → TakesRow arena old new n row
    → ValueRow arena t per vs left n done row new
ValuesLeft-row arena t z per vs left n done row before old new size whole fit h stays some one few
    inside takes =
    let basic = is_basic t z size in
    let bytes : List ℕ = concat (map (serialize t) vs) in
    let sum : per * (h.j + n) ≡ per * h.j + per * n = omega arith in
    let within : per * (h.j + n) ≤ length vs = omega (arith, sum, h.many, some, few) in
    let scaled : per * (h.j + n) * z ≤ length vs * z = mul-le-mul_right z within in
    let start : per * (h.j + n) * z ≡ 32 * (h.j + n) = chunks_of per (h.j + n) z whole in
    let long : 32 * (h.j + n) ≤ length (concat (map (serialize t) vs)) =
    omega (arith, length-encodings t z basic vs fit, scaled, start) in
    let room : 32 * n ≤ length (drop (32 * h.j) (concat (map (serialize t) vs))) =
    omega (arith, long, length-drop (32 * h.j) (concat (map (serialize t) vs))) in
    let chunks : ChunkRow arena (drop (32 * h.j) (concat (map (serialize t) vs))) n row new =
    chunk_row arena (drop (32 * h.j) bytes) n row old new (stays _ h.chunks.holds) one inside room
    takes in
    let there : (i : ℕ) → drop (32 * i) (drop (32 * h.j) bytes) ≡ drop (32 * (h.j + i)) bytes =
    λ i. drop-drop (32 * i) (32 * h.j) bytes
    ∙ ap (λ k. drop k bytes) (let e : 32 * h.j + 32 * i ≡ 32 * (h.j + i) = omega arith in e) in
    record {
      j = h.j;
      are = λ i below.
          let first : 0 + i ≡ i = omega arith in
          chunks.are i below ∙ ap (λ k. leaf (padded (drop (32 * k) (drop (32 * h.j) bytes)))) first
          ∙ ap (λ b. leaf (padded b)) (there i);
      within = within;
      next = λ more more_is. record {
        j = h.j + n;
        many = omega (arith, h.many, sum);
        chunks = record {
          holds = subst (λ b. AheadHolds arena (map leaf (pack b)) new) (there n) chunks.holds;
        };
        all = more_is ∙ ap (λ xs. xs ++ take (per * n) (drop (per * h.j) vs)) h.all
            ∙ sym (take-add (per * h.j) (per * n) vs) ∙ ap (λ k. take k vs) (sym sum);
      };
    }

pub ValuesLeft-end : (arena : ArenaContent) (t : SszType) (per : ℕ) (vs : List SszValue) (left : ℕ)
    (done : List SszValue) (places : Ahead) → ValuesLeft arena t per vs left done places
    → left ≤ 0 → done ≡ vs
ValuesLeft-end arena t per vs left done places h none =
    h.all ∙ take_all (per * h.j) vs (omega (arith, h.many))

-- bits

flag_is : (b : Bool) → eqb (bit_value b) 1 ≡ b
flag_is true = refl
flag_is false = refl

-- a bit in its chunk
pub bit_there : (bs : List Bool) (j k : ℕ) (chunk : List ℕ) → chunk ≡ chunk_from (bit_bytes bs) j
    → k < 256 → bit_in chunk k ≡ get_or bs (256 * j + k) false
bit_there bs j k chunk is low =
    let place : 256 * j + k ≡ j * 256 + k = omega arith in
    let chunk_is : (256 * j + k) / 256 ≡ j = ap (λ n. n / 256) place ∙ div-mul-add j 256 k low in
    let bit_is : (256 * j + k) % 256 ≡ k = ap (λ n. n % 256) place ∙ mod-mul-add j 256 k low in
    ap (λ c. bit_in c k) is
    ∙ ap₂ (λ q r. bit_in (chunk_from (bit_bytes bs) q) r) (sym chunk_is) (sym bit_is)
    ∙ ap (λ n. eqb n 1) (bits-part (256 * j + k) bs) ∙ flag_is (get_or bs (256 * j + k) false)

get_or_is : (bs : List Bool) (i : ℕ) (b : Bool) → slice_get bs i ≡ Some b
    → get_or bs i false ≡ b
get_or_is [] i b e = cc
get_or_is (c ∷ bs) zero b e = cc
get_or_is (c ∷ bs) (suc i) b e = get_or_is bs i b e

-- one more bit is appended
pub bits_more : (bs : List Bool) (from count k : ℕ) (chunk : List ℕ) (old bits next : List Bool)
    (b : Bool) → ((i : ℕ) → i < count → bit_in chunk i ≡ get_or bs (from + i) false)
    → k < count → from + count ≤ length bs → bits ≡ old ++ take k (drop from bs)
    → b ≡ bit_in chunk k → next ≡ bits ++ b ∷ []
    → next ≡ old ++ take (k + 1) (drop from bs)
bits_more bs from count k chunk old bits next b told below within sofar is next_is =
    let at = at_place bs (from + k) (omega arith) in
    let same : b ≡ at.0 = is ∙ told k below ∙ get_or_is bs (from + k) at.0 at.1 in
    next_is ∙ ap₂ (λ xs x. xs ++ x ∷ []) sofar same
    ∙ append_assoc old (take k (drop from bs)) (at.0 ∷ [])
    ∙ ap (λ xs. old ++ xs) (sym (take-next (drop from bs) k at.0 (slice_get-drop from k bs ∙ at.1)))

-- the bits of a chunk, so far
pub record BitsSoFar (chunk : List ℕ) (count k : ℕ) (old bits : List Bool) : Type 0 where
  pub each : (bs : List Bool) (from : ℕ)
      → ((i : ℕ) → i < count → bit_in chunk i ≡ get_or bs (from + i) false)
      → from + count ≤ length bs → bits ≡ old ++ take k (drop from bs)

pub BitsSoFar-start : (chunk : List ℕ) (count : ℕ) (old : List Bool)
    → BitsSoFar chunk count 0 old old
BitsSoFar-start chunk count old = record { each = λ bs from told within. sym (append-nil old) }

pub record BitsLeft (arena : ArenaContent) (bs : List Bool) (left : ℕ) (done : List Bool)
    (places : Ahead) : Type 0 where
  pub j : ℕ
  pub many : left ≡ length bs - 256 * j
  pub chunks : ChunksLeft arena (bit_bytes bs) j places
  pub all : done ≡ take (256 * j) bs

pub record MoreBits (arena : ArenaContent) (bs : List Bool) (left here : ℕ) (done : List Bool)
    (chunk : List ℕ) (places : Ahead) : Type 0 where
  pub j : ℕ
  pub bits : (k : ℕ) → k < here → bit_in chunk k ≡ get_or bs (256 * j + k) false
  pub within : 256 * j + here ≤ length bs
  pub next : (more : List Bool) → more ≡ done ++ take here (drop (256 * j) bs)
      → BitsLeft arena bs (left - here) more places

pub BitsLeft-more : (arena : ArenaContent) (bs : List Bool) (left here : ℕ) (done : List Bool)
    (chunk : List ℕ) (old new : Ahead) (node : NodeId) → BitsLeft arena bs left done old
    → 0 < left → here ≡ min left 256 → Takes arena old new node
    → ((c : List ℕ) → tree_of arena node ≡ leaf c → chunk ≡ c)
    → MoreBits arena bs left here done chunk new
BitsLeft-more arena bs left here done chunk old new node h some is takes shows =
    let long : length (bit_bytes bs) ≡ (length bs + 7) / 8 = length-le_bytes _ _ in
    let first = ChunksLeft-first arena (bit_bytes bs) chunk h.j old new node h.chunks
    (omega (arith, long, h.many)) takes shows in
    let more : 256 * (h.j + 1) ≡ 256 * h.j + 256 = omega arith in
    record {
      j = h.j;
      bits = λ k below. bit_there bs h.j k chunk first.is (omega (arith, is));
      within = omega (arith, is, h.many);
      next = λ read read_is. record {
        j = h.j + 1;
        many = omega (arith, is, h.many);
        chunks = first.left;
        all = read_is ∙ ap₂ (λ xs n. xs ++ take n (drop (256 * h.j) bs)) h.all
            (let e : here ≡ min 256 (length (drop (256 * h.j) bs)) =
            omega (arith, is, h.many, length-drop (256 * h.j) bs) in e)
            ∙ ap (λ ys. take (256 * h.j) bs ++ ys) (take_min 256 (drop (256 * h.j) bs))
            ∙ sym (take-add (256 * h.j) 256 bs) ∙ ap (λ n. take n bs) (sym more);
      };
    }

-- bytes

-- a list of bytes is their encodings, one after another
byte_values : (vs : List SszValue) → AllByRecursion (Fits (uint W8)) vs
    → map number (concat (map (serialize (uint W8)) vs)) ≡ vs
byte_values [] fit = refl
byte_values (number n ∷ vs) fit =
    let small : n % 256 ≡ n = omega (arith, fit.0) in
    ap₂ (λ m ws. number m ∷ ws) small (byte_values vs fit.1)
byte_values (_ ∷ vs) fit = absurd fit.0

pub packed_bytes : (depth count : ℕ) (vs : List SszValue) (node : Tree)
    → AreElements (uint W8) depth count vs node
    → ArePacked depth count (concat (map (serialize (uint W8)) vs)) node
packed_bytes depth count vs node are =
    let bytes : List ℕ = concat (map (serialize (uint W8)) vs) in
    let long : length bytes ≡ count * 1 =
    length-encodings (uint W8) 1 (is_basic (uint W8) 1 refl) vs are.fit
    ∙ ap (λ n. n * 1) are.many in
    record {
      many = omega (arith, long);
      few = omega (arith, are.few, long, length-chunks ((length bytes + 31) / 32) bytes);
      tree = are.tree;
    }

pub bytes_read : (depth count : ℕ) (vs : List SszValue) (node : Tree) (run : List ℕ)
    → AreElements (uint W8) depth count vs node → run ≡ concat (map (serialize (uint W8)) vs)
    → map number run ≡ vs
bytes_read depth count vs node run are is = ap (map number) is ∙ byte_values vs are.fit
