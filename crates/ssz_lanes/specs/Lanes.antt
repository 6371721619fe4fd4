-- Lanes of vectors, each of which a contract sees as the list of its lanes, and the messages in
-- them (FIPS 180-4, 5.1.1 and 5.2.1).
use Rattle.sha2.specs.Sha256.{word_at}
use Rattle.std.specs.Prelude.{ℕ, ◌+◌, ◌*◌, List, [], ◌∷◌, ◌++◌, map, replicate, slice_index, slice_index_or}

-- lane j of each of these vectors
abbrev pub lane : ℕ → List (List ℕ) → List ℕ
lane j vectors = map (λ vector. slice_index vector j) vectors

-- the words of 32 bytes
abbrev pub words_of : List ℕ → List ℕ
words_of bytes = word_at bytes 0 ∷ word_at bytes 4 ∷ word_at bytes 8 ∷ word_at bytes 12
    ∷ word_at bytes 16 ∷ word_at bytes 20 ∷ word_at bytes 24 ∷ word_at bytes 28 ∷ []

-- word i of each of eight vectors
abbrev pub column : ℕ → List (List ℕ) → List ℕ
column i rows = slice_index (slice_index_or rows 0 []) i ∷ slice_index (slice_index_or rows 1 []) i
    ∷ slice_index (slice_index_or rows 2 []) i ∷ slice_index (slice_index_or rows 3 []) i
    ∷ slice_index (slice_index_or rows 4 []) i ∷ slice_index (slice_index_or rows 5 []) i
    ∷ slice_index (slice_index_or rows 6 []) i ∷ slice_index (slice_index_or rows 7 []) i ∷ []

-- the columns of eight vectors
abbrev pub columns : List (List ℕ) → List (List ℕ)
columns rows = column 0 rows ∷ column 1 rows ∷ column 2 rows ∷ column 3 rows
    ∷ column 4 rows ∷ column 5 rows ∷ column 6 rows ∷ column 7 rows ∷ []

-- words k and k + 4 of each of four vectors
abbrev pub quarter : ℕ → List ℕ → List ℕ → List ℕ → List ℕ → List ℕ
quarter k a b c d =
    slice_index a k ∷ slice_index b k ∷ slice_index c k ∷ slice_index d k
    ∷ slice_index a (k + 4) ∷ slice_index b (k + 4) ∷ slice_index c (k + 4)
    ∷ slice_index d (k + 4) ∷ []

-- words i and i + 1 of each half of two vectors, those of the first and of the second in turn
abbrev pub in_turn : ℕ → List ℕ → List ℕ → List ℕ
in_turn i x y =
    slice_index x i ∷ slice_index y i ∷ slice_index x (i + 1) ∷ slice_index y (i + 1)
    ∷ slice_index x (i + 4) ∷ slice_index y (i + 4) ∷ slice_index x (i + 5)
    ∷ slice_index y (i + 5) ∷ []

-- the same words, the two of the first before those of the second
abbrev pub by_twos : ℕ → List ℕ → List ℕ → List ℕ
by_twos i x y =
    slice_index x i ∷ slice_index x (i + 1) ∷ slice_index y i ∷ slice_index y (i + 1)
    ∷ slice_index x (i + 4) ∷ slice_index x (i + 5) ∷ slice_index y (i + 4)
    ∷ slice_index y (i + 5) ∷ []

-- four words of each of two vectors, from i on
abbrev pub by_fours : ℕ → List ℕ → List ℕ → List ℕ
by_fours i x y =
    slice_index x i ∷ slice_index x (i + 1) ∷ slice_index x (i + 2) ∷ slice_index x (i + 3)
    ∷ slice_index y i ∷ slice_index y (i + 1) ∷ slice_index y (i + 2) ∷ slice_index y (i + 3)
    ∷ []

-- the bytes at place i of a row
abbrev pub lane_bytes : List (List ℕ) → ℕ → List ℕ
lane_bytes row i = slice_index_or row i []

-- message j: the bytes at two places that stand side by side
abbrev pub message : List (List ℕ) → ℕ → List ℕ
message row j = lane_bytes row (2 * j) ++ lane_bytes row (2 * j + 1)

-- the block that the padding of 64 bytes fills: a bit 1, zeros, and the length in bits, 512
abbrev pub padding_block : List ℕ
padding_block = 0x80 ∷ replicate 61 0 ++ 2 ∷ 0 ∷ []
