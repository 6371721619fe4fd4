-- What the program counts of a type is the type's, long sizes capped.
use Rattle.std.proofs.Common.{ℕ, ◌≡◌, ◌≤◌, ◌+◌, ◌*◌, ◌^◌, cond, Option, Some, None, option_map, refl, ap, ap₂, ◌∙◌, arith}
use Rattle.std.specs.Prelude.{is_some, is_none, not}
use Rattle.ssz_types.specs.declared.facts.Facts.{Facts}
use Rattle.ssz_schema.specs.declared.adding.Sums.{Sums}
use Rattle.ssz_types.specs.Types.{SszType, Fields, Options, container, vector, union}
use Rattle.ssz_types.specs.Sizes.{fixed_size, part_sizes, total_size, basic_size, element_chunks, part_length, default_length, default_fields_length, default_option_length, depth_of, field_count}
use Rattle.ssz_types.specs.Facts.{AreFactsOf}
use Rattle.ssz_schema.specs.Inside.{capped, AreFactsUpTo}
use Rattle.ssz_schema.specs.Sums.{AreSums, AreOptionSums}
use Rattle.ssz_types.proofs.DepthLemmas.{depth_of-small}
use Rattle.ssz_schema.proofs.SizeLemmas.{default_length-fixed, default_fields_length-fixed}

-- the size of a fixed-size whole is the length of its default
size_of_whole : (size : Option ℕ) (len : ℕ) → ((z : ℕ) → size ≡ Some z → len ≡ z)
    → cond (is_some size) (Some (capped len)) None ≡ option_map capped size
size_of_whole None len h = refl
size_of_whole (Some z) len h = ap (λ n. Some (capped n)) (h z refl)

vector_fixed : (size : Option ℕ) (n : ℕ) → is_some size ≡ is_some (option_map (λ z. n * z) size)
vector_fixed None n = refl
vector_fixed (Some z) n = refl

pub vector_facts : (t : SszType) (n len chunks depth : ℕ) (part : Facts) → AreFactsOf part t
    → len ≡ capped (n * part_length part.fixed_size part.default_len)
    → chunks ≡ element_chunks (basic_size t) n → depth ≡ depth_of chunks
    → AreFactsUpTo (record {
      fixed_size = cond (is_some part.fixed_size) (Some len) None;
      default_len = len;
      chunk_count = chunks;
      depth = depth;
      levels =
          depth + part.levels;
      nesting = part.nesting + 1;
    }) (vector t n)
vector_facts t n len chunks depth part known long chunks_are deep =
    let depth_is : depth ≡ depth_of (element_chunks (basic_size t) n) =
    deep ∙ ap depth_of chunks_are in
    let len_is : len ≡ capped (default_length (vector t n)) =
    long ∙ ap₂ (λ size l. capped (n * part_length size l)) known.fixed_size known.default_len in
    record {
      fixed_size =
          ap₂ (λ b l. cond b (Some l) None) (ap is_some known.fixed_size
          ∙ vector_fixed (fixed_size t) n) len_is
          ∙ size_of_whole (fixed_size (vector t n)) (default_length (vector t n))
          (default_length-fixed (vector t n));
      default_len = len_is;
      chunk_count = chunks_are;
      depth = depth_is;
      levels = omega (arith, depth_is, known.levels);
      nesting = omega (arith, known.nesting);
    }

all_fixed : (size : Option ℕ) → not (is_none size) ≡ is_some size
all_fixed None = refl
all_fixed (Some z) = refl

pub container_facts : (fs : Fields) (sums : Sums) (chunks depth : ℕ) → AreSums fs sums
    → chunks ≡ field_count fs → depth ≡ depth_of chunks
    → AreFactsUpTo (record {
      fixed_size = cond sums.all_fixed (Some sums.default_len) None;
      default_len = sums.default_len;
      chunk_count = chunks;
      depth = depth;
      levels =
          depth + sums.levels;
      nesting = sums.nesting + 1;
    }) (container fs)
container_facts fs sums chunks depth told chunks_are deep =
    let depth_is : depth ≡ depth_of (field_count fs) = deep ∙ ap depth_of chunks_are in
    record {
      fixed_size =
          ap₂ (λ b l. cond b (Some l) None) (told.all_fixed
          ∙ all_fixed (total_size (part_sizes fs))) told.default_len
          ∙ size_of_whole (total_size (part_sizes fs)) (default_fields_length fs)
          (default_fields_length-fixed fs);
      default_len = told.default_len;
      chunk_count = chunks_are;
      depth = depth_is;
      levels = omega (arith, depth_is, told.levels);
      nesting = omega (arith, told.nesting);
    }

pub union_facts : (os : Options) (lev nest first : ℕ) → AreOptionSums os lev nest
    → first ≡ default_option_length os → first ≤ 2 ^ 24
    → AreFactsUpTo (record {
      fixed_size = None;
      default_len = 1 + first;
      chunk_count = 1;
      depth =
          0;
      levels = lev + 1;
      nesting = nest + 1;
    }) (union os)
union_facts os lev nest first told first_is short = record {
  fixed_size = refl;
  default_len = omega (arith, first_is);
  chunk_count = refl;
  depth = omega (arith, depth_of-small 1 (omega arith));
  levels = omega (arith, told.levels);
  nesting = omega (arith, told.nesting);
}

-- within the limits nothing is capped
pub uncapped_facts : (facts : Facts) (t : SszType) → default_length t ≤ 2 ^ 24
    → AreFactsUpTo facts t → AreFactsOf facts t
uncapped_facts facts t short h = record {
  fixed_size = h.fixed_size ∙ exact (fixed_size t) (default_length-fixed t);
  default_len = omega (arith, h.default_len);
  chunk_count = h.chunk_count;
  depth = h.depth;
  levels = h.levels;
  nesting = h.nesting;
}
  where
    exact : (size : Option ℕ) → ((z : ℕ) → size ≡ Some z → default_length t ≡ z)
        → option_map capped size ≡ size
    exact None k = refl
    exact (Some z) k = ap Some (let is : default_length t ≡ z = k z refl in omega arith)
