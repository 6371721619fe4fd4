-- What the tree of a value is made of, by the form of its type.
use Rattle.std.proofs.Common.{ℕ, zero, suc, ◌+◌, ◌*◌, ◌/◌, ◌^◌, ◌<◌, ◌≤◌, ◌≡◌, ◌⊎◌, inl, inr, Bool, List, [], ◌∷◌, length, slice_get, Option, Some, None, refl, sym, ap, ◌∙◌, subst, arith}
use Rattle.std.proofs.Math.Nat.{mul-le-mul_right}
use Rattle.ssz_chunk.specs.Chunk.{zero_chunk}
use Rattle.ssz_chunk.specs.Tree.{Tree, leaf}
use Rattle.ssz_schema.specs.format.Format.{Format}
use Rattle.ssz_schema.specs.format.Format.TheVariants.{One, Two}
use Rattle.ssz_schema.specs.Types.{SszType, Fields, container, vector, list, bitvector, bitlist, union, no_fields, field}
use Rattle.ssz_schema.specs.Sizes.{basic_size, element_chunks, depth, field_count, option_count}
use Rattle.ssz_schema.specs.Unfolding.{type_tree_at, fields_over, options_over}
use Rattle.ssz_schema.specs.Legal.{IsLegal, greatest_limit}
use Rattle.ssz_bytes.specs.Bytes.{le_bytes, number_of_bits}
use Rattle.ssz_schema.proofs.DepthLemmas.{depth_of-holds}
use Rattle.ssz_schema.proofs.SumLemmas.{field_count-over}
use Rattle.ssz_bytes.proofs.Numbers.{length-le_bytes}
use Rattle.ssz_value.specs.Values.{SszValue, Values, sequence, bits, chosen, chosen_none, items, Fits, FitFields, FitsOption, IsNoneOption}
use Rattle.ssz_value.specs.Trees.{tree, option_tree, mixed_in, pack_bits}
use Rattle.ssz_value.proofs.ChunkLaw.{length-chunks}
use Rattle.ssz_value.proofs.PartLemmas.{Part}
use Rattle.ssz_places.specs.PlaceLaws.{IsTreeOf}
use Rattle.ssz_nodes.specs.Shown.{AreElements, AreFieldsIn, AreBits}

-- more elements have no fewer chunks
chunks_le : (size : Option ℕ) (m n : ℕ) → m ≤ n → element_chunks size m ≤ element_chunks size n
chunks_le None m n le = le
chunks_le (Some z) m n le = div_up (m * z) (n * z) (mul-le-mul_right z le)
  where
    div_up : (a b : ℕ) → a ≤ b → (a + 31) / 32 ≤ (b + 31) / 32
    div_up a b h = omega arith

limit_few : (format : Format) → greatest_limit format ≤ 2 ^ 62
limit_few One = omega arith
limit_few Two = omega arith

-- the elements of a vector
pub record IsVector (elem : SszType) (n : ℕ) (v : SszValue) (node : Tree) : Type 0 where
  pub parts : Values
  pub is : v ≡ sequence parts
  pub are : AreElements elem (depth (vector elem n)) n (items parts) node

pub vector_elements : (elem : SszType) (n : ℕ) (v : SszValue) (node : Tree)
    → IsTreeOf (vector elem n) v node → IsVector elem n v node
vector_elements elem n (sequence vs) node h = record {
  parts = vs;
  is = refl;
  are = record {
    fit = h.fits.1;
    many = h.fits.0;
    few = depth_of-holds (element_chunks (basic_size elem) n);
    tree = h.is;
  };
}
vector_elements elem n _ node h = absurd h.fits

-- the elements of a list, beside their number
pub record IsList (elem : SszType) (limit : ℕ) (v : SszValue) (node : Tree) : Type 0 where
  pub parts : Values
  pub is : v ≡ sequence parts
  pub content : Tree
  pub tree : node ≡ mixed_in (length (items parts)) content
  pub are : AreElements elem (depth (list elem limit)) (length (items parts)) (items parts) content
  pub small : length (items parts) < 2 ^ 64

pub list_elements : (format : Format) (elem : SszType) (limit : ℕ) (v : SszValue) (node : Tree)
    → IsLegal format (list elem limit) → IsTreeOf (list elem limit) v node
    → IsList elem limit v node
list_elements format elem limit (sequence vs) node legal h = record {
  parts = vs;
  is = refl;
  content = _;
  tree = h.is;
  are = record {
    fit = h.fits.1;
    many = refl;
    few = omega (
      arith,
      chunks_le (basic_size elem) (length (items vs)) limit h.fits.0,
      depth_of-holds (element_chunks (basic_size elem) limit),
    );
    tree = refl;
  };
  small = omega (arith, h.fits.0, legal.1, limit_few format);
}
list_elements format elem limit _ node legal h = absurd h.fits

length-fields : (fs : Fields) (vs : List SszValue) → FitFields fs vs → length vs ≡ field_count fs
length-fields no_fields [] fit = refl
length-fields no_fields (v ∷ vs) fit = absurd fit
length-fields (field name t fs) [] fit = absurd fit
length-fields (field name t fs) (v ∷ vs) fit = omega (arith, length-fields fs vs fit.1)

-- the values of a container's fields
pub record IsContainer (fs : Fields) (v : SszValue) (node : Tree) : Type 0 where
  pub parts : Values
  pub is : v ≡ sequence parts
  pub are : AreFieldsIn fs (depth (container fs)) (items parts) node

pub container_fields : (fs : Fields) (v : SszValue) (node : Tree) → IsTreeOf (container fs) v node
    → IsContainer fs v node
container_fields fs (sequence vs) node h = record {
  parts = vs;
  is = refl;
  are = record {
    fit = h.fits;
    few = omega
        (arith, length-fields fs (items vs) h.fits, depth_of-holds (field_count fs));
    tree = h.is;
  };
}
container_fields fs _ node h = absurd h.fits

-- a field of a container stands in the row of its fields
pub field_inside : (trees : List SszType) (fields : List Part) (t : SszType) (i long : ℕ)
    → t ≡ container (fields_over trees fields) → i < length fields → long ≡ 2 ^ depth t → i < long
field_inside trees fields t i long form below is = omega (
  arith,
  below,
  is,
  subst (λ n. n ≤ 2 ^ depth t) (field_count-over trees fields)
      (subst (λ (s : SszType). field_count (fields_over trees fields) ≤ 2 ^ depth s) (sym form)
      (depth_of-holds (field_count (fields_over trees fields)))),
)

length-pack_bits : (bs : List Bool) → length (pack_bits bs) ≡ (length bs + 255) / 256
length-pack_bits bs =
    let bytes : List ℕ = le_bytes ((length bs + 7) / 8) (number_of_bits bs) in
    length-chunks ((length bytes + 31) / 32) bytes
    ∙ omega (arith, length-le_bytes ((length bs + 7) / 8) (number_of_bits bs))

-- the bits of a bitvector
pub record IsBitvector (n : ℕ) (v : SszValue) (node : Tree) : Type 0 where
  pub run : List Bool
  pub is : v ≡ bits run
  pub are : AreBits (depth (bitvector n)) n run node

pub bitvector_bits : (n : ℕ) (v : SszValue) (node : Tree) → IsTreeOf (bitvector n) v node
    → IsBitvector n v node
bitvector_bits n (bits bs) node h = record {
  run = bs;
  is = refl;
  are = record {
    many = h.fits;
    few = omega (arith, length-pack_bits bs, h.fits, depth_of-holds ((n + 255) / 256));
    tree = h.is;
  };
}
bitvector_bits n _ node h = absurd h.fits

-- the bits of a bitlist, beside their number
pub record IsBitlist (limit : ℕ) (v : SszValue) (node : Tree) : Type 0 where
  pub run : List Bool
  pub is : v ≡ bits run
  pub content : Tree
  pub tree : node ≡ mixed_in (length run) content
  pub are : AreBits (depth (bitlist limit)) (length run) run content
  pub small : length run < 2 ^ 64

pub bitlist_bits : (format : Format) (limit : ℕ) (v : SszValue) (node : Tree)
    → IsLegal format (bitlist limit) → IsTreeOf (bitlist limit) v node → IsBitlist limit v node
bitlist_bits format limit (bits bs) node legal h = record {
  run = bs;
  is = refl;
  content = _;
  tree = h.is;
  are = record {
    many = refl;
    few = omega (arith, length-pack_bits bs, h.fits, depth_of-holds ((limit + 255) / 256));
    tree = refl;
  };
  small = omega (arith, h.fits, legal.0, limit_few format);
}
bitlist_bits format limit _ node legal h = absurd h.fits

-- the value of a union is that of an option with a type
pub record HasOption (trees : List SszType) (ids : List (Option ℕ)) (k : ℕ) (v : SszValue)
    (node : Tree) : Type 0 where
  pub id : ℕ
  pub value : SszValue
  pub is : v ≡ chosen k value
  pub here : slice_get ids k ≡ Some (Some id)
  pub tree : IsTreeOf (type_tree_at trees id) value node

-- or it is None
pub record HasNone (ids : List (Option ℕ)) (k : ℕ) (v : SszValue) : Type 0 where
  pub is : v ≡ chosen_none k
  pub here : slice_get ids k ≡ Some None

-- the option of a union, beside its number
pub record IsUnion (trees : List SszType) (ids : List (Option ℕ)) (v : SszValue) (node : Tree)
    : Type 0 where
  pub k : ℕ
  pub content : Tree
  pub tree : node ≡ mixed_in k content
  pub below : k < length ids
  pub option : HasOption trees ids k v content ⊎ HasNone ids k v

record AtOption (trees : List SszType) (ids : List (Option ℕ)) (k : ℕ) (w : SszValue)
    : Type 0 where
  pub id : ℕ
  pub here : slice_get ids k ≡ Some (Some id)
  pub below : k < length ids
  pub fits : Fits (type_tree_at trees id) w
  pub tree : option_tree (options_over trees ids) k w ≡ tree (type_tree_at trees id) w

at_option : (trees : List SszType) (ids : List (Option ℕ)) (k : ℕ) (w : SszValue)
    → FitsOption (options_over trees ids) k w → AtOption trees ids k w
at_option trees [] k w fit = absurd fit
at_option trees (None ∷ ids) zero w fit = absurd fit
at_option trees (Some id ∷ ids) zero w fit =
    record { id = id; here = refl; below = omega arith; fits = fit; tree = refl }
at_option trees (None ∷ ids) (suc k) w fit =
    let h : AtOption trees ids k w = at_option trees ids k w fit in
    record {
      id = h.id;
      here = h.here;
      below = omega (arith, h.below);
      fits = h.fits;
      tree = h.tree;
    }
at_option trees (Some other ∷ ids) (suc k) w fit =
    let h : AtOption trees ids k w = at_option trees ids k w fit in
    record {
      id = h.id;
      here = h.here;
      below = omega (arith, h.below);
      fits = h.fits;
      tree = h.tree;
    }

at_none : (trees : List SszType) (ids : List (Option ℕ)) (k : ℕ)
    → IsNoneOption (options_over trees ids) k → (slice_get ids k ≡ Some None) × (k < length ids)
at_none trees [] k fit = absurd fit
at_none trees (None ∷ ids) zero fit = (refl, omega arith)
at_none trees (Some id ∷ ids) zero fit = absurd fit
at_none trees (None ∷ ids) (suc k) fit =
    let h = at_none trees ids k fit in (h.0, omega (arith, h.1))
at_none trees (Some id ∷ ids) (suc k) fit =
    let h = at_none trees ids k fit in (h.0, omega (arith, h.1))

pub union_option : (trees : List SszType) (ids : List (Option ℕ)) (v : SszValue) (node : Tree)
    → IsTreeOf (union (options_over trees ids)) v node → IsUnion trees ids v node
union_option trees ids (chosen k w) node h =
    let at : AtOption trees ids k w = at_option trees ids k w h.fits in record {
      k = k;
      content = tree (type_tree_at trees at.id) w;
      tree = h.is ∙ ap (mixed_in k) at.tree;
      below = at.below;
      option = inl (record {
        id = at.id;
        value = w;
        is = refl;
        here = at.here;
        tree = record { fits = at.fits; is = refl };
      });
    }
union_option trees ids (chosen_none k) node h =
    let at = at_none trees ids k h.fits in record {
      k = k;
      content = leaf zero_chunk;
      tree = h.is;
      below = at.1;
      option = inr (record { is = refl; here = at.0 });
    }
union_option trees ids _ node h = absurd h.fits

-- a node is the content of another one, and this the number beside it
pub record Unmixes (node content : Tree) (count : ℕ) : Type 0 where
  pub tree : (n : ℕ) (t : Tree) → node ≡ mixed_in n t → content ≡ t
  pub number : (n : ℕ) (t : Tree) → node ≡ mixed_in n t → n < 2 ^ 64 → count ≡ n

-- how many options a union has
pub union_few : (format : Format) (trees : List SszType) (ids : List (Option ℕ))
    → IsLegal format (union (options_over trees ids)) → length ids ≤ 128
union_few format trees ids legal = omega (arith, legal.1, count trees ids)
  where
    count : (trees : List SszType) (ids : List (Option ℕ))
        → option_count (options_over trees ids) ≡ length ids
    count trees [] = refl
    count trees (None ∷ ids) = omega (arith, count trees ids)
    count trees (Some id ∷ ids) = omega (arith, count trees ids)
