-- Vectors and lists are read back, and walked to themselves.
use Rattle.std.proofs.Common.{◌≡◌, ℕ, zero, suc, ◌+◌, ◌<◌, Bool, true, false, List, [], ◌∷◌, length, map, Ok, refl, ap, ap₂, ◌∙◌, subst, arith, lit<}
use Rattle.std.specs.Option.{ok_or}
use Rattle.std.specs.List.{AllByRecursion}
use Rattle.std.proofs.lemmas.Bool.{eq-eqb, le-leb}
use Rattle.std.proofs.lemmas.List.{length-map}
use Rattle.serde_json.specs.Data.{string, array}
use Rattle.serde_json.specs.Events.{items_len}
use Rattle.serde_json.specs.View.{items_of}
use Rattle.ssz_schema.specs.width.Width.TheVariants.{W8}
use Rattle.ssz_bytes.specs.Bytes.{IsBytes}
use Rattle.ssz_schema.specs.Sizes.{nesting}
use Rattle.ssz_schema.specs.Types.{SszType, uint, vector, list}
use Rattle.ssz_value.specs.Values.{SszValue, number, sequence, values, items, Fits}
use Rattle.ssz_value.specs.Standing.{is_byte}
use Rattle.ssz_value.proofs.FormLemmas.{byte_type}
use Rattle.ssz_value.proofs.Sequences.{values-items}
use Rattle.ssz_value_json.specs.declared.count.Count.{Count}
use Rattle.ssz_value_json.specs.declared.count.Count.TheVariants.{Exactly, AtMost}
use Rattle.ssz_json_text.specs.Strings.{hex_text}
use Rattle.ssz_json_text.specs.Text.{json_of, sequence_json, byte_of}
use Rattle.ssz_value_json.specs.Steps.{◌>>=◌, where_holds, leaf, next, allows, bad_text, bad_count}
use Rattle.ssz_value_json.specs.Walk.{json_walk, json_bytes_at, sequence_at, elements_at, array_at}
use Rattle.ssz_value_json.proofs.Ascii.{hex_utf8}
use Rattle.ssz_value_json.proofs.ReadBack.{ReadsBack, ItemsReadBack, array_back}
use Rattle.ssz_value_json.proofs.RoundTrip.{hex_read}
use Rattle.ssz_value_json.proofs.BackWords.{BackLaw, WalksTo, deeper}
use Rattle.ssz_value_json.proofs.BackStrings.{string_back}

elements_back : (t : SszType) → BackLaw t → (vs : List SszValue) → AllByRecursion (Fits t) vs
    → ItemsReadBack (nesting t) (items_of (map (json_of t) vs))
elements_back t law [] all = tt
elements_back t law (v ∷ vs) all = (law.back v all.0, elements_back t law vs all.1)

elements_walk : (t : SszType) → BackLaw t → (vs : List SszValue) → AllByRecursion (Fits t) vs
    → WalksTo (λ n. elements_at (json_walk t) n (items_of (map (json_of t) vs))) vs
elements_walk t law [] all n = (n, refl)
elements_walk t law (v ∷ vs) all n =
    let first = law.walked v all.0 n in
    let rest = elements_walk t law vs all.1 first.0 in (
      rest.0,
      ap (λ r. r >>= λ p. elements_at (json_walk t) p.1 (items_of (map (json_of t) vs)) >>= λ q.
          Ok (p.0 ∷ q.0, q.1)) first.1
          ∙ ap (λ r. r >>= λ q. Ok (v ∷ q.0, q.1)) rest.1,
    )

length-items : (t : SszType) (vs : List SszValue)
    → items_len (items_of (map (json_of t) vs)) ≡ length vs
length-items t [] = refl
length-items t (v ∷ vs) = ap suc (length-items t vs)

array_walk : (t : SszType) → BackLaw t → (many : Count) (vs : List SszValue)
    → AllByRecursion (Fits t) vs → allows many (length vs) ≡ true
    → WalksTo (λ n. array_at (json_walk t) many n (array (items_of (map (json_of t) vs))))
    (sequence (values vs))
array_walk t law many vs all few n =
    let ds = items_of (map (json_of t) vs) in
    let parts = elements_walk t law vs all (next n) in (
      parts.0,
      ap (λ b. where_holds b ds (bad_count n) >>= λ some. elements_at (json_walk t) (next n) some
          >>= λ p. Ok (sequence (values p.0), p.1))
          (ap (allows many) (length-items t vs) ∙ few)
          ∙ ap (λ r. r >>= λ p. Ok (sequence (values p.0), p.1)) parts.1,
    )

-- the bytes of values of uint8
byte_value : (v : SszValue) → Fits (uint W8) v → (byte_of v < 256) × (number (byte_of v) ≡ v)
byte_value (number k) h = (h, refl)
byte_value _ h = absurd h

bytes_small : (vs : List SszValue) → AllByRecursion (Fits (uint W8)) vs → IsBytes (map byte_of vs)
bytes_small [] all i = lit< tt
bytes_small (v ∷ vs) all zero = (byte_value v all.0).0
bytes_small (v ∷ vs) all (suc i) = bytes_small vs all.1 i

bytes_same : (vs : List SszValue) → AllByRecursion (Fits (uint W8)) vs
    → map number (map byte_of vs) ≡ vs
bytes_same [] all = refl
bytes_same (v ∷ vs) all =
    ap₂ (λ (w : SszValue) ws. w ∷ ws) (byte_value v all.0).1 (bytes_same vs all.1)

bytes_walk : (many : Count) (vs : List SszValue) (n : ℕ) → AllByRecursion (Fits (uint W8)) vs
    → allows many (length vs) ≡ true
    → json_bytes_at many n (string (hex_text (map byte_of vs))) ≡ Ok (sequence (values vs))
bytes_walk many vs n all few =
    let bytes = map byte_of vs in
    ap (λ o. ok_or o (bad_text n) >>= λ bs. where_holds (allows many (length bs))
    (sequence (values (map number bs))) (bad_count n)) (hex_read bytes (bytes_small vs all))
    ∙ ap (λ b. where_holds b (sequence (values (map number bytes))) (bad_count n))
    (ap (allows many) (length-map vs byte_of) ∙ few)
    ∙ ap (λ ws. Ok (sequence (values ws))) (bytes_same vs all)

sequence_law : (b : Bool) (t : SszType) → is_byte t ≡ b → BackLaw t → (many : Count)
    (vs : List SszValue) → AllByRecursion (Fits t) vs → allows many (length vs) ≡ true
    → ReadsBack (nesting t + 1) (sequence_json b (json_of t) vs)
    × WalksTo (λ n. sequence_at b (json_walk t) many n (sequence_json b (json_of t) vs))
    (sequence (values vs))
sequence_law true t byte law many vs all few =
    let bytes = subst (λ (u : SszType). AllByRecursion (Fits u) vs) (byte_type t byte) all in (
      deeper 1 (nesting t + 1) _ (omega arith)
          (string_back (hex_text (map byte_of vs))
          (hex_utf8 (map byte_of vs) (bytes_small vs bytes))),
      λ n. (next n, ap (leaf n) (bytes_walk many vs n bytes few)),
    )
sequence_law false t byte law many vs all few = (
  deeper (suc (nesting t)) (nesting t + 1) _ (omega arith)
      (array_back (nesting t) _ (elements_back t law vs all)),
  array_walk t law many vs all few,
)

-- a sequence under a vector or list, whose parts stand as the items of its values
vector_law : (t : SszType) (count : ℕ) → BackLaw t → (v : SszValue) → Fits (vector t count) v
    → ReadsBack (nesting t + 1) (json_of (vector t count) v)
    × WalksTo (λ n. json_walk (vector t count) n (json_of (vector t count) v)) v
vector_law t count law (sequence ws) h =
    let pair = sequence_law (is_byte t) t refl law (Exactly count) (items ws) h.1
    (eq-eqb (length (items ws)) count h.0) in (
      pair.0,
      λ n. (
        (pair.1 n).0,
        (pair.1 n).1
            ∙ ap (λ us. Ok (sequence us, (pair.1 n).0)) (values-items ws),
      ),
    )
vector_law t count law _ h = absurd h

list_law : (t : SszType) (limit : ℕ) → BackLaw t → (v : SszValue) → Fits (list t limit) v
    → ReadsBack (nesting t + 1) (json_of (list t limit) v)
    × WalksTo (λ n. json_walk (list t limit) n (json_of (list t limit) v)) v
list_law t limit law (sequence ws) h =
    let pair = sequence_law (is_byte t) t refl law (AtMost limit) (items ws) h.1
    (le-leb (length (items ws)) limit h.0) in (
      pair.0,
      λ n. (
        (pair.1 n).0,
        (pair.1 n).1
            ∙ ap (λ us. Ok (sequence us, (pair.1 n).0)) (values-items ws),
      ),
    )
list_law t limit law _ h = absurd h

pub vector_back : (t : SszType) (count : ℕ) → BackLaw t → BackLaw (vector t count)
vector_back t count law = record {
  back = λ v h. (vector_law t count law v h).0;
  walked = λ v h. (vector_law t count law v h).1;
}

pub list_back : (t : SszType) (limit : ℕ) → BackLaw t → BackLaw (list t limit)
list_back t limit law = record {
  back = λ v h. (list_law t limit law v h).0;
  walked = λ v h. (list_law t limit law v h).1;
}
