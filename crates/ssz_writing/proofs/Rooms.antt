-- Fixed parts that are written with room for the offsets, and offsets that are written into it.
use Rattle.std.proofs.Common.{ℕ, zero, suc, ◌+◌, ◌-◌, ◌^◌, ◌<◌, ◌≤◌, ◌≡◌, min, List, [], ◌∷◌, ◌++◌, length, take, replicate, true, false, Option, Some, None, refl, sym, ap, ap₂, ◌∙◌, arith, append_assoc, length-append}
use Rattle.std.specs.Prelude.{is_none}
use Rattle.std.proofs.lemmas.List.{append-nil}
use Rattle.std.proofs.Math.Seq.{take-append-add}
use Rattle.ssz_schema.specs.Sizes.{head_size, total_size}
use Rattle.ssz_bytes.specs.Bytes.{offset_bytes}
use Rattle.ssz_value.specs.Encoding.{heads_length, heads, bodies, joined}
use Rattle.ssz_value.proofs.Cut.{AreParts}
use Rattle.ssz_value.proofs.Sequences.{fixed_rest}
use Rattle.ssz_parts.specs.Encoded.{head_of, body_of}
use Rattle.ssz_value.specs.Written.{capped}
use Rattle.ssz_nodes.specs.Shown.{ExtendsBytes}
use Rattle.ssz_writing.specs.Offsets.{room_of, rooms, offset_rooms}

-- rooms are as long as what comes into them
length-rooms : (sizes : List (Option ℕ)) (parts : List (List ℕ)) → AreParts sizes parts
    → length (rooms sizes parts) ≡ heads_length sizes
length-rooms [] [] are = refl
length-rooms [] (p ∷ parts) are = absurd are
length-rooms (Some z ∷ sizes) [] are = absurd are
length-rooms (None ∷ sizes) [] are = absurd are
length-rooms (Some z ∷ sizes) (p ∷ parts) are =
    length-append p (rooms sizes parts) ∙ ap₂ ◌+◌ are.0 (length-rooms sizes parts are.1)
length-rooms (None ∷ sizes) (p ∷ parts) are =
    length-append (offset_bytes 0) (rooms sizes parts)
    ∙ ap (λ n. 4 + n) (length-rooms sizes parts are)

-- one fixed part more
pub rooms_step : (size : Option ℕ) (sizes : List (Option ℕ)) (p : List ℕ) (parts : List (List ℕ))
    (out new all : List ℕ) → out ++ rooms (size ∷ sizes) (p ∷ parts) ≡ all
    → new ≡ out ++ room_of size p → new ++ rooms sizes parts ≡ all
rooms_step size sizes p parts out new all is adds =
    ap (λ xs. xs ++ rooms sizes parts) adds ∙ append_assoc out (room_of size p) (rooms sizes parts)
    ∙ is

-- So far: front is whole, with its offsets, the rooms of the parts to come stand behind it, and
-- back is the variable parts of those before.
pub record Filled (sizes : List (Option ℕ)) (parts : List (List ℕ)) (start room : ℕ)
    (all out : List ℕ) : Type 0 where
  pub front : List ℕ
  pub back : List ℕ
  pub sized : AreParts sizes parts
  pub behind : start ≤ length front
  pub place : room ≡ capped (length front)
  pub is : out ≡ front ++ (rooms sizes parts ++ back)
  pub whole : front ++ (heads sizes parts (length out - start) ++ (back ++ bodies sizes parts))
      ≡ all

pub Filled-start : (sizes : List (Option ℕ)) (parts : List (List ℕ)) (start : ℕ)
    (front out : List ℕ) → AreParts sizes parts → start < 2 ^ 64 → length front ≡ start
    → out ≡ front ++ rooms sizes parts
    → Filled sizes parts start start
    (front ++ heads sizes parts (length out - start) ++ bodies sizes parts) out
Filled-start sizes parts start front out sized small at is = record {
  front = front;
  back = [];
  sized = sized;
  behind = omega (arith, at);
  place = omega (arith, at, small);
  is = is ∙ ap (λ xs. front ++ xs) (sym (append-nil (rooms sizes parts)));
  whole = sym (append_assoc front (heads sizes parts (length out - start)) (bodies sizes parts));
}

pub Filled-more : (size : Option ℕ) (sizes : List (Option ℕ)) (p : List ℕ)
    (parts : List (List ℕ)) (start room next : ℕ) (all out new : List ℕ)
    → Filled (size ∷ sizes) (p ∷ parts) start room all out
    → next ≡ min (room + head_size size) (2 ^ 64 - 1)
    → ((front back : List ℕ) → room ≡ capped (length front)
    → out ≡ front ++ room_of size p ++ back
    → new ≡ front ++ head_of size p (length out - start) ++ back ++ body_of size p)
    → Filled sizes parts start next all new
Filled-more (Some z) sizes p parts start room next all out new h next_is fills =
    let a : List ℕ = h.front in
    let b : List ℕ = h.back in
    let r : List ℕ = rooms sizes parts in
    let out_is : out ≡ a ++ (p ++ (r ++ b)) =
    h.is ∙ ap (λ xs. a ++ xs) (append_assoc p r b) in
    let filled : new ≡ a ++ p ++ (r ++ b) =
    fills a (r ++ b) h.place (out_is ∙ sym (append_assoc a p (r ++ b)))
    ∙ append-nil (a ++ p ++ (r ++ b)) in
    let same : new ≡ out = filled ∙ append_assoc a p (r ++ b) ∙ sym out_is in
    let ends : List ℕ = heads sizes parts (length out - start) in
    let rest : List ℕ = b ++ bodies sizes parts in
    record {
      front = a ++ p;
      back = b;
      sized = h.sized.1;
      behind = omega (arith, h.behind, length-append a p);
      place = omega (arith, h.place, h.sized.0, next_is, length-append a p);
      is = filled;
      whole = ap (λ (xs : List ℕ). a ++ p ++ (heads sizes parts (length xs - start) ++ rest)) same
          ∙ append_assoc a p (ends ++ rest)
          ∙ ap (λ xs. a ++ xs) (sym (append_assoc p ends rest))
          ∙ h.whole;
    }
Filled-more None sizes p parts start room next all out new h next_is fills =
    let a : List ℕ = h.front in
    let b : List ℕ = h.back in
    let r : List ℕ = rooms sizes parts in
    let four : List ℕ = offset_bytes (length out - start) in
    let out_is : out ≡ a ++ (offset_bytes 0 ++ (r ++ b)) =
    h.is ∙ ap (λ xs. a ++ xs) (append_assoc (offset_bytes 0) r b) in
    let filled : new ≡ a ++ four ++ (r ++ (b ++ p)) =
    fills a (r ++ b) h.place (out_is ∙ sym (append_assoc a (offset_bytes 0) (r ++ b)))
    ∙ append_assoc (a ++ four) (r ++ b) p
    ∙ ap (λ xs. a ++ four ++ xs) (append_assoc r b p) in
    let long_out : length out ≡ length a + (4 + (length r + length b)) =
    ap (λ (xs : List ℕ). length xs) out_is ∙ length-append a (offset_bytes 0 ++ (r ++ b))
    ∙ ap (λ n. length a + n) (length-append (offset_bytes 0) (r ++ b)
    ∙ ap (λ n. 4 + n) (length-append r b)) in
    let long_front : length (a ++ four) ≡ length a + 4 = length-append a four in
    let long_new : length new ≡ length a + 4 + (length r + (length b + length p)) =
    ap (λ (xs : List ℕ). length xs) filled ∙ length-append (a ++ four) (r ++ (b ++ p))
    ∙ ap₂ ◌+◌ long_front (length-append r (b ++ p)
    ∙ ap (λ n. length r + n) (length-append b p)) in
    let next_offset : length new - start ≡ length out - start + length p =
    omega (arith, h.behind, long_out, long_new) in
    let ends : List ℕ = heads sizes parts (length out - start + length p) in
    let rest : List ℕ = b ++ (p ++ bodies sizes parts) in
    record {
      front = a ++ four;
      back = b ++ p;
      sized = h.sized;
      behind = omega (arith, h.behind, long_front);
      place = omega (arith, h.place, next_is, long_front);
      is = filled;
      whole = ap₂ (λ n xs. a ++ four ++ (heads sizes parts n ++ xs)) next_offset
          (append_assoc b p (bodies sizes parts))
          ∙ append_assoc a four (ends ++ rest)
          ∙ ap (λ xs. a ++ xs) (sym (append_assoc four ends rest))
          ∙ h.whole;
    }

pub Filled-end : (start room : ℕ) (all out : List ℕ) → Filled [] [] start room all out
    → out ≡ all
Filled-end start room all out h =
    h.is ∙ ap (λ xs. h.front ++ xs) (sym (append-nil h.back)) ∙ h.whole

-- parts of one fixed size have no variable parts, and their rooms are filled
pub fixed_filled : (size : Option ℕ) (z n offset : ℕ) (parts : List (List ℕ)) (front : List ℕ)
    → size ≡ Some z
    → front ++ rooms (replicate n size) parts
    ≡ front ++ heads (replicate n size) parts offset ++ bodies (replicate n size) parts
fixed_filled size z n offset parts front e =
    ap (λ xs. front ++ xs) (go size n parts e)
    ∙ sym (append_assoc front (heads (replicate n size) parts offset)
    (bodies (replicate n size) parts))
  where
    go : (size : Option ℕ) (n : ℕ) (parts : List (List ℕ)) → size ≡ Some z
        → rooms (replicate n size) parts
        ≡ heads (replicate n size) parts offset ++ bodies (replicate n size) parts
    go None n parts e = cc
    go (Some y) zero parts e = refl
    go (Some y) (suc n) [] e = refl
    go (Some y) (suc n) (p ∷ parts) e =
        ap (λ xs. p ++ xs) (go (Some y) n parts e)
        ∙ sym (append_assoc p (heads (replicate n (Some y)) parts offset)
        (bodies (replicate n (Some y)) parts))

-- parts that are all of fixed size are as they are joined
pub fixed_rooms : (sizes : List (Option ℕ)) (parts : List (List ℕ)) (z offset : ℕ)
    → total_size sizes ≡ Some z
    → rooms sizes parts ≡ heads sizes parts offset ++ bodies sizes parts
fixed_rooms [] parts z offset e = refl
fixed_rooms (None ∷ sizes) parts z offset e = cc
fixed_rooms (Some y ∷ sizes) [] z offset e = refl
fixed_rooms (Some y ∷ sizes) (p ∷ parts) z offset e =
    let rest = fixed_rest y z (total_size sizes) e in
    ap (λ xs. p ++ xs) (fixed_rooms sizes parts rest.0 offset rest.1)
    ∙ sym (append_assoc p (heads sizes parts offset) (bodies sizes parts))

-- parts that are all of variable size have room for their offsets alone
pub variable_rooms : (parts : List (List ℕ))
    → rooms (replicate (length parts) None) parts ≡ offset_rooms (length parts)
variable_rooms [] = refl
variable_rooms (p ∷ parts) = ap (λ xs. offset_bytes 0 ++ xs) (variable_rooms parts)

-- the fixed part of a part of fixed size is the part
pub fixed_room : (size : Option ℕ) (bytes : List ℕ) → is_none size ≡ false
    → bytes ≡ room_of size bytes
fixed_room None bytes e = cc
fixed_room (Some z) bytes e = refl

pub no_size : (size : Option ℕ) → is_none size ≡ true → size ≡ None
no_size None e = refl
no_size (Some z) e = cc

-- room for one more, of so many that are left
pub offset_rooms_step : (left next : ℕ) (out new all : List ℕ) → left ≡ suc next
    → out ++ offset_rooms left ≡ all → new ≡ out ++ offset_bytes 0
    → new ++ offset_rooms next ≡ all
offset_rooms_step left next out new all one is adds =
    ap (λ xs. xs ++ offset_rooms next) adds
    ∙ append_assoc out (offset_bytes 0) (offset_rooms next)
    ∙ ap (λ k. out ++ offset_rooms k) (sym one) ∙ is

-- the fixed parts, then the variable parts
pub joined_adds : (sizes : List (Option ℕ)) (parts : List (List ℕ)) (start : ℕ)
    (old mid new : List ℕ) → AreParts sizes parts → start ≡ length old
    → mid ≡ old ++ rooms sizes parts
    → new ≡ old ++ heads sizes parts (length mid - start) ++ bodies sizes parts
    → new ≡ old ++ joined sizes parts
joined_adds sizes parts start old mid new are at front end =
    let long : length mid ≡ length old + length (rooms sizes parts) =
    ap (λ (xs : List ℕ). length xs) front ∙ length-append old (rooms sizes parts) in
    let offset : length mid - start ≡ heads_length sizes =
    omega (arith, at, long, length-rooms sizes parts are) in
    end ∙ ap (λ n. old ++ heads sizes parts n ++ bodies sizes parts) offset
    ∙ append_assoc old (heads sizes parts (heads_length sizes)) (bodies sizes parts)

-- an offset that is written into its room

-- what stands before it stays
pub put_kept : (room : ℕ) (bytes new behind front : List ℕ) → new ≡ take room bytes ++ behind
    → length front ≤ room → ExtendsBytes front bytes → ExtendsBytes front new
put_kept room bytes new behind front is within kept =
    let some : ℕ = room - length front in
    let at : length front + some ≡ room = omega (arith, within) in
    record {
      more = take some kept.more ++ behind;
      is = is ∙ ap (λ xs. take room xs ++ behind) kept.is
          ∙ ap (λ n. take n (front ++ kept.more) ++ behind) (sym at)
          ∙ ap (λ xs. xs ++ behind) (take-append-add front kept.more some)
          ∙ append_assoc front (take some kept.more) behind;
    }
