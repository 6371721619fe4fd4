-- Bytes have no fault exactly where they are the text of a value, and of no two.
use Rattle.std.proofs.Common.{◌≡◌, ◌<◌, ◌++◌, length, length-append, append-nil, [], ◌∷◌, arith, ℕ, Bool, true, false, cond, List, Option, Some, None, Ok, Err, refl, sym, ap, ◌∙◌, subst}
use Rattle.std.specs.List.{list_all}
use Rattle.std.specs.Str.{bytes_eq}
use Rattle.std.proofs.lemmas.Slice.Eq.{bytes_eq-Decides}
use Rattle.json.specs.Word.{is_space}
use Rattle.serde_json.specs.Data.{Data}
use Rattle.ssz_schema.specs.format.Format.{Format}
use Rattle.ssz_schema.specs.Types.{SszType}
use Rattle.ssz_schema.specs.Legal.{IsLegal}
use Rattle.ssz_schema_json.specs.Schema.{json_read}
use Rattle.ssz_schema_json.proofs.Json.{json_of-text}
use Rattle.ssz_value.specs.declared.value.Value.{Value}
use Rattle.ssz_value.specs.Standing.{value_of, IsValue}
use Rattle.ssz_value.specs.Values.{SszValue, Fits}
use Rattle.ssz_value_json.specs.declared.fault.JsonFault.{JsonFault}
use Rattle.ssz_json_text.specs.Text.{json, json_of}
use Rattle.ssz_value_json.specs.Steps.{Walked, bad_spelling}
use Rattle.ssz_value_json.specs.Walk.{json_walk}
use Rattle.ssz_value_json.specs.Faults.{walked_fault, read_fault, first_json_fault, value_read, value_spelled, walked_value}
use Rattle.ssz_value_json.specs.Answers.{ReadsTo}
use Rattle.ssz_value_json.specs.Laws.{Spells}
use Rattle.ssz_value_json.proofs.FoundLemmas.{first_ok}
use Rattle.ssz_value_json.proofs.ReadBack.{reads_back}
use Rattle.ssz_value_json.proofs.Blank.{blank_back, blank_utf8}
use Rattle.ssz_value_json.proofs.WalkFits.{fit_law}
use Rattle.ssz_value_json.proofs.WalkBack.{back_law, shallow_back}

pub read_same : (t : SszType) (b : List ℕ) (d : Data) (v : SszValue) (m : ℕ)
    → json_read b ≡ Some d → json_walk t 0 d ≡ Ok (v, m) → bytes_eq (json t v) b ≡ true
    → first_json_fault t b ≡ None
read_same t b d v m is walked same =
    ap (read_fault t b) is ∙ ap (walked_fault t b) walked
    ∙ ap (λ x. cond x None (Some bad_spelling)) same

pub spelled : (t : SszType) (b : List ℕ) (d : Data) (v : SszValue) (m : ℕ)
    → json_walk t 0 d ≡ Ok (v, m) → bytes_eq (json t v) b ≡ true → Spells t v b
spelled t b d v m walked same = record {
  fits = (fit_law t).fits 0 m d v walked;
  text = (bytes_eq-Decides (json t v) b).0 same;
}

-- ---- the law

same_text : (b : List ℕ) → bytes_eq b b ≡ true
same_text b = (bytes_eq-Decides b b).1 refl

text_read : (format : Format) (t : SszType) (v : SszValue) → IsLegal format t → Fits t v
    → json_read (json t v) ≡ Some (json_of t v)
text_read format t v legal fit =
    let back = shallow_back format t v legal fit in
    json_of-text (json t v) (json_of t v) back.utf8 (reads_back (json_of t v) back)

pub spelled_faultless : (format : Format) (t : SszType) (b : List ℕ) (v : SszValue)
    → IsLegal format t → Spells t v b → first_json_fault t b ≡ None
spelled_faultless format t b v legal h =
    let walked = (back_law format t legal).walked v h.fits 0 in
    subst (λ (c : List ℕ). first_json_fault t c ≡ None) h.text
    (read_same t (json t v) (json_of t v) v walked.0 (text_read format t v legal h.fits) walked.1
    (same_text (json t v)))

-- white space behind a text is another spelling
other_text : (b ws : List ℕ) → 0 < length ws → bytes_eq b (b ++ ws) ≡ false
other_text b ws some = differ (bytes_eq b (b ++ ws)) (bytes_eq-Decides b (b ++ ws)).0
  where
    differ : (x : Bool) → (x ≡ true → b ≡ b ++ ws) → x ≡ false
    differ true same = absurd (omega (arith, some, ap length (same refl), length-append b ws))
    differ false same = refl

pub blank_behind : (format : Format) (t : SszType) (b ws : List ℕ) (v : SszValue)
    → IsLegal format t → Fits t v → b ≡ json t v ++ ws → 0 < length ws
    → list_all is_space ws ≡ true → first_json_fault t b ≡ Some bad_spelling
blank_behind format t b ws v legal fit is some blank =
    let text = json t v in
    let d = json_of t v in
    let back = shallow_back format t v legal fit in
    let walked = (back_law format t legal).walked v fit 0 in
    let read = json_of-text (text ++ ws) d (blank_utf8 d ws back blank) (blank_back d ws back blank)
    in
    ap (first_json_fault t) is ∙ ap (read_fault t (text ++ ws)) read
    ∙ ap (walked_fault t (text ++ ws)) walked.1
    ∙ ap (λ x. cond x None (Some bad_spelling)) (other_text text ws some)

-- a value whose text the bytes are, with nothing behind it, is the answer to them
pub read_as : (format : Format) (t : SszType) (b ws : List ℕ) (v : Value) → IsLegal format t
    → IsValue t v → b ≡ json t (value_of v) ++ ws → length ws ≡ 0 → ReadsTo t b (Ok v)
read_as format t b [] v legal value is none =
    let text = sym (is ∙ append-nil (json t (value_of v))) in
    let spells : Spells t (value_of v) b = record { fits = value.fits; text = text } in
    (spelled_faultless format t b (value_of v) legal spells, text)
read_as format t b (w ∷ ws) v legal value is none = absurd (omega (arith, none))

if_same : (x : Bool) (f : JsonFault) → cond x None (Some f) ≡ None → x ≡ true
if_same true f e = refl
if_same false f e = absurd (cc)

walked_spelled : (t : SszType) (b : List ℕ) (d : Data) (r : Walked SszValue) → json_walk t 0 d ≡ r
    → walked_fault t b r ≡ None → Spells t (walked_value r) b
walked_spelled t b d (Ok p) is e =
    spelled t b d p.0 p.1 is (if_same (bytes_eq (json t p.0) b) bad_spelling e)
walked_spelled t b d (Err f) is e = absurd (cc)

read_spelled : (t : SszType) (b : List ℕ) (o : Option Data) → read_fault t b o ≡ None
    → Spells t (value_read t o) b
read_spelled t b None e = absurd (cc)
read_spelled t b (Some d) e = walked_spelled t b d (json_walk t 0 d) refl e

-- bytes without a fault are the text of the value that they are read as
pub faultless_spelled : (t : SszType) (b : List ℕ) → first_json_fault t b ≡ None
    → Spells t (value_spelled t b) b
faultless_spelled t b e = read_spelled t b (json_read b) e

some_same : (d e : Data) (o : Option Data) → o ≡ Some d → o ≡ Some e → d ≡ e
some_same d e o is other = cc

pub one_value : (format : Format) (t : SszType) (b : List ℕ) (v w : SszValue) → IsLegal format t
    → Spells t v b → Spells t w b → v ≡ w
one_value format t b v w legal h k =
    let law = back_law format t legal in
    let first = text_read format t v legal h.fits in
    let second = ap json_read (h.text ∙ sym k.text) ∙ text_read format t w legal k.fits in
    let same = some_same (json_of t v) (json_of t w) (json_read (json t v)) first second in
    let one = law.walked v h.fits 0 in
    let two = law.walked w k.fits 0 in
    first_ok v w one.0 two.0 (json_walk t 0 (json_of t v)) one.1 (ap (json_walk t 0) same ∙ two.1)

-- so a value whose text they are is that value
pub spelled_is : (format : Format) (t : SszType) (b : List ℕ) (v : SszValue) → IsLegal format t
    → first_json_fault t b ≡ None → Spells t v b → value_spelled t b ≡ v
spelled_is format t b v legal none h =
    one_value format t b (value_spelled t b) v legal (faultless_spelled t b none) h
