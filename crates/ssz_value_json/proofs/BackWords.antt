-- What is said of the JSON of a value: it is read back from its text, and walked to the value.
use Rattle.std.proofs.Common.{◌≡◌, ℕ, ◌≤◌, Ok, arith}
use Rattle.serde_json.specs.Data.{Data}
use Rattle.ssz_schema.specs.Sizes.{nesting}
use Rattle.ssz_schema.specs.Types.{SszType}
use Rattle.ssz_value.specs.Values.{SszValue, Fits}
use Rattle.ssz_json_text.specs.Text.{json_of}
use Rattle.ssz_value_json.specs.Steps.{Walked}
use Rattle.ssz_value_json.specs.Walk.{json_walk}
use Rattle.ssz_value_json.proofs.ReadBack.{ReadsBack}

-- the walk over these parts gives this
abbrev pub WalksTo : {A : Type 0} → (ℕ → Walked A) → A → Type 0
WalksTo walked x = (n : ℕ) → (m : ℕ) × (walked n ≡ Ok (x, m))

pub record BackLaw (t : SszType) : Type 0 where
  pub back : (v : SszValue) → Fits t v → ReadsBack (nesting t) (json_of t v)
  pub walked : (v : SszValue) → Fits t v → WalksTo (λ n. json_walk t n (json_of t v)) v

pub deeper : (n m : ℕ) (d : Data) → n ≤ m → ReadsBack n d → ReadsBack m d
deeper n m d more h = record {
  back = h.back;
  numbers = h.numbers;
  shallow = omega (arith, h.shallow);
  utf8 = h.utf8;
}
