-- Paths and indices as they are written.
use Rattle.std.specs.Prelude.{ℕ, ◌^◌, ◌==◌, nat_eq, if◌then◌else◌, List, [], ◌∷◌, drop, Option, Some, None, option_map, codes, bytes_eq}
use Rattle.std.specs.List.{slice_split, starts_with}
pub use Rattle.ssz_bind.specs.Options.{◌>>=◌}
use Rattle.ssz_decimal.specs.Decimal.{number_below}
use Rattle.ssz_schema.specs.declared.path.PathStep.{PathStep}
use Rattle.ssz_schema.specs.declared.path.PathStep.TheVariants.{Field, Index as Element, Len, Selector, Option as Chosen}
use Rattle.ssz_schema.specs.Names.{is_name}
use Rattle.ssz_line.specs.declared.index.Index.{Index}
use Rattle.ssz_line.specs.declared.index.Index.TheVariants.{Number, Path}
use Rattle.ssz_line.specs.Single.{Reader, selector}

-- what each word reads as, if all read as something
abbrev pub read_all : {A : Type 0} → Reader A → List (List ℕ) → Option (List A)
read_all read [] = Some []
read_all read (word ∷ words) = do
  x ← read word
  xs ← read_all read words
  Some (x ∷ xs)

-- `#len`, `#sel`, `#` and the number of an option, a field's name, or the number of an element
abbrev pub path_step : Reader PathStep
path_step text =
    if bytes_eq text (codes "#len") then Some Len
    else if bytes_eq text (codes "#sel") then Some Selector
    else if starts_with nat_eq text (codes "#") then option_map Chosen (selector (drop 1 text))
    else if is_name text then Some (Field text)
    else option_map Element (number_below (2 ^ 64) text)

-- what stands between slashes
abbrev pub path_parts : List ℕ → List (List ℕ)
path_parts text = slice_split (λ b. b == 47) text

-- `/` alone, the whole value; or one step or more, each after a `/`
abbrev pub path : Reader (List PathStep)
path word =
    if bytes_eq word (codes "/") then Some []
    else if starts_with nat_eq word (codes "/") then read_all path_step (path_parts (drop 1 word))
    else None

-- a generalized index, a number below 2 ^ 128; or a path
abbrev pub index : Reader Index
index word =
    if starts_with nat_eq word (codes "/") then option_map Path (path word)
    else option_map Number (number_below (2 ^ 128) word)
