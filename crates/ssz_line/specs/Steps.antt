-- The steps of a path, however they are kept.
use Rattle.std.specs.Prelude.{List, [], IsSome, unwrap_or}
use Rattle.ssz_schema.specs.declared.path.PathStep.{PathStep}
use Rattle.ssz_line.specs.Paths.{path_step, path_parts, read_all}
use Rattle.ssz_line.specs.declared.steps.Form.{Form}
use Rattle.ssz_line.specs.declared.steps.Form.TheVariants.{Text, Listed}

-- the steps that are kept: those that the text spells, or those of the list
unfoldable pub steps_of : Form → List PathStep
steps_of (Text text) = unwrap_or (read_all path_step (path_parts text.items)) []
steps_of (Listed steps) = steps.items

-- a text that is kept spells steps
unfoldable pub IsReadablePath : Form → Type 0
IsReadablePath (Text text) = IsSome (read_all path_step (path_parts text.items))
IsReadablePath (Listed steps) = Unit {0}
