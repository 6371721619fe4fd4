-- A step as the text of a path spells it.
use Rattle.ssz_schema.specs.declared.path.PathStep.{PathStep}
use Rattle.ssz_schema.specs.declared.path.PathStep.TheVariants as step
use Rattle.ssz_line.specs.declared.spelled.SpelledStep.{SpelledStep}
use Rattle.ssz_line.specs.declared.spelled.SpelledStep.TheVariants as spelled

-- the step that is spelled
abbrev pub meant : SpelledStep → PathStep
meant (spelled.Field name) = step.Field name.now
meant (spelled.Index i) = step.Index i
meant spelled.Len = step.Len
meant spelled.Selector = step.Selector
meant (spelled.Option k) = step.Option k
