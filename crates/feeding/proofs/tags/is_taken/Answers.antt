-- `is_taken` meets its contract: a line of another kind has no tag. Assumes nothing.
use mathlib.Core.Path.{sym, ◌∙◌}
use Rattle.shapes.specs.Line.{is_used}
use Rattle.feeding.proofs.tags.is_taken.Goals as goal

pub returns-else-is_tag : goal.returns-else-is_tag
unfolding is_used
returns-else-is_tag c = rw (sym c.is_tag.ensures ∙ c.if-is_tag.false) c.if-is_tag.false
