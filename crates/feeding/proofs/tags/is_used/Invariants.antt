-- `is_used` meets its contract: after i turns it is told of the first i of the tags that it looks at. Assumes nothing.
use mathlib.Core.Path.{◌≡◌}
use lib.ListN.{take}
use Rattle.shapes.specs.Line.{is_used}
use Rattle.feeding.proofs.tags.is_used.Given as goal

abbrev pub invariant-loop-word : goal.invariant-loop-word
invariant-loop-word l = l.used ≡ is_used (take l.word-index l.word-items) l.tag
