-- `has_short` meets its contract: after i turns it is told of the first i. Assumes nothing.
use mathlib.Core.Path.{◌≡◌}
use lib.ListN.{get_or}
use Rattle.lists.specs.Lowest.{some}
use Rattle.contour.specs.Writer.{is_short}
use Rattle.contour.proofs.has_short.Given as goal

abbrev pub invariant-loop-r : goal.invariant-loop-r
invariant-loop-r l = l.short ≡ some (λ j. is_short (get_or l.records j 0)) l.r-index
