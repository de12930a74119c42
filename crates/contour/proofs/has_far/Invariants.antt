-- `has_far` meets its contract: after i turns it is told of the first i. Assumes nothing.
use mathlib.Core.Path.{◌≡◌}
use lib.ListN.{get_or}
use Rattle.lists.specs.Lowest.{some}
use lib.Dec.{ltb}
use Rattle.formats.specs.Contours.{most_spot}
use Rattle.contour.proofs.has_far.Given as goal

abbrev pub invariant-loop-v : goal.invariant-loop-v
invariant-loop-v l = l.far ≡ some (λ j. ltb most_spot (get_or l.list j 0)) l.v-index
